-- The laws of marks.
--
-- Above, cite `inside_all` and `all_unless_end` on the points of a mark, `proper_swapped` and `no_shared_end` on proper crossings.
use Rattle.std.proofs.Common.{◌≡◌, ◌≢◌, ℕ, ◌<◌, Bool, true, false, cond, ◌||◌, ℤ, pos, Option, Some, None, List, [], ◌∷◌, ◌++◌, ◌⊎◌, inl, inr, ⊎_elim, refl, sym, ap, ◌∙◌, arith}
use Rattle.std.specs.Prelude.{All, unsigned_abs}
use Rattle.std.specs.Ordering.{is_eq}
use Rattle.std.proofs.lemmas.Bool.{false≢true}
use Rattle.std.proofs.lemmas.List.Elements.{All-cons, filter_passes}
use Rattle.plane_base.specs.Plane.{Point, Edge, turn, point_order}
use Rattle.plane_base.specs.Segments.{strictly_inside, ends_inside, opposite, cross_properly, on_one_line}
use Rattle.plane_base.specs.Crossing.{Meeting, pure, target_end, other_end, snapped, crossed, crossing, rounded, rounded_along, is_whole, least_of, overlaid, at_end, touching, Marks, no_marks, unless_end, laid_by}
use Rattle.plane_base.proofs.Facts.Points.Turns.{turn_cyclic, turn_start_twice, turn_end_twice}
use Rattle.plane_base.proofs.Facts.Crossings.Tests.{both_true, one_true, opposite_apart}
use Rattle.plane_base.proofs.Facts.Points.Orders.{point_equal, point_itself, is_equal}

-- ---- short lists

pub all_none : (P : Point → Type 0) → All P []
all_none P k d h = absurd (omega arith)

pub all_one : (P : Point → Type 0) (p : Point) → P p → All P (p ∷ [])
all_one P p h = All-cons P p [] h (all_none P)

pub all_first : (P : Point → Type 0) (p : Point) (ps : List Point) → All P (p ∷ ps) → P p
all_first P p ps h = h 0 p (omega arith)

all_mapped : (P Q : Point → Type 0) (ps : List Point) → ((p : Point) → P p → Q p) → All P ps → All Q ps
all_mapped P Q ps f h k d l = f _ (h k d l)

-- ---- proper crossings share no end

module _ (s t : Edge) (proper : cross_properly s t ≡ true) where
  abbrev ends_of_other : (opposite (turn s.a s.b t.a) (turn s.a s.b t.b) ≡ true) × (opposite (turn t.a t.b s.a) (turn t.a t.b s.b) ≡ true)
  ends_of_other = both_true (opposite (turn s.a s.b t.a) (turn s.a s.b t.b)) (opposite (turn t.a t.b s.a) (turn t.a t.b s.b)) proper

  pub proper_swapped : cross_properly t s ≡ true
  proper_swapped = rw (ends_of_other.0, ends_of_other.1) refl

  own_end : (p : Point) → (p ≡ s.a) ⊎ (p ≡ s.b) → turn s.a s.b p ≡ pos 0
  own_end p h =
      ⊎_elim
      (λ e. rw e (turn_cyclic s.a s.b s.a ∙ (turn_cyclic s.b s.a s.a ∙ turn_start_twice s.a s.b)))
      (λ e. rw e (turn_end_twice s.a s.b)) h

  pub no_shared_end : (p : Point) → (p ≡ s.a) ⊎ (p ≡ s.b) → (p ≡ t.a) ⊎ (p ≡ t.b) → ⊥
  no_shared_end p h k =
      let apart = opposite_apart (turn s.a s.b t.a) (turn s.a s.b t.b) ends_of_other.0 in
      ⊎_elim (λ e. none (turn s.a s.b t.a) apart.0 (rw e at (own_end p h))) (λ e. none (turn s.a s.b t.b) apart.1 (rw e at (own_end p h))) k
    where
      none : (x : ℤ) → 0 < unsigned_abs x → x ≡ pos 0 → ⊥
      none x h e = let g : 0 < unsigned_abs (pos 0) = rw e at h in omega arith

-- ---- marks at a point that isn't an own end

pub end_tells : (s : Edge) (p : Point) → is_eq (point_order p s.a) || is_eq (point_order p s.b) ≡ true → (p ≡ s.a) ⊎ (p ≡ s.b)
end_tells s p e = ⊎_elim (λ h. inl (point_equal p s.a (is_equal (point_order p s.a) h))) (λ h. inr (point_equal p s.b (is_equal (point_order p s.b) h))) (one_true (is_eq (point_order p s.a)) (is_eq (point_order p s.b)) e)

not_end_tells : (s : Edge) (p : Point) → is_eq (point_order p s.a) || is_eq (point_order p s.b) ≡ false → (p ≢ s.a) × (p ≢ s.b)
not_end_tells s p e = (λ f. first (is_eq (point_order p s.a)) (is_eq (point_order p s.b)) (rw (f, point_itself s.a) refl) e, λ f. second (is_eq (point_order p s.a)) (is_eq (point_order p s.b)) (rw (f, point_itself s.b) refl) e)
  where
    first : (b c : Bool) → b ≡ true → b || c ≡ false → ⊥
    first true c h e = absurd (cc)
    first false c h e = absurd (cc)

    second : (b c : Bool) → c ≡ true → b || c ≡ false → ⊥
    second true c h e = absurd (cc)
    second false c h e = absurd (false≢true (sym e ∙ h))

unless_end_none : (s : Edge) (p : Point) → unless_end s p ≡ [] → (p ≡ s.a) ⊎ (p ≡ s.b)
unless_end_none s p e = by (is_eq (point_order p s.a) || is_eq (point_order p s.b)) refl e
  where
    by : (b : Bool) → is_eq (point_order p s.a) || is_eq (point_order p s.b) ≡ b → cond b [] (p ∷ []) ≡ [] → (p ≡ s.a) ⊎ (p ≡ s.b)
    by true f e = end_tells s p f
    by false f e = absurd (cc)

pub all_unless_end : (P : Point → Type 0) (s : Edge) (p : Point) → ((p ≢ s.a) × (p ≢ s.b) → P p) → All P (unless_end s p)
all_unless_end P s p h = by (is_eq (point_order p s.a) || is_eq (point_order p s.b)) refl
  where
    by : (b : Bool) → is_eq (point_order p s.a) || is_eq (point_order p s.b) ≡ b → All P (cond b [] (p ∷ []))
    by true f = all_none P
    by false f = all_one P p (h (not_end_tells s p f))

-- ---- what no proper crossing lays

module _ (P Q : Point → Type 0) (s t : Edge) (on_first : All P (ends_inside s t)) (on_second : All Q (ends_inside t s)) where
  touching_by : (b : Bool) (o : Option Point) (xs ys : List Point) → All P xs → All Q ys → All P (laid_by s t (cond b (overlaid o) (at_end xs ys))).first × All Q (laid_by s t (cond b (overlaid o) (at_end xs ys))).second
  touching_by true None xs ys h k = (all_none P, all_none Q)
  touching_by true (Some p) xs ys h k = (on_first, on_second)
  touching_by false o [] [] h k = (all_none P, all_none Q)
  touching_by false o [] (y ∷ ys) h k = (all_none P, all_one Q y (all_first Q y ys k))
  touching_by false o (x ∷ xs) ys h k = (all_one P x (all_first P x xs h), all_none Q)

  pub touching_lays : All P (laid_by s t (touching s t)).first × All Q (laid_by s t (touching s t)).second
  touching_lays = touching_by (on_one_line s t) (least_of (ends_inside s t ++ ends_inside t s)) (ends_inside s t) (ends_inside t s) on_first on_second

pub inside_all : (P : Point → Type 0) (s t : Edge) → ((p : Point) → strictly_inside p s ≡ true → P p) → All P (ends_inside s t)
inside_all P s t f = all_mapped (λ p. strictly_inside p s ≡ true) P (ends_inside s t) f (filter_passes (λ p. strictly_inside p s) (t.a ∷ t.b ∷ []))

-- ---- what a proper crossing lays

module _ (s t : Edge) (proper : cross_properly s t ≡ true) where
  pub pure_marks : (p : Point) → laid_by s t (pure p) ≢ no_marks
  pure_marks p e =
      no_shared_end s t proper p
      (unless_end_none s p (ap (λ (m : Marks). m.first) e))
      (unless_end_none t p (ap (λ (m : Marks). m.second) e))

pub target_end_marks : (s t : Edge) (p : Point) → laid_by s t (target_end p) ≢ no_marks
target_end_marks s t p e = let f : p ∷ [] ≡ [] = ap (λ (m : Marks). m.second) e in absurd (cc)

pub other_end_marks : (s t : Edge) (p : Point) → laid_by s t (other_end p) ≢ no_marks
other_end_marks s t p e = let f : p ∷ [] ≡ [] = ap (λ (m : Marks). m.first) e in absurd (cc)

-- each answer to a proper crossing: at the rounded point, or at the nearer end of the one or of the other
pub crossed_by : (P : Meeting → Type 0) (s t : Edge) (radius : ℕ) → P (pure (rounded (crossing s t))) → P (pure (rounded_along s (crossing s t))) → ((p : Point) → (p ≡ s.a) ⊎ (p ≡ s.b) → P (target_end p)) → ((p : Point) → (p ≡ t.a) ⊎ (p ≡ t.b) → P (other_end p)) → P (crossed s t radius)
crossed_by P s t radius whole along own foreign = by (is_whole (crossing s t))
  where
    r : Point
    r = rounded_along s (crossing s t)

    nearer_by : (s : Edge) (b : Bool) → (cond b s.b s.a ≡ s.a) ⊎ (cond b s.b s.a ≡ s.b)
    nearer_by s true = inr refl
    nearer_by s false = inl refl

    snapped_by : (b c d : Bool) (e f : Point) → (e ≡ s.a) ⊎ (e ≡ s.b) → (f ≡ t.a) ⊎ (f ≡ t.b) → P (cond b (cond c (other_end f) (pure (rounded_along s (crossing s t)))) (cond d (target_end e) (pure (rounded_along s (crossing s t)))))
    snapped_by true true d e f h k = foreign f k
    snapped_by true false d e f h k = along
    snapped_by false c true e f h k = own e h
    snapped_by false c false e f h k = along

    by : (b : Bool) → P (cond b (pure (rounded (crossing s t))) (snapped s t radius (rounded_along s (crossing s t))))
    by true = whole
    by false = snapped_by _ _ _ _ _ (nearer_by s _) (nearer_by t _)

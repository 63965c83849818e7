-- The marks along an edge are those that were laid, and no other rising list has them.
use Rattle.std.proofs.Common.{◌≡◌, ◌↔◌, ℕ, zero, suc, ◌<◌, Bool, true, false, cond, List, [], ◌∷◌, ◌++◌, length, get_or, Contains, All, ◌⊎◌, inl, inr, int_lt, int_cmp, Ordering, Less, Equal, Greater, refl, sym, ap, ap₂, arith}
use Rattle.std.proofs.lemmas.List.Elements.{All-nil, All-cons, All-weaker, All-contains, All-contains_itself}
use Rattle.plane_base.specs.Plane.{Point, Edge}
use Rattle.plane_base.proofs.Facts.Maps.Normal.{AllPairs-head, AllPairs-tail}
use Rattle.plane_base.proofs.Facts.Points.Orders.{equal_then, int_equal, less_from_greater, less_apart}
use Rattle.segment_split.specs.AlongLaws.{RisesAlong, MarksStandAlong}
use Rattle.segment_split.specs.Paths.{mark_order, with_mark, along}
use Rattle.segment_split.proofs.Spread.StaircaseMarks.{mark_total, with_mark_by, along_all, along_rising}

-- ---- membership

module _ {X : Type 0} where
  contains_cases : (x : X) (xs : List X) (y : X) → Contains (x ∷ xs) y → (x ≡ y) ⊎ Contains xs y
  contains_cases x xs y h = by h.0 h.1 h.2
    where
      by : (k : ℕ) → k < length (x ∷ xs) → get_or (x ∷ xs) k y ≡ y → (x ≡ y) ⊎ Contains xs y
      by zero l e = inl e
      by (suc k) l e = inr (k, omega arith, e)

  contains_head : (x : X) (xs : List X) → Contains (x ∷ xs) x
  contains_head x xs = (0, omega arith, refl)

  contains_tail : (x : X) (xs : List X) (y : X) → Contains xs y → Contains (x ∷ xs) y
  contains_tail x xs y h = (suc h.0, omega (arith, h.1), h.2)

  contains_none : (y : X) → Contains [] y → ⊥
  contains_none y h = let l : h.0 < 0 = h.1 in absurd (omega arith)

pub mark_equal : (s : Edge) (p r : Point) → mark_order s p r ≡ Equal → p ≡ r
mark_equal s p r e =
    let h = equal_then (int_cmp p.x r.x) (cond (int_lt s.b.y s.a.y) (int_cmp r.y p.y) (int_cmp p.y r.y)) e in
    let x = int_equal p.x r.x h.0 in
    let y = by (int_lt s.b.y s.a.y) h.1 in
    λ i. record { x = x i; y = y i }
  where
    by : (falls : Bool) → cond falls (int_cmp r.y p.y) (int_cmp p.y r.y) ≡ Equal → p.y ≡ r.y
    by true f = sym (int_equal r.y p.y f)
    by false f = int_equal p.y r.y f

module _ (s : Edge) where
  with_mark_new : (p : Point) (ps : List Point) → Contains (with_mark s p ps) p
  with_mark_new p [] = contains_head p []
  with_mark_new p (r ∷ rest) = by (mark_order s p r) refl (with_mark_new p rest)
    where
      level : p ≡ r → Contains (r ∷ rest) p
      level e = (0, omega arith, sym e)

      by : (o : Ordering) → mark_order s p r ≡ o → Contains (with_mark s p rest) p → Contains (with_mark_by s o p r rest) p
      by Less e h = contains_head p (r ∷ rest)
      by Equal e h = level (mark_equal s p r e)
      by Greater e h = contains_tail r (with_mark s p rest) p h

  with_mark_kept : (p : Point) (ps : List Point) → All (Contains (with_mark s p ps)) ps
  with_mark_kept p [] = All-nil (Contains (with_mark s p []))
  with_mark_kept p (r ∷ rest) = by (mark_order s p r) (with_mark_kept p rest)
    where
      by : (o : Ordering) → All (Contains (with_mark s p rest)) rest → All (Contains (with_mark_by s o p r rest)) (r ∷ rest)
      by Less h = All-weaker (Contains (r ∷ rest)) (Contains (p ∷ r ∷ rest)) (λ q k. contains_tail p (r ∷ rest) q k) (r ∷ rest) (All-contains_itself (r ∷ rest))
      by Equal h = All-contains_itself (r ∷ rest)
      by Greater h =
          All-cons (Contains (r ∷ with_mark s p rest)) r rest (contains_head r (with_mark s p rest))
          (All-weaker (Contains (with_mark s p rest)) (Contains (r ∷ with_mark s p rest)) (λ q k. contains_tail r (with_mark s p rest) q k) rest h)

  along_keeps : (ps : List Point) → All (Contains (along s ps)) ps
  along_keeps [] = All-nil (Contains [])
  along_keeps (p ∷ ps) =
      All-cons (Contains (along s (p ∷ ps))) p ps (with_mark_new p (along s ps))
      (All-weaker (Contains (along s ps)) (Contains (along s (p ∷ ps))) (λ q h. All-contains (Contains (along s (p ∷ ps))) (along s ps) q (with_mark_kept p (along s ps)) h) ps (along_keeps ps))

  along_members : (ps : List Point) (p : Point) → Contains (along s ps) p ↔ Contains ps p
  along_members ps p = (All-contains (Contains ps) (along s ps) p (along_all s (Contains ps) ps (All-contains_itself ps)), All-contains (Contains (along s ps)) ps p (along_keeps ps))

  -- ---- one rising list

  abbrev HaveSame : List Point → List Point → Type 0
  HaveSame ps rs = (p : Point) → Contains ps p → Contains rs p

  -- what stands before the head of a rising list isn't in it
  apart_before : (x y : Point) (ys : List Point) → RisesAlong s (y ∷ ys) → mark_order s x y ≡ Less → Contains (y ∷ ys) x → ⊥
  apart_before x y ys rising l h = by (contains_cases y ys x h)
    where
      by : (y ≡ x) ⊎ Contains ys x → ⊥
      by (inl e) = less_apart (mark_total s) x y l (sym e)
      by (inr k) =
          less_apart (mark_total s) x x
          ((mark_total s).trans x y x l (All-contains (λ r. mark_order s y r ≡ Less) ys x (AllPairs-head (λ p r. mark_order s p r ≡ Less) y ys rising) k)) refl

  -- the head isn't among the rest
  rest_same : (x : Point) (xs ys : List Point) → RisesAlong s (x ∷ xs) → HaveSame (x ∷ xs) (x ∷ ys) → HaveSame xs ys
  rest_same x xs ys rising same p h = by (contains_cases x ys p (same p (contains_tail x xs p h)))
    where
      by : (x ≡ p) ⊎ Contains ys p → Contains ys p
      by (inr k) = k
      by (inl e) = absurd (less_apart (mark_total s) x p (All-contains (λ r. mark_order s x r ≡ Less) xs p (AllPairs-head (λ p r. mark_order s p r ≡ Less) x xs rising) h) e)

  rising_same : (xs ys : List Point) → RisesAlong s xs → RisesAlong s ys → HaveSame xs ys → HaveSame ys xs → xs ≡ ys
  rising_same [] [] h k f g = refl
  rising_same [] (y ∷ ys) h k f g = absurd (contains_none y (g y (contains_head y ys)))
  rising_same (x ∷ xs) [] h k f g = absurd (contains_none x (f x (contains_head x xs)))
  rising_same (x ∷ xs) (y ∷ ys) h k f g = by (mark_order s x y) refl (rising_same xs ys (AllPairs-tail (λ p r. mark_order s p r ≡ Less) x xs h) (AllPairs-tail (λ p r. mark_order s p r ≡ Less) y ys k))
    where
      level : x ≡ y → (HaveSame xs ys → HaveSame ys xs → xs ≡ ys) → x ∷ xs ≡ y ∷ ys
      level e rest =
          ap₂ (λ z zs. z ∷ zs) e
          (rest (rest_same x xs ys h (λ p m. rw e (f p m))) (rest_same y ys xs k (λ p m. rw (← e) (g p m))))

      by : (o : Ordering) → mark_order s x y ≡ o → (HaveSame xs ys → HaveSame ys xs → xs ≡ ys) → x ∷ xs ≡ y ∷ ys
      by Less e rest = absurd (apart_before x y ys k e (f x (contains_head x xs)))
      by Equal e rest = level (mark_equal s x y e) rest
      by Greater e rest = absurd (apart_before y x xs h (less_from_greater (mark_total s) x y e) (g y (contains_head y ys)))

  along_only : (ps rs : List Point) → RisesAlong s rs → ((p : Point) → Contains rs p ↔ Contains ps p) → along s ps ≡ rs
  along_only ps rs rising same =
      rising_same (along s ps) rs (along_rising s ps) rising (λ p h. (same p).1 ((along_members ps p).0 h)) (λ p h. (along_members ps p).1 ((same p).0 h))

  along_same : (ps rs : List Point) → ((p : Point) → Contains ps p ↔ Contains rs p) → along s ps ≡ along s rs
  along_same ps rs same =
      along_only ps (along s rs) (along_rising s rs) (λ p. ((λ h. (same p).1 ((along_members rs p).0 h)), (λ h. (along_members rs p).1 ((same p).0 h))))

pub marks_stand_along : MarksStandAlong
marks_stand_along = record {
  members = along_members;
  rising = along_rising;
  only = along_only;
  same = λ s ps rs h. ap (λ ms. s.a ∷ (ms ++ (s.b ∷ []))) (along_same s ps rs h);
}

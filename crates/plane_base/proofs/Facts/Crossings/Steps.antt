-- The steps of the crossing solver, over whole numbers.
use Rattle.std.proofs.Common.{◌≡◌, ℕ, ◌<◌, Bool, true, false, cond, not, ◌&&◌, ℤ, pos, negsuc, ◌≤ℤ◌, Option, Some, None, List, [], ◌∷◌, ◌++◌, refl, sym, ap, ap₂, ◌∙◌, arith}
use Rattle.std.specs.Prelude.{int_lt, int_le, unsigned_abs}
use Rattle.std.specs.declared.cmp.Ordering.{Ordering}
use Rattle.std.specs.declared.cmp.Ordering.TheVariants.{Less, Equal, Greater}
use Rattle.std.specs.Ordering.{int_cmp, int_eq, is_lt}
use Rattle.std.proofs.lemmas.Int.{ints}
use Rattle.plane_base.specs.Plane.{Point, Edge, RationalPoint, turn, is_before, HasSize, IsWeight}
use Rattle.plane_base.specs.Segments.{squared_distance, strictly_inside, ends_inside, opposite, cross_properly, on_one_line, parted}
use Rattle.plane_base.specs.Crossing.{Meeting, apart, pure, target_end, other_end, nearer, snapped, lesser, least_of, overlaid, at_end, touching, rounded, rounded_along, is_whole, mean, crossing, crossed, crosses_off_grid, meeting_by, floor}
use Rattle.plane_base.specs.Sides.{IsTurn, AreSides, mean_by, lesser_inside, rounded_by, settled_by}
use Rattle.plane_base.specs.declared.meet.sides.Sides.{Sides}
use Rattle.plane_base.specs.declared.rounding.Rounding.{Rounding}
use Rattle.plane_base.specs.declared.rounding.Rounding.TheVariants.{Near, Nearest}
use Rattle.plane_base.proofs.Facts.Crossings.Tests.{both_true, not_true}

-- the order of two numbers tells whether the first is the lesser
pub less_told : (o : Ordering) (m n : ℤ) → o ≡ int_cmp m n → is_lt o ≡ int_lt m n
less_told o m n e = ap is_lt e ∙ first (int_lt m n) (int_lt n m)
  where
    first : (p q : Bool) → is_lt (cond p Less (cond q Greater Equal)) ≡ p
    first true q = refl
    first false true = refl
    first false false = refl

-- a test of two numbers is that of what they stand for
pub test_told : (x y v w : ℤ) (b c : Bool) → x ≡ v → y ≡ w → b ≡ int_lt x y → b ≡ c → int_lt v w ≡ c
test_told x y v w b c d e f h = sym (ap₂ (λ m n. int_lt m n) d e) ∙ (sym f ∙ h)

-- ---- the nearest end

abbrev snapped_to : ℕ → Point → Point → Point → Bool → Meeting
snapped_to radius p e f b =
    cond b
    (cond (int_le (squared_distance p f) (pos radius)) (other_end f) (pure p))
    (cond (int_le (squared_distance p e) (pos radius)) (target_end e) (pure p))

snapped_is : (s t : Edge) (radius : ℕ) (p e f : Point) (b : Bool) → e ≡ nearer p s → f ≡ nearer p t → int_lt (squared_distance p f) (squared_distance p e) ≡ b → snapped s t radius p ≡ snapped_to radius p e f b
snapped_is s t radius p e f b d h k =
    sym (ap (λ x. snapped_to radius p x (nearer p t) (int_lt (squared_distance p (nearer p t)) (squared_distance p x))) d)
    ∙ (sym (ap (λ y. snapped_to radius p e y (int_lt (squared_distance p y) (squared_distance p e))) h)
    ∙ ap (λ c. snapped_to radius p e f c) k)

pub snapped_other : (s t : Edge) (radius : ℕ) (p e f : Point) → e ≡ nearer p s → f ≡ nearer p t → int_lt (squared_distance p f) (squared_distance p e) ≡ true → snapped s t radius p ≡ cond (int_le (squared_distance p f) (pos radius)) (other_end f) (pure p)
snapped_other s t radius p e f d h k = snapped_is s t radius p e f true d h k

pub snapped_target : (s t : Edge) (radius : ℕ) (p e f : Point) → e ≡ nearer p s → f ≡ nearer p t → int_lt (squared_distance p f) (squared_distance p e) ≡ false → snapped s t radius p ≡ cond (int_le (squared_distance p e) (pos radius)) (target_end e) (pure p)
snapped_target s t radius p e f d h k = snapped_is s t radius p e f false d h k

-- ---- the least of the ends inside

abbrev with_lesser : Bool → Point → Option Point → Option Point
with_lesser b p found = cond b (Some (lesser p found)) found

least_before : (b c : Bool) (p q : Point) (rest : List Point) → least_of (cond b (p ∷ cond c (q ∷ []) []) (cond c (q ∷ []) []) ++ rest) ≡ with_lesser b p (with_lesser c q (least_of rest))
least_before true true p q rest = refl
least_before true false p q rest = refl
least_before false true p q rest = refl
least_before false false p q rest = refl

least_last : (b c : Bool) (p q : Point) → least_of (cond b (p ∷ cond c (q ∷ []) []) (cond c (q ∷ []) [])) ≡ with_lesser b p (with_lesser c q None)
least_last true true p q = refl
least_last true false p q = refl
least_last false true p q = refl
least_last false false p q = refl

pub least_inside : (s t : Edge) → least_of (ends_inside s t ++ ends_inside t s) ≡ lesser_inside t.a s (lesser_inside t.b s (lesser_inside s.a t (lesser_inside s.b t None)))
least_inside s t =
    least_before (strictly_inside t.a s) (strictly_inside t.b s) t.a t.b (ends_inside t s)
    ∙ ap (λ found. lesser_inside t.a s (lesser_inside t.b s found)) (least_last (strictly_inside s.a t) (strictly_inside s.b t) s.a s.b)

-- what was found stays, where it comes first
pub lesser_kept : (p q : Point) (s : Edge) (found : Option Point) → strictly_inside p s ≡ true → found ≡ Some q → is_before q p ≡ true → Some q ≡ lesser_inside p s found
lesser_kept p q s found h e f =
    sym (ap (λ b. with_lesser b p found) h ∙ (ap (λ o. Some (lesser p o)) e ∙ ap (λ b. Some (cond b q p)) f))

-- ---- weights

-- a turn has a size, and that is at most what a turn may be
pub size_allowed : (most limit n : ℤ) → most ≤ℤ limit → HasSize most n → HasSize limit n
size_allowed most limit n l h = (omega (arith, ints, l, h.0), omega (arith, ints, l, h.1))

size_fits : (most n : ℤ) → HasSize most n → pos (unsigned_abs n) ≤ℤ most
size_fits most (pos n) h = h.1
size_fits most (negsuc n) h = omega (arith, ints, h.0)

-- the size of a turn that isn't 0
pub weight_fits : (most number value weight : ℤ) → IsTurn most number value → 0 < unsigned_abs value → weight ≡ pos (unsigned_abs number) → IsWeight most weight
weight_fits most number value weight turned some e =
    let same : unsigned_abs number ≡ unsigned_abs value = ap unsigned_abs turned.0 in
    let above : 0 < unsigned_abs number = omega (arith, same, some) in
    rw e (omega (arith, ints, above), size_fits most number turned.1)

-- the sizes of the turns of its ends weigh the crossing
pub weights_tell : (s t : Edge) (m n x y : ℤ) → m ≡ turn t.a t.b s.a → n ≡ turn t.a t.b s.b → x ≡ pos (unsigned_abs m) → y ≡ pos (unsigned_abs n) → mean_by s x y ≡ crossing s t
weights_tell s t m n x y d e f h = ap₂ (mean s) (ap unsigned_abs f ∙ ap unsigned_abs d) (ap unsigned_abs h ∙ ap unsigned_abs e)

-- ---- proper crossings

-- the test of the four turns
pub properly : {W : Type 0} (number : W → ℤ) (most : ℤ) (s t : Edge) (sides own : Sides W) (b c : Bool) → AreSides number most s t sides → AreSides number most t s own
    → b ≡ (opposite (number sides.a) (number sides.b) && opposite (number own.a) (number own.b)) → b ≡ c → cross_properly s t ≡ c
properly number most s t sides own b c are are_own e f = sym (rw (are.a.0, are.b.0, are_own.a.0, are_own.b.0) at e) ∙ f

-- parted segments don't cross off the grid
pub parted_on_grid : (s t : Edge) → parted s t ≡ true → false ≡ crosses_off_grid s t
parted_on_grid s t h = sym (ap (λ b. b && not (is_whole (crossing s t))) (not_true (cross_properly s t) (both_true (not (cross_properly s t)) _ h).0))

-- segments that don't cross properly do not either
pub off_grid_not : (s t : Edge) → cross_properly s t ≡ false → false ≡ crosses_off_grid s t
off_grid_not s t h = sym (ap (λ d. d && not (is_whole (crossing s t))) h)

abbrev crossed_at : Edge → Edge → ℕ → RationalPoint → Bool → Meeting
crossed_at s t radius m b = cond b (pure (rounded m)) (snapped s t radius (rounded_along s m))

early_proper : (s t : Edge) (radius : ℕ) (m : RationalPoint) (b : Bool) → cross_properly s t ≡ true → m ≡ crossing s t → is_whole m ≡ b → crossed_at s t radius m b ≡ meeting_by (Near radius) s t
early_proper s t radius m b h e f =
    sym (ap (crossed_at s t radius m) f)
    ∙ (ap (λ n. crossed_at s t radius n (is_whole n)) e ∙ sym (ap (λ d. cond d (crossed s t radius) (touching s t)) h))

late_proper : (s t : Edge) (m : RationalPoint) → cross_properly s t ≡ true → m ≡ crossing s t → pure (rounded m) ≡ meeting_by Nearest s t
late_proper s t m h e = ap (λ n. pure (rounded n)) e ∙ sym (ap (λ d. cond d (pure (rounded (crossing s t))) (touching s t)) h)

-- a whole crossing
pub crossed_whole : (rounding : Rounding) (s t : Edge) (p : Point) (m : RationalPoint) → cross_properly s t ≡ true → m ≡ crossing s t → is_whole m ≡ true → p ≡ rounded m → pure p ≡ meeting_by rounding s t
crossed_whole (Near radius) s t p m h e f k = ap pure k ∙ early_proper s t radius m true h e f
crossed_whole Nearest s t p m h e f k = ap pure k ∙ late_proper s t m h e

-- one that isn't whole
pub crossed_off : (rounding : Rounding) (s t : Edge) (p : Point) (m : RationalPoint) → cross_properly s t ≡ true → m ≡ crossing s t → is_whole m ≡ false → p ≡ rounded_by rounding s m → settled_by rounding s t p ≡ meeting_by rounding s t
crossed_off (Near radius) s t p m h e f k = ap (snapped s t radius) k ∙ early_proper s t radius m false h e f
crossed_off Nearest s t p m h e f k = ap pure k ∙ late_proper s t m h e

pub crossed_off_grid : (s t : Edge) (m : RationalPoint) (b : Bool) → cross_properly s t ≡ true → m ≡ crossing s t → is_whole m ≡ b → not b ≡ crosses_off_grid s t
crossed_off_grid s t m b h e f = ap not (sym f ∙ ap is_whole e) ∙ sym (ap (λ d. d && not (is_whole (crossing s t))) h)

-- what doesn't cross properly
pub met_touching : (rounding : Rounding) (s t : Edge) → cross_properly s t ≡ false → touching s t ≡ meeting_by rounding s t
met_touching (Near radius) s t h = sym (ap (λ d. cond d (crossed s t radius) (touching s t)) h)
met_touching Nearest s t h = sym (ap (λ d. cond d (pure (rounded (crossing s t))) (touching s t)) h)

-- the end that is nearer
pub nearer_is : (p : Point) (s : Edge) (x y : ℤ) (b c : Bool) → x ≡ squared_distance p s.b → y ≡ squared_distance p s.a → b ≡ int_lt x y → b ≡ c → cond c s.b s.a ≡ nearer p s
nearer_is p s x y b c d e f h = sym (ap (λ z. cond z s.b s.a) (test_told x y _ _ b c d e f h))

-- a distance held against a radius
pub radius_told : (x v : ℤ) (n : ℕ) (b c : Bool) → x ≡ v → b ≡ int_le x (pos n) → b ≡ c → int_le v (pos n) ≡ c
radius_told x v n b c e f h = sym (ap (λ z. int_le z (pos n)) e) ∙ (sym f ∙ h)

-- ---- rounding along a segment

abbrev along : Edge → RationalPoint → Bool → Bool → Point
along s m b c =
    cond b (record { x = floor m.x m.q; y = s.a.y }) (cond c (record { x = s.a.x; y = floor m.y m.q }) (rounded m))

along_is : (s : Edge) (m : RationalPoint) (b c : Bool) → b ≡ int_eq s.a.y s.b.y → c ≡ int_eq s.a.x s.b.x → along s m b c ≡ rounded_along s m
along_is s m b c e f = ap₂ (along s m) e f

-- along a horizontal one
pub along_horizontal : (s : Edge) (m : RationalPoint) (x y : ℤ) (b : Bool) → b ≡ int_eq s.a.y s.b.y → b ≡ true → x ≡ floor m.x m.q → y ≡ s.a.y → record { x = x; y = y } ≡ rounded_along s m
along_horizontal s m x y b e f h k = ap₂ (λ v w. record { x = v; y = w }) h k ∙ along_is s m true (int_eq s.a.x s.b.x) (sym f ∙ e) refl

-- along a vertical one
pub along_vertical : (s : Edge) (m : RationalPoint) (x y : ℤ) (b c : Bool) → b ≡ int_eq s.a.y s.b.y → b ≡ false → c ≡ int_eq s.a.x s.b.x → c ≡ true → x ≡ s.a.x → y ≡ floor m.y m.q → record { x = x; y = y } ≡ rounded_along s m
along_vertical s m x y b c e f d i h k = ap₂ (λ v w. record { x = v; y = w }) h k ∙ along_is s m false true (sym f ∙ e) (sym i ∙ d)

-- along any other
pub along_other : (s : Edge) (m : RationalPoint) (p : Point) (b c : Bool) → b ≡ int_eq s.a.y s.b.y → b ≡ false → c ≡ int_eq s.a.x s.b.x → c ≡ false → p ≡ rounded m → p ≡ rounded_along s m
along_other s m p b c e f d i h = h ∙ along_is s m false false (sym f ∙ e) (sym i ∙ d)

-- ---- points inside

-- a point on the line of the segment
pub inside_on_line : (p : Point) (s : Edge) (b c : Bool) → pos 0 ≡ turn s.a s.b p → b ≡ is_before s.a p → c ≡ is_before p s.b → (b && c) ≡ strictly_inside p s
inside_on_line p s b c on e f =
    ap₂ (λ x y. x && y) e f ∙ ap (λ t. int_eq t (pos 0) && (is_before s.a p && is_before p s.b)) on

-- a point off it
pub outside_off_line : (p : Point) (s : Edge) (number : ℤ) (b : Bool) → number ≡ turn s.a s.b p → b ≡ int_eq number (pos 0) → b ≡ false → false ≡ strictly_inside p s
outside_off_line p s number b e f h =
    ap (λ x. x && (is_before s.a p && is_before p s.b)) (sym h ∙ (f ∙ ap (λ t. int_eq t (pos 0)) e))

-- ---- segments that don't cross properly

-- the test for one line
pub on_line : {W : Type 0} (number : W → ℤ) (most : ℤ) (s t : Edge) (sides own : Sides W) (b c : Bool) → AreSides number most s t sides → AreSides number most t s own
    → b ≡ ((int_eq (number sides.a) (pos 0) && int_eq (number sides.b) (pos 0)) && (int_eq (number own.a) (pos 0) && int_eq (number own.b) (pos 0))) → b ≡ c → on_one_line s t ≡ c
on_line number most s t sides own b c are are_own e f = sym (rw (are.a.0, are.b.0, are_own.a.0, are_own.b.0) at e) ∙ f

abbrev touched : Edge → Edge → Bool → Bool → Bool → Bool → Bool → Meeting
touched s t l a b p q =
    cond l (overlaid (least_of (ends_inside s t ++ ends_inside t s)))
    (at_end (cond a (t.a ∷ cond b (t.b ∷ []) []) (cond b (t.b ∷ []) [])) (cond p (s.a ∷ cond q (s.b ∷ []) []) (cond q (s.b ∷ []) [])))

touched_is : (s t : Edge) (l a b p q : Bool) → on_one_line s t ≡ l → strictly_inside t.a s ≡ a → strictly_inside t.b s ≡ b → strictly_inside s.a t ≡ p → strictly_inside s.b t ≡ q → touched s t l a b p q ≡ touching s t
touched_is s t l a b p q d e f h k =
    sym (ap (λ x. touched s t x (strictly_inside t.a s) (strictly_inside t.b s) (strictly_inside s.a t) (strictly_inside s.b t)) d
    ∙ (ap (λ x. touched s t l x (strictly_inside t.b s) (strictly_inside s.a t) (strictly_inside s.b t)) e
    ∙ (ap (λ x. touched s t l a x (strictly_inside s.a t) (strictly_inside s.b t)) f
    ∙ (ap (λ x. touched s t l a b x (strictly_inside s.b t)) h
    ∙ ap (touched s t l a b p) k))))

pub touching_overlaid : (s t : Edge) → on_one_line s t ≡ true → overlaid (least_of (ends_inside s t ++ ends_inside t s)) ≡ touching s t
touching_overlaid s t d = touched_is s t true _ _ _ _ d refl refl refl refl

pub touching_first : (s t : Edge) → on_one_line s t ≡ false → strictly_inside t.a s ≡ true → other_end t.a ≡ touching s t
touching_first s t d e = touched_is s t false true _ _ _ d e refl refl refl

pub touching_second : (s t : Edge) → on_one_line s t ≡ false → strictly_inside t.a s ≡ false → strictly_inside t.b s ≡ true → other_end t.b ≡ touching s t
touching_second s t d e f = touched_is s t false false true _ _ d e f refl refl

pub touching_third : (s t : Edge) → on_one_line s t ≡ false → strictly_inside t.a s ≡ false → strictly_inside t.b s ≡ false → strictly_inside s.a t ≡ true → target_end s.a ≡ touching s t
touching_third s t d e f h = touched_is s t false false false true _ d e f h refl

pub touching_fourth : (s t : Edge) → on_one_line s t ≡ false → strictly_inside t.a s ≡ false → strictly_inside t.b s ≡ false → strictly_inside s.a t ≡ false → strictly_inside s.b t ≡ true → target_end s.b ≡ touching s t
touching_fourth s t d e f h k = touched_is s t false false false false true d e f h k

pub touching_none : (s t : Edge) → on_one_line s t ≡ false → strictly_inside t.a s ≡ false → strictly_inside t.b s ≡ false → strictly_inside s.a t ≡ false → strictly_inside s.b t ≡ false → apart ≡ touching s t
touching_none s t d e f h k = touched_is s t false false false false false d e f h k

-- What the steps of a path and of a cycle add to the winding at a point: the same step taken back takes it
-- away, so a path turned round has the opposite winding, and a cycle has the same winding wherever it begins.
use Rattle.std.proofs.Common.{◌≡◌, Bool, true, false, cond, ◌&&◌, List, [], ◌∷◌, ◌++◌, ℤ, pos, negsuc, ◌+ℤ◌, ◌*ℤ◌, neg_ℤ, refl, sym, ap, ◌∙◌, arith, append_assoc, append-nil}
use Rattle.std.specs.Prelude.{int_le, int_lt, reverse}
use Rattle.std.proofs.lemmas.Int.{ints}
use Rattle.std.proofs.lemmas.List.{reverse-append}
use mathlib.Core.List.{reverse-cons}
use Rattle.plane_base.specs.Plane.{Point, RationalPoint, side, is_below, step_winding}
use Rattle.plane_base.specs.Cycles.{SameCycle}
use Rattle.plane_base.specs.Windings.{path_winding, cycle_winding}

-- ---- one step

-- an edge that lies below the point doesn't do so turned
pub is_below_one_way : (u v : Point) (p : RationalPoint) → is_below u v p ≡ true → is_below v u p ≡ false
is_below_one_way u v p e = apart (pos p.q *ℤ u.x) (pos p.q *ℤ v.x) p.x (int_lt (pos 0) (side u v p)) (int_lt (pos 0) (side v u p)) e
  where
    apart : (a b x : ℤ) (s t : Bool) → (int_le a x && int_lt x b) && s ≡ true → (int_le b x && int_lt x a) && t ≡ false
    apart a b x s t e = grind (arith, ints)

pub step_winding_turned : (u v : Point) (p : RationalPoint) → step_winding u v p ≡ neg_ℤ (step_winding v u p)
step_winding_turned u v p = by (is_below u v p) (is_below v u p) (is_below_one_way u v p)
  where
    by : (s t : Bool) → (s ≡ true → t ≡ false) → cond s (pos 1) (cond t (negsuc 0) (pos 0)) ≡ neg_ℤ (cond t (pos 1) (cond s (negsuc 0) (pos 0)))
    by true true e = absurd (cc (e refl))
    by true false e = refl
    by false true e = refl
    by false false e = refl

pub step_winding_still : (u : Point) (p : RationalPoint) → step_winding u u p ≡ pos 0
step_winding_still u p = own_opposite (step_winding u u p) (step_winding_turned u u p)
  where
    own_opposite : (x : ℤ) → x ≡ neg_ℤ x → x ≡ pos 0
    own_opposite x e = omega (arith, ints)

-- ---- paths

-- a path taken in two parts, that meet at the point u
pub path_winding-append : (front : List Point) (u : Point) (back : List Point) (p : RationalPoint) → path_winding (front ++ u ∷ back) p ≡ path_winding (front ++ u ∷ []) p +ℤ path_winding (u ∷ back) p
path_winding-append [] u back p = none (path_winding (u ∷ back) p)
  where
    none : (x : ℤ) → x ≡ pos 0 +ℤ x
    none x = omega (arith, ints)
path_winding-append (a ∷ []) u back p = one (step_winding a u p) (path_winding (u ∷ back) p)
  where
    one : (s x : ℤ) → s +ℤ x ≡ (s +ℤ pos 0) +ℤ x
    one s x = omega (arith, ints)
path_winding-append (a ∷ b ∷ front) u back p =
    more (step_winding a b p) (path_winding (b ∷ front ++ u ∷ back) p) (path_winding (b ∷ front ++ u ∷ []) p) (path_winding (u ∷ back) p) (path_winding-append (b ∷ front) u back p)
  where
    more : (s x y z : ℤ) → x ≡ y +ℤ z → s +ℤ x ≡ (s +ℤ y) +ℤ z
    more s x y z e = omega (arith, ints)

-- the way back
pub path_winding-reverse : (path : List Point) (p : RationalPoint) → path_winding (reverse path) p ≡ neg_ℤ (path_winding path p)
path_winding-reverse [] p = refl
path_winding-reverse (a ∷ []) p = refl
path_winding-reverse (a ∷ b ∷ path) p =
    ap (λ x. path_winding x p) last_two ∙ back (path_winding (reverse path ++ b ∷ []) p) (step_winding b a p) (step_winding a b p) (path_winding (b ∷ path) p) _ (path_winding-append (reverse path) b (a ∷ []) p) (sym (ap (λ x. path_winding x p) (reverse-cons b path)) ∙ path_winding-reverse (b ∷ path) p) (step_winding_turned b a p)
  where
    last_two : reverse (a ∷ b ∷ path) ≡ reverse path ++ b ∷ a ∷ []
    last_two = reverse-cons a (b ∷ path) ∙ (ap (λ x. x ++ a ∷ []) (reverse-cons b path) ∙ append_assoc (reverse path) (b ∷ []) (a ∷ []))

    back : (x s t y w : ℤ) → w ≡ x +ℤ (s +ℤ pos 0) → x ≡ neg_ℤ y → s ≡ neg_ℤ t → w ≡ neg_ℤ (t +ℤ y)
    back x s t y w e f g = omega (arith, ints)

-- ---- cycles

pub cycle_winding_none : (p : RationalPoint) → cycle_winding [] p ≡ pos 0
cycle_winding_none p = refl

pub cycle_winding_one : (a : Point) (p : RationalPoint) → cycle_winding (a ∷ []) p ≡ pos 0
cycle_winding_one a p = ap (λ x. x +ℤ pos 0) (step_winding_still a p)

-- there and back
pub cycle_winding_two : (a b : Point) (p : RationalPoint) → cycle_winding (a ∷ b ∷ []) p ≡ pos 0
cycle_winding_two a b p = cancel (step_winding a b p) (step_winding b a p) (step_winding_turned a b p)
  where
    cancel : (x y : ℤ) → x ≡ neg_ℤ y → x +ℤ (y +ℤ pos 0) ≡ pos 0
    cancel x y e = omega (arith, ints)

-- a cycle in two parts, from a on and from b on
two_parts : (a : Point) (front : List Point) (b : Point) (back : List Point) (p : RationalPoint) → cycle_winding (a ∷ front ++ b ∷ back) p ≡ path_winding (a ∷ front ++ b ∷ []) p +ℤ path_winding (b ∷ back ++ a ∷ []) p
two_parts a front b back p =
    ap (λ x. path_winding (a ∷ x) p) (append_assoc front (b ∷ back) (a ∷ [])) ∙ path_winding-append (a ∷ front) b (back ++ a ∷ []) p

cycle_winding_rotated : (front back : List Point) (p : RationalPoint) → cycle_winding (front ++ back) p ≡ cycle_winding (back ++ front) p
cycle_winding_rotated [] back p = ap (λ x. cycle_winding x p) (sym (append-nil back))
cycle_winding_rotated (a ∷ front) [] p = ap (λ x. cycle_winding (a ∷ x) p) (append-nil front)
cycle_winding_rotated (a ∷ front) (b ∷ back) p =
    exchanged (path_winding (a ∷ front ++ b ∷ []) p) (path_winding (b ∷ back ++ a ∷ []) p) _ _ (two_parts a front b back p) (two_parts b back a front p)
  where
    exchanged : (x y u v : ℤ) → u ≡ x +ℤ y → v ≡ y +ℤ x → u ≡ v
    exchanged x y u v e f = omega (arith, ints)

-- it doesn't matter where a cycle begins
pub cycle_winding_same : {c d : List Point} → SameCycle c d → (p : RationalPoint) → cycle_winding c p ≡ cycle_winding d p
cycle_winding_same {c} {d} s p =
    ap (λ x. cycle_winding x p) s.first ∙ (cycle_winding_rotated s.front s.back p ∙ sym (ap (λ x. cycle_winding x p) s.second))

pub cycle_winding-reverse : (c : List Point) (p : RationalPoint) → cycle_winding (reverse c) p ≡ neg_ℤ (cycle_winding c p)
cycle_winding-reverse [] p = refl
cycle_winding-reverse (a ∷ rest) p =
    ap (λ x. cycle_winding x p) (reverse-cons a rest) ∙ (cycle_winding_rotated (reverse rest) (a ∷ []) p ∙ (ap (λ x. path_winding x p) way_back ∙ path_winding-reverse (a ∷ rest ++ a ∷ []) p))
  where
    way_back : a ∷ reverse rest ++ a ∷ [] ≡ reverse (a ∷ rest ++ a ∷ [])
    way_back = sym (reverse-append (a ∷ rest) (a ∷ []) ∙ ap (λ x. a ∷ x) (reverse-cons a rest))

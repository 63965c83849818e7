-- Lists that lengths cut, and the ranges where the pieces lie.
use Rattle.std.proofs.Common.{◌≡◌, ℕ, ◌+◌, ◌-◌, ◌≤◌, List, [], ◌∷◌, map, take, drop, sum, All, refl, sym, ap, ap₂, ◌∙◌, arith}
use Rattle.std.proofs.lemmas.List.{drop-drop, take-map, drop-map}
use Rattle.std.proofs.lemmas.List.Elements.{All-nil, All-cons, All-take, All-drop}
use Rattle.std.proofs.lemmas.List.Sums.{sum_by-cons}
use Rattle.plane_base.specs.Flat.{IsRangeOf, AreRangesOf, parts}
use Rattle.polygon_c.specs.Cuts.{cut, ranges_of}

-- The ranges mark out the pieces.
pub parts-ranges_of : {A : Type 0} (ns : List ℕ) (start : ℕ) (xs : List A) → parts xs (ranges_of start ns) ≡ cut ns (drop start xs)
parts-ranges_of [] start xs = refl
parts-ranges_of (n ∷ ns) start xs =
    let wide : (start + n) - start ≡ n = omega arith in
    ap₂ (λ p ps. p ∷ ps) (ap (λ k. take k (drop start xs)) wide)
    (parts-ranges_of ns (start + n) xs ∙ ap (cut ns) (sym (drop-drop n start xs)))

-- They lie in a list that is long enough.
pub AreRangesOf-ranges_of : (ns : List ℕ) (start m : ℕ) → start + sum ns ≤ m → AreRangesOf m (ranges_of start ns)
AreRangesOf-ranges_of [] start m h = All-nil (IsRangeOf m)
AreRangesOf-ranges_of (n ∷ ns) start m h =
    let all : sum (n ∷ ns) ≡ n + sum ns = sum_by-cons (λ x. x) n ns in
    All-cons (IsRangeOf m) (record { start = start; end = start + n }) (ranges_of (start + n) ns) (omega arith, omega arith)
    (AreRangesOf-ranges_of ns (start + n) m (omega arith))

-- What is made of each element is cut alike.
pub map-cut : {A B : Type 0} (f : A → B) (ns : List ℕ) (xs : List A) → map (map f) (cut ns xs) ≡ cut ns (map f xs)
map-cut f [] xs = refl
map-cut f (n ∷ ns) xs =
    ap₂ (λ p ps. p ∷ ps) (sym (take-map f n xs)) (map-cut f ns (drop n xs) ∙ ap (cut ns) (sym (drop-map f n xs)))

-- What holds of all elements holds of those of each piece.
pub All-cut : {A : Type 0} (P : A → Type 0) (ns : List ℕ) (xs : List A) → All P xs → All (All P) (cut ns xs)
All-cut P [] xs h = All-nil (All P)
All-cut P (n ∷ ns) xs h = All-cons (All P) (take n xs) (cut ns (drop n xs)) (All-take P n xs h) (All-cut P ns (drop n xs) (All-drop P n xs h))

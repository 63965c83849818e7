-- Lists that are read from the end.
use Rattle.std.proofs.Common.{◌≡◌, ℕ, ◌+◌, ◌-◌, ◌<◌, ◌≤◌, List, [], ◌∷◌, map, drop, length, get_or, ap, ◌∙◌, arith}
use Rattle.std.proofs.Math.Seq.{drop-length}
use Rattle.plane_base.proofs.Facts.Thinning.Indexes.{dropped_from}

-- what stands from a place on, when all but k places of a list are read
pub next_back : {X : Type 0} (xs : List X) (k i : ℕ) (a : X) → k < length xs → i ≡ length xs - 1 - k → a ≡ get_or xs i a → drop (length xs - (k + 1)) xs ≡ a ∷ drop (length xs - k) xs
next_back xs k i a h e g =
    let here : length xs - (k + 1) ≡ i = omega arith in
    ap (λ n. drop n xs) here ∙ dropped_from xs i (length xs - k) a (omega arith) (omega arith) g

-- the same of what the elements stand for
pub next_back_seen : {X Y : Type 0} (f : X → Y) (xs : List X) (k i : ℕ) (a : X) → k < length xs → i ≡ length xs - 1 - k → a ≡ get_or xs i a → map f (drop (length xs - (k + 1)) xs) ≡ f a ∷ map f (drop (length xs - k) xs)
next_back_seen f xs k i a h e g = ap (map f) (next_back xs k i a h e g)

-- nothing stands behind the end
pub none_back : {X : Type 0} (xs : List X) → drop (length xs - 0) xs ≡ []
none_back xs =
    let all : length xs - 0 ≡ length xs = omega arith in
    ap (λ n. drop n xs) all ∙ drop-length xs

-- all stands behind the beginning
pub all_back : {X : Type 0} (xs : List X) (k : ℕ) → length xs ≤ k → drop (length xs - k) xs ≡ xs
all_back xs k h =
    let none : length xs - k ≡ 0 = omega arith in
    ap (λ n. drop n xs) none

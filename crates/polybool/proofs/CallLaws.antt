-- Laws of the program's arguments.
use Rattle.std.proofs.Common.{◌≡◌, ◌≢◌, ◌⊎◌, ℕ, zero, suc, ◌+◌, ◌≤◌, ◌==◌, false, true, not, List, [], ◌∷◌, length, drop, slice_get, slice_index, codes}
use Rattle.std.proofs.Common.{Option, Some, None, Err, refl, ap, ◌∙◌, inl, inr, arith, add-one}
use Rattle.std.proofs.lemmas.Bool.Decides.{Decides-eqb}
use Rattle.std.specs.declared.env.FillError.{FillError}
use Rattle.std.specs.declared.env.FillError.TheVariants.{NotPresent, TooLong}
use Rattle.polybool.specs.Calls.{IsGiven, IsRead, longest_argument, IsReadable, IsUnreadable, is_name, AskNothing}

-- What is left from a place on: nothing where nothing stands there, and else what stands there and what comes after it.
pub none_left : {X : Type 0} → (xs : List X) (n : ℕ) → slice_get xs n ≡ None → drop n xs ≡ []
none_left [] zero e = refl
none_left [] (suc n) e = refl
none_left (x ∷ xs) zero e = cc
none_left (x ∷ xs) (suc n) e = none_left xs n e

pub some_left : {X : Type 0} → (xs : List X) (n : ℕ) (x : X) → slice_get xs n ≡ Some x → drop n xs ≡ x ∷ drop (suc n) xs
some_left [] n x e = cc
some_left (y ∷ ys) zero x e = let same : y ≡ x = cc in ap (λ z. z ∷ ys) same
some_left (y ∷ ys) (suc n) x e = some_left ys n x e

pub two_left : {X : Type 0} → (xs : List X) (n : ℕ) (x y : X) → slice_get xs n ≡ Some x → slice_get xs (n + 1) ≡ Some y → drop n xs ≡ x ∷ y ∷ drop (n + 2) xs
two_left xs n x y first second =
    let two : n + 2 ≡ suc (suc n) = omega arith in
    rw two (some_left xs n x first ∙ ap (λ ys. x ∷ ys) (some_left xs (suc n) y (rw add-one at second)))

pub one_left : {X : Type 0} → (xs : List X) (n : ℕ) (x : X) → slice_get xs n ≡ Some x → slice_get xs (n + 1) ≡ None → drop n xs ≡ x ∷ []
one_left xs n x first none = some_left xs n x first ∙ ap (λ ys. x ∷ ys) (none_left xs (suc n) (rw add-one at none))

pub left_none : {X : Type 0} → (xs : List X) (n : ℕ) → drop n xs ≡ [] → slice_get xs n ≡ None
left_none [] n e = refl
left_none (x ∷ xs) zero e = cc
left_none (x ∷ xs) (suc n) e = left_none xs n e

pub left_some : {X : Type 0} → (xs : List X) (n : ℕ) (x : X) (rest : List X) → drop n xs ≡ x ∷ rest → slice_get xs n ≡ Some x
left_some [] zero x rest e = cc
left_some [] (suc n) x rest e = cc
left_some (y ∷ ys) zero x rest e = cc
left_some (y ∷ ys) (suc n) x rest e = left_some ys n x rest e

-- a word that fits the bytes is told
pub not_missed : (argument : Option (List ℕ)) (fault : FillError) (bytes word : List ℕ) → length word ≤ length bytes
    → IsGiven argument (Err fault) bytes → argument ≡ Some word → ⊥
not_missed argument NotPresent bytes word fits told is = cc
not_missed argument TooLong bytes word fits (w, told, longer) is =
    let same : w ≡ word = cc in absurd (omega (arith, ap length same))

-- What is told of an argument by so many bytes is what is read of it: where it isn't there or is longer, and where the bytes have it.
pub fault_read : (argument : Option (List ℕ)) (fault : FillError) (bytes : List ℕ) → length bytes ≡ longest_argument → IsGiven argument (Err fault) bytes
    → IsRead argument (Err fault)
fault_read argument NotPresent bytes long told = told
fault_read argument TooLong bytes long (w, told, longer) = (w, told, λ readable. absurd (omega (arith, long, readable.0)))

-- "--" can be read
mark_readable : IsReadable (codes "--")
unfolding lib.Utf8.encode
mark_readable = (omega arith, (45 ∷ 45 ∷ [], (refl, refl)))

-- an argument that can't be read, whatever comes after it
pub unread : (word : List ℕ) (more : List (List ℕ)) → IsUnreadable word → AskNothing (word ∷ more)
unread word [] h = inl h
unread word (path ∷ []) h = inl (λ is. h (rw is mark_readable))
unread word (two ∷ three ∷ more) h = tt

-- two arguments, the first of which is no mark, or the second can't be read, or there is a third
pub astray : (word path : List ℕ) (more : List (List ℕ)) → (word ≢ codes "--") ⊎ IsUnreadable path ⊎ (more ≢ []) → AskNothing (word ∷ path ∷ more)
astray word path [] (inl h) = inl h
astray word path [] (inr (inl h)) = inr h
astray word path [] (inr (inr h)) = absurd (h refl)
astray word path (three ∷ more) h = tt

-- an argument that begins with a hyphen, and an empty one
pub hyphened : (word : List ℕ) → (slice_index word 0 == 45) ≡ true → is_name word ≡ false
hyphened [] e = refl
hyphened (b ∷ bs) e = ap not e

pub empty : (word : List ℕ) → (length word == 0) ≡ true → is_name word ≡ false
empty [] e = refl
empty (b ∷ bs) e = absurd (omega (arith, (Decides-eqb (length (b ∷ bs)) 0).0 e))

-- Laws of lines.
use Rattle.std.proofs.Common.{◌≡◌, ◌≢◌, ℕ, List, [], ◌∷◌, ◌++◌, ap, refl, eqb, eq-eqb, ne_eqb, false, true}
use Rattle.polybool.specs.Lines.{text_of}

-- a carriage return at the end is no part of the text
pub text_of-return : (xs : List ℕ) (b : ℕ) → b ≡ 13 → text_of (xs ++ b ∷ []) ≡ xs
text_of-return [] b e = let return : eqb b 13 ≡ true = eq-eqb b 13 e in rw return refl
text_of-return (x ∷ []) b e = ap (λ ys. x ∷ ys) (text_of-return [] b e)
text_of-return (x ∷ y ∷ ys) b e = ap (λ zs. x ∷ zs) (text_of-return (y ∷ ys) b e)

-- every other end is
pub text_of-other : (xs : List ℕ) (b : ℕ) → b ≢ 13 → text_of (xs ++ b ∷ []) ≡ xs ++ b ∷ []
text_of-other [] b e = let other : eqb b 13 ≡ false = ne_eqb b 13 e in rw other refl
text_of-other (x ∷ []) b e = ap (λ ys. x ∷ ys) (text_of-other [] b e)
text_of-other (x ∷ y ∷ ys) b e = ap (λ zs. x ∷ zs) (text_of-other (y ∷ ys) b e)

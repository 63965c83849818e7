-- Laws of words.
use Rattle.std.proofs.Common.{◌≡◌, ℕ, zero, suc, ◌<◌, List, [], ◌∷◌, length, take, drop, get_or, arith, ap, refl, eqb, cond, false, true, eq-eqb, ne_eqb, ◌∙◌}
use Rattle.polybool.specs.Words.{words_of, onto_first}

-- no space stands before the place
abbrev pub NoSpaceBefore : List ℕ → ℕ → Type 0
NoSpaceBefore text i = (k : ℕ) → k < i → get_or text k 0 ≡ 32 → ⊥

-- a text that begins with another byte than a space
words_on : (b : ℕ) (bs : List ℕ) (i : ℕ) → NoSpaceBefore (b ∷ bs) (suc i) → words_of (b ∷ bs) ≡ onto_first b (words_of bs)
words_on b bs i none = let other : eqb b 32 ≡ false = ne_eqb b 32 (none 0 (omega arith)) in rw other refl

-- the first space parts the first word from the others
pub words_at : (text : List ℕ) (i : ℕ) → i < length text → NoSpaceBefore text i → get_or text i 0 ≡ 32
    → words_of text ≡ take i text ∷ words_of (drop (suc i) text)
words_at [] i h none e = absurd (omega arith)
words_at (b ∷ bs) zero h none e = let space : eqb b 32 ≡ true = eq-eqb b 32 e in rw space refl
words_at (b ∷ bs) (suc i) h none e =
    words_on b bs i none ∙ ap (onto_first b) (words_at bs i (omega (arith, h)) (λ k below. none (suc k) (omega arith)) e)

onto_first_some : (b : ℕ) (ws : List (List ℕ)) → onto_first b ws ≡ [] → ⊥
onto_first_some b [] e = cc
onto_first_some b (w ∷ ws) e = cc

-- a text has a word
pub words_some : (text : List ℕ) → words_of text ≡ [] → ⊥
words_some [] e = cc
words_some (b ∷ bs) e = elim (eqb b 32) as (λ v. cond v ([] ∷ words_of bs) (onto_first b (words_of bs)) ≡ [] → ⊥) [
  | true ↦ λ h. cc
  | false ↦ λ h. onto_first_some b (words_of bs) h
] e

-- a text without a space is one word
pub words_whole : (text : List ℕ) → NoSpaceBefore text (length text) → words_of text ≡ text ∷ []
words_whole [] none = refl
words_whole (b ∷ bs) none =
    words_on b bs (length bs) none ∙ ap (onto_first b) (words_whole bs (λ k below. none (suc k) (omega (arith, below))))

-- The last entry that passes a test is the greatest that does, where the keys rise.
use Rattle.std.proofs.Common.{◌≡◌, ◌≢◌, List, [], ◌∷◌, All, ◌⊎◌, refl, inl, inr}
use Rattle.std.proofs.lemmas.List.Elements.{All-nil, All-cons, All-weaker, All-contains}
use Rattle.std.specs.Ordering.{is_lt}
use Rattle.std.specs.declared.cmp.Ordering.{Ordering}
use Rattle.std.specs.declared.cmp.Ordering.TheVariants.{Less, Equal, Greater}
use Rattle.i_tree.specs.LiveList.{IsRising}
use Rattle.i_tree.specs.KeyAnswers.{last_where, IsAnswer}
use Rattle.i_tree.specs.KeyAnswers.IsAnswer.{equal, less}
use Rattle.i_tree.specs.EntryLaws.{IsGreatestLess}
use Rattle.i_tree.specs.EntryLaws.IsGreatestLess.{none, greatest}
use Rattle.i_tree.proofs.Keys.Members.{Contains-head, Contains-tail}

module _ {K V : Type 0} (order : K → K → Ordering) (by : K → Ordering) where
  -- an entry in front, below all the others, that is Less
  front_less : (x : K × V) (xs : List (K × V)) (answer default : V) → by x.0 ≡ Less → All (λ later. order x.0 later.0 ≡ Less) xs → IsGreatestLess order by x.1 xs answer → IsGreatestLess order by default (x ∷ xs) answer
  front_less x xs answer default e below (none unlike is) =
      greatest x.0 (rw is (Contains-head x xs)) e (All-cons (λ other. by other.0 ≡ Less → (order other.0 x.0 ≡ Less) ⊎ (other ≡ (x.0, answer))) x xs (λ f. inr (rw is refl)) (All-weaker (λ entry. by entry.0 ≢ Less) (λ other. by other.0 ≡ Less → (order other.0 x.0 ≡ Less) ⊎ (other ≡ (x.0, answer))) (λ y h f. absurd (h f)) xs unlike))
  front_less x xs answer default e below (greatest k there l all) =
      greatest k (Contains-tail x (k, answer) xs there) l (All-cons (λ other. by other.0 ≡ Less → (order other.0 k ≡ Less) ⊎ (other ≡ (k, answer))) x xs (λ f. inl (All-contains (λ later. order x.0 later.0 ≡ Less) xs (k, answer) below there)) all)

  -- an entry in front that isn't Less
  front_other : (x : K × V) (xs : List (K × V)) (answer default : V) → by x.0 ≢ Less → IsGreatestLess order by default xs answer → IsGreatestLess order by default (x ∷ xs) answer
  front_other x xs answer default e (none unlike is) = none (All-cons (λ entry. by entry.0 ≢ Less) x xs e unlike) is
  front_other x xs answer default e (greatest k there l all) =
      greatest k (Contains-tail x (k, answer) xs there) l (All-cons (λ other. by other.0 ≡ Less → (order other.0 k ≡ Less) ⊎ (other ≡ (k, answer))) x xs (λ f. absurd (e f)) all)

  pub IsGreatestLess-last_where : (default : V) (es : List (K × V)) → IsRising order es → IsGreatestLess order by default es (last_where (λ k. is_lt (by k)) default es)
  IsGreatestLess-last_where default [] rising = none (All-nil (λ entry. by entry.0 ≢ Less)) refl
  IsGreatestLess-last_where default (x ∷ xs) rising = step (by x.0) refl (λ d. IsGreatestLess-last_where d xs rising.1) where
    step : (o : Ordering) → by x.0 ≡ o → ((d : V) → IsGreatestLess order by d xs (last_where (λ k. is_lt (by k)) d xs)) → IsGreatestLess order by default (x ∷ xs) (last_where (λ k. is_lt (by k)) default (x ∷ xs))
    step Less e rest = rw e (front_less x xs _ default e rising.0 (rest x.1))
    step Equal e rest = rw e (front_other x xs _ default (λ f. cc) (rest default))
    step Greater e rest = rw e (front_other x xs _ default (λ f. cc) (rest default))

  pub IsGreatestLess-answer : (default : V) (es : List (K × V)) (answer : V) → IsRising order es → All (λ entry. by entry.0 ≢ Equal) es → IsAnswer by default es answer → IsGreatestLess order by default es answer
  IsGreatestLess-answer default es answer rising unlike (equal k there e) = absurd (All-contains (λ entry. by entry.0 ≢ Equal) es (k, answer) unlike there e)
  IsGreatestLess-answer default es answer rising unlike (less unlike_all is) = rw is (IsGreatestLess-last_where default es rising)

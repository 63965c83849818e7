-- A write at a position of a `SetList`, as the set that it stands for shows it.
use Rattle.std.specs.Prelude.{◌≡◌, ℕ, suc, zero, ◌+◌, List, [], ◌∷◌, true, false, ◌==◌, if◌then◌else◌, map, slice_set, refl}
use Rattle.std.proofs.Common.{arith, ap, ◌∙◌}
use Rattle.std.proofs.lemmas.Bool.Decides.{nat_tests}
use Rattle.std.specs.List.{enumerate_from}
use Rattle.i_tree.specs.declared.set.list.SetList.{SetList}
use Rattle.i_tree.specs.IndexedSet.{with_value_at}
use Rattle.i_tree.specs.SetListView.{set_of, list_written}

past_write : {V : Type 0} (n m : ℕ) (value : V) (xs : List V) (k : ℕ) → m + suc k ≡ n →
    enumerate_from n xs ≡ map (λ entry. if entry.0 == m then (m, value) else entry) (enumerate_from n xs)
past_write n m value [] k h = refl
past_write n m value (x ∷ xs) k h = let other : (n == m) ≡ false = grind (arith, nat_tests) in rw other
    (ap (λ l. (n, x) ∷ l) (past_write (n + 1) m value xs (suc k) (omega arith)))

written_at : {V : Type 0} (n m k : ℕ) (value : V) (xs : List V) → m ≡ n + k → enumerate_from n (slice_set xs k value) ≡
    map (λ entry. if entry.0 == m then (m, value) else entry) (enumerate_from n xs)
written_at n m k value [] e = refl
written_at n m zero value (x ∷ xs) e = let here : (n == m) ≡ true = grind (arith, nat_tests) in let same : n ≡ m =
    omega arith in rw here (ap (λ i. (i, value) ∷ enumerate_from (n + 1) xs) same ∙ ap (λ l. (m, value) ∷ l) (past_write (n + 1) m value xs 0 (omega arith)))
written_at n m (suc k) value (x ∷ xs) e = let there : (n == m) ≡ false = grind (arith, nat_tests) in rw there
    (ap (λ l. (n, x) ∷ l) (written_at (n + 1) m k value xs (omega arith)))

-- a write is seen, and nothing else changes
pub set_of-written : {V : Type 0} (list : SetList V) (index : ℕ) (value : V) → set_of (list_written list index value) ≡ with_value_at index value (set_of list)
set_of-written list index value = ap (λ entries. record { insertions = list.insertions; entries = entries })
    (written_at 0 index index value list.values.items (omega arith))

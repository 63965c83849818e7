-- What a way that was found answers of the live list.
use Rattle.std.proofs.Common.{◌≡◌, ◌≢◌, ℕ, ◌≤◌, List, [], ◌∷◌, ◌++◌, Bool, true, false, Option, if◌then◌else◌, refl, sym, ap, ◌∙◌, arith, subst}
use Rattle.std.proofs.lemmas.List.Elements.{All-weaker}
use Rattle.std.specs.Bool.{OnTrue, OnFalse}
use Rattle.std.specs.Cmp.{IsTotalOrder}
use Rattle.std.specs.Option.{ForSome}
use Rattle.std.specs.Ordering.{is_lt, ordering_index, ordering_then}
use Rattle.std.specs.declared.cmp.Ordering.{Ordering}
use Rattle.std.specs.declared.cmp.Ordering.TheVariants.{Less, Equal, Greater}
use Rattle.i_tree.specs.declared.key.search.Way.{Way}
use Rattle.i_tree.specs.declared.key.search.Way.TheVariants.{Equal as WayEqual, Vacant as WayVacant}
use Rattle.i_tree.specs.LiveList.{live_at, IsNewKey}
use Rattle.i_tree.specs.KeyAnswers.{last_where, last_below, HasEqualKey, IsMonotone, IsAnswer}
use Rattle.i_tree.specs.KeyAnswers.IsAnswer.{equal as answer_equal, less as answer_less}
use Rattle.i_tree.specs.Tree.Entries.{EntryTree, tree_entries_of, unnamed}
use Rattle.i_tree.specs.Tree.Kept.{kept_by, IsKept}
use Rattle.i_tree.specs.Tree.Search.{IsSearched, IsWay, IsFound, value_or}
use Rattle.i_tree.specs.Tree.Search.IsWay.{equal as way_equal, vacant as way_vacant}
use Rattle.i_tree.specs.Tree.Search.IsFound.{equal as found_equal, vacant as found_vacant}
use Rattle.i_tree.proofs.Keys.LiveGaps.{none_Equal-between, last_where-between}
use Rattle.i_tree.proofs.Keys.LiveParts.{live_of, live_of-append}
use Rattle.i_tree.proofs.Trees.Cursors.{Place-entries}
use Rattle.i_tree.proofs.Trees.Kept.{live_at-since, left_now}

-- a way in a tree tells of the tree's live entries
pub IsFound-way : {K E V : Type 0} (cmp : E → E → Ordering) (expires : K → E) (by : K → Ordering) (time : E) (tree : EntryTree (K × V)) (way : Way V) → IsWay cmp expires by time tree way → IsFound by (live_of cmp expires time (tree_entries_of tree)) way
IsFound-way cmp expires by time tree _ (way_equal k v contains e) = found_equal k v contains e
IsFound-way cmp expires by time tree _ (way_vacant parent left below deep before after place less greater last) =
    let parts : live_of cmp expires time before ++ live_of cmp expires time after ≡ live_of cmp expires time (tree_entries_of tree) = sym (ap (live_of cmp expires time) (Place-entries tree parent left deep before [] after place) ∙ live_of-append cmp expires time before after) in
    subst (λ live. IsFound by live (WayVacant parent left below)) parts
    (found_vacant parent left below
    (none_Equal-between by (live_of cmp expires time before) (live_of cmp expires time after) less greater)
    (λ default. last default ∙ sym (last_where-between by default (live_of cmp expires time before) (live_of cmp expires time after) less greater)))

-- and of what was kept before the search
pub IsFound-searched : {K E V : Type 0} (cmp : E → E → Ordering) (total : IsTotalOrder cmp) (expires : K → E) (order : K → K → Ordering) (latest : Option E) (insertions : ℕ) (time : E) (in_time : ForSome latest (λ t. cmp time t ≢ Less)) (old new : EntryTree (K × V)) (kept : IsKept cmp expires order latest insertions old) (searched : IsSearched cmp expires time old new) (by : K → Ordering) (way : Way V) → IsMonotone by (live_at cmp expires time (kept_by cmp expires latest insertions old).entries) → (IsMonotone by (live_at cmp expires time (unnamed (tree_entries_of old))) → IsWay cmp expires by time new way) → IsFound by (live_at cmp expires time (kept_by cmp expires latest insertions old).entries) way
IsFound-searched cmp total expires order latest insertions time in_time old new kept searched by way mono is =
    subst (λ live. IsFound by live way) (left_now cmp total expires order latest insertions time in_time old new kept searched)
    (IsFound-way cmp expires by time new way (is (subst (IsMonotone by) (live_at-since cmp total expires latest time in_time (unnamed (tree_entries_of old))) mono)))

module _ {K V : Type 0} (by : K → Ordering) (live : List (K × V)) where
  pub IsAnswer-found : (way : Way V) → IsFound by live way → (default : V) → IsAnswer by default live (value_or way default)
  IsAnswer-found _ (found_equal k v contains e) default = answer_equal k contains e
  IsAnswer-found _ (found_vacant parent left below none last) default = answer_less none (last default)

  -- where no entry is Equal it is the last that is Less
  last_where-found : ((k : K) → by k ≢ Equal) → (way : Way V) → IsFound by live way → (default : V) → value_or way default ≡ last_where (λ k. is_lt (by k)) default live
  last_where-found none _ (found_equal k v contains e) default = absurd (none k e)
  last_where-found none _ (found_vacant parent left below _ last) default = last default

-- whether it is an equal key
abbrev is_equal : {V : Type 0} → Way V → Bool
is_equal (WayEqual v) = true
is_equal (WayVacant parent left below) = false

module _ {K V : Type 0} (order : K → K → Ordering) (key : K) (live : List (K × V)) where
  pub HasEqualKey-found : (way : Way V) → IsFound (λ k. order k key) live way → OnTrue (is_equal way) (HasEqualKey order key live) × OnFalse (is_equal way) (IsNewKey order key live)
  HasEqualKey-found _ (found_equal k v contains e) = ((contains.0, (k, v), contains.1, contains.2, e), tt)
  HasEqualKey-found _ (found_vacant parent left below none last) = (tt, none)

-- where an equal key counts as a greater one
is_lt-then_Greater : (o : Ordering) → is_lt (ordering_then o Greater) ≡ is_lt o
is_lt-then_Greater Less = refl
is_lt-then_Greater Equal = refl
is_lt-then_Greater Greater = refl

then_Greater-not_Equal : (o : Ordering) → ordering_then o Greater ≢ Equal
then_Greater-not_Equal Less = λ e. cc
then_Greater-not_Equal Equal = λ e. cc
then_Greater-not_Equal Greater = λ e. cc

then_Greater-le : (a b : Ordering) → ordering_index a ≤ ordering_index b → ordering_index (ordering_then a Greater) ≤ ordering_index (ordering_then b Greater)
then_Greater-le Less b le = omega arith
then_Greater-le Equal Less le = absurd (omega arith)
then_Greater-le Equal Equal le = omega arith
then_Greater-le Equal Greater le = omega arith
then_Greater-le Greater Less le = absurd (omega arith)
then_Greater-le Greater Equal le = omega arith
then_Greater-le Greater Greater le = omega arith

module _ {K V : Type 0} (by : K → Ordering) where
  pub IsMonotone-then_Greater : (es : List (K × V)) → IsMonotone by es → IsMonotone (λ k. ordering_then (by k) Greater) es
  IsMonotone-then_Greater [] mono = tt
  IsMonotone-then_Greater (x ∷ xs) mono =
      (All-weaker (λ later. ordering_index (by x.0) ≤ ordering_index (by later.0)) (λ later. ordering_index (ordering_then (by x.0) Greater) ≤ ordering_index (ordering_then (by later.0) Greater)) (λ later le. then_Greater-le (by x.0) (by later.0) le) xs mono.0, IsMonotone-then_Greater xs mono.1)

  last_where-then_Greater : (default : V) (es : List (K × V)) → last_where (λ k. is_lt (ordering_then (by k) Greater)) default es ≡ last_where (λ k. is_lt (by k)) default es
  last_where-then_Greater default [] = refl
  last_where-then_Greater default (x ∷ xs) = rw (is_lt-then_Greater (by x.0)) (last_where-then_Greater (if is_lt (by x.0) then x.1 else default) xs)

-- a search that no equal key stops answers the last entry below
pub last_below-found : {K V : Type 0} (order : K → K → Ordering) (key : K) (live : List (K × V)) (way : Way V) → IsFound (λ k. ordering_then (order k key) Greater) live way → (default : V) → value_or way default ≡ last_below order key default live
last_below-found order key live way found default =
    last_where-found (λ k. ordering_then (order k key) Greater) live (λ k. then_Greater-not_Equal (order k key)) way found default
    ∙ last_where-then_Greater (λ k. order k key) default live

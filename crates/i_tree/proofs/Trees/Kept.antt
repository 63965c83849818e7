-- What a tree keeps.
use Rattle.std.proofs.Common.{◌≡◌, ◌≢◌, ℕ, ◌≤◌, List, [], length, Option, Some, None, refl, sym, ap, ◌∙◌, arith, subst}
use Rattle.std.proofs.lemmas.List.{length-map}
use Rattle.std.specs.Cmp.{IsTotalOrder}
use Rattle.std.specs.Option.{ForSome}
use Rattle.std.specs.declared.cmp.Ordering.{Ordering}
use Rattle.std.specs.declared.cmp.Ordering.TheVariants.{Less}
use Rattle.i_tree.specs.LiveList.{nothing_kept, is_live, live_at, IsSound, IsAdvanced}
use Rattle.i_tree.specs.Tree.Pool.{no_nodes, places}
use Rattle.i_tree.specs.Tree.Insertion.{IsTreeBalanced}
use Rattle.i_tree.specs.Tree.Addition.{names_below}
use Rattle.i_tree.specs.Tree.Entries.{EntryTree, no_entries, tree_names, entries_at, tree_entries_of, unnamed, IsTree}
use Rattle.i_tree.specs.Tree.Kept.{live_since, kept_by, IsKept}
use Rattle.i_tree.specs.Tree.Search.{IsSearched}
use Rattle.i_tree.proofs.Keys.Expiry.{length-filter_le, live_at-live_at, IsSound-advanced, IsAdvanced-advanced}
use Rattle.i_tree.proofs.Trees.Names.{IsTreeBalanced-none}

pub places-none : places no_nodes ≡ 0
unfolding places
places-none = refl

pub tree_names-none : tree_names no_nodes ≡ []
unfolding places names_below
tree_names-none = refl

pub tree_entries_of-none : {T : Type 0} → tree_entries_of {T = T} no_entries ≡ []
unfolding entries_at
tree_entries_of-none = rw tree_names-none refl

pub IsTree-none : {T : Type 0} → IsTree {T = T} no_entries
IsTree-none = record {
  spare = [];
  balanced = subst (λ ns. IsTreeBalanced no_nodes [] ns) (sym tree_names-none) IsTreeBalanced-none;
  each_place = sym places-none;
}

pub length-live : {K E V : Type 0} (cmp : E → E → Ordering) (expires : K → E) (time : E) (es : List (ℕ × (K × V))) → length (live_at cmp expires time (unnamed es)) ≤ length es
length-live {K} {E} {V} cmp expires time es =
    let same : length (unnamed es) ≡ length es = length-map es (λ (entry : ℕ × (K × V)). entry.1) in
    let fewer : length (live_at cmp expires time (unnamed es)) ≤ length (unnamed es) = length-filter_le (λ (entry : K × V). is_live cmp expires time entry.0) (unnamed es) in
    omega arith

module _ {K E V : Type 0} (cmp : E → E → Ordering) (expires : K → E) (order : K → K → Ordering) where
  pub kept_by-none : (tree : EntryTree (K × V)) → tree ≡ no_entries → kept_by {K = K} {E = E} {V = V} cmp expires None 0 tree ≡ nothing_kept
  kept_by-none tree e =
      let none : tree_entries_of tree ≡ [] = ap tree_entries_of e ∙ tree_entries_of-none in
      ap (λ (es : List (ℕ × (K × V))). record { latest_time = None; insertions = 0; stored = length es; entries = unnamed es }) none

  pub IsKept-none : (tree : EntryTree (K × V)) → tree ≡ no_entries → IsKept {K = K} {E = E} {V = V} cmp expires order None 0 tree
  IsKept-none tree e =
      let placeless : places tree.pool ≡ 0 = ap (λ (t : EntryTree (K × V)). places t.pool) e ∙ places-none in
      record {
        is_tree = subst IsTree (sym e) IsTree-none;
        few = omega arith;
        sound = subst (IsSound cmp expires order) (sym (kept_by-none tree e)) (record { at_most_insertions = omega arith; at_least_live = omega arith; all_live = λ x e. refl; no_time = λ x. refl; rising = tt });
      }

-- no entry is live at a time that isn't live among those live before
module _ {K E : Type 0} (cmp : E → E → Ordering) (total : IsTotalOrder cmp) (expires : K → E) where
  pub live_at-since : {V : Type 0} (latest : Option E) (time : E) → ForSome latest (λ t. cmp time t ≢ Less) → (es : List (K × V)) → live_at cmp expires time (live_since cmp expires latest es) ≡ live_at cmp expires time es
  live_at-since None time in_time es = refl
  live_at-since (Some t) time in_time es = live_at-live_at cmp total expires t time (in_time t refl) es

  module _ {V : Type 0} (order : K → K → Ordering) (latest : Option E) (insertions : ℕ) (time : E) (in_time : ForSome latest (λ t. cmp time t ≢ Less)) (old new : EntryTree (K × V)) (kept : IsKept cmp expires order latest insertions old) (searched : IsSearched cmp expires time old new) where
    -- what is live is what was live of what was kept
    pub left_now : live_at cmp expires time (unnamed (tree_entries_of new)) ≡ live_at cmp expires time (kept_by cmp expires latest insertions old).entries
    left_now = searched.live_same ∙ sym (live_at-since latest time in_time (unnamed (tree_entries_of old)))

    -- after a search what was live is kept
    pub IsAdvanced-searched : IsAdvanced cmp expires time (kept_by cmp expires latest insertions old) (kept_by cmp expires (Some time) insertions new)
    IsAdvanced-searched = IsAdvanced-advanced cmp total expires order time (kept_by cmp expires latest insertions old) kept.sound (live_at cmp expires time (unnamed (tree_entries_of new))) left_now (length (tree_entries_of new)) (length-live cmp expires time (tree_entries_of new)) searched.fewer

    pub IsKept-searched : IsKept cmp expires order (Some time) insertions new
    IsKept-searched = record {
      is_tree = searched.tree;
      few = omega (arith, kept.few, searched.same_places);
      sound = IsSound-advanced cmp total expires order time (kept_by cmp expires latest insertions old) kept.sound (live_at cmp expires time (unnamed (tree_entries_of new))) left_now (length (tree_entries_of new)) (length-live cmp expires time (tree_entries_of new)) searched.fewer;
    }

-- What the insertion of a new key into a tree leaves.
use Rattle.std.proofs.Common.{◌≡◌, ◌≢◌, ℕ, ◌+◌, ◌≤◌, List, [], ◌∷◌, ◌++◌, length, Bool, true, false, All, Option, Some, if◌then◌else◌, refl, sym, ap, ◌∙◌, arith, subst, length-append}
use Rattle.std.proofs.lemmas.List.Elements.{All-contains}
use Rattle.std.specs.Cmp.{IsTotalOrder}
use Rattle.std.specs.Option.{ForSome}
use Rattle.std.specs.declared.cmp.Ordering.{Ordering}
use Rattle.std.specs.declared.cmp.Ordering.TheVariants.{Less, Equal, Greater}
use Rattle.i_tree.specs.declared.key.search.Way.{Way}
use Rattle.i_tree.specs.declared.key.search.Way.TheVariants.{Equal as WayEqual, Vacant as WayVacant}
use Rattle.i_tree.specs.LiveList.{is_live, live_at, placed, IsLawful, IsNewKey, IsSound, IsAdvanced, IsInserted}
use Rattle.i_tree.specs.KeyAnswers.{IsMonotone}
use Rattle.i_tree.specs.Tree.Entries.{EntryTree, Place, IsAddedTo, tree_entries_of, unnamed}
use Rattle.i_tree.specs.Tree.Kept.{kept_by, IsKept}
use Rattle.i_tree.specs.Tree.Search.{IsSearched, IsWay}
use Rattle.i_tree.specs.Tree.Search.IsWay.{equal as way_equal, vacant as way_vacant}
use Rattle.i_tree.proofs.Keys.Expiry.{IsRising-filter}
use Rattle.i_tree.proofs.Keys.Insertion.{IsInserted-live, IsSound-live, IsInserted-expired, IsSound-expired}
use Rattle.i_tree.proofs.Keys.LiveGaps.{live_of-between, placed-between}
use Rattle.i_tree.proofs.Keys.LiveParts.{live_of, live_of-append}
use Rattle.i_tree.proofs.Keys.Places.{IsMonotone-order}
use Rattle.i_tree.proofs.Trees.Cursors.{Place-entries}
use Rattle.i_tree.proofs.Trees.Kept.{live_at-since, length-live, left_now, IsAdvanced-searched, IsKept-searched}

-- the vacant place of a way, between the keys that are Less and those that are Greater
pub record IsVacant {K E V : Type 0} (cmp : E → E → Ordering) (expires : K → E) (by : K → Ordering) (time : E) (tree : EntryTree (K × V)) (parent : ℕ) (left : Bool) : Type 0 where
  pub deep : ℕ
  pub before : List (ℕ × (K × V))
  pub after : List (ℕ × (K × V))
  pub place : Place tree parent left deep before [] after
  pub less : All (λ entry. by entry.0 ≡ Less) (live_of cmp expires time before)
  pub greater : All (λ entry. by entry.0 ≡ Greater) (live_of cmp expires time after)

pub IsVacant-way : {K E V : Type 0} (cmp : E → E → Ordering) (expires : K → E) (by : K → Ordering) (time : E) (tree : EntryTree (K × V)) (parent : ℕ) (left : Bool) (below : Option V) (way : Way V) → way ≡ WayVacant parent left below → IsWay cmp expires by time tree way → IsVacant cmp expires by time tree parent left
IsVacant-way cmp expires by time tree parent left below _ e (way_equal k v contains equal) = cc
IsVacant-way cmp expires by time tree parent left below _ e (way_vacant p l b deep before after place less greater last) =
    let same_parent : p ≡ parent = cc in
    let same_left : l ≡ left = cc in
    record {
      deep = deep;
      before = before;
      after = after;
      place = rw (← same_parent, ← same_left) place;
      less = less;
      greater = greater;
    }

-- no way ends at a new key
pub none_equal : {K E V : Type 0} (cmp : E → E → Ordering) (expires : K → E) (order : K → K → Ordering) (key : K) (time : E) (tree : EntryTree (K × V)) (v : V) (way : Way V) → way ≡ WayEqual v → IsWay cmp expires (λ k. order k key) time tree way → IsNewKey order key (live_of cmp expires time (tree_entries_of tree)) → ⊥
none_equal cmp expires order key time tree v _ e (way_equal k w contains equal) unlike = All-contains (λ entry. order entry.0 key ≢ Equal) (live_of cmp expires time (tree_entries_of tree)) (k, w) unlike contains equal
none_equal cmp expires order key time tree v _ e (way_vacant parent left below deep before after place less greater last) unlike = cc

module _ {K E V : Type 0} (cmp : E → E → Ordering) (total : IsTotalOrder cmp) (expires : K → E) (order : K → K → Ordering) (entry : K × V) (latest : Option E) (insertions : ℕ) (time : E) (in_time : ForSome latest (λ t. cmp time t ≢ Less)) (old : EntryTree (K × V)) (kept : IsKept cmp expires order latest insertions old) (lawful : IsLawful order entry.0 (live_at cmp expires time (kept_by cmp expires latest insertions old).entries)) where
  -- the live keys stand to the new one in rising order
  monotone : IsMonotone (λ k. order k entry.0) (live_of cmp expires time (tree_entries_of old))
  monotone =
      subst (IsMonotone (λ k. order k entry.0)) (live_at-since cmp total expires latest time in_time (unnamed (tree_entries_of old)))
      (IsMonotone-order order entry.0 (live_at cmp expires time (kept_by cmp expires latest insertions old).entries)
      (IsRising-filter order (λ (e : K × V). is_live cmp expires time e.0) (kept_by cmp expires latest insertions old).entries kept.sound.rising) lawful)

  module _ (unlike : IsNewKey order entry.0 (live_at cmp expires time (kept_by cmp expires latest insertions old).entries)) (mid : EntryTree (K × V)) (searched : IsSearched cmp expires time old mid) where
    advanced : IsAdvanced cmp expires time (kept_by cmp expires latest insertions old) (kept_by cmp expires (Some time) insertions mid)
    advanced = IsAdvanced-searched cmp total expires order latest insertions time in_time old mid kept searched

    sound : IsSound cmp expires order (kept_by cmp expires (Some time) insertions mid)
    sound = (IsKept-searched cmp total expires order latest insertions time in_time old mid kept searched).sound

    module _ (way : Way V) (says : IsMonotone (λ k. order k entry.0) (live_of cmp expires time (tree_entries_of old)) → IsWay cmp expires (λ k. order k entry.0) time mid way) where
      pub none_equal-kept : (v : V) → way ≡ WayEqual v → ⊥
      none_equal-kept v e = none_equal cmp expires order entry.0 time mid v way e (says monotone) (rw (left_now cmp total expires order latest insertions time in_time old mid kept searched) unlike)

      pub vacant-kept : (parent : ℕ) (left : Bool) (below : Option V) → way ≡ WayVacant parent left below → IsVacant cmp expires (λ k. order k entry.0) time mid parent left
      vacant-kept parent left below e = IsVacant-way cmp expires (λ k. order k entry.0) time mid parent left below way e (says monotone)

    module _ (new : EntryTree (K × V)) (parent : ℕ) (left : Bool) (vacant : IsVacant cmp expires (λ k. order k entry.0) time mid parent left) (name : ℕ) (added : IsAddedTo mid new vacant.before (name, entry) vacant.after) where
      was : tree_entries_of mid ≡ vacant.before ++ vacant.after
      was = Place-entries mid parent left vacant.deep vacant.before [] vacant.after vacant.place

      live_was : live_of cmp expires time (tree_entries_of mid) ≡ live_of cmp expires time vacant.before ++ live_of cmp expires time vacant.after
      live_was = ap (live_of cmp expires time) was ∙ live_of-append cmp expires time vacant.before vacant.after

      live_now : live_of cmp expires time (tree_entries_of new) ≡ live_of cmp expires time vacant.before ++ (if is_live cmp expires time entry.0 then entry ∷ live_of cmp expires time vacant.after else live_of cmp expires time vacant.after)
      live_now = ap (live_of cmp expires time) added.entries_are ∙ live_of-between cmp expires time vacant.before vacant.after name entry

      live_placed : is_live cmp expires time entry.0 ≡ true → live_of cmp expires time (tree_entries_of new) ≡ placed order entry (live_of cmp expires time (tree_entries_of mid))
      live_placed e = live_now ∙ rw (e, live_was) (sym (placed-between order entry (live_of cmp expires time vacant.before) (live_of cmp expires time vacant.after) vacant.less vacant.greater))

      live_same : is_live cmp expires time entry.0 ≡ false → live_of cmp expires time (tree_entries_of new) ≡ live_of cmp expires time (tree_entries_of mid)
      live_same e = live_now ∙ rw (e, live_was) refl

      longer : length (tree_entries_of new) ≡ length (tree_entries_of mid) + 1
      longer = rw (was, added.entries_are) (omega (arith, length-append vacant.before vacant.after, length-append vacant.before ((name, entry) ∷ vacant.after)))

      most : length (tree_entries_of new) ≤ length (tree_entries_of mid) + 1
      most = omega (arith, longer)

      least : length (live_of cmp expires time (tree_entries_of new)) ≤ length (tree_entries_of new)
      least = length-live cmp expires time (tree_entries_of new)

      least_was : length (live_of cmp expires time (tree_entries_of mid)) ≤ length (tree_entries_of new)
      least_was = omega (arith, longer, length-live cmp expires time (tree_entries_of mid))

      both : (b : Bool) → is_live cmp expires time entry.0 ≡ b → IsInserted cmp expires order entry time (kept_by cmp expires latest insertions old) (kept_by cmp expires (Some time) (insertions + 1) new) × IsSound cmp expires order (kept_by cmp expires (Some time) (insertions + 1) new)
      both true e = (
        IsInserted-live cmp total expires order entry time (kept_by cmp expires latest insertions old) (kept_by cmp expires (Some time) insertions mid) advanced sound (length (tree_entries_of new)) most lawful unlike e (live_of cmp expires time (tree_entries_of new)) (live_placed e) least,
        IsSound-live cmp total expires order entry time (kept_by cmp expires latest insertions old) (kept_by cmp expires (Some time) insertions mid) advanced sound (length (tree_entries_of new)) most lawful unlike e (live_of cmp expires time (tree_entries_of new)) (live_placed e) least,
      )
      both false e =
          subst (λ (items : List (K × V)). IsInserted cmp expires order entry time (kept_by cmp expires latest insertions old) (record { latest_time = Some time; insertions = insertions + 1; stored = length (tree_entries_of new); entries = items }) × IsSound cmp expires order (record { latest_time = Some time; insertions = insertions + 1; stored = length (tree_entries_of new); entries = items }))
          (sym (live_same e)) (
            IsInserted-expired cmp total expires order entry time (kept_by cmp expires latest insertions old) (kept_by cmp expires (Some time) insertions mid) advanced sound (length (tree_entries_of new)) most least_was e,
            IsSound-expired cmp total expires order entry time (kept_by cmp expires latest insertions old) (kept_by cmp expires (Some time) insertions mid) advanced sound (length (tree_entries_of new)) most least_was,
          )

      pub IsInserted-added : IsInserted cmp expires order entry time (kept_by cmp expires latest insertions old) (kept_by cmp expires (Some time) (insertions + 1) new)
      IsInserted-added = (both (is_live cmp expires time entry.0) refl).0

      pub IsKept-added : IsKept cmp expires order (Some time) (insertions + 1) new
      IsKept-added = record {
        is_tree = added.tree;
        few = omega (arith, added.one_more, searched.same_places, kept.few);
        sound = (both (is_live cmp expires time entry.0) refl).1;
      }

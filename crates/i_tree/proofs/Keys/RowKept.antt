-- What a row keeps once a call names a time.
use Rattle.std.proofs.Common.{◌≡◌, ◌≢◌, ℕ, ◌+◌, ◌-◌, ◌<◌, ◌≤◌, List, [], ◌∷◌, ◌++◌, length, take, drop, get_or, true, Contains, IfOk, IfErr, Result, is_ok, zero, suc, Option, Some, None, unwrap_or, Ok, Err, refl, sym, ap, ◌∙◌, arith, subst}
use Rattle.std.proofs.lemmas.List.{drop_all}
use Rattle.std.proofs.lemmas.List.Elements.{All-nil}
use Rattle.std.specs.Bool.{OnTrue, OnFalse}
use Rattle.std.specs.Cmp.{IsTotalOrder}
use Rattle.std.specs.Option.{ForSome}
use Rattle.std.specs.declared.cmp.Ordering.{Ordering}
use Rattle.std.specs.declared.cmp.Ordering.TheVariants.{Less, Equal, Greater}
use Rattle.i_tree.specs.LiveList.{LiveList, is_live, live_at, IsNewKey, IsSound, IsAdvanced}
use Rattle.i_tree.specs.KeyAnswers.{last_where, HasEqualKey}
use Rattle.i_tree.specs.Row.{Row, kept_in, IsParted, way_of}
use Rattle.i_tree.specs.Search.{stop_of}
use Rattle.i_tree.specs.Steps.{Counts, CountsAtMost}
use Rattle.i_tree.specs.TreeBound.{most_comparisons}
use Rattle.i_tree.specs.Tree.Rises.{most_comparisons-rise}
use Rattle.i_tree.specs.Tree.Kept.{live_since}
use Rattle.i_tree.specs.Tree.Search.{IsFound}
use Rattle.i_tree.specs.Tree.Search.IsFound.{equal as found_equal, vacant as found_vacant}
use Rattle.i_tree.proofs.Keys.LiveGaps.{none_Equal-between, last_where-between}
use Rattle.i_tree.proofs.Keys.LiveParts.{Contains-node, last_where-last}
use Rattle.i_tree.proofs.Keys.Ways.{HasEqualKey-found}
use Rattle.i_tree.proofs.Keys.Rows.{live, filter-parts, split-true, take-true}
use Rattle.i_tree.proofs.Keys.Expiry.{length-filter_le, live_at-settled, IsSound-advanced, IsAdvanced-advanced}
use Rattle.i_tree.proofs.Trees.Kept.{live_at-since}

module _ {K E V : Type 0} (cmp : E → E → Ordering) (total : IsTotalOrder cmp) (expires : K → E) (order : K → K → Ordering) where
  -- a row without an entry
  pub IsSound-none : IsSound cmp expires order (kept_in {V = V} cmp expires (record { latest_time = None; insertions = 0; entries = [] }))
  IsSound-none = record { at_most_insertions = omega arith; at_least_live = omega arith; all_live = λ x e. refl; no_time = λ x. refl; rising = tt }

  module _ (row : Row K E V) (time : E) (in_time : ForSome row.latest_time (λ t. cmp time t ≢ Less)) (sound : IsSound cmp expires order (kept_in cmp expires row)) where
    -- what is live is found from all that is stored
    pub live_in : live_at cmp expires time (kept_in cmp expires row).entries ≡ live_at cmp expires time row.entries
    live_in = live_at-since cmp total expires row.latest_time time in_time row.entries

    module _ (entries : List (K × V)) (same : live_at cmp expires time entries ≡ live_at cmp expires time row.entries) (fewer : length entries ≤ length row.entries) where
      left : live_at cmp expires time entries ≡ live_at cmp expires time (kept_in cmp expires row).entries
      left = same ∙ sym live_in

      least : length (live_at cmp expires time entries) ≤ length entries
      least = length-filter_le (λ (entry : K × V). is_live cmp expires time entry.0) entries

      pub IsAdvanced-row : IsAdvanced cmp expires time (kept_in cmp expires row) (kept_in cmp expires (record { latest_time = Some time; insertions = row.insertions; entries = entries }))
      IsAdvanced-row = IsAdvanced-advanced cmp total expires order time (kept_in cmp expires row) sound (live_at cmp expires time entries) left (length entries) least fewer

      pub IsSound-row : IsSound cmp expires order (kept_in cmp expires (record { latest_time = Some time; insertions = row.insertions; entries = entries }))
      IsSound-row = IsSound-advanced cmp total expires order time (kept_in cmp expires row) sound (live_at cmp expires time entries) left (length entries) least fewer

  -- what has expired may be dropped
  pub live_at-dropped : (time : E) (entries kept : List (K × V)) → kept ≡ live_at cmp expires time entries → live_at cmp expires time kept ≡ live_at cmp expires time entries
  live_at-dropped time entries kept is = ap (live_at cmp expires time) is ∙ live_at-settled cmp total expires time entries

  pub length-dropped : (time : E) (entries kept : List (K × V)) → kept ≡ live_at cmp expires time entries → length kept ≤ length entries
  length-dropped time entries kept is = rw is (length-filter_le (λ (entry : K × V). is_live cmp expires time entry.0) entries)

-- after a call that names a time all that is live is live among what is stored
pub live_mid : {K E V : Type 0} (cmp : E → E → Ordering) (expires : K → E) (time : E) (old : LiveList K E V) (mid : Row K E V) → IsAdvanced cmp expires time old (kept_in cmp expires mid) → live_at cmp expires time mid.entries ≡ live_at cmp expires time old.entries
live_mid cmp expires time old mid advanced =
    let now : mid.latest_time ≡ Some time = advanced.latest_time in
    ap (λ latest. live_since cmp expires latest mid.entries) (sym now) ∙ advanced.entries

module _ {K E V : Type 0} (cmp : E → E → Ordering) (expires : K → E) (by : K → Ordering) (time : E) (entries : List (K × V)) where
  -- the live entries, by the places on both sides of which they are
  parts : (at : ℕ) → live_at cmp expires time (take at entries) ++ live_at cmp expires time (drop at entries) ≡ live_at cmp expires time entries
  parts at = sym (filter-parts (live cmp expires time) entries at)

  pub IsFound-equal : (at : ℕ) (d : K × V) → at < length entries → is_live cmp expires time (get_or entries at d).0 ≡ true → by (get_or entries at d).0 ≡ Equal → IsFound by (live_at cmp expires time entries) (way_of (Ok (get_or entries at d).1))
  IsFound-equal at d lt is e =
      found_equal (get_or entries at d).0 (get_or entries at d).1
      (subst (λ list. Contains list (get_or entries at d)) (sym (split-true (live cmp expires time) entries at d lt is)) (Contains-node (live_at cmp expires time (take at entries)) (get_or entries at d) (live_at cmp expires time (drop (at + 1) entries)))) e

  vacant : (at : ℕ) (below : Option V) → IsParted cmp expires by time entries at at → ((default : V) → unwrap_or below default ≡ last_where (λ k. true) default (live_at cmp expires time (take at entries))) → IsFound by (live_at cmp expires time entries) (way_of (Err below))
  vacant at below parted last =
      subst (λ list. IsFound by list (way_of (Err below))) (parts at)
      (found_vacant 0 true below
      (none_Equal-between by (live_at cmp expires time (take at entries)) (live_at cmp expires time (drop at entries)) parted.less parted.greater)
      (λ default. last default ∙ sym (last_where-between by default (live_at cmp expires time (take at entries)) (live_at cmp expires time (drop at entries)) parted.less parted.greater)))

  pub IsFound-first : IsParted cmp expires by time entries 0 0 → IsFound by (live_at cmp expires time entries) (way_of (Err None))
  IsFound-first parted = vacant 0 None parted (λ default. refl)

  pub IsFound-after : (at : ℕ) (d : K × V) → at ≢ 0 → at ≤ length entries → is_live cmp expires time (get_or entries (at - 1) d).0 ≡ true → IsParted cmp expires by time entries at at → IsFound by (live_at cmp expires time entries) (way_of (Err (Some (get_or entries (at - 1) d).1)))
  IsFound-after at d some le is parted =
      let back : at - 1 + 1 ≡ at = omega arith in
      let last = take-true (live cmp expires time) entries (at - 1) d (omega arith) is in
      vacant at (Some (get_or entries (at - 1) d).1) parted (λ default.
      sym (ap (last_where (λ k. true) default) (subst (λ n. live_at cmp expires time (take n entries) ≡ live_at cmp expires time (take (at - 1) entries) ++ (get_or entries (at - 1) d ∷ [])) back last)
      ∙ last_where-last default (live_at cmp expires time (take (at - 1) entries)) (get_or entries (at - 1) d)))

  some_of : {X : Type 0} (xs : List X) → 0 < length xs → X
  some_of [] h = absurd (omega arith)
  some_of (x ∷ xs) h = x

  -- what a search in the whole row found
  pub IsFound-near : (found : Result ℕ ℕ) (near : Result V (Option V)) → IfOk found (λ at. at < length entries) → IfErr found (λ at. at ≤ length entries) → IfOk found (λ at. (d : K × V) → is_live cmp expires time (get_or entries at d).0 ≡ true) → IfErr found (λ at. (d : K × V) → 0 < at → is_live cmp expires time (get_or entries (at - 1) d).0 ≡ true) → IfOk found (λ at. (d : K × V) → by (get_or entries at d).0 ≡ Equal) → IfErr found (λ at. IsParted cmp expires by time entries at at) → IfOk found (λ at. (d : K × V) → near ≡ Ok (get_or entries at d).1) → IfErr found (λ at. at ≡ 0 → near ≡ Err None) → IfErr found (λ at. (d : K × V) → at ≢ 0 → near ≡ Err (Some (get_or entries (at - 1) d).1)) → IsFound by (live_at cmp expires time entries) (way_of near)
  IsFound-near (Ok at) near inside _ is _ equal _ reads _ _ =
      let d = some_of entries (omega (arith, inside)) in
      subst (λ near. IsFound by (live_at cmp expires time entries) (way_of near)) (sym (reads d)) (IsFound-equal at d inside (is d) (equal d))
  IsFound-near (Err zero) near _ inside _ _ _ parted _ reads _ = subst (λ near. IsFound by (live_at cmp expires time entries) (way_of near)) (sym (reads refl)) (IsFound-first parted)
  IsFound-near (Err (suc at)) near _ inside _ last _ parted _ _ reads =
      let d = some_of entries (omega (arith, inside)) in
      let some : suc at ≢ 0 = λ e. absurd (omega (arith, e)) in
      subst (λ near. IsFound by (live_at cmp expires time entries) (way_of near)) (sym (reads d some)) (IsFound-after (suc at) d some inside (last d (omega arith)) parted)

  pub IsParted-near : (found : Result ℕ ℕ) (near : Result V (Option V)) (d : IfOk found (λ at. K × V)) → IfErr found (λ at. IsParted cmp expires by time entries at at) → IfOk found (λ at. (d : K × V) → near ≡ Ok (get_or entries at d).1) → IfErr near (λ below. IsParted cmp expires by time entries (stop_of found) (stop_of found))
  IsParted-near (Ok at) near d _ reads = subst (λ near. IfErr near (λ below. IsParted cmp expires by time entries at at)) (sym (reads d)) tt
  IsParted-near (Err at) (Ok v) d parted reads = tt
  IsParted-near (Err at) (Err below) d parted reads = parted

  pub entry_found : (found : Result ℕ ℕ) → IfOk found (λ at. at < length entries) → IfOk found (λ at. K × V)
  entry_found (Ok at) inside = some_of entries (omega (arith, inside))
  entry_found (Err at) inside = tt

  -- all of a row stands between its ends
  pub IsParted-whole : (n : ℕ) → length entries ≤ n → IsParted cmp expires by time entries 0 n
  IsParted-whole n le = record {
    less = All-nil (λ entry. by entry.0 ≡ Less);
    greater = rw (drop_all n entries le) (All-nil (λ entry. by entry.0 ≡ Greater));
  }

-- what is within the bound for fewer entries is within that for more
pub CountsAtMost-fewer : (old new : Counts) (m n : ℕ) → m ≤ n → CountsAtMost old new (most_comparisons m) → CountsAtMost old new (most_comparisons n)
CountsAtMost-fewer old new m n le counts = record {
  never_falls = counts.never_falls;
  bound = let rise = most_comparisons-rise m n le in omega (arith, counts.bound);
  pairs = counts.pairs;
}

-- whether an equal key was found
pub HasEqualKey-row : {K V : Type 0} (order : K → K → Ordering) (key : K) (live : List (K × V)) (found : Result V (Option V)) → IsFound (λ k. order k key) live (way_of found) → OnTrue (is_ok found) (HasEqualKey order key live) × OnFalse (is_ok found) (IsNewKey order key live)
HasEqualKey-row order key live (Ok v) is = HasEqualKey-found order key live (way_of (Ok v)) is
HasEqualKey-row order key live (Err below) is = HasEqualKey-found order key live (way_of (Err below)) is

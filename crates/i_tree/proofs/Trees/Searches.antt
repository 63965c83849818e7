-- How a search in a tree of expiring keys stands on its way down.
use Rattle.std.proofs.Common.{◌≡◌, ◌≢◌, ℕ, suc, ◌+◌, ◌≤◌, ◌<◌, List, [], ◌∷◌, ◌++◌, length, Bool, true, false, All, Contains, Option, Some, None, unwrap_or, slice_get, refl, sym, ap, ◌∙◌, subst, arith, append_assoc, length-append}
use Rattle.std.proofs.lemmas.List.Elements.{All-nil, All-cons, All-append, All-contains}
use Rattle.std.specs.declared.cmp.Ordering.{Ordering}
use Rattle.std.specs.declared.cmp.Ordering.TheVariants.{Less, Equal, Greater}
use Rattle.i_tree.specs.declared.tree.pool.TheConstants.{NO_NODE}
use Rattle.i_tree.specs.declared.key.search.Way.TheVariants.{Equal as WayEqual, Vacant as WayVacant}
use Rattle.i_tree.specs.Tree.Entries.{EntryTree, IsTree, unnamed, tree_entries_of, Place, held_below, IsAtPlace}
use Rattle.i_tree.specs.TreeBound.{most_comparisons}
use Rattle.i_tree.specs.Tree.Rises.{most_comparisons-rise}
use Rattle.i_tree.specs.LiveList.{is_live, live_at}
use Rattle.i_tree.specs.KeyAnswers.{last_where, DependsOnKey, IsMonotone}
use Rattle.i_tree.specs.Steps.{Counts, CountsExactly, CountsAtMost}
use Rattle.i_tree.specs.Tree.Search.{IsCleared, IsSearched, IsWay, Narrows, none_left, ends, leaves_after, leaves_before}
use Rattle.i_tree.specs.Tree.Search.IsWay.{equal, vacant}
use Rattle.i_tree.proofs.Trees.Cursors.{whole-place, Place-tree, Place-entries, Place-held, Place-shallow}
use Rattle.i_tree.proofs.Trees.Clears.{Finds, nothing-found, found-within, finds-entry}
use Rattle.i_tree.proofs.Keys.LiveParts.{live_of, live_of-append, live_of-live, live_of-node, Less-before, Greater-after, last_where-last, Contains-node}

-- the entries before a place are Less and those after it Greater, and this is the value of the last before it
pub record Sides {K V : Type 0} (by : K → Ordering) (below : Option V) (before after : List (K × V)) : Type 0 where
  pub less : All (λ entry. by entry.0 ≡ Less) before
  pub greater : All (λ entry. by entry.0 ≡ Greater) after
  pub below_is : (default : V) → unwrap_or below default ≡ last_where (λ k. true) default before

-- the search is at a place that lies no higher than it has made comparisons, with what is sought at or below it
pub record Descends {K E V : Type 0} (cmp : E → E → Ordering) (expires : K → E) (time : E) (gives : K → Ordering → Type 0) (old new : EntryTree (K × V)) (before_steps steps : Counts) (parent : ℕ) (left : Bool) (below : Option V) : Type 0 where
  pub deep : ℕ
  pub before : List (ℕ × (K × V))
  pub here : List (ℕ × (K × V))
  pub after : List (ℕ × (K × V))
  pub place : Place new parent left deep before here after
  pub searched : IsSearched cmp expires time old new
  pub made : ℕ
  pub enough : made ≤ deep
  pub counted : CountsExactly before_steps steps made
  pub narrowed : (by : K → Ordering) → DependsOnKey gives by (live_at cmp expires time (unnamed (tree_entries_of old))) → (n : ℕ) → Narrows by (live_at cmp expires time (unnamed here)) n → Narrows by (live_at cmp expires time (unnamed (tree_entries_of old))) (made + n)
  pub sides : (by : K → Ordering) → DependsOnKey gives by (live_at cmp expires time (unnamed (tree_entries_of old))) → IsMonotone by (live_at cmp expires time (unnamed (tree_entries_of old))) → Sides by below (live_at cmp expires time (unnamed before)) (live_at cmp expires time (unnamed after))

-- and this is what is there
pub record Arrives {K E V : Type 0} (cmp : E → E → Ordering) (expires : K → E) (time : E) (gives : K → Ordering → Type 0) (old new : EntryTree (K × V)) (before_steps steps : Counts) (parent : ℕ) (left : Bool) (below : Option V) (at : ℕ) : Type 0 where
  pub way : Descends cmp expires time gives old new before_steps steps parent left below
  pub at_place : IsAtPlace new parent left way.deep way.before way.here way.after at

-- and what is there is nothing, or a live node
pub record Stops {K E V : Type 0} (cmp : E → E → Ordering) (expires : K → E) (time : E) (gives : K → Ordering → Type 0) (old new : EntryTree (K × V)) (before_steps steps : Counts) (parent : ℕ) (left : Bool) (below : Option V) (at : ℕ) : Type 0 where
  pub way : Descends cmp expires time gives old new before_steps steps parent left below
  pub at_place : IsAtPlace new parent left way.deep way.before way.here way.after at
  pub live : (entry : K × V) → slice_get new.entries at ≡ Some entry → is_live cmp expires time entry.0 ≡ true

CountsAtMost-made : (old new : Counts) (n m : ℕ) → CountsExactly old new n → n ≤ m → CountsAtMost old new m
CountsAtMost-made old new n m counted le =
    let e = counted.comparisons in
    record { never_falls = omega arith; bound = omega arith; pairs = counted.pairs }

module _ {K E V : Type 0} (cmp : E → E → Ordering) (expires : K → E) (time : E) where
  -- the entries with others at or below a place
  pub live-replaced : (before here left after : List (ℕ × (K × V))) → live_of cmp expires time left ≡ live_of cmp expires time here → live_of cmp expires time (before ++ (left ++ after)) ≡ live_of cmp expires time (before ++ (here ++ after))
  live-replaced before here left after e =
      live_of-append cmp expires time before (left ++ after)
      ∙ ap (λ (xs : List (K × V)). live_of cmp expires time before ++ xs) (live_of-append cmp expires time left after ∙ ap (λ (xs : List (K × V)). xs ++ live_of cmp expires time after) e ∙ sym (live_of-append cmp expires time here after))
      ∙ sym (live_of-append cmp expires time before (here ++ after))

module _ {K E V : Type 0} {cmp : E → E → Ordering} {expires : K → E} {time : E} {gives : K → Ordering → Type 0} where
  abbrev pub Descends-start : (tree : EntryTree (K × V)) (steps : Counts) → IsTree tree → Descends cmp expires time gives tree tree steps steps NO_NODE true None
  Descends-start tree steps is = record {
    deep = 0;
    before = [];
    here = tree_entries_of tree;
    after = [];
    place = whole-place tree true is;
    searched = record { tree = is; live_same = refl; fewer = omega arith; same_places = refl };
    made = 0;
    enough = omega arith;
    counted = record { comparisons = omega arith; pairs = refl };
    narrowed = λ by depends n h. let same : n ≡ 0 + n = omega arith in subst (λ m. Narrows by (live_of cmp expires time (tree_entries_of tree)) m) same h;
    sides = λ by depends mono. record { less = All-nil (λ (entry : K × V). by entry.0 ≡ Less); greater = All-nil (λ (entry : K × V). by entry.0 ≡ Greater); below_is = λ default. refl };
  }

  module _ {old mid : EntryTree (K × V)} {first steps : Counts} {parent : ℕ} {left : Bool} {below : Option V} (d : Descends cmp expires time gives old mid first steps parent left below) {new : EntryTree (K × V)} {at : ℕ} where
    module _ (c : IsCleared cmp expires time mid new parent left d.deep d.before d.here d.after at) where
      pub parted : tree_entries_of new ≡ d.before ++ (c.left_here ++ d.after)
      parted = Place-entries new parent left c.deeper d.before c.left_here d.after c.place

      pub parted_before : tree_entries_of mid ≡ d.before ++ (d.here ++ d.after)
      parted_before = Place-entries mid parent left d.deep d.before d.here d.after d.place

      pub cleared-fewer : length (tree_entries_of new) ≤ length (tree_entries_of mid)
      cleared-fewer =
          let n = ap length parted ∙ length-append d.before (c.left_here ++ d.after) in
          let m = ap length parted_before ∙ length-append d.before (d.here ++ d.after) in
          let n' = length-append c.left_here d.after in
          let m' = length-append d.here d.after in
          omega (arith, c.fewer)

      abbrev pub Descends-cleared : Descends cmp expires time gives old new first steps parent left below
      Descends-cleared = record {
        deep = c.deeper;
        before = d.before;
        here = c.left_here;
        after = d.after;
        place = c.place;
        searched = record {
          tree = Place-tree new parent left c.deeper d.before c.left_here d.after c.place;
          live_same = ap (live_of cmp expires time) parted ∙ live-replaced cmp expires time d.before d.here c.left_here d.after c.live_same ∙ ap (live_of cmp expires time) (sym parted_before) ∙ d.searched.live_same;
          fewer = omega (arith, cleared-fewer, d.searched.fewer);
          same_places = c.same_places ∙ d.searched.same_places;
        };
        made = d.made;
        enough = omega (arith, d.enough, c.not_less);
        counted = d.counted;
        narrowed = λ by depends n h. d.narrowed by depends n (subst (λ (xs : List (K × V)). Narrows by xs n) c.live_same h);
        sides = d.sides;
      }

      pub Stops-cleared : Stops cmp expires time gives old new first steps parent left below at
      Stops-cleared = record { way = Descends-cleared; at_place = c.at_place; live = c.live }

      pub cleared-held : held_below new.pool parent left ≤ held_below mid.pool parent left
      cleared-held =
          let was = Place-held mid parent left d.deep d.before d.here d.after d.place in
          let is = Place-held new parent left c.deeper d.before c.left_here d.after c.place in
          omega (arith, c.fewer)

  module _ {old new : EntryTree (K × V)} {first steps : Counts} {parent : ℕ} {left : Bool} {below : Option V} {at : ℕ} (s : Stops cmp expires time gives old new first steps parent left below at) where
    pub within-entries : at ≢ NO_NODE → at < length new.entries
    within-entries there = found-within new parent left s.way.deep s.way.before s.way.here s.way.after at s.at_place there

    module _ (e : at ≡ NO_NODE) where
      nothing : s.way.here ≡ []
      nothing = nothing-found new parent left s.way.deep s.way.before s.way.here s.way.after at s.at_place e

      pub IsWay-vacant : (by : K → Ordering) → DependsOnKey gives by (live_at cmp expires time (unnamed (tree_entries_of old))) → IsMonotone by (live_of cmp expires time (tree_entries_of old)) → IsWay cmp expires by time new (WayVacant parent left below)
      IsWay-vacant by depends mono =
          let sides = s.way.sides by depends mono in
          let place : Place new parent left s.way.deep s.way.before [] s.way.after = subst (λ (xs : List (ℕ × (K × V))). Place new parent left s.way.deep s.way.before xs s.way.after) nothing s.way.place in
          vacant parent left below s.way.deep s.way.before s.way.after place sides.less sides.greater sides.below_is

      pub CountsAtMost-vacant : CountsAtMost first steps (most_comparisons (length (tree_entries_of old)))
      CountsAtMost-vacant =
          let shallow = Place-shallow new parent left s.way.deep s.way.before s.way.here s.way.after s.way.place in
          let rise = most_comparisons-rise (length (tree_entries_of new)) (length (tree_entries_of old)) s.way.searched.fewer in
          CountsAtMost-made first steps s.way.made (most_comparisons (length (tree_entries_of old))) s.way.counted (omega (arith, s.way.enough))

      pub Narrows-vacant : (n : ℕ) × (CountsExactly first steps n × ((by : K → Ordering) → DependsOnKey gives by (live_at cmp expires time (unnamed (tree_entries_of old))) → Narrows by (live_of cmp expires time (tree_entries_of old)) n))
      Narrows-vacant =
          let same : s.way.made + 0 ≡ s.way.made = omega arith in
          (s.way.made, (s.way.counted, λ by depends. subst (λ m. Narrows by (live_of cmp expires time (tree_entries_of old)) m) same (s.way.narrowed by depends 0 (subst (λ (xs : List (ℕ × (K × V))). Narrows by (live_of cmp expires time xs) 0) (sym nothing) none_left))))

    module _ (there : at ≢ NO_NODE) {entry : K × V} (e : slice_get new.entries at ≡ Some entry) where
      abbrev f : Finds new parent left s.way.deep s.way.before s.way.here s.way.after at entry
      f = finds-entry new parent left s.way.deep s.way.before s.way.here s.way.after at s.at_place there entry e

      abbrev befores : List (K × V)
      befores = live_of cmp expires time (s.way.before ++ f.near)

      abbrev afters : List (K × V)
      afters = live_of cmp expires time (f.far ++ s.way.after)

      live_now : live_of cmp expires time (tree_entries_of new) ≡ befores ++ (entry ∷ afters)
      live_now =
          ap (live_of cmp expires time) (Place-entries new at true (suc s.way.deep) s.way.before f.near ((at, entry) ∷ (f.far ++ s.way.after)) f.near_place ∙ sym (append_assoc s.way.before f.near ((at, entry) ∷ (f.far ++ s.way.after))))
          ∙ live_of-node cmp expires time (s.way.before ++ f.near) at entry (f.far ++ s.way.after) (s.live entry e)

      live_first : live_of cmp expires time (tree_entries_of old) ≡ befores ++ (entry ∷ afters)
      live_first = sym s.way.searched.live_same ∙ live_now

      live_here : live_of cmp expires time s.way.here ≡ live_of cmp expires time f.near ++ (entry ∷ live_of cmp expires time f.far)
      live_here = ap (live_of cmp expires time) f.here_is ∙ live_of-node cmp expires time f.near at entry f.far (s.live entry e)

      live_up_to : live_of cmp expires time (s.way.before ++ (f.near ++ ((at, entry) ∷ []))) ≡ befores ++ (entry ∷ [])
      live_up_to = ap (live_of cmp expires time) (sym (append_assoc s.way.before f.near ((at, entry) ∷ []))) ∙ live_of-node cmp expires time (s.way.before ++ f.near) at entry [] (s.live entry e)

      -- what is asked of the live entries holds of this one
      pub live-asked : (P : K → Type 0) → All (λ entry. P entry.0) (live_of cmp expires time (tree_entries_of old)) → P entry.0
      live-asked P all =
          All-contains (λ (x : K × V). P x.0) (live_of cmp expires time (tree_entries_of old)) entry all (subst (λ (xs : List (K × V)). Contains xs entry) (sym live_first) (Contains-node befores entry afters))

      -- what the closure says there is told by `by`
      told : (by : K → Ordering) → DependsOnKey gives by (live_at cmp expires time (unnamed (tree_entries_of old))) → (r : Ordering) → gives entry.0 r → r ≡ by entry.0
      told by depends = live-asked (λ k. (r : Ordering) → gives k r → r ≡ by k) depends

      within-bound : s.way.made + 1 ≤ most_comparisons (length (tree_entries_of old))
      within-bound =
          let shallow = Place-shallow new at true (suc s.way.deep) s.way.before f.near ((at, entry) ∷ (f.far ++ s.way.after)) f.near_place in
          let rise = most_comparisons-rise (length (tree_entries_of new)) (length (tree_entries_of old)) s.way.searched.fewer in
          omega (arith, s.way.enough)

      pub right-smaller : held_below new.pool at false < held_below new.pool parent left
      right-smaller =
          let was = Place-held new parent left s.way.deep s.way.before s.way.here s.way.after s.way.place in
          let is = Place-held new at false (suc s.way.deep) (s.way.before ++ (f.near ++ ((at, entry) ∷ []))) f.far s.way.after f.far_place in
          let more = ap length f.here_is ∙ length-append f.near ((at, entry) ∷ f.far) in
          omega arith

      pub left-smaller : held_below new.pool at true < held_below new.pool parent left
      left-smaller =
          let was = Place-held new parent left s.way.deep s.way.before s.way.here s.way.after s.way.place in
          let is = Place-held new at true (suc s.way.deep) s.way.before f.near ((at, entry) ∷ (f.far ++ s.way.after)) f.near_place in
          let more = ap length f.here_is ∙ length-append f.near ((at, entry) ∷ f.far) in
          omega arith

      pub IsWay-equal : gives entry.0 Equal → (by : K → Ordering) → DependsOnKey gives by (live_at cmp expires time (unnamed (tree_entries_of old))) → IsWay cmp expires by time new (WayEqual entry.1)
      IsWay-equal said by depends =
          equal entry.0 entry.1 (subst (λ (xs : List (K × V)). Contains xs entry) (sym live_now) (Contains-node befores entry afters)) (sym (told by depends Equal said))

      module _ {next : Counts} (one_more : next.comparisons ≡ steps.comparisons + 1) (pairs : next.pairs ≡ steps.pairs) where
        counted-next : CountsExactly first next (s.way.made + 1)
        counted-next = let e = s.way.counted.comparisons in record { comparisons = omega arith; pairs = pairs ∙ s.way.counted.pairs }

        module _ (said : gives entry.0 Equal) where
          pub CountsAtMost-equal : CountsAtMost first next (most_comparisons (length (tree_entries_of old)))
          CountsAtMost-equal = CountsAtMost-made first next (s.way.made + 1) (most_comparisons (length (tree_entries_of old))) counted-next within-bound

          pub Narrows-equal : (n : ℕ) × (CountsExactly first next n × ((by : K → Ordering) → DependsOnKey gives by (live_at cmp expires time (unnamed (tree_entries_of old))) → Narrows by (live_of cmp expires time (tree_entries_of old)) n))
          Narrows-equal = (s.way.made + 1, (counted-next, λ by depends. s.way.narrowed by depends 1 (subst (λ (xs : List (K × V)). Narrows by xs 1) (sym live_here) (ends (live_of cmp expires time f.near) entry (live_of cmp expires time f.far) (sym (told by depends Equal said))))))

        module _ (by : K → Ordering) (depends : DependsOnKey gives by (live_at cmp expires time (unnamed (tree_entries_of old)))) (n : ℕ) where
          further : Narrows by (live_of cmp expires time s.way.here) (suc n) → Narrows by (live_of cmp expires time (tree_entries_of old)) (s.way.made + 1 + n)
          further h =
              let same : s.way.made + suc n ≡ s.way.made + 1 + n = omega arith in
              subst (λ m. Narrows by (live_of cmp expires time (tree_entries_of old)) m) same (s.way.narrowed by depends (suc n) h)

          narrowed-right : by entry.0 ≡ Less → Narrows by (live_of cmp expires time f.far) n → Narrows by (live_of cmp expires time (tree_entries_of old)) (s.way.made + 1 + n)
          narrowed-right less h = further (subst (λ (xs : List (K × V)). Narrows by xs (suc n)) (sym live_here) (leaves_after (live_of cmp expires time f.near) entry (live_of cmp expires time f.far) n less h))

          narrowed-left : by entry.0 ≡ Greater → Narrows by (live_of cmp expires time f.near) n → Narrows by (live_of cmp expires time (tree_entries_of old)) (s.way.made + 1 + n)
          narrowed-left greater h = further (subst (λ (xs : List (K × V)). Narrows by xs (suc n)) (sym live_here) (leaves_before (live_of cmp expires time f.near) entry (live_of cmp expires time f.far) n greater h))

        module _ (by : K → Ordering) (mono : IsMonotone by (live_of cmp expires time (tree_entries_of old))) where
          mono_parts : IsMonotone by (befores ++ (entry ∷ afters))
          mono_parts = subst (IsMonotone by) live_first mono

          sides-right : Sides by below (live_of cmp expires time s.way.before) (live_of cmp expires time s.way.after) → by entry.0 ≡ Less → Sides by (Some entry.1) (live_of cmp expires time (s.way.before ++ (f.near ++ ((at, entry) ∷ [])))) (live_of cmp expires time s.way.after)
          sides-right sides less = record {
            less = subst (All (λ (x : K × V). by x.0 ≡ Less)) (sym live_up_to)
                (All-append (λ (x : K × V). by x.0 ≡ Less) befores (entry ∷ []) (Less-before by befores entry afters mono_parts less) (All-cons (λ (x : K × V). by x.0 ≡ Less) entry [] less (All-nil (λ (x : K × V). by x.0 ≡ Less))));
            greater = sides.greater;
            below_is = λ default. sym (ap (last_where (λ k. true) default) live_up_to ∙ last_where-last default befores entry);
          }

          sides-left : Sides by below (live_of cmp expires time s.way.before) (live_of cmp expires time s.way.after) → by entry.0 ≡ Greater → Sides by below (live_of cmp expires time s.way.before) (live_of cmp expires time ((at, entry) ∷ (f.far ++ s.way.after)))
          sides-left sides greater = record {
            less = sides.less;
            greater = subst (All (λ (x : K × V). by x.0 ≡ Greater)) (sym (live_of-live cmp expires time at entry (f.far ++ s.way.after) (s.live entry e)))
                (All-cons (λ (x : K × V). by x.0 ≡ Greater) entry afters greater (Greater-after by befores entry afters mono_parts greater));
            below_is = sides.below_is;
          }

        pub Descends-right : gives entry.0 Less → Descends cmp expires time gives old new first next at false (Some entry.1)
        Descends-right said = record {
          deep = suc s.way.deep;
          before = s.way.before ++ (f.near ++ ((at, entry) ∷ []));
          here = f.far;
          after = s.way.after;
          place = f.far_place;
          searched = s.way.searched;
          made = s.way.made + 1;
          enough = omega (arith, s.way.enough);
          counted = counted-next;
          narrowed = λ by depends n h. narrowed-right by depends n (sym (told by depends Less said)) h;
          sides = λ by depends mono. sides-right by mono (s.way.sides by depends mono) (sym (told by depends Less said));
        }

        pub Descends-left : gives entry.0 Greater → Descends cmp expires time gives old new first next at true below
        Descends-left said = record {
          deep = suc s.way.deep;
          before = s.way.before;
          here = f.near;
          after = (at, entry) ∷ (f.far ++ s.way.after);
          place = f.near_place;
          searched = s.way.searched;
          made = s.way.made + 1;
          enough = omega (arith, s.way.enough);
          counted = counted-next;
          narrowed = λ by depends n h. narrowed-left by depends n (sym (told by depends Greater said)) h;
          sides = λ by depends mono. sides-left by mono (s.way.sides by depends mono) (sym (told by depends Greater said));
        }

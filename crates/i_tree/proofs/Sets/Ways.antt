-- The way down a tree of a set.
use Rattle.std.proofs.Common.{◌≡◌, ℕ, suc, ◌+◌, ◌≤◌, ◌<◌, List, [], ◌∷◌, ◌++◌, length, length-append, map, Bool, true, false, Option, Some, All, Contains, IsSome, refl, sym, ap, ◌∙◌, arith, subst, append_assoc}
use Rattle.std.proofs.lemmas.List.Elements.{All-nil, All-cons, All-head, All-tail, All-append, All-weaker, All-contains}
use Rattle.std.proofs.lemmas.Option.{same_Some}
use Rattle.std.specs.List.{slice_get}
use Rattle.std.specs.Ordering.{is_le, is_gt, ordering_index}
use Rattle.std.specs.declared.cmp.Ordering.{Ordering}
use Rattle.std.specs.declared.cmp.Ordering.TheVariants.{Less, Equal, Greater}
use Rattle.i_tree.specs.declared.TheConstants.{EMPTY_REF}
use Rattle.i_tree.specs.declared.tree.pool.TheConstants.{NO_NODE}
use Rattle.i_tree.specs.Tree.Entries.{EntryTree, IsTree, Place, IsAtPlace, tree_entries_of, held_below, last_named}
use Rattle.i_tree.specs.TreeBound.{most_comparisons}
use Rattle.i_tree.specs.IndexedSet.{IsMonotoneBy}
use Rattle.i_tree.specs.Tree.SetView.{held, values_in}
use Rattle.i_tree.specs.Tree.SetSearch.{IsParted, IsGap}
use Rattle.i_tree.proofs.Trees.Cursors.{whole-place, Place-held, Place-shallow}
use Rattle.i_tree.proofs.Trees.Losses.{at-within}
use Rattle.i_tree.proofs.Trees.Nodes.{HasFork, Node-entries}
use Rattle.i_tree.proofs.Sets.Held.{held-append}
use Rattle.i_tree.proofs.Keys.LiveParts.{All-right, Contains-node}
use Rattle.i_tree.proofs.Sets.Laws.{not_greater, greater_above}

not-le-of : (o : Ordering) → is_gt o ≡ true → is_le o ≡ false
not-le-of Less e = cc
not-le-of Equal e = cc
not-le-of Greater e = refl

le-before : (a b : Ordering) → is_gt b ≡ false → ordering_index a ≤ ordering_index b → is_le a ≡ true
le-before Less b e h = refl
le-before Equal b e h = refl
le-before Greater Less e h = absurd (omega arith)
le-before Greater Equal e h = absurd (omega arith)
le-before Greater Greater e h = cc

All-unmapped : {X Y : Type 0} (P : Y → Type 0) (f : X → Y) (xs : List X) → All P (map f xs) → All (λ x. P (f x)) xs
All-unmapped P f [] all = All-nil (λ x. P (f x))
All-unmapped P f (x ∷ xs) all = All-cons (λ y. P (f y)) x xs (All-head P (f x) (map f xs) all) (All-unmapped P f xs (All-tail P (f x) (map f xs) all))

-- keys before one and after one
module _ {K V : Type 0} (key : V → K) (by : K → Ordering) where
  mono-after : (a : List (ℕ × V)) (x : ℕ × V) (b : List (ℕ × V)) → IsMonotoneBy key by (map (λ entry. entry.1) (a ++ (x ∷ b))) → All (λ entry. ordering_index (by (key x.1)) ≤ ordering_index (by (key entry.1))) b
  mono-after [] x b mono = All-unmapped (λ later. ordering_index (by (key x.1)) ≤ ordering_index (by (key later))) (λ (entry : ℕ × V). entry.1) b mono.0
  mono-after (y ∷ a) x b mono = mono-after a x b mono.1

  mono-before : (a : List (ℕ × V)) (x : ℕ × V) (b : List (ℕ × V)) → IsMonotoneBy key by (map (λ entry. entry.1) (a ++ (x ∷ b))) → All (λ entry. ordering_index (by (key entry.1)) ≤ ordering_index (by (key x.1))) a
  mono-before [] x b mono = All-nil (λ (entry : ℕ × V). ordering_index (by (key entry.1)) ≤ ordering_index (by (key x.1)))
  mono-before (y ∷ a) x b mono =
      let later = All-unmapped (λ later. ordering_index (by (key y.1)) ≤ ordering_index (by (key later))) (λ (entry : ℕ × V). entry.1) (a ++ (x ∷ b)) mono.0 in
      All-cons (λ (entry : ℕ × V). ordering_index (by (key entry.1)) ≤ ordering_index (by (key x.1))) y a
      (All-head (λ (entry : ℕ × V). ordering_index (by (key y.1)) ≤ ordering_index (by (key entry.1))) x b (All-right (λ (entry : ℕ × V). ordering_index (by (key y.1)) ≤ ordering_index (by (key entry.1))) a (x ∷ b) later))
      (mono-before a x b mono.1)

last_named-end : {T : Type 0} (none : ℕ) (a : List (ℕ × T)) (x : ℕ × T) → last_named none (a ++ (x ∷ [])) ≡ x.0
last_named-end none [] x = refl
last_named-end none (y ∷ a) x = last_named-end y.0 a x

-- a place on the way down, with the index of the value before what is there, after so many comparisons
pub record IsSought {K V : Type 0} (tells : (K → Ordering) → Type 0) (key : V → K) (tree : EntryTree (Option V)) (parent : ℕ) (side : Bool) (index first now : ℕ) : Type 0 where
  pub deep : ℕ
  pub before : List (ℕ × Option V)
  pub here : List (ℕ × Option V)
  pub after : List (ℕ × Option V)
  pub place : Place tree parent side deep before here after
  pub index_is : index ≡ last_named EMPTY_REF before
  pub parted : (by : K → Ordering) → tells by → IsMonotoneBy key by (map (λ entry. entry.1) (held (tree_entries_of tree))) → IsParted key by before after
  pub counted : now ≡ first + deep

-- and this is what is there
pub record IsReached {K V : Type 0} (tells : (K → Ordering) → Type 0) (key : V → K) (tree : EntryTree (Option V)) (parent : ℕ) (side : Bool) (index first now at : ℕ) : Type 0 where
  pub way : IsSought tells key tree parent side index first now
  pub at_place : IsAtPlace tree parent side way.deep way.before way.here way.after at

module _ {K V : Type 0} (tells : (K → Ordering) → Type 0) (key : V → K) (tree : EntryTree (Option V)) where
  abbrev pub sought-first : IsTree tree → (side : Bool) (first : ℕ) → IsSought tells key tree NO_NODE side EMPTY_REF first first
  sought-first is side first = record {
    deep = 0;
    before = [];
    here = tree_entries_of tree;
    after = [];
    place = whole-place tree side is;
    index_is = refl;
    parted = λ by t mono. record { below = All-nil (λ (entry : ℕ × V). is_le (by (key entry.1)) ≡ true); above = All-nil (λ (entry : ℕ × V). is_le (by (key entry.1)) ≡ false) };
    counted = omega arith;
  }

  module _ (parent : ℕ) (side : Bool) (index first now : ℕ) (l : IsSought tells key tree parent side index first now) where
    pub sought-gap : l.here ≡ [] → IsGap tells key tree parent side l.deep index
    sought-gap none = record {
      before = l.before;
      after = l.after;
      place = subst (λ (here : List (ℕ × Option V)). Place tree parent side l.deep l.before here l.after) none l.place;
      index_is = l.index_is;
      parted = l.parted;
    }

    pub sought-few : now ≤ first + most_comparisons (length (tree_entries_of tree))
    sought-few = let d = Place-shallow tree parent side l.deep l.before l.here l.after l.place in let c = l.counted in omega arith

    module _ (at : ℕ) (k : HasFork tree parent side l.deep l.before l.here l.after at) where
      pub fork-within : at < length tree.entries
      fork-within = at-within tree parent side l.deep l.before k.near at k.entry k.far l.after k.node

      parts : tree_entries_of tree ≡ (l.before ++ k.near) ++ ((at, k.entry) ∷ (k.far ++ l.after))
      parts = Node-entries tree parent side l.deep l.before k.near at k.entry k.far l.after k.node

      pub fork-some : All (λ entry. IsSome entry.1) (tree_entries_of tree) → (x : Option V) → slice_get tree.entries at ≡ Some x → IsSome x
      fork-some all x e =
          let each = subst (λ (es : List (ℕ × Option V)). All (λ entry. IsSome entry.1) es) parts all in
          let some = All-head (λ (entry : ℕ × Option V). IsSome entry.1) (at, k.entry) (k.far ++ l.after) (All-right (λ (entry : ℕ × Option V). IsSome entry.1) (l.before ++ k.near) ((at, k.entry) ∷ (k.far ++ l.after)) each) in
          rw (same_Some x k.entry (sym e ∙ k.node.entry_is)) some

      module _ (v : V) (entry_is : slice_get tree.entries at ≡ Some (Some v)) where
        value-is : k.entry ≡ Some v
        value-is = same_Some k.entry (Some v) (sym k.node.entry_is ∙ entry_is)

        held-parts : held (tree_entries_of tree) ≡ held (l.before ++ k.near) ++ ((at, v) ∷ held (k.far ++ l.after))
        held-parts = ap held parts ∙ held-append (l.before ++ k.near) ((at, k.entry) ∷ (k.far ++ l.after)) ∙ ap (λ x. held (l.before ++ k.near) ++ held ((at, x) ∷ (k.far ++ l.after))) value-is

        -- what is asked of the values holds of this one
        pub value-asked : (P : V → Type 0) → All P (values_in tree) → P v
        value-asked P all =
            All-contains (λ (entry : ℕ × V). P entry.1) (held (tree_entries_of tree)) (at, v) (All-unmapped P (λ (entry : ℕ × V). entry.1) (held (tree_entries_of tree)) all)
            (subst (λ (es : List (ℕ × V)). Contains es (at, v)) (sym held-parts) (Contains-node (held (l.before ++ k.near)) (at, v) (held (k.far ++ l.after))))

        -- the value is above what is sought
        go-left : (r : Ordering) → ((by : K → Ordering) → tells by → r ≡ by (key v)) → is_gt r ≡ true → (next : ℕ) → next ≡ now + 1 → IsSought tells key tree at true index first next
        go-left r told greater next more = record {
          deep = suc l.deep;
          before = l.before;
          here = k.near;
          after = (at, k.entry) ∷ (k.far ++ l.after);
          place = k.left;
          index_is = l.index_is;
          parted = λ by t mono.
              let whole = subst (λ (es : List (ℕ × V)). IsMonotoneBy key by (map (λ entry. entry.1) es)) held-parts mono in
              let gt : is_gt (by (key v)) ≡ true = ap is_gt (sym (told by t)) ∙ greater in
              let later = All-weaker (λ (entry : ℕ × V). ordering_index (by (key v)) ≤ ordering_index (by (key entry.1))) (λ (entry : ℕ × V). is_le (by (key entry.1)) ≡ false) (λ entry h. greater_above (by (key v)) (by (key entry.1)) gt h)
              (held (k.far ++ l.after)) (mono-after key by (held (l.before ++ k.near)) (at, v) (held (k.far ++ l.after)) whole) in
              record {
                below = (l.parted by t mono).below;
                above = subst (λ x. All (λ entry. is_le (by (key entry.1)) ≡ false) (held ((at, x) ∷ (k.far ++ l.after)))) (sym value-is)
                    (All-cons (λ (entry : ℕ × V). is_le (by (key entry.1)) ≡ false) (at, v) (held (k.far ++ l.after)) (not-le-of (by (key v)) gt) later);
              };
          counted = let c = l.counted in omega arith;
        }

        -- the value is not
        go-right : (r : Ordering) → ((by : K → Ordering) → tells by → r ≡ by (key v)) → is_gt r ≡ false → (next : ℕ) → next ≡ now + 1 → IsSought tells key tree at false at first next
        go-right r told less next more = record {
          deep = suc l.deep;
          before = l.before ++ (k.near ++ ((at, k.entry) ∷ []));
          here = k.far;
          after = l.after;
          place = k.right;
          index_is = sym (ap (last_named EMPTY_REF) (sym (append_assoc l.before k.near ((at, k.entry) ∷ []))) ∙ last_named-end EMPTY_REF (l.before ++ k.near) (at, k.entry));
          parted = λ by t mono.
              let whole = subst (λ (es : List (ℕ × V)). IsMonotoneBy key by (map (λ entry. entry.1) es)) held-parts mono in
              let le : is_gt (by (key v)) ≡ false = ap is_gt (sym (told by t)) ∙ less in
              let earlier = All-weaker (λ (entry : ℕ × V). ordering_index (by (key entry.1)) ≤ ordering_index (by (key v))) (λ (entry : ℕ × V). is_le (by (key entry.1)) ≡ true) (λ entry h. le-before (by (key entry.1)) (by (key v)) le h)
              (held (l.before ++ k.near)) (mono-before key by (held (l.before ++ k.near)) (at, v) (held (k.far ++ l.after)) whole) in
              let same : held (l.before ++ (k.near ++ ((at, k.entry) ∷ []))) ≡ held (l.before ++ k.near) ++ ((at, v) ∷ []) =
              ap held (sym (append_assoc l.before k.near ((at, k.entry) ∷ []))) ∙ held-append (l.before ++ k.near) ((at, k.entry) ∷ []) ∙ ap (λ x. held (l.before ++ k.near) ++ held ((at, x) ∷ [])) value-is in
              record {
                below = subst (λ (es : List (ℕ × V)). All (λ entry. is_le (by (key entry.1)) ≡ true) es) (sym same)
                    (All-append (λ (entry : ℕ × V). is_le (by (key entry.1)) ≡ true) (held (l.before ++ k.near)) ((at, v) ∷ []) earlier
                    (All-cons (λ (entry : ℕ × V). is_le (by (key entry.1)) ≡ true) (at, v) [] (not_greater (by (key v)) le) (All-nil (λ (entry : ℕ × V). is_le (by (key entry.1)) ≡ true))));
                above = (l.parted by t mono).above;
              };
          counted = let c = l.counted in omega arith;
        }

        module _ (r : Ordering) (told : (by : K → Ordering) → tells by → r ≡ by (key v)) (way : Bool) (way_is : way ≡ is_gt r) (next : ℕ) (more : next ≡ now + 1) where
          pub sought-left : way ≡ true → IsSought tells key tree at way index first next
          sought-left e = subst (λ (s : Bool). IsSought tells key tree at s index first next) (sym e) (go-left r told (sym way_is ∙ e) next more)

          pub sought-right : way ≡ false → IsSought tells key tree at way at first next
          sought-right e = subst (λ (s : Bool). IsSought tells key tree at s at first next) (sym e) (go-right r told (sym way_is ∙ e) next more)

      -- there is a place on each side below the node
      pub fork-place : (s : Bool) → (deep : ℕ) × ((before : List (ℕ × Option V)) × ((here : List (ℕ × Option V)) × ((after : List (ℕ × Option V)) × Place tree at s deep before here after)))
      fork-place true = (_, (_, (_, (_, k.left))))
      fork-place false = (_, (_, (_, (_, k.right))))

      left-smaller : held_below tree.pool at true < held_below tree.pool parent side
      left-smaller =
          let x = Place-held tree parent side l.deep l.before l.here l.after l.place in
          let y = Place-held tree at true (suc l.deep) l.before k.near ((at, k.entry) ∷ (k.far ++ l.after)) k.left in
          let z = ap length k.here_is ∙ length-append k.near ((at, k.entry) ∷ k.far) in
          omega arith

      right-smaller : held_below tree.pool at false < held_below tree.pool parent side
      right-smaller =
          let x = Place-held tree parent side l.deep l.before l.here l.after l.place in
          let y = Place-held tree at false (suc l.deep) (l.before ++ (k.near ++ ((at, k.entry) ∷ []))) k.far l.after k.right in
          let z = ap length k.here_is ∙ length-append k.near ((at, k.entry) ∷ k.far) in
          omega arith

      pub below-smaller : (s : Bool) → held_below tree.pool at s < held_below tree.pool parent side
      below-smaller true = left-smaller
      below-smaller false = right-smaller

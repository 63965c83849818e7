-- What the words of the nodes in a pool say, and what stays of a pool where entries are written or exchanged.
use Rattle.std.proofs.Common.{◌≡◌, ◌≢◌, ℕ, zero, suc, ◌+◌, ◌%◌, ◌^◌, ◌≤◌, ◌<◌, ◌⊎◌, inl, inr, List, [], ◌∷◌, ◌++◌, map, length, Bool, true, false, Some, None, refl, sym, ap, ◌∙◌, arith, get_or, set}
use Rattle.std.specs.Prelude.{nat_le}
use Rattle.std.specs.List.{slice_get, SwappedAt}
use Rattle.std.proofs.lemmas.Option.{slice_get-get_or, slice_get_past}
use Rattle.std.specs.Prelude.{option_map}
use Rattle.std.proofs.lemmas.Bool.{cases_eq, cases_lt, cases_order}
use Rattle.std.proofs.lemmas.Bool.Decides.{nat_tests}
use Rattle.std.proofs.lemmas.List.{map-set, map-append, length-map, get_or_past}
use Rattle.std.proofs.lemmas.Option.{same_Some, slice_get-map}
use Rattle.std.proofs.Math.Nat.{add-mod_right, mod-eq_of_lt}
use Rattle.std.proofs.Math.Seq.{map-set_same}
use Rattle.i_tree.specs.declared.tree.pool.TheConstants.{NO_NODE}
use Rattle.i_tree.specs.declared.tree.pool.Links.{Links}
use Rattle.i_tree.specs.Tree.Shape.{one}
use Rattle.i_tree.specs.Tree.Pool.{Nodes, places, links_at, word_of, links_of, IsPut, Grows}
use Rattle.i_tree.specs.Tree.Entries.{EntryTree, with_entry, IsSwapped}
use Rattle.i_tree.proofs.Trees.Writes.{IsPut-set}
use Rattle.i_tree.proofs.Trees.Leaves.{Grows-pushed}
use Rattle.i_tree.proofs.Trees.Shapes.{one-past, one-below}
use Rattle.i_tree.proofs.Trees.Entries.{slice_get-moved, slice_get-swap_other}

-- the colour's bit isn't part of the parent's name
pub links_of-word : (left right parent : ℕ) (red : Bool) → parent ≤ NO_NODE → links_of left right (word_of parent red) ≡ record { parent = parent; left = left; right = right; red = red }
unfolding word_of links_of
links_of-word left right p true h =
    let a : (p + 2 ^ 31) % 2 ^ 31 ≡ p = add-mod_right p (2 ^ 31) ∙ mod-eq_of_lt (omega arith) in
    let b : nat_le (2 ^ 31) (p + 2 ^ 31) ≡ true = grind (arith, nat_tests) in
    rw (a, b) refl
links_of-word left right p false h =
    let a : p % 2 ^ 31 ≡ p = mod-eq_of_lt (omega arith) in
    let b : nat_le (2 ^ 31) p ≡ false = grind (arith, nat_tests) in
    rw (a, b) refl

-- lists with the same elements at the same places
same-lists : {X : Type 0} (xs ys : List X) → ((i : ℕ) → slice_get xs i ≡ slice_get ys i) → xs ≡ ys
same-lists [] [] same = refl
same-lists [] (y ∷ ys) same = absurd (let e : None ≡ Some y = same 0 in cc)
same-lists (x ∷ xs) [] same = absurd (let e : Some x ≡ None = same 0 in cc)
same-lists (x ∷ xs) (y ∷ ys) same =
    let e : x ≡ y = same_Some x y (same 0) in
    let rest : xs ≡ ys = same-lists xs ys (λ i. same (suc i)) in
    cc

get_or-mapped : {N X : Type 0} (f : N → X) (xs : List N) (i : ℕ) (x : N) (d : X) → i < length xs → get_or (map f xs) i d ≡ f (get_or xs i x)
get_or-mapped f [] i x d h = absurd (omega arith)
get_or-mapped f (y ∷ xs) zero x d h = refl
get_or-mapped f (y ∷ xs) (suc i) x d h = get_or-mapped f xs i x d (omega arith)

read : (pool : Nodes) (n : ℕ) → n < places pool → slice_get pool.nodes n ≡ Some (links_at pool n)
unfolding places links_at
read pool n h = slice_get-get_or pool.nodes n _ h

past : (pool : Nodes) (n : ℕ) → places pool ≤ n → links_at pool n ≡ record { parent = 0; left = 0; right = 0; red = false }
unfolding places links_at
past pool n h = get_or_past pool.nodes n _ h

none : (pool : Nodes) (n : ℕ) → places pool ≤ n → slice_get pool.nodes n ≡ None
unfolding places
none pool n h = slice_get_past pool.nodes n h

same-nodes : (a b : Nodes) → places a ≡ places b → ((n : ℕ) → links_at a n ≡ links_at b n) → a.nodes ≡ b.nodes
same-nodes a b many same = same-lists a.nodes b.nodes (λ n. by n (cases_lt n (places a))) where
  by : (n : ℕ) → (n < places a) ⊎ (places a ≤ n) → slice_get a.nodes n ≡ slice_get b.nodes n
  by n (inl l) = read a n l ∙ ap Some (same n) ∙ sym (read b n (omega arith))
  by n (inr g) = none a n g ∙ sym (none b n (omega arith))

one-apart : (i j : ℕ) → i ≢ j → one i j ≡ 0
one-apart i j ne = by (cases_order i j) where
  by : (i ≡ j) ⊎ ((i < j) ⊎ (j < i)) → one i j ≡ 0
  by (inl e) = absurd (ne e)
  by (inr (inl l)) = one-past i j l
  by (inr (inr l)) = one-below i j l

module _ {N T : Type 0} (words : N → Links) (entry : N → T) (root spare : ℕ) where
  -- what a pool of these nodes shows
  abbrev pub nodes_in : List N → Nodes
  nodes_in nodes = record { nodes = map words nodes; root = root; spare = spare }

  abbrev pub shown : List N → EntryTree T
  shown nodes = record { pool = nodes_in nodes; entries = map entry nodes }

  pub places-shown : (nodes : List N) → places (nodes_in nodes) ≡ length nodes
  unfolding places
  places-shown nodes = length-map nodes words

  pub links-read : (nodes : List N) (i : ℕ) (node : N) → node ≡ get_or nodes i node → i < length nodes → links_at (nodes_in nodes) i ≡ words node
  unfolding links_at
  links-read nodes i node is h = get_or-mapped words nodes i node _ h ∙ ap words (sym is)

  pub IsPut-written : (nodes : List N) (i : ℕ) (node : N) (links : Links) → words node ≡ links → i < length nodes → IsPut (nodes_in nodes) (nodes_in (set nodes i node)) i links
  IsPut-written nodes i node links e h = rw (map-set words nodes i node, e) (IsPut-set (map words nodes) root spare i links (let l = length-map nodes words in omega arith))

  pub entries-kept : (nodes : List N) (i : ℕ) (was node : N) → was ≡ get_or nodes i was → entry node ≡ entry was → map entry (set nodes i node) ≡ map entry nodes
  entries-kept nodes i was node is e = map-set_same entry nodes i node was (e ∙ ap entry is)

  pub entry-written : (nodes : List N) (i : ℕ) (was node : N) (x : T) → was ≡ get_or nodes i was → words node ≡ words was → entry node ≡ x → shown (set nodes i node) ≡ with_entry (shown nodes) i x
  entry-written nodes i was node x is e f =
      let a : map words (set nodes i node) ≡ map words nodes = map-set_same words nodes i node was (e ∙ ap words is) in
      let b : map entry (set nodes i node) ≡ set (map entry nodes) i x = map-set entry nodes i node ∙ ap (λ y. set (map entry nodes) i y) f in
      rw (a, b) refl

  pub entry-read : (nodes : List N) (i : ℕ) (node : N) → node ≡ get_or nodes i node → i < length nodes → slice_get (map entry nodes) i ≡ Some (entry node)
  entry-read nodes i node is h = slice_get-map entry nodes i ∙ ap (option_map entry) (slice_get-get_or nodes i node h) ∙ ap (λ n. Some (entry n)) (sym is)

  pub Grows-written : (nodes : List N) (node : N) → Grows (nodes_in nodes) (nodes_in (nodes ++ node ∷ []))
  Grows-written nodes node = Grows-pushed (nodes_in nodes) (map words (nodes ++ node ∷ [])) (words node) (map-append words nodes (node ∷ []))

  -- nodes were exchanged, and then got their words back
  module _ (xs ys : List N) (i j : ℕ) (swapped : SwappedAt xs ys i j) (each : length ys ≡ length xs) (h : i < length xs) (k : j < length xs) where
    at_other : (n : ℕ) → n ≢ i → n ≢ j → links_at (nodes_in ys) n ≡ links_at (nodes_in xs) n
    at_other n ne_i ne_j = by (cases_lt n (length xs)) where
      by : (n < length xs) ⊎ (length xs ≤ n) → links_at (nodes_in ys) n ≡ links_at (nodes_in xs) n
      by (inl l) =
          let same : slice_get (map words ys) n ≡ slice_get (map words xs) n = slice_get-map words ys n ∙ ap (option_map words) (slice_get-swap_other xs ys i j n each swapped ne_i ne_j) ∙ sym (slice_get-map words xs n) in
          let a = read (nodes_in ys) n (let p = places-shown ys in omega arith) in
          let b = read (nodes_in xs) n (let p = places-shown xs in omega arith) in
          same_Some _ _ (sym a ∙ same ∙ b)
      by (inr g) = past (nodes_in ys) n (let p = places-shown ys in omega arith) ∙ sym (past (nodes_in xs) n (let p = places-shown xs in omega arith))

    module _ (b c : Nodes) (first : IsPut (nodes_in ys) b i (links_at (nodes_in xs) i)) (second : IsPut b c j (links_at (nodes_in xs) j)) where
      links-same : (n : ℕ) → links_at c n ≡ links_at (nodes_in xs) n
      links-same n = by (cases_eq n j) (cases_eq n i) where
        by : (n ≡ j) ⊎ (n ≢ j) → (n ≡ i) ⊎ (n ≢ i) → links_at c n ≡ links_at (nodes_in xs) n
        by (inl e) o = rw e second.there
        by (inr ne) (inl e) = second.only.elsewhere n (one-apart j n (λ x. ne (sym x))) ∙ rw e first.there
        by (inr ne) (inr apart) = second.only.elsewhere n (one-apart j n (λ x. ne (sym x))) ∙ first.only.elsewhere n (one-apart i n (λ x. apart (sym x))) ∙ at_other n apart ne

      pub nodes-back : c ≡ nodes_in xs
      nodes-back =
          let many = places-shown xs in
          let now = second.only.places ∙ first.only.places ∙ places-shown ys ∙ each in
          let nodes : c.nodes ≡ map words xs = same-nodes c (nodes_in xs) (now ∙ sym many) links-same in
          let r : c.root ≡ root = second.root ∙ first.root in
          let s : c.spare ≡ spare = second.spare ∙ first.spare in
          ap (λ ns. record { nodes = ns; root = c.root; spare = c.spare }) nodes ∙ ap (λ n. record { nodes = map words xs; root = n; spare = c.spare }) r ∙ ap (λ n. record { nodes = map words xs; root = root; spare = n }) s

    pub IsSwapped-entries : IsSwapped (map entry xs) (map entry ys) i j
    IsSwapped-entries = record {
      same_length = length-map ys entry ∙ each ∙ sym (length-map xs entry);
      first = slice_get-map entry ys i ∙ ap (option_map entry) (slice_get-moved xs ys i j each (omega arith) k swapped.0) ∙ sym (slice_get-map entry xs j);
      second = slice_get-map entry ys j ∙ ap (option_map entry) (slice_get-moved xs ys j i each (omega arith) h swapped.1) ∙ sym (slice_get-map entry xs i);
      elsewhere = λ n ne_i ne_j. slice_get-map entry ys n ∙ ap (option_map entry) (slice_get-swap_other xs ys i j n each swapped ne_i ne_j) ∙ sym (slice_get-map entry xs n);
    }

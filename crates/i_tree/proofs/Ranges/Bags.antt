-- What the calls of a bucket tree do to its bag, which is what its pool keeps and is live.
use Rattle.std.proofs.Common.{◌≡◌, ◌≢◌, ◌↔◌, ℕ, zero, suc, ◌≤◌, ◌<◌, List, [], ◌∷◌, ◌++◌, map, filter, bit_and, Bool, true, false, not, ◌&&◌, ◌==◌, nat_le, if◌then◌else◌, refl, sym, ap, ◌∙◌, arith, Some, slice_get, IsPermutation}
use Rattle.std.proofs.lemmas.Bool.{eq-eqb, eqb-true, leb-true, le-leb}
use Rattle.std.proofs.lemmas.List.Sorted.{IsPermutation-sym, IsPermutation-map, length_permutation}
use Rattle.std.proofs.lemmas.Nat.Bits.{bit_at-zero, bit_at-lt}
use Rattle.std.specs.Int.{bit_at}
use Rattle.i_tree.specs.Ranges.Masks.{place_mask, intersect_mask, ShareBit}
use Rattle.i_tree.specs.Bag.{Insertion, meets}
use Rattle.i_tree.specs.Ranges.Nodes.{has_node, gather, is_taken, left_to_walk, least_node}
use Rattle.i_tree.specs.Ranges.Pool.{mentions, named_at, is_held, is_torn, picked, AreNamed, AreSpare, IsOnePool, IsKept, IsPurgedTo}
use Rattle.i_tree.proofs.Ranges.Shares.{share_iff_overlap, least_node_of, both_true}
use Rattle.i_tree.proofs.Ranges.Filters.{filter_and, filter_like, and_flip}
use Rattle.i_tree.proofs.Trees.Lists.{filter_map_like, map_after}
use Rattle.i_tree.proofs.Ranges.PoolNames.{by_equal, read_at, some_bit, mentions-last, mentions-none}
use Rattle.i_tree.proofs.Ranges.Pools.{held_if, nothing_left, AreSpare-none}
use Rattle.i_tree.proofs.Ranges.PoolWalks.{shared_node, walk_picks}

-- tests that agree on each element of a list
filter_at : {X : Type 0} (p q : X → Bool) (xs : List X) → ((i : ℕ) (x : X) → slice_get xs i ≡ Some x → p x ≡ q x) → filter p xs ≡ filter q xs
filter_at p q [] h = refl
filter_at p q (x ∷ xs) h = rw (h 0 x refl, filter_at p q xs (λ i y e. h (suc i) y e)) refl

none_passes : {X : Type 0} (p : X → Bool) (xs : List X) → filter p xs ≡ [] → (i : ℕ) (x : X) → slice_get xs i ≡ Some x → p x ≡ false
none_passes p [] none i x s = cc
none_passes p (y ∷ ys) none zero x s = by (p y) refl where
  same : y ≡ x
  same = cc

  by : (b : Bool) → p y ≡ b → p x ≡ false
  by true on = absurd (let more : y ∷ filter p ys ≡ [] = rw on at none in cc)
  by false off = ap p (sym same) ∙ off
none_passes p (y ∷ ys) none (suc i) x s = by (p y) refl (λ rest. none_passes p ys rest i x s) where
  by : (b : Bool) → p y ≡ b → (filter p ys ≡ [] → p x ≡ false) → p x ≡ false
  by true on later = absurd (let more : y ∷ filter p ys ≡ [] = rw on at none in cc)
  by false off later = later (rw off at none)

drop_one : (a h b : Bool) → (a ≡ false → b ≡ false) → ((a && h) && b) ≡ (b && h)
drop_one true h b e = and_flip h b
drop_one false h b e = rw (e refl) refl

last_in : (l n h : Bool) → ((l && n) && h) ≡ (l && (h && n))
last_in true n h = and_flip n h
last_in false n h = refl

-- what stands in a walk's way is just what it wants
all_three : (l h m z : Bool) → (z ≡ false → (l ≡ true) × ((h ≡ true) × (m ≡ true))) → (l ≡ true → h ≡ true → m ≡ true → z ≡ false) → ((l && h) && m) ≡ not z
all_three l h m false there back = let f = there refl in rw (f.0, f.1.0, f.1.1) refl
all_three true true true true there back = absurd (let f : true ≡ false = back refl refl refl in cc)
all_three false h m true there back = refl
all_three true false m true there back = refl
all_three true true false true there back = refl

left_at_start : {C : Type 0} (place : C → ℕ) (at : ℕ → List C) (query : ℕ) → gather (is_taken place query) at 0 63 ≡ left_to_walk place at query 0 (at 0)
unfolding gather
left_at_start place at query = refl

module _ {C V : Type 0} (first last named : C → ℕ) (value : C → V) where
  abbrev pub as_insertion : C → Insertion V
  as_insertion c = record { first = first c; last = last c; value = value c }

  -- what of a pool is live, as a bag has it
  abbrev pub bag_of : (V → Bool) → List C → List (Insertion V)
  bag_of live pool = map (λ c. record { first = first c; last = last c; value = value c }) (filter (λ c. live (value c) && is_held named c) pool)

  pub bag_later : (live live' : V → Bool) → ((v : V) → live v ≡ false → live' v ≡ false) → (pool : List C) → filter (λ (i : Insertion V). live' i.value) (bag_of live pool) ≡ bag_of live' pool
  bag_later live live' weaker pool =
      filter_map_like (λ (i : Insertion V). live' i.value) as_insertion (filter (λ c. live (value c) && is_held named c) pool)
      ∙ ap (map as_insertion) (filter_and (λ c. live' (value c)) (λ c. live (value c) && is_held named c) pool ∙ filter_like _ _ (λ c. drop_one (live (value c)) (is_held named c) (live' (value c)) (weaker (value c))) pool)

  module _ (live : V → Bool) (old new : List C) (place : ℕ) (entity : C) (kept : IsKept named old new place entity) (placed : named entity ≡ place_mask (first entity) (last entity)) where
    pub bag_with : (live' : V → Bool) → ((v : V) → live v ≡ false → live' v ≡ false) → is_held named entity ≡ true → IsPermutation (filter (λ (i : Insertion V). live' i.value) (record { first = first entity; last = last entity; value = value entity } ∷ bag_of live old)) (bag_of live' new)
    bag_with live' weaker held = rw (by (live' (value entity)) refl) (IsPermutation-map as_insertion _ _ (kept.kept (λ c. live' (value c)))) where
      by : (b : Bool) → live' (value entity) ≡ b → filter (λ (i : Insertion V). live' i.value) (as_insertion entity ∷ bag_of live old) ≡ map as_insertion (filter (λ c. live' (value c) && is_held named c) (entity ∷ old))
      by true e = rw (e, held, bag_later live live' weaker old) refl
      by false e = rw (e, bag_later live live' weaker old) refl

    pub bag_with_later : (live' : V → Bool) → ((v : V) → live v ≡ false → live' v ≡ false) → is_held named entity ≡ true → IsPermutation (filter (λ (i : Insertion V). live' i.value) (record { first = first entity; last = last entity; value = value entity } ∷ bag_of live old)) (filter (λ (i : Insertion V). live' i.value) (bag_of live new))
    bag_with_later live' weaker held = rw (bag_later live live' weaker new) (bag_with live' weaker held)

    names_kept : (at at' : ℕ → List ℕ) → ((n : ℕ) → n < 63 → at' n ≡ (if has_node (named entity) n then at n ++ place ∷ [] else at n)) → AreNamed named old at → AreNamed named new at'
    names_kept at at' writes names = record { names = λ other n inside. ap (mentions other) (writes n inside) ∙ by other n (names.names other n inside) (has_node (named entity) n) refl } where
      apart : (other : ℕ) → (place == other) ≡ false → other ≢ place
      apart other f same = let t : (place == other) ≡ true = eq-eqb _ _ (sym same) in cc

      bit_of_new : (n : ℕ) → (b : Bool) → has_node (named entity) n ≡ b → bit_at (named entity) n ≡ (if b then 1 else 0)
      bit_of_new n true e = eqb-true _ _ e
      bit_of_new n false e = let most = bit_at-lt (named entity) n in let apart : bit_at (named entity) n ≢ 1 = λ one. let t : has_node (named entity) n ≡ true = eq-eqb _ _ one in cc in omega arith

      by : (other n : ℕ) → mentions other (at n) ≡ bit_at (named_at named old other) n → (b : Bool) → has_node (named entity) n ≡ b → mentions other (if has_node (named entity) n then at n ++ place ∷ [] else at n) ≡ bit_at (named_at named new other) n
      by other n was true e = rw e (mentions-last other place (at n) ∙ by_equal place other
          (λ f same.
          let vacant : bit_at (named_at named old other) n ≡ 0 = ap (λ p. bit_at (named_at named old p) n) (sym same) ∙ ap (λ m. bit_at m n) kept.vacant ∙ bit_at-zero n in
          let now : bit_at (named_at named new other) n ≡ 1 = ap (λ p. bit_at (named_at named new p) n) (sym same) ∙ ap (λ m. bit_at m n) kept.here ∙ bit_of_new n true e in
          rw f (omega arith))
          (λ f. let stays : bit_at (named_at named new other) n ≡ bit_at (named_at named old other) n = ap (λ m. bit_at m n) (kept.others other (apart other f)) in rw f (omega arith)))
      by other n was false e = rw e (was ∙ by_equal place other
          (λ f same.
          let vacant : bit_at (named_at named old other) n ≡ 0 = ap (λ p. bit_at (named_at named old p) n) (sym same) ∙ ap (λ m. bit_at m n) kept.vacant ∙ bit_at-zero n in
          let now : bit_at (named_at named new other) n ≡ 0 = ap (λ p. bit_at (named_at named new p) n) (sym same) ∙ ap (λ m. bit_at m n) kept.here ∙ bit_of_new n false e in
          omega arith)
          (λ f. sym (ap (λ m. bit_at m n) (kept.others other (apart other f)))))

    whole_kept : (alive : C → Bool) → filter (λ c. alive c && is_torn first last named c) old ≡ [] → filter (λ c. alive c && is_torn first last named c) new ≡ []
    whole_kept alive whole = nothing_left _ (omega (arith, length_permutation _ _ all)) where
      is_placed : C → Bool
      is_placed c = named c == place_mask (first c) (last c)

      reorder : (xs : List C) → filter (λ c. (alive c && not (named c == place_mask (first c) (last c))) && is_held named c) xs ≡ filter (λ c. alive c && is_torn first last named c) xs
      reorder xs = filter_like _ _ (λ c. last_in (alive c) (not (named c == place_mask (first c) (last c))) (is_held named c)) xs

      entity_goes : filter (λ c. alive c && is_torn first last named c) (entity ∷ old) ≡ []
      entity_goes = let e : (named entity == place_mask (first entity) (last entity)) ≡ true = eq-eqb _ _ placed in rw (e, gone (alive entity) (is_held named entity)) whole where
        gone : (a h : Bool) → (a && (h && false)) ≡ false
        gone true true = refl
        gone true false = refl
        gone false h = refl

      all : IsPermutation [] (filter (λ c. alive c && is_torn first last named c) new)
      all = let moved = kept.kept (λ c. alive c && not (named c == place_mask (first c) (last c))) in rw (reorder (entity ∷ old), reorder new, entity_goes) at moved

    -- with an insertion more, each has one place
    pub IsOnePool-kept : (alive : C → Bool) (at at' : ℕ → List ℕ) (spares spares' : List ℕ) (capacity capacity' : ℕ) → ((n : ℕ) → n < 63 → at' n ≡ (if has_node (named entity) n then at n ++ place ∷ [] else at n)) → AreSpare named new spares' capacity' → IsOnePool first last named alive old at spares capacity → IsOnePool first last named alive new at' spares' capacity'
    IsOnePool-kept alive at at' spares spares' capacity capacity' writes spare one = record { names = names_kept at at' writes one.names; spare = spare; whole = whole_kept alive one.whole }

  -- what a purge at a time leaves
  module _ (live live' : V → Bool) (weaker : (v : V) → live v ≡ false → live' v ≡ false) (mask : ℕ) (old new : List C) (at' : ℕ → List ℕ) (purged : IsPurgedTo named (λ c. live' (value c)) mask 63 old new at') where
    pub IsOnePool-purged : (at : ℕ → List ℕ) (spares spares' : List ℕ) (capacity capacity' : ℕ) → AreSpare named new spares' capacity' → IsOnePool first last named (λ c. live (value c)) old at spares capacity → IsOnePool first last named (λ c. live' (value c)) new at' spares' capacity'
    IsOnePool-purged at spares spares' capacity capacity' spare one = record {
      names = purged.names;
      spare = spare;
      whole = purged.stays (is_torn first last named) ∙ sym (filter_and (λ c. live' (value c)) (λ c. live (value c) && is_torn first last named c) old ∙ filter_like _ _ (λ c. drop_one (live (value c)) (is_torn first last named c) (live' (value c)) (weaker (value c))) old) ∙ ap (filter (λ c. live' (value c))) one.whole;
    }

    pub bag_purged : bag_of live' new ≡ filter (λ (i : Insertion V). live' i.value) (bag_of live old)
    bag_purged = ap (map as_insertion) (purged.stays (is_held named)) ∙ sym (bag_later live live' weaker old)

    module _ (ordered : (c : C) → first c ≤ last c) (inside : (c : C) → last c ≤ 31) (low high : ℕ) (mask_is : mask ≡ intersect_mask low high) (low_high : low ≤ high) (inside_high : high < 32) (whole : filter (λ c. live' (value c) && is_torn first last named c) new ≡ []) where
      shares : (c : C) → named c ≡ place_mask (first c) (last c) → ShareBit (named c) mask ↔ ((first c ≤ high) × (low ≤ last c))
      shares c placed = rw (placed, mask_is) (share_iff_overlap (first c) (last c) low high (ordered c) (omega (arith, inside c)) low_high inside_high)

      placed_if : (l h p : Bool) → (l && (h && not p)) ≡ false → l ≡ true → h ≡ true → p ≡ true
      placed_if true true true e a b = refl
      placed_if true true false e a b = cc
      placed_if true false p e a b = cc
      placed_if false h p e a b = cc

      wanted : (i : ℕ) (c : C) → slice_get new i ≡ Some c → ((live' (value c) && is_held named c) && meets low high (as_insertion c)) ≡ not (bit_and (named c) mask == 0)
      wanted i c here = all_three (live' (value c)) (is_held named c) (meets low high (as_insertion c)) (bit_and (named c) mask == 0) there back where
        named_is : named_at named new i ≡ named c
        named_is = read_at named new i c 0 here

        placed : live' (value c) ≡ true → is_held named c ≡ true → named c ≡ place_mask (first c) (last c)
        placed l h = eqb-true _ _ (placed_if (live' (value c)) (is_held named c) (named c == place_mask (first c) (last c)) (none_passes _ new whole i c here) l h)

        there : (bit_and (named c) mask == 0) ≡ false → (live' (value c) ≡ true) × ((is_held named c ≡ true) × (meets low high (as_insertion c) ≡ true))
        there apart =
            let share : ShareBit (named c) mask = λ z. let t : (bit_and (named c) mask == 0) ≡ true = eq-eqb _ _ z in cc in
            let node = shared_node named new at' purged.names low high mask mask_is i (rw named_is share) in
            let at_node : 0 < mentions i (at' (least_node (bit_and (named_at named new i) mask))) = let is = purged.names.names i _ node.0 in let on = node.1.0 in omega arith in
            let l : live' (value c) ≡ true = sym (read_at (λ d. live' (value d)) new i c true here) ∙ purged.clean _ node.0 (eq-eqb _ _ node.1.1) i at_node in
            let some : named c ≢ 0 = λ z. share (ap (λ m. bit_and m mask) z) in
            let h : is_held named c ≡ true = held_if named c (named c) refl (omega (arith, some)) in
            let o = (shares c (placed l h)).0 share in
            let a : nat_le (first c) high ≡ true = le-leb _ _ o.0 in
            let b : nat_le low (last c) ≡ true = le-leb _ _ o.1 in
            (l, (h, rw (a, b) refl))

        back : live' (value c) ≡ true → is_held named c ≡ true → meets low high (as_insertion c) ≡ true → (bit_and (named c) mask == 0) ≡ false
        back l h m =
            let ends = both_true (nat_le (first c) high) (nat_le low (last c)) m in
            let share = (shares c (placed l h)).1 (leb-true _ _ ends.0, leb-true _ _ ends.1) in
            by_equal (bit_and (named c) mask) 0 (λ e z. absurd (share z)) (λ e. e)

      -- a walk yields each live insertion that meets the query once, and no other
      pub walk_yields : IsPermutation (map (λ (i : Insertion V). i.value) (filter (meets low high) (filter (λ (i : Insertion V). live' i.value) (bag_of live old)))) (map value (picked new (left_to_walk (named_at named new) at' mask 0 (at' 0))))
      walk_yields =
          rw (← bag_purged, filter_map_like (meets low high) as_insertion, map_after, filter_and (λ c. meets low high (as_insertion c)) (λ c. live' (value c) && is_held named c) new, filter_at _ _ new wanted, ← left_at_start (named_at named new) at' mask)
          (IsPermutation-map value _ _ (IsPermutation-sym _ _ (walk_picks named new at' purged.names low high mask mask_is)))

-- an insertion is held as soon as it is placed
pub placed_is_held : (first last mask : ℕ) → first ≤ last → last ≤ 31 → mask ≡ place_mask first last → not (mask == 0) ≡ true
placed_is_held first last mask a b placed = held_if (λ m. m) mask mask refl (some_bit mask (least_node (place_mask first last)) (ap (λ m. bit_at m (least_node (place_mask first last))) placed ∙ least_node_of first last a (omega (arith, b))))

-- a tree with no insertion
pub IsOnePool-none : {C : Type 0} (first last named : C → ℕ) (live : C → Bool) (at : ℕ → List ℕ) (capacity : ℕ) → ((n : ℕ) → n < 63 → at n ≡ []) → IsOnePool first last named live [] at [] capacity
IsOnePool-none first last named live at capacity none = record {
  names = record { names = λ place n inside. ap (mentions place) (none n inside) ∙ mentions-none place ∙ sym (bit_at-zero n) };
  spare = AreSpare-none named capacity;
  whole = refl;
}

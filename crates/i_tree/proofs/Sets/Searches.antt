-- What a search of a set tells of a key: the value that it names is equal to the key, or none is.
use Rattle.std.proofs.Common.{◌≡◌, ◌≢◌, ℕ, suc, ◌≤◌, List, [], ◌∷◌, get_or, map, false, if◌then◌else◌, All, Contains, inl, inr, refl, sym, ap, ◌∙◌, arith}
use Rattle.std.proofs.lemmas.List.{get_or-map, length-map}
use Rattle.std.proofs.lemmas.List.Elements.{All-nil, All-cons, All-head, All-tail}
use Rattle.std.specs.Cmp.{IsTotalOrder}
use Rattle.std.specs.Ordering.{is_le, ordering_index}
use Rattle.std.specs.declared.cmp.Ordering.{Ordering}
use Rattle.std.specs.declared.cmp.Ordering.TheVariants.{Less, Equal, Greater}
use Rattle.i_tree.specs.IndexedSet.{IndexedSet, IsNamed, HasIndex, values_of, indexes_of, AreRising, IsNewSetKey, IsMonotoneBy, IsUnlike, index_sought}
use Rattle.i_tree.proofs.Keys.Orders.{IsLawful-total}
use Rattle.i_tree.proofs.Keys.Places.{rank_rises, among_head, among_tail}

module _ {K V : Type 0} (cmp : K → K → Ordering) (key : V → K) (total : IsTotalOrder cmp) (sought : K) where
  ranks : (a b : K) → cmp a b ≡ Less → ordering_index (cmp a sought) ≤ ordering_index (cmp b sought)
  ranks a b less =
      let two : List (K × ℕ) = (a, 0) ∷ (b, 0) ∷ [] in
      rank_rises cmp sought two (IsLawful-total cmp total sought two) a b (among_head sought (a, 0) ((b, 0) ∷ [])) (among_tail sought (a, 0) ((b, 0) ∷ []) b (among_head sought (b, 0) [])) less

  -- along rising keys their order to one key is monotone
  pub IsMonotoneBy-rising : (xs : List V) → AreRising cmp key xs → IsMonotoneBy key (λ k. cmp k sought) xs
  IsMonotoneBy-rising [] rising = tt
  IsMonotoneBy-rising (x ∷ xs) rising = (λ i d h. ranks (key x) (key (get_or xs i d)) (rising.0 i d h), IsMonotoneBy-rising xs rising.1)

-- no value is Equal, or the index is that of one that is
pub data Tells {K V : Type 0} (key : V → K) (by : K → Ordering) (index : ℕ) (entries : List (ℕ × V)) : Type 0 where
  absent : All (λ value. by (key value) ≢ Equal) (map (λ entry. entry.1) entries) → Tells key by index entries
  present : (value : V) → Contains entries (index, value) → by (key value) ≡ Equal → Tells key by index entries

-- what is no lower than Equal and isn't Equal is Greater
above_equal : (o : Ordering) → ordering_index Equal ≤ ordering_index o → o ≢ Equal → is_le o ≡ false
above_equal Less h n = absurd (omega arith)
above_equal Equal h n = absurd (n refl)
above_equal Greater h n = refl

module _ {K V : Type 0} (key : V → K) (by : K → Ordering) where
  -- where every value is Greater no index is found
  none_found : (none : ℕ) (es : List (ℕ × V)) → All (λ value. is_le (by (key value)) ≡ false) (map (λ entry. entry.1) es) → index_sought key by none es ≡ none
  none_found none [] h = refl
  none_found none (e ∷ es) h =
      ap (λ b. index_sought key by (if b then e.0 else none) es) (All-head (λ value. is_le (by (key value)) ≡ false) e.1 (map (λ entry. entry.1) es) h)
      ∙ none_found none es (All-tail (λ value. is_le (by (key value)) ≡ false) e.1 (map (λ entry. entry.1) es) h)

  pub index_sought-tells : (none : ℕ) (es : List (ℕ × V)) → IsMonotoneBy key by (map (λ entry. entry.1) es) → Tells key by (index_sought key by none es) es
  index_sought-tells none [] mono = absent (All-nil (λ value. by (key value) ≢ Equal))
  index_sought-tells none (e ∷ es) mono = step (by (key e.1)) refl (index_sought-tells (if is_le (by (key e.1)) then e.0 else none) es mono.1) where
    found : ℕ
    found = index_sought key by (if is_le (by (key e.1)) then e.0 else none) es

    step : (o : Ordering) → by (key e.1) ≡ o → Tells key by found es → Tells key by found (e ∷ es)
    step o is (present value c equal) = present value (suc c.0, omega arith, c.2) equal
    step Less is (absent all) = absent (All-cons (λ value. by (key value) ≢ Equal) e.1 (map (λ entry. entry.1) es) (λ f. cc) all)
    step Greater is (absent all) = absent (All-cons (λ value. by (key value) ≢ Equal) e.1 (map (λ entry. entry.1) es) (λ f. cc) all)
    step Equal is (absent all) =
        let greater : All (λ value. is_le (by (key value)) ≡ false) (map (λ entry. entry.1) es) = λ i d h. above_equal (by (key (get_or (map (λ entry. entry.1) es) i d))) (rw is at (mono.0 i d h)) (all i d h) in
        let here : found ≡ e.0 = none_found (if is_le (by (key e.1)) then e.0 else none) es greater ∙ ap (λ o. if is_le o then e.0 else none) is in
        present e.1 (0, omega arith, ap (λ i. (i, e.1)) (sym here)) is

-- an index names one value
one_value : {V : Type 0} (none : ℕ) (set : IndexedSet V) → IsNamed none set → (index : ℕ) (v w : V) → Contains set.entries (index, v) → Contains set.entries (index, w) → v ≡ w
one_value none set named index v w c d =
    let first : get_or (indexes_of set) c.0 0 ≡ index = get_or-map (λ entry. entry.0) set.entries c.0 (index, v) 0 c.1 ∙ ap (λ entry. entry.0) c.2 in
    let other : get_or (indexes_of set) d.0 0 ≡ index = get_or-map (λ entry. entry.0) set.entries d.0 (index, w) 0 d.1 ∙ ap (λ entry. entry.0) d.2 in
    let same : c.0 ≡ d.0 = named.apart c.0 d.0 c.1 d.1 (first ∙ sym other) in
    let one : get_or (values_of set) d.0 v ≡ v = rw (← same) (get_or-map (λ entry. entry.1) set.entries c.0 (index, v) v c.1 ∙ ap (λ entry. entry.1) c.2) in
    let two : get_or (values_of set) d.0 v ≡ w = get_or-map (λ entry. entry.1) set.entries d.0 (index, w) v d.1 ∙ ap (λ entry. entry.1) d.2 in
    sym one ∙ two

HasIndex-entry : {V : Type 0} (set : IndexedSet V) (index : ℕ) (value : V) → Contains set.entries (index, value) → HasIndex set index
HasIndex-entry set index value c =
    (c.0, rw length-map c.1, get_or-map (λ entry. entry.0) set.entries c.0 (index, value) index c.1 ∙ ap (λ entry. entry.0) c.2)

-- what a search by a key's own order in a set whose values rise tells of the key
module _ {K V : Type 0} (cmp : K → K → Ordering) (key : V → K) (total : IsTotalOrder cmp) (sought : K) (none : ℕ) (set : IndexedSet V) (rising : AreRising cmp key (values_of set)) where
  pub IsMonotoneBy-key : IsMonotoneBy key (λ k. cmp k sought) (values_of set)
  IsMonotoneBy-key = IsMonotoneBy-rising cmp key total sought (values_of set) rising

  tells : Tells key (λ k. cmp k sought) (index_sought key (λ k. cmp k sought) none set.entries) set.entries
  tells = index_sought-tells key (λ k. cmp k sought) none set.entries IsMonotoneBy-key

  -- where no value has the index the key is new
  IsNewSetKey-no_index : (HasIndex set (index_sought key (λ k. cmp k sought) none set.entries) → ⊥) → IsNewSetKey cmp key sought (values_of set)
  IsNewSetKey-no_index never = by tells where
    by : Tells key (λ k. cmp k sought) (index_sought key (λ k. cmp k sought) none set.entries) set.entries → IsNewSetKey cmp key sought (values_of set)
    by (absent all) = all
    by (present value c equal) = absurd (never (HasIndex-entry set (index_sought key (λ k. cmp k sought) none set.entries) value c))

  -- and where the value that has it is unlike the key
  IsNewSetKey-unlike : IsNamed none set → (value : V) → Contains set.entries (index_sought key (λ k. cmp k sought) none set.entries, value) → cmp (key value) sought ≢ Equal → IsNewSetKey cmp key sought (values_of set)
  IsNewSetKey-unlike named value c unlike = by tells where
    by : Tells key (λ k. cmp k sought) (index_sought key (λ k. cmp k sought) none set.entries) set.entries → IsNewSetKey cmp key sought (values_of set)
    by (absent all) = all
    by (present other d equal) = absurd (unlike (rw (one_value none set named (index_sought key (λ k. cmp k sought) none set.entries) value other c d) equal))

  -- so it is new where the index is not that of an equal key
  pub IsNewSetKey-searched : IsNamed none set → (index : ℕ) → index ≡ index_sought key (λ k. cmp k sought) none set.entries → IsUnlike cmp key index sought set → IsNewSetKey cmp key sought (values_of set)
  IsNewSetKey-searched named index is unlike = by (rw is at unlike) where
    by : IsUnlike cmp key (index_sought key (λ k. cmp k sought) none set.entries) sought set → IsNewSetKey cmp key sought (values_of set)
    by (inl never) = IsNewSetKey-no_index never
    by (inr (value, (c, ne))) = IsNewSetKey-unlike named value c ne

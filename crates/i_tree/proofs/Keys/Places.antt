-- What a search finds among entries along which the answers rise.
use Rattle.std.proofs.Common.{◌≡◌, ◌≢◌, ℕ, suc, ◌+◌, ◌≤◌, List, [], ◌∷◌, false, All, Any, Contains, get_or, refl, sym, ap, ◌∙◌, inl, inr, arith, Result, Ok, Err}
use Rattle.std.proofs.lemmas.List.Elements.{All-nil, All-cons, All-head, All-tail, All-weaker, All-contains_itself}
use Rattle.std.specs.Ordering.{is_lt, ordering_index, ordering_reverse}
use Rattle.std.specs.declared.cmp.Ordering.{Ordering}
use Rattle.std.specs.declared.cmp.Ordering.TheVariants.{Less, Equal, Greater}
use Rattle.i_tree.specs.LiveList.{IsRising, IsLawful, IsAmong}
use Rattle.i_tree.specs.KeyAnswers.{last_where, IsMonotone}
use Rattle.i_tree.specs.Search.{after_one, seen, place_of, stop_of, value_before_place}

-- a search that began n places further on
abbrev pub further : ℕ → Result ℕ ℕ → Result ℕ ℕ
further n (Ok at) = Ok (n + at)
further n (Err at) = Err (n + at)

pub further-after_one : (n : ℕ) (r : Result ℕ ℕ) → further n (after_one r) ≡ further (n + 1) r
further-after_one n (Ok at) = ap Ok (omega arith)
further-after_one n (Err at) = ap Err (omega arith)

-- an answer that stands no lower than another that isn't Less isn't Less either
not_less_above : (a b : Ordering) → is_lt a ≡ false → ordering_index a ≤ ordering_index b → is_lt b ≡ false
not_less_above Less b e h = cc
not_less_above Equal Less e h = absurd (omega arith)
not_less_above Greater Less e h = absurd (omega arith)
not_less_above a Equal e h = refl
not_less_above a Greater e h = refl

index_le : (a : Ordering) → ordering_index a ≤ 2
index_le Less = omega arith
index_le Equal = omega arith
index_le Greater = omega arith

not_equal_above : (b : Ordering) → 2 ≤ ordering_index b → b ≢ Equal
not_equal_above Less h = absurd (omega arith)
not_equal_above Equal h = absurd (omega arith)
not_equal_above Greater h = λ e. cc

pub stop_of-after_one : (r : Result ℕ ℕ) → stop_of (after_one r) ≡ suc (stop_of r)
stop_of-after_one (Ok at) = omega arith
stop_of-after_one (Err at) = omega arith

module _ {K V : Type 0} (by : K → Ordering) where
  -- where no entry is Less the last that is Less is the default
  pub last_where-none : (default : V) (es : List (K × V)) → All (λ entry. is_lt (by entry.0) ≡ false) es → last_where (λ k. is_lt (by k)) default es ≡ default
  last_where-none default [] none = refl
  last_where-none default (x ∷ xs) none =
      rw (All-head (λ entry. is_lt (by entry.0) ≡ false) x xs none) (last_where-none default xs (All-tail (λ entry. is_lt (by entry.0) ≡ false) x xs none))

  -- past the first entry that isn't Less none is
  pub none_Less_after : (x : K × V) (xs : List (K × V)) → IsMonotone by (x ∷ xs) → is_lt (by x.0) ≡ false → All (λ entry. is_lt (by entry.0) ≡ false) xs
  none_Less_after x xs mono e = All-weaker (λ later. ordering_index (by x.0) ≤ ordering_index (by later.0)) (λ entry. is_lt (by entry.0) ≡ false) (λ y h. not_less_above (by x.0) (by y.0) e h) xs mono.0

  -- the value before the place is the last that is Less
  pub last_where-place : (default : V) (es : List (K × V)) → IsMonotone by es → value_before_place default es (stop_of (place_of by es)) ≡ last_where (λ k. is_lt (by k)) default es
  last_where-place default [] mono = refl
  last_where-place default (x ∷ xs) mono = step (by x.0) refl (last_where-place x.1 xs mono.1) where
    step : (o : Ordering) → by x.0 ≡ o → value_before_place x.1 xs (stop_of (place_of by xs)) ≡ last_where (λ k. is_lt (by k)) x.1 xs → value_before_place default (x ∷ xs) (stop_of (place_of by (x ∷ xs))) ≡ last_where (λ k. is_lt (by k)) default (x ∷ xs)
    step Less e rest = rw (e, stop_of-after_one) rest
    step Equal e rest = rw e (sym (last_where-none default xs (none_Less_after x xs mono (ap is_lt e))))
    step Greater e rest = rw e (sym (last_where-none default xs (none_Less_after x xs mono (ap is_lt e))))

  -- an entry where the search says Ok is Equal
  pub Equal-at_Ok : (es : List (K × V)) (at : ℕ) (d : K × V) → place_of by es ≡ Ok at → by (get_or es at d).0 ≡ Equal
  Equal-at_Ok [] at d e = cc
  Equal-at_Ok (x ∷ xs) at d e = step (by x.0) (place_of by xs) refl refl e (λ i. Equal-at_Ok xs i d) where
    step : (o : Ordering) (r : Result ℕ ℕ) → by x.0 ≡ o → place_of by xs ≡ r → seen o r ≡ Ok at → ((i : ℕ) → place_of by xs ≡ Ok i → by (get_or xs i d).0 ≡ Equal) → by (get_or (x ∷ xs) at d).0 ≡ Equal
    step Less (Ok i) e p q rest = let same : i + 1 ≡ at = cc in let next : suc i ≡ at = omega arith in rw (← next) (rest i p)
    step Less (Err i) e p q rest = cc
    step Equal r e p q rest = let same : 0 ≡ at = cc in rw (← same) e
    step Greater r e p q rest = cc

  pub Any_Equal-at_Ok : (es : List (K × V)) (at : ℕ) → place_of by es ≡ Ok at → Any (λ entry. by entry.0 ≡ Equal) es
  Any_Equal-at_Ok [] at e = cc
  Any_Equal-at_Ok (x ∷ xs) at e = step (by x.0) (place_of by xs) refl refl e (λ i. Any_Equal-at_Ok xs i) where
    step : (o : Ordering) (r : Result ℕ ℕ) → by x.0 ≡ o → place_of by xs ≡ r → seen o r ≡ Ok at → ((i : ℕ) → place_of by xs ≡ Ok i → Any (λ entry. by entry.0 ≡ Equal) xs) → Any (λ entry. by entry.0 ≡ Equal) (x ∷ xs)
    step Less (Ok i) e p q rest = let one = rest i p in (suc one.0, one.1, omega arith, one.3, one.4)
    step Less (Err i) e p q rest = cc
    step Equal r e p q rest = (0, x, omega arith, refl, e)
    step Greater r e p q rest = cc

  -- no entry is Equal where the search says Err
  pub none_Equal-at_Err : (es : List (K × V)) (at : ℕ) → IsMonotone by es → place_of by es ≡ Err at → All (λ entry. by entry.0 ≢ Equal) es
  none_Equal-at_Err [] at mono e = All-nil (λ entry. by entry.0 ≢ Equal)
  none_Equal-at_Err (x ∷ xs) at mono e = step (by x.0) (place_of by xs) refl refl e (λ i. none_Equal-at_Err xs i mono.1) where
    step : (o : Ordering) (r : Result ℕ ℕ) → by x.0 ≡ o → place_of by xs ≡ r → seen o r ≡ Err at → ((i : ℕ) → place_of by xs ≡ Err i → All (λ entry. by entry.0 ≢ Equal) xs) → All (λ entry. by entry.0 ≢ Equal) (x ∷ xs)
    step Less (Err i) e p q rest = All-cons (λ entry. by entry.0 ≢ Equal) x xs (λ f. cc) (rest i p)
    step Less (Ok i) e p q rest = cc
    step Equal r e p q rest = cc
    step Greater r e p q rest =
        All-cons (λ entry. by entry.0 ≢ Equal) x xs (λ f. cc)
        (All-weaker (λ later. ordering_index (by x.0) ≤ ordering_index (by later.0)) (λ entry. by entry.0 ≢ Equal)
        (λ y h. not_equal_above (by y.0) (let two : ordering_index (by x.0) ≡ 2 = ap ordering_index e in omega arith)) xs mono.0)

-- a key of the list is among its keys
pub among_head : {K V : Type 0} (key : K) (x : K × V) (xs : List (K × V)) → IsAmong key (x ∷ xs) x.0
among_head key x xs = inr (x.1, (0, omega arith, refl))

pub among_tail : {K V : Type 0} (key : K) (x : K × V) (xs : List (K × V)) (k : K) → IsAmong key xs k → IsAmong key (x ∷ xs) k
among_tail key x xs k (inl e) = inl e
among_tail key x xs k (inr h) = let c = h.1 in inr (h.0, (suc c.0, omega arith, c.2))

pub IsLawful-tail : {K V : Type 0} (order : K → K → Ordering) (key : K) (x : K × V) (xs : List (K × V)) → IsLawful order key (x ∷ xs) → IsLawful order key xs
IsLawful-tail order key x xs lawful = record {
  reversed = λ j k hj hk. lawful.reversed j k (among_tail key x xs j hj) (among_tail key x xs k hk);
  through = λ i j k hi hj hk. lawful.through i j k (among_tail key x xs i hi) (among_tail key x xs j hj) (among_tail key x xs k hk);
}

-- each entry's key is among the keys
pub all_among : {K V : Type 0} (key : K) (es : List (K × V)) → All (λ entry. IsAmong key es entry.0) es
all_among key es = All-weaker (Contains es) (λ entry. IsAmong key es entry.0) (λ entry h. inr (entry.1, h)) es (All-contains_itself es)

module _ {K V : Type 0} (order : K → K → Ordering) (key : K) where
  -- an entry's key and a later one's stand to the key in this order
  pub rank_rises : (es : List (K × V)) → IsLawful order key es → (j k : K) → IsAmong key es j → IsAmong key es k → order j k ≡ Less → ordering_index (order j key) ≤ ordering_index (order k key)
  rank_rises es lawful j k hj hk less = by (order j key) (order k key) refl refl where
    by : (a b : Ordering) → order j key ≡ a → order k key ≡ b → ordering_index (order j key) ≤ ordering_index (order k key)
    by Less b e f = rw e (omega arith)
    by a Greater e f = rw (e, f) (index_le a)
    by Equal Equal e f = rw (e, f) (omega arith)
    by Equal Less e f = absurd (let short : order j key ≡ Less = lawful.through j k key hj hk (inl refl) less f in cc)
    by Greater Less e f = absurd (let short : order j key ≡ Less = lawful.through j k key hj hk (inl refl) less f in cc)
    by Greater Equal e f =
        absurd (let below : order key j ≡ Less = lawful.reversed key j (inl refl) hj ∙ ap ordering_reverse e in
        let short : order key k ≡ Less = lawful.through key j k (inl refl) hj hk below less in
        let above : order k key ≡ Greater = lawful.reversed k key hk (inl refl) ∙ ap ordering_reverse short in cc)

  -- the live keys stand to a key that is lawful among them in rising order
  pub IsMonotone-order : (es : List (K × V)) → IsRising order es → IsLawful order key es → IsMonotone (λ k. order k key) es
  IsMonotone-order [] rising lawful = tt
  IsMonotone-order (x ∷ xs) rising lawful =
      (λ i d h. rank_rises (x ∷ xs) lawful x.0 (get_or xs i d).0 (among_head key x xs) (among_tail key x xs (get_or xs i d).0 (all_among key xs i d h)) (rising.0 i d h), IsMonotone-order xs rising.1 (IsLawful-tail order key x xs lawful))

-- past an entry that is Less the search goes on one place further
pub further-Less : {K V : Type 0} (by : K → Ordering) (n : ℕ) (x : K × V) (rest later : List (K × V)) → rest ≡ x ∷ later → Less ≡ by x.0 → further n (place_of by rest) ≡ further (n + 1) (place_of by later)
further-Less by n x rest later e less = rw (e, ← less) (further-after_one n (place_of by later))

-- at one that isn't it ends
pub further-Equal : {K V : Type 0} (by : K → Ordering) (n : ℕ) (x : K × V) (rest later : List (K × V)) → rest ≡ x ∷ later → Equal ≡ by x.0 → Ok n ≡ further n (place_of by rest)
further-Equal by n x rest later e equal = rw (e, ← equal) (ap Ok (omega arith))

pub further-Greater : {K V : Type 0} (by : K → Ordering) (n : ℕ) (x : K × V) (rest later : List (K × V)) → rest ≡ x ∷ later → Greater ≡ by x.0 → Err n ≡ further n (place_of by rest)
further-Greater by n x rest later e greater = rw (e, ← greater) (ap Err (omega arith))

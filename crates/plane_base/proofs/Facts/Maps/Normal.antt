-- Normal lists of entries: they rise, they are told apart by their counts, and `normal` gives them.
use Rattle.std.proofs.Common.{◌≡◌, zero, suc, Bool, true, false, cond, List, [], ◌∷◌, ◌++◌, Option, Some, None, All, AllPairs, IsPermutation, Ordering, Less, Equal, Greater, is_eq, refl, sym, ap, ap₂, ◌∙◌, arith}
use Rattle.std.proofs.lemmas.List.Sorted.{IsPermutation-append_comm}
use Rattle.std.proofs.lemmas.Option.{same_Some}
use Rattle.std.proofs.lemmas.List.Elements.{All-nil, All-cons, All-head, All-tail, All-weaker}
use Rattle.plane_base.specs.Plane.{Edge, edge_order, is_before}
use Rattle.plane_base.specs.Counts.{Counting, Entry, unless_empty, joined, normal, count_at, IsNormal}
use Rattle.plane_base.proofs.Facts.Lists.Rearrangements.{fold_of_permutation}
use Rattle.plane_base.proofs.Facts.Points.Orders.{edge_total, edge_equal, edge_itself, is_equal, less_from_greater, greater_from_less}

-- ---- all pairs of a list

module _ {X : Type 0} (R : X → X → Type 0) where
  pub AllPairs-nil : AllPairs R []
  AllPairs-nil i j d h k = absurd (omega arith)

  pub AllPairs-cons : (x : X) (xs : List X) → All (R x) xs → AllPairs R xs → AllPairs R (x ∷ xs)
  AllPairs-cons x xs first rest zero zero d h k = absurd (omega arith)
  AllPairs-cons x xs first rest zero (suc j) d h k = first j d (omega arith)
  AllPairs-cons x xs first rest (suc i) zero d h k = absurd (omega arith)
  AllPairs-cons x xs first rest (suc i) (suc j) d h k = rest i j d (omega arith) (omega arith)

  pub AllPairs-head : (x : X) (xs : List X) → AllPairs R (x ∷ xs) → All (R x) xs
  AllPairs-head x xs h j d k = h zero (suc j) d (omega arith) (omega arith)

  pub AllPairs-tail : (x : X) (xs : List X) → AllPairs R (x ∷ xs) → AllPairs R xs
  AllPairs-tail x xs h i j d k l = h (suc i) (suc j) d (omega arith) (omega arith)

-- ---- entries that rise

abbrev pub IsAbove : {C : Type 0} → Edge → Entry C → Type 0
IsAbove s e = edge_order s e.edge ≡ Less

abbrev pub IsRising : {C : Type 0} → List (Entry C) → Type 0
IsRising es = AllPairs (λ e f. edge_order e.edge f.edge ≡ Less) es

-- the entry counts for something
abbrev pub IsCounted : {C : Type 0} → Counting C → Entry C → Type 0
IsCounted kind e = kind.is_empty e.count ≡ false

module _ {C : Type 0} where
  pub rising_above : (e : Entry C) (es : List (Entry C)) → IsRising (e ∷ es) → All (IsAbove e.edge) es
  rising_above = AllPairs-head (λ e f. edge_order e.edge f.edge ≡ Less)

  pub rising_rest : (e : Entry C) (es : List (Entry C)) → IsRising (e ∷ es) → IsRising es
  rising_rest = AllPairs-tail (λ e f. edge_order e.edge f.edge ≡ Less)

  pub rising_cons : (e : Entry C) (es : List (Entry C)) → All (IsAbove e.edge) es → IsRising es → IsRising (e ∷ es)
  rising_cons = AllPairs-cons (λ e f. edge_order e.edge f.edge ≡ Less)

  -- what stands above the head of a rising list stands above each entry of it
  pub above_all : (s : Edge) (e : Entry C) (es : List (Entry C)) → edge_order s e.edge ≡ Less → IsRising (e ∷ es) → All (IsAbove s) (e ∷ es)
  above_all s e es h rising =
      All-cons (IsAbove s) e es h
      (All-weaker (IsAbove e.edge) (IsAbove s) (λ f k. edge_total.trans s e.edge f.edge h k) es (rising_above e es rising))

  -- an edge below all entries has no count
  pub count_at_below : (es : List (Entry C)) (s : Edge) → All (IsAbove s) es → count_at es s ≡ None
  count_at_below [] s h = refl
  count_at_below (e ∷ es) s h =
      ap (λ o. cond (is_eq o) (Some e.count) (count_at es s)) (greater_from_less edge_total s e.edge (All-head (IsAbove s) e es h))
      ∙ count_at_below es s (All-tail (IsAbove s) e es h)

  -- in a rising list the head's edge has no other count
  pub count_at_head : (e : Entry C) (es : List (Entry C)) → IsRising (e ∷ es) → count_at es e.edge ≡ None
  count_at_head e es h = count_at_below es e.edge (rising_above e es h)

module _ {C : Type 0} (kind : Counting C) where
  -- ---- what `joined` keeps

  -- `joined` at an entry f, by how e and f stand
  abbrev pub joined_by : Ordering → Entry C → Entry C → List (Entry C) → List (Entry C)
  joined_by o e f rest =
      elim o [
        | Less ↦ unless_empty kind e (f ∷ rest)
        | Equal ↦ unless_empty kind (record { edge = f.edge; count = kind.join e.count f.count }) rest
        | Greater ↦ f ∷ joined kind e rest
      ]

  unless_empty_all : (P : Entry C → Type 0) (e : Entry C) (es : List (Entry C)) → (kind.is_empty e.count ≡ false → P e) → All P es → All P (unless_empty kind e es)
  unless_empty_all P e es h all = by (kind.is_empty e.count) h
    where
      by : (empty : Bool) → (empty ≡ false → P e) → All P (cond empty es (e ∷ es))
      by true h = all
      by false h = All-cons P e es (h refl) all

  -- what holds of the edges holds of them after the entry is joined
  pub joined_edges : (P : Edge → Type 0) (e : Entry C) (es : List (Entry C)) → P e.edge → All (λ f. P f.edge) es → All (λ f. P f.edge) (joined kind e es)
  joined_edges P e [] h all = unless_empty_all (λ f. P f.edge) e [] (λ k. h) all
  joined_edges P e (f ∷ rest) h all = by (edge_order e.edge f.edge) (joined_edges P e rest h (All-tail (λ f. P f.edge) f rest all))
    where
      by : (o : Ordering) → All (λ f. P f.edge) (joined kind e rest) → All (λ f. P f.edge) (joined_by o e f rest)
      by Less k = unless_empty_all (λ f. P f.edge) e (f ∷ rest) (λ n. h) all
      by Equal k = unless_empty_all (λ f. P f.edge) (record { edge = f.edge; count = kind.join e.count f.count }) rest (λ n. All-head (λ f. P f.edge) f rest all) (All-tail (λ f. P f.edge) f rest all)
      by Greater k = All-cons (λ f. P f.edge) f (joined kind e rest) (All-head (λ f. P f.edge) f rest all) k

  pub normal_edges : (P : Edge → Type 0) (es : List (Entry C)) → All (λ f. P f.edge) es → All (λ f. P f.edge) (normal kind es)
  normal_edges P [] all = all
  normal_edges P (e ∷ es) all =
      joined_edges P e (normal kind es) (All-head (λ f. P f.edge) e es all) (normal_edges P es (All-tail (λ f. P f.edge) e es all))

  unless_empty_rising : (e : Entry C) (es : List (Entry C)) → All (IsAbove e.edge) es → IsRising es → IsRising (unless_empty kind e es)
  unless_empty_rising e es h rising = by (kind.is_empty e.count)
    where
      by : (empty : Bool) → IsRising (cond empty es (e ∷ es))
      by true = rising
      by false = rising_cons e es h rising

  pub joined_rising : (e : Entry C) (es : List (Entry C)) → IsRising es → IsRising (joined kind e es)
  joined_rising e [] rising = unless_empty_rising e [] (All-nil (IsAbove e.edge)) rising
  joined_rising e (f ∷ rest) rising = by (edge_order e.edge f.edge) refl (joined_rising e rest later)
    where
      first : All (IsAbove f.edge) rest
      first = rising_above f rest rising

      later : IsRising rest
      later = rising_rest f rest rising

      by : (o : Ordering) → edge_order e.edge f.edge ≡ o → IsRising (joined kind e rest) → IsRising (joined_by o e f rest)
      by Less h k = unless_empty_rising e (f ∷ rest) (above_all e.edge f rest h rising) rising
      by Equal h k = unless_empty_rising (record { edge = f.edge; count = kind.join e.count f.count }) rest first later
      by Greater h k =
          rising_cons f (joined kind e rest)
          (joined_edges (λ s. edge_order f.edge s ≡ Less) e rest (less_from_greater edge_total e.edge f.edge h) first)
          k

  pub normal_rising : (es : List (Entry C)) → IsRising (normal kind es)
  normal_rising [] = AllPairs-nil (λ e f. edge_order e.edge f.edge ≡ Less)
  normal_rising (e ∷ es) = joined_rising e (normal kind es) (normal_rising es)

  joined_counted : (e : Entry C) (es : List (Entry C)) → All (IsCounted kind) es → All (IsCounted kind) (joined kind e es)
  joined_counted e [] all = unless_empty_all (IsCounted kind) e [] (λ k. k) all
  joined_counted e (f ∷ rest) all = by (edge_order e.edge f.edge) (joined_counted e rest later)
    where
      later : All (IsCounted kind) rest
      later = All-tail (IsCounted kind) f rest all

      by : (o : Ordering) → All (IsCounted kind) (joined kind e rest) → All (IsCounted kind) (joined_by o e f rest)
      by Less k = unless_empty_all (IsCounted kind) e (f ∷ rest) (λ n. n) all
      by Equal k = unless_empty_all (IsCounted kind) (record { edge = f.edge; count = kind.join e.count f.count }) rest (λ n. n) later
      by Greater k = All-cons (IsCounted kind) f (joined kind e rest) (All-head (IsCounted kind) f rest all) k

  pub normal_counted : (es : List (Entry C)) → All (IsCounted kind) (normal kind es)
  normal_counted [] = All-nil (IsCounted kind)
  normal_counted (e ∷ es) = joined_counted e (normal kind es) (normal_counted es)

  pub normal_is_normal : (es : List (Entry C)) → All (λ e. is_before e.edge.a e.edge.b ≡ true) es → IsNormal kind (normal kind es)
  normal_is_normal es all = record {
    directed = normal_edges (λ s. is_before s.a s.b ≡ true) es all;
    rising = normal_rising es;
    counted = normal_counted es;
  }

-- ---- what a list counts at an edge

-- the count, unless it is empty
abbrev pub unless_none : {C : Type 0} → Counting C → C → Option C
unless_none kind c = cond (kind.is_empty c) None (Some c)

-- the count joined to what there is
abbrev pub with_count : {C : Type 0} → Counting C → C → Option C → Option C
with_count kind c None = unless_none kind c
with_count kind c (Some d) = unless_none kind (kind.join c d)

-- the counts of the entries at an edge, joined; nothing where there is none, or they are empty
abbrev pub joined_at : {C : Type 0} → Counting C → List (Entry C) → Edge → Option C
joined_at kind [] s = None
joined_at kind (e ∷ es) s = cond (is_eq (edge_order e.edge s)) (with_count kind e.count (joined_at kind es s)) (joined_at kind es s)

module _ {C : Type 0} (kind : Counting C) where
  count_at_unless_empty : (e : Entry C) (es : List (Entry C)) (s : Edge) → count_at es e.edge ≡ None → count_at (unless_empty kind e es) s ≡ cond (is_eq (edge_order e.edge s)) (unless_none kind e.count) (count_at es s)
  count_at_unless_empty e es s h = by (kind.is_empty e.count) (is_eq (edge_order e.edge s)) refl
    where
      by : (empty here : Bool) → is_eq (edge_order e.edge s) ≡ here
          → count_at (cond empty es (e ∷ es)) s ≡ cond here (cond empty None (Some e.count)) (count_at es s)
      by true true k = ap (count_at es) (sym (edge_equal e.edge s (is_equal (edge_order e.edge s) k))) ∙ h
      by true false k = refl
      by false here k = ap (λ b. cond b (Some e.count) (count_at es s)) k

  pub count_at_joined : (e : Entry C) (es : List (Entry C)) (s : Edge) → IsRising es → count_at (joined kind e es) s ≡ cond (is_eq (edge_order e.edge s)) (with_count kind e.count (count_at es s)) (count_at es s)
  count_at_joined e [] s rising = count_at_unless_empty e [] s refl
  count_at_joined e (f ∷ rest) s rising = by (edge_order e.edge f.edge) refl (count_at_joined e rest s (rising_rest f rest rising))
    where
      alone : (here : Bool) (c : C) (o : Option C) → (here ≡ true → o ≡ None) → cond here (unless_none kind c) o ≡ cond here (with_count kind c o) o
      alone true c o h = ap (with_count kind c) (sym (h refl))
      alone false c o h = refl

      level : (here : Bool) (c d : C) (o : Option C) → cond here (unless_none kind (kind.join c d)) o ≡ cond here (with_count kind c (cond here (Some d) o)) (cond here (Some d) o)
      level true c d o = refl
      level false c d o = refl

      later : (here there : Bool) (c d : C) (o joined : Option C) → (there ≡ true → here ≡ false) → joined ≡ cond here (with_count kind c o) o → cond there (Some d) joined ≡ cond here (with_count kind c (cond there (Some d) o)) (cond there (Some d) o)
      later here true c d o joined h e = ap (λ b. cond b (with_count kind c (Some d)) (Some d)) (sym (h refl))
      later here false c d o joined h e = e

      by : (o : Ordering) → edge_order e.edge f.edge ≡ o → count_at (joined kind e rest) s ≡ cond (is_eq (edge_order e.edge s)) (with_count kind e.count (count_at rest s)) (count_at rest s)
          → count_at (joined_by kind o e f rest) s ≡ cond (is_eq (edge_order e.edge s)) (with_count kind e.count (count_at (f ∷ rest) s)) (count_at (f ∷ rest) s)
      by Less h k =
          let none : count_at (f ∷ rest) e.edge ≡ None = count_at_below (f ∷ rest) e.edge (above_all e.edge f rest h rising) in
          count_at_unless_empty e (f ∷ rest) s none
          ∙ alone (is_eq (edge_order e.edge s)) e.count (count_at (f ∷ rest) s) (λ here. ap (count_at (f ∷ rest)) (sym (edge_equal e.edge s (is_equal (edge_order e.edge s) here))) ∙ none)
      by Equal h k =
          count_at_unless_empty (record { edge = f.edge; count = kind.join e.count f.count }) rest s (count_at_head f rest rising)
          ∙ level (is_eq (edge_order f.edge s)) e.count f.count (count_at rest s)
          ∙ ap (λ t. cond (is_eq (edge_order t s)) (with_count kind e.count (count_at (f ∷ rest) s)) (count_at (f ∷ rest) s)) (sym (edge_equal e.edge f.edge h))
      by Greater h k =
          later (is_eq (edge_order e.edge s)) (is_eq (edge_order f.edge s)) e.count f.count (count_at rest s) (count_at (joined kind e rest) s)
          (λ there. ap (λ t. is_eq (edge_order e.edge t)) (sym (edge_equal f.edge s (is_equal (edge_order f.edge s) there))) ∙ ap is_eq h)
          k

  pub count_at_normal : (es : List (Entry C)) (s : Edge) → count_at (normal kind es) s ≡ joined_at kind es s
  count_at_normal [] s = refl
  count_at_normal (e ∷ es) s =
      count_at_joined e (normal kind es) s (normal_rising kind es)
      ∙ ap (λ o. cond (is_eq (edge_order e.edge s)) (with_count kind e.count o) o) (count_at_normal es s)

  -- what a list without empty counts counts at an edge is not empty
  pub count_at_counted : (es : List (Entry C)) (s : Edge) → All (IsCounted kind) es → (c : C) → count_at es s ≡ Some c → kind.is_empty c ≡ false
  count_at_counted [] s all c h = absurd (cc)
  count_at_counted (e ∷ es) s all c h =
      by (is_eq (edge_order e.edge s)) h (count_at_counted es s (All-tail (IsCounted kind) e es all) c)
    where
      by : (here : Bool) → cond here (Some e.count) (count_at es s) ≡ Some c → (count_at es s ≡ Some c → kind.is_empty c ≡ false) → kind.is_empty c ≡ false
      by true h rest = ap kind.is_empty (sym (same_Some e.count c h)) ∙ All-head (IsCounted kind) e es all
      by false h rest = rest h

-- ---- normal lists are told apart by their counts

module _ {C : Type 0} where
  pub count_at_own : (e : Entry C) (es : List (Entry C)) → count_at (e ∷ es) e.edge ≡ Some e.count
  count_at_own e es = ap (λ o. cond (is_eq o) (Some e.count) (count_at es e.edge)) (edge_itself e.edge)

  pub same_rising : (es fs : List (Entry C)) → IsRising es → IsRising fs → ((s : Edge) → count_at es s ≡ count_at fs s) → es ≡ fs
  same_rising [] [] h k same = refl
  same_rising [] (f ∷ fs) h k same = let e = same f.edge ∙ count_at_own f fs in absurd (cc)
  same_rising (e ∷ es) [] h k same = let e = sym (count_at_own e es) ∙ same e.edge in absurd (cc)
  same_rising (e ∷ es) (f ∷ fs) h k same =
      by (edge_order e.edge f.edge) refl (same_rising es fs (rising_rest e es h) (rising_rest f fs k))
    where
      apart : (c : C) {P : Type 0} → Some c ≡ None → P
      apart c e = absurd (cc)

      by : (o : Ordering) → edge_order e.edge f.edge ≡ o → (((s : Edge) → count_at es s ≡ count_at fs s) → es ≡ fs) → (e ∷ es) ≡ (f ∷ fs)
      by Less l rest = apart e.count (sym (count_at_own e es) ∙ same e.edge ∙ count_at_below (f ∷ fs) e.edge (above_all e.edge f fs l k))
      by Greater l rest =
          apart f.count (sym (count_at_own f fs) ∙ sym (same f.edge) ∙ count_at_below (e ∷ es) f.edge (above_all f.edge e es (less_from_greater edge_total e.edge f.edge l) h))
      by Equal l rest =
          let edges : e.edge ≡ f.edge = edge_equal e.edge f.edge l in
          let counts : e.count ≡ f.count = same_Some e.count f.count (sym (count_at_own e es) ∙ same e.edge ∙ ap (count_at (f ∷ fs)) edges ∙ count_at_own f fs) in
          let heads : e ≡ f = λ i. record { edge = edges i; count = counts i } in
          ap₂ (λ x xs. x ∷ xs) heads (rest (λ s. later s (is_eq (edge_order e.edge s)) refl (ap (λ t. is_eq (edge_order t s)) (sym edges))))
        where
          later : (s : Edge) (here : Bool) → is_eq (edge_order e.edge s) ≡ here → is_eq (edge_order f.edge s) ≡ is_eq (edge_order e.edge s) → count_at es s ≡ count_at fs s
          later s true p q =
              ap (count_at es) (sym (edge_equal e.edge s (is_equal (edge_order e.edge s) p))) ∙ count_at_head e es h
              ∙ sym (ap (count_at fs) (sym (edge_equal f.edge s (is_equal (edge_order f.edge s) (q ∙ p)))) ∙ count_at_head f fs k)
          later s false p q =
              ap (λ b. cond b (Some e.count) (count_at es s)) (sym p) ∙ same s ∙ ap (λ b. cond b (Some f.count) (count_at fs s)) (q ∙ p)

-- two normal lists with equal counts at each edge are equal
pub same_normal : {C : Type 0} {kind : Counting C} (es fs : List (Entry C)) → IsNormal kind es → IsNormal kind fs → ((s : Edge) → count_at es s ≡ count_at fs s) → es ≡ fs
same_normal es fs h k same = same_rising es fs h.rising k.rising same

module _ {C : Type 0} (kind : Counting C) where
  normal_itself : (es : List (Entry C)) → IsRising es → All (IsCounted kind) es → normal kind es ≡ es
  normal_itself [] h k = refl
  normal_itself (e ∷ es) h k =
      ap (joined kind e) (normal_itself es (rising_rest e es h) (All-tail (IsCounted kind) e es k))
      ∙ first es (rising_above e es h)
    where
      kept : (rest : List (Entry C)) → unless_empty kind e rest ≡ (e ∷ rest)
      kept rest = ap (λ b. cond b rest (e ∷ rest)) (All-head (IsCounted kind) e es k)

      first : (rest : List (Entry C)) → All (IsAbove e.edge) rest → joined kind e rest ≡ (e ∷ rest)
      first [] above = kept []
      first (f ∷ rest) above = ap (λ o. joined_by kind o e f rest) (All-head (IsAbove e.edge) f rest above) ∙ kept (f ∷ rest)

  pub normal_twice : (es : List (Entry C)) → normal kind (normal kind es) ≡ normal kind es
  normal_twice es = normal_itself (normal kind es) (normal_rising kind es) (normal_counted kind es)

  pub normal_append_normal : (es fs : List (Entry C)) → normal kind (es ++ normal kind fs) ≡ normal kind (es ++ fs)
  normal_append_normal [] fs = normal_twice fs
  normal_append_normal (e ∷ es) fs = ap (joined kind e) (normal_append_normal es fs)

  pub normal_of_normal : (es : List (Entry C)) → IsNormal kind es → normal kind es ≡ es
  normal_of_normal es h = normal_itself es h.rising h.counted

-- ---- the order of the entries does not matter

-- The laws of a kind of counts: counts may be joined in any order, an empty one changes none, and turning is undone by turning.
pub record IsCounting {C : Type 0} (kind : Counting C) : Type 0 where
  pub join_comm : (c d : C) → kind.join c d ≡ kind.join d c
  pub join_assoc : (c d e : C) → kind.join (kind.join c d) e ≡ kind.join c (kind.join d e)
  pub join_empty : (c d : C) → kind.is_empty c ≡ true → kind.join c d ≡ d
  pub turned_join : (c d : C) → kind.turned (kind.join c d) ≡ kind.join (kind.turned c) (kind.turned d)
  pub turned_twice : (c : C) → kind.turned (kind.turned c) ≡ c
  pub turned_empty : (c : C) → kind.is_empty (kind.turned c) ≡ kind.is_empty c

module _ {C : Type 0} {kind : Counting C} (laws : IsCounting kind) where
  with_count_unless_none : (c d : C) → with_count kind c (unless_none kind d) ≡ unless_none kind (kind.join c d)
  with_count_unless_none c d = by (kind.is_empty d) refl
    where
      by : (empty : Bool) → kind.is_empty d ≡ empty → with_count kind c (cond empty None (Some d)) ≡ unless_none kind (kind.join c d)
      by true h = ap (unless_none kind) (sym (laws.join_comm c d ∙ laws.join_empty d c h))
      by false h = refl

  with_count_exchange : (c d : C) (o : Option C) → with_count kind c (with_count kind d o) ≡ with_count kind d (with_count kind c o)
  with_count_exchange c d None = with_count_unless_none c d ∙ ap (unless_none kind) (laws.join_comm c d) ∙ sym (with_count_unless_none d c)
  with_count_exchange c d (Some x) =
      with_count_unless_none c (kind.join d x)
      ∙ ap (unless_none kind) (sym (laws.join_assoc c d x) ∙ ap (λ y. kind.join y x) (laws.join_comm c d) ∙ laws.join_assoc d c x)
      ∙ sym (with_count_unless_none d (kind.join c x))

  pub joined_at_permutation : (es fs : List (Entry C)) (s : Edge) → IsPermutation es fs → joined_at kind fs s ≡ joined_at kind es s
  joined_at_permutation es fs s =
      fold_of_permutation (λ l. joined_at kind l s) (λ e o. cond (is_eq (edge_order e.edge s)) (with_count kind e.count o) o) (λ e l. refl)
      (λ e f o. exchange (is_eq (edge_order e.edge s)) (is_eq (edge_order f.edge s)) e.count f.count o)
      es fs
    where
      exchange : (here there : Bool) (c d : C) (o : Option C)
          → cond here (with_count kind c (cond there (with_count kind d o) o)) (cond there (with_count kind d o) o)
          ≡ cond there (with_count kind d (cond here (with_count kind c o) o)) (cond here (with_count kind c o) o)
      exchange true true c d o = with_count_exchange c d o
      exchange true false c d o = refl
      exchange false true c d o = refl
      exchange false false c d o = refl

  pub normal_permutation : (es fs : List (Entry C)) → IsPermutation es fs → normal kind fs ≡ normal kind es
  normal_permutation es fs h =
      same_rising (normal kind fs) (normal kind es) (normal_rising kind fs) (normal_rising kind es)
      (λ s. count_at_normal kind fs s ∙ joined_at_permutation es fs s h ∙ sym (count_at_normal kind es s))

  pub normal_append_comm : (es fs : List (Entry C)) → normal kind (es ++ fs) ≡ normal kind (fs ++ es)
  normal_append_comm es fs = normal_permutation (fs ++ es) (es ++ fs) (IsPermutation-append_comm fs es)

  pub normal_normal_append : (es fs : List (Entry C)) → normal kind (normal kind es ++ fs) ≡ normal kind (es ++ fs)
  normal_normal_append es fs = normal_append_comm (normal kind es) fs ∙ normal_append_normal kind fs es ∙ normal_append_comm fs es

  -- lists with equal normal lists may stand for each other
  pub normal_append_same : (es es' fs fs' : List (Entry C)) → normal kind es ≡ normal kind es' → normal kind fs ≡ normal kind fs' → normal kind (es ++ fs) ≡ normal kind (es' ++ fs')
  normal_append_same es es' fs fs' e f =
      sym (normal_normal_append es fs) ∙ ap (λ l. normal kind (l ++ fs)) e ∙ normal_normal_append es' fs
      ∙ sym (normal_append_normal kind es' fs) ∙ ap (λ l. normal kind (es' ++ l)) f ∙ normal_append_normal kind es' fs'

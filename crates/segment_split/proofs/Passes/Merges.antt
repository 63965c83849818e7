-- Two maps of entries joined to one, a run after the other.
use Rattle.std.specs.Prelude.{◌≡◌, ◌≢◌, ◌<◌, ℕ, zero, suc, Bool, true, false, cond, List, [], ◌∷◌, ◌++◌, drop, take, map, filter, Contains, All, IsPermutation, Option, Some, None}
use Rattle.std.specs.declared.cmp.Ordering.{Ordering}
use Rattle.std.specs.declared.cmp.Ordering.TheVariants.{Less, Equal, Greater}
use Rattle.std.specs.Ordering.{is_eq}
use Rattle.std.proofs.Common.{refl, sym, ap, ap₂, ◌∙◌, subst, get_or, append_assoc, append-nil, arith}
use Rattle.std.proofs.lemmas.List.{map-append, take-append-drop}
use Rattle.std.proofs.lemmas.List.Sorted.{IsPermutation-refl, IsPermutation-append_comm, IsPermutation-append_left}
use Rattle.std.proofs.lemmas.List.Elements.{All-nil, All-cons, All-head, All-tail, All-append}
use Rattle.std.proofs.lemmas.Option.{same_Some}
use Rattle.plane_base.specs.Plane.{Edge, edge_order}
use Rattle.plane_base.specs.Counts.{Counting, Entry, unless_empty, normal, count_at, IsNormal}
use Rattle.plane_base.proofs.Facts.Points.Orders.{edge_total, edge_equal, is_equal, less_from_greater, greater_from_less}
use Rattle.plane_base.proofs.Facts.Maps.Normal.{IsAbove, IsRising, IsCounted, rising_above, rising_rest, above_all, count_at_head, count_at_own, unless_none, with_count, joined_at, count_at_normal, normal_rising, normal_counted, normal_permutation, IsCounting}
use Rattle.segment_split.specs.Passes.{edges_of}
use Rattle.segment_split.specs.MarkLists.{IsTold}
use Rattle.segment_split.specs.Merging.{IsMap, Clashes}
use Rattle.segment_split.specs.Refusals.{counts_on, all_joined, IsOverfull}
use Rattle.segment_split.proofs.Redrawing.Neighbours.{normal_of_first, normal_of_horizontal, counts_append}
use Rattle.segment_split.proofs.Passes.Skips.{told_run}
use Rattle.plane_base.proofs.Facts.Lists.Cycles.{All-front, All-back}

-- an element after others comes before them
pub permuted_to_front : {X : Type 0} (xs : List X) (y : X) (ys : List X) → IsPermutation (xs ++ y ∷ ys) (y ∷ (xs ++ ys))
permuted_to_front xs y ys =
    subst (λ l. IsPermutation l (y ∷ (xs ++ ys))) (append_assoc xs (y ∷ []) ys)
    (IsPermutation-append_left ys (xs ++ y ∷ []) ((y ∷ []) ++ xs) (IsPermutation-append_comm xs (y ∷ [])))

-- the two parts of a list, seen by a view
pub parted_at : {X Y : Type 0} (f : X → Y) (n : ℕ) (xs : List X) → map f xs ≡ map f (take n xs) ++ map f (drop n xs)
parted_at f n xs = ap (map f) (sym (take-append-drop n xs)) ∙ map-append f (take n xs) (drop n xs)

module _ {C : Type 0} (kind : Counting C) where
  -- ---- parts of a map

  pub map_of_normal : (es : List (Entry C)) → IsNormal kind es → IsMap kind es
  map_of_normal es h = record { rising = h.rising; counted = h.counted }

  pub normal_map : (es : List (Entry C)) → IsMap kind (normal kind es)
  normal_map es = record { rising = normal_rising kind es; counted = normal_counted kind es }

  rest_map : (e : Entry C) (es : List (Entry C)) → IsMap kind (e ∷ es) → IsMap kind es
  rest_map e es h = record { rising = rising_rest e es h.rising; counted = All-tail (IsCounted kind) e es h.counted }

  pub back_map : (run left : List (Entry C)) → IsMap kind (run ++ left) → IsMap kind left
  back_map [] left h = h
  back_map (e ∷ run) left h = back_map run left (rest_map e (run ++ left) h)

  run_below : (run left : List (Entry C)) → IsMap kind (run ++ left) → All (λ e. All (IsAbove e.edge) left) run
  run_below [] left h = All-nil (λ e. All (IsAbove e.edge) left)
  run_below (e ∷ run) left h =
      All-cons (λ e. All (IsAbove e.edge) left) e run (All-back (IsAbove e.edge) run left (rising_above e (run ++ left) h.rising))
      (run_below run left (rest_map e (run ++ left) h))

  -- ---- a run of one map that comes before all that is left

  run_first : (run left rest : List (Entry C)) → IsMap kind (run ++ left) → All (λ e. All (IsAbove e.edge) rest) run → normal kind (run ++ rest) ≡ run ++ normal kind rest
  run_first [] left rest h below = refl
  run_first (e ∷ run) left rest h below =
      normal_of_first kind e (run ++ rest)
      (All-append (IsAbove e.edge) run rest (All-front (IsAbove e.edge) run left (rising_above e (run ++ left) h.rising)) (All-head (λ e. All (IsAbove e.edge) rest) e run below))
      ∙ (ap (λ b. cond b [] (e ∷ []) ++ normal kind (run ++ rest)) (All-head (IsCounted kind) e (run ++ left) h.counted)
      ∙ ap (λ l. e ∷ l) (run_first run left rest (rest_map e (run ++ left) h) (All-tail (λ e. All (IsAbove e.edge) rest) e run below)))

  -- those of the first map that come before the first of the second
  pub old_run : (run left : List (Entry C)) (p : Entry C) (ps : List (Entry C)) → IsMap kind (run ++ left) → IsMap kind (p ∷ ps) → All (λ e. edge_order p.edge e.edge ≡ Greater) run
      → normal kind ((run ++ left) ++ (p ∷ ps)) ≡ run ++ normal kind (left ++ (p ∷ ps))
  old_run run left p ps h k before =
      ap (normal kind) (append_assoc run left (p ∷ ps))
      ∙ run_first run left (left ++ (p ∷ ps)) h
      (λ i d l. All-append (IsAbove _) left (p ∷ ps) (run_below run left h i d l) (above_all _ p ps (less_from_greater edge_total p.edge _ (before i d l)) k.rising))

module _ {C : Type 0} {kind : Counting C} (laws : IsCounting kind) where
  -- the same with the two exchanged
  pub new_run : (left run more : List (Entry C)) → IsMap kind left → IsMap kind (run ++ more) → All (λ e. All (IsAbove e.edge) left) run
      → normal kind (left ++ (run ++ more)) ≡ run ++ normal kind (left ++ more)
  new_run left run more h k below =
      normal_permutation laws ((run ++ more) ++ left) (left ++ (run ++ more)) (IsPermutation-append_comm (run ++ more) left)
      ∙ (ap (normal kind) (append_assoc run more left)
      ∙ (run_first kind run more (more ++ left) k (λ i d l. All-append (IsAbove _) more left (run_below kind run more k i d l) (below i d l))
      ∙ ap (λ l. run ++ l) (normal_permutation laws (left ++ more) (more ++ left) (IsPermutation-append_comm left more))))

  -- both begin with one edge
  pub both_first : (e f : Entry C) (es fs : List (Entry C)) → IsMap kind (e ∷ es) → IsMap kind (f ∷ fs) → edge_order e.edge f.edge ≡ Equal → (one : Entry C)
      → one ≡ record { edge = e.edge; count = kind.join e.count f.count } → normal kind ((e ∷ es) ++ (f ∷ fs)) ≡ unless_empty kind one [] ++ normal kind (es ++ fs)
  both_first e f es fs h k level one is =
      sym (normal_permutation laws ((e ∷ es) ++ (f ∷ fs)) (f ∷ ((e ∷ es) ++ fs)) (permuted_to_front (e ∷ es) f fs))
      ∙ (sym (normal_permutation laws (f ∷ (e ∷ (es ++ fs))) (e ∷ (f ∷ (es ++ fs))) (permuted_to_front (f ∷ []) e (es ++ fs)))
      ∙ (normal_of_horizontal laws e f (es ++ fs) level
      ∙ (normal_of_first kind (record { edge = e.edge; count = kind.join e.count f.count }) (es ++ fs) (All-append (IsAbove e.edge) es fs (rising_above e es h.rising) after)
      ∙ ap (λ o. unless_empty kind o [] ++ normal kind (es ++ fs)) (sym is))))
    where
      after : All (IsAbove e.edge) fs
      after = subst (λ s. All (IsAbove s) fs) (sym (edge_equal e.edge f.edge level)) (rising_above f fs k.rising)

-- ---- refusals

module _ {C : Type 0} where
  pub count_behind : (run left : List (Entry C)) (s : Edge) (c : C) → IsRising (run ++ left) → count_at left s ≡ Some c → count_at (run ++ left) s ≡ Some c
  count_behind [] left s c rising h = h
  count_behind (e ∷ run) left s c rising h = by (is_eq (edge_order e.edge s)) refl (count_behind run left s c (rising_rest e (run ++ left) rising) h)
    where
      by : (here : Bool) → is_eq (edge_order e.edge s) ≡ here → count_at (run ++ left) s ≡ Some c → cond here (Some e.count) (count_at (run ++ left) s) ≡ Some c
      by true k there =
          let none : count_at (run ++ left) s ≡ None = ap (count_at (run ++ left)) (sym (edge_equal e.edge s (is_equal (edge_order e.edge s) k))) ∙ count_at_head e (run ++ left) rising in
          let clash = sym none ∙ there in absurd (cc)
      by false k there = there

  none_on : (s : Edge) (es : List (Entry C)) → All (IsAbove s) es → counts_on s es ≡ []
  none_on s [] h = refl
  none_on s (e ∷ es) h =
      ap (λ o. map (λ (e : Entry C). e.count) (cond (is_eq o) (e ∷ filter (λ e. is_eq (edge_order e.edge s)) es) (filter (λ e. is_eq (edge_order e.edge s)) es)))
      (greater_from_less edge_total s e.edge (All-head (IsAbove s) e es h))
      ∙ none_on s es (All-tail (IsAbove s) e es h)

  pub one_on : (s : Edge) (c : C) (es : List (Entry C)) → IsRising es → count_at es s ≡ Some c → counts_on s es ≡ c ∷ []
  one_on s c [] rising h = absurd (cc)
  one_on s c (e ∷ es) rising h = by (is_eq (edge_order e.edge s)) refl h (one_on s c es (rising_rest e es rising))
    where
      by : (here : Bool) → is_eq (edge_order e.edge s) ≡ here → cond here (Some e.count) (count_at es s) ≡ Some c → (count_at es s ≡ Some c → counts_on s es ≡ c ∷ [])
          → map (λ (e : Entry C). e.count) (cond here (e ∷ filter (λ e. is_eq (edge_order e.edge s)) es) (filter (λ e. is_eq (edge_order e.edge s)) es)) ≡ c ∷ []
      by true k own rest =
          ap₂ (λ d l. d ∷ l) (same_Some e.count c own)
          (none_on s es (subst (λ t. All (IsAbove t) es) (edge_equal e.edge s (is_equal (edge_order e.edge s) k)) (rising_above e es rising)))
      by false k own rest = rest own

module _ {C : Type 0} {kind : Counting C} (laws : IsCounting kind) where
  -- a count, and what there is beside it
  abbrev pub with_total : C → Option C → C
  with_total c None = c
  with_total c (Some d) = kind.join c d

  total_of : (c d : C) → with_total c (unless_none kind d) ≡ kind.join c d
  total_of c d = by (kind.is_empty d) refl
    where
      by : (empty : Bool) → kind.is_empty d ≡ empty → with_total c (cond empty None (Some d)) ≡ kind.join c d
      by true h = sym (laws.join_comm c d ∙ laws.join_empty d c h)
      by false h = refl

  total_more : (c d : C) (o : Option C) → with_total (kind.join c d) o ≡ with_total c (with_count kind d o)
  total_more c d None = sym (total_of c d)
  total_more c d (Some x) = laws.join_assoc c d x ∙ sym (total_of c (kind.join d x))

  pub all_joined_at : (s : Edge) (c : C) (es : List (Entry C)) → all_joined kind c (counts_on s es) ≡ with_total c (joined_at kind es s)
  all_joined_at s c [] = refl
  all_joined_at s c (e ∷ es) = by (is_eq (edge_order e.edge s)) (all_joined_at s c es) (all_joined_at s (kind.join c e.count) es)
    where
      by : (here : Bool) → all_joined kind c (counts_on s es) ≡ with_total c (joined_at kind es s) → all_joined kind (kind.join c e.count) (counts_on s es) ≡ with_total (kind.join c e.count) (joined_at kind es s)
          → all_joined kind c (map (λ (e : Entry C). e.count) (cond here (e ∷ filter (λ e. is_eq (edge_order e.edge s)) es) (filter (λ e. is_eq (edge_order e.edge s)) es)))
          ≡ with_total c (cond here (with_count kind e.count (joined_at kind es s)) (joined_at kind es s))
      by true rest more = more ∙ total_more c e.count (joined_at kind es s)
      by false rest more = rest

  pub clash_overfull : (fits : C → Bool) (es fs : List (Entry C)) → IsMap kind es → Clashes kind fits es (normal kind fs) → IsOverfull kind fits (es ++ fs)
  clash_overfull fits es fs h k = record {
    edge = k.edge;
    ordered = es ++ fs;
    reordered = IsPermutation-refl (es ++ fs);
    before = [];
    first = k.one;
    others = counts_on k.edge fs;
    after = [];
    laid =
        counts_append k.edge es fs
        ∙ (ap (λ l. l ++ counts_on k.edge fs) (one_on k.edge k.one es h.rising k.of_one) ∙ ap (λ l. k.one ∷ l) (sym (append-nil (counts_on k.edge fs))));
    too_much =
        ap fits (all_joined_at k.edge k.one fs ∙ ap (with_total k.one) (sym (count_at_normal kind fs k.edge) ∙ k.of_other)) ∙ k.too_much;
  }

module _ {C : Type 0} (kind : Counting C) (fits : C → Bool) where
  -- the first of both
  pub first_clash : (e f : Entry C) (es fs : List (Entry C)) → edge_order e.edge f.edge ≡ Equal → fits (kind.join e.count f.count) ≡ false → Clashes kind fits (e ∷ es) (f ∷ fs)
  first_clash e f es fs level over = record {
    edge = e.edge;
    one = e.count;
    other = f.count;
    of_one = count_at_own e es;
    of_other = ap (count_at (f ∷ fs)) (edge_equal e.edge f.edge level) ∙ count_at_own f fs;
    too_much = over;
  }

  -- what is left clashes, and so does all
  pub clash_behind : (run left gone more : List (Entry C)) → IsMap kind (run ++ left) → IsMap kind (gone ++ more) → Clashes kind fits left more → Clashes kind fits (run ++ left) (gone ++ more)
  clash_behind run left gone more h k c = record {
    edge = c.edge;
    one = c.one;
    other = c.other;
    of_one = count_behind run left c.edge c.one h.rising c.of_one;
    of_other = count_behind gone more c.edge c.other k.rising c.of_other;
    too_much = c.too_much;
  }

-- ---- one step of the way along both

module _ {C : Type 0} {kind : Counting C} (laws : IsCounting kind) where
  -- what comes before the first piece
  pub old_step : (old new kept run left pieces : List (Entry C)) (p : Entry C) (ps : List (Entry C)) → new ≡ old ++ run → kept ≡ run ++ left → pieces ≡ p ∷ ps
      → IsMap kind kept → IsMap kind pieces → All (λ e. edge_order p.edge e.edge ≡ Greater) run → new ++ normal kind (left ++ pieces) ≡ old ++ normal kind (kept ++ pieces)
  old_step old new kept run left pieces p ps is parts first h k before =
      ap (λ l. l ++ normal kind (left ++ pieces)) is
      ∙ (append_assoc old run (normal kind (left ++ pieces))
      ∙ ap (λ l. old ++ l)
      (ap (λ l. run ++ normal kind (left ++ l)) first
      ∙ (sym (old_run kind run left p ps (subst (IsMap kind) parts h) (subst (IsMap kind) first k) before)
      ∙ (ap (λ l. normal kind (l ++ (p ∷ ps))) (sym parts) ∙ ap (λ l. normal kind (kept ++ l)) (sym first)))))

  -- pieces that come before the first that is kept
  pub new_step : (old new kept pieces run more : List (Entry C)) → new ≡ old ++ run → pieces ≡ run ++ more → IsMap kind kept → IsMap kind pieces
      → All (λ e. All (IsAbove e.edge) kept) run → new ++ normal kind (kept ++ more) ≡ old ++ normal kind (kept ++ pieces)
  new_step old new kept pieces run more is parts h k below =
      ap (λ l. l ++ normal kind (kept ++ more)) is
      ∙ (append_assoc old run (normal kind (kept ++ more))
      ∙ ap (λ l. old ++ l) (sym (new_run laws kept run more h (subst (IsMap kind) parts k) below) ∙ ap (λ l. normal kind (kept ++ l)) (sym parts)))

  -- one of each
  pub both_step : (old new kept pieces : List (Entry C)) (e f : Entry C) (es fs : List (Entry C)) (one : Entry C) → kept ≡ e ∷ es → pieces ≡ f ∷ fs
      → IsMap kind kept → IsMap kind pieces → edge_order e.edge f.edge ≡ Equal → one ≡ record { edge = e.edge; count = kind.join e.count f.count }
      → new ≡ old ++ unless_empty kind one [] → new ++ normal kind (es ++ fs) ≡ old ++ normal kind (kept ++ pieces)
  both_step old new kept pieces e f es fs one first second h k level sum is =
      ap (λ l. l ++ normal kind (es ++ fs)) is
      ∙ (append_assoc old (unless_empty kind one []) (normal kind (es ++ fs))
      ∙ ap (λ l. old ++ l)
      (sym (both_first laws e f es fs (subst (IsMap kind) first h) (subst (IsMap kind) second k) level one sum)
      ∙ (ap (λ l. normal kind (l ++ (f ∷ fs))) (sym first) ∙ ap (λ l. normal kind (kept ++ l)) (sym second))))

module _ {C : Type 0} (kind : Counting C) where
  pub below_first : (kept run : List (Entry C)) (own : Entry C) (rest : List (Entry C)) → kept ≡ own ∷ rest → IsMap kind kept → All (λ e. edge_order own.edge e.edge ≡ Greater) run
      → All (λ e. All (IsAbove e.edge) kept) run
  below_first kept run own rest is h before i d l =
      subst (λ es. All (IsAbove (get_or run i d).edge) es) (sym is)
      (above_all (get_or run i d).edge own rest (less_from_greater edge_total own.edge (get_or run i d).edge (before i d l)) (subst (IsMap kind) is h).rising)

  pub left_alone : (left : List (Entry C)) → IsMap kind left → normal kind (left ++ []) ≡ left
  left_alone left h =
      run_first kind left [] [] (subst (IsMap kind) (sym (append-nil left)) h) (λ i d l. All-nil (IsAbove (get_or left i d).edge)) ∙ append-nil left

  pub told_kept : (es old : List Edge) (one : Entry C) (next : List ℕ) (longer : List (Entry C)) (before : List (Entry C)) → es ≡ edges_of before → longer ≡ before ++ unless_empty kind one []
      → Contains old one.edge → IsTold es old next → IsTold (edges_of longer) old next
  told_kept es old one next longer before same is here told =
      subst (λ l. IsTold (edges_of l) old next) (sym is) (by (kind.is_empty one.count))
    where
      by : (empty : Bool) → IsTold (edges_of (before ++ cond empty [] (one ∷ []))) old next
      by true = subst (λ l. IsTold l old next) (same ∙ ap edges_of (sym (append-nil before))) told
      by false =
          subst (λ l. IsTold l old next) (ap (λ l. l ++ one.edge ∷ []) same ∙ sym (map-append (λ (e : Entry C). e.edge) before (one ∷ [])))
          (told_run (one.edge ∷ []) es old next (All-cons (Contains old) one.edge [] here (All-nil (Contains old))) told)

pub some_before : (n : ℕ) (own p : Edge) → edge_order p own ≢ Greater → is_eq (edge_order own p) ≡ false → (n ≡ 0 → edge_order own p ≢ Greater) → 0 < n
some_before (suc n) own p h k none = omega arith
some_before zero own p h k none = by (edge_order own p) refl
  where
    by : (o : Ordering) → edge_order own p ≡ o → 0 < 0
    by Less e = absurd (h (greater_from_less edge_total own p e))
    by Equal e = let c = sym (ap is_eq e) ∙ k in absurd (cc)
    by Greater e = absurd (none refl e)

abbrev first_or : {X : Type 0} → X → List X → X
first_or d [] = d
first_or d (x ∷ xs) = x

pub same_first : {X : Type 0} (x y : X) (xs ys : List X) → x ∷ xs ≡ y ∷ ys → x ≡ y
same_first x y xs ys e = ap (first_or x) e

pub all_in_front : {X : Type 0} (P : X → Type 0) (all xs ys : List X) → all ≡ xs ++ ys → All P all → All P xs
all_in_front P all xs ys e h = All-front P xs ys (subst (All P) e h)

pub all_behind : {X : Type 0} (P : X → Type 0) (all xs ys : List X) → all ≡ xs ++ ys → All P all → All P ys
all_behind P all xs ys e h = All-back P xs ys (subst (All P) e h)

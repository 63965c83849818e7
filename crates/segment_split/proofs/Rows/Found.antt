-- What is found by holding pairs against each other, in any order.
use Rattle.std.specs.Prelude.{◌≡◌, ◌||◌, ◌⊎◌, ℕ, ◌<◌, ◌≤◌, ℤ, Bool, true, false, not, List, [], ◌∷◌, ◌++◌, length, slice_index_or, All, AllPairs, Contains}
use Rattle.std.specs.declared.cmp.Ordering.TheVariants.{Less}
use Rattle.std.proofs.Common.{refl, sym, ap, ap₂, ◌∙◌, subst, inl, inr, arith}
use Rattle.std.proofs.lemmas.Bool.{cases_order}
use Rattle.std.proofs.lemmas.List.Elements.{All-nil, All-append, All-weaker, All-contains_itself}
use Rattle.plane_base.specs.Plane.{Edge, edge_order}
use Rattle.plane_base.specs.Crossing.{Marks, no_marks, marks_by, crosses_off_grid}
use Rattle.plane_base.specs.Segments.{parted}
use Rattle.plane_base.specs.WholeLaws.{MeetsWhole}
use Rattle.plane_base.specs.MarkOrder.{along, both_along}
use Rattle.plane_base.specs.PairMarkViews.{AreWithin}
use Rattle.plane_base.specs.declared.rounding.Rounding.{Rounding}
use Rattle.plane_base.proofs.Facts.Crossings.Roundings.{unless_parted}
use Rattle.plane_base.proofs.Facts.Crossings.Steps.{parted_on_grid}
use Rattle.plane_base.proofs.Facts.Crossings.Whole.{whole_marks_stay}
use Rattle.segment_split.specs.Passes.{marks_on}
use Rattle.segment_split.specs.MarkLists.{LaidMark, laid_on, IsAt, IsLaid, HasMark, HasPair, IsFound, AreMarks, SkipsOld}
use Rattle.segment_split.specs.Rows.{is_old, Finds, CrossWhole, MeetNewWhole}
use Rattle.segment_split.specs.WholeLaws.{AllMeetWhole}
use Rattle.segment_split.proofs.Passes.Unmarked.{parted_itself}
use Rattle.segment_split.proofs.Passes.MarkLists.{flat_map_has, at_same, at_contains, contains_at, rises, turned, has_more, laid_in, laid_only, none_found, told_first, told_second, on_grid_whole}

module _ (stride least greatest : ℤ) (rounding : Rounding) (es : List Edge) where
  abbrev Found : (ℕ → ℕ → Type 0) → List LaidMark → List LaidMark → Bool → Type 0
  Found pairs old new off = Finds stride least greatest (marks_by rounding) es pairs old new off

  pub finds_none : (pairs : ℕ → ℕ → Type 0) → ((i j : ℕ) → pairs i j → ⊥) → (laid : List LaidMark) → Found pairs laid laid false
  finds_none pairs none laid = record {
    only = λ h. h;
    keeps = λ i p h. h;
    found = λ i j s t h. absurd (none i j h);
  }

  pub finds_fewer : (pairs fewer : ℕ → ℕ → Type 0) → ((i j : ℕ) → fewer i j → pairs i j) → (old new : List LaidMark) (off : Bool) → Found pairs old new off → Found fewer old new off
  finds_fewer pairs fewer among old new off h = record {
    only = h.only;
    keeps = h.keeps;
    found = λ i j s t l. h.found i j s t (among i j l);
  }

  -- the same of edges that stand there
  pub finds_there : (pairs fewer : ℕ → ℕ → Type 0) → ((i j : ℕ) (s t : Edge) → IsAt es i s → IsAt es j t → fewer i j → pairs i j) → (old new : List LaidMark) (off : Bool) → Found pairs old new off → Found fewer old new off
  finds_there pairs fewer among old new off h = record {
    only = h.only;
    keeps = h.keeps;
    found = λ i j s t l at there. h.found i j s t (among i j s t at there l) at there;
  }

  -- first these, then those
  pub finds_both : (pairs others : ℕ → ℕ → Type 0) (old now new : List LaidMark) (off own both : Bool) → both ≡ off || own → Found pairs old now off → Found others now new own
      → Found (λ i j. pairs i j ⊎ others i j) old new both
  finds_both pairs others old now new off own both tells h more = record {
    only = λ all. more.only (h.only all);
    keeps = λ i p has. more.keeps i p (h.keeps i p has);
    found = λ i j s t among at there. by i j s t among at there;
  }
    where
      first : (i j : ℕ) (s t : Edge) → IsFound (marks_by rounding) now off i s j t → IsFound (marks_by rounding) new both i s j t
      first i j s t f = record {
        has = (
          All-weaker (HasMark now i) (HasMark new i) (more.keeps i) (marks_by rounding s t).first f.has.0,
          All-weaker (HasMark now j) (HasMark new j) (more.keeps j) (marks_by rounding s t).second f.has.1,
        );
        whole = λ e. f.whole (told_first off own (sym tells ∙ e));
      }

      by : (i j : ℕ) (s t : Edge) → pairs i j ⊎ others i j → IsAt es i s → IsAt es j t → IsFound (marks_by rounding) new both i s j t
      by i j s t (inl p) at there = first i j s t (h.found i j s t p at there)
      by i j s t (inr p) at there = let f = more.found i j s t p at there in record { has = f.has; whole = λ e. f.whole (told_second off own (sym tells ∙ e)) }

-- in either order
pub kinds_whole : (es : List Edge) (next_new : List ℕ) → ((i j : ℕ) (s t : Edge) → i < j → IsAt es i s → IsAt es j t → is_old next_new i ≡ not (is_old next_new j) → MeetsWhole s t) → MeetNewWhole es next_new
kinds_whole es next_new ordered i j s t at there differ = by (cases_order i j)
  where
    turned_round : (a b : Bool) → a ≡ not b → b ≡ not a
    turned_round a true e = sym (ap not e)
    turned_round a false e = sym (ap not e)

    unlike : (b : Bool) → b ≡ not b → ⊥
    unlike true e = absurd (cc)
    unlike false e = absurd (cc)

    by : (i ≡ j) ⊎ ((i < j) ⊎ (j < i)) → MeetsWhole s t
    by (inl e) = absurd (unlike (is_old next_new i) (differ ∙ ap (λ n. not (is_old next_new n)) (sym e)))
    by (inr (inl l)) = ordered i j s t l at there differ
    by (inr (inr l)) = whole_marks_stay.swapped t s (ordered j i t s l there at (turned_round (is_old next_new i) (is_old next_new j) differ))

module _ (stride least greatest : ℤ) (rounding : Rounding) (es : List Edge) (rising : AllPairs (λ s t. edge_order s t ≡ Less) es) where
  -- the same of more pairs, where what wasn't looked at lays nothing
  pub finds_more : (pairs more : ℕ → ℕ → Type 0) → ((i j : ℕ) (s t : Edge) → more i j → IsAt es i s → IsAt es j t → pairs i j ⊎ (marks_by rounding s t ≡ no_marks))
      → (old new : List LaidMark) (off : Bool) → Found stride least greatest rounding es pairs old new off → Found stride least greatest rounding es more old new off
  finds_more pairs more each old new off h = record {
    only = h.only;
    keeps = h.keeps;
    found = λ i j s t p at there. by i j s t at there (each i j s t p at there);
  }
    where
      by : (i j : ℕ) (s t : Edge) → IsAt es i s → IsAt es j t → pairs i j ⊎ (marks_by rounding s t ≡ no_marks) → IsFound (marks_by rounding) new off i s j t
      by i j s t at there (inl p) = h.found i j s t p at there
      by i j s t at there (inr none) = none_found stride least greatest rounding es rising new off i s j t none

  -- pairs that were looked at, or lay nothing, meet whole where none was told to cross off the grid
  pub whole_or_none : (pairs : ℕ → ℕ → Type 0) → CrossWhole es pairs → (i j : ℕ) (s t : Edge) → IsAt es i s → IsAt es j t → pairs i j ⊎ (marks_by rounding s t ≡ no_marks) → MeetsWhole s t
  whole_or_none pairs whole i j s t at there (inl p) = on_grid_whole s t (whole i j s t p at there)
  whole_or_none pairs whole i j s t at there (inr none) = on_grid_whole s t ((none_found stride least greatest rounding es rising [] false i s j t none).whole refl)

  -- a parted pair lays nothing
  pub finds_parted : (i j : ℕ) (s t : Edge) → IsAt es i s → IsAt es j t → (laid : List LaidMark) → parted s t ≡ true
      → Found stride least greatest rounding es (λ i' j'. (i' ≡ i) × (j' ≡ j)) laid laid false
  finds_parted i j s t at there laid apart = record {
    only = λ h. h;
    keeps = λ n p h. h;
    found = λ i' j' s' t' e at' there'. by i' j' s' t' e.0 e.1 at' there';
  }
    where
      by : (i' j' : ℕ) (s' t' : Edge) → i' ≡ i → j' ≡ j → IsAt es i' s' → IsAt es j' t' → IsFound (marks_by rounding) laid false i' s' j' t'
      by i' j' s' t' e f at' there' =
          let own_edge = at_same es i s' s (subst (λ n. IsAt es n s') e at') at in
          let other_edge = at_same es j t' t (subst (λ n. IsAt es n t') f there') there in
          none_found stride least greatest rounding es rising laid false i' s' j' t' (ap₂ (marks_by rounding) own_edge other_edge ∙ (unless_parted rounding s t).1 apart)

  -- one pair
  module _ (i j : ℕ) (s t : Edge) (before : i < j) (at : IsAt es i s) (there : IsAt es j t) (old new : List LaidMark) (own : Bool) where
    abbrev first : List LaidMark
    first = laid_on stride i s (along s (marks_by rounding s t).first)

    abbrev second : List LaidMark
    second = laid_on stride j t (along t (marks_by rounding s t).second)

    alone : (xs : List LaidMark) → xs ++ [] ≡ xs
    alone [] = refl
    alone (x ∷ xs) = ap (λ l. x ∷ l) (alone xs)

    pair_added : AreWithin least greatest (both_along s t (marks_by rounding s t)) → own ≡ crosses_off_grid s t → Found stride least greatest rounding es (λ i' j'. (i' ≡ i) × (j' ≡ j)) old ((old ++ first) ++ second) own
    pair_added within tells = record {
      only = λ h.
          All-append (IsLaid stride least greatest (marks_by rounding) es) (old ++ first) second
          (All-append (IsLaid stride least greatest (marks_by rounding) es) old first h
          (laid_only stride least greatest rounding es rising i s (marks_by rounding s t).first at
          (All-weaker (Contains (marks_by rounding s t).first) (Contains (marks_on (marks_by rounding) es s)) (λ p c. flat_map_has (λ u. (marks_by rounding s u).first) es t p (at_contains es j t there) c) (marks_by rounding s t).first (All-contains_itself (marks_by rounding s t).first))
          within.first))
          (laid_only stride least greatest rounding es rising j t (marks_by rounding s t).second there
          (All-weaker (Contains (marks_by rounding s t).second) (Contains (marks_on (marks_by rounding) es t))
          (λ p c. flat_map_has (λ u. (marks_by rounding t u).first) es s p (at_contains es i s at) (subst (λ l. Contains l p) (sym (turned stride least greatest rounding es rising s t (rises stride least greatest rounding es rising i j s t before at there))) c)) (marks_by rounding s t).second (All-contains_itself (marks_by rounding s t).second))
          within.second);
      keeps = λ n p h. has_more stride least greatest rounding es rising (old ++ first) second n p (has_more stride least greatest rounding es rising old first n p h);
      found = λ i' j' s' t' e at' there'. by i' j' s' t' e.0 e.1 at' there';
    }
      where
        here : HasPair ((old ++ first) ++ second) i j (marks_by rounding s t)
        here = (
          laid_in stride least greatest rounding es rising i s (marks_by rounding s t).first old second,
          subst (λ l. All (HasMark l j) (marks_by rounding s t).second) (alone ((old ++ first) ++ second)) (laid_in stride least greatest rounding es rising j t (marks_by rounding s t).second (old ++ first) []),
        )

        by : (i' j' : ℕ) (s' t' : Edge) → i' ≡ i → j' ≡ j → IsAt es i' s' → IsAt es j' t' → IsFound (marks_by rounding) ((old ++ first) ++ second) own i' s' j' t'
        by i' j' s' t' e f at' there' =
            let own_edge = at_same es i s' s (subst (λ n. IsAt es n s') e at') at in
            let other_edge = at_same es j t' t (subst (λ n. IsAt es n t') f there') there in
            record {
              has =
                  subst (λ m. HasPair ((old ++ first) ++ second) m j' (marks_by rounding s' t')) (sym e)
                  (subst (λ n. HasPair ((old ++ first) ++ second) i n (marks_by rounding s' t')) (sym f)
                  (subst (HasPair ((old ++ first) ++ second) i j) (sym (ap₂ (marks_by rounding) own_edge other_edge)) here));
              whole = λ down. ap₂ crosses_off_grid own_edge other_edge ∙ (sym tells ∙ down);
            }

    -- what the two lay on each other came to the list
    pub finds_pair : (m : Marks) → m ≡ both_along s t (marks_by rounding s t) → AreWithin least greatest m → own ≡ crosses_off_grid s t → new ≡ (old ++ laid_on stride i s m.first) ++ laid_on stride j t m.second
        → Found stride least greatest rounding es (λ i' j'. (i' ≡ i) × (j' ≡ j)) old new own
    finds_pair m is within tells laid =
        subst (λ l. Found stride least greatest rounding es (λ i' j'. (i' ≡ i) × (j' ≡ j)) old l own) (sym (laid ∙ ap (λ m. (old ++ laid_on stride i s m.first) ++ laid_on stride j t m.second) is))
        (pair_added (subst (AreWithin least greatest) is within) tells)

  -- all pairs, where those that weren't looked at lay nothing
  module _ (pairs : ℕ → ℕ → Type 0) (laid : List LaidMark) (off : Bool) (h : Found stride least greatest rounding es pairs [] laid off)
      (each : (i j : ℕ) (s t : Edge) → i < j → IsAt es i s → IsAt es j t → pairs i j ⊎ (marks_by rounding s t ≡ no_marks)) where
    each_found : (i j : ℕ) (s t : Edge) → i < j → IsAt es i s → IsAt es j t → IsFound (marks_by rounding) laid off i s j t
    each_found i j s t before at there = by (each i j s t before at there)
      where
        by : pairs i j ⊎ (marks_by rounding s t ≡ no_marks) → IsFound (marks_by rounding) laid off i s j t
        by (inl p) = h.found i j s t p at there
        by (inr none) = none_found stride least greatest rounding es rising laid off i s j t none

    pub finds_all : AreMarks stride least greatest (marks_by rounding) es laid
    finds_all = record {
      only = h.only (All-nil (IsLaid stride least greatest (marks_by rounding) es));
      all = λ i j s t before at there. (each_found i j s t before at there).has;
    }

    -- where no pair was told to cross off the grid, all meet whole
    pub finds_whole : off ≡ false → AllMeetWhole es
    finds_whole down s t at there = let here = contains_at es s at in let yonder = contains_at es t there in by here.0 yonder.0 here.1 yonder.1 (cases_order here.0 yonder.0)
      where
        pair : (i j : ℕ) (u v : Edge) → i < j → IsAt es i u → IsAt es j v → MeetsWhole u v
        pair i j u v before at there = on_grid_whole u v ((each_found i j u v before at there).whole down)

        by : (i j : ℕ) → IsAt es i s → IsAt es j t → (i ≡ j) ⊎ ((i < j) ⊎ (j < i)) → MeetsWhole s t
        by i j at there (inl e) = subst (MeetsWhole s) (at_same es j s t (subst (λ n. IsAt es n s) e at) there) (on_grid_whole s s (sym (parted_on_grid s s (parted_itself s))))
        by i j at there (inr (inl l)) = pair i j s t l at there
        by i j at there (inr (inr l)) = whole_marks_stay.swapped t s (pair j i t s l there at)

  -- where all edges are old, nothing is laid
  module _ (next_new : List ℕ) (skips : SkipsOld es next_new) (next : ℕ) (last : length es ≤ next) (passed : (n : ℕ) → 0 ≤ n → n < next → n < slice_index_or next_new 0 0) where
    all_old : (n : ℕ) (s : Edge) → IsAt es n s → Contains skips.old s
    all_old n s at = skips.passed 0 n s (omega arith) (passed n (omega arith) (omega (arith, last, at.0))) at

    each_old : (i j : ℕ) (s t : Edge) → i < j → IsAt es i s → IsAt es j t → ⊥ ⊎ (marks_by rounding s t ≡ no_marks)
    each_old i j s t before at there = inr ((unless_parted rounding s t).1 (skips.parted s t (all_old i s at) (all_old j t there)))

    pub none_new : AreMarks stride least greatest (marks_by rounding) es []
    none_new = finds_all (λ i j. ⊥) [] false (finds_none stride least greatest rounding es (λ i j. ⊥) (λ i j h. h) []) each_old

    pub none_new_whole : AllMeetWhole es
    none_new_whole = finds_whole (λ i j. ⊥) [] false (finds_none stride least greatest rounding es (λ i j. ⊥) (λ i j h. h) []) each_old refl

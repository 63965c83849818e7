-- What counts for nothing may be dropped last.
use Rattle.std.proofs.Common.{◌≡◌, Bool, true, false, cond, not, List, [], ◌∷◌, filter, All, Option, Some, None, Less, is_eq, refl, sym, ap, ◌∙◌}
use Rattle.std.proofs.lemmas.List.Kept.{AllPairs-filter}
use Rattle.std.proofs.lemmas.List.Elements.{All-head, All-tail}
use Rattle.plane_base.specs.Plane.{Edge, edge_order}
use Rattle.plane_base.specs.Counts.{Counting, Entry, normal, count_at}
use Rattle.plane_base.proofs.Facts.Points.Orders.{edge_equal, is_equal}
use Rattle.plane_base.proofs.Facts.Maps.Normal.{IsRising, rising_rest, count_at_head, unless_none, with_count, joined_at, count_at_normal, normal_rising}
use Rattle.plane_base.proofs.Facts.Maps.Normal.{same_rising, IsCounting}
use Rattle.segment_split.specs.Data.{is_counted, never_empty}

-- ---- entries that pass a test of their counts

module _ {C : Type 0} (q : C → Bool) where
  -- the entries whose counts pass
  abbrev pub passing : List (Entry C) → List (Entry C)
  passing es = filter (λ e. q e.count) es

  -- the count, if it passes
  abbrev pub if_passing : Option C → Option C
  if_passing None = None
  if_passing (Some c) = cond (q c) (Some c) None

  pub passing_rising : (es : List (Entry C)) → IsRising es → IsRising (passing es)
  passing_rising es h = AllPairs-filter (λ e f. edge_order e.edge f.edge ≡ Less) (λ e. q e.count) es h

  pub count_at_passing : (es : List (Entry C)) (s : Edge) → IsRising es → count_at (passing es) s ≡ if_passing (count_at es s)
  count_at_passing [] s rising = refl
  count_at_passing (e ∷ es) s rising = by (is_eq (edge_order e.edge s)) refl (q e.count) refl (count_at_passing es s (rising_rest e es rising))
    where
      by : (here : Bool) → is_eq (edge_order e.edge s) ≡ here → (passes : Bool) → q e.count ≡ passes → count_at (passing es) s ≡ if_passing (count_at es s)
          → count_at (cond passes (e ∷ passing es) (passing es)) s ≡ if_passing (cond here (Some e.count) (count_at es s))
      by true h true p rest = ap (λ b. cond b (Some e.count) (count_at (passing es) s)) h ∙ sym (ap (λ b. cond b (Some e.count) None) p)
      by true h false p rest =
          rest
          ∙ (ap (λ t. if_passing (count_at es t)) (sym (edge_equal e.edge s (is_equal (edge_order e.edge s) h)))
          ∙ (ap if_passing (count_at_head e es rising) ∙ sym (ap (λ b. cond b (Some e.count) None) p)))
      by false h true p rest = ap (λ b. cond b (Some e.count) (count_at (passing es) s)) h ∙ rest
      by false h false p rest = rest

-- those that all pass stay
pub filter_itself : {X : Type 0} (p : X → Bool) (xs : List X) → All (λ x. p x ≡ true) xs → filter p xs ≡ xs
filter_itself p [] h = refl
filter_itself p (x ∷ xs) h =
    ap (λ b. cond b (x ∷ filter p xs) (filter p xs)) (All-head (λ x. p x ≡ true) x xs h)
    ∙ ap (λ l. x ∷ l) (filter_itself p xs (All-tail (λ x. p x ≡ true) x xs h))

-- ---- maps

module _ {C : Type 0} {kind : Counting C} (laws : IsCounting kind) where
  dropped_with : (c : C) (o : Option C) → if_passing (is_counted kind) (with_count (never_empty kind) c o) ≡ with_count kind c (if_passing (is_counted kind) o)
  dropped_with c None = by (kind.is_empty c)
    where
      by : (empty : Bool) → cond (not empty) (Some c) None ≡ cond empty None (Some c)
      by true = refl
      by false = refl
  dropped_with c (Some d) = by (kind.is_empty d) refl
    where
      none : (empty : Bool) → cond (not empty) (Some (kind.join c d)) None ≡ cond empty None (Some (kind.join c d))
      none true = refl
      none false = refl

      by : (empty : Bool) → kind.is_empty d ≡ empty
          → cond (not (kind.is_empty (kind.join c d))) (Some (kind.join c d)) None ≡ with_count kind c (cond (not empty) (Some d) None)
      by true h = none (kind.is_empty (kind.join c d)) ∙ ap (unless_none kind) (laws.join_comm c d ∙ laws.join_empty d c h)
      by false h = none (kind.is_empty (kind.join c d))

  dropped_at : (es : List (Entry C)) (s : Edge) → if_passing (is_counted kind) (joined_at (never_empty kind) es s) ≡ joined_at kind es s
  dropped_at [] s = refl
  dropped_at (e ∷ es) s = by (is_eq (edge_order e.edge s)) (dropped_at es s)
    where
      by : (here : Bool) → if_passing (is_counted kind) (joined_at (never_empty kind) es s) ≡ joined_at kind es s
          → if_passing (is_counted kind) (cond here (with_count (never_empty kind) e.count (joined_at (never_empty kind) es s))
          (joined_at (never_empty kind) es s))
          ≡ cond here (with_count kind e.count (joined_at kind es s)) (joined_at kind es s)
      by true h = dropped_with e.count (joined_at (never_empty kind) es s) ∙ ap (with_count kind e.count) h
      by false h = h

  -- all entries of an edge may be joined first, and what then counts for nothing be dropped
  pub drop_last : (es : List (Entry C)) → normal kind es ≡ filter (λ e. is_counted kind e.count) (normal (never_empty kind) es)
  drop_last es =
      same_rising (normal kind es) (passing (is_counted kind) (normal (never_empty kind) es)) (normal_rising kind es)
      (passing_rising (is_counted kind) (normal (never_empty kind) es) (normal_rising (never_empty kind) es))
      (λ s. count_at_normal kind es s
      ∙ sym (count_at_passing (is_counted kind) (normal (never_empty kind) es) s (normal_rising (never_empty kind) es)
      ∙ (ap (if_passing (is_counted kind)) (count_at_normal (never_empty kind) es s) ∙ dropped_at es s)))

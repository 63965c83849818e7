-- The sweep goes on from a stop to the next end.
use Rattle.std.proofs.Common.{◌≡◌, ◌≢◌, ℕ, ◌<◌, ◌^◌, Bool, true, false, ◌||◌, nat_lt, List, [], ◌∷◌, ◌++◌, length, All, Contains, Some, inl, inr, ⊎_elim, refl, sym, ap, subst, ◌∙◌, append_assoc, arith}
use Rattle.std.specs.Ordering.{is_le}
use Rattle.std.proofs.lemmas.Bool.{false≢true}
use Rattle.std.proofs.lemmas.List.Elements.{Contains-append_right, All-append, All-contains, All-contains_itself, All-weaker}
use Rattle.std.proofs.lemmas.List.Sorted.{All-permutation, IsPermutation-sym, length_permutation}
use Rattle.plane_base.specs.Plane.{Point, point_order}
use Rattle.plane_base.specs.Counts.{Count, Entry}
use Rattle.plane_base.proofs.Facts.Lists.Cycles.{All-front}
use Rattle.segment_split.specs.Passes.{edges_of}
use Rattle.segment_split.specs.LineLaws.{AllRectilinear, IsEndOfSome}
use Rattle.segment_split.specs.Stops.{LinesView, all_changed, visited, line_at, steps_from}
use Rattle.segment_split.specs.Sweeps.{AreInOrder, reached, Ticked, Swept, IsNextEnd, AreBySeconds, Crosses, CrossesSome, IsSwept, IsGreatestEnd}
use Rattle.segment_split.proofs.Stops.Crossings.{mapped_from}
use Rattle.segment_split.proofs.Stops.Events.{listed_edge, met}
use Rattle.segment_split.proofs.Stops.Onto.{ticked_on}

contains_last : (front es : List (Entry Count)) (e : Entry Count) → es ≡ front ++ e ∷ [] → Contains es e
contains_last front es e is = subst (λ l. Contains l e) (sym is) (Contains-append_right front (e ∷ []) e (0, omega arith, refl))

-- Some entry comes or goes.
pub progress : (before ahead : List (Entry Count)) (p : Point) → IsGreatestEnd before ahead p → ((front : List (Entry Count)) (e : Entry Count) → before ≡ front ++ e ∷ [] → e.edge.a ≢ p)
    → ((front : List (Entry Count)) (e : Entry Count) → ahead ≡ front ++ e ∷ [] → e.edge.b ≢ p) → ⊥
progress before ahead p greatest none_goes none_comes = ⊎_elim (λ k. none_goes k.0 k.1 k.2 (sym k.3)) (λ k. none_comes k.0 k.1 k.2 (sym k.3)) greatest.own

module _ (es before ahead : List (Entry Count)) (lines : LinesView) (laid : List (Entry Count)) (marked : Bool) (origin ticks : ℕ) (is : IsSwept es before ahead lines laid marked origin ticks) (p : Point) (greatest : IsGreatestEnd before ahead p) where
  before_in : All (Contains es) before
  before_in = All-front (Contains es) before is.gone (subst (λ l. All (Contains es) l) is.swept.cut.firsts (All-contains_itself es))

  ahead_in : All (Contains es) ahead
  ahead_in = All-front (Contains es) ahead is.come (All-permutation (Contains es) es (ahead ++ is.come) is.swept.cut.seconds (All-contains_itself es))

  firsts_before : All (λ e. reached is.last e.edge.a ≡ false → is_le (point_order e.edge.a p) ≡ true) es
  firsts_before =
      subst (All (λ e. reached is.last e.edge.a ≡ false → is_le (point_order e.edge.a p) ≡ true)) (sym is.swept.cut.firsts)
      (All-append (λ e. reached is.last e.edge.a ≡ false → is_le (point_order e.edge.a p) ≡ true) before is.gone
      (All-weaker (λ e. is_le (point_order e.edge.a p) ≡ true) (λ e. reached is.last e.edge.a ≡ false → is_le (point_order e.edge.a p) ≡ true) (λ e l _. l) before greatest.firsts)
      (All-weaker (λ e. reached is.last e.edge.a ≡ true) (λ e. reached is.last e.edge.a ≡ false → is_le (point_order e.edge.a p) ≡ true) (λ e k f. absurd (false≢true (sym f ∙ k))) is.gone is.swept.cut.is_gone))

  seconds_before : All (λ e. reached is.last e.edge.b ≡ false → is_le (point_order e.edge.b p) ≡ true) es
  seconds_before =
      All-permutation (λ e. reached is.last e.edge.b ≡ false → is_le (point_order e.edge.b p) ≡ true) (ahead ++ is.come) es (IsPermutation-sym es (ahead ++ is.come) is.swept.cut.seconds)
      (All-append (λ e. reached is.last e.edge.b ≡ false → is_le (point_order e.edge.b p) ≡ true) ahead is.come
      (All-weaker (λ e. is_le (point_order e.edge.b p) ≡ true) (λ e. reached is.last e.edge.b ≡ false → is_le (point_order e.edge.b p) ≡ true) (λ e l _. l) ahead greatest.seconds)
      (All-weaker (λ e. reached is.last e.edge.b ≡ true) (λ e. reached is.last e.edge.b ≡ false → is_le (point_order e.edge.b p) ≡ true) (λ e k f. absurd (false≢true (sym f ∙ k))) is.come is.swept.cut.is_come))

  pub next_end_is : IsNextEnd es is.last p
  next_end_is = record {
    own =
        ⊎_elim (λ k. (k.1.edge, listed_edge es k.1 (All-contains (Contains es) before k.1 before_in (contains_last k.0 before k.1 k.2)), inl k.3))
        (λ k. (k.1.edge, listed_edge es k.1 (All-contains (Contains es) ahead k.1 ahead_in (contains_last k.0 ahead k.1 k.2)), inr k.3)) greatest.own;
    ahead =
        ⊎_elim (λ k. ap (reached is.last) k.3 ∙ All-contains (λ e. reached is.last e.edge.a ≡ false) before k.1 is.swept.cut.not_gone (contains_last k.0 before k.1 k.2))
        (λ k. ap (reached is.last) k.3 ∙ All-contains (λ e. reached is.last e.edge.b ≡ false) ahead k.1 is.swept.cut.not_come (contains_last k.0 ahead k.1 k.2)) greatest.own;
    last = last;
  }
    where
      last : (r : Point) → IsEndOfSome (edges_of es) r → reached is.last r ≡ false → is_le (point_order r p) ≡ true
      last r end e = ⊎_elim first second end.2
        where
          entry : (e : Entry Count) × Contains es e × (e.edge ≡ end.0)
          entry = mapped_from (λ e. e.edge) es end.0 end.1

          first : r ≡ end.0.a → is_le (point_order r p) ≡ true
          first f =
              let same : entry.0.edge.a ≡ r = ap (λ s. s.a) entry.2 ∙ sym f in
              ap (λ z. is_le (point_order z p)) (sym same)
              ∙ All-contains (λ e. reached is.last e.edge.a ≡ false → is_le (point_order e.edge.a p) ≡ true) es entry.0 firsts_before entry.1 (ap (reached is.last) same ∙ e)

          second : r ≡ end.0.b → is_le (point_order r p) ≡ true
          second f =
              let same : entry.0.edge.b ≡ r = ap (λ s. s.b) entry.2 ∙ sym f in
              ap (λ z. is_le (point_order z p)) (sym same)
              ∙ All-contains (λ e. reached is.last e.edge.b ≡ false → is_le (point_order e.edge.b p) ≡ true) es entry.0 seconds_before entry.1 (ap (reached is.last) same ∙ e)

  or_regrouped : (a b c : Bool) → ((a || b) || c) ≡ (a || (b || c))
  or_regrouped true b c = refl
  or_regrouped false b c = refl

  pub onward : (crossed_lines : LinesView) (crossed_laid : List (Entry Count)) (new_ticks : ℕ) (crossed : Bool) → Crosses p lines laid ticks crossed_lines crossed_laid new_ticks crossed → AreInOrder es → AllRectilinear (edges_of es) → length es < 2 ^ 32
      → (left mid left_ends mid_ends : List (Entry Count)) → before ≡ left ++ mid → All (λ e. e.edge.a ≡ p) mid → ((front : List (Entry Count)) (e : Entry Count) → left ≡ front ++ e ∷ [] → e.edge.a ≢ p)
      → ahead ≡ left_ends ++ mid_ends → All (λ e. e.edge.b ≡ p) mid_ends → ((front : List (Entry Count)) (e : Entry Count) → left_ends ≡ front ++ e ∷ [] → e.edge.b ≢ p)
      → (lines_gone lines_come : LinesView) (new_laid : List (Entry Count)) (passed : Bool) → lines_gone ≡ all_changed false mid (visited p crossed_lines) → lines_come ≡ all_changed true mid_ends lines_gone
      → new_laid ≡ crossed_laid ++ steps_from p crossed_lines → passed ≡ (nat_lt 0 lines_gone.column.running || nat_lt 0 (line_at p.y lines_gone.rows).running)
      → IsSwept es left left_ends lines_come new_laid (marked || (crossed || passed)) origin new_ticks
  onward crossed_lines crossed_laid new_ticks crossed crosses h all few left mid left_ends mid_ends starts start_here start_last ends end_here end_last lines_gone lines_come new_laid passed e1 e2 e3 e4 =
      let now = crosses es before is.gone ahead is.come is.last is.stops marked h all next_end_is is.swept in
      let there = met es h all is.last now.0 before left mid is.gone ahead left_ends mid_ends is.come crossed_lines crossed_laid (marked || crossed) now.1 p next_end_is now.2
      starts start_here start_last ends end_here end_last is.seconds room in
      record {
        last = Some p;
        stops = p ∷ now.0;
        gone = mid ++ is.gone;
        come = mid_ends ++ is.come;
        swept =
            subst (λ b. Swept es (Some p) (p ∷ now.0) left (mid ++ is.gone) left_ends (mid_ends ++ is.come) lines_come new_laid b) (ap (λ c. (marked || crossed) || c) (through ∙ sym e4) ∙ or_regrouped marked crossed passed)
            (subst (λ l. Swept es (Some p) (p ∷ now.0) left (mid ++ is.gone) left_ends (mid_ends ++ is.come) lines_come l ((marked || crossed) || through_now)) (sym e3)
            (subst (λ l. Swept es (Some p) (p ∷ now.0) left (mid ++ is.gone) left_ends (mid_ends ++ is.come) l (crossed_laid ++ steps_from p crossed_lines) ((marked || crossed) || through_now)) (sym (e2 ∙ ap (all_changed true mid_ends) e1)) there));
        seconds = subst AreBySeconds (ap (λ l. l ++ is.come) ends ∙ append_assoc left_ends mid_ends is.come) is.seconds;
        ticked = ticked_on es now.0 p origin new_ticks (now.3 origin is.ticked);
      }
    where
      room : length (ahead ++ is.come) < 2 ^ 32
      room = by (length es) (length (ahead ++ is.come)) (length_permutation es (ahead ++ is.come) is.swept.cut.seconds) few
        where
          by : (m n : ℕ) → n ≡ m → m < 2 ^ 32 → n < 2 ^ 32
          by m n e l = omega (arith, e, l)

      through_now : Bool
      through_now = nat_lt 0 (all_changed false mid (visited p crossed_lines)).column.running || nat_lt 0 (line_at p.y (all_changed false mid (visited p crossed_lines)).rows).running

      through : through_now ≡ (nat_lt 0 lines_gone.column.running || nat_lt 0 (line_at p.y lines_gone.rows).running)
      through = ap (λ l. nat_lt 0 l.column.running || nat_lt 0 (line_at p.y l.rows).running) (sym e1)

  -- what was counted where it stopped
  pub some_onward : (new_ticks : ℕ) → CrossesSome p lines laid ticks new_ticks → AreInOrder es → AllRectilinear (edges_of es) → (ps : List Point) × Ticked es ps origin new_ticks
  some_onward new_ticks some h all = some es before is.gone ahead is.come is.last is.stops marked h all next_end_is is.swept origin is.ticked

  pub met_onward : (crossed_lines : LinesView) (crossed_laid : List (Entry Count)) (new_ticks : ℕ) (crossed : Bool) → Crosses p lines laid ticks crossed_lines crossed_laid new_ticks crossed
      → AreInOrder es → AllRectilinear (edges_of es) → (ps : List Point) × Ticked es ps origin new_ticks
  met_onward crossed_lines crossed_laid new_ticks crossed crosses h all =
      let now = crosses es before is.gone ahead is.come is.last is.stops marked h all next_end_is is.swept in
      (now.0, now.3 origin is.ticked)

-- A stop is met: its steps are laid, and it is the last stop on its lines.
use Rattle.std.proofs.Common.{◌≡◌, zero, suc, Bool, true, false, cond, List, [], ◌∷◌, ◌++◌, reverse, All, Contains, Option, Some, None, ◌⊎◌, inl, inr, ⊎_elim, ℤ, pos, ◌+ℤ◌, int_eq, refl, sym, ap, ap₂, subst, ◌∙◌, append_assoc, arith}
use Rattle.std.specs.Ordering.{is_le}
use Rattle.std.proofs.lemmas.Int.{ints}
use Rattle.std.proofs.lemmas.Bool.{false≢true}
use Rattle.std.proofs.lemmas.Bool.Decides.{Decides-int_eq}
use Rattle.std.proofs.lemmas.List.{reverse-append}
use Rattle.std.proofs.lemmas.List.Elements.{All-nil, All-cons, All-contains, All-weaker, All-contains_itself}
use Rattle.plane_base.specs.Plane.{Point, point_order}
use Rattle.plane_base.specs.Counts.{Count, Entry, boolean}
use Rattle.plane_base.specs.Totals.{total}
use Rattle.plane_base.proofs.Facts.Lists.Totals.{total_zero_on}
use Rattle.segment_split.specs.Passes.{edges_of}
use Rattle.segment_split.specs.LineLaws.{AllRectilinear, IsEndOfSome, first_by, counted_step, count_along, step_to, steps_between}
use Rattle.segment_split.specs.Stops.{RowView, LinesView, stopped, at_height, visited, bare, line_at, step_from, step_with, steps_from, above_it}
use Rattle.segment_split.specs.Sweeps.{AreInOrder, in_column, in_row, Runs, AllRun, reached, IsBefore, same_y, Swept}
use Rattle.segment_split.proofs.Stops.Rows.{IsApart, same_height}
use Rattle.segment_split.proofs.Stops.Changes.{changed_rows, turned_about}
use Rattle.segment_split.proofs.Stops.Reached.{kept, by_reach}
use Rattle.segment_split.proofs.Stops.Steps.{step_along, step_up}
use Rattle.segment_split.proofs.Stops.Crossings.{mapped_from}

-- ---- rows

-- a row of the height, or none
pub record HasRow (y : ℤ) (rows : List RowView) : Type 0 where
  pub row : RowView
  pub listed : Contains rows row
  pub height : row.y ≡ y
  pub line : line_at y rows ≡ row.line

pub row_or_none : (y : ℤ) (rows : List RowView) → HasRow y rows ⊎ (All (IsApart y) rows × (line_at y rows ≡ bare))
row_or_none y [] = inr (All-nil (IsApart y), refl)
row_or_none y (r ∷ rs) = by (int_eq r.y y) refl (row_or_none y rs)
  where
    by : (b : Bool) → int_eq r.y y ≡ b → HasRow y rs ⊎ (All (IsApart y) rs × (line_at y rs ≡ bare)) → HasRow y (r ∷ rs) ⊎ (All (IsApart y) (r ∷ rs) × (line_at y (r ∷ rs) ≡ bare))
    by true e rest = inl (record { row = r; listed = (zero, omega arith, refl); height = (Decides-int_eq r.y y).0 e; line = ap (λ (b : Bool). cond b r.line (line_at y rs)) e })
    by false e (inl k) = inl (record { row = k.row; listed = (suc k.listed.0, omega (arith, k.listed.1), k.listed.2); height = k.height; line = ap (λ (b : Bool). cond b r.line (line_at y rs)) e ∙ k.line })
    by false e (inr k) = inr (All-cons (IsApart y) r rs e k.0, ap (λ (b : Bool). cond b r.line (line_at y rs)) e ∙ k.1)

-- ---- what is laid at a stop

module _ (es : List (Entry Count)) (h : AreInOrder es) (all : AllRectilinear (edges_of es)) (t : Option Point) (ps : List Point) (before gone ahead come : List (Entry Count))
    (lines : LinesView) (laid : List (Entry Count)) (marked : Bool) (swept : Swept es t ps before gone ahead come lines laid marked)
    (p : Point) (behind : IsBefore ps p) (last : (r : Point) → IsEndOfSome (edges_of es) r → reached t r ≡ false → is_le (point_order r p) ≡ true) where
  -- a line on which nothing runs
  none_in : All (IsApart p.y) lines.rows → All (λ e. in_row p.y e ≡ false) es
  none_in apart = All-weaker (Contains es) (λ e. in_row p.y e ≡ false) each es (All-contains_itself es)
    where
      each : (e : Entry Count) → Contains es e → in_row p.y e ≡ false
      each e at = by (int_eq e.edge.a.x e.edge.b.x) refl (int_eq e.edge.a.y p.y) refl
        where
          by : (b : Bool) → int_eq e.edge.a.x e.edge.b.x ≡ b → (d : Bool) → int_eq e.edge.a.y p.y ≡ d → cond b false d ≡ false
          by true u d v = refl
          by false u false v = refl
          by false u true v =
              let row = mapped_from (λ r. r.y) lines.rows e.edge.a.y (swept.has e at u) in
              absurd (false≢true (sym (All-contains (IsApart p.y) lines.rows row.0 apart row.1) ∙ same_height row.0.y p.y (row.2 ∙ (Decides-int_eq e.edge.a.y p.y).0 v)))

  none_at : (weight : Entry Count → ℤ) (g : Entry Count → Bool) → All (λ e. in_row p.y e ≡ false) es → total (λ e. kept (g e) (cond (in_row p.y e) (weight e) (pos 0))) es ≡ pos 0
  none_at weight g none = total_zero_on (λ e. kept (g e) (cond (in_row p.y e) (weight e) (pos 0))) es (All-weaker (λ e. in_row p.y e ≡ false) (λ e. kept (g e) (cond (in_row p.y e) (weight e) (pos 0)) ≡ pos 0) (λ e f. ap (λ (b : Bool). kept (g e) (cond b (weight e) (pos 0))) f ∙ zero_kept (g e)) es none)
    where
      zero_kept : (b : Bool) → kept b (pos 0) ≡ pos 0
      zero_kept true = refl
      zero_kept false = refl

  along : step_from p (line_at p.y lines.rows) ≡ step_to boolean es p (first_by (same_y p.y) ps)
  along = ⊎_elim there (λ k. none k.0 k.1) (row_or_none p.y lines.rows)
    where
      there : HasRow p.y lines.rows → step_from p (line_at p.y lines.rows) ≡ step_to boolean es p (first_by (same_y p.y) ps)
      there k =
          let runs = subst (λ y. Runs (in_row y) gone come k.row.line) k.height (All-contains (λ r. Runs (in_row r.y) gone come r.line) lines.rows k.row swept.runs.rows k.listed) in
          let sums = by_reach es t t before gone ahead come swept.cut (in_row p.y) k.row.line runs in
          let next = subst (λ y. k.row.line.next ≡ first_by (same_y y) ps) k.height (All-contains (λ r. r.line.next ≡ first_by (same_y r.y) ps) lines.rows k.row swept.nexts k.listed) in
          ap (step_from p) k.line ∙ step_along es h all t ps swept.stops p behind last k.row.line sums.1 sums.2 next

      none : All (IsApart p.y) lines.rows → line_at p.y lines.rows ≡ bare → step_from p (line_at p.y lines.rows) ≡ step_to boolean es p (first_by (same_y p.y) ps)
      none apart is =
          ap (step_from p) is
          ∙ (nothing (first_by (same_y p.y) ps)
          ∙ step_along es h all t ps swept.stops p behind last (record { running = zero; sum = bare.sum; next = first_by (same_y p.y) ps })
          (zeros _ _ (none_at (λ e. e.count.subject) (λ e. reached t e.edge.a) (none_in apart)) (none_at (λ e. e.count.subject) (λ e. reached t e.edge.b) (none_in apart)))
          (zeros _ _ (none_at (λ e. e.count.clip) (λ e. reached t e.edge.a) (none_in apart)) (none_at (λ e. e.count.clip) (λ e. reached t e.edge.b) (none_in apart)))
          refl)
        where
          nothing : (o : Option Point) → [] ≡ step_with bare.sum p o
          nothing None = refl
          nothing (Some q) = refl

          zeros : (g c : ℤ) → g ≡ pos 0 → c ≡ pos 0 → pos 0 +ℤ g ≡ c
          zeros g c e f = omega (arith, ints, e, f)

  up : step_with lines.column.sum p (above_it p lines.column.next) ≡ step_to boolean es p (first_by (λ q. int_eq q.x p.x) ps)
  up = let sums = by_reach es t t before gone ahead come swept.cut in_column lines.column swept.runs.column in step_up es h all t ps swept.stops p behind last lines.column sums.1 sums.2 swept.next

  pub laid_at : laid ++ steps_from p lines ≡ reverse (steps_between boolean es (p ∷ ps))
  laid_at =
      ap₂ (λ l m. l ++ m) swept.steps (ap₂ (λ l m. l ++ m) along up)
      ∙ sym (reverse-append upward (level ++ steps_between boolean es ps)
      ∙ (ap₂ (λ l m. l ++ m) (reverse-append level (steps_between boolean es ps)) (turned (first_by (λ q. int_eq q.x p.x) ps))
      ∙ (ap (λ l. (reverse (steps_between boolean es ps) ++ l) ++ upward) (turned (first_by (same_y p.y) ps))
      ∙ append_assoc (reverse (steps_between boolean es ps)) level upward)))
    where
      upward : List (Entry Count)
      upward = step_to boolean es p (first_by (λ q. int_eq q.x p.x) ps)

      level : List (Entry Count)
      level = step_to boolean es p (first_by (same_y p.y) ps)

      turned : (o : Option Point) → reverse (step_to boolean es p o) ≡ step_to boolean es p o
      turned None = refl
      turned (Some q) = by (count_along boolean es (record { a = p; b = q }))
        where
          by : (c : Option Count) → reverse (counted_step (record { a = p; b = q }) c) ≡ counted_step (record { a = p; b = q }) c
          by None = refl
          by (Some c) = refl

  -- the last stops on the lines, and what runs along them
  pub nexts_at : All (λ r. r.line.next ≡ first_by (same_y r.y) (p ∷ ps)) (at_height p.y (stopped p) lines.rows)
  nexts_at =
      changed_rows (λ r. r.line.next ≡ first_by (same_y r.y) ps) (λ r. r.line.next ≡ first_by (same_y r.y) (p ∷ ps)) p.y (stopped p) lines.rows
      (λ r k e. sym (ap (λ (b : Bool). cond b (Some p) (first_by (same_y r.y) ps)) (turned_about p.y r.y true e)))
      (λ r k e. k ∙ sym (ap (λ (b : Bool). cond b (Some p) (first_by (same_y r.y) ps)) (turned_about p.y r.y false e)))
      swept.nexts

  pub runs_at_stop : AllRun gone come (visited p lines)
  runs_at_stop = record {
    rows =
        changed_rows (λ r. Runs (in_row r.y) gone come r.line) (λ r. Runs (in_row r.y) gone come r.line) p.y (stopped p) lines.rows
        (λ r k e. record { running = k.running; subject = k.subject; clip = k.clip }) (λ r k e. k) swept.runs.rows;
    column = record { running = swept.runs.column.running; subject = swept.runs.column.subject; clip = swept.runs.column.clip };
  }

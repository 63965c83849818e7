-- What runs along a line counts for something where it is counted, and only there.
use Rattle.std.proofs.Common.{◌≡◌, ◌↔◌, zero, suc, Bool, true, false, not, cond, ◌&&◌, List, [], ◌∷◌, All, Contains, Option, Some, None, inl, inr, ⊎_elim, ℤ, pos, ◌+ℤ◌, ◌≤ℤ◌, ◌<ℤ◌, int_eq, nat_lt, Less, is_lt, refl, sym, ap, ap₂, subst, ◌∙◌, arith}
use Rattle.std.specs.Ordering.{is_le}
use Rattle.std.specs.Cmp.{both_ways}
use Rattle.std.proofs.lemmas.Int.{ints}
use Rattle.std.proofs.lemmas.Bool.{false≢true, ltb-true, lt-ltb}
use Rattle.std.proofs.lemmas.Bool.Decides.{Decides-int_eq}
use Rattle.std.proofs.lemmas.List.Elements.{All-contains, All-weaker}
use Rattle.plane_base.specs.Plane.{Point, Edge, is_before, point_order}
use Rattle.plane_base.specs.Counts.{Count, Entry, boolean}
use Rattle.plane_base.specs.Totals.{total}
use Rattle.plane_base.proofs.Facts.Points.Orders.{point_less_x, point_less_by_x, point_less_by_y}
use Rattle.segment_split.specs.Passes.{edges_of}
use Rattle.segment_split.specs.LineLaws.{AllRectilinear, is_part, count_along, sum_along, SpansHorizontal, SpansUp, IsEndOfSome, IsCrossing, right_of, above, CountsFrom}
use Rattle.segment_split.specs.Stops.{RowView, LinesView}
use Rattle.segment_split.specs.Sweeps.{AreInOrder, in_column, in_row, subject_if, clip_if, Runs, is_met, reached, IsBefore, Swept}
use Rattle.segment_split.proofs.Spread.Lists.{edges_contain}
use Rattle.segment_split.proofs.Whole.RectilinearEdges.{IsHorizontal}
use Rattle.segment_split.proofs.Whole.Coordinates.{less_by_x, less_by_y, cut_by_coordinates}
use Rattle.segment_split.proofs.Whole.SumsAlong.{adds_along}
use Rattle.segment_split.proofs.Stops.Rows.{same_height, other_height}
use Rattle.segment_split.proofs.Stops.Reached.{kept, gone_of, come_of, by_reach, RunsOn}
use Rattle.segment_split.proofs.Stops.Steps.{le_x, le_y, behind_is, runs_at, three_tell, three_from, sum_is, directed, way, reached_end, both_reached}
use Rattle.segment_split.proofs.Stops.Crossings.{IsBetween, between, row_runs, row_key}

-- ---- what counts for something

-- where two sums differ, two of what is summed do
differs_at : {X : Type 0} (f g : X → ℤ) (xs : List X) → (total f xs ≡ total g xs → ⊥) → (x : X) × Contains xs x × (f x ≡ g x → ⊥)
differs_at f g [] h = absurd (h refl)
differs_at {X} f g (x ∷ xs) h = by (int_eq (f x) (g x)) refl (differs_at f g xs)
  where
    by : (b : Bool) → int_eq (f x) (g x) ≡ b → ((total f xs ≡ total g xs → ⊥) → (y : X) × Contains xs y × (f y ≡ g y → ⊥)) → (y : X) × Contains (x ∷ xs) y × (f y ≡ g y → ⊥)
    by true e rest =
        let later = rest (λ k. h (ap₂ (λ m n. m +ℤ n) ((Decides-int_eq (f x) (g x)).0 e) k)) in
        (later.0, (suc later.1.0, omega (arith, later.1.1), later.1.2), later.2)
    by false e rest = (x, (zero, omega arith, refl), λ k. false≢true (sym e ∙ same_height (f x) (g x) k))

module _ (es : List (Entry Count)) (t : Option Point) (test : Entry Count → Bool) (both : All (λ e. reached t e.edge.a ≡ true → reached t e.edge.b ≡ true) es) where
  some_weighs : (w : Entry Count → ℤ) (n : ℤ) → int_eq n (pos 0) ≡ false → n +ℤ total (gone_of t (λ e. cond (test e) (w e) (pos 0))) es ≡ total (come_of t (λ e. cond (test e) (w e) (pos 0))) es → RunsOn es t t test
  some_weighs w n other runs =
      let found = differs_at (gone_of t on) (come_of t on) es (λ k. false≢true (sym other ∙ same_height n (pos 0) (nothing n (total (gone_of t on) es) (total (come_of t on) es) runs k))) in
      let told = by (test found.0) (reached t found.0.edge.a) (reached t found.0.edge.b) (w found.0) (All-contains (λ e. reached t e.edge.a ≡ true → reached t e.edge.b ≡ true) es found.0 both found.1) found.2 in
      record { key = found.0; listed = found.1; passes = told.0; first = told.1.0; second = told.1.1 }
    where
      on : Entry Count → ℤ
      on e = cond (test e) (w e) (pos 0)

      nothing : (n g c : ℤ) → n +ℤ g ≡ c → g ≡ c → n ≡ pos 0
      nothing n g c e f = omega (arith, ints, e, f)

      by : (p a b : Bool) (w : ℤ) → (a ≡ true → b ≡ true) → (kept a (cond p w (pos 0)) ≡ kept b (cond p w (pos 0)) → ⊥) → (p ≡ true) × ((a ≡ false) × (b ≡ true))
      by true false true w h k = (refl, (refl, refl))
      by true true true w h k = absurd (k refl)
      by true false false w h k = absurd (k refl)
      by true true false w h k = absurd (false≢true (h refl))
      by false true true w h k = absurd (k refl)
      by false true false w h k = absurd (k refl)
      by false false true w h k = absurd (k refl)
      by false false false w h k = absurd (k refl)

  some_counts : (c : Count) → boolean.is_empty c ≡ false
      → c.subject +ℤ total (gone_of t (subject_if test)) es ≡ total (come_of t (subject_if test)) es
      → c.clip +ℤ total (gone_of t (clip_if test)) es ≡ total (come_of t (clip_if test)) es → RunsOn es t t test
  some_counts c some subject clip = by (int_eq c.subject (pos 0)) refl some
    where
      by : (b : Bool) → int_eq c.subject (pos 0) ≡ b → (b && int_eq c.clip (pos 0)) ≡ false → RunsOn es t t test
      by false e f = some_weighs (λ e. e.count.subject) c.subject e subject
      by true e f = some_weighs (λ e. e.count.clip) c.clip f clip

-- ---- what counts for nothing

nothing_along : (es : List (Entry Count)) (t : Option Point) (test : Entry Count → Bool) (u : Edge) → All (λ e. reached t e.edge.a ≡ true → reached t e.edge.b ≡ true) es
    → All (λ e. is_part u e.edge ≡ runs_at t test e) es → (c : Count) → boolean.is_empty c ≡ true
    → c.subject +ℤ total (gone_of t (subject_if test)) es ≡ total (come_of t (subject_if test)) es
    → c.clip +ℤ total (gone_of t (clip_if test)) es ≡ total (come_of t (clip_if test)) es → count_along boolean es u ≡ None
nothing_along es t test u both parts c none subject clip = adds_along es u ∙ ap (λ (b : Bool). cond b None (Some (sum_along es u))) (ap boolean.is_empty (sym sum) ∙ none)
  where
    sum : c ≡ sum_along es u
    sum = let m = sum_is es t test u both parts (λ e. e.count.subject) c.subject subject in let n = sum_is es t test u both parts (λ e. e.count.clip) c.clip clip in λ i. record { subject = m i; clip = n i }

module _ (es : List (Entry Count)) (h : AreInOrder es) (all : AllRectilinear (edges_of es)) (t : Option Point) (ps : List Point) (before gone ahead come : List (Entry Count))
    (lines : LinesView) (laid : List (Entry Count)) (marked : Bool) (swept : Swept es t ps before gone ahead come lines laid marked)
    (p : Point) (last : (r : Point) → IsEndOfSome (edges_of es) r → reached t r ≡ false → is_le (point_order r p) ≡ true) where
  both : All (λ e. reached t e.edge.a ≡ true → reached t e.edge.b ≡ true) es
  both = both_reached es h all t ps swept.stops

  -- a key runs along a row that is to be met
  pub met_key : (r : RowView) → Contains lines.rows r → is_met lines.column r.line ≡ true → RunsOn es t t (in_row r.y)
  met_key r at met = by (boolean.is_empty lines.column.sum) met
    where
      by : (b : Bool) → cond b (not (boolean.is_empty r.line.sum)) (nat_lt 0 r.line.running) ≡ true → RunsOn es t t (in_row r.y)
      by false e = row_key es h all t ps before gone ahead come lines laid marked swept p last r at (ltb-true 0 r.line.running e)
      by true e =
          let sums = by_reach es t t before gone ahead come swept.cut (in_row r.y) r.line (row_runs es h all t ps before gone ahead come lines laid marked swept p last r at) in
          some_counts es t (in_row r.y) both r.line.sum (negated (boolean.is_empty r.line.sum) e) sums.1 sums.2
        where
          negated : (b : Bool) → not b ≡ true → b ≡ false
          negated true k = absurd (false≢true k)
          negated false k = refl

  module _ (r : Point) (behind : IsBefore ps r) (beyond : point_order p r ≡ Less) (place : r.x ≡ p.x) where
    higher : p.y <ℤ r.y
    higher = less_by_y p r (sym place) beyond

    clash : (x y : ℤ) → x ≤ℤ y → y <ℤ x → ⊥
    clash x y l m = omega (arith, ints, l, m)

    equal_le : (x y z : ℤ) → x ≡ y → z ≤ℤ x → z ≤ℤ y
    equal_le x y z e l = omega (arith, ints, e, l)

    after : (q : Point) → IsEndOfSome (edges_of es) q → reached t q ≡ true → point_order r q ≡ Less
    after q end k = behind_is ps r q behind (reached_end es h all t ps swept.stops q end k)

    abbrev row_step : Edge
    row_step = record { a = r; b = right_of r }

    abbrev up_step : Edge
    up_step = record { a = r; b = above r }

    one_right : is_before r (right_of r) ≡ true
    one_right = ap is_lt (point_less_by_x r (right_of r) (more r.x))
      where
        more : (x : ℤ) → x <ℤ (x +ℤ pos 1)
        more x = omega (arith, ints)

    one_up : is_before r (above r) ≡ true
    one_up = ap is_lt (point_less_by_y r (above r) refl (more r.y))
      where
        more : (x : ℤ) → x <ℤ (x +ℤ pos 1)
        more x = omega (arith, ints)

    row_part : (e : Entry Count) → Contains (edges_of es) e.edge → is_part row_step e.edge ≡ runs_at t (in_row r.y) e
    row_part e at = both_ways (is_part row_step s) (runs_at t (in_row r.y) e) forth back
      where
        s : Edge
        s = e.edge

        spans : (is_part row_step s ≡ true) ↔ SpansHorizontal s row_step
        spans = (cut_by_coordinates boolean).horizontal_part row_step s one_right (directed es h all t ps swept.stops s at) refl

        forth : is_part row_step s ≡ true → runs_at t (in_row r.y) e ≡ true
        forth part =
            let k = spans.0 part in
            three_from (reached t s.a) (reached t s.b) (in_row r.y e) (first_not k (reached t s.a) refl) (second_is k (reached t s.b) refl)
            (ap₂ (λ (b c : Bool). cond b false c) (other_height s.a.x s.b.x (wide s.a.x r.x s.b.x k.from k.to)) (same_height s.a.y r.y k.first))
          where
            wide : (a x b : ℤ) → a ≤ℤ x → (x +ℤ pos 1) ≤ℤ b → a ≡ b → ⊥
            wide a x b l m e = omega (arith, ints, l, m, e)

            first_not : SpansHorizontal s row_step → (b : Bool) → reached t s.a ≡ b → b ≡ false
            first_not k false f = refl
            first_not k true f = absurd (clash s.a.x r.x k.from (less_by_x r s.a (sym k.first) (after s.a (s, at, inl refl) f)))

            short : (b p x : ℤ) → b ≤ℤ p → x ≡ p → (x +ℤ pos 1) ≤ℤ b → ⊥
            short b p x l e m = omega (arith, ints, l, e, m)

            second_is : SpansHorizontal s row_step → (b : Bool) → reached t s.b ≡ b → b ≡ true
            second_is k true f = refl
            second_is k false f = absurd (short s.b.x p.x r.x (le_x s.b p (last s.b (s, at, inr refl) f)) place k.to)

        back : runs_at t (in_row r.y) e ≡ true → is_part row_step s ≡ true
        back runs =
            let k = three_tell (reached t s.a) (reached t s.b) (in_row r.y e) runs in
            by k.0 k.1.0 (int_eq s.a.x s.b.x) refl k.1.1
          where
            further : (x b : ℤ) → x <ℤ b → (x +ℤ pos 1) ≤ℤ b
            further x b l = omega (arith, ints, l)

            by : reached t s.a ≡ false → reached t s.b ≡ true → (b : Bool) → int_eq s.a.x s.b.x ≡ b → cond b false (int_eq s.a.y r.y) ≡ true → is_part row_step s ≡ true
            by f g true w k = absurd (false≢true k)
            by f g false w k =
                let level : IsHorizontal s = ⊎_elim (λ v. v) (λ v. absurd (false≢true (sym w ∙ same_height s.a.x s.b.x v))) (way es h all t ps swept.stops s at) in
                let height = (Decides-int_eq s.a.y r.y).0 k in
                let second = sym level ∙ height in
                spans.1 (record {
                  first = height;
                  second = second;
                  from = equal_le p.x r.x s.a.x (sym place) (le_x s.a p (last s.a (s, at, inl refl) f));
                  to = further r.x s.b.x (less_by_x r s.b (sym second) (after s.b (s, at, inr refl) g));
                })

    up_part : (e : Entry Count) → Contains (edges_of es) e.edge → is_part up_step e.edge ≡ runs_at t in_column e
    up_part e at = both_ways (is_part up_step s) (runs_at t in_column e) forth back
      where
        s : Edge
        s = e.edge

        spans : (is_part up_step s ≡ true) ↔ SpansUp s up_step
        spans = (cut_by_coordinates boolean).vertical_part up_step s one_up (directed es h all t ps swept.stops s at) refl

        forth : is_part up_step s ≡ true → runs_at t in_column e ≡ true
        forth part =
            let k = spans.0 part in
            three_from (reached t s.a) (reached t s.b) (in_column e) (first_not k (reached t s.a) refl) (second_is k (reached t s.b) refl) (same_height s.a.x s.b.x (k.first ∙ sym k.second))
          where
            first_not : SpansUp s up_step → (b : Bool) → reached t s.a ≡ b → b ≡ false
            first_not k false f = refl
            first_not k true f = absurd (clash s.a.y r.y k.from (less_by_y r s.a (sym k.first) (after s.a (s, at, inl refl) f)))

            short : (b p y : ℤ) → b ≤ℤ p → p <ℤ y → (y +ℤ pos 1) ≤ℤ b → ⊥
            short b p y l e m = omega (arith, ints, l, e, m)

            second_is : SpansUp s up_step → (b : Bool) → reached t s.b ≡ b → b ≡ true
            second_is k true f = refl
            second_is k false f = absurd (short s.b.y p.y r.y (le_y s.b p (k.second ∙ place) (last s.b (s, at, inr refl) f)) higher k.to)

        back : runs_at t in_column e ≡ true → is_part up_step s ≡ true
        back runs =
            let k = three_tell (reached t s.a) (reached t s.b) (in_column e) runs in
            let vertical = (Decides-int_eq s.a.x s.b.x).0 k.1.1 in
            let lower = last s.a (s, at, inl refl) k.0 in
            let upper = after s.b (s, at, inr refl) k.1.0 in
            let x = squeezed s.a.x s.b.x p.x r.x vertical (le_x s.a p lower) (point_less_x r s.b upper) place in
            spans.1 (record {
              first = x;
              second = sym vertical ∙ x;
              from = below s.a.y p.y r.y (le_y s.a p (x ∙ place) lower) higher;
              to = further r.y s.b.y (less_by_y r s.b (sym x ∙ vertical) upper);
            })
          where
            squeezed : (a b p r : ℤ) → a ≡ b → a ≤ℤ p → r ≤ℤ b → r ≡ p → a ≡ r
            squeezed a b p r e k l f = omega (arith, ints, e, k, l, f)

            below : (a p r : ℤ) → a ≤ℤ p → p <ℤ r → a ≤ℤ r
            below a p r l m = omega (arith, ints, l, m)

            further : (x b : ℤ) → x <ℤ b → (x +ℤ pos 1) ≤ℤ b
            further x b l = omega (arith, ints, l)

  -- what counts for something, and lies between p and the stops, is to be met
  pub met_between : (r : Point) → IsCrossing (edges_of es) r → CountsFrom boolean es r → IsBefore ps r → point_order p r ≡ Less → (k : IsBetween lines p r) × (is_met lines.column k.row.line ≡ true)
  met_between r crossing counts behind beyond = (k, by (boolean.is_empty lines.column.sum) refl (boolean.is_empty k.row.line.sum) refl)
    where
      k : IsBetween lines p r
      k = between es h all t ps before gone ahead come lines laid marked swept p last r (inr crossing) behind beyond

      by : (b : Bool) → boolean.is_empty lines.column.sum ≡ b → (d : Bool) → boolean.is_empty k.row.line.sum ≡ d → cond b (not d) (nat_lt 0 k.row.line.running) ≡ true
      by false e d f = lt-ltb 0 k.row.line.running k.open_row
      by true e false f = refl
      by true e true f = absurd (⊎_elim (λ some. some none_right) (λ some. some none_up) counts)
        where
          none_right : count_along boolean es (record { a = r; b = right_of r }) ≡ None
          none_right =
              let runs = subst (λ y. Runs (in_row y) gone come k.row.line) k.height (row_runs es h all t ps before gone ahead come lines laid marked swept p last k.row k.listed) in
              let sums = by_reach es t t before gone ahead come swept.cut (in_row r.y) k.row.line runs in
              nothing_along es t (in_row r.y) (record { a = r; b = right_of r }) both
              (All-weaker (λ e. Contains (edges_of es) e.edge) (λ e. is_part (record { a = r; b = right_of r }) e.edge ≡ runs_at t (in_row r.y) e) (λ e at. row_part r behind beyond k.place e at) es (edges_contain es))
              k.row.line.sum f sums.1 sums.2

          none_up : count_along boolean es (record { a = r; b = above r }) ≡ None
          none_up =
              let sums = by_reach es t t before gone ahead come swept.cut in_column lines.column swept.runs.column in
              nothing_along es t in_column (record { a = r; b = above r }) both
              (All-weaker (λ e. Contains (edges_of es) e.edge) (λ e. is_part (record { a = r; b = above r }) e.edge ≡ runs_at t in_column e) (λ e at. up_part r behind beyond k.place e at) es (edges_contain es))
              lines.column.sum e sums.1 sums.2

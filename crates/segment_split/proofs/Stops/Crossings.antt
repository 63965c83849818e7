-- What lies between the last stop that was met and the next end: crossings of the column with rows on which keys run.
use Rattle.std.proofs.Common.{◌≡◌, zero, suc, ◌<◌, Bool, true, false, cond, List, [], ◌∷◌, map, Contains, Option, ◌⊎◌, inl, inr, ⊎_elim, ℤ, ◌≤ℤ◌, ◌<ℤ◌, int_eq, Less, refl, sym, ap, ◌∙◌, arith}
use Rattle.std.specs.Ordering.{is_le}
use Rattle.std.proofs.lemmas.Int.{ints}
use Rattle.std.proofs.lemmas.List.Elements.{All-contains}
use Rattle.plane_base.specs.Plane.{Point, Edge, point_order}
use Rattle.plane_base.specs.Counts.{Count, Entry}
use Rattle.plane_base.proofs.Facts.Points.Orders.{point_total, point_less_x, point_less_by_x, point_less_by_y}
use Rattle.segment_split.specs.Passes.{edges_of}
use Rattle.segment_split.specs.LineLaws.{AllRectilinear, PassesUpThrough, PassesHorizontalThrough, IsEndOfSome}
use Rattle.segment_split.specs.Stops.{RowView, LinesView}
use Rattle.segment_split.specs.Sweeps.{AreInOrder, in_column, in_row, Runs, IsStop, reached, IsBefore, Swept}
use Rattle.segment_split.proofs.Stops.Rows.{other_height, same_height}
use Rattle.segment_split.proofs.Stops.Reached.{by_reach, RunsOn, some_runs, is_running}
use Rattle.segment_split.proofs.Stops.Steps.{le_tells, le_x, behind_is, reached_end, both_reached}
use Rattle.segment_split.proofs.Whole.Coordinates.{less_by_y}
use Rattle.segment_split.proofs.Whole.Neighbours.{contained, contains_no, not_itself, not_there_and_back}

pub mapped_from : {X Y : Type 0} (f : X → Y) (xs : List X) (y : Y) → Contains (map f xs) y → (x : X) × Contains xs x × (f x ≡ y)
mapped_from f [] y h = absurd (contains_no y h)
mapped_from {X} f (x ∷ xs) y h = by (contained (f x) (map f xs) y h) (mapped_from f xs y)
  where
    by : (f x ≡ y) ⊎ Contains (map f xs) y → (Contains (map f xs) y → (z : X) × Contains xs z × (f z ≡ y)) → (z : X) × Contains (x ∷ xs) z × (f z ≡ y)
    by (inl e) rest = (x, (zero, omega arith, refl), e)
    by (inr k) rest = let m = rest k in (m.0, (suc m.1.0, omega (arith, m.1.1), m.1.2), m.2)

pub le_not : (p q : Point) → is_le (point_order p q) ≡ true → point_order q p ≡ Less → ⊥
le_not p q e l = ⊎_elim (λ m. not_there_and_back p q m l) (λ m. not_itself q (ap (λ z. point_order q z) (sym m) ∙ l)) (le_tells p q e)

pub record IsBetween (lines : LinesView) (p r : Point) : Type 0 where
  pub open_column : 0 < lines.column.running
  pub row : RowView
  pub listed : Contains lines.rows row
  pub open_row : 0 < row.line.running
  pub height : row.y ≡ r.y
  pub place : r.x ≡ p.x
  pub above : p.y <ℤ r.y

module _ (es : List (Entry Count)) (h : AreInOrder es) (all : AllRectilinear (edges_of es)) (t : Option Point) (ps : List Point) (before gone ahead come : List (Entry Count))
    (lines : LinesView) (laid : List (Entry Count)) (marked : Bool) (swept : Swept es t ps before gone ahead come lines laid marked)
    (p : Point) (last : (r : Point) → IsEndOfSome (edges_of es) r → reached t r ≡ false → is_le (point_order r p) ≡ true) where
  pub row_runs : (r : RowView) → Contains lines.rows r → Runs (in_row r.y) gone come r.line
  row_runs r at = All-contains (λ r. Runs (in_row r.y) gone come r.line) lines.rows r swept.runs.rows at

  pub key_column : RunsOn es t t in_column → 0 < lines.column.running
  key_column on = is_running es t t in_column lines.column.running (by_reach es t t before gone ahead come swept.cut in_column lines.column swept.runs.column).0 (both_reached es h all t ps swept.stops) on

  pub key_row : (r : RowView) → Contains lines.rows r → RunsOn es t t (in_row r.y) → 0 < r.line.running
  key_row r at on = is_running es t t (in_row r.y) r.line.running (by_reach es t t before gone ahead come swept.cut (in_row r.y) r.line (row_runs r at)).0 (both_reached es h all t ps swept.stops) on

  pub column_key : 0 < lines.column.running → RunsOn es t t in_column
  column_key l = some_runs es t t in_column lines.column.running (by_reach es t t before gone ahead come swept.cut in_column lines.column swept.runs.column).0 l

  pub row_key : (r : RowView) → Contains lines.rows r → 0 < r.line.running → RunsOn es t t (in_row r.y)
  row_key r at l = some_runs es t t (in_row r.y) r.line.running (by_reach es t t before gone ahead come swept.cut (in_row r.y) r.line (row_runs r at)).0 l

  -- what is met between p and the stops
  pub between : (r : Point) → IsStop (edges_of es) r → IsBefore ps r → point_order p r ≡ Less → IsBetween lines p r
  between r (inl end) behind l =
      absurd
      (⊎_elim (λ k. not_itself r (behind_is ps r r behind k.1)) (λ k. le_not r p (last r end k.0) l) (swept.stops.ends r end))
  between r (inr (up, level)) behind l = record {
    open_column = key_column (record { key = vertical.0; listed = vertical.1; passes = ap (λ s. int_eq s.a.x s.b.x) vertical.2 ∙ same_height u.a.x u.b.x (through.first ∙ sym through.second); first = ap (λ s. reached t s.a) vertical.2 ∙ u_first; second = ap (λ s. reached t s.b) vertical.2 ∙ u_second });
    row = row.0;
    listed = row.1;
    open_row = key_row row.0 row.1 (record { key = flat.0; listed = flat.1; passes = in_it; first = ap (λ s. reached t s.a) flat.2 ∙ v_first; second = ap (λ s. reached t s.b) flat.2 ∙ v_second });
    height = row.2 ∙ (ap (λ s. s.a.y) flat.2 ∙ along.first);
    place = place;
    above = less_by_y p r (sym place) l;
  }
    where
      u : Edge
      u = up.0

      v : Edge
      v = level.0

      through : PassesUpThrough u r
      through = up.2

      along : PassesHorizontalThrough v r
      along = level.2

      vertical : (e : Entry Count) × Contains es e × (e.edge ≡ u)
      vertical = mapped_from (λ e. e.edge) es u up.1

      flat : (e : Entry Count) × Contains es e × (e.edge ≡ v)
      flat = mapped_from (λ e. e.edge) es v level.1

      u_from : point_order u.a r ≡ Less
      u_from = point_less_by_y u.a r through.first through.below

      u_to : point_order r u.b ≡ Less
      u_to = point_less_by_y r u.b (sym through.second) through.above

      v_from : point_order v.a r ≡ Less
      v_from = point_less_by_x v.a r along.left

      v_to : point_order r v.b ≡ Less
      v_to = point_less_by_x r v.b along.right

      not_yet : (q : Point) → IsEndOfSome (edges_of es) q → point_order q r ≡ Less → (b : Bool) → reached t q ≡ b → b ≡ false
      not_yet q end m false e = refl
      not_yet q end m true e = absurd (not_there_and_back q r m (behind_is ps r q behind (reached_end es h all t ps swept.stops q end e)))

      already : (q : Point) → IsEndOfSome (edges_of es) q → point_order r q ≡ Less → (b : Bool) → reached t q ≡ b → b ≡ true
      already q end m true e = refl
      already q end m false e = absurd (le_not q p (last q end e) (point_total.trans p r q l m))

      u_first : reached t u.a ≡ false
      u_first = not_yet u.a (u, up.1, inl refl) u_from (reached t u.a) refl

      u_second : reached t u.b ≡ true
      u_second = already u.b (u, up.1, inr refl) u_to (reached t u.b) refl

      v_first : reached t v.a ≡ false
      v_first = not_yet v.a (v, level.1, inl refl) v_from (reached t v.a) refl

      v_second : reached t v.b ≡ true
      v_second = already v.b (v, level.1, inr refl) v_to (reached t v.b) refl

      apart : int_eq v.a.x v.b.x ≡ false
      apart = other_height v.a.x v.b.x (λ e. wide v.a.x r.x v.b.x along.left along.right e)
        where
          wide : (x y z : ℤ) → x <ℤ y → y <ℤ z → x ≡ z → ⊥
          wide x y z k l e = omega (arith, ints, k, l, e)

      row : (q : RowView) × Contains lines.rows q × (q.y ≡ flat.0.edge.a.y)
      row = mapped_from (λ q. q.y) lines.rows flat.0.edge.a.y (swept.has flat.0 flat.1 (ap (λ s. int_eq s.a.x s.b.x) flat.2 ∙ apart))

      in_it : in_row row.0.y flat.0 ≡ true
      in_it = ap (λ (b : Bool). cond b false (int_eq flat.0.edge.a.y row.0.y)) (ap (λ s. int_eq s.a.x s.b.x) flat.2 ∙ apart) ∙ same_height flat.0.edge.a.y row.0.y (sym row.2)

      place : r.x ≡ p.x
      place = squeezed u.a.x r.x p.x through.first (le_x u.a p (last u.a (u, up.1, inl refl) u_first)) (point_less_x p r l)
        where
          squeezed : (a r p : ℤ) → a ≡ r → a ≤ℤ p → p ≤ℤ r → r ≡ p
          squeezed a r p e k l = omega (arith, ints, e, k, l)

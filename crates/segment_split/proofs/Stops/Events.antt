-- The sweep comes to crossings, and to the next end.
use Rattle.std.proofs.Common.{◌≡◌, ◌≢◌, ℕ, ◌+◌, ◌<◌, ◌^◌, Bool, true, false, cond, ◌||◌, nat_lt, List, [], ◌∷◌, ◌++◌, length, length-append, map, All, AllPairs, Contains, IsPermutation, Option, Some, None, ◌⊎◌, inl, inr, ⊎_elim, ℤ, pos, ◌+ℤ◌, ◌≤ℤ◌, ◌<ℤ◌, int_eq, Ordering, Less, Equal, Greater, refl, sym, ap, subst, ◌∙◌, append_assoc, arith}
use Rattle.std.specs.Ordering.{is_le}
use Rattle.std.proofs.lemmas.Int.{ints}
use Rattle.std.proofs.lemmas.Bool.{false≢true, ltb-true, lt-ltb}
use Rattle.std.proofs.lemmas.Bool.Decides.{Decides-int_eq}
use Rattle.std.proofs.lemmas.Option.{same_Some}
use Rattle.std.proofs.lemmas.List.Elements.{All-nil, All-cons, All-append, All-contains, All-contains_itself, All-weaker, All-head, All-tail}
use Rattle.std.proofs.lemmas.List.Sorted.{All-permutation}
use Rattle.plane_base.specs.Plane.{Point, Edge, turn, is_before, point_order}
use Rattle.plane_base.specs.Segments.{strictly_inside}
use Rattle.plane_base.specs.Counts.{Count, Entry, boolean}
use Rattle.plane_base.specs.Totals.{total}
use Rattle.plane_base.proofs.Facts.Lists.Totals.{total_monotone_on}
use Rattle.plane_base.proofs.Facts.Lists.Cycles.{All-front, All-back}
use Rattle.plane_base.proofs.Facts.Maps.Normal.{AllPairs-nil, AllPairs-cons, AllPairs-head, AllPairs-tail}
use Rattle.plane_base.proofs.Facts.Points.Orders.{point_total, point_equal, point_itself, point_less, point_less_x, point_less_by_y, before_is_less, less_from_greater}
use Rattle.segment_split.specs.Passes.{edges_of}
use Rattle.segment_split.specs.LineLaws.{AllRectilinear, PassesUpThrough, PassesHorizontalThrough, IsEndOfSome, IsCrossing, CountsFrom, first_by}
use Rattle.segment_split.specs.Stops.{LineView, RowView, LinesView, AreRising, changed, count_of, stopped, at_height, at_line, all_changed, visited, bare, line_at, steps_from}
use Rattle.segment_split.specs.Sweeps.{AreInOrder, in_column, in_row, one_if, Runs, AllRun, IsStop, is_met, reached, IsBefore, Cut, first_of, same_y, IsSomeInside, Swept, IsNextEnd, IsClear}
use Rattle.segment_split.proofs.Spread.Lists.{edges_contain}
use Rattle.segment_split.proofs.Stops.Rows.{IsApart, same_height, other_height, heights_kept, rising_kept, rising_line}
use Rattle.segment_split.proofs.Stops.Changes.{changed_rows, come_all, go_all}
use Rattle.segment_split.proofs.Stops.Reached.{RunsOn, by_reach, some_runs, is_running, kept, gone_of, come_of, gone_total, come_total}
use Rattle.segment_split.proofs.Stops.Steps.{le_tells, le_x, le_y, behind_is, directed, way, reached_end, end_ahead}
use Rattle.segment_split.proofs.Stops.Crossings.{mapped_from, IsBetween, column_key, le_not}
use Rattle.segment_split.proofs.Stops.Counting.{met_between}
use Rattle.segment_split.proofs.Stops.Visits.{HasRow, row_or_none, laid_at, nexts_at, runs_at_stop}
use Rattle.segment_split.proofs.Passes.Steps.{contains_head, contains_tail, inside_is, inside_from}
use Rattle.segment_split.proofs.Whole.RectilinearEdges.{IsHorizontal, IsVertical}
use Rattle.segment_split.proofs.Whole.Coordinates.{horizontal_flat, vertical_flat, less_by_x, less_by_y, vertical_inside}
use Rattle.segment_split.proofs.Whole.Neighbours.{contained, contains_no, not_itself, not_there_and_back}

pub listed_edge : (es : List (Entry Count)) (e : Entry Count) → Contains es e → Contains (edges_of es) e.edge
listed_edge es e at = All-contains (λ e. Contains (edges_of es) e.edge) es e (edges_contain es) at

-- the first of rising points is the least
first_least : (ps : List Point) (q : Point) → first_of ps ≡ Some q → AllPairs (λ p q. point_order p q ≡ Less) ps → Contains ps q × ((r : Point) → Contains ps r → is_le (point_order q r) ≡ true)
first_least [] q e rising = absurd (none q e)
  where
    none : (q : Point) → None ≡ Some q → ⊥
    none q e = absurd (cc)
first_least (p ∷ ps) q e rising = (subst (Contains (p ∷ ps)) same (contains_head p ps), λ r at. subst (λ z. is_le (point_order z r) ≡ true) same (least r (contained p ps r at)))
  where
    same : p ≡ q
    same = same_Some p q e

    least : (r : Point) → (p ≡ r) ⊎ Contains ps r → is_le (point_order p r) ≡ true
    least r (inl k) = subst (λ z. is_le (point_order p z) ≡ true) k (ap is_le (point_itself p))
    least r (inr k) = ap is_le (All-contains (λ r. point_order p r ≡ Less) ps r (AllPairs-head (λ p q. point_order p q ≡ Less) p ps rising) k)

-- a point before the first one is before all
before_first : (ps : List Point) (q c : Point) → first_of ps ≡ Some q → AllPairs (λ p q. point_order p q ≡ Less) ps → point_order c q ≡ Less → IsBefore ps c
before_first [] q c e rising l = All-nil (λ r. point_order c r ≡ Less)
before_first (p ∷ ps) q c e rising l =
    let to : point_order c p ≡ Less = ap (point_order c) (same_Some p q e) ∙ l in
    All-cons (λ r. point_order c r ≡ Less) p ps to
    (All-weaker (λ r. point_order p r ≡ Less) (λ r. point_order c r ≡ Less) (λ r m. point_total.trans c p r to m) ps (AllPairs-head (λ p q. point_order p q ≡ Less) p ps rising))

module _ (es : List (Entry Count)) (h : AreInOrder es) (all : AllRectilinear (edges_of es)) (t : Option Point) (ps : List Point) (before gone ahead come : List (Entry Count))
    (lines : LinesView) (laid : List (Entry Count)) (marked : Bool) (swept : Swept es t ps before gone ahead come lines laid marked) (p : Point) (next : IsNextEnd es t p) where
  pub p_before : IsBefore ps p
  p_before = end_ahead es h all t ps swept.stops p next.own next.ahead

  -- ---- a crossing

  module _ (q : Point) (first : first_of ps ≡ Some q) (open_column : 0 < lines.column.running) where
    q_first : Contains ps q × ((r : Point) → Contains ps r → is_le (point_order q r) ≡ true)
    q_first = first_least ps q first swept.stops.rising

    p_to_q : point_order p q ≡ Less
    p_to_q = behind_is ps p q p_before q_first.0

    abbrev vertical : RunsOn es t t in_column
    vertical = column_key es h all t ps before gone ahead come lines laid marked swept p next.last open_column

    abbrev u : Edge
    u = vertical.key.edge

    u_listed : Contains (edges_of es) u
    u_listed = listed_edge es vertical.key vertical.listed

    u_from : is_le (point_order u.a p) ≡ true
    u_from = next.last u.a (u, u_listed, inl refl) vertical.first

    u_to : is_le (point_order q u.b) ≡ true
    u_to = q_first.1 u.b (reached_end es h all t ps swept.stops u.b (u, u_listed, inr refl) vertical.second)

    u_vertical : u.a.x ≡ u.b.x
    u_vertical = (Decides-int_eq u.a.x u.b.x).0 vertical.passes

    squeezed : (a b p q : ℤ) → a ≡ b → a ≤ℤ p → q ≤ℤ b → p ≤ℤ q → (a ≡ p) × (q ≡ p)
    squeezed a b p q e k l m = (omega (arith, ints, e, k, l, m), omega (arith, ints, e, k, l, m))

    pub at_one_x : (u.a.x ≡ p.x) × (q.x ≡ p.x)
    at_one_x = squeezed u.a.x u.b.x p.x q.x u_vertical (le_x u.a p u_from) (le_x q u.b u_to) (point_less_x p q p_to_q)

    lower : (a b c : ℤ) → a ≤ℤ b → b <ℤ c → a <ℤ c
    lower a b c k l = omega (arith, ints, k, l)

    higher : (a b c : ℤ) → a <ℤ b → b ≤ℤ c → a <ℤ c
    higher a b c k l = omega (arith, ints, k, l)

    module _ (r : RowView) (level : RunsOn es t t (in_row r.y)) (over : p.y <ℤ r.y) (under : r.y <ℤ q.y) where
      abbrev c : Point
      c = record { x = p.x; y = r.y }

      abbrev v : Edge
      v = level.key.edge

      v_listed : Contains (edges_of es) v
      v_listed = listed_edge es level.key level.listed

      v_from : is_le (point_order v.a p) ≡ true
      v_from = next.last v.a (v, v_listed, inl refl) level.first

      v_to : is_le (point_order q v.b) ≡ true
      v_to = q_first.1 v.b (reached_end es h all t ps swept.stops v.b (v, v_listed, inr refl) level.second)

      up : PassesUpThrough u c
      up = record {
        first = at_one_x.0;
        second = sym u_vertical ∙ at_one_x.0;
        below = lower u.a.y p.y r.y (le_y u.a p at_one_x.0 u_from) over;
        above = higher r.y q.y u.b.y under (le_y q u.b (at_one_x.1 ∙ (sym at_one_x.0 ∙ u_vertical)) u_to);
      }

      in_it : (int_eq v.a.x v.b.x ≡ false) × (v.a.y ≡ r.y)
      in_it = by (int_eq v.a.x v.b.x) refl level.passes
        where
          by : (b : Bool) → int_eq v.a.x v.b.x ≡ b → cond b false (int_eq v.a.y r.y) ≡ true → (int_eq v.a.x v.b.x ≡ false) × (v.a.y ≡ r.y)
          by true e f = absurd (false≢true f)
          by false e f = (e, (Decides-int_eq v.a.y r.y).0 f)

      v_horizontal : v.a.y ≡ v.b.y
      v_horizontal = ⊎_elim (λ e. e) (λ e. absurd (false≢true (sym in_it.0 ∙ same_height v.a.x v.b.x e))) (way es h all t ps swept.stops v v_listed)

      along : PassesHorizontalThrough v c
      along = record {
        first = in_it.1;
        second = sym v_horizontal ∙ in_it.1;
        left = ⊎_elim (λ l. by_left (point_less v.a p l)) (λ e. absurd (not_level p.y r.y over (sym (ap (λ z. z.y) e) ∙ in_it.1))) (le_tells v.a p v_from);
        right = ⊎_elim (λ l. by_right (point_less q v.b l)) (λ e. absurd (not_level r.y q.y under (sym in_it.1 ∙ (v_horizontal ∙ sym (ap (λ z. z.y) e))))) (le_tells q v.b v_to);
      }
        where
          not_level : (x y : ℤ) → x <ℤ y → x ≡ y → ⊥
          not_level x y l e = omega (arith, ints, l, e)

          not_under : (a p r : ℤ) → a ≡ r → p <ℤ r → a <ℤ p → ⊥
          not_under a p r e k l = omega (arith, ints, e, k, l)

          by_left : (v.a.x <ℤ p.x) ⊎ ((v.a.x ≡ p.x) × (v.a.y <ℤ p.y)) → v.a.x <ℤ p.x
          by_left (inl l) = l
          by_left (inr l) = absurd (not_under v.a.y p.y r.y in_it.1 over l.1)

          moved : (q p b : ℤ) → q ≡ p → q <ℤ b → p <ℤ b
          moved q p b e l = omega (arith, ints, e, l)

          not_over : (b q r : ℤ) → r ≡ b → r <ℤ q → q <ℤ b → ⊥
          not_over b q r e k l = omega (arith, ints, e, k, l)

          by_right : (q.x <ℤ v.b.x) ⊎ ((q.x ≡ v.b.x) × (q.y <ℤ v.b.y)) → p.x <ℤ v.b.x
          by_right (inl l) = moved q.x p.x v.b.x at_one_x.1 l
          by_right (inr l) = absurd (not_over v.b.y q.y r.y (sym in_it.1 ∙ v_horizontal) under l.1)

      p_to_c : point_order p c ≡ Less
      p_to_c = point_less_by_y p c refl over

      c_to_q : point_order c q ≡ Less
      c_to_q = point_less_by_y c q (sym at_one_x.1) under

      pub c_before : IsBefore ps c
      c_before = before_first ps q c first swept.stops.rising c_to_q

      c_last : (r : Point) → IsEndOfSome (edges_of es) r → reached t r ≡ false → point_order r c ≡ Less
      c_last s end e = ⊎_elim (λ l. point_total.trans s p c l p_to_c) (λ f. ap (λ z. point_order z c) f ∙ p_to_c) (le_tells s p (next.last s end e))

      pub is_crossing : IsCrossing (edges_of es) c
      is_crossing = ((u, u_listed, up), (v, v_listed, along))

      pub c_inside : (s : Edge) × Contains (edges_of es) s × (strictly_inside c s ≡ true)
      c_inside = (u, u_listed, vertical_inside u c (directed es h all t ps swept.stops u u_listed) up)

      module _ (clear : All (λ s. r.y <ℤ s.y → s.y <ℤ q.y → is_met lines.column s.line ≡ false) lines.rows) where
        known : (s : Point) → IsCrossing (edges_of es) s → CountsFrom boolean es s → Contains (c ∷ ps) s ⊎ IsBefore (c ∷ ps) s
        known s crossing counts = ⊎_elim (λ k. inl (contains_tail c ps s k)) (λ k. by k (point_order s c) refl) (swept.stops.known s crossing counts)
          where
            by : IsBefore ps s → (o : Ordering) → point_order s c ≡ o → Contains (c ∷ ps) s ⊎ IsBefore (c ∷ ps) s
            by k Less l = inr (All-cons (λ q. point_order s q ≡ Less) c ps l k)
            by k Equal l = inl (subst (Contains (c ∷ ps)) (sym (point_equal s c l)) (contains_head c ps))
            by k Greater l =
                let beyond = less_from_greater point_total s c l in
                let met = met_between es h all t ps before gone ahead come lines laid marked swept p next.last s crossing counts k (point_total.trans p c s p_to_c beyond) in
                absurd
                (false≢true
                (sym (All-contains (λ s. r.y <ℤ s.y → s.y <ℤ q.y → is_met lines.column s.line ≡ false) lines.rows met.0.row clear met.0.listed
                (at_height_of r.y s.y met.0.row.y met.0.height (less_by_y c s (sym met.0.place) beyond))
                (under_height s.y met.0.row.y q.y met.0.height (less_by_y s q (met.0.place ∙ sym at_one_x.1) (behind_is ps s q k q_first.0))))
                ∙ met.1))
              where
                at_height_of : (x y z : ℤ) → z ≡ y → x <ℤ y → x <ℤ z
                at_height_of x y z e l = omega (arith, ints, e, l)

                under_height : (y z q : ℤ) → z ≡ y → y <ℤ q → z <ℤ q
                under_height y z q e l = omega (arith, ints, e, l)

        pub crossed : Swept es t (c ∷ ps) before gone ahead come (visited c lines) (laid ++ steps_from c lines) true
        crossed = record {
          cut = swept.cut;
          stops = record {
            rising = AllPairs-cons (λ p q. point_order p q ≡ Less) c ps c_before swept.stops.rising;
            only = All-cons (IsStop (edges_of es)) c ps (inr is_crossing) swept.stops.only;
            known = known;
            ends = λ s end. ⊎_elim (λ k. inl (k.0, contains_tail c ps s k.1)) (λ k. inr (k.0, All-cons (λ q. point_order s q ≡ Less) c ps (c_last s end k.0) k.1)) (swept.stops.ends s end);
          };
          runs = runs_at_stop es h all t ps before gone ahead come lines laid marked swept c c_before c_le;
          nexts = nexts_at es h all t ps before gone ahead come lines laid marked swept c c_before c_le;
          next = refl;
          rising = rising_kept r.y (stopped c) lines.rows swept.rising;
          has = λ e there f. subst (λ ys. Contains ys e.edge.a.y) (sym (heights_kept r.y (stopped c) lines.rows)) (swept.has e there f);
          steps = laid_at es h all t ps before gone ahead come lines laid marked swept c c_before c_le;
          marks = ((λ _. (c, contains_head c ps, c_inside)), (λ _. refl));
        }
          where
            c_le : (r : Point) → IsEndOfSome (edges_of es) r → reached t r ≡ false → is_le (point_order r c) ≡ true
            c_le s end e = ap is_le (c_last s end e)

-- ---- numbers above 0

lt_tells : (n : ℕ) → nat_lt 0 n ≡ true → 0 < n
lt_tells n e = ltb-true 0 n e

lt_from : (n : ℕ) → 0 < n → nat_lt 0 n ≡ true
lt_from n l = lt-ltb 0 n l

-- ---- what changes keep

at_line_rows : (s : Edge) (f : LineView → LineView) (lines : LinesView) (P : RowView → Type 0) → ((r : RowView) → P r → P (record { y = r.y; line = f r.line }))
    → All P lines.rows → All P (at_line s f lines).rows
at_line_rows s f lines P step h = by (int_eq s.a.x s.b.x)
  where
    by : (b : Bool) → All P (cond b lines.rows (at_height s.a.y f lines.rows))
    by true = h
    by false = changed_rows P P s.a.y f lines.rows (λ r k e. step r k) (λ r k e. k) h

pub at_line_heights : (s : Edge) (f : LineView → LineView) (lines : LinesView) → map (λ r. r.y) (at_line s f lines).rows ≡ map (λ r. r.y) lines.rows
at_line_heights s f lines = by (int_eq s.a.x s.b.x)
  where
    by : (b : Bool) → map (λ r. r.y) (cond b lines.rows (at_height s.a.y f lines.rows)) ≡ map (λ r. r.y) lines.rows
    by true = refl
    by false = heights_kept s.a.y f lines.rows

at_line_next : (s : Edge) (more : Bool) (c : Count) (lines : LinesView) → (at_line s (changed more c) lines).column.next ≡ lines.column.next
at_line_next s more c lines = by (int_eq s.a.x s.b.x)
  where
    by : (b : Bool) → (cond b (changed more c lines.column) lines.column).next ≡ lines.column.next
    by true = refl
    by false = refl

module _ (more : Bool) where
  pub all_rows : (es : List (Entry Count)) (lines : LinesView) (next : ℤ → Option Point) → All (λ r. r.line.next ≡ next r.y) lines.rows → All (λ r. r.line.next ≡ next r.y) (all_changed more es lines).rows
  all_rows [] lines next h = h
  all_rows (e ∷ es) lines next h = at_line_rows e.edge (changed more (count_of more e.count)) (all_changed more es lines) (λ r. r.line.next ≡ next r.y) (λ r k. k) (all_rows es lines next h)

  pub all_heights : (es : List (Entry Count)) (lines : LinesView) → map (λ r. r.y) (all_changed more es lines).rows ≡ map (λ r. r.y) lines.rows
  all_heights [] lines = refl
  all_heights (e ∷ es) lines = at_line_heights e.edge (changed more (count_of more e.count)) (all_changed more es lines) ∙ all_heights es lines

  pub all_next : (es : List (Entry Count)) (lines : LinesView) → (all_changed more es lines).column.next ≡ lines.column.next
  all_next [] lines = refl
  all_next (e ∷ es) lines = at_line_next e.edge more (count_of more e.count) (all_changed more es lines) ∙ all_next es lines

  pub all_rising : (es : List (Entry Count)) (lines : LinesView) → AreRising lines.rows → AreRising (all_changed more es lines).rows
  all_rising [] lines h = h
  all_rising (e ∷ es) lines h = rising_line e.edge (changed more (count_of more e.count)) (all_changed more es lines) (all_rising es lines h)

-- ---- the last of sorted entries that end at a point

pub pairs_front : {X : Type 0} (R : X → X → Type 0) (xs ys : List X) → AllPairs R (xs ++ ys) → AllPairs R xs
pairs_front R [] ys h = AllPairs-nil R
pairs_front R (x ∷ xs) ys h = AllPairs-cons R x xs (All-front (R x) xs ys (AllPairs-head R x (xs ++ ys) h)) (pairs_front R xs ys (AllPairs-tail R x (xs ++ ys) h))

module _ (g : Entry Count → Point) (p : Point) where
  -- not after p, and the last one not at p
  pub all_less : (xs : List (Entry Count)) → AllPairs (λ e f. point_order (g e) (g f) ≢ Greater) xs → All (λ e. is_le (point_order (g e) p) ≡ true) xs
      → ((before : List (Entry Count)) (e : Entry Count) → xs ≡ before ++ e ∷ [] → g e ≢ p) → All (λ e. point_order (g e) p ≡ Less) xs
  all_less [] sorted h last = All-nil (λ e. point_order (g e) p ≡ Less)
  all_less (x ∷ []) sorted h last =
      All-cons (λ e. point_order (g e) p ≡ Less) x [] (⊎_elim (λ l. l) (λ e. absurd (last [] x refl e)) (le_tells (g x) p (All-head (λ e. is_le (point_order (g e) p) ≡ true) x [] h)))
      (All-nil (λ e. point_order (g e) p ≡ Less))
  all_less (x ∷ y ∷ xs) sorted h last =
      let rest = all_less (y ∷ xs) (AllPairs-tail (λ e f. point_order (g e) (g f) ≢ Greater) x (y ∷ xs) sorted) (All-tail (λ e. is_le (point_order (g e) p) ≡ true) x (y ∷ xs) h)
      (λ before e is. last (x ∷ before) e (ap (λ l. x ∷ l) is)) in
      All-cons (λ e. point_order (g e) p ≡ Less) x (y ∷ xs)
      (by (point_order (g x) (g y)) refl (All-head (λ f. point_order (g x) (g f) ≢ Greater) y xs (AllPairs-head (λ e f. point_order (g e) (g f) ≢ Greater) x (y ∷ xs) sorted)) (All-head (λ e. point_order (g e) p ≡ Less) y xs rest)) rest
    where
      by : (o : Ordering) → point_order (g x) (g y) ≡ o → point_order (g x) (g y) ≢ Greater → point_order (g y) p ≡ Less → point_order (g x) p ≡ Less
      by Less l n m = point_total.trans (g x) (g y) p l m
      by Equal l n m = ap (λ z. point_order z p) (point_equal (g x) (g y) l) ∙ m
      by Greater l n m = absurd (n l)

-- ---- the next end

module _ (es : List (Entry Count)) (h : AreInOrder es) (all : AllRectilinear (edges_of es)) (t : Option Point) (ps : List Point) (before left mid gone ahead left_ends mid_ends come : List (Entry Count))
    (lines : LinesView) (laid : List (Entry Count)) (marked : Bool) (swept : Swept es t ps before gone ahead come lines laid marked) (p : Point) (next : IsNextEnd es t p) (clear : IsClear p lines ps)
    (starts : before ≡ left ++ mid) (start_here : All (λ e. e.edge.a ≡ p) mid) (start_last : (front : List (Entry Count)) (e : Entry Count) → left ≡ front ++ e ∷ [] → e.edge.a ≢ p)
    (ends : ahead ≡ left_ends ++ mid_ends) (end_here : All (λ e. e.edge.b ≡ p) mid_ends) (end_last : (front : List (Entry Count)) (e : Entry Count) → left_ends ≡ front ++ e ∷ [] → e.edge.b ≢ p)
    (seconds : AllPairs (λ e f. point_order e.edge.b f.edge.b ≢ Greater) (ahead ++ come)) (few : length (ahead ++ come) < 2 ^ 32) where
  p_first : IsBefore ps p
  p_first = p_before es h all t ps before gone ahead come lines laid marked swept p next

  not_after : (q r : Point) → point_order q r ≡ Less → is_le (point_order r q) ≡ false
  not_after q r l = by (point_order r q) refl
    where
      by : (o : Ordering) → point_order r q ≡ o → is_le o ≡ false
      by Less m = absurd (not_there_and_back q r l m)
      by Equal m = absurd (not_itself q (ap (point_order q) (sym (point_equal r q m)) ∙ l))
      by Greater m = refl

  behind_p : (r : Point) → Contains ps r → is_le (point_order p r) ≡ true
  behind_p r at = ap is_le (behind_is ps p r p_first at)

  firsts_sorted : AllPairs (λ e f. point_order e.edge.a f.edge.a ≢ Greater) left
  firsts_sorted =
      pairs_front (λ e f. point_order e.edge.a f.edge.a ≢ Greater) left mid (subst (AllPairs (λ e f. point_order e.edge.a f.edge.a ≢ Greater)) starts
      (pairs_front (λ e f. point_order e.edge.a f.edge.a ≢ Greater) before gone (subst (AllPairs (λ e f. point_order e.edge.a f.edge.a ≢ Greater)) swept.cut.firsts h.firsts)))

  seconds_sorted : AllPairs (λ e f. point_order e.edge.b f.edge.b ≢ Greater) left_ends
  seconds_sorted =
      pairs_front (λ e f. point_order e.edge.b f.edge.b ≢ Greater) left_ends mid_ends (subst (AllPairs (λ e f. point_order e.edge.b f.edge.b ≢ Greater)) ends
      (pairs_front (λ e f. point_order e.edge.b f.edge.b ≢ Greater) ahead come seconds))

  -- each entry of the parts is listed
  in_firsts : All (Contains es) (before ++ gone)
  in_firsts = subst (λ l. All (Contains es) l) swept.cut.firsts (All-contains_itself es)

  in_seconds : All (Contains es) (ahead ++ come)
  in_seconds = All-permutation (Contains es) es (ahead ++ come) swept.cut.seconds (All-contains_itself es)

  first_end : (e : Entry Count) → Contains es e → IsEndOfSome (edges_of es) e.edge.a
  first_end e at = (e.edge, listed_edge es e at, inl refl)

  second_end : (e : Entry Count) → Contains es e → IsEndOfSome (edges_of es) e.edge.b
  second_end e at = (e.edge, listed_edge es e at, inr refl)

  both_of : {X : Type 0} (P Q : X → Type 0) (xs : List X) → All P xs → All Q xs → All (λ x. P x × Q x) xs
  both_of P Q xs f g k d l = (f k d l, g k d l)

  left_firsts : All (λ e. point_order e.edge.a p ≡ Less) left
  left_firsts =
      all_less (λ e. e.edge.a) p left firsts_sorted
      (All-front (λ e. is_le (point_order e.edge.a p) ≡ true) left mid (subst (All (λ e. is_le (point_order e.edge.a p) ≡ true)) starts
      (All-weaker (λ e. Contains es e × (reached t e.edge.a ≡ false)) (λ e. is_le (point_order e.edge.a p) ≡ true) (λ e k. next.last e.edge.a (first_end e k.0) k.1) before
      (both_of (Contains es) (λ e. reached t e.edge.a ≡ false) before (All-front (Contains es) before gone in_firsts) swept.cut.not_gone)))) start_last

  left_seconds : All (λ e. point_order e.edge.b p ≡ Less) left_ends
  left_seconds =
      all_less (λ e. e.edge.b) p left_ends seconds_sorted
      (All-front (λ e. is_le (point_order e.edge.b p) ≡ true) left_ends mid_ends (subst (All (λ e. is_le (point_order e.edge.b p) ≡ true)) ends
      (All-weaker (λ e. Contains es e × (reached t e.edge.b ≡ false)) (λ e. is_le (point_order e.edge.b p) ≡ true) (λ e k. next.last e.edge.b (second_end e k.0) k.1) ahead
      (both_of (Contains es) (λ e. reached t e.edge.b ≡ false) ahead (All-front (Contains es) ahead come in_seconds) swept.cut.not_come)))) end_last

  here : (r : Point) → r ≡ p → is_le (point_order p r) ≡ true
  here r e = ap (λ z. is_le (point_order p z)) e ∙ ap is_le (point_itself p)

  is_gone : All (λ e. is_le (point_order p e.edge.a) ≡ true) (mid ++ gone)
  is_gone =
      All-append (λ e. is_le (point_order p e.edge.a) ≡ true) mid gone (All-weaker (λ e. e.edge.a ≡ p) (λ e. is_le (point_order p e.edge.a) ≡ true) (λ e. here e.edge.a) mid start_here)
      (All-weaker (λ e. Contains es e × (reached t e.edge.a ≡ true)) (λ e. is_le (point_order p e.edge.a) ≡ true)
      (λ e k. behind_p e.edge.a (reached_end es h all t ps swept.stops e.edge.a (first_end e k.0) k.1)) gone
      (both_of (Contains es) (λ e. reached t e.edge.a ≡ true) gone (All-back (Contains es) before gone in_firsts) swept.cut.is_gone))

  is_come : All (λ e. is_le (point_order p e.edge.b) ≡ true) (mid_ends ++ come)
  is_come =
      All-append (λ e. is_le (point_order p e.edge.b) ≡ true) mid_ends come (All-weaker (λ e. e.edge.b ≡ p) (λ e. is_le (point_order p e.edge.b) ≡ true) (λ e. here e.edge.b) mid_ends end_here)
      (All-weaker (λ e. Contains es e × (reached t e.edge.b ≡ true)) (λ e. is_le (point_order p e.edge.b) ≡ true)
      (λ e k. behind_p e.edge.b (reached_end es h all t ps swept.stops e.edge.b (second_end e k.0) k.1)) come
      (both_of (Contains es) (λ e. reached t e.edge.b ≡ true) come (All-back (Contains es) ahead come in_seconds) swept.cut.is_come))

  firsts_parted : es ≡ left ++ (mid ++ gone)
  firsts_parted = swept.cut.firsts ∙ (ap (λ l. l ++ gone) starts ∙ append_assoc left mid gone)

  seconds_parted : ahead ++ come ≡ left_ends ++ (mid_ends ++ come)
  seconds_parted = ap (λ l. l ++ come) ends ∙ append_assoc left_ends mid_ends come

  not_gone : All (λ e. is_le (point_order p e.edge.a) ≡ false) left
  not_gone = All-weaker (λ e. point_order e.edge.a p ≡ Less) (λ e. is_le (point_order p e.edge.a) ≡ false) (λ e l. not_after e.edge.a p l) left left_firsts

  not_come : All (λ e. is_le (point_order p e.edge.b) ≡ false) left_ends
  not_come = All-weaker (λ e. point_order e.edge.b p ≡ Less) (λ e. is_le (point_order p e.edge.b) ≡ false) (λ e l. not_after e.edge.b p l) left_ends left_seconds

  -- those that begin at p went, and none that ends there came
  pub half_cut : Cut es (Some p) t left (mid ++ gone) ahead come
  half_cut = record { firsts = firsts_parted; seconds = swept.cut.seconds; not_gone = not_gone; is_gone = is_gone; not_come = swept.cut.not_come; is_come = swept.cut.is_come }

  whole_cut : Cut es (Some p) (Some p) left (mid ++ gone) left_ends (mid_ends ++ come)
  whole_cut = record {
    firsts = firsts_parted;
    seconds = subst (IsPermutation es) seconds_parted swept.cut.seconds;
    not_gone = not_gone;
    is_gone = is_gone;
    not_come = not_come;
    is_come = is_come;
  }

  -- what went had come
  second_reached : (e : Entry Count) → Contains es e → is_le (point_order p e.edge.a) ≡ true → reached t e.edge.b ≡ true
  second_reached e at l = by (reached t e.edge.b) refl
    where
      forward : point_order e.edge.a e.edge.b ≡ Less
      forward = before_is_less e.edge.a e.edge.b (directed es h all t ps swept.stops e.edge (listed_edge es e at))

      further : point_order p e.edge.b ≡ Less
      further = ⊎_elim (λ m. point_total.trans p e.edge.a e.edge.b m forward) (λ m. ap (λ z. point_order z e.edge.b) m ∙ forward) (le_tells p e.edge.a l)

      by : (b : Bool) → reached t e.edge.b ≡ b → b ≡ true
      by true m = refl
      by false m = absurd (le_not e.edge.b p (next.last e.edge.b (second_end e at) m) further)

  few_went : (test : Entry Count → Bool) → total (one_if test) (mid ++ gone) ≤ℤ total (one_if test) come
  few_went test =
      below (gone_total es (Some p) t left (mid ++ gone) ahead come half_cut (one_if test)) (come_total es (Some p) t left (mid ++ gone) ahead come half_cut (one_if test))
      (total_monotone_on (gone_of (Some p) (one_if test)) (come_of t (one_if test)) es
      (All-weaker (Contains es) (λ e. gone_of (Some p) (one_if test) e ≤ℤ come_of t (one_if test) e) (λ e at. at_most (test e) (is_le (point_order p e.edge.a)) (reached t e.edge.b) (second_reached e at)) es (All-contains_itself es)))
    where
      below : {a b c d : ℤ} → a ≡ b → c ≡ d → a ≤ℤ c → b ≤ℤ d
      below e f l = omega (arith, ints, e, f, l)

      at_most : (q a b : Bool) → (a ≡ true → b ≡ true) → kept a (cond q (pos 1) (pos 0)) ≤ℤ kept b (cond q (pos 1) (pos 0))
      at_most true true true h = omega (arith, ints)
      at_most true true false h = absurd (false≢true (h refl))
      at_most true false true h = omega (arith, ints)
      at_most true false false h = omega (arith, ints)
      at_most false true true h = omega (arith, ints)
      at_most false true false h = omega (arith, ints)
      at_most false false true h = omega (arith, ints)
      at_most false false false h = omega (arith, ints)

  p_le : (r : Point) → IsEndOfSome (edges_of es) r → reached t r ≡ false → is_le (point_order r p) ≡ true
  p_le = next.last

  abbrev lines_gone : LinesView
  lines_gone = all_changed false mid (visited p lines)

  abbrev lines_come : LinesView
  lines_come = all_changed true mid_ends lines_gone

  pub runs_gone : AllRun (mid ++ gone) come lines_gone
  runs_gone = go_all mid gone come (visited p lines) few_went (runs_at_stop es h all t ps before gone ahead come lines laid marked swept p p_first p_le)

  runs_come : AllRun (mid ++ gone) (mid_ends ++ come) lines_come
  runs_come = come_all mid_ends (mid ++ gone) come lines_gone room runs_gone
    where
      room : length mid_ends + length come < 2 ^ 32
      room = shorter (length left_ends) (length mid_ends) (length come) (length (ahead ++ come)) (ap length seconds_parted ∙ (length-append left_ends (mid_ends ++ come) ∙ ap (λ n. length left_ends + n) (length-append mid_ends come))) few
        where
          shorter : (a b c n : ℕ) → n ≡ a + (b + c) → n < 2 ^ 32 → b + c < 2 ^ 32
          shorter a b c n e l = omega (arith, e, l)

  known_now : (s : Point) → IsCrossing (edges_of es) s → CountsFrom boolean es s → Contains (p ∷ ps) s ⊎ IsBefore (p ∷ ps) s
  known_now s crossing counts = ⊎_elim (λ k. inl (contains_tail p ps s k)) (λ k. by k (point_order s p) refl) (swept.stops.known s crossing counts)
    where
      by : IsBefore ps s → (o : Ordering) → point_order s p ≡ o → Contains (p ∷ ps) s ⊎ IsBefore (p ∷ ps) s
      by k Less l = inr (All-cons (λ q. point_order s q ≡ Less) p ps l k)
      by k Equal l = inl (subst (Contains (p ∷ ps)) (sym (point_equal s p l)) (contains_head p ps))
      by k Greater l =
          let beyond = less_from_greater point_total s p l in
          let met = met_between es h all t ps before gone ahead come lines laid marked swept p next.last s crossing counts k beyond in
          absurd (clash met.0 met.1 beyond k)
        where
          moved : (x y z : ℤ) → z ≡ y → x <ℤ y → x <ℤ z
          moved x y z e l = omega (arith, ints, e, l)

          under : (y z q : ℤ) → z ≡ y → y <ℤ q → z <ℤ q
          under y z q e l = omega (arith, ints, e, l)

          clash : (met : IsBetween lines p s) → is_met lines.column met.row.line ≡ true → point_order p s ≡ Less → IsBefore ps s → ⊥
          clash met is beyond k = by_first (first_of ps) refl
            where
              by_first : (o : Option Point) → first_of ps ≡ o → ⊥
              by_first None e = no_column e
                where
                  no_column : first_of ps ≡ None → ⊥
                  no_column e =
                      let on = column_key es h all t ps before gone ahead come lines laid marked swept p next.last met.open_column in
                      empty ps e on.key.edge.b (reached_end es h all t ps swept.stops on.key.edge.b (second_end on.key on.listed) on.second)
                    where
                      empty : (qs : List Point) → first_of qs ≡ None → (r : Point) → Contains qs r → ⊥
                      empty [] e r at = contains_no r at
                      empty (q ∷ qs) e r at = absurd (cc)
              by_first (Some q) e =
                  let first = first_least ps q e swept.stops.rising in
                  let on = column_key es h all t ps before gone ahead come lines laid marked swept p next.last met.open_column in
                  let x = at_one_x es h all t ps before gone ahead come lines laid marked swept p next q e met.open_column in
                  false≢true
                  (sym (All-contains (λ r. p.y <ℤ r.y → r.y <ℤ q.y → is_met lines.column r.line ≡ false) lines.rows met.row (clear q e met.open_column) met.listed
                  (moved p.y s.y met.row.y met.height met.above)
                  (under s.y met.row.y q.y met.height (less_by_y s q (met.place ∙ sym x.1) (behind_is ps s q k first.0))))
                  ∙ is)

  end_there : (s : Point) → IsEndOfSome (edges_of es) s → ((is_le (point_order p s) ≡ true) × Contains (p ∷ ps) s) ⊎ ((is_le (point_order p s) ≡ false) × IsBefore (p ∷ ps) s)
  end_there s end = ⊎_elim (λ k. inl (behind_p s k.1, contains_tail p ps s k.1)) (λ k. by k.0 k.1 (le_tells s p (next.last s end k.0))) (swept.stops.ends s end)
    where
      by : reached t s ≡ false → IsBefore ps s → (point_order s p ≡ Less) ⊎ (s ≡ p) → ((is_le (point_order p s) ≡ true) × Contains (p ∷ ps) s) ⊎ ((is_le (point_order p s) ≡ false) × IsBefore (p ∷ ps) s)
      by e k (inl l) = inr (not_after s p l, All-cons (λ q. point_order s q ≡ Less) p ps l k)
      by e k (inr f) = inl (here s f, subst (Contains (p ∷ ps)) (sym f) (contains_head p ps))

  -- ---- whether a key runs through the end

  after_first : (r : Point) → is_le (point_order p r) ≡ false → point_order r p ≡ Less
  after_first r e = by (point_order p r) refl e
    where
      by : (o : Ordering) → point_order p r ≡ o → is_le o ≡ false → point_order r p ≡ Less
      by Less f g = absurd (false≢true (sym g))
      by Equal f g = absurd (false≢true (sym g))
      by Greater f g = less_from_greater point_total p r f

  half_runs : (test : Entry Count → Bool) (l : LineView) → Runs test (mid ++ gone) come l → pos l.running +ℤ total (gone_of (Some p) (one_if test)) es ≡ total (come_of t (one_if test)) es
  half_runs test l k = (by_reach es (Some p) t left (mid ++ gone) ahead come half_cut test l k).0

  abbrev through_column : Bool
  through_column = nat_lt 0 lines_gone.column.running

  abbrev through_row : Bool
  through_row = nat_lt 0 (line_at p.y lines_gone.rows).running

  second_after : (e : Entry Count) → Contains es e → reached t e.edge.b ≡ true → point_order p e.edge.b ≡ Less
  second_after e at k = behind_is ps p e.edge.b p_first (reached_end es h all t ps swept.stops e.edge.b (second_end e at) k)

  inside_column : RunsOn es (Some p) t in_column → IsSomeInside (edges_of es) (p ∷ ps)
  inside_column on = (p, contains_head p ps, (s, listed, inside_from p s ((vertical_flat s p (directed es h all t ps swept.stops s listed) vertical).1 (squeezed s.a.x s.b.x p.x vertical (point_less_x s.a p from) (point_less_x p s.b to))) from to))
    where
      s : Edge
      s = on.key.edge

      listed : Contains (edges_of es) s
      listed = listed_edge es on.key on.listed

      vertical : s.a.x ≡ s.b.x
      vertical = (Decides-int_eq s.a.x s.b.x).0 on.passes

      from : point_order s.a p ≡ Less
      from = after_first s.a on.first

      to : point_order p s.b ≡ Less
      to = second_after on.key on.listed on.second

      squeezed : (a b p : ℤ) → a ≡ b → a ≤ℤ p → p ≤ℤ b → p ≡ a
      squeezed a b p e k l = omega (arith, ints, e, k, l)

  inside_row : RunsOn es (Some p) t (in_row p.y) → IsSomeInside (edges_of es) (p ∷ ps)
  inside_row on = by (int_eq s.a.x s.b.x) refl on.passes
    where
      s : Edge
      s = on.key.edge

      listed : Contains (edges_of es) s
      listed = listed_edge es on.key on.listed

      by : (b : Bool) → int_eq s.a.x s.b.x ≡ b → cond b false (int_eq s.a.y p.y) ≡ true → IsSomeInside (edges_of es) (p ∷ ps)
      by true e f = absurd (false≢true f)
      by false e f = ⊎_elim level (λ v. absurd (false≢true (sym e ∙ same_height s.a.x s.b.x v))) (way es h all t ps swept.stops s listed)
        where
          level : IsHorizontal s → IsSomeInside (edges_of es) (p ∷ ps)
          level v = (p, contains_head p ps, (s, listed, inside_from p s ((horizontal_flat s p (directed es h all t ps swept.stops s listed) v).1 (sym ((Decides-int_eq s.a.y p.y).0 f))) (after_first s.a on.first) (second_after on.key on.listed on.second)))

  went_came : All (λ e. is_le (point_order p e.edge.a) ≡ true → reached t e.edge.b ≡ true) es
  went_came = All-weaker (Contains es) (λ e. is_le (point_order p e.edge.a) ≡ true → reached t e.edge.b ≡ true) second_reached es (All-contains_itself es)

  gone_row : (r : RowView) → Contains lines_gone.rows r → Runs (in_row r.y) (mid ++ gone) come r.line
  gone_row r at = All-contains (λ r. Runs (in_row r.y) (mid ++ gone) come r.line) lines_gone.rows r runs_gone.rows at

  row_tells : through_row ≡ true → IsSomeInside (edges_of es) (p ∷ ps)
  row_tells e = ⊎_elim there (λ k. absurd (false≢true (sym (ap (λ l. nat_lt 0 l.running) k.1) ∙ e))) (row_or_none p.y lines_gone.rows)
    where
      there : HasRow p.y lines_gone.rows → IsSomeInside (edges_of es) (p ∷ ps)
      there k =
          let runs = subst (λ y. Runs (in_row y) (mid ++ gone) come k.row.line) k.height (gone_row k.row k.listed) in
          inside_row (some_runs es (Some p) t (in_row p.y) k.row.line.running (half_runs (in_row p.y) k.row.line runs) (lt_tells k.row.line.running (sym (ap (λ l. nat_lt 0 l.running) k.line) ∙ e)))

  column_tells : through_column ≡ true → IsSomeInside (edges_of es) (p ∷ ps)
  column_tells e = inside_column (some_runs es (Some p) t in_column lines_gone.column.running (half_runs in_column lines_gone.column runs_gone.column) (lt_tells lines_gone.column.running e))

  inside_told : (s : Edge) → Contains (edges_of es) s → strictly_inside p s ≡ true → (through_column ≡ true) ⊎ (through_row ≡ true)
  inside_told s at e = ⊎_elim (λ v. inr (level v)) (λ v. inl (vertical v)) (way es h all t ps swept.stops s at)
    where
      k : (turn s.a s.b p ≡ pos 0) × ((point_order s.a p ≡ Less) × (point_order p s.b ≡ Less))
      k = let m = inside_is p s e in (m.0, (m.1, m.2))

      entry : (e : Entry Count) × Contains es e × (e.edge ≡ s)
      entry = mapped_from (λ e. e.edge) es s at

      forward : is_before s.a s.b ≡ true
      forward = directed es h all t ps swept.stops s at

      first : reached (Some p) entry.0.edge.a ≡ false
      first = ap (λ s. reached (Some p) s.a) entry.2 ∙ not_after s.a p k.1.0

      second : reached t entry.0.edge.b ≡ true
      second = ap (λ s. reached t s.b) entry.2 ∙ by (reached t s.b) refl
        where
          by : (b : Bool) → reached t s.b ≡ b → b ≡ true
          by true f = refl
          by false f = absurd (le_not s.b p (next.last s.b (s, at, inr refl) f) k.1.1)

      vertical : IsVertical s → through_column ≡ true
      vertical v =
          lt_from lines_gone.column.running
          (is_running es (Some p) t in_column lines_gone.column.running (half_runs in_column lines_gone.column runs_gone.column) went_came
          (record { key = entry.0; listed = entry.1; passes = ap (λ s. int_eq s.a.x s.b.x) entry.2 ∙ same_height s.a.x s.b.x v; first = first; second = second }))

      level : IsHorizontal s → through_row ≡ true
      level v = ⊎_elim there none (row_or_none p.y lines_gone.rows)
        where
          height : p.y ≡ s.a.y
          height = (horizontal_flat s p forward v).0 k.0

          apart : (x y : ℤ) → x <ℤ y → x ≡ y → ⊥
          apart x y l e = omega (arith, ints, l, e)

          wide : int_eq entry.0.edge.a.x entry.0.edge.b.x ≡ false
          wide = ap (λ s. int_eq s.a.x s.b.x) entry.2 ∙ other_height s.a.x s.b.x (apart s.a.x s.b.x (less_by_x s.a s.b v (before_is_less s.a s.b forward)))

          at_y : entry.0.edge.a.y ≡ p.y
          at_y = ap (λ s. s.a.y) entry.2 ∙ sym height

          passes : in_row p.y entry.0 ≡ true
          passes = ap (λ (b : Bool). cond b false (int_eq entry.0.edge.a.y p.y)) wide ∙ same_height entry.0.edge.a.y p.y at_y

          there : HasRow p.y lines_gone.rows → through_row ≡ true
          there k =
              let runs = subst (λ y. Runs (in_row y) (mid ++ gone) come k.row.line) k.height (gone_row k.row k.listed) in
              ap (λ l. nat_lt 0 l.running) k.line
              ∙ lt_from k.row.line.running
              (is_running es (Some p) t (in_row p.y) k.row.line.running (half_runs (in_row p.y) k.row.line runs) went_came (record { key = entry.0; listed = entry.1; passes = passes; first = first; second = second }))

          none : All (IsApart p.y) lines_gone.rows × (line_at p.y lines_gone.rows ≡ bare) → through_row ≡ true
          none k =
              let row = mapped_from (λ r. r.y) lines_gone.rows entry.0.edge.a.y (subst (λ ys. Contains ys entry.0.edge.a.y) (sym (all_heights false mid (visited p lines) ∙ heights_kept p.y (stopped p) lines.rows)) (swept.has entry.0 entry.1 wide)) in
              absurd (false≢true (sym (All-contains (IsApart p.y) lines_gone.rows row.0 k.0 row.1) ∙ same_height row.0.y p.y (row.2 ∙ at_y)))

  or_tells : (a b c : Bool) → (a || (b || c)) ≡ true → (a ≡ true) ⊎ ((b ≡ true) ⊎ (c ≡ true))
  or_tells true b c e = inl refl
  or_tells false true c e = inr (inl refl)
  or_tells false false c e = inr (inr e)

  or_from : (a b c : Bool) → (a ≡ true) ⊎ ((b ≡ true) ⊎ (c ≡ true)) → (a || (b || c)) ≡ true
  or_from true b c e = refl
  or_from false true c e = refl
  or_from false false c (inl e) = absurd (false≢true e)
  or_from false false c (inr (inl e)) = absurd (false≢true e)
  or_from false false c (inr (inr e)) = e

  later_inside : IsSomeInside (edges_of es) ps → IsSomeInside (edges_of es) (p ∷ ps)
  later_inside k = (k.0, contains_tail p ps k.0 k.1, k.2)

  pub met : Swept es (Some p) (p ∷ ps) left (mid ++ gone) left_ends (mid_ends ++ come) lines_come (laid ++ steps_from p lines) (marked || (through_column || through_row))
  met = record {
    cut = whole_cut;
    stops = record {
      rising = AllPairs-cons (λ p q. point_order p q ≡ Less) p ps p_first swept.stops.rising;
      only = All-cons (IsStop (edges_of es)) p ps (inl next.own) swept.stops.only;
      known = known_now;
      ends = end_there;
    };
    runs = runs_come;
    nexts =
        all_rows true mid_ends lines_gone (λ y. first_by (same_y y) (p ∷ ps))
        (all_rows false mid (visited p lines) (λ y. first_by (same_y y) (p ∷ ps)) (nexts_at es h all t ps before gone ahead come lines laid marked swept p p_first p_le));
    next = all_next true mid_ends lines_gone ∙ all_next false mid (visited p lines);
    rising = all_rising true mid_ends lines_gone (all_rising false mid (visited p lines) (rising_kept p.y (stopped p) lines.rows swept.rising));
    has = λ e there f.
        subst (λ ys. Contains ys e.edge.a.y) (sym (all_heights true mid_ends lines_gone ∙ (all_heights false mid (visited p lines) ∙ heights_kept p.y (stopped p) lines.rows))) (swept.has e there f);
    steps = laid_at es h all t ps before gone ahead come lines laid marked swept p p_first p_le;
    marks = (
      (λ e. ⊎_elim (λ k. later_inside (swept.marks.0 k)) (λ k. ⊎_elim column_tells row_tells k) (or_tells marked through_column through_row e)),
      (λ k. or_from marked through_column through_row (⊎_elim (λ f. inr (inside_told k.2.0 k.2.1 (ap (λ z. strictly_inside z k.2.0) f ∙ k.2.2))) (λ m. inl (swept.marks.1 (k.0, m, k.2))) (contained p ps k.0 k.1))),
    );
  }

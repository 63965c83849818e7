-- Cut points of horizontal and vertical lines, and what runs along them, by coordinates.
use Rattle.std.proofs.Common.{◌≡◌, ◌↔◌, true, false, ℤ, pos, ◌-ℤ◌, ◌*ℤ◌, ◌<ℤ◌, ◌≤ℤ◌, List, Contains, ◌⊎◌, inl, inr, ⊎_elim, Ordering, Less, Equal, Greater, refl, sym, ap, ◌∙◌, arith}
use Rattle.std.specs.Ordering.{is_le}
use Rattle.std.proofs.lemmas.Int.{ints, by_lt_z}
use Rattle.std.proofs.lemmas.Bool.{false≢true}
use Rattle.std.proofs.lemmas.List.Elements.{All-map, All-contains}
use Rattle.std.proofs.Math.IntN.{*ℤ-zero}
use Rattle.plane_base.specs.Plane.{Point, Edge, turn, is_before, point_order}
use Rattle.plane_base.specs.Segments.{strictly_inside, on_one_line}
use Rattle.plane_base.specs.Counts.{Counting, Entry}
use Rattle.plane_base.specs.WholeLaws.{IsPiece}
use Rattle.plane_base.proofs.Facts.Maps.Laying.{IsDirected}
use Rattle.plane_base.proofs.Facts.Points.Orders.{point_less, point_equal, point_itself, point_less_by_x, point_less_by_y, point_less_x}
use Rattle.plane_base.proofs.Facts.Points.Turns.{turn_there_and_back, turn_end_twice}
use Rattle.segment_split.specs.Passes.{edges_of}
use Rattle.segment_split.specs.LineLaws.{is_rectilinear, AllRectilinear, IsCutPoint, is_part, PassesUpThrough, PassesHorizontalThrough, IsMetAt, SpansHorizontal, SpansUp, CutByCoordinates}
use Rattle.segment_split.proofs.Spread.Lists.{IsDirectedEdge}
use Rattle.segment_split.proofs.Passes.Steps.{inside_is, inside_from}
use Rattle.segment_split.proofs.Passes.Common.{AreCollinear, collinear_swapped, one_line_from}
use Rattle.segment_split.proofs.Whole.CutPoints.{part_tells, part_from, same_line, not_one_line}
use Rattle.segment_split.proofs.Whole.RectilinearEdges.{IsHorizontal, IsVertical, rectilinear, wide, tall, gap, nothing, horizontal_zero, vertical_zero}

-- ---- points on a line

equal_from : (x y : ℤ) → x -ℤ y ≡ pos 0 → x ≡ y
equal_from x y e = omega (arith, ints)

none_left : (w v y x : ℤ) → v ≡ pos 0 → y ≡ pos 0 → (w *ℤ y) -ℤ (v *ℤ x) ≡ pos 0
none_left w v y x e f = rw (e, f, *ℤ-zero w, nothing x) refl

none_right : (w v y x : ℤ) → w ≡ pos 0 → x ≡ pos 0 → (w *ℤ y) -ℤ (v *ℤ x) ≡ pos 0
none_right w v y x e f = rw (e, f, *ℤ-zero v, nothing y) refl

pub horizontal_flat : (s : Edge) (p : Point) → is_before s.a s.b ≡ true → IsHorizontal s → (turn s.a s.b p ≡ pos 0) ↔ (p.y ≡ s.a.y)
horizontal_flat s p forward h = (
  (λ e. equal_from p.y s.a.y (horizontal_zero (s.b.x -ℤ s.a.x) (s.b.y -ℤ s.a.y) (p.y -ℤ s.a.y) (p.x -ℤ s.a.x) (gap s.a.y s.b.y h) (wide s forward h) e)),
  (λ e. none_left (s.b.x -ℤ s.a.x) (s.b.y -ℤ s.a.y) (p.y -ℤ s.a.y) (p.x -ℤ s.a.x) (gap s.a.y s.b.y h) (gap s.a.y p.y (sym e))),
)

pub vertical_flat : (s : Edge) (p : Point) → is_before s.a s.b ≡ true → IsVertical s → (turn s.a s.b p ≡ pos 0) ↔ (p.x ≡ s.a.x)
vertical_flat s p forward h = (
  (λ e. equal_from p.x s.a.x (vertical_zero (s.b.x -ℤ s.a.x) (s.b.y -ℤ s.a.y) (p.y -ℤ s.a.y) (p.x -ℤ s.a.x) (gap s.a.x s.b.x h) (tall s forward h) e)),
  (λ e. none_right (s.b.x -ℤ s.a.x) (s.b.y -ℤ s.a.y) (p.y -ℤ s.a.y) (p.x -ℤ s.a.x) (gap s.a.x s.b.x h) (gap s.a.x p.x (sym e))),
)

-- ---- points inside an edge

pub less_by_x : (a b : Point) → a.y ≡ b.y → point_order a b ≡ Less → a.x <ℤ b.x
less_by_x a b e h = ⊎_elim (λ l. l) (λ l. absurd (apart a.y b.y e l.1)) (point_less a b h)
  where
    apart : (x y : ℤ) → x ≡ y → x <ℤ y → ⊥
    apart x y e h = omega (arith, ints)

pub less_by_y : (a b : Point) → a.x ≡ b.x → point_order a b ≡ Less → a.y <ℤ b.y
less_by_y a b e h = ⊎_elim (λ l. absurd (apart a.x b.x e l)) (λ l. l.1) (point_less a b h)
  where
    apart : (x y : ℤ) → x ≡ y → x <ℤ y → ⊥
    apart x y e h = omega (arith, ints)

pub inside_vertical : (s : Edge) (p : Point) → is_before s.a s.b ≡ true → IsVertical s → strictly_inside p s ≡ true → PassesUpThrough s p
inside_vertical s p forward h e =
    let k = inside_is p s e in
    let x = (vertical_flat s p forward h).0 k.0 in
    record { first = sym x; second = sym h ∙ sym x; below = less_by_y s.a p (sym x) k.1; above = less_by_y p s.b (x ∙ h) k.2 }

pub inside_horizontal : (s : Edge) (p : Point) → is_before s.a s.b ≡ true → IsHorizontal s → strictly_inside p s ≡ true → PassesHorizontalThrough s p
inside_horizontal s p forward h e =
    let k = inside_is p s e in
    let y = (horizontal_flat s p forward h).0 k.0 in
    record { first = sym y; second = sym h ∙ sym y; left = less_by_x s.a p (sym y) k.1; right = less_by_x p s.b (y ∙ h) k.2 }

pub vertical_inside : (s : Edge) (p : Point) → is_before s.a s.b ≡ true → PassesUpThrough s p → strictly_inside p s ≡ true
vertical_inside s p forward h =
    inside_from p s ((vertical_flat s p forward (h.first ∙ sym h.second)).1 (sym h.first)) (point_less_by_y s.a p h.first h.below) (point_less_by_y p s.b (sym h.second) h.above)

pub horizontal_inside : (s : Edge) (p : Point) → is_before s.a s.b ≡ true → PassesHorizontalThrough s p → strictly_inside p s ≡ true
horizontal_inside s p forward h =
    inside_from p s ((horizontal_flat s p forward (h.first ∙ sym h.second)).1 (sym h.first)) (point_less_by_x s.a p h.left) (point_less_by_x p s.b h.right)

-- ---- cut points

collinear_is : (u s : Edge) → is_before u.a u.b ≡ true → AreCollinear u s → on_one_line u s ≡ true
collinear_is u s forward h = one_line_from u s h (collinear_swapped u s forward h)

module _ {C : Type 0} (es : List (Entry C)) (u : Edge) (p : Point) (h : IsDirected es) (all : AllRectilinear (edges_of es)) (forward : is_before u.a u.b ≡ true) where
  way : (s : Edge) → Contains (edges_of es) s → IsHorizontal s ⊎ IsVertical s
  way s at = rectilinear s (All-contains (λ s. is_rectilinear s ≡ true) (edges_of es) s all at)

  directed : (s : Edge) → Contains (edges_of es) s → is_before s.a s.b ≡ true
  directed s at = All-contains IsDirectedEdge (edges_of es) s (All-map IsDirectedEdge (λ (e : Entry C). e.edge) es h) at

  horizontal_cut : IsHorizontal u → IsCutPoint (edges_of es) u p → (p.y ≡ u.a.y) × IsMetAt PassesUpThrough (edges_of es) p
  horizontal_cut level cut = (height, (cut.of, cut.listed, ⊎_elim inl (λ k. inr (passes (way cut.of cut.listed) k.0 k.1)) cut.meets))
    where
      height : p.y ≡ u.a.y
      height = (horizontal_flat u p forward level).0 cut.flat

      passes : IsHorizontal cut.of ⊎ IsVertical cut.of → strictly_inside p cut.of ≡ true → on_one_line u cut.of ≡ false → PassesUpThrough cut.of p
      passes (inr vertical) e f = inside_vertical cut.of p (directed cut.of cut.listed) vertical e
      passes (inl other) e f =
          let k = inside_horizontal cut.of p (directed cut.of cut.listed) other e in
          absurd (false≢true (sym f ∙ collinear_is u cut.of forward ((horizontal_flat u cut.of.a forward level).1 (k.first ∙ height), (horizontal_flat u cut.of.b forward level).1 (k.second ∙ height))))

  cut_horizontal : IsHorizontal u → p.y ≡ u.a.y → IsMetAt PassesUpThrough (edges_of es) p → IsCutPoint (edges_of es) u p
  cut_horizontal level height met = record {
    flat = (horizontal_flat u p forward level).1 height;
    of = met.0;
    listed = met.1;
    meets = ⊎_elim inl (λ k. inr (vertical_inside met.0 p (directed met.0 met.1) k, not_one_line u met.0 (apart k))) met.2;
  }
    where
      apart : PassesUpThrough met.0 p → AreCollinear u met.0 → ⊥
      apart k c = clash _ _ _ ((horizontal_flat u met.0.a forward level).0 c.0) ((horizontal_flat u met.0.b forward level).0 c.1) _ k.below k.above
        where
          clash : (x y z : ℤ) → x ≡ z → y ≡ z → (m : ℤ) → x <ℤ m → m <ℤ y → ⊥
          clash x y z e f m h k = omega (arith, ints)

  vertical_cut : IsVertical u → IsCutPoint (edges_of es) u p → (p.x ≡ u.a.x) × IsMetAt PassesHorizontalThrough (edges_of es) p
  vertical_cut vertical cut = (place, (cut.of, cut.listed, ⊎_elim inl (λ k. inr (passes (way cut.of cut.listed) k.0 k.1)) cut.meets))
    where
      place : p.x ≡ u.a.x
      place = (vertical_flat u p forward vertical).0 cut.flat

      passes : IsHorizontal cut.of ⊎ IsVertical cut.of → strictly_inside p cut.of ≡ true → on_one_line u cut.of ≡ false → PassesHorizontalThrough cut.of p
      passes (inl level) e f = inside_horizontal cut.of p (directed cut.of cut.listed) level e
      passes (inr other) e f =
          let k = inside_vertical cut.of p (directed cut.of cut.listed) other e in
          absurd (false≢true (sym f ∙ collinear_is u cut.of forward ((vertical_flat u cut.of.a forward vertical).1 (k.first ∙ place), (vertical_flat u cut.of.b forward vertical).1 (k.second ∙ place))))

  cut_vertical : IsVertical u → p.x ≡ u.a.x → IsMetAt PassesHorizontalThrough (edges_of es) p → IsCutPoint (edges_of es) u p
  cut_vertical vertical place met = record {
    flat = (vertical_flat u p forward vertical).1 place;
    of = met.0;
    listed = met.1;
    meets = ⊎_elim inl (λ k. inr (horizontal_inside met.0 p (directed met.0 met.1) k, not_one_line u met.0 (apart k))) met.2;
  }
    where
      apart : PassesHorizontalThrough met.0 p → AreCollinear u met.0 → ⊥
      apart k c = clash _ _ _ ((vertical_flat u met.0.a forward vertical).0 c.0) ((vertical_flat u met.0.b forward vertical).0 c.1) _ k.left k.right
        where
          clash : (x y z : ℤ) → x ≡ z → y ≡ z → (m : ℤ) → x <ℤ m → m <ℤ y → ⊥
          clash x y z e f m h k = omega (arith, ints)

  pub horizontal_line : IsHorizontal u → IsCutPoint (edges_of es) u p ↔ ((p.y ≡ u.a.y) × IsMetAt PassesUpThrough (edges_of es) p)
  horizontal_line level = (horizontal_cut level, (λ k. cut_horizontal level k.0 k.1))

  pub vertical_line : IsVertical u → IsCutPoint (edges_of es) u p ↔ ((p.x ≡ u.a.x) × IsMetAt PassesHorizontalThrough (edges_of es) p)
  vertical_line vertical = (vertical_cut vertical, (λ k. cut_vertical vertical k.0 k.1))

-- ---- parts

module _ (a b : Point) where
  le_x : is_le (point_order a b) ≡ true → a.x ≤ℤ b.x
  le_x e = by (point_order a b) refl e
    where
      level : (x y : ℤ) → x ≡ y → x ≤ℤ y
      level x y e = omega (arith, ints)

      by : (o : Ordering) → point_order a b ≡ o → is_le o ≡ true → a.x ≤ℤ b.x
      by Less f k = point_less_x a b f
      by Equal f k = level a.x b.x (ap (λ (p : Point). p.x) (point_equal a b f))
      by Greater f k = absurd (cc)

  le_y : a.x ≡ b.x → is_le (point_order a b) ≡ true → a.y ≤ℤ b.y
  le_y same e = by (point_order a b) refl e
    where
      level : (x y : ℤ) → x ≡ y → x ≤ℤ y
      level x y e = omega (arith, ints)

      weak : (x y : ℤ) → x <ℤ y → x ≤ℤ y
      weak x y e = omega (arith, ints)

      by : (o : Ordering) → point_order a b ≡ o → is_le o ≡ true → a.y ≤ℤ b.y
      by Less f k = weak a.y b.y (less_by_y a b same f)
      by Equal f k = level a.y b.y (ap (λ (p : Point). p.y) (point_equal a b f))
      by Greater f k = absurd (cc)

  same_point : a.x ≡ b.x → a.y ≡ b.y → point_order a b ≡ Equal
  same_point e f = ap (λ x. point_order (record { x = x; y = a.y }) b) e ∙ ap (λ y. point_order (record { x = b.x; y = y }) b) f ∙ point_itself b

  le_by_x : a.y ≡ b.y → a.x ≤ℤ b.x → is_le (point_order a b) ≡ true
  le_by_x same h = by_lt_z a.x b.x (λ l. ap is_le (point_less_by_x a b l)) (λ l. ap is_le (same_point (level a.x b.x h l) same))
    where
      level : (x y : ℤ) → x ≤ℤ y → y ≤ℤ x → x ≡ y
      level x y h k = omega (arith, ints)

  le_by_y : a.x ≡ b.x → a.y ≤ℤ b.y → is_le (point_order a b) ≡ true
  le_by_y same h = by_lt_z a.y b.y (λ l. ap is_le (point_less_by_y a b same l)) (λ l. ap is_le (same_point same (level a.y b.y h l)))
    where
      level : (x y : ℤ) → x ≤ℤ y → y ≤ℤ x → x ≡ y
      level x y h k = omega (arith, ints)

module _ (u s : Edge) (forward : is_before u.a u.b ≡ true) (other : is_before s.a s.b ≡ true) where
  -- the ends of what runs along u lie on its line
  ends_along : IsPiece u s → AreCollinear u s
  ends_along piece = ((same_line u s other piece s.a).0 (turn_there_and_back s.a s.b), (same_line u s other piece s.b).0 (turn_end_twice s.a s.b))

  horizontal_spans : IsHorizontal u → is_part u s ≡ true → SpansHorizontal s u
  horizontal_spans level e =
      let piece = part_tells u s forward e in
      let ends = ends_along piece in
      record {
        first = (horizontal_flat u s.a forward level).0 ends.0;
        second = (horizontal_flat u s.b forward level).0 ends.1;
        from = le_x s.a u.a piece.from;
        to = le_x u.b s.b piece.to;
      }

  spans_horizontal : IsHorizontal u → SpansHorizontal s u → is_part u s ≡ true
  spans_horizontal level h =
      part_from u s
      (record {
        first_on = (horizontal_flat s u.a other (h.first ∙ sym h.second)).1 (sym h.first);
        second_on = (horizontal_flat s u.b other (h.first ∙ sym h.second)).1 (sym level ∙ sym h.first);
        from = le_by_x s.a u.a h.first h.from;
        forward = forward;
        to = le_by_x u.b s.b (sym level ∙ sym h.second) h.to;
      })

  vertical_spans : IsVertical u → is_part u s ≡ true → SpansUp s u
  vertical_spans vertical e =
      let piece = part_tells u s forward e in
      let ends = ends_along piece in
      let first = (vertical_flat u s.a forward vertical).0 ends.0 in
      let second = (vertical_flat u s.b forward vertical).0 ends.1 in
      record { first = first; second = second; from = le_y s.a u.a first piece.from; to = le_y u.b s.b (sym vertical ∙ sym second) piece.to }

  spans_vertical : IsVertical u → SpansUp s u → is_part u s ≡ true
  spans_vertical vertical h =
      part_from u s
      (record {
        first_on = (vertical_flat s u.a other (h.first ∙ sym h.second)).1 (sym h.first);
        second_on = (vertical_flat s u.b other (h.first ∙ sym h.second)).1 (sym vertical ∙ sym h.first);
        from = le_by_y s.a u.a h.first h.from;
        forward = forward;
        to = le_by_y u.b s.b (sym vertical ∙ sym h.second) h.to;
      })

pub cut_by_coordinates : {C : Type 0} (kind : Counting C) → CutByCoordinates kind
cut_by_coordinates kind = record {
  horizontal_line = λ es u p h all forward level. horizontal_line es u p h.directed all forward level;
  vertical_line = λ es u p h all forward vertical. vertical_line es u p h.directed all forward vertical;
  horizontal_part = λ u s forward other level. (horizontal_spans u s forward other level, spans_horizontal u s forward other level);
  vertical_part = λ u s forward other vertical. (vertical_spans u s forward other vertical, spans_vertical u s forward other vertical);
}

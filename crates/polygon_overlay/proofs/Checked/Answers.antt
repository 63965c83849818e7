-- What is sized twice is what squares cover, or what none covers outside, point by point.
use Rattle.std.proofs.Common.{◌≡◌, ◌⊎◌, inl, inr, Bool, true, false, List, ℤ, pos, neg_ℤ, ◌+ℤ◌, ◌-ℤ◌, ◌*ℤ◌, ◌≤ℤ◌, ◌<ℤ◌, refl, sym, ap, ◌∙◌, subst, arith}
use Rattle.std.proofs.lemmas.Int.{ints}
use Rattle.std.proofs.lemmas.Bool.{false≢true}
use Rattle.plane_base.specs.Plane.{Point, RationalPoint, IsRational}
use Rattle.plane_base.specs.Regions.{FillRule, Positive, is_filled}
use Rattle.plane_base.specs.Windings.{contour_winding}
use Rattle.plane_base.proofs.Facts.Numbers.Products.{product_of_negation, product_monotone}
use Rattle.contour_walk.specs.BindingLaws.{all_contours}
use Rattle.polygon_overlay.specs.Checks.{IsCovered, IsNear, IsWidthError, IsSpaceError, GrownIsNear, evenly, opposite, halves}
use Rattle.polygon_overlay.specs.Sizing.{Amounts, IsSized, IsFilledBy, WindWhere}
use Rattle.polygon_overlay.specs.SizingLaws.{FillJust}
use Rattle.polygon_overlay.specs.Tiles.{AreRectilinear}
use Rattle.polygon_overlay.proofs.Checked.Cells.{column, row, place_winding, winding_by_places}
use Rattle.polygon_overlay.proofs.Checked.Places.{floor, floor_moves, floor_rises, floor_is, row_of, row_moves, row_rises}
use Rattle.polygon_overlay.proofs.Checked.Room.{halves_part}
use Rattle.polygon_overlay.proofs.Checked.Squares.{covered_by_cells, Parts, of_some_cell, some_cell, opened_by_squares, closed_off_squares, closed_where_no_square}
use Rattle.polygon_overlay.proofs.Checked.Windows.{SizedCells, IsByCells, sized_by_cells, moves_back}
use Rattle.polygon_overlay.proofs.Sized.InTurn.{wind_alike}

-- ---- regions by columns and rows

abbrev cells_of : FillRule → List (List Point) → ℤ → ℤ → Type 0
cells_of fill contours i j = is_filled fill (place_winding contours i j) ≡ true

mask_by_cells : (fill : FillRule) (contours : List (List Point)) → AreRectilinear contours → IsByCells (IsFilledBy fill contours) (cells_of fill contours)
mask_by_cells fill contours straight m some =
    let e = winding_by_places m some contours straight in
    (λ h. subst (λ w. is_filled fill w ≡ true) e h, λ h. subst (λ w. is_filled fill w ≡ true) (sym e) h)

off_by_cells : (In : RationalPoint → Type 0) (At : ℤ → ℤ → Type 0) → IsByCells In At → IsByCells (λ m. In m → ⊥) (λ i j. At i j → ⊥)
off_by_cells In At tells m some = (λ off h. off ((tells m some).1 h), λ off h. off ((tells m some).0 h))

-- a point of the place, to tell it by
abbrev point_at : ℤ → ℤ → RationalPoint
point_at m n = record { x = m; y = n +ℤ pos 1; q = 1 }

whole : (n : ℤ) → floor n 1 ≡ n
whole n = floor_is n n 1 (omega arith) (low n) (high n)
  where
    low : (n : ℤ) → (pos 1 *ℤ n) ≤ℤ n
    low n = omega (arith, ints)

    high : (n : ℤ) → n <ℤ (pos 1 *ℤ (n +ℤ pos 1))
    high n = omega (arith, ints)

whole_row : (n : ℤ) → row_of (n +ℤ pos 1) 1 ≡ n
whole_row n = ap (λ k. floor k 1) (less n) ∙ whole n
  where
    less : (n : ℤ) → (n +ℤ pos 1) -ℤ pos 1 ≡ n
    less n = omega (arith, ints)

-- ---- widths and spaces

module _ (side : ℤ) (some_side : pos 1 ≤ℤ side) (fill : FillRule) (contours : List (List Point)) (straight : AreRectilinear contours) where
  abbrev In : RationalPoint → Type 0
  In p = IsFilledBy fill contours p

  abbrev At : ℤ → ℤ → Type 0
  At i j = cells_of fill contours i j

  cells : IsByCells In At
  cells = mask_by_cells fill contours straight

  abbrev pub Opened : RationalPoint → Type 0
  Opened p = IsSized (halves side) (IsSized (opposite (halves side)) In) p

  abbrev pub Closed : RationalPoint → Type 0
  Closed p = IsSized (opposite (halves side)) (IsSized (halves side) In) p

  twice_cells : (first second : Amounts) → IsByCells (IsSized second (IsSized first In)) (SizedCells second (SizedCells first At))
  twice_cells first second = sized_by_cells (IsSized first In) (SizedCells first At) (sized_by_cells In At cells first) second

  -- what is shrunk and grown again is covered by squares
  opened_is_covered : (p : RationalPoint) → IsRational p → (Opened p → IsCovered side In p) × (IsCovered side In p → Opened p)
  opened_is_covered p some =
      let opens = twice_cells (opposite (halves side)) (halves side) p some in
      let squares = opened_by_squares side (halves side) (halves_part side some_side) At (column p) (row p) in
      let covers = covered_by_cells side In At cells p some in
      (λ h. covers.1 (squares.0 (opens.0 h)), λ h. opens.1 (squares.1 (covers.0 h)))

  module _ (mask : List (List Point)) (is : FillJust In mask) where
    pub width_errors : (turns : ℤ) (opened : List (List Point)) (shapes : List (List (List Point))) → FillJust Opened opened
        → WindWhere turns (λ p. IsFilledBy Positive mask p × (IsFilledBy Positive opened p → ⊥)) (all_contours shapes)
        → WindWhere turns (IsWidthError side In) (all_contours shapes)
    width_errors turns opened shapes opens =
        wind_alike turns (λ p. IsFilledBy Positive mask p × (IsFilledBy Positive opened p → ⊥)) (IsWidthError side In) (all_contours shapes)
        (λ p some. let covered = opened_is_covered p some in
        let fills = is.fills p some in
        let there = opens.fills p some in
        (λ h. (fills.1 h.0, λ k. h.1 (there.0 (covered.1 k))), λ h. (fills.0 h.0, λ k. h.1 (covered.0 (there.1 k)))))

  -- Grown contours tell of each place whether it belongs to the grown region.
  decides : (by : Amounts) (shifted : List (List Point)) → FillJust (IsSized by In) shifted → (m n : ℤ) → SizedCells by At m n ⊎ (SizedCells by At m n → ⊥)
  decides by shifted grown m n =
      tell (sized_by_cells In At cells by (point_at m n) (omega arith)) (grown.fills (point_at m n) (omega arith))
      (is_filled Positive (contour_winding shifted (point_at m n))) refl
    where
      tell : (IsSized by In (point_at m n) → SizedCells by At (floor m 1) (row_of (n +ℤ pos 1) 1)) × (SizedCells by At (floor m 1) (row_of (n +ℤ pos 1) 1)
          → IsSized by In (point_at m n))
          → (IsSized by In (point_at m n) → IsFilledBy Positive shifted (point_at m n)) × (IsFilledBy Positive shifted (point_at m n)
          → IsSized by In (point_at m n))
          → (b : Bool) → is_filled Positive (contour_winding shifted (point_at m n)) ≡ b → SizedCells by At m n ⊎ (SizedCells by At m n → ⊥)
      tell places fills true e =
          inl (subst (λ i. SizedCells by At i n) (whole m) (subst (λ j. SizedCells by At (floor m 1) j) (whole_row n) (places.0 (fills.1 e))))
      tell places fills false e =
          inr (λ h. false≢true (sym e ∙ fills.0 (places.1 (subst (λ i. SizedCells by At i (row_of (n +ℤ pos 1) 1)) (sym (whole m))
          (subst (λ j. SizedCells by At m j) (sym (whole_row n)) h)))))

  module _ (shifted : List (List Point)) (grown : FillJust (IsSized (halves side) In) shifted) where
    -- what is grown and shrunk again is what no squares cover, outside
    closed_is_uncovered : (p : RationalPoint) → IsRational p
        → (Closed p → IsCovered side (λ m. In m → ⊥) p → ⊥) × ((IsCovered side (λ m. In m → ⊥) p → ⊥) → Closed p)
    closed_is_uncovered p some =
        let closes = twice_cells (halves side) (opposite (halves side)) p some in
        let covers = covered_by_cells side (λ m. In m → ⊥) (λ i j. At i j → ⊥) (off_by_cells In At cells) p some in (
          λ h k. closed_off_squares side (halves side) (halves_part side some_side) At (column p) (row p) (closes.0 h) (covers.0 k),
          λ off. closes.1
              (closed_where_no_square side (halves side) (halves_part side some_side) At (decides (halves side) shifted grown) (column p) (row p)
              (λ k. off (covers.1 k))),
        )

    pub space_errors : (turns : ℤ) (mask closed : List (List Point)) (shapes : List (List (List Point))) → FillJust In mask → FillJust Closed closed
        → WindWhere turns (λ p. IsFilledBy Positive closed p × (IsFilledBy Positive mask p → ⊥)) (all_contours shapes)
        → WindWhere turns (IsSpaceError side In) (all_contours shapes)
    space_errors turns mask closed shapes is closes =
        wind_alike turns (λ p. IsFilledBy Positive closed p × (IsFilledBy Positive mask p → ⊥)) (IsSpaceError side In) (all_contours shapes)
        (λ p some. let uncovered = closed_is_uncovered p some in
        let fills = is.fills p some in
        let there = closes.fills p some in
        (λ h. (λ k. h.1 (fills.0 k), uncovered.0 (there.1 h.0)), λ h. (there.0 (uncovered.1 h.1), λ k. h.0 (fills.1 k))))

-- ---- what is grown by one distance is near

module _ (distance : ℤ) (some_distance : pos 0 ≤ℤ distance) (fill : FillRule) (inner : List (List Point)) (straight : AreRectilinear inner) where
  even_parts : Parts ((distance +ℤ distance) +ℤ pos 1) (evenly distance)
  even_parts = record { left = some_distance; right = some_distance; bottom = some_distance; top = some_distance; across = refl; up = refl }

  module _ (p : RationalPoint) (some : IsRational p) where
    abbrev at : ℤ → ℤ → RationalPoint
    at m n = record { x = p.x +ℤ (pos p.q *ℤ (m -ℤ column p)); y = p.y +ℤ (pos p.q *ℤ (n -ℤ row p)); q = p.q }

    there : (i m : ℤ) → i +ℤ (m -ℤ i) ≡ m
    there i m = omega (arith, ints)

    is_at : (m n : ℤ) → cells_of fill inner m n → cells_of fill inner (column (at m n)) (row (at m n))
    is_at m n h =
        subst (λ i. cells_of fill inner i (row (at m n))) (sym (floor_moves p.x (m -ℤ column p) p.q some ∙ there (column p) m))
        (subst (cells_of fill inner m) (sym (row_moves p.y (n -ℤ row p) p.q some ∙ there (row p) n)) h)

    positive : pos 0 ≤ℤ pos p.q
    positive = omega (arith, ints)

    not_left : (a i m : ℤ) → (i -ℤ distance) ≤ℤ m → (pos p.q *ℤ (a -ℤ (pos p.q *ℤ distance))) ≤ℤ (pos p.q *ℤ (a +ℤ (pos p.q *ℤ (m -ℤ i))))
    not_left a i m l =
        product_monotone (pos p.q) _ _ positive
        (subst (λ x. (a +ℤ x) ≤ℤ (a +ℤ (pos p.q *ℤ (m -ℤ i)))) (product_of_negation (pos p.q) distance)
        (later a (product_monotone (pos p.q) (neg_ℤ distance) (m -ℤ i) positive (no_less i distance m l))))
      where
        later : (x : ℤ) {y z : ℤ} → y ≤ℤ z → (x +ℤ y) ≤ℤ (x +ℤ z)
        later x l = omega (arith, ints)

        no_less : (i back n : ℤ) → (i -ℤ back) ≤ℤ n → neg_ℤ back ≤ℤ (n -ℤ i)
        no_less i back n l = omega (arith, ints)

    not_right : (a i m : ℤ) → m ≤ℤ (i +ℤ distance) → (pos p.q *ℤ (a +ℤ (pos p.q *ℤ (m -ℤ i)))) ≤ℤ (pos p.q *ℤ (a +ℤ (pos p.q *ℤ distance)))
    not_right a i m l = product_monotone (pos p.q) _ _ positive (later a (product_monotone (pos p.q) (m -ℤ i) distance positive (no_more i distance m l)))
      where
        later : (x : ℤ) {y z : ℤ} → y ≤ℤ z → (x +ℤ y) ≤ℤ (x +ℤ z)
        later x l = omega (arith, ints)

        no_more : (i on n : ℤ) → n ≤ℤ (i +ℤ on) → (n -ℤ i) ≤ℤ on
        no_more i on n l = omega (arith, ints)

    near_of_cells : SizedCells (evenly distance) (cells_of fill inner) (column p) (row p)
        → (m : RationalPoint) × IsRational m × IsNear distance p m × IsFilledBy fill inner m
    near_of_cells is =
        let h = some_cell ((distance +ℤ distance) +ℤ pos 1) (evenly distance) even_parts (cells_of fill inner) (column p) (row p) is in (
          at h.m h.n,
          some,
          record {
            left = not_left p.x (column p) h.m h.from;
            right = not_right p.x (column p) h.m h.to;
            bottom = not_left p.y (row p) h.n h.low;
            top = not_right p.y (row p) h.n h.high;
          },
          (mask_by_cells fill inner straight (at h.m h.n) some).1 (is_at h.m h.n h.is),
        )

    cells_of_near : (m : RationalPoint) → IsRational m → IsNear distance p m → IsFilledBy fill inner m
        → SizedCells (evenly distance) (cells_of fill inner) (column p) (row p)
    cells_of_near m rational near h =
        of_some_cell ((distance +ℤ distance) +ℤ pos 1) (evenly distance) even_parts (cells_of fill inner) (column p) (row p) (column m) (row m)
        (subst (λ n. n ≤ℤ column m) (moves_back floor floor_rises floor_moves p.x distance p.q some)
        (floor_rises (p.x -ℤ (pos p.q *ℤ distance)) p.q m.x m.q some rational near.left))
        (subst (λ n. column m ≤ℤ n) (floor_moves p.x distance p.q some) (floor_rises m.x m.q (p.x +ℤ (pos p.q *ℤ distance)) p.q rational some near.right))
        (subst (λ n. n ≤ℤ row m) (moves_back row_of row_rises row_moves p.y distance p.q some)
        (row_rises (p.y -ℤ (pos p.q *ℤ distance)) p.q m.y m.q some rational near.bottom))
        (subst (λ n. row m ≤ℤ n) (row_moves p.y distance p.q some) (row_rises m.y m.q (p.y +ℤ (pos p.q *ℤ distance)) p.q rational some near.top))
        ((mask_by_cells fill inner straight m rational).0 h)

pub grown_is_near : GrownIsNear
grown_is_near distance fill contours p some_distance straight some =
    let cells = sized_by_cells (IsFilledBy fill contours) (cells_of fill contours) (mask_by_cells fill contours straight) (evenly distance) p some in (
      λ h. near_of_cells distance some_distance fill contours straight p some (cells.0 h),
      λ h. cells.1 (cells_of_near distance some_distance fill contours straight p some h.0 h.1 h.2 h.3),
    )

-- A sized region by columns and rows: a window at a point reaches over the places round its own that the window's amounts say.
use Rattle.std.proofs.Common.{◌≡◌, ℕ, ◌<◌, ℤ, pos, neg_ℤ, ◌+ℤ◌, ◌-ℤ◌, ◌*ℤ◌, ◌≤ℤ◌, ◌<ℤ◌, refl, sym, ap, ◌∙◌, subst, arith}
use Rattle.std.proofs.lemmas.Int.{ints}
use Rattle.plane_base.specs.Plane.{RationalPoint, IsRational}
use Rattle.polygon_overlay.specs.Sizing.{Amounts, LiesInRow, IsSizedAcross, exchanged, IsSized}
use Rattle.polygon_overlay.proofs.Checked.Cells.{column, row}
use Rattle.plane_base.proofs.Facts.Numbers.Products.{product_of_negation, product_monotone}
use Rattle.polygon_overlay.proofs.Checked.Places.{both_ways, floor, floor_moves, floor_rises, row_of, row_moves, row_rises}

-- The same of places: some of the window has it, or each.
pub record SizedPlaces (left right : ℤ) (At : ℤ → Type 0) (n : ℤ) : Type 0 where
  pub grown : pos 0 ≤ℤ (left +ℤ right) → (m : ℤ) × ((n -ℤ right) ≤ℤ m) × (m ≤ℤ (n +ℤ left)) × At m
  pub shrunk : (left +ℤ right) <ℤ pos 0 → (m : ℤ) → (n -ℤ neg_ℤ left) ≤ℤ m → m ≤ℤ (n +ℤ neg_ℤ right) → At m

abbrev pub SizedCells : Amounts → (ℤ → ℤ → Type 0) → ℤ → ℤ → Type 0
SizedCells by At i j = SizedPlaces by.bottom by.top (λ h. SizedPlaces by.left by.right (λ k. At k h) i) j

-- The one holds of a point just where the other holds of its column and row.
abbrev pub IsByCells : (RationalPoint → Type 0) → (ℤ → ℤ → Type 0) → Type 0
IsByCells In At = (m : RationalPoint) → IsRational m → (In m → At (column m) (row m)) × (At (column m) (row m) → In m)

-- ---- along one coordinate, by its places

module _ (index : ℤ → ℕ → ℤ)
    (rises : (a : ℤ) (q : ℕ) (b : ℤ) (s : ℕ) → 0 < q → 0 < s → (pos s *ℤ a) ≤ℤ (pos q *ℤ b) → index a q ≤ℤ index b s)
    (moves : (a k : ℤ) (q : ℕ) → 0 < q → index (a +ℤ (pos q *ℤ k)) q ≡ index a q +ℤ k) where
  pub moves_back : (a k : ℤ) (q : ℕ) → 0 < q → index (a -ℤ (pos q *ℤ k)) q ≡ index a q -ℤ k
  moves_back a k q h = ap (λ x. index (a +ℤ x) q) (sym (product_of_negation (pos q) k)) ∙ moves a (neg_ℤ k) q h

  from_place : (back on : ℤ) (p m : RationalPoint) → IsRational p → LiesInRow back on p m → (index p.x p.q -ℤ back) ≤ℤ index m.x m.q
  from_place back on p m some lies =
      subst (λ n. n ≤ℤ index m.x m.q) (moves_back p.x back p.q some) (rises (p.x -ℤ (pos p.q *ℤ back)) p.q m.x m.q some lies.rational lies.from)

  to_place : (back on : ℤ) (p m : RationalPoint) → IsRational p → LiesInRow back on p m → index m.x m.q ≤ℤ (index p.x p.q +ℤ on)
  to_place back on p m some lies =
      subst (λ n. index m.x m.q ≤ℤ n) (moves p.x on p.q some) (rises m.x m.q (p.x +ℤ (pos p.q *ℤ on)) p.q lies.rational some lies.to)

  -- the point of p's row at another place
  abbrev at_place : RationalPoint → ℤ → RationalPoint
  at_place p n = record { x = p.x +ℤ (pos p.q *ℤ (n -ℤ index p.x p.q)); y = p.y; q = p.q }

  stands_at : (p : RationalPoint) (n : ℤ) → IsRational p → index (at_place p n).x p.q ≡ n
  stands_at p n some = moves p.x (n -ℤ index p.x p.q) p.q some ∙ there n (index p.x p.q)
    where
      there : (n i : ℤ) → i +ℤ (n -ℤ i) ≡ n
      there n i = omega (arith, ints)

  lies_in_row : (back on : ℤ) (p : RationalPoint) (n : ℤ) → IsRational p → (index p.x p.q -ℤ back) ≤ℤ n → n ≤ℤ (index p.x p.q +ℤ on)
      → LiesInRow back on p (at_place p n)
  lies_in_row back on p n some from to = record {
    rational = some;
    row = refl;
    from = product_monotone (pos p.q) _ _ positive (subst (λ x. (p.x +ℤ x) ≤ℤ (p.x +ℤ (pos p.q *ℤ way))) (product_of_negation (pos p.q) back) (later p.x (product_monotone (pos p.q) (neg_ℤ back) way positive (no_less (index p.x p.q) back n from))));
    to = product_monotone (pos p.q) _ _ positive (later p.x (product_monotone (pos p.q) way on positive (no_more (index p.x p.q) on n to)));
  }
    where
      way : ℤ
      way = n -ℤ index p.x p.q

      positive : pos 0 ≤ℤ pos p.q
      positive = omega (arith, ints)

      later : (x : ℤ) {y z : ℤ} → y ≤ℤ z → (x +ℤ y) ≤ℤ (x +ℤ z)
      later x l = omega (arith, ints)

      no_less : (i back n : ℤ) → (i -ℤ back) ≤ℤ n → neg_ℤ back ≤ℤ (n -ℤ i)
      no_less i back n l = omega (arith, ints)

      no_more : (i on n : ℤ) → n ≤ℤ (i +ℤ on) → (n -ℤ i) ≤ℤ on
      no_more i on n l = omega (arith, ints)

  module _ (left right : ℤ) (p : RationalPoint) (some : IsRational p) (In : RationalPoint → Type 0) (At : ℤ → Type 0)
      (tells : (m : RationalPoint) → IsRational m → pos p.q *ℤ m.y ≡ pos m.q *ℤ p.y → (In m → At (index m.x m.q)) × (At (index m.x m.q) → In m)) where
    to_places : IsSizedAcross left right In p → SizedPlaces left right At (index p.x p.q)
    to_places is = record {
      grown = λ l. let h = is.grown l in
          (index h.0.x h.0.q, from_place right left p h.0 some h.1, to_place right left p h.0 some h.1, (tells h.0 h.1.rational h.1.row).0 h.2);
      shrunk = λ l n from to. let m : RationalPoint = at_place p n in
          subst At (stands_at p n some)
          ((tells m some refl).0 (is.shrunk l m (lies_in_row (neg_ℤ left) (neg_ℤ right) p n some from to)));
    }

    of_places : SizedPlaces left right At (index p.x p.q) → IsSizedAcross left right In p
    of_places is = record {
      grown = λ l. let h = is.grown l in let m : RationalPoint = at_place p h.0 in
          (m, lies_in_row right left p h.0 some h.1 h.2, (tells m some refl).1 (subst At (sym (stands_at p h.0 some)) h.3));
      shrunk = λ l m lies.
          (tells m lies.rational lies.row).1 (is.shrunk l (index m.x m.q) (from_place (neg_ℤ left) (neg_ℤ right) p m some lies) (to_place (neg_ℤ left) (neg_ℤ right) p m some lies));
    }

  -- fractions that are equal have one place
  same_place : (a : ℤ) (q : ℕ) (b : ℤ) (s : ℕ) → 0 < q → 0 < s → pos s *ℤ a ≡ pos q *ℤ b → index a q ≡ index b s
  same_place a q b s h k e = both_ways (index a q) (index b s) (rises a q b s h k (up_to _ _ e)) (rises b s a q k h (up_to _ _ (sym e)))
    where
      up_to : (x y : ℤ) → x ≡ y → x ≤ℤ y
      up_to x y e = omega (arith, ints)

-- ---- in x, and then in y

module _ (In : RationalPoint → Type 0) (At : ℤ → ℤ → Type 0) (tells : IsByCells In At) where
  -- in a row
  in_row : (p : RationalPoint) (m : RationalPoint) → IsRational p → IsRational m → pos p.q *ℤ m.y ≡ pos m.q *ℤ p.y
      → (In m → At (column m) (row p)) × (At (column m) (row p) → In m)
  in_row p m some rational e =
      let same : row m ≡ row p = same_place row_of row_rises row_moves m.y m.q p.y p.q rational some e in
      (λ h. subst (At (column m)) same ((tells m rational).0 h), λ h. (tells m rational).1 (subst (At (column m)) (sym same) h))

  across : (left right : ℤ) → IsByCells (IsSizedAcross left right In) (λ i j. SizedPlaces left right (λ k. At k j) i)
  across left right p some = (
    to_places floor floor_rises floor_moves left right p some In (λ k. At k (row p)) (λ m. in_row p m some),
    of_places floor floor_rises floor_moves left right p some In (λ k. At k (row p)) (λ m. in_row p m some),
  )

  pub sized_by_cells : (by : Amounts) → IsByCells (IsSized by In) (SizedCells by At)
  sized_by_cells by p some = (
    to_places row_of row_rises row_moves by.bottom by.top (exchanged p) some (λ m. IsSizedAcross by.left by.right In (exchanged m)) (λ h. SizedPlaces by.left by.right (λ k. At k h) (column p)) in_column,
    of_places row_of row_rises row_moves by.bottom by.top (exchanged p) some (λ m. IsSizedAcross by.left by.right In (exchanged m)) (λ h. SizedPlaces by.left by.right (λ k. At k h) (column p)) in_column,
  )
    where
      in_column : (m : RationalPoint) → IsRational m → pos p.q *ℤ m.y ≡ pos m.q *ℤ p.x
          → (IsSizedAcross by.left by.right In (exchanged m) → SizedPlaces by.left by.right (λ k. At k (row_of m.x m.q)) (column p))
          × (SizedPlaces by.left by.right (λ k. At k (row_of m.x m.q)) (column p) → IsSizedAcross by.left by.right In (exchanged m))
      in_column m rational e =
          let same : floor m.y m.q ≡ column p = same_place floor floor_rises floor_moves m.y m.q p.x p.q rational some e in
          let tell = across by.left by.right (exchanged m) rational in (
            λ h. subst (SizedPlaces by.left by.right (λ k. At k (row_of m.x m.q))) same (tell.0 h),
            λ h. tell.1 (subst (SizedPlaces by.left by.right (λ k. At k (row_of m.x m.q))) (sym same) h),
          )

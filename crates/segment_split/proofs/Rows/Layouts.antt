-- How many rows there are, and who shares a column of x.
use Rattle.std.specs.Prelude.{◌≡◌, ◌⊎◌, ℕ, ◌++◌, ◌+◌, ◌-◌, ◌/◌, ◌^◌, ◌<◌, ◌≤◌, ℤ, pos, negsuc, ◌≤ℤ◌, ◌<ℤ◌, Bool, true, false, cond, int_lt, unsigned_abs, List, [], ◌∷◌, map, fold, All, Contains}
use Rattle.std.specs.Int.{int_min, int_max, int_gap}
use Rattle.std.proofs.Common.{refl, sym, ap, ◌∙◌, subst, inl, inr, arith}
use Rattle.std.proofs.lemmas.Int.{ints, fold-int_min_reached}
use Rattle.std.proofs.lemmas.Bool.{cases_Bool}
use Rattle.std.proofs.lemmas.List.Elements.{All-nil, All-head, All-tail, All-map, All-contains, All-weaker}
use Rattle.i_tree.specs.Layout.{offset_of}
use Rattle.plane_base.specs.Plane.{Edge}
use Rattle.plane_base.specs.Counts.{Entry}
use Rattle.plane_base.specs.Segments.{IsEdgeWithin}
use Rattle.segment_split.specs.Passes.{edges_of}
use Rattle.plane_base.proofs.Facts.Crossings.Place.{min_first, max_first}
use Rattle.segment_split.specs.Rows.{row_of, HasFewRows}
use Rattle.segment_split.specs.StepBounds.{y_range, all_values}
use Rattle.segment_split.proofs.Passes.Columns.{LiesAmong, all_among, quotient_rises}
use Rattle.segment_split.proofs.Rows.Laws.{gap_above}

through : (x y z : ℤ) → x ≤ℤ y → y ≤ℤ z → x ≤ℤ z
through x y z a b = omega (arith, ints)

pub min_to_max : (x y : ℤ) → int_min x y ≤ℤ int_max x y
min_to_max x y = through (int_min x y) x (int_max x y) (min_first x y) (max_first x y)

-- ---- what is measured

first_least : (top y : ℤ) (ys : List ℤ) → y <ℤ top → fold int_min top (y ∷ ys) ≡ fold int_min y ys
first_least top y ys l = let less : int_lt y top ≡ true = grind (arith, ints) in ap (λ b. fold int_min (cond b y top) ys) less

first_greatest : (top y : ℤ) (ys : List ℤ) → top <ℤ y → fold int_max top (y ∷ ys) ≡ fold int_max y ys
first_greatest top y ys l = by (int_max top y) (is top y l)
  where
    is : (a b : ℤ) → a <ℤ b → int_max a b ≡ b
    is a b h = let no : int_lt b a ≡ false = grind (arith, ints) in ap (λ c. cond c a b) no

    by : (z : ℤ) → z ≡ y → fold int_max z ys ≡ fold int_max y ys
    by z e = ap (λ a. fold int_max a ys) e

-- one key more
pub measured : {C : Type 0} (m : ℤ → ℤ → ℤ) (f : Edge → ℤ) (top : ℤ) (es : List (Entry C)) (e : Entry C) → fold m top (map f (edges_of (es ++ e ∷ []))) ≡ m (fold m top (map f (edges_of es))) (f e.edge)
measured m f top [] e = refl
measured m f top (x ∷ es) e = measured m f (m top (f x.edge)) es e

-- the keys lie in the range, from the bottom up
abbrev pub InRange : ℤ → Edge → Type 0
InRange bottom s = (bottom ≤ℤ (y_range s).least) × ((y_range s).least <ℤ pos 9223372036854775807) × (negsuc 9223372036854775807 <ℤ (y_range s).greatest)

-- where there are keys, the least and the greatest are theirs
pub least_measured : (s : Edge) (es : List Edge) → (y_range s).least <ℤ pos 9223372036854775807
    → fold int_min (pos 9223372036854775807) (map (λ t. (y_range t).least) (s ∷ es)) ≡ (all_values y_range (s ∷ es)).least
least_measured s es l = first_least (pos 9223372036854775807) (y_range s).least (map (λ t. (y_range t).least) es) l

pub greatest_measured : (s : Edge) (es : List Edge) → negsuc 9223372036854775807 <ℤ (y_range s).greatest
    → fold int_max (negsuc 9223372036854775807) (map (λ t. (y_range t).greatest) (s ∷ es)) ≡ (all_values y_range (s ∷ es)).greatest
greatest_measured s es l = first_greatest (negsuc 9223372036854775807) (y_range s).greatest (map (λ t. (y_range t).greatest) es) l

-- the least is one of them
least_holds : (bottom : ℤ) (s : Edge) (es : List Edge) → All (λ t. bottom ≤ℤ (y_range t).least) (s ∷ es) → bottom ≤ℤ (all_values y_range (s ∷ es)).least
least_holds bottom s es h = by (fold-int_min_reached (y_range s).least (map (λ t. (y_range t).least) es) (all_values y_range (s ∷ es)).least refl)
  where
    values : ℤ
    values = (all_values y_range (s ∷ es)).least

    later : All (λ y. bottom ≤ℤ y) (map (λ t. (y_range t).least) es)
    later = All-map (λ y. bottom ≤ℤ y) (λ t. (y_range t).least) es (All-tail (λ t. bottom ≤ℤ (y_range t).least) s es h)

    by : ((all_values y_range (s ∷ es)).least ≡ (y_range s).least) ⊎ Contains (map (λ t. (y_range t).least) es) (all_values y_range (s ∷ es)).least → bottom ≤ℤ (all_values y_range (s ∷ es)).least
    by (inl e) = subst (λ y. bottom ≤ℤ y) (sym e) (All-head (λ t. bottom ≤ℤ (y_range t).least) s es h)
    by (inr c) = All-contains (λ y. bottom ≤ℤ y) (map (λ t. (y_range t).least) es) (all_values y_range (s ∷ es)).least later c

kept_above : (bottom y : ℤ) → bottom ≤ℤ y → int_max y bottom ≡ y
kept_above bottom y h = by (cases_Bool (int_lt bottom y))
  where
    level : int_lt bottom y ≡ false → bottom ≡ y
    level down = omega (arith, ints)

    by : (int_lt bottom y ≡ true) ⊎ (int_lt bottom y ≡ false) → int_max y bottom ≡ y
    by (inl up) = ap (λ c. cond c y bottom) up
    by (inr down) = ap (λ c. cond c y bottom) down ∙ level down

-- a y up to the greatest has its row among the first ones, if the greatest has
row_below : (least greatest y : ℤ) (width : ℕ) → 0 < width → least ≤ℤ y → y ≤ℤ greatest → offset_of least greatest / width < 2 ^ 31 → row_of least width y < 2 ^ 31
row_below least greatest y width some h k few =
    let gap : offset_of least y ≡ int_gap least y = ap unsigned_abs (sym (gap_above least y h)) in
    let shorter : int_gap least y ≤ offset_of least greatest = omega (arith, gap, nearer least greatest y h k) in
    let rises = quotient_rises width (int_gap least y) (offset_of least greatest) some shorter in
    omega (arith, rises, few)
  where
    nearer : (least greatest y : ℤ) → least ≤ℤ y → y ≤ℤ greatest → offset_of least y ≤ offset_of least greatest
    nearer least greatest y h k = omega (arith, ints)

pub few_rows : (bottom : ℤ) (es : List Edge) (first last least : ℤ) (width : ℕ) → All (InRange bottom) es
    → first ≡ fold int_min (pos 9223372036854775807) (map (λ t. (y_range t).least) es) → last ≡ fold int_max (negsuc 9223372036854775807) (map (λ t. (y_range t).greatest) es)
    → least ≡ int_max first bottom → 0 < width → offset_of first last / width < 2 ^ 31 → All (HasFewRows least width) es
few_rows bottom [] first last least width all e f is some few = All-nil (HasFewRows least width)
few_rows bottom (s ∷ es) first last least width all e f is some few =
    let own = All-head (InRange bottom) s es all in
    let values = all_values y_range (s ∷ es) in
    let low : first ≡ values.least = e ∙ least_measured s es own.1 in
    let high : last ≡ values.greatest = f ∙ greatest_measured s es own.2 in
    let holds = least_holds bottom s es (All-weaker (InRange bottom) (λ t. bottom ≤ℤ (y_range t).least) (λ t h. h.0) (s ∷ es) all) in
    let from : least ≡ values.least = is ∙ (ap (λ y. int_max y bottom) low ∙ kept_above bottom values.least holds) in
    let most : offset_of values.least values.greatest / width < 2 ^ 31 = subst (λ y. offset_of values.least y / width < 2 ^ 31) high (subst (λ y. offset_of y last / width < 2 ^ 31) low few) in
    subst (λ y. All (HasFewRows y width) (s ∷ es)) (sym from)
    (All-weaker (λ t. LiesAmong values (y_range t)) (HasFewRows values.least width) (λ t among. (
      row_below values.least values.greatest (y_range t).least width some among.from (through (y_range t).least (y_range t).greatest values.greatest (min_to_max t.a.y t.b.y) among.to) most,
      row_below values.least values.greatest (y_range t).greatest width some (through values.least (y_range t).least (y_range t).greatest among.from (min_to_max t.a.y t.b.y)) among.to most,
    )) (s ∷ es) (all_among y_range (s ∷ es)))

min_above : (m a b : ℤ) → m ≤ℤ a → m ≤ℤ b → m ≤ℤ int_min a b
min_above m a b h k = by (int_lt b a)
  where
    by : (c : Bool) → m ≤ℤ cond c b a
    by true = k
    by false = h

one_in_range : (low high : ℤ) → negsuc 9223372036854775807 <ℤ low → high <ℤ pos 9223372036854775807 → (s : Edge) → IsEdgeWithin low high s → InRange low s
one_in_range low high h k s w = (
  min_above low s.a.y s.b.y w.0.2 w.1.2,
  below_top (int_min s.a.y s.b.y) (through (int_min s.a.y s.b.y) s.a.y high (min_first s.a.y s.b.y) w.0.3),
  above_bottom (int_max s.a.y s.b.y) (through low s.a.y (int_max s.a.y s.b.y) w.0.2 (max_first s.a.y s.b.y)),
)
  where
    below_top : (y : ℤ) → y ≤ℤ high → y <ℤ pos 9223372036854775807
    below_top y l = omega (arith, ints, l, k)

    above_bottom : (y : ℤ) → low ≤ℤ y → negsuc 9223372036854775807 <ℤ y
    above_bottom y l = omega (arith, ints, l, h)

pub all_in_range : {C : Type 0} (low high : ℤ) → negsuc 9223372036854775807 <ℤ low → high <ℤ pos 9223372036854775807 → (es : List (Entry C)) → All (λ e. IsEdgeWithin low high e.edge) es → All (InRange low) (edges_of es)
all_in_range low high h k es all =
    All-map (InRange low) (λ e. e.edge) es (All-weaker (λ e. IsEdgeWithin low high e.edge) (λ e. InRange low e.edge) (λ e w. one_in_range low high h k e.edge w) es all)

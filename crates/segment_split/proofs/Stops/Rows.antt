-- Rows by their heights: the one of a height, if there is one, and the others.
use Rattle.std.proofs.Common.{◌≡◌, ◌≢◌, ℕ, zero, suc, ◌+◌, ◌<◌, ◌⊎◌, inl, inr, Bool, true, false, cond, ◌&&◌, List, [], ◌∷◌, ◌++◌, length, take, drop, set, map, All, AllPairs, ℤ, ◌<ℤ◌, ◌≤ℤ◌, ◌≤◌, ◌-◌, get_or, int_lt, int_eq, subst, refl, sym, ap, ap₂, ◌∙◌, arith}
use Rattle.std.proofs.lemmas.Int.{ints}
use Rattle.std.proofs.lemmas.Bool.{false≢true}
use Rattle.std.proofs.lemmas.Bool.Decides.{Decides-int_eq}
use Rattle.std.proofs.lemmas.List.{map-append, take-append-drop, get_or_default, get_or-drop, get_or-take, get_or-map, length-drop, length-take-le, length-map}
use Rattle.std.proofs.lemmas.List.Elements.{All-nil, All-cons, All-append, All-map, All-head, All-tail, All-weaker}
use Rattle.plane_base.specs.Plane.{Point, Edge}
use Rattle.plane_base.proofs.Facts.Crossings.Tests.{both_true}
use Rattle.plane_base.proofs.Facts.Maps.Normal.{AllPairs-nil, AllPairs-cons, AllPairs-head, AllPairs-tail}
use Rattle.plane_base.proofs.Facts.Thinning.Indexes.{dropped_from}
use Rattle.segment_split.specs.Stops.{LineView, RowView, LinesView, AreRising, at_height, at_line, bare, line_at}

-- the row is at another height
abbrev pub IsApart : ℤ → RowView → Type 0
IsApart y r = int_eq r.y y ≡ false

pub other_height : (x y : ℤ) → x ≢ y → int_eq x y ≡ false
other_height x y h = by (int_eq x y) refl
  where
    by : (b : Bool) → int_eq x y ≡ b → b ≡ false
    by true e = absurd (h ((Decides-int_eq x y).0 e))
    by false e = refl

pub same_height : (x y : ℤ) → x ≡ y → int_eq x y ≡ true
same_height x y e = (Decides-int_eq x y).1 e

below_apart : (x y : ℤ) → x <ℤ y → x ≢ y
below_apart x y h e = omega (arith, ints, h, e)

above_apart : (x y : ℤ) → y <ℤ x → x ≢ y
above_apart x y h e = omega (arith, ints, h, e)

pub lower_apart : (y : ℤ) (rows : List RowView) → All (λ r. r.y <ℤ y) rows → All (IsApart y) rows
lower_apart y rows h = All-weaker (λ r. r.y <ℤ y) (IsApart y) (λ r l. other_height r.y y (below_apart r.y y l)) rows h

pub upper_apart : (y : ℤ) (rows : List RowView) → All (λ r. y <ℤ r.y) rows → All (IsApart y) rows
upper_apart y rows h = All-weaker (λ r. y <ℤ r.y) (IsApart y) (λ r l. other_height r.y y (above_apart r.y y l)) rows h

module _ (y : ℤ) where
  pub height_apart : (f : LineView → LineView) (rows : List RowView) → All (IsApart y) rows → at_height y f rows ≡ rows
  height_apart f [] h = refl
  height_apart f (r ∷ rs) h =
      ap₂ (λ (b : Bool) rest. record { y = r.y; line = cond b (f r.line) r.line } ∷ rest) (All-head (IsApart y) r rs h) (height_apart f rs (All-tail (IsApart y) r rs h))

  pub line_apart : (rows more : List RowView) → All (IsApart y) rows → line_at y (rows ++ more) ≡ line_at y more
  line_apart [] more h = refl
  line_apart (r ∷ rs) more h =
      ap (λ (b : Bool). cond b r.line (line_at y (rs ++ more))) (All-head (IsApart y) r rs h) ∙ line_apart rs more (All-tail (IsApart y) r rs h)

  pub bare_apart : (rows : List RowView) → All (IsApart y) rows → line_at y rows ≡ bare
  bare_apart [] h = refl
  bare_apart (r ∷ rs) h = ap (λ (b : Bool). cond b r.line (line_at y rs)) (All-head (IsApart y) r rs h) ∙ bare_apart rs (All-tail (IsApart y) r rs h)

  module _ (before after : List RowView) (r : RowView) (same : r.y ≡ y) (apart_before : All (IsApart y) before) where
    here : int_eq r.y y ≡ true
    here = same_height r.y y same

    pub height_here : (f : LineView → LineView) → All (IsApart y) after → at_height y f (before ++ r ∷ after) ≡ before ++ record { y = r.y; line = f r.line } ∷ after
    height_here f apart_after =
        map-append (λ (s : RowView). record { y = s.y; line = cond (int_eq s.y y) (f s.line) s.line }) before (r ∷ after)
        ∙ ap₂ (λ front back. front ++ back) (height_apart f before apart_before)
        (ap₂ (λ (b : Bool) rest. record { y = r.y; line = cond b (f r.line) r.line } ∷ rest) here (height_apart f after apart_after))

    pub line_here : line_at y (before ++ r ∷ after) ≡ r.line
    line_here = line_apart before (r ∷ after) apart_before ∙ ap (λ (b : Bool). cond b r.line (line_at y after)) here

-- ---- an element put in its place

pub set_is : {X : Type 0} (xs : List X) (i : ℕ) (x : X) → i < length xs → set xs i x ≡ take i xs ++ x ∷ drop (i + 1) xs
set_is [] i x l = absurd (omega (arith, l))
set_is (y ∷ xs) zero x l = refl
set_is (y ∷ xs) (suc i) x l = ap (λ ys. y ∷ ys) (set_is xs i x (omega (arith, l))) ∙ ap (λ n. y ∷ (take i xs ++ x ∷ drop n (y ∷ xs))) further
  where
    further : suc (i + 1) ≡ suc i + 1
    further = omega arith

-- ---- the heights

pub heights_kept : (y : ℤ) (f : LineView → LineView) (rows : List RowView) → map (λ r. r.y) (at_height y f rows) ≡ map (λ r. r.y) rows
heights_kept y f [] = refl
heights_kept y f (r ∷ rs) = ap (λ ys. r.y ∷ ys) (heights_kept y f rs)

rising_from : (rows others : List RowView) → map (λ r. r.y) others ≡ map (λ r. r.y) rows → AreRising rows → AreRising others
rising_from rows others e h = heights others (subst (λ ys. AllPairs (λ x y. x <ℤ y) ys) (sym e) (told rows h))
  where
    each : (y : ℤ) (rs : List RowView) → All (λ s. y <ℤ s.y) rs → All (λ z. y <ℤ z) (map (λ r. r.y) rs)
    each y rs h = All-map (λ z. y <ℤ z) (λ r. r.y) rs h

    told : (rs : List RowView) → AreRising rs → AllPairs (λ x y. x <ℤ y) (map (λ r. r.y) rs)
    told [] h = AllPairs-nil (λ x y. x <ℤ y)
    told (r ∷ rs) h = AllPairs-cons (λ x y. x <ℤ y) r.y (map (λ r. r.y) rs) (each r.y rs (AllPairs-head (λ r s. r.y <ℤ s.y) r rs h)) (told rs (AllPairs-tail (λ r s. r.y <ℤ s.y) r rs h))

    unmapped : (y : ℤ) (rs : List RowView) → All (λ z. y <ℤ z) (map (λ r. r.y) rs) → All (λ s. y <ℤ s.y) rs
    unmapped y [] h = All-nil (λ s. y <ℤ s.y)
    unmapped y (r ∷ rs) h = All-cons (λ s. y <ℤ s.y) r rs (All-head (λ z. y <ℤ z) r.y (map (λ r. r.y) rs) h) (unmapped y rs (All-tail (λ z. y <ℤ z) r.y (map (λ r. r.y) rs) h))

    heights : (rs : List RowView) → AllPairs (λ x y. x <ℤ y) (map (λ r. r.y) rs) → AreRising rs
    heights [] h = AllPairs-nil (λ r s. r.y <ℤ s.y)
    heights (r ∷ rs) h = AllPairs-cons (λ r s. r.y <ℤ s.y) r rs (unmapped r.y rs (AllPairs-head (λ x y. x <ℤ y) r.y (map (λ r. r.y) rs) h)) (heights rs (AllPairs-tail (λ x y. x <ℤ y) r.y (map (λ r. r.y) rs) h))

pub rising_kept : (y : ℤ) (f : LineView → LineView) (rows : List RowView) → AreRising rows → AreRising (at_height y f rows)
rising_kept y f rows h = rising_from rows (at_height y f rows) (heights_kept y f rows) h

pub rising_line : (s : Edge) (f : LineView → LineView) (lines : LinesView) → AreRising lines.rows → AreRising (at_line s f lines).rows
rising_line s f lines h = by (int_eq s.a.x s.b.x)
  where
    by : (b : Bool) → AreRising (cond b lines.rows (at_height s.a.y f lines.rows))
    by true = h
    by false = rising_kept s.a.y f lines.rows h

pub rising_behind : (before after : List RowView) (r : RowView) → AreRising (before ++ r ∷ after) → All (λ s. r.y <ℤ s.y) after
rising_behind [] after r h = AllPairs-head (λ r s. r.y <ℤ s.y) r after h
rising_behind (q ∷ before) after r h = rising_behind before after r (AllPairs-tail (λ r s. r.y <ℤ s.y) q (before ++ r ∷ after) h)

-- ---- a row of a list by its place

module _ {R : Type 0} (view : R → RowView) (rows : List R) (place : ℕ) (y : ℤ) (rising : AreRising (map view rows)) (below : All (λ r. r.y <ℤ y) (map view (take place rows))) where
  module _ (r : R) (within : place < length rows) (is : r ≡ get_or rows place r) (height : (view r).y ≡ y) where
    parts : map view rows ≡ map view (take place rows) ++ view r ∷ map view (drop (place + 1) rows)
    parts =
        ap (map view) (sym (take-append-drop place rows) ∙ ap (λ l. take place rows ++ l) (dropped_from rows place (place + 1) r refl (omega (arith, within)) is))
        ∙ map-append view (take place rows) (r ∷ drop (place + 1) rows)

    apart_after : All (IsApart y) (map view (drop (place + 1) rows))
    apart_after =
        subst (λ z. All (IsApart z) (map view (drop (place + 1) rows))) height
        (upper_apart (view r).y (map view (drop (place + 1) rows)) (rising_behind (map view (take place rows)) (map view (drop (place + 1) rows)) (view r) (subst AreRising parts rising)))

    pub put_at : (f : LineView → LineView) (next : R) → view next ≡ record { y = (view r).y; line = f (view r).line } → map view (set rows place next) ≡ at_height y f (map view rows)
    put_at f next e =
        ap (map view) (set_is rows place next within)
        ∙ (map-append view (take place rows) (next ∷ drop (place + 1) rows)
        ∙ (ap (λ z. map view (take place rows) ++ z ∷ map view (drop (place + 1) rows)) e
        ∙ (sym (height_here y (map view (take place rows)) (map view (drop (place + 1) rows)) (view r) height (lower_apart y (map view (take place rows)) below) f apart_after)
        ∙ ap (at_height y f) (sym parts))))

    pub line_there : line_at y (map view rows) ≡ (view r).line
    line_there = ap (line_at y) parts ∙ line_here y (map view (take place rows)) (map view (drop (place + 1) rows)) (view r) height (lower_apart y (map view (take place rows)) below)

  -- the height of none is y
  module _ (others : All (λ r. y ≤ℤ r.y) (map view (drop place rows))) (other : place < length rows → (d : R) → (view (get_or rows place d)).y ≢ y) where
    halves : map view rows ≡ map view (take place rows) ++ map view (drop place rows)
    halves = ap (map view) (sym (take-append-drop place rows)) ∙ map-append view (take place rows) (drop place rows)

    pub strictly_above : All (λ r. y <ℤ r.y) (map view (drop place rows))
    strictly_above = by (drop place rows) refl
      where
        not_less : (x z : ℤ) → z ≤ℤ x → x ≢ z → z <ℤ x
        not_less x z l n = by_test (int_lt z x) refl
          where
            by_test : (b : Bool) → int_lt z x ≡ b → z <ℤ x
            by_test true e = omega (arith, ints, e)
            by_test false e = absurd (n (omega (arith, ints, l, e)))

        by : (left : List R) → drop place rows ≡ left → All (λ r. y <ℤ r.y) (map view left)
        by [] e = All-nil (λ r. y <ℤ r.y)
        by (r ∷ rest) e =
            let within : place < length rows = omega (arith, ap length e, length-drop place rows) in
            let zero_on : place + 0 ≡ place = omega arith in
            let here : r ≡ get_or rows place r = ap (λ l. get_or l 0 r) (sym e) ∙ (get_or-drop place rows 0 r ∙ ap (λ n. get_or rows n r) zero_on) in
            let at_least : y ≤ℤ (view r).y = All-head (λ r. y ≤ℤ r.y) (view r) (map view rest) (subst (λ l. All (λ r. y ≤ℤ r.y) (map view l)) e others) in
            let more : y <ℤ (view r).y = not_less (view r).y y at_least (λ f. other within r (ap (λ s. (view s).y) (sym here) ∙ f)) in
            let behind : All (λ s. (view r).y <ℤ s.y) (map view rest) = rising_behind (map view (take place rows)) (map view rest) (view r) (subst AreRising (halves ∙ ap (λ l. map view (take place rows) ++ map view l) e) rising) in
            All-cons (λ r. y <ℤ r.y) (view r) (map view rest) more (All-weaker (λ s. (view r).y <ℤ s.y) (λ s. y <ℤ s.y) (λ s l. chain y (view r).y s.y more l) (map view rest) behind)
          where
            chain : (a b c : ℤ) → a <ℤ b → b <ℤ c → a <ℤ c
            chain a b c k l = omega (arith, ints, k, l)

    pub none_there : All (IsApart y) (map view rows)
    none_there =
        subst (All (IsApart y)) (sym halves)
        (All-append (IsApart y) (map view (take place rows)) (map view (drop place rows)) (lower_apart y (map view (take place rows)) below) (upper_apart y (map view (drop place rows)) strictly_above))

-- ---- the rows below a height

pub lt_or_ge : (a b : ℕ) → (a < b) ⊎ (b ≤ a)
lt_or_ge a zero = inr (omega arith)
lt_or_ge zero (suc b) = inl (omega arith)
lt_or_ge (suc a) (suc b) = by (lt_or_ge a b)
  where
    by : (a < b) ⊎ (b ≤ a) → (suc a < suc b) ⊎ (suc b ≤ suc a)
    by (inl h) = inl (omega (arith, h))
    by (inr h) = inr (omega (arith, h))

module _ {R : Type 0} (height : R → ℤ) (rows : List R) (y : ℤ) where
  pub parted_by_height : AllPairs (λ r s. height r <ℤ height s) rows → (i j : ℕ) (d : R) → i ≤ j → j < length rows → int_lt (height (get_or rows j d)) y ≡ true → int_lt (height (get_or rows i d)) y ≡ true
  parted_by_height rising i j d l m e = by (lt_or_ge i j)
    where
      further : (a b : ℤ) → a <ℤ b → int_lt b y ≡ true → int_lt a y ≡ true
      further a b n e = grind (arith, ints, n, e)

      by : (i < j) ⊎ (j ≤ i) → int_lt (height (get_or rows i d)) y ≡ true
      by (inl n) = further (height (get_or rows i d)) (height (get_or rows j d)) (rising i j d n m) e
      by (inr n) = let same : j ≡ i = omega (arith, l, n) in subst (λ k. int_lt (height (get_or rows k d)) y ≡ true) same e

  pub taken_below : (n : ℕ) → n ≤ length rows → ((k : ℕ) (d : R) → k < length rows → k < n → int_lt (height (get_or rows k d)) y ≡ true) → All (λ r. height r <ℤ y) (take n rows)
  taken_below n within h k d l =
      let short : k < n = omega (arith, l, length-take-le n rows within) in
      subst (λ r. height r <ℤ y) (sym (get_or-take n rows k d short)) (tells (height (get_or rows k d)) (h k d (omega (arith, short, within)) short))
    where
      tells : (x : ℤ) → int_lt x y ≡ true → x <ℤ y
      tells x e = omega (arith, ints, e)

  pub dropped_above : (n : ℕ) → n ≤ length rows → ((k : ℕ) (d : R) → n ≤ k → k < length rows → int_lt (height (get_or rows k d)) y ≡ false) → All (λ r. y ≤ℤ height r) (drop n rows)
  dropped_above n within h k d l =
      subst (λ r. y ≤ℤ height r) (sym (get_or-drop n rows k d)) (tells (height (get_or rows (n + k) d)) (h (n + k) d (omega arith) (omega (arith, l, length-drop n rows, within))))
    where
      tells : (x : ℤ) → int_lt x y ≡ false → y ≤ℤ x
      tells x e = omega (arith, ints, e)

  -- the rows before a place are below y where the last of them is
  pub all_below : AllPairs (λ r s. height r <ℤ height s) rows → (n : ℕ) (r : R) → 0 < n → n ≤ length rows → r ≡ get_or rows (n - 1) r → int_lt (height r) y ≡ true → All (λ r. height r <ℤ y) (take n rows)
  all_below rising n r some within at low =
      let inside : n - 1 < length rows = omega (arith, some, within) in
      taken_below n within (λ k d l m. parted_by_height rising k (n - 1) d (omega (arith, m)) inside (ap (λ x. int_lt (height x) y) (get_or_default rows (n - 1) d r inside ∙ sym at) ∙ low))

  -- no row from a place on is below y where the first of them isn't
  pub none_below : AllPairs (λ r s. height r <ℤ height s) rows → (n : ℕ) (r : R) → n < length rows → r ≡ get_or rows n r → int_lt (height r) y ≡ false → All (λ r. y ≤ℤ height r) (drop n rows)
  none_below rising n r within at high = dropped_above n (omega (arith, within)) (λ k d l m. by k d l m (int_lt (height (get_or rows k d)) y) refl)
    where
      by : (k : ℕ) (d : R) → n ≤ k → k < length rows → (b : Bool) → int_lt (height (get_or rows k d)) y ≡ b → int_lt (height (get_or rows k d)) y ≡ false
      by k d l m true e =
          absurd (false≢true (sym high ∙ (ap (λ x. int_lt (height x) y) (at ∙ get_or_default rows n r d within) ∙ parted_by_height rising n k d l m e)))
      by k d l m false e = e

-- pairs of what is seen are pairs of the rows
pub unmapped_pairs : {X Y : Type 0} (f : X → Y) (P : Y → Y → Type 0) (xs : List X) → AllPairs P (map f xs) → AllPairs (λ x y. P (f x) (f y)) xs
unmapped_pairs f P xs h i j d l m =
    subst (λ z. P z (f (get_or xs j d))) (get_or-map f xs i d (f d) (omega (arith, l, m)))
    (subst (P (get_or (map f xs) i (f d))) (get_or-map f xs j d (f d) m) (h i j (f d) l (omega (arith, m, length-map xs f))))

pub mapped_pairs : {X Y : Type 0} (f : X → Y) (P : Y → Y → Type 0) (xs : List X) → AllPairs (λ x y. P (f x) (f y)) xs → AllPairs P (map f xs)
mapped_pairs f P [] h = AllPairs-nil P
mapped_pairs f P (x ∷ xs) h =
    AllPairs-cons P (f x) (map f xs) (All-map (P (f x)) f xs (AllPairs-head (λ x y. P (f x) (f y)) x xs h)) (mapped_pairs f P xs (AllPairs-tail (λ x y. P (f x) (f y)) x xs h))

-- the last of two equal lists
abbrev last_or : {X : Type 0} → X → List X → X
last_or d [] = d
last_or d (x ∷ xs) = last_or x xs

last_is : {X : Type 0} (d : X) (xs : List X) (x : X) → last_or d (xs ++ x ∷ []) ≡ x
last_is d [] x = refl
last_is d (y ∷ xs) x = last_is y xs x

pub same_last : {X : Type 0} (xs ys : List X) (x y : X) → xs ++ x ∷ [] ≡ ys ++ y ∷ [] → x ≡ y
same_last xs ys x y e = sym (last_is x xs x) ∙ (ap (last_or x) e ∙ last_is x ys y)

-- ---- the line of an edge

pub line_vertical : (s : Edge) (f : LineView → LineView) (lines : LinesView) (column : LineView) → int_eq s.a.x s.b.x ≡ true → column ≡ f lines.column
    → record { rows = lines.rows; column = column } ≡ at_line s f lines
line_vertical s f lines column u e =
    let p = sym (ap (λ (b : Bool). cond b lines.rows (at_height s.a.y f lines.rows)) u) in
    let q = e ∙ sym (ap (λ (b : Bool). cond b (f lines.column) lines.column) u) in
    λ i. record { rows = p i; column = q i }

pub line_horizontal : (s : Edge) (f : LineView → LineView) (lines : LinesView) (rows : List RowView) → int_eq s.a.x s.b.x ≡ false → rows ≡ at_height s.a.y f lines.rows
    → record { rows = rows; column = lines.column } ≡ at_line s f lines
line_horizontal s f lines rows u e =
    let p = e ∙ sym (ap (λ (b : Bool). cond b lines.rows (at_height s.a.y f lines.rows)) u) in
    let q = sym (ap (λ (b : Bool). cond b (f lines.column) lines.column) u) in
    λ i. record { rows = p i; column = q i }

-- ---- points by their coordinates

pub same_point : (p q : Point) → (int_eq p.x q.x && int_eq p.y q.y) ≡ true → p ≡ q
same_point p q e =
    let h = both_true (int_eq p.x q.x) (int_eq p.y q.y) e in
    let x = (Decides-int_eq p.x q.x).0 h.0 in
    let y = (Decides-int_eq p.y q.y).0 h.1 in
    λ i. record { x = x i; y = y i }

pub other_point : (p q : Point) → (int_eq p.x q.x && int_eq p.y q.y) ≡ false → p ≢ q
other_point p q e f = false≢true (sym e ∙ ap₂ (λ (a b : Bool). a && b) (same_height p.x q.x (ap (λ r. r.x) f)) (same_height p.y q.y (ap (λ r. r.y) f)))

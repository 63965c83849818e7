-- The sets of places of the rows on which something runs.
use Rattle.std.proofs.Common.{◌≡◌, ℕ, ◌<◌, ◌≤◌, Bool, true, false, cond, List, [], ◌∷◌, length, map, replicate, set, get_or, All, ℤ, int_eq, refl, sym, ap, ap₂, ◌∙◌, arith}
use Rattle.std.proofs.lemmas.List.{map-set, get_or-map, length-map}
use Rattle.std.proofs.lemmas.List.Elements.{All-head, All-tail}
use Rattle.plane_base.specs.Plane.{Point}
use Rattle.plane_base.specs.Counts.{boolean}
use Rattle.segment_split.specs.PlaceSet.{is_member, IsLastBefore}
use Rattle.segment_split.specs.Stops.{LineView, RowView, at_height, stopped, bare, runs_on, counts_on}
use Rattle.segment_split.specs.Sweeps.{is_met}

-- ---- a stop leaves them

pub runs_stopped : (y : ℤ) (p : Point) (rows : List RowView) → map runs_on (at_height y (stopped p) rows) ≡ map runs_on rows
runs_stopped y p [] = refl
runs_stopped y p (r ∷ rs) = ap₂ (λ b bs. b ∷ bs) (by (int_eq r.y y)) (runs_stopped y p rs)
  where
    by : (b : Bool) → runs_on (record { y = r.y; line = cond b (stopped p r.line) r.line }) ≡ runs_on r
    by true = refl
    by false = refl

pub counts_stopped : (y : ℤ) (p : Point) (rows : List RowView) → map counts_on (at_height y (stopped p) rows) ≡ map counts_on rows
counts_stopped y p [] = refl
counts_stopped y p (r ∷ rs) = ap₂ (λ b bs. b ∷ bs) (by (int_eq r.y y)) (counts_stopped y p rs)
  where
    by : (b : Bool) → counts_on (record { y = r.y; line = cond b (stopped p r.line) r.line }) ≡ counts_on r
    by true = refl
    by false = refl

-- ---- bare rows

pub none_of_bare : (test : RowView → Bool) → ((y : ℤ) → test (record { y = y; line = bare }) ≡ false) → (rows : List RowView) → All (λ r. r.line ≡ bare) rows
    → replicate (length rows) false ≡ map test rows
none_of_bare test none [] h = refl
none_of_bare test none (r ∷ rs) h =
    ap₂ (λ b bs. b ∷ bs) (sym (ap (λ (l : LineView). test (record { y = r.y; line = l })) (All-head (λ r. r.line ≡ bare) r rs h) ∙ none r.y))
    (none_of_bare test none rs (All-tail (λ r. r.line ≡ bare) r rs h))

-- ---- one row is changed

pub set_seen : {R : Type 0} (view : R → RowView) (test : RowView → Bool) (rows : List R) (place : ℕ) (r : R) (members : List Bool) (b : Bool)
    → members ≡ map test (map view rows) → b ≡ test (view r) → set members place b ≡ map test (map view (set rows place r))
set_seen view test rows place r members b is e =
    ap₂ (λ ms c. set ms place c) is e ∙ (sym (map-set test (map view rows) place (view r)) ∙ ap (map test) (sym (map-set view rows place r)))

-- ---- what the sets tell of a row

module _ {R : Type 0} (view : R → RowView) (test : RowView → Bool) (rows : List R) (members : List Bool) (is : members ≡ map test (map view rows)) where
  pub member_is : (k : ℕ) (d : R) → k < length rows → is_member members k ≡ test (view (get_or rows k d))
  member_is k d l =
      ap (λ ms. is_member ms k) is ∙ (get_or-map test (map view rows) k (view d) false (omega (arith, l, length-map rows view)) ∙ ap test (get_or-map view rows k d (view d) l))

-- ---- which rows the column is to meet

pub met_by_counts : (column : LineView) (r : RowView) → boolean.is_empty column.sum ≡ true → is_met column r.line ≡ counts_on r
met_by_counts column r e = ap (λ (b : Bool). cond b (counts_on r) (runs_on r)) e

pub met_by_runs : (column : LineView) (r : RowView) → boolean.is_empty column.sum ≡ false → is_met column r.line ≡ runs_on r
met_by_runs column r e = ap (λ (b : Bool). cond b (counts_on r) (runs_on r)) e

module _ {R : Type 0} (view : R → RowView) (column : LineView) (test : RowView → Bool) (met : (r : RowView) → is_met column r.line ≡ test r)
    (rows : List R) (members : List Bool) (is : members ≡ map test (map view rows)) (before : ℕ) (within : before ≤ length rows) where
  met_is : (k : ℕ) (d : R) → k < before → is_met column (view (get_or rows k d)).line ≡ is_member members k
  met_is k d l = met (view (get_or rows k d)) ∙ sym (member_is view test rows members is k d (omega (arith, l, within)))

  pub met_last : (place : ℕ) → IsLastBefore (is_member members) before place → (d : R) → is_met column (view (get_or rows place d)).line ≡ true
  met_last place h d = met_is place d h.before ∙ h.found

  pub passed_to : (place : ℕ) → IsLastBefore (is_member members) before place → (k : ℕ) (d : R) → place < k → k < before
      → is_met column (view (get_or rows k d)).line ≡ false
  passed_to place h k d l m = met_is k d m ∙ h.between k l m

  pub met_none : (low : ℕ) → ((k : ℕ) → low ≤ k → k < before → is_member members k ≡ false) → (k : ℕ) (d : R) → low ≤ k → k < before → is_met column (view (get_or rows k d)).line ≡ false
  met_none low h k d l m = met_is k d m ∙ h k l m

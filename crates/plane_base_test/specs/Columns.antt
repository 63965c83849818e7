-- Live segments at a column, and which of them is the uppermost below a point. `edge` is the segment of a key.
use Rattle.std.specs.Prelude.{◌≡◌, ◌≢◌, ◌⊎◌, ℤ, pos, ◌+ℤ◌, ◌≤ℤ◌, true, List, [], ◌∷◌, All, Contains, Option, Some}
use Rattle.std.specs.Option.{ForSome}
use Rattle.std.specs.declared.cmp.Ordering.{Ordering}
use Rattle.std.specs.declared.cmp.Ordering.TheVariants.{Less, Equal, Greater}
use Rattle.i_tree.specs.LiveList.{live_at, live_with}
use Rattle.plane_base.specs.Plane.{Point, Edge}
use Rattle.plane_base.specs.Segments.{parted, order_against, column_order}
use Rattle.plane_base.specs.ColumnLaws.{IsLive}

-- Any two different ones are parted, and each spans the column.
pub record AreApart {K V : Type 0} (edge : K → Edge) (x : ℤ) (entries : List (K × V)) : Type 0 where
  pub live : All (λ e. IsLive x (edge e.0)) entries
  pub meets_in_ends : All (λ e. All (λ f. edge e.0 ≢ edge f.0 → parted (edge e.0) (edge f.0) ≡ true) entries) entries

-- So are they with one more segment, which is none of them.
pub record IsNewAndApart {K V : Type 0} (edge : K → Edge) (x : ℤ) (key : K) (entries : List (K × V)) : Type 0 where
  pub apart : AreApart edge x entries
  pub live : IsLive x (edge key)
  pub new : All (λ e. edge e.0 ≢ edge key) entries
  pub parted_from : All (λ e. parted (edge e.0) (edge key) ≡ true) entries

-- the point lies in the column, the line at x + 1 included
abbrev pub IsOverColumn : ℤ → Point → Type 0
IsOverColumn x p = (x ≤ℤ p.x) × (p.x ≤ℤ (x +ℤ pos 1))

-- the value of a segment through the point; where there is none, that of the uppermost below it; where all pass above it, the default
pub data IsUppermostBelow {K V : Type 0} (edge : K → Edge) (p : Point) (default : V) (entries : List (K × V)) (answer : V) : Type 0 where
  through : (k : K) → Contains entries (k, answer) → order_against (edge k) p ≡ Equal → IsUppermostBelow edge p default entries answer
  below :
      (k : K) → Contains entries (k, answer) → order_against (edge k) p ≡ Less → All (λ e. order_against (edge e.0) p ≢ Equal) entries →
      All (λ e. order_against (edge e.0) p ≡ Less → (e ≡ (k, answer)) ⊎ (column_order (edge e.0) (edge k) ≡ Less)) entries →
      IsUppermostBelow edge p default entries answer
  none : All (λ e. order_against (edge e.0) p ≡ Greater) entries → answer ≡ default → IsUppermostBelow edge p default entries answer

-- ---- a sweep: each segment is put in at the column where it starts

-- what lives after these were put in
abbrev pub swept : {K E V : Type 0} → (E → E → Ordering) → (K → E) → (K → K → Ordering) → (K → E) → List (K × V) → List (K × V) → List (K × V)
swept cmp expires order start [] live = live
swept cmp expires order start (e ∷ rest) live = swept cmp expires order start rest (live_with cmp expires order e (start e.0) live)

-- Columns rise from the latest one, and each segment is new and apart where it starts.
abbrev pub CanSweep : {K E V : Type 0} → (E → E → Ordering) → (K → E) → (K → K → Ordering) → (K → E) → (K → Edge) → (E → ℤ) → Option E → List (K × V) →
    List (K × V) → Type 0
CanSweep cmp expires order start edge value latest [] live = Unit {0}
CanSweep cmp expires order start edge value latest (e ∷ rest) live =
    ForSome latest (λ t. cmp (start e.0) t ≢ Less)
    × (IsNewAndApart edge (value (start e.0)) e.0 (live_at cmp expires (start e.0) live)
    × CanSweep cmp expires order start edge value (Some (start e.0)) rest (live_with cmp expires order e (start e.0) live))

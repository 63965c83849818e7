-- What adding edges, a path or contours does to the edges that are held.
use Rattle.std.specs.Prelude.{◌≡◌, ℕ, ◌+◌, ◌^◌, ◌≤◌, ◌<◌, Bool, true, false, List, [], ◌∷◌, ◌++◌, length, flat_map}
use Rattle.std.specs.List.{AllZip}
use Rattle.plane_base.specs.Plane.{Point}
use Rattle.plane_base.specs.Counts.{Counting, Entry, lay}
use Rattle.plane_base.specs.Given.{laid_path, laid}
use Rattle.plane_base.specs.Thinning.{IsThinned}
use Rattle.plane_base.specs.declared.fault.Fault.{Fault}
use Rattle.plane_base.specs.declared.fault.Fault.TheVariants.{Memory, Count, Edges, Failed}

-- So many edges more are refused by `Memory` only where they exceed the capacity, by `Edges` only where 2^31 would be held.
abbrev pub LacksRoom : ℕ → ℕ → ℕ → Fault → Type 0
LacksRoom capacity held more Memory = capacity < held + more
LacksRoom capacity held more Edges = 2 ^ 31 ≤ held + more
LacksRoom capacity held more Count = ⊥
LacksRoom capacity held more Failed = ⊥

-- ---- paths

-- The steps of the path before one are added; that one was refused.
pub record AddsStepsUntil {C : Type 0} (kind : Counting C) (c : C) (points : List Point) (capacity : ℕ) (old new : List (Entry C)) (fault : Fault) :
    Type 0 where
  pub before : List Point
  pub from : Point
  pub to : Point
  pub after : List Point
  pub all : points ≡ before ++ from ∷ to ∷ after
  pub adds : new ≡ old ++ laid_path kind c (before ++ from ∷ [])
  pub reason : LacksRoom capacity (length new) (length (lay kind from to c)) fault

-- ---- contours

-- The contour whose edges are added: the given one with all its points, or thinned.
abbrev pub IsTaken : Bool → List Point → List Point → Type 0
IsTaken true points taken = taken ≡ points
IsTaken false points taken = IsThinned points taken

-- All its edges are added behind those that were held.
abbrev pub Adds : {C : Type 0} → Counting C → C → Bool → List Point → List (Entry C) → List (Entry C) → Type 0
Adds kind c keep_all points old new = (taken : List Point) × IsTaken keep_all points taken × (new ≡ old ++ laid kind c taken)

-- Memory may always be refused, and `Edges` only where 2^31 edges would be held.
abbrev pub IsRefused : {C : Type 0} → Counting C → C → Bool → List Point → List (Entry C) → Fault → Type 0
IsRefused kind c keep_all points old Memory = Unit {0}
IsRefused kind c keep_all points old Edges = (taken : List Point) × IsTaken keep_all points taken × (2 ^ 31 ≤ length old + length (laid kind c taken))
IsRefused kind c keep_all points old Count = ⊥
IsRefused kind c keep_all points old Failed = ⊥

-- ---- several contours

-- The edges of all contours are added, one after the other.
abbrev pub AddsAll : {C : Type 0} → Counting C → C → Bool → List (List Point) → List (Entry C) → List (Entry C) → Type 0
AddsAll kind c keep_all contours old new =
    (taken : List (List Point)) × AllZip (IsTaken keep_all) contours taken × (new ≡ old ++ flat_map (laid kind c) taken)

-- The edges of the contours before one are added; that one was refused, and nothing of it is added.
pub record AddsUntil {C : Type 0} (kind : Counting C) (c : C) (keep_all : Bool) (contours : List (List Point)) (old new : List (Entry C)) (fault : Fault) :
    Type 0 where
  pub before : List (List Point)
  pub refused : List Point
  pub after : List (List Point)
  pub all : contours ≡ before ++ refused ∷ after
  pub adds : AddsAll kind c keep_all before old new
  pub reason : IsRefused kind c keep_all refused new fault

-- Where all points are kept: that contour was refused for the room of its edges.
pub record LacksRoomFor {C : Type 0} (kind : Counting C) (c : C) (contours : List (List Point)) (capacity : ℕ) (old new : List (Entry C)) (fault : Fault) :
    Type 0 where
  pub before : List (List Point)
  pub refused : List Point
  pub after : List (List Point)
  pub all : contours ≡ before ++ refused ∷ after
  pub adds : new ≡ old ++ flat_map (laid kind c) before
  pub reason : LacksRoom capacity (length new) (length (laid kind c refused)) fault

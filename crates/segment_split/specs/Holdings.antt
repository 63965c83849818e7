-- What callers see of a builder: what it holds, whether it has failed, and its room.
use Rattle.std.specs.Prelude.{◌≡◌, ◌≤◌, ℕ, Bool, true, false, List, [], ◌++◌, length, OnOk, OnErr, IfErr}
use Rattle.std.specs.declared.result.Result.{Result}
use Rattle.plane_base.specs.Plane.{Point}
use Rattle.plane_base.specs.Counts.{Counting, Entry, lay}
use Rattle.plane_base.specs.declared.fault.Fault.{Fault}
use Rattle.plane_base.specs.declared.fault.Fault.TheVariants.{Failed}
use Rattle.plane_base.specs.Given.{laid_path, laid}
use Rattle.segment_split.specs.Adding.{LacksRoom, LacksRoomFor, AddsStepsUntil, Adds, IsRefused, AddsAll, AddsUntil}

-- The edges that a builder holds, and whether a query was refused since it was made or cleared.
pub record Holding (C : Type 0) : Type 0 where
  pub edges : List (Entry C)
  pub has_failed : Bool

-- What is seen of a builder: the same; the edges with their data and the store of the data; and how many edges it has room for, those
-- that it holds among them.
pub record HeldEdges (C D S : Type 0) : Type 0 where
  pub edges : List (Entry C)
  pub has_failed : Bool
  pub with_data : List (Entry (C × D))
  pub store : S
  pub room : ℕ

-- whatever the data and the room are
abbrev pub holding : {C D S : Type 0} → HeldEdges C D S → Holding C
holding held = record { edges = held.edges; has_failed = held.has_failed }

-- of a builder that is new or was cleared
abbrev pub nothing : {C : Type 0} → Holding C
nothing = record { edges = []; has_failed = false }

-- after a refused query
abbrev pub failed : {C : Type 0} → Holding C
failed = record { edges = []; has_failed = true }

-- A builder that failed refuses with `Failed`, another for the reason alone.
abbrev pub IsRefusedBy : Bool → (Fault → Type 0) → Fault → Type 0
IsRefusedBy true reason fault = fault ≡ Failed
IsRefusedBy false reason fault = reason fault

-- An edge is taken, none of no length, or a refusal leaves all as it was. Memory is refused only without room for the edge.
pub record TakesEdge {C D S : Type 0} (kind : Counting C) (c : C) (from to : Point) (old new : HeldEdges C D S) (result : Result (Unit {0}) Fault) :
    Type 0 where
  pub added : OnOk result (new.edges ≡ old.edges ++ lay kind from to c)
  pub unchanged : OnErr result (new ≡ old)
  pub refused : IfErr result (IsRefusedBy old.has_failed (LacksRoom old.room (length old.edges) (length (lay kind from to c))))
  pub ready : OnOk result (old.has_failed ≡ false)
  pub stays : new.has_failed ≡ old.has_failed
  pub room : old.room ≤ new.room

-- A contour is taken, or a refusal leaves all as it was. Where all its points are kept, memory is refused only without room for its edges.
pub record TakesContour {C D S : Type 0} (kind : Counting C) (c : C) (keep_all : Bool) (points : List Point) (old new : HeldEdges C D S)
    (result : Result (Unit {0}) Fault) : Type 0 where
  pub added : OnOk result (Adds kind c keep_all points old.edges new.edges)
  pub unchanged : OnErr result (new.edges ≡ old.edges)
  pub refused : IfErr result (IsRefusedBy old.has_failed (IsRefused kind c keep_all points old.edges))
  pub lacks_room : keep_all ≡ true → IfErr result (IsRefusedBy old.has_failed (LacksRoom old.room (length old.edges) (length (laid kind c points))))
  pub ready : OnOk result (old.has_failed ≡ false)
  pub stays : new.has_failed ≡ old.has_failed
  pub room : old.room ≤ new.room

-- All contours are taken, or those before one that was refused, as one contour is. A builder that has failed takes none.
pub record TakesSource {C D S : Type 0} (kind : Counting C) (c : C) (keep_all : Bool) (contours : List (List Point)) (old new : HeldEdges C D S)
    (result : Result (Unit {0}) Fault) : Type 0 where
  pub added : OnOk result (AddsAll kind c keep_all contours old.edges new.edges)
  pub refused : IfErr result (IsRefusedBy old.has_failed (AddsUntil kind c keep_all contours old.edges new.edges))
  pub lacks_room : keep_all ≡ true → IfErr result (IsRefusedBy old.has_failed (LacksRoomFor kind c contours new.room old.edges new.edges))
  pub unchanged : old.has_failed ≡ true → new.edges ≡ old.edges
  pub ready : OnOk result (old.has_failed ≡ false)
  pub stays : new.has_failed ≡ old.has_failed
  pub room : old.room ≤ new.room

-- The steps of a path are taken, or those before one that was refused: memory only without room for it. A builder that has failed takes
-- none.
pub record TakesPath {C D S : Type 0} (kind : Counting C) (c : C) (points : List Point) (old new : HeldEdges C D S) (result : Result (Unit {0}) Fault) :
    Type 0 where
  pub added : OnOk result (new.edges ≡ old.edges ++ laid_path kind c points)
  pub refused : IfErr result (IsRefusedBy old.has_failed (AddsStepsUntil kind c points new.room old.edges new.edges))
  pub unchanged : old.has_failed ≡ true → new.edges ≡ old.edges
  pub ready : OnOk result (old.has_failed ≡ false)
  pub stays : new.has_failed ≡ old.has_failed
  pub room : old.room ≤ new.room

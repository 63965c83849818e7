-- What contracts see of a graph.
use Rattle.std.specs.Prelude.{◌≡◌, ◌⊎◌, ℕ, ◌≤◌, false, cond, List, length, All}
use Rattle.plane_base.specs.Counts.{Entry, Count as Windings}
use Rattle.plane_base.specs.declared.fault.Fault.{Fault}
use Rattle.plane_base.specs.declared.fault.Fault.TheVariants.{Memory, Count}
use Rattle.plane_base.specs.Regions.{OverlayRule}
use Rattle.segment_arrangement.specs.Fills.{tells_apart}
use Rattle.segment_arrangement.specs.LinkViews.{places_of, is_bridge}
use Rattle.segment_arrangement.specs.Sweeps.{HasSideOutOfRange}
use Rattle.segment_arrangement.specs.declared.node.OverlayNode.{OverlayNode}
use Rattle.segment_arrangement.specs.declared.graph.VisitState.{VisitState}
use Rattle.segment_arrangement.specs.declared.graph.VisitState.TheVariants.{Unvisited, Skipped}

-- a cross node has two links or more, and stands only in a graph with few nodes
abbrev pub IsSound : Type 0 → OverlayNode → Type 0
IsSound few n = is_bridge n ≡ false → (2 ≤ length (places_of n)) × few

-- No cross node has fewer than two links, and with a cross node there are no more nodes than links.
abbrev pub IsValid : {L : Type 0} → List L → List OverlayNode → Type 0
IsValid links nodes = All (IsSound (length nodes ≤ length links)) nodes

-- the state of a link with this fill before any walk
abbrev pub state_of : OverlayRule → ℕ → VisitState
state_of rule fill = cond (tells_apart rule fill) Unvisited Skipped

-- ---- refusals

-- why the graph of a map is not built
abbrev pub IsRefusal : List (Entry Windings) → Fault → Type 0
IsRefusal es fault = (fault ≡ Memory) ⊎ ((fault ≡ Count) × HasSideOutOfRange es)

-- The fill of an edge as a number, and what a rule makes of it.
use Rattle.std.specs.Prelude.{ℕ, Bool, not, ◌==◌, bit_and}
use Rattle.plane_base.specs.Regions.{OverlayRule, holds}
use Rattle.segment_arrangement.specs.EdgeSides.{differ}

-- the fill has the bit of this side
abbrev pub has : ℕ → ℕ → Bool
has side fill = not (bit_and fill side == 0)

-- the rule holds on the upper side: 1 is its subject's bit, 4 its clip's
abbrev pub holds_above : OverlayRule → ℕ → Bool
holds_above rule fill = holds rule (has 1 fill) (has 4 fill)

-- the rule holds on the lower side: 2 is its subject's bit, 8 its clip's
abbrev pub holds_below : OverlayRule → ℕ → Bool
holds_below rule fill = holds rule (has 2 fill) (has 8 fill)

-- the rule tells the two sides apart
abbrev pub tells_apart : OverlayRule → ℕ → Bool
tells_apart rule fill = differ (holds_below rule fill) (holds_above rule fill)

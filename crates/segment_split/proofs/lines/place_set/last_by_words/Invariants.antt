use Rattle.std.proofs.Common.{◌≡◌, ℕ, ◌*◌, ◌/◌, ◌<◌, ◌≤◌, false, length}
use Rattle.segment_split.specs.PlaceSet.{is_set}
use Rattle.segment_split.proofs.lines.place_set.last_by_words.Given as goal

-- No bit is set in those from this one on.
abbrev pub invariant-loop-left : goal.invariant-loop-left
invariant-loop-left l = (l.left ≤ length l.words) × (l.left ≤ l.before / 64) × ((k : ℕ) → l.left * 64 ≤ k → k < l.before → is_set l.words k ≡ false)

abbrev pub decreases-loop-left : goal.decreases-loop-left
decreases-loop-left l = l.left

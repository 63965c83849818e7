use Rattle.std.proofs.Common.{◌≡◌, ◌+ℤ◌, to_z, of_z, w32, arith}
use Rattle.std.proofs.lemmas.Grind.{common_steps}
use Rattle.std.proofs.lemmas.Nat.{or_lt}
use Rattle.segment_split.proofs.Strings.{masks_join}
use Rattle.segment_split.proofs.count.ShapeCountStringWindingCount.add.Goals as goal

pub invariant_of-result : goal.invariant_of-result
invariant_of-result c = (grind (arith, common_steps), or_lt 2 c.self.inside.clip c.other.inside.clip c.self.invariant.1 c.other.invariant.1)

pub returns-clause-is : goal.returns-clause-is
returns-clause-is c =
    let sum : to_z w32 (of_z w32 c.in_ok-subj.subj) ≡ c.self.inside.subj +ℤ c.other.inside.subj = grind (arith, common_steps) in
    rw (← c.self.view_is, ← c.other.view_is)
    (masks_join _ c.self.inside.subj c.other.inside.subj c.self.inside.clip c.other.inside.clip sum c.self.invariant.1 c.other.invariant.1)

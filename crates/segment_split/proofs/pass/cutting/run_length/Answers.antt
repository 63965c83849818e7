use Rattle.std.proofs.Common.{arith}
use Rattle.std.proofs.lemmas.Grind.{common_steps}
use Rattle.segment_split.proofs.pass.cutting.run_length.Goals as goal

pub loop-i-init : goal.loop-i-init
loop-i-init g c = grind (arith, common_steps)

pub offset_bounds-marks-i : goal.offset_bounds-marks-i
offset_bounds-marks-i g c = grind (arith, common_steps)

pub bounds-marks-i : goal.bounds-marks-i
bounds-marks-i g c = grind (arith, common_steps)

pub bounds-marks-i-in-loop-i : goal.bounds-marks-i-in-loop-i
bounds-marks-i-in-loop-i g c = grind (arith, common_steps)

pub returns-then-marks-i-clause-within : goal.returns-then-marks-i-clause-within
returns-then-marks-i-clause-within g c = grind (arith, common_steps)

pub returns-then-marks-i-clause-own : goal.returns-then-marks-i-clause-own
returns-then-marks-i-clause-own g c = grind (arith, common_steps)

pub returns-then-marks-i-clause-apart : goal.returns-then-marks-i-clause-apart
returns-then-marks-i-clause-apart g c = grind (arith, common_steps)

pub loop-i-preserved : goal.loop-i-preserved
loop-i-preserved g c = grind (arith, common_steps)

pub returns-clause-within : goal.returns-clause-within
returns-clause-within g c = grind (arith, common_steps)

pub returns-clause-apart : goal.returns-clause-apart
returns-clause-apart g c = grind (arith, common_steps)

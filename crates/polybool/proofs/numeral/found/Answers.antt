use Rattle.std.proofs.Common.{sym, ◌∙◌, w64}
use Rattle.std.proofs.lemmas.Int.{to_z-of_z}
use Rattle.polybool.proofs.numeral.found.Goals as goal

pub returns-then-in_range : goal.returns-then-in_range
returns-then-in_range g c = (sym (c.from_i64.ensures ∙ to_z-of_z w64 c.args.number c.ranges.number), rw (to_z-of_z w64 c.args.number c.ranges.number) at c.in_range.ensures.0 c.if-in_range.true)

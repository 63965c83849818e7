use Rattle.std.proofs.Common.{ap, sym, ◌∙◌}
use Rattle.polybool.specs.Lines.{text_of}
use Rattle.polybool.proofs.LineLaws.{text_of-return, text_of-other}
use Rattle.polybool.proofs.line.without_return.Goals as goal

pub returns-then-last-eq13 : goal.returns-then-last-eq13
returns-then-last-eq13 c =
    let parts = c.in-Some.ensures.cases in
    sym (ap text_of parts.0 ∙ text_of-return c.in-Some.text.now c.in-Some.last.now c.if-last-eq13.true)

pub returns-else-last-eq13 : goal.returns-else-last-eq13
returns-else-last-eq13 c =
    let parts = c.in-Some.ensures.cases in
    parts.0 ∙ sym (ap text_of parts.0 ∙ text_of-other c.in-Some.text.now c.in-Some.last.now c.if-last-eq13.false)

use Rattle.std.proofs.Common.{◌≡◌, false, sym, ◌∙◌, inr, arith}
use Rattle.polybool.specs.Calls.{is_name}
use Rattle.polybool.proofs.CallLaws.{hyphened, empty}
use Rattle.polybool.proofs.call.alone.Goals as goal
use Rattle.polybool.proofs.call.alone.Goals.{then-starts_with, else-starts_with}

pub returns-in_default : goal.returns-in_default
returns-in_default c = λ readable.
    let no_name : is_name c.args.word.now ≡ false = elim c.if-starts_with.branch [
      | then-starts_with w ↦ hyphened c.args.word.now (sym (c.starts_with.ensures.byte (omega arith) (omega arith) (λ s o h. h)) ∙ w.if-starts_with.true)
      | else-starts_with w ↦ empty c.args.word.now (sym w.is_empty.ensures ∙ sym w.value-is ∙ c.if-is_empty.true)
    ] in
    inr (record {
      not_name = no_name;
      not_input = c.in_default.not-text;
      not_mark = c.in_default.not-text-2;
      not_help = c.in_default.not-text-3;
      not_version = c.in_default.not-text-4;
    })

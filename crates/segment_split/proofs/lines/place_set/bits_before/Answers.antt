use Rattle.std.proofs.Common.{◌∙◌, ◌-◌, bit_and, ap}
use Rattle.std.specs.Int.{bit_at}
use Rattle.std.proofs.lemmas.Nat.{one_shl}
use Rattle.segment_split.proofs.PlaceSet.{bit_at_before, bit_at_from}
use Rattle.segment_split.proofs.lines.place_set.bits_before.Goals as goal

pub returns-clause-kept : goal.returns-clause-kept
returns-clause-kept c k before =
    ap (λ m. bit_at (bit_and c.args.word (m - 1)) k) (one_shl c.args.place 64 c.requires.within) ∙ bit_at_before c.args.word c.args.place k before

pub returns-clause-others : goal.returns-clause-others
returns-clause-others c k from = ap (λ m. bit_at (bit_and c.args.word (m - 1)) k) (one_shl c.args.place 64 c.requires.within) ∙ bit_at_from c.args.word c.args.place k from

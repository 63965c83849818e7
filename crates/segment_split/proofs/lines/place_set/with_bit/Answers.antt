use Rattle.std.proofs.Common.{◌∙◌, eqb, sym, ap, w64}
use Rattle.std.proofs.lemmas.Nat.Bits.{bit_at_set_same, bit_at_set_other, bit_at_clear_same, bit_at_clear_other}
use Rattle.segment_split.proofs.lines.place_set.with_bit.Goals as goal

pub returns-then-bit-clause-here : goal.returns-then-bit-clause-here
returns-then-bit-clause-here c = ap (λ b. eqb b 1) (bit_at_set_same w64 c.args.word c.args.place c.requires.within) ∙ sym c.if-bit.true

pub returns-then-bit-clause-others : goal.returns-then-bit-clause-others
returns-then-bit-clause-others c k within apart = bit_at_set_other w64 c.args.word c.args.place c.requires.within k apart

pub returns-else-bit-clause-here : goal.returns-else-bit-clause-here
returns-else-bit-clause-here c = ap (λ b. eqb b 1) (bit_at_clear_same w64 c.args.word c.args.place c.requires.within) ∙ sym c.if-bit.false

pub returns-else-bit-clause-others : goal.returns-else-bit-clause-others
returns-else-bit-clause-others c k within apart = bit_at_clear_other w64 c.args.word c.args.place c.requires.within k within apart

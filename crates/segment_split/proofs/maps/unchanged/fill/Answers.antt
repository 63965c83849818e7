use Rattle.std.proofs.Common.{rules, arith}
use Rattle.segment_split.proofs.Passes.Skips.{skips_filled}
use Rattle.segment_split.proofs.maps.unchanged.fill.Goals as goal

pub returns-in_ok-resize-clause-filled : goal.returns-in_ok-resize-clause-filled
returns-in_ok-resize-clause-filled c = λ es old h.
    skips_filled es old c.args.next_new.now.items c.resize.new.self.items c.args.number (omega (arith, c.in_ok-resize.ensures.len)) (search rules) h

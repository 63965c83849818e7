use Rattle.std.proofs.Common.{◌≤◌, slice_index_or, arith}
use Rattle.segment_split.proofs.Rows.Laws.{all_from}
use Rattle.segment_split.proofs.pairs.rows.hold.has_before.Goals as goal

pub returns : goal.returns
returns c = λ _.
    let to = c.args.to.now in
    let past : c.args.end ≤ slice_index_or to c.args.first 0 = omega (arith, c.if-to-first.false) in
    all_from to c.requires.sorted c.args.end c.args.first past

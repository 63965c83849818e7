use Rattle.std.proofs.Common.{ap, inl}
use Rattle.polygon_c.specs.Flat.{lists_of}
use Rattle.polygon_c.proofs.CallLaws.{handed_paths}
use Rattle.polygon_c.proofs.clip.polygon_c_clip64.Goals as goal

pub returns-in-Ok-clause-called : goal.returns-in-Ok-clause-called
returns-in-Ok-clause-called c =
    let answer = lists_of c.in-Ok.laid in
    let handed = handed_paths answer c.args.points.now c.hand_out.new.points c.args.lengths.now c.hand_out.new.contours c.hand_out.new.shapes c.hand_out.result
    (ap (λ a. a.shapes) c.in-Ok.ensures.answered.2.2) c.hand_out.ensures.handed in
    inl (answer, c.in-Ok.ensures.answered, c.hand_out.ensures.sizes, handed)

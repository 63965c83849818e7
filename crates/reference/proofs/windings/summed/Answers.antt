use Rattle.reference.proofs.Laws.Windings.{wide_count}
use Rattle.reference.proofs.windings.summed.Goals as goal

pub returns : goal.returns
returns c =
    let sum = c.requires.sum in
    let small = c.requires.small in
    λ i. record {
      subject = wide_count c.args.sum.subject c.args.count.subject sum.subject_above sum.subject_below small.subject_above small.subject_below i;
      clip = wide_count c.args.sum.clip c.args.count.clip sum.clip_above sum.clip_below small.clip_above small.clip_below i;
    }

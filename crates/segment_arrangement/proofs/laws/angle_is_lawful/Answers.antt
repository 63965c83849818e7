use Rattle.segment_arrangement.proofs.Facts.Angles.{angle_is_lawful}
use Rattle.segment_arrangement.proofs.laws.angle_is_lawful.Goals as goal

pub returns : goal.returns
returns c = angle_is_lawful

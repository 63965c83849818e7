use Rattle.std.proofs.Common.{sym, ap, ◌∙◌}
use Rattle.polygon_overlay.specs.OverlayLaws.{overlay_of}
use Rattle.polygon_overlay.proofs.laws.strategies_agree.Goals as goal

pub returns : goal.returns
returns c solver other o fill rule held shapes others same is are =
    is ∙ (ap (λ precision. overlay_of o fill rule precision held) same ∙ sym are)

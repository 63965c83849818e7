use Rattle.polygon_overlay.proofs.Exchanging.ExchangeLaws.{reversal_exchanges_signs}
use Rattle.polygon_overlay.proofs.laws.reversal_exchanges_signs.Goals as goal

pub returns : goal.returns
returns c = reversal_exchanges_signs c.redrawing_passes_overlays.ensures.negated

use Rattle.polygon_overlay.proofs.Exchanging.ExchangeLaws.{exchange_exchanges_rules}
use Rattle.polygon_overlay.proofs.laws.exchange_exchanges_rules.Goals as goal

pub returns : goal.returns
returns c = exchange_exchanges_rules c.redrawing_passes_overlays.ensures.exchanged

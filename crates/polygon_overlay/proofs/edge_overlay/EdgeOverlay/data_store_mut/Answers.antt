use Rattle.std.proofs.Common.{refl}
use Rattle.polygon_overlay.specs.EdgeCalls.{with_store}
use Rattle.polygon_overlay.proofs.Holding.EdgeLaws.{one_held, one_tally}
use Rattle.polygon_overlay.proofs.edge_overlay.EdgeOverlay.data_store_mut.Goals as goal

pub returns : goal.returns
returns g c =
    let old = c.args.self.now in (
      (
        refl,
        λ w i. record (with_store old w) {
          sound = one_held _ _ _ (c.self-1.given w).0 old.sound i;
          tallied = one_tally _ _ (c.self-1.given w).1.0 old.tallied i;
        },
      ),
      record { writes_back = tt; value = c.store_mut.ensures.value },
    )

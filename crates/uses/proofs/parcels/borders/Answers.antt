use Rattle.std.proofs.Common.{refl, sym, ap, subst}
use Rattle.polygon_overlay.specs.Builders.{IsHeld}
use Rattle.uses.proofs.parcels.borders.Goals as goal

pub returns-clause-closed : goal.returns-clause-closed
returns-clause-closed g c =
    let sound = c.is_balanced.new.self.sound in
    let closed = c.if-not-is_balanced.ensures.is.0 refl in (
      λ some. subst (IsHeld g.I.OverlayInt.least g.I.OverlayInt.greatest) (ap (λ s. s.edges) c.is_balanced.ensures.stays.seen)
          (record { within = sound.within; directed = sound.directed; counted = sound.counted; balanced = closed }),
      λ was. refl,
    )

pub returns-clause-owners : goal.returns-clause-owners
returns-clause-owners g c some =
    let stays = c.is_balanced.ensures.stays in
    rw (sym stays.stays.solver, sym (ap (λ s. s.with_data) stays.seen)) (c.in_ok-edges.ensures.«data» refl)

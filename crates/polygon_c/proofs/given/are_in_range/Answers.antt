use Rattle.std.proofs.Common.{◌≡◌, ◌∷◌, [], ◌+◌, take, refl, sym, subst, ◌∙◌, arith}
use Rattle.std.proofs.lemmas.Bool.{false≢true}
use Rattle.std.proofs.lemmas.List.{map-append, take_all}
use Rattle.std.proofs.lemmas.List.Elements.{All-push}
use Rattle.plane_base.specs.Plane.{IsWithin}
use Rattle.plane_base.proofs.Facts.Lists.Views.{All-mapped}
use Rattle.plane_base.proofs.Facts.Thinning.Indexes.{taken_to}
use Rattle.polygon_c.proofs.given.are_in_range.Goals as goal

pub returns-then-not-is_in_range : goal.returns-then-not-is_in_range
returns-then-not-is_in_range g c =
    let within = IsWithin g.I.OverlayInt.least g.I.OverlayInt.greatest in (
      λ e. absurd (false≢true e),
      λ all. sym c.if-not-is_in_range.true
          ∙ c.is_in_range.ensures.1 (subst within (sym c.engine_point.ensures) (All-mapped within g.P.CPointOf.plane c.args.points.now _ _ c.loop-point-test.true c.point-item.is all)),
    )

pub loop-point-preserved : goal.loop-point-preserved
loop-point-preserved g c =
    let within = IsWithin g.I.OverlayInt.least g.I.OverlayInt.greatest in
    let plane = g.P.CPointOf.plane in
    let i = c.loop-point.point-index in
    let before = take i c.args.points.now in
    rw (taken_to c.args.points.now i (i + 1) c.point-item.result (omega arith) (omega (arith, c.loop-point-test.true)) c.point-item.is, map-append plane before (c.point-item.result ∷ []))
    (All-push within _ (plane c.point-item.result) c.loop-point.invariant (subst within c.engine_point.ensures (c.is_in_range.ensures.0 c.if-not-is_in_range.false)))

pub returns : goal.returns
returns g c =
    let all : take c.loop-point.point-index c.args.points.now ≡ c.args.points.now = take_all c.loop-point.point-index c.args.points.now (omega (arith, c.loop-point-test.false)) in
    (λ e. rw all at c.loop-point.invariant, λ h. refl)

use Rattle.std.proofs.Common.{◌≡◌, refl, ◌+◌, false, take, arith}
use Rattle.std.proofs.lemmas.List.Elements.{All-push}
use Rattle.std.proofs.lemmas.List.{take_all}
use Rattle.plane_base.proofs.Facts.Thinning.Indexes.{taken_to}
use Rattle.contour_walk.specs.declared.contour.Contour.{Contour}
use Rattle.contour_walk.proofs.bind.has_hole.Goals as goal

pub loop-contour-preserved : goal.loop-contour-preserved
loop-contour-preserved g c =
    let loop = c.loop-contour in
    let inside = c.loop-contour-test.true in
    let longer = taken_to c.args.contours.now loop.contour-index (loop.contour-index + 1) c.contour-item.result refl (omega (arith, inside)) c.contour-item.is in
    rw longer (All-push (λ (contour : Contour g.row.I.Denot). contour.is_hole ≡ false) (take loop.contour-index c.args.contours.now) c.contour-item.result loop.invariant c.if-contour.false)

pub returns : goal.returns
returns g c =
    let all : take c.loop-contour.contour-index c.args.contours.now ≡ c.args.contours.now = take_all c.loop-contour.contour-index c.args.contours.now (omega (arith, c.loop-contour-test.false)) in
    λ _. rw all at c.loop-contour.invariant

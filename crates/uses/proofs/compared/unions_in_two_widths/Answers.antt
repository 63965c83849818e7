use Rattle.std.proofs.Common.{◌≡◌, ℤ, List, sym, subst}
use Rattle.polygon_overlay.specs.Asking.{IsAnswered}
use Rattle.polygon_overlay.specs.Calls.{held_by}
use Rattle.polygon_overlay.specs.Counts.{Count, Entry}
use Rattle.polygon_overlay.specs.IntOverlayOptions.{IntOverlayOptions}
use Rattle.polygon_overlay.specs.OverlayLaws.{WidthsAgree}
use Rattle.polygon_overlay.specs.Plane.{Point}
use Rattle.polygon_overlay.specs.Regions.{NonZero, Union}
use Rattle.polygon_overlay.specs.Solver.{Solver}
use Rattle.uses.proofs.compared.unions_in_two_widths.Goals as goal

-- two unions of one map, by options and precisions that are the same, in two ranges
are_one : {shapes others : List (List (List Point))} (least greatest low high : ℤ) (one other : Solver) (options other_options : IntOverlayOptions)
    (held other_held : List (Entry Count)) →
    WidthsAgree → held ≡ other_held → options ≡ other_options → one.precision ≡ other.precision
    → IsAnswered least greatest options NonZero Union one.precision held shapes
    → IsAnswered low high other_options NonZero Union other.precision other_held others → shapes ≡ others
are_one {shapes} {others} least greatest low high one other options other_options held other_held law same_held same_options same_precision is are =
    law least greatest low high options NonZero Union one.precision held shapes others is
    (subst (λ h. IsAnswered low high options NonZero Union one.precision h others) (sym same_held)
    (subst (λ o. IsAnswered low high o NonZero Union one.precision other_held others) (sym same_options)
    (subst (λ p. IsAnswered low high other_options NonZero Union p other_held others) (sym same_precision) are)))

pub returns : goal.returns
returns g c =
    let narrow = c.args.narrow.now in
    let wide = c.args.wide.now in
    record {
      same = are_one g.I.OverlayInt.least g.I.OverlayInt.greatest g.J.OverlayInt.least g.J.OverlayInt.greatest narrow.solver wide.solver narrow.options wide.options
          (held_by narrow) (held_by wide) c.widths_agree.ensures c.requires.held c.requires.options c.requires.precision c.in_ok-before.ensures.answered
          c.in_ok-now.ensures.answered;
    }

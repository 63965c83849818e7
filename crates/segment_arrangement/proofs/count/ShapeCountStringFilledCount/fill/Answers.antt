use Rattle.std.proofs.Common.{◌≡◌, to_z, of_z, w32, ap, sym, ◌∙◌, arith}
use Rattle.std.proofs.lemmas.Grind.{common_steps}
use Rattle.plane_base.specs.Regions.{is_filled}
use Rattle.segment_split.specs.Strings.{mask_of}
use Rattle.segment_split.specs.StringLaws.{mask_is}
use Rattle.segment_arrangement.specs.RuleViews.{fill_rule_of}
use Rattle.segment_arrangement.proofs.Fans.Strings.{filled_by_parts}
use Rattle.segment_arrangement.proofs.count.ShapeCountStringFilledCount.fill.Goals as goal

pub returns : goal.returns
returns c =
    let rule = fill_rule_of c.args.rule in
    let above : to_z w32 (of_z w32 c.top.inside.subj) ≡ c.top.inside.subj = grind (arith, common_steps) in
    let below : to_z w32 (of_z w32 c.bottom.inside.subj) ≡ c.bottom.inside.subj = grind (arith, common_steps) in
    filled_by_parts rule c.args.bottom c.args.top c.args.self _ _ _ c.self.inside.clip c.bits.ensures
    (c.fills.ensures ∙ (ap (is_filled rule) above ∙ ap (λ t. is_filled rule t.subject) c.top.view_is)) (c.fills-2.ensures ∙ (ap (is_filled rule) below ∙ ap (λ t. is_filled rule t.subject) c.bottom.view_is))
    c.requires (ap mask_of (sym c.self.view_is) ∙ mask_is c.self.inside.subj c.self.inside.clip c.self.invariant.1)

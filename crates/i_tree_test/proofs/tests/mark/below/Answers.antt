use Rattle.std.proofs.Common.{rules, ◌≡◌, ℤ, pos, w32, to_z, of_z, ap, ◌∙◌}
use Rattle.std.specs.Ordering.{nat_cmp, int_cmp, is_lt}
use Rattle.i_tree.specs.LiveList.{live_at}
use Rattle.i_tree.specs.KeyAnswers.{last_where}
use Rattle.i_tree_test.specs.declared.tests.mark.Mark.{Mark}
use Rattle.i_tree_test.proofs.tests.mark.below.Goals as goal

pub returns-clause-answer : goal.returns-clause-answer
returns-clause-answer g c =
    let kept : to_z w32 (of_z w32 c.first_less.result) ≡ c.first_less.result = search rules in
    let same : to_z w32 (of_z w32 c.args.place) ≡ c.args.place = search rules in
    let live = live_at {K = Mark} nat_cmp (λ m. m.end) c.args.time (g.C.KeyExpCollection.live_list c.args.live.now).entries in
    kept ∙ (c.first_less.ensures.answer ∙ ap (λ (p : ℤ). last_where {K = Mark} (λ m. is_lt (int_cmp m.place p)) (pos 0) live) same)

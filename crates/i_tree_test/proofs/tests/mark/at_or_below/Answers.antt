use Rattle.std.proofs.Common.{rules, ◌≡◌, pos, w32, to_z, of_z}
use Rattle.std.specs.Ordering.{nat_cmp, int_cmp}
use Rattle.i_tree_test.specs.declared.tests.mark.Mark.{Mark}
use Rattle.i_tree.specs.LiveList.{live_at, IsLawful}
use Rattle.i_tree.specs.KeyAnswers.{IsMonotone, IsAnswer}
use Rattle.i_tree.proofs.Keys.Places.{IsMonotone-order}
use Rattle.i_tree_test.proofs.tests.mark.at_or_below.Goals as goal

pub returns-clause-answer : goal.returns-clause-answer
returns-clause-answer g c =
    let entries = (g.C.KeyExpCollection.live_list c.first_less_or_equal_by.new.self).entries in
    let live = live_at nat_cmp (λ m. m.end) c.args.time (g.C.KeyExpCollection.live_list c.args.live.now).entries in
    let key : Mark = record { place = c.args.place; end = 0 } in
    let lawful : IsLawful (λ m n. int_cmp m.place n.place) key entries = search rules in
    let left : IsMonotone (λ m. int_cmp m.place c.args.place) entries = IsMonotone-order (λ m n. int_cmp m.place n.place) key entries c.first_less_or_equal_by.ensures.sound.rising lawful in
    let monotone : IsMonotone (λ m. int_cmp m.place c.args.place) live = rw c.first_less_or_equal_by.ensures.kept.entries at left in
    let answer : IsAnswer (λ m. int_cmp m.place c.args.place) (pos 0) live c.first_less_or_equal_by.result = c.first_less_or_equal_by.ensures.answer (λ m. int_cmp m.place c.args.place) (λ i d h r said. search rules) monotone in
    let kept : to_z w32 (of_z w32 c.first_less_or_equal_by.result) ≡ c.first_less_or_equal_by.result = search rules in
    rw kept answer

use Rattle.std.proofs.Common.{rules, ◌≡◌, ℤ, Contains, Less, Greater}
use Rattle.std.proofs.lemmas.List.Elements.{All-weaker}
use Rattle.std.specs.Ordering.{nat_cmp, int_cmp}
use Rattle.std.specs.declared.cmp.Ordering.{Ordering}
use Rattle.i_tree_test.specs.declared.tests.mark.Mark.{Mark}
use Rattle.i_tree.specs.LiveList.{live_at, IsLawful}
use Rattle.i_tree.specs.KeyAnswers.{IsMonotone}
use Rattle.i_tree.proofs.Keys.Places.{IsMonotone-order}
use Rattle.i_tree_test.proofs.tests.mark.add_by_place.Goals as goal

pub insert_at-requires-clause-below : goal.insert_at-requires-clause-below
insert_at-requires-clause-below g c =
    let by : Mark → Ordering = λ m. int_cmp m.place c.args.key.place in
    let entries = (g.C.KeyExpCollection.live_list c.seek-sought.new.self).entries in
    let live = live_at nat_cmp (λ m. m.end) c.args.time (g.C.KeyExpCollection.live_list c.contains_key.new.self).entries in
    let lawful : IsLawful (λ m n. int_cmp m.place n.place) c.args.key entries = search rules in
    let left : IsMonotone by entries = IsMonotone-order (λ m n. int_cmp m.place n.place) c.args.key entries c.seek-sought.ensures.sound.rising lawful in
    let monotone : IsMonotone by live = rw c.seek-sought.ensures.kept.entries at left in
    let found = entries in
    let place = c.seek-sought.ensures.place by (λ i d h r said. search rules) monotone in
    All-weaker (λ (e : Mark × ℤ). Contains found e × (by e.0 ≡ Less)) (λ (e : Mark × ℤ). by e.0 ≡ Less) (λ e held. held.1) _ place.less

pub insert_at-requires-clause-above : goal.insert_at-requires-clause-above
insert_at-requires-clause-above g c =
    let by : Mark → Ordering = λ m. int_cmp m.place c.args.key.place in
    let entries = (g.C.KeyExpCollection.live_list c.seek-sought.new.self).entries in
    let live = live_at nat_cmp (λ m. m.end) c.args.time (g.C.KeyExpCollection.live_list c.contains_key.new.self).entries in
    let lawful : IsLawful (λ m n. int_cmp m.place n.place) c.args.key entries = search rules in
    let left : IsMonotone by entries = IsMonotone-order (λ m n. int_cmp m.place n.place) c.args.key entries c.seek-sought.ensures.sound.rising lawful in
    let monotone : IsMonotone by live = rw c.seek-sought.ensures.kept.entries at left in
    let found = entries in
    let place = c.seek-sought.ensures.place by (λ i d h r said. search rules) monotone in
    All-weaker (λ (e : Mark × ℤ). Contains found e × (by e.0 ≡ Greater)) (λ (e : Mark × ℤ). by e.0 ≡ Greater) (λ e held. held.1) _ place.greater

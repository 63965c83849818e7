use Rattle.std.proofs.Common.{rules}
use Rattle.i_tree_test.proofs.tests.caller.ask_by.Goals as goal

pub returns : goal.returns
returns g c =
    let mono = c.orders_are_monotone.ensures g.K.ExpiredKey.order c.args.key _ (rw c.first_less_or_equal_by.ensures.kept.entries at c.first_less_or_equal_by.ensures.sound.rising) c.requires.lawful in
    c.first_less_or_equal_by.ensures.answer (λ k. g.K.ExpiredKey.order k c.args.key) (λ i d h r e. search rules) mono

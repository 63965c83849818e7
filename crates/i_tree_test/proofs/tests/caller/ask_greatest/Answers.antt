use Rattle.i_tree_test.proofs.tests.caller.ask_greatest.Goals as goal

pub returns : goal.returns
returns g c =
    rw c.first_less.ensures.answer
    (c.answers_are_greatest.ensures.below g.K.ExpiredKey.order c.args.key c.args.default _ (rw c.first_less.ensures.kept.entries at c.first_less.ensures.sound.rising))

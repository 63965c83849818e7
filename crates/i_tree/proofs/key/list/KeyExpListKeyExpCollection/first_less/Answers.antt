use Rattle.i_tree.proofs.Keys.Answering.{last_below-place}
use Rattle.i_tree.proofs.key.list.KeyExpListKeyExpCollection.first_less.Goals as goal

pub returns-clause-answer : goal.returns-clause-answer
returns-clause-answer g c =
    rw (c.value_before.ensures, c.stop-below.ensures, c.place_of_key.ensures.place)
    (last_below-place g.K.ExpiredKey.order c.args.key _ _ c.advance.ensures.kept.entries c.advance.ensures.sound.rising c.requires.lawful c.args.default)

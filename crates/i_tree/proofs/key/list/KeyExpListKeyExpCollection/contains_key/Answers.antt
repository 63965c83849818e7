use Rattle.i_tree.proofs.Keys.Answering.{HasEqualKey-place}
use Rattle.i_tree.proofs.key.list.KeyExpListKeyExpCollection.contains_key.Goals as goal

pub returns-clause-found : goal.returns-clause-found
returns-clause-found g c =
    rw c.is_ok.ensures.value
    (HasEqualKey-place g.K.ExpiredKey.order c.args.key _ _ c.advance.ensures.kept.entries c.advance.ensures.sound.rising c.requires.lawful c.place_of_key.result c.place_of_key.ensures.place).0

pub returns-clause-absent : goal.returns-clause-absent
returns-clause-absent g c =
    rw c.is_ok.ensures.value
    (HasEqualKey-place g.K.ExpiredKey.order c.args.key _ _ c.advance.ensures.kept.entries c.advance.ensures.sound.rising c.requires.lawful c.place_of_key.result c.place_of_key.ensures.place).1

use Rattle.plane_base_test.proofs.sweep.add_and_ask.Goals as goal

pub returns : goal.returns
returns g c = rw (c.in_ok-add.ensures.ok.later c.args.later c.requires.in_order) at c.last_below.ensures.answer

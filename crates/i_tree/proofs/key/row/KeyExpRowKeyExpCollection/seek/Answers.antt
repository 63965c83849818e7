use Rattle.std.proofs.Common.{arith, length, ◌≤◌}
use Rattle.i_tree.specs.Row.{way_of}
use Rattle.i_tree.proofs.Keys.RowInsertion.{IsPlace-row, IsPlace-whole}
use Rattle.i_tree.proofs.Keys.Ways.{IsAnswer-found}
use Rattle.i_tree.proofs.key.row.KeyExpRowKeyExpCollection.seek.Goals as goal
use Rattle.i_tree.proofs.key.row.KeyExpRowKeyExpCollection.seek.Goals.{in-Ok, in-Err}

pub returns-clause-answer : goal.returns-clause-answer
returns-clause-answer g c = λ by depends mono.
    rw c.value_or.ensures (IsAnswer-found by _ (way_of c.look-look.result.found) (c.look-look.ensures.found by depends mono) c.args.default)

pub returns-clause-place : goal.returns-clause-place
returns-clause-place g c = λ by depends mono.
    let now = c.look-look.ensures.kept.latest_time in
    elim c.match-look.branch [
      | in-Ok w ↦
          let long : length c.self.inside.entries.items ≤ w.len.result = omega (arith, w.len.ensures, c.self.ranges) in
          rw w.place-is (IsPlace-whole g.E.Ord.cmp g.K.ExpiredKey.expires by c.look-look.new.self c.args.time now w.len.result (rw (← c.self.view_is) long))
      | in-Err w ↦
          let parted = rw w.in-Err.is at (c.look-look.ensures.parted by depends mono) in
          rw w.place-is (IsPlace-row g.E.Ord.cmp g.K.ExpiredKey.expires by c.look-look.new.self c.args.time now c.look-look.result.at c.look-look.result.at (omega arith) c.look-look.ensures.within parted)
    ]

use Rattle.std.proofs.Common.{◌≢◌, arith}
use Rattle.std.proofs.lemmas.Nat.Bits.{shr_and_one}
use Rattle.std.specs.Int.{bit_at}
use Rattle.i_tree.proofs.Ranges.Walks.{nothing_taken}
use Rattle.i_tree.proofs.seg.iter.list_of_query.Goals as goal

pub returns-else-query-node-eq1 : goal.returns-else-query-node-eq1
returns-else-query-node-eq1 c =
    let off : bit_at c.args.query c.args.node ≢ 1 = rw shr_and_one at c.if-query-node-eq1.false in
    λ place. nothing_taken place c.args.query c.args.node _ (omega arith) c.requires.within off

use Rattle.std.proofs.Common.{rules}
use Rattle.i_tree.proofs.Keys.RowInsertion.{put-rotated}
use Rattle.i_tree.proofs.key.row.put.Goals as goal

pub returns-then-filled-len-clause-ok : goal.returns-then-filled-len-clause-ok
returns-then-filled-len-clause-ok g c =
    let value = c.deref_mut.ensures.value in
    let first = rw c.deref.ensures.value at c.first_expired-filled.ensures in
    let len = rw value at c.rotate_right.ensures.len in
    let after = rw value at c.rotate_right.ensures.after in
    record {
      from = first.beyond;
      within = first.within;
      expired = first.expired;
      is = rw value (put-rotated _ _ _ _ first.beyond (search rules) _ _ (search rules) len after);
    }

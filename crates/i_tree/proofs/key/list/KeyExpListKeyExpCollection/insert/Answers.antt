use contract.BorrowLft.{⊑_static}
use Rattle.i_tree.proofs.Lives.{within_unplaced}
use Rattle.std.proofs.lemmas.Result.{err_from_is_err_and}
use Rattle.std.proofs.Common.{◌≡◌, ◌≤◌, ◌+◌, length, true, false, refl, ap, ◌∙◌, arith}
use Rattle.i_tree.specs.LiveList.{is_live, placed}
use Rattle.i_tree.proofs.Keys.Insertion.{insert-stop, length-placed, IsInserted-live, IsInserted-expired, IsSound-live, IsSound-expired}
use Rattle.i_tree.proofs.key.list.KeyExpListKeyExpCollection.insert.Goals as goal
use Rattle.i_tree.proofs.key.list.KeyExpListKeyExpCollection.insert.Goals.{then-is_gt+in_ok-insert, else-is_gt}

pub invariant_of-self-2 : goal.invariant_of-self-2
invariant_of-self-2 g c =
    let kept = rw (← c.self.view_is) at c.advance.ensures.kept in
    let sound = rw (← c.self.view_is) at c.advance.ensures.sound in
    elim c.if-is_gt.branch [
      | then-is_gt+in_ok-insert w ↦
          let live : is_live g.E.Ord.cmp g.K.ExpiredKey.expires c.args.time c.args.key ≡ true = rw (← c.expiration.ensures, ← c.cmp.ensures, ← c.is_gt.ensures) w.if-is_gt.true in
          let items : w.insert.new.self.items ≡ placed g.K.ExpiredKey.order (c.args.key, c.args.val) c.self.inside.entries.items =
          insert-stop g.K.ExpiredKey.order (c.args.key, c.args.val) c.self.inside.entries.items w.insert.new.self.items w.stop-at.result w.place_of_key.result w.in_ok-insert.ensures.items w.stop-at.ensures (rw (← c.self.view_is) at w.place_of_key.ensures.place) in
          let longer : length w.insert.new.self.items ≤ length c.self.inside.entries.items + 1 = omega (arith, ap length items ∙ length-placed g.K.ExpiredKey.order (c.args.key, c.args.val) c.self.inside.entries.items) in
          rw w.self-inside-is
          (IsSound-live g.E.Ord.cmp g.met.E.Ord.total g.K.ExpiredKey.expires g.K.ExpiredKey.order (c.args.key, c.args.val) c.args.time c.args.self.now _ kept sound (length w.insert.new.self.items) longer c.requires.lawful c.requires.new_key live w.insert.new.self.items items (omega arith))
      | else-is_gt w ↦
          rw w.self-inside-is
          (IsSound-expired g.E.Ord.cmp g.met.E.Ord.total g.K.ExpiredKey.expires g.K.ExpiredKey.order (c.args.key, c.args.val) c.args.time c.args.self.now _ kept sound (length c.self.inside.entries.items) (omega arith) (omega arith))
    ]

pub returns-clause-sound : goal.returns-clause-sound
returns-clause-sound g c = invariant_of-self-2 g c

pub returns-clause-ok : goal.returns-clause-ok
returns-clause-ok g c =
    let kept = rw (← c.self.view_is) at c.advance.ensures.kept in
    let sound = rw (← c.self.view_is) at c.advance.ensures.sound in
    elim c.if-is_gt.branch [
      | then-is_gt+in_ok-insert w ↦
          let live : is_live g.E.Ord.cmp g.K.ExpiredKey.expires c.args.time c.args.key ≡ true = rw (← c.expiration.ensures, ← c.cmp.ensures, ← c.is_gt.ensures) w.if-is_gt.true in
          let items : w.insert.new.self.items ≡ placed g.K.ExpiredKey.order (c.args.key, c.args.val) c.self.inside.entries.items =
          insert-stop g.K.ExpiredKey.order (c.args.key, c.args.val) c.self.inside.entries.items w.insert.new.self.items w.stop-at.result w.place_of_key.result w.in_ok-insert.ensures.items w.stop-at.ensures (rw (← c.self.view_is) at w.place_of_key.ensures.place) in
          let longer : length w.insert.new.self.items ≤ length c.self.inside.entries.items + 1 = omega (arith, ap length items ∙ length-placed g.K.ExpiredKey.order (c.args.key, c.args.val) c.self.inside.entries.items) in
          rw w.self-inside-is
          (IsInserted-live g.E.Ord.cmp g.met.E.Ord.total g.K.ExpiredKey.expires g.K.ExpiredKey.order (c.args.key, c.args.val) c.args.time c.args.self.now _ kept sound (length w.insert.new.self.items) longer c.requires.lawful c.requires.new_key live w.insert.new.self.items items (omega arith))
      | else-is_gt w ↦
          let gone : is_live g.E.Ord.cmp g.K.ExpiredKey.expires c.args.time c.args.key ≡ false = rw (← c.expiration.ensures, ← c.cmp.ensures, ← c.is_gt.ensures) w.if-is_gt.false in
          rw w.self-inside-is
          (IsInserted-expired g.E.Ord.cmp g.met.E.Ord.total g.K.ExpiredKey.expires g.K.ExpiredKey.order (c.args.key, c.args.val) c.args.time c.args.self.now _ kept sound (length c.self.inside.entries.items) (omega arith) (omega arith) gone)
    ]

pub returns-clause-exact : goal.returns-clause-exact
returns-clause-exact g c =
    elim c.if-is_gt.branch [
      | then-is_gt+in_ok-insert w ↦
          let live : is_live g.E.Ord.cmp g.K.ExpiredKey.expires c.args.time c.args.key ≡ true = rw (← c.expiration.ensures, ← c.cmp.ensures, ← c.is_gt.ensures) w.if-is_gt.true in
          rw (w.steps-is, live, ← c.advance.ensures.kept.entries, ← w.place_of_key.ensures.place) w.place_of_key.ensures.cost
      | else-is_gt w ↦
          let gone : is_live g.E.Ord.cmp g.K.ExpiredKey.expires c.args.time c.args.key ≡ false = rw (← c.expiration.ensures, ← c.cmp.ensures, ← c.is_gt.ensures) w.if-is_gt.false in
          rw (w.steps-is, gone) record { comparisons = omega arith; pairs = refl }
    ]

pub returns-in_err-insert-clause-ok : goal.returns-in_err-insert-clause-ok
returns-in_err-insert-clause-ok g c = rw ((err_from_is_err_and c.from_residual.result c.from_residual.ensures.1).1) tt

pub returns-clause-err : goal.returns-clause-err
returns-clause-err g c = tt

pub advance-requires : goal.advance-requires
advance-requires g c κs = λ h. h

pub expiration-requires : goal.expiration-requires
expiration-requires g c κs = λ h. h

pub cmp-requires : goal.cmp-requires
cmp-requires g c κs = λ h. h

pub place_of_key-requires : goal.place_of_key-requires
place_of_key-requires g c κs = λ h. h

pub branch-insert-requires : goal.branch-insert-requires
branch-insert-requires g c κs = λ h. (⊑_static κs.0, within_unplaced κs.1.0 g.row.K.lives g.row.V.lives h.0 h.1)

pub from_residual-requires : goal.from_residual-requires
from_residual-requires g c κs = λ h. (⊑_static κs.0, (within_unplaced κs.1.0 g.row.K.lives g.row.V.lives h.0 h.1, ⊑_static κs.1.1.0))

pub returns-in_err-insert-clause-sound : goal.returns-in_err-insert-clause-sound
returns-in_err-insert-clause-sound g c = rw c.in_err-insert.ensures.items c.self.invariant

pub invariant_of-self : goal.invariant_of-self
invariant_of-self g c = rw c.in_err-insert.ensures.items c.self.invariant

pub returns-in_err-insert-clause-err : goal.returns-in_err-insert-clause-err
returns-in_err-insert-clause-err g c =
    rw ((err_from_is_err_and c.from_residual.result c.from_residual.ensures.1).1, c.in_err-insert.ensures.items) (rw (← c.self.view_is) at c.advance.ensures.kept)

use Rattle.std.proofs.Common.{◌≡◌, true}
use Rattle.i_tree.proofs.Keys.Members.{All-placed_iff, All-live_at_iff, All-live_with_iff}
use Rattle.i_tree.proofs.laws.tests_pass_insertions.Goals as goal

pub returns-clause-placed : goal.returns-clause-placed
returns-clause-placed g c = λ test order new entries. All-placed_iff order new (λ e. test e ≡ true) entries

pub returns-clause-live : goal.returns-clause-live
returns-clause-live g c = λ test cmp expires time entries. All-live_at_iff cmp expires time (λ e. test e ≡ true) entries

pub returns-clause-both : goal.returns-clause-both
returns-clause-both g c = λ test cmp expires order new time entries. All-live_with_iff cmp expires time order new (λ e. test e ≡ true) entries

use Rattle.i_tree.proofs.Keys.Members.{Contains-placed_iff, Contains-live_at_iff, Contains-live_with_iff}
use Rattle.i_tree.proofs.laws.entries_are_new_or_old.Goals as goal

pub returns-clause-placed : goal.returns-clause-placed
returns-clause-placed g c = λ order new entries entry. Contains-placed_iff order new entries entry

pub returns-clause-live : goal.returns-clause-live
returns-clause-live g c = λ cmp expires time entries entry. Contains-live_at_iff cmp expires time entries entry

pub returns-clause-both : goal.returns-clause-both
returns-clause-both g c = λ cmp expires order new time entries entry. Contains-live_with_iff cmp expires time order new entries entry

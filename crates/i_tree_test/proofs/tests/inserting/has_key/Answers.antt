use Rattle.std.proofs.Common.{rules, inl, inr}
use Rattle.std.proofs.lemmas.Bool.{OnFalse_from}
use Rattle.i_tree_test.proofs.tests.inserting.has_key.Goals as goal

pub returns-then-has_index-clause-absent : goal.returns-then-has_index-clause-absent
returns-then-has_index-clause-absent g c =
    OnFalse_from _ _ (λ unlike. c.first_index_less_by-index.ensures.new_key c.args.key.now c.requires.sorted (λ i d h r said. search rules) (inr (c.value_by_index.result.now, (c.value_by_index.ensures, λ e. search rules))))

pub returns-else-has_index-clause-absent : goal.returns-else-has_index-clause-absent
returns-else-has_index-clause-absent g c =
    OnFalse_from _ _ (λ none. c.first_index_less_by-index.ensures.new_key c.args.key.now c.requires.sorted (λ i d h r said. search rules) (inl (λ has. let yes = c.has_index.ensures.live.1 has in cc)))

use Rattle.polybool.specs.Texts.{relations_text}
use Rattle.polybool.proofs.PieceLaws.{eight_texts}
use Rattle.polybool.proofs.relations.lay_relations.Goals as goal

pub returns : goal.returns
unfolding relations_text
returns c =
    eight_texts _ _ _ _ _ _ _ _ _ _ _ _ _ _ _ _ _ c.new-piece.ensures.text c.push_fact.ensures.text c.push_fact-2.ensures.text c.push_fact-3.ensures.text
    c.push_fact-4.ensures.text c.push_fact-5.ensures.text c.push_fact-6.ensures.text c.push_fact-7.ensures.text c.push.ensures.text

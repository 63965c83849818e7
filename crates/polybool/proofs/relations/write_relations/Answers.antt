use Rattle.polybool.specs.Texts.{relations_text}
use Rattle.polybool.proofs.PieceLaws.{sent_piece}
use Rattle.polybool.proofs.relations.write_relations.Goals as goal

pub returns : goal.returns
returns g c =
    sent_piece _ _ c.lay_relations-piece.result.length c.lay_relations-piece.result.bytes c.send.new.self.length c.send.new.self.bytes (relations_text c.args.relations) c.send.result
    c.lay_relations-piece.ensures c.send.ensures.empty c.send.ensures.lays

use Rattle.std.proofs.Common.{length, sym, ◌∙◌, true-eqb}
use Rattle.std.proofs.lemmas.List.{nil_from_length}
use Rattle.polybool.specs.Replies.{empty}
use Rattle.polybool.proofs.ReplyLaws.{reply_unheld, reply_held}
use Rattle.polybool.proofs.session.reply_to.Goals as goal

pub returns-then-is_empty : goal.returns-then-is_empty
returns-then-is_empty g c number bytes held =
    let text = c.in-Ok.ensures bytes held in
    rw text.0 (empty (sym text.2 ∙ nil_from_length c.in-Ok.text.now (true-eqb (length c.in-Ok.text.now) 0 (sym c.if-is_empty.true ∙ c.is_empty.ensures))))

pub returns-else-is_empty : goal.returns-else-is_empty
returns-else-is_empty g c number bytes held =
    let text = c.in-Ok.ensures bytes held in
    let reply = c.serve.ensures number in
    rw text.0 (reply_held g.I.OverlayInt.least g.I.OverlayInt.greatest number _ _ bytes c.in-Ok.text.now _ text.1 text.2 (sym c.is_empty.ensures ∙ c.if-is_empty.false) reply)

pub returns-in-Err : goal.returns-in-Err
returns-in-Err g c number bytes held = let why = c.in-Err.ensures bytes held in reply_unheld g.I.OverlayInt.least g.I.OverlayInt.greatest number _ c.args.line.now.state bytes c.in-Err.refusal why

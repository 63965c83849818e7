use Rattle.std.proofs.Common.{[], refl, sym, subst}
use Rattle.polybool.specs.Replies.{AreReplies, none}
use Rattle.polybool.proofs.SessionLaws.{Splits-nothing}
use Rattle.polybool.proofs.session.Session.new.Goals as goal

pub returns-clause-stands : goal.returns-clause-stands
returns-clause-stands g c = record {
  lines = [];
  rest = [];
  splits = Splits-nothing;
  replies = subst (λ kept. AreReplies g.I.OverlayInt.least g.I.OverlayInt.greatest [] [] kept) (sym c.new.ensures) none;
  count = refl;
  held = c.new-2.ensures;
}

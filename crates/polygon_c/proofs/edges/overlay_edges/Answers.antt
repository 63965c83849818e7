use Rattle.std.proofs.Common.{inl, inr}
use Rattle.segment_split.proofs.Facts.Adding.Laws.{if_refused}
use Rattle.polygon_c.proofs.edges.overlay_edges.Goals as goal

pub returns-in-0-clause-refused : goal.returns-in-0-clause-refused
returns-in-0-clause-refused g c =
    if_refused c.carry.result
    (λ why is. inr (c.in_ok-request.request, c.in_ok-request.ensures.passes, c.in_ok-request.ensures.numbered, inl (c.in-0.is, is)))
    c.carry.ensures.refused

pub returns-in-1-clause-refused : goal.returns-in-1-clause-refused
returns-in-1-clause-refused g c =
    if_refused c.carry-in-1.result
    (λ why is. inr (c.in_ok-request.request, c.in_ok-request.ensures.passes, c.in_ok-request.ensures.numbered, inr (inl (c.in-1.is, is))))
    c.carry-in-1.ensures.refused

pub returns-in-2-clause-refused : goal.returns-in-2-clause-refused
returns-in-2-clause-refused g c =
    if_refused c.carry-in-2.result
    (λ why is. inr (c.in_ok-request.request, c.in_ok-request.ensures.passes, c.in_ok-request.ensures.numbered, inr (inr (inl (c.in-2.is, is)))))
    c.carry-in-2.ensures.refused

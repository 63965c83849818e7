use Rattle.polybool.proofs.words.Name.parse.Goals as goal

pub returns-then-is-clause-found : goal.returns-then-is-clause-found
returns-then-is-clause-found c = c.is.ensures.0 c.if-is.true

pub returns-then-is-2-clause-found : goal.returns-then-is-2-clause-found
returns-then-is-2-clause-found c = c.is-else-is.ensures.0 c.if-is-2.true

pub returns-then-is-3-clause-found : goal.returns-then-is-3-clause-found
returns-then-is-3-clause-found c = c.is-else-is-2.ensures.0 c.if-is-3.true

pub returns-then-is-4-clause-found : goal.returns-then-is-4-clause-found
returns-then-is-4-clause-found c = c.is-else-is-3.ensures.0 c.if-is-4.true

pub returns-then-is-5-clause-found : goal.returns-then-is-5-clause-found
returns-then-is-5-clause-found c = c.is-else-is-4.ensures.0 c.if-is-5.true

pub returns-then-is-6-clause-found : goal.returns-then-is-6-clause-found
returns-then-is-6-clause-found c = c.is-else-is-5.ensures.0 c.if-is-6.true

pub returns-then-is-7-clause-found : goal.returns-then-is-7-clause-found
returns-then-is-7-clause-found c = c.is-else-is-6.ensures.0 c.if-is-7.true

use Rattle.std.proofs.Common.{◌≡◌, [], ap, subst}
use Rattle.std.specs.Option.{option_copied}
use Rattle.polybool.specs.Words.{words_of, words_after}
use Rattle.polybool.specs.Names.{SpellsFill, strategy_word}
use Rattle.polybool.proofs.WordLaws.{words_some}
use Rattle.polybool.proofs.request.parse_relate.Goals as goal

pub returns-in-Some-clause-none : goal.returns-in-Some-clause-none
returns-in-Some-clause-none c r word spells spelled =
    let fill = c.in_ok-fill.ensures.found in
    let strategy = c.in_ok-strategy.ensures.found in
    let more : words_after (option_copied c.in_ok-strategy.rest) ≡ words_of c.in-Some.field-0.now = ap (λ r. words_after (option_copied r)) c.in-Some.is in
    let none : words_of c.in-Some.field-0.now ≡ [] = cc in
    words_some c.in-Some.field-0.now none

pub returns-in_err-parse_fill-clause-found : goal.returns-in_err-parse_fill-clause-found
returns-in_err-parse_fill-clause-found c = rw c.from_residual-in_err-parse_fill.ensures tt

pub returns-in_err-parse_strategy-clause-found : goal.returns-in_err-parse_strategy-clause-found
returns-in_err-parse_strategy-clause-found c = rw c.from_residual-in_err-parse_strategy.ensures tt

pub returns-in_err-fill-clause-found : goal.returns-in_err-fill-clause-found
returns-in_err-fill-clause-found c = rw c.from_residual.ensures tt

pub returns-in_err-fill-clause-none : goal.returns-in_err-fill-clause-none
returns-in_err-fill-clause-none c = rw c.from_residual.ensures (λ r word spells spelled.
    let none = c.in_err-fill.ensures.none in
    absurd (cc))

pub returns-in_err-strategy-clause-found : goal.returns-in_err-strategy-clause-found
returns-in_err-strategy-clause-found c = rw c.from_residual-in_err-strategy.ensures tt

pub returns-in_err-strategy-clause-none : goal.returns-in_err-strategy-clause-none
returns-in_err-strategy-clause-none c = rw c.from_residual-in_err-strategy.ensures (λ r word spells spelled.
    let fill = c.in_ok-fill.ensures.found in
    let none = c.in_err-strategy.ensures.none in
    absurd (cc))

pub returns-in_err-parse_fill-clause-none : goal.returns-in_err-parse_fill-clause-none
returns-in_err-parse_fill-clause-none c = rw c.from_residual-in_err-parse_fill.ensures (λ r word spells spelled.
    let fill = c.in_ok-fill.ensures.found in
    let same : word ≡ c.in_ok-fill.fill.now = cc in
    c.in_err-parse_fill.ensures.none r.fill (subst (λ w. SpellsFill w r.fill) same spells))

pub returns-in_err-parse_strategy-clause-none : goal.returns-in_err-parse_strategy-clause-none
returns-in_err-parse_strategy-clause-none c = rw c.from_residual-in_err-parse_strategy.ensures (λ r word spells spelled.
    let fill = c.in_ok-fill.ensures.found in
    let strategy = c.in_ok-strategy.ensures.found in
    let same : c.in_ok-strategy.strategy.now ≡ strategy_word r.strategy = cc in
    c.in_err-parse_strategy.ensures.none r.strategy same)

pub returns-clause-none : goal.returns-clause-none
returns-clause-none c = tt

pub returns-in-Some-clause-found : goal.returns-in-Some-clause-found
returns-in-Some-clause-found c = tt

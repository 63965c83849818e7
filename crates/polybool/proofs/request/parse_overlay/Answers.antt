use Rattle.std.proofs.Common.{◌≡◌, [], ap, subst}
use Rattle.std.specs.Option.{option_copied}
use Rattle.polybool.specs.Words.{words_of, words_after}
use Rattle.polybool.specs.Names.{SpellsFill, rule_word, strategy_word, direction_word, keep_word}
use Rattle.polybool.proofs.WordLaws.{words_some}
use Rattle.polybool.proofs.request.parse_overlay.Goals as goal

pub returns-in-Some-clause-none : goal.returns-in-Some-clause-none
returns-in-Some-clause-none c o word spells spelled =
    let rule = c.in_ok-rule.ensures.found in
    let fill = c.in_ok-fill.ensures.found in
    let strategy = c.in_ok-strategy.ensures.found in
    let direction = c.in_ok-direction.ensures.found in
    let keep = c.in_ok-keep.ensures.found in
    let more : words_after (option_copied c.in_ok-keep.rest) ≡ words_of c.in-Some.field-0.now = ap (λ r. words_after (option_copied r)) c.in-Some.is in
    let none : words_of c.in-Some.field-0.now ≡ [] = cc in
    words_some c.in-Some.field-0.now none

pub returns-in_err-parse_rule-clause-found : goal.returns-in_err-parse_rule-clause-found
returns-in_err-parse_rule-clause-found c = rw c.from_residual-in_err-parse_rule.ensures tt

pub returns-in_err-parse_fill-clause-found : goal.returns-in_err-parse_fill-clause-found
returns-in_err-parse_fill-clause-found c = rw c.from_residual-in_err-parse_fill.ensures tt

pub returns-in_err-parse_strategy-clause-found : goal.returns-in_err-parse_strategy-clause-found
returns-in_err-parse_strategy-clause-found c = rw c.from_residual-in_err-parse_strategy.ensures tt

pub returns-in_err-parse_direction-clause-found : goal.returns-in_err-parse_direction-clause-found
returns-in_err-parse_direction-clause-found c = rw c.from_residual-in_err-parse_direction.ensures tt

pub returns-in_err-parse-clause-found : goal.returns-in_err-parse-clause-found
returns-in_err-parse-clause-found c = rw c.from_residual-in_err-parse.ensures tt

pub returns-in_err-rule-clause-found : goal.returns-in_err-rule-clause-found
returns-in_err-rule-clause-found c = rw c.from_residual.ensures tt

pub returns-in_err-rule-clause-none : goal.returns-in_err-rule-clause-none
returns-in_err-rule-clause-none c = rw c.from_residual.ensures (λ o word spells spelled.
    let none = c.in_err-rule.ensures.none in
    absurd (cc))

pub returns-in_err-fill-clause-found : goal.returns-in_err-fill-clause-found
returns-in_err-fill-clause-found c = rw c.from_residual-in_err-fill.ensures tt

pub returns-in_err-fill-clause-none : goal.returns-in_err-fill-clause-none
returns-in_err-fill-clause-none c = rw c.from_residual-in_err-fill.ensures (λ o word spells spelled.
    let rule = c.in_ok-rule.ensures.found in
    let none = c.in_err-fill.ensures.none in
    absurd (cc))

pub returns-in_err-strategy-clause-found : goal.returns-in_err-strategy-clause-found
returns-in_err-strategy-clause-found c = rw c.from_residual-in_err-strategy.ensures tt

pub returns-in_err-strategy-clause-none : goal.returns-in_err-strategy-clause-none
returns-in_err-strategy-clause-none c = rw c.from_residual-in_err-strategy.ensures (λ o word spells spelled.
    let rule = c.in_ok-rule.ensures.found in
    let fill = c.in_ok-fill.ensures.found in
    let none = c.in_err-strategy.ensures.none in
    absurd (cc))

pub returns-in_err-direction-clause-found : goal.returns-in_err-direction-clause-found
returns-in_err-direction-clause-found c = rw c.from_residual-in_err-direction.ensures tt

pub returns-in_err-direction-clause-none : goal.returns-in_err-direction-clause-none
returns-in_err-direction-clause-none c = rw c.from_residual-in_err-direction.ensures (λ o word spells spelled.
    let rule = c.in_ok-rule.ensures.found in
    let fill = c.in_ok-fill.ensures.found in
    let strategy = c.in_ok-strategy.ensures.found in
    let none = c.in_err-direction.ensures.none in
    absurd (cc))

pub returns-in_err-keep-clause-found : goal.returns-in_err-keep-clause-found
returns-in_err-keep-clause-found c = rw c.from_residual-in_err-keep.ensures tt

pub returns-in_err-keep-clause-none : goal.returns-in_err-keep-clause-none
returns-in_err-keep-clause-none c = rw c.from_residual-in_err-keep.ensures (λ o word spells spelled.
    let rule = c.in_ok-rule.ensures.found in
    let fill = c.in_ok-fill.ensures.found in
    let strategy = c.in_ok-strategy.ensures.found in
    let direction = c.in_ok-direction.ensures.found in
    let none = c.in_err-keep.ensures.none in
    absurd (cc))

pub returns-in_err-parse_rule-clause-none : goal.returns-in_err-parse_rule-clause-none
returns-in_err-parse_rule-clause-none c = rw c.from_residual-in_err-parse_rule.ensures (λ o word spells spelled.
    let rule = c.in_ok-rule.ensures.found in
    let same : c.in_ok-rule.rule.now ≡ rule_word o.rule = cc in
    c.in_err-parse_rule.ensures.none o.rule same)

pub returns-in_err-parse_fill-clause-none : goal.returns-in_err-parse_fill-clause-none
returns-in_err-parse_fill-clause-none c = rw c.from_residual-in_err-parse_fill.ensures (λ o word spells spelled.
    let rule = c.in_ok-rule.ensures.found in
    let fill = c.in_ok-fill.ensures.found in
    let same : word ≡ c.in_ok-fill.fill.now = cc in
    c.in_err-parse_fill.ensures.none o.fill (subst (λ w. SpellsFill w o.fill) same spells))

pub returns-in_err-parse_strategy-clause-none : goal.returns-in_err-parse_strategy-clause-none
returns-in_err-parse_strategy-clause-none c = rw c.from_residual-in_err-parse_strategy.ensures (λ o word spells spelled.
    let rule = c.in_ok-rule.ensures.found in
    let fill = c.in_ok-fill.ensures.found in
    let strategy = c.in_ok-strategy.ensures.found in
    let same : c.in_ok-strategy.strategy.now ≡ strategy_word o.strategy = cc in
    c.in_err-parse_strategy.ensures.none o.strategy same)

pub returns-in_err-parse_direction-clause-none : goal.returns-in_err-parse_direction-clause-none
returns-in_err-parse_direction-clause-none c = rw c.from_residual-in_err-parse_direction.ensures (λ o word spells spelled.
    let rule = c.in_ok-rule.ensures.found in
    let fill = c.in_ok-fill.ensures.found in
    let strategy = c.in_ok-strategy.ensures.found in
    let direction = c.in_ok-direction.ensures.found in
    let same : c.in_ok-direction.direction.now ≡ direction_word o.direction = cc in
    c.in_err-parse_direction.ensures.none o.direction same)

pub returns-in_err-parse-clause-none : goal.returns-in_err-parse-clause-none
returns-in_err-parse-clause-none c = rw c.from_residual-in_err-parse.ensures (λ o word spells spelled.
    let rule = c.in_ok-rule.ensures.found in
    let fill = c.in_ok-fill.ensures.found in
    let strategy = c.in_ok-strategy.ensures.found in
    let direction = c.in_ok-direction.ensures.found in
    let keep = c.in_ok-keep.ensures.found in
    let same : c.in_ok-keep.keep.now ≡ keep_word o.keep = cc in
    c.in_err-parse.ensures.none o.keep same)

pub returns-clause-none : goal.returns-clause-none
returns-clause-none c = tt

pub returns-in-Some-clause-found : goal.returns-in-Some-clause-found
returns-in-Some-clause-found c = tt

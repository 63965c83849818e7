use Rattle.std.proofs.Common.{◌≡◌, ◌+◌, ◌/◌, ◌%◌, [], ◌∷◌, ◌++◌, length, arith, ap, sym, ◌∙◌, append_assoc}
use Rattle.std.specs.Prelude.{decimal}
use Rattle.std.proofs.lemmas.Fmt.{decimal_digit, decimal_step_wide}
use Rattle.polybool.specs.Shorts.{text_of_short}
use Rattle.polybool.proofs.DecimalLaws.{length_digit, length_step}
use Rattle.polybool.proofs.reply.Short.+push_decimal.Goals as goal

pub push-requires : goal.push-requires
push-requires t c = let one : length (decimal c.args.n) ≡ 1 = length_digit c.args.n (omega arith) in omega arith

pub returns-then-n-lt10-clause-text : goal.returns-then-n-lt10-clause-text
returns-then-n-lt10-clause-text t c = rw (decimal_digit c.args.n c.if-n-lt10.true) c.push.ensures.text

pub returns-then-n-lt10-clause-length : goal.returns-then-n-lt10-clause-length
returns-then-n-lt10-clause-length t c = rw (length_digit c.args.n c.if-n-lt10.true) c.push.ensures.length

pub push_decimal-requires : goal.push_decimal-requires
push_decimal-requires t c =
    let step : length (decimal c.args.n) ≡ length (decimal (c.args.n / 10)) + 1 = length_step c.args.n (omega arith) (omega arith) in
    (omega arith, omega arith)

pub push-requires-2 : goal.push-requires-2
push-requires-2 t c =
    let step : length (decimal c.args.n) ≡ length (decimal (c.args.n / 10)) + 1 = length_step c.args.n (omega arith) (omega arith) in
    omega arith

pub returns-clause-text : goal.returns-clause-text
returns-clause-text t c =
    c.push-2.ensures.text
    ∙ ap (λ s. s ++ (48 + c.args.n % 10) ∷ []) c.push_decimal.ensures.text
    ∙ append_assoc (text_of_short c.args.self.now) (decimal (c.args.n / 10)) ((48 + c.args.n % 10) ∷ [])
    ∙ ap (λ d. text_of_short c.args.self.now ++ d) (sym (decimal_step_wide c.args.n (omega arith) (omega arith)))

pub returns-clause-length : goal.returns-clause-length
returns-clause-length t c =
    let step : length (decimal c.args.n) ≡ length (decimal (c.args.n / 10)) + 1 = length_step c.args.n (omega arith) (omega arith) in
    omega arith

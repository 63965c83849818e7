use Rattle.std.proofs.Common.{◌∷◌, ap, ◌∙◌}
use Rattle.std.specs.Option.{option_copied}
use Rattle.polybool.specs.Words.{words_after}
use Rattle.polybool.proofs.points.first_point.Goals as goal

pub returns-clause-found : goal.returns-clause-found
returns-clause-found g c =
    let x = c.in_ok-x.ensures in
    let y = c.in_ok-y.ensures in
    record {
      x = c.first_word.result.0.now;
      y = c.first_word-2.result.0.now;
      p = record { x = x.0; y = y.0 };
      words = c.first_word.ensures.words
          ∙ ap (λ r. c.first_word.result.0.now ∷ words_after (option_copied r)) c.in_ok-rest.was
          ∙ ap (λ ws. c.first_word.result.0.now ∷ ws) c.first_word-2.ensures.words;
      x_is = x.1;
      y_is = y.1;
      point = c.point_within-point.ensures (record { x = x.0; y = y.0 }) x.2 y.2;
    }

pub returns-in_err-x-clause-found : goal.returns-in_err-x-clause-found
returns-in_err-x-clause-found g c = rw c.from_residual.ensures tt

pub returns-in_err-x-clause-shorter : goal.returns-in_err-x-clause-shorter
returns-in_err-x-clause-shorter g c = rw c.from_residual.ensures tt

pub returns-in_err-rest-clause-found : goal.returns-in_err-rest-clause-found
returns-in_err-rest-clause-found g c = rw c.from_residual-in_err-rest.ensures tt

pub returns-in_err-rest-clause-shorter : goal.returns-in_err-rest-clause-shorter
returns-in_err-rest-clause-shorter g c = rw c.from_residual-in_err-rest.ensures tt

pub returns-in_err-y-clause-found : goal.returns-in_err-y-clause-found
returns-in_err-y-clause-found g c = rw c.from_residual-in_err-y.ensures tt

pub returns-in_err-y-clause-shorter : goal.returns-in_err-y-clause-shorter
returns-in_err-y-clause-shorter g c = rw c.from_residual-in_err-y.ensures tt

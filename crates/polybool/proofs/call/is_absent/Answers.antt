use Rattle.std.proofs.Common.{refl}
use Rattle.polybool.proofs.call.is_absent.Goals as goal

pub returns-in-Ok : goal.returns-in-Ok
returns-in-Ok g c = λ all is. let some = c.in-Ok.ensures.told all is in (λ t. cc, λ none. cc)

pub returns-in-Err-NotPresent : goal.returns-in-Err-NotPresent
returns-in-Err-NotPresent g c = λ all is.
    (λ _. (rw c.in-Err-NotPresent.field-0-is at c.in-Err-NotPresent.ensures.told) all is, λ _. refl)

pub returns-in-Err-TooLong : goal.returns-in-Err-TooLong
returns-in-Err-TooLong g c = λ all is.
    let told = (rw c.in-Err-TooLong.field-0-is at c.in-Err-TooLong.ensures.told) all is in
    let some = told.1 in
    (λ t. cc, λ none. cc)

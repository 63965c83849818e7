use Rattle.std.proofs.Common.{◌≡◌, true, min, take, ◌+◌}
use Rattle.std.specs.List.{list_all}
use Rattle.polybool.specs.Numerals.{is_digit, digits_value}
use Rattle.polybool.proofs.numeral.capped.Given as goal

abbrev pub invariant-loop-digit : goal.invariant-loop-digit
invariant-loop-digit l = (list_all is_digit (take l.digit-index l.digits) ≡ true)
    × (l.number ≡ min (digits_value (take l.digit-index l.digits)) (l.limit + 1))

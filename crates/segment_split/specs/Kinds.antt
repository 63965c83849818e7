-- The range of counts.
use Rattle.std.specs.Prelude.{ℤ, pos, negsuc, Bool, ◌&&◌, int_le}
use Rattle.plane_base.specs.Counts.{Count}

abbrev pub number_fits : ℤ → Bool
number_fits n = int_le (negsuc 2147483646) n && int_le n (pos 2147483647)

-- Both numbers lie from -2147483647 to 2147483647.
abbrev pub count_fits : Count → Bool
count_fits c = number_fits c.subject && number_fits c.clip

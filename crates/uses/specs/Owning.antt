-- Sets of owners, one bit for each.
use Rattle.std.specs.Prelude.{◌≡◌, ℕ, bit_or}
use Rattle.std.specs.Int.{bit_at}
use Rattle.uses.specs.declared.owners.Owners.{Owners}

-- the owner of this number is one of them
abbrev pub Owns : Owners → ℕ → Type 0
Owns owners number = bit_at owners.bits number ≡ 1

-- the owners of either
abbrev pub union : Owners → Owners → Owners
union one other = record { bits = bit_or one.bits other.bits }

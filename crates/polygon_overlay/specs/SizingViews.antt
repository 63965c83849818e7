-- What contracts see of the code's amounts.
use Rattle.std.specs.Prelude.{ℤ}
use Rattle.polygon_overlay.specs.Sizing.{Amounts}
use Rattle.polygon_overlay.specs.declared.sizing.Sizing.{Sizing}

-- the four amounts, by their values
abbrev pub amounts_of : {I : Type 0} → (I → ℤ) → Sizing I → Amounts
amounts_of value by = record { left = value by.left; right = value by.right; bottom = value by.bottom; top = value by.top }

-- What is held of the line that is being read.
use Rattle.std.specs.Prelude.{◌≡◌, ℕ, ◌+◌, ◌<◌, ◌≤◌, List, length, vec_len, vec_capacity}
use Rattle.polybool.specs.Lines.{longest}
use Rattle.polybool.specs.declared.line.Line.{Line}
use Rattle.polybool.specs.declared.line.State.{State}
use Rattle.polybool.specs.declared.line.State.TheVariants.{Whole, Dropped, Unheld}
use Rattle.polybool.specs.declared.refusal.Refusal.{Refusal}
use Rattle.polybool.specs.declared.refusal.Refusal.TheVariants.{Memory, TooLong}

-- these bytes are held, or only that there were too many or some found no room
abbrev pub HoldsBy : State → List ℕ → List ℕ → Type 0
HoldsBy Whole held bytes = (held ≡ bytes) × (length bytes ≤ longest)
HoldsBy Dropped held bytes = longest < length bytes
HoldsBy Unheld held bytes = 0 < length bytes

-- the bytes of the line so far
abbrev pub Holds : Line → List ℕ → Type 0
Holds line bytes = HoldsBy line.state line.bytes.items bytes

-- The line would be short enough with these bytes, and its list has no room for them.
abbrev pub FindsNoRoom : Line → List ℕ → Type 0
FindsNoRoom line piece = (vec_len line.bytes + length piece ≤ longest) × (vec_capacity line.bytes < vec_len line.bytes + length piece)

-- why the bytes aren't held
abbrev pub IsUnheld : State → List ℕ → Refusal → Type 0
IsUnheld Whole bytes e = ⊥
IsUnheld Dropped bytes e = (e ≡ TooLong) × (longest < length bytes)
IsUnheld Unheld bytes e = (e ≡ Memory) × (0 < length bytes)

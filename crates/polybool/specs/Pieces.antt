-- Text that is laid in a piece before it goes out.
use Rattle.std.specs.Prelude.{◌≡◌, ℕ, ◌<◌, List, ◌++◌, length, take, Option, Result, MatchResult}
use Rattle.std.specs.Io.KnownBytes.{Appends}
use Rattle.polybool.specs.declared.piece.Piece.{Piece}

-- the text that was laid and has not gone out
abbrev pub text_of_piece : Piece → List ℕ
text_of_piece piece = take piece.length piece.bytes

-- The text was laid behind the old: what went out and what is laid now are together both.
pub record Laid (before after : Option (List ℕ)) (old new text : List ℕ) : Type 0 where
  pub sent : List ℕ
  pub whole : old ++ text ≡ sent ++ new
  pub went : Appends before after sent

-- A write failed: a beginning of the old and the text went out, and not all.
pub record Broken (before after : Option (List ℕ)) (old text : List ℕ) : Type 0 where
  pub sent : List ℕ
  pub unsent : List ℕ
  pub whole : old ++ text ≡ sent ++ unsent
  pub went : Appends before after sent
  pub left : 0 < length unsent

-- The text is laid behind the old, or a write fails.
abbrev pub Lays : {T E : Type 0} → Option (List ℕ) → Option (List ℕ) → List ℕ → List ℕ → List ℕ → Result T E → Type 0
Lays before after old new text r = MatchResult r (λ _. Laid before after old new text) (λ _. Broken before after old text)

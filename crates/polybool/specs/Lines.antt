-- The lines of an input.
use Rattle.std.specs.Prelude.{if◌then◌else◌, ◌≡◌, ◌≢◌, ℕ, ◌<◌, List, [], ◌∷◌, ◌++◌, length, flat_map, All, ◌==◌}

-- the most bytes that a line may have before its end
abbrev pub longest : ℕ
longest = 1048576

-- a line's bytes, none of them the line feed, byte 10, that ends it
abbrev pub IsLine : List ℕ → Type 0
IsLine line = All (λ b. b ≢ 10) line

abbrev pub ended : List ℕ → List ℕ
ended line = line ++ 10 ∷ []

-- the input is these lines, each with its end, and then a rest without one
pub record Splits (input : List ℕ) (lines : List (List ℕ)) (rest : List ℕ) : Type 0 where
  pub whole : input ≡ flat_map ended lines ++ rest
  pub each : All IsLine lines
  pub last : IsLine rest

-- The lines of the whole input. The last needs no end.
pub data AreLines : List ℕ → List (List ℕ) → Type 0 where
  ended_all : {input : List ℕ} {lines : List (List ℕ)} → Splits input lines [] → AreLines input lines
  open_last : {input : List ℕ} {lines : List (List ℕ)} {rest : List ℕ} → Splits input lines rest → 0 < length rest
      → AreLines input (lines ++ rest ∷ [])

-- the text of a line: without the carriage return, byte 13, that ends it
abbrev pub text_of : List ℕ → List ℕ
text_of [] = []
text_of (b ∷ []) = if b == 13 then [] else b ∷ []
text_of (b ∷ c ∷ bs) = b ∷ text_of (c ∷ bs)

-- What a run read and wrote.
use Rattle.std.specs.Prelude.{◌≡◌, ℕ, ℤ, pos, negsuc, suc, ◌<◌, ◌⊎◌, List, [], ◌∷◌, ◌++◌, length, flat_map, All, Option, Result, MatchResult}
use Rattle.std.specs.Io.KnownBytes.{Appends, Consumes, IsAtEnd}
use Rattle.polybool.specs.Lines.{IsLine, ended, Splits, AreLines}
use Rattle.polybool.specs.Stores.{Store}
use Rattle.polybool.specs.Replies.{IsReply, AreReplies}
use Rattle.polybool.specs.declared.run.RunFault.{RunFault}
use Rattle.polybool.specs.declared.run.RunFault.TheVariants.{Read, Write}

-- The output is the replies to all lines of the input, and nothing else.
pub record IsTranscript (least greatest : ℤ) (input output : List ℕ) : Type 0 where
  pub lines : List (List ℕ)
  pub kept : Store
  pub are_lines : AreLines input lines
  pub replies : AreReplies least greatest lines output kept

-- Reading stopped in the line of this number: all lines before it are answered, and nothing else.
pub record StopsReading (least greatest : ℤ) (input output : List ℕ) (number : ℕ) : Type 0 where
  pub lines : List (List ℕ)
  pub rest : List ℕ
  pub kept : Store
  pub splits : Splits input lines rest
  pub replies : AreReplies least greatest lines output kept
  pub count : number ≡ suc (length lines)

-- the input begins with these lines, each with its end
pub record BeginsWithLines (input : List ℕ) (lines : List (List ℕ)) : Type 0 where
  pub more : List ℕ
  pub whole : input ≡ flat_map ended lines ++ more
  pub each : All IsLine lines

-- Writing broke off in the reply to this line, which comes after these: they are answered, and a beginning of its
-- reply went out, and not all.
pub record BreaksOff (least greatest : ℤ) (lines : List (List ℕ)) (line output : List ℕ) : Type 0 where
  pub text : List ℕ
  pub sent : List ℕ
  pub unsent : List ℕ
  pub kept : Store
  pub after : Store
  pub is : output ≡ text ++ sent
  pub replies : AreReplies least greatest lines text kept
  pub reply : IsReply least greatest (suc (length lines)) kept line (sent ++ unsent) after
  pub left : 0 < length unsent

-- Writing stopped in the reply to the line of this number, whose end was read.
pub record StopsWriting (least greatest : ℤ) (input output : List ℕ) (number : ℕ) : Type 0 where
  pub lines : List (List ℕ)
  pub line : List ℕ
  pub begins : BeginsWithLines input (lines ++ line ∷ [])
  pub breaks : BreaksOff least greatest lines line output
  pub count : number ≡ suc (length lines)

-- Writing stopped when the whole input was read: in the reply to the last line, or after all replies. The number is
-- that of the last line.
pub data StopsAtEnd : ℤ → ℤ → List ℕ → List ℕ → ℕ → Type 0 where
  in_last : {least greatest : ℤ} {input output : List ℕ} {lines : List (List ℕ)} {line : List ℕ} → AreLines input (lines ++ line ∷ [])
      → BreaksOff least greatest lines line output → StopsAtEnd least greatest input output (suc (length lines))
  after_last : {least greatest : ℤ} {input output : List ℕ} {lines : List (List ℕ)} {kept : Store} → AreLines input lines
      → AreReplies least greatest lines output kept → StopsAtEnd least greatest input output (length lines)

-- Why a run stopped. A last line without its end is answered, and the last flush fails, only where the reader came
-- to its end.
abbrev pub Stops : ℤ → ℤ → Type 0 → RunFault → List ℕ → List ℕ → Type 0
Stops least greatest at_end (Read line) input output = StopsReading least greatest input output line
Stops least greatest at_end (Write line) input output = StopsWriting least greatest input output line ⊎ at_end × StopsAtEnd least greatest input output line

-- What a run took from a reader and gave to a writer, by the bytes that were unread before it and after it, and those
-- that were written: all lines are answered and the reader is at its end, or the run stopped for this fault.
abbrev pub IsRunIn : {X : Type 0} → ℤ → ℤ → Option (List ℕ) → Option (List ℕ) → Option (List ℕ) → Option (List ℕ) → Result X RunFault → Type 0
IsRunIn least greatest unread left written after result =
    (input output : List ℕ) × Consumes unread left input × Appends written after output
    × MatchResult result (λ _. IsAtEnd left × IsTranscript least greatest input output) (λ fault. Stops least greatest (IsAtEnd left) fault input output)

-- A run whose coordinates are those of 20 bits, and one of those of 37 bits.
abbrev pub IsRun : {X : Type 0} → Option (List ℕ) → Option (List ℕ) → Option (List ℕ) → Option (List ℕ) → Result X RunFault → Type 0
IsRun unread left written after result = IsRunIn (negsuc 524287) (pos 524287) unread left written after result

abbrev pub IsWideRun : {X : Type 0} → Option (List ℕ) → Option (List ℕ) → Option (List ℕ) → Option (List ℕ) → Result X RunFault → Type 0
IsWideRun unread left written after result = IsRunIn (negsuc 68719476735) (pos 68719476735) unread left written after result

-- the number of a fault
abbrev pub number_of : RunFault → ℕ
number_of (Read line) = 1
number_of (Write line) = 2

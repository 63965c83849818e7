-- How the program is called.
use Rattle.std.specs.Prelude.{◌≡◌, ◌≢◌, ◌⊎◌, ℕ, ◌<◌, ◌≤◌, ◌==◌, Bool, true, false, not, List, [], ◌∷◌, length, take, codes, IsUtf8, ⊤}
use Rattle.std.specs.Prelude.{Option, Some, None, Result, Ok, Err}
use Rattle.std.specs.Borrow.{Bor}
use Rattle.std.specs.declared.env.FillError.{FillError}
use Rattle.std.specs.declared.env.FillError.TheVariants.{NotPresent, TooLong}
use Rattle.polybool.specs.declared.call.Call.{Call}
use Rattle.polybool.specs.declared.call.Call.TheVariants.{Input, File, Help, Version, Unknown}

-- It holds of the arguments, where they are known.
abbrev pub IfKnown : Option (List (List ℕ)) → (List (List ℕ) → Type 0) → Type 0
IfKnown known Holds = (all : List (List ℕ)) → known ≡ Some all → Holds all

-- What is told of an argument: the bytes begin with it, and this is its length; it isn't there; or it has more bytes than these.
abbrev pub IsGiven : Option (List ℕ) → Result ℕ FillError → List ℕ → Type 0
IsGiven argument (Ok count) bytes = argument ≡ Some (take count bytes)
IsGiven argument (Err NotPresent) bytes = argument ≡ None
IsGiven argument (Err TooLong) bytes = (word : List ℕ) × (argument ≡ Some word) × (length bytes < length word)

-- the most bytes of an argument that are read
abbrev pub longest_argument : ℕ
longest_argument = 4096

-- It can be read as text: it is no longer, and UTF-8.
abbrev pub IsReadable : List ℕ → Type 0
IsReadable word = (length word ≤ longest_argument) × IsUtf8 word

abbrev pub IsUnreadable : List ℕ → Type 0
IsUnreadable word = IsReadable word → ⊥

-- An argument was read as text; it isn't there; or it can't be read.
abbrev pub IsRead : Option (List ℕ) → Result (Bor (List ℕ)) FillError → Type 0
IsRead argument (Ok word) = (argument ≡ Some word.now) × IsReadable word.now
IsRead argument (Err NotPresent) = argument ≡ None
IsRead argument (Err TooLong) = (word : List ℕ) × (argument ≡ Some word) × IsUnreadable word

-- It stands for a file where it is alone: it isn't empty, and doesn't begin with a hyphen.
abbrev pub is_name : List ℕ → Bool
is_name [] = false
is_name (b ∷ bs) = not (b == 45)

-- It stands for nothing where it is alone: for no file, and it is none of these.
pub record MeansNothing (word : List ℕ) : Type 0 where
  pub not_name : is_name word ≡ false
  pub not_input : word ≢ codes "-"
  pub not_mark : word ≢ codes "--"
  pub not_help : word ≢ codes "--help"
  pub not_version : word ≢ codes "--version"

-- Arguments ask for nothing that is known: one that is alone can't be read, or stands for nothing; of two the first isn't the mark "--", or the second can't be
-- read; or there are more.
abbrev pub AskNothing : List (List ℕ) → Type 0
AskNothing [] = ⊥
AskNothing (word ∷ []) = IsUnreadable word ⊎ MeansNothing word
AskNothing (mark ∷ path ∷ []) = (mark ≢ codes "--") ⊎ IsUnreadable path
AskNothing (one ∷ two ∷ three ∷ more) = ⊤

-- What arguments ask for.
abbrev pub Ask : List (List ℕ) → Call → Type 0
Ask words Input = (words ≡ []) ⊎ (words ≡ codes "-" ∷ []) ⊎ (words ≡ codes "--" ∷ [])
Ask words (File path) = IsReadable path.now × ((words ≡ codes "--" ∷ path.now ∷ []) ⊎ (words ≡ path.now ∷ []) × (is_name path.now ≡ true))
Ask words Help = words ≡ codes "--help" ∷ []
Ask words Version = words ≡ codes "--version" ∷ []
Ask words Unknown = AskNothing words

-- the argument that makes coordinates wide
abbrev pub wide : List ℕ
wide = codes "--wide"

-- The arguments behind the program's name ask for this, with wide coordinates or with narrow ones.
abbrev pub CallsFor : List (List ℕ) → Bool → Call → Type 0
CallsFor words true call = (rest : List (List ℕ)) × (words ≡ wide ∷ rest) × Ask rest call
CallsFor words false call = ((rest : List (List ℕ)) → words ≢ wide ∷ rest) × Ask words call

-- The text of an error line that is made without memory.
use Rattle.std.specs.Prelude.{ℕ, List, take}
use Rattle.polybool.specs.declared.reply.Short.{Short}

-- the bytes that are set so far
abbrev pub text_of_short : Short → List ℕ
text_of_short line = take line.length line.bytes

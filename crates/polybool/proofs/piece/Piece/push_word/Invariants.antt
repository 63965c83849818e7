use Rattle.std.proofs.Common.{◌≡◌, ◌+◌, ◌++◌, take}
use Rattle.polybool.specs.Pieces.{text_of_piece}
use Rattle.polybool.proofs.piece.Piece.push_word.Given as goal

abbrev pub invariant-loop-byte : goal.invariant-loop-byte
invariant-loop-byte l =
    (text_of_piece l.self ≡ text_of_piece l.fn.self ++ take l.byte-index l.word) × (l.self.length ≡ l.fn.self.length + l.byte-index)

use Rattle.std.proofs.Common.{◌+◌, length, arith, add-one}
use Rattle.std.proofs.lemmas.List.{take_rest}
use Rattle.polybool.proofs.WordLaws.{words_at, words_whole, NoSpaceBefore}
use Rattle.polybool.proofs.text.first_word.Goals as goal

pub returns-then-byte-eq32-clause-words : goal.returns-then-byte-eq32-clause-words
returns-then-byte-eq32-clause-words c =
    rw (take_rest c.args.text.now (c.loop-index.index + 1), add-one)
    (words_at c.args.text.now c.loop-index.index (omega arith) c.loop-index.invariant c.if-byte-eq32.true)

pub returns-clause-words : goal.returns-clause-words
returns-clause-words c =
    let none : NoSpaceBefore c.args.text.now (length c.args.text.now) = λ k below. c.loop-index.invariant k (omega arith) in
    words_whole c.args.text.now none

use Rattle.std.proofs.Common.{[]}
use Rattle.std.proofs.lemmas.Result.{err_from_is_err_and}
use Rattle.polybool.proofs.PieceLaws.{Laid-after, Broken-before}
use Rattle.polybool.proofs.shapes.lay_word.Goals as goal

pub returns-in_err-make_room : goal.returns-in_err-make_room
returns-in_err-make_room g c =
    let p = err_from_is_err_and c.from_residual.result c.from_residual.ensures.1 in
    rw p.1 (Broken-before _ _ _ [] _ c.in_err-make_room.ensures.lays)

pub returns : goal.returns
returns g c = Laid-after _ _ _ _ _ _ c.in_ok-make_room.ensures.lays c.push_word.ensures.text

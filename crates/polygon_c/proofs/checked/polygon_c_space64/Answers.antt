use Rattle.std.proofs.Common.{[], refl, subst, inl, inr}
use Rattle.std.specs.Int.{w64}
use Rattle.std.specs.Prelude.{pos, negsuc}
use Rattle.std.proofs.lemmas.Int.{to_z-of_z}
use Rattle.polygon_c.specs.Checkings.{AnswersSpaces, AreNoSpaces}
use Rattle.polygon_c.specs.Flat.{lists_of}
use Rattle.polygon_c.specs.Given.{given, wide_plane_point, wide_c_point}
use Rattle.polygon_c.proofs.checked.polygon_c_space64.Goals as goal

pub returns-in-Ok-clause-called : goal.returns-in-Ok-clause-called
returns-in-Ok-clause-called c =
    let alone = given c.args.subject.now c.args.subject_lengths.now [] [] in
    let answer = lists_of c.in-Ok.laid in
    let answered = subst (λ side. AnswersSpaces wide_plane_point wide_c_point (negsuc 68719476735) (pos 68719476735) side c.args.query.now alone answer)
    (to_z-of_z w64 c.args.space c.ranges.space) c.in-Ok.ensures.answered in
    inl (answer, answered, c.hand_out.ensures.sizes, c.hand_out.ensures.handed)

pub returns-in-Err-clause-called : goal.returns-in-Err-clause-called
returns-in-Err-clause-called c =
    let alone = given c.args.subject.now c.args.subject_lengths.now [] [] in
    let refused = subst (λ side. AreNoSpaces wide_plane_point (negsuc 68719476735) (pos 68719476735) side c.args.query.now alone c.in-Err.refusal)
    (to_z-of_z w64 c.args.space c.ranges.space) c.in-Err.ensures.refused in
    inr (c.in-Err.refusal, c.wide_status.ensures, refused, refl)

use Rattle.std.proofs.lemmas.Grind.{common_steps}
use Rattle.std.proofs.Common.{arith, ℕ, List, [], ◌++◌}
use Rattle.std.proofs.lemmas.Result.{err_from_is_err_and}
use Rattle.reference.proofs.arrangements.segments_of.Goals as goal
use contract.BorrowLft.{◌⊑◌, ⊑_meet, ⊑_static}

-- lifetimes that end within those of a number end within those that calls ask of segments without data
abbrev point_lives : List ℕ → List ℕ
point_lives l = (l ++ []) ++ (l ++ (l ++ []))

abbrev boolean_lives : List ℕ → List ℕ
boolean_lives l = (l ++ []) ++ (((l ++ []) ++ (point_lives l ++ (point_lives l ++ []))) ++ [])

with_none : (κ l : List ℕ) → κ ⊑ l → κ ⊑ (l ++ [])
with_none κ l h = ⊑_meet κ l [] h (⊑_static κ)

within_twice : (κ l : List ℕ) → κ ⊑ l → κ ⊑ (l ++ l)
within_twice κ l h = ⊑_meet κ l l h h

within_point : (κ l : List ℕ) → κ ⊑ l → κ ⊑ point_lives l
within_point κ l h =
    let ends : κ ⊑ (l ++ []) = with_none κ l h in
    ⊑_meet κ (l ++ []) (l ++ (l ++ [])) ends (⊑_meet κ l (l ++ []) h ends)

within_boolean : (κ l : List ℕ) → κ ⊑ l → κ ⊑ boolean_lives l
within_boolean κ l h =
    let number : κ ⊑ (l ++ []) = with_none κ l h in
    let point : κ ⊑ point_lives l = within_point κ l h in
    let points : κ ⊑ (point_lives l ++ (point_lives l ++ [])) = ⊑_meet κ (point_lives l) (point_lives l ++ []) point (with_none κ (point_lives l) point) in
    ⊑_meet κ (l ++ []) (((l ++ []) ++ (point_lives l ++ (point_lives l ++ []))) ++ []) number
    (with_none κ ((l ++ []) ++ (point_lives l ++ (point_lives l ++ []))) (⊑_meet κ (l ++ []) (point_lives l ++ (point_lives l ++ [])) number points))

pub returns-in_err-push : goal.returns-in_err-push
returns-in_err-push g c = rw ((err_from_is_err_and c.from_residual.result c.from_residual.ensures.1).1) tt

pub returns-in_default : goal.returns-in_default
returns-in_default g c = tt

pub new-segments-requires : goal.new-segments-requires
new-segments-requires g c κs = λ h. (within_boolean κs.0 g.row.I.lives h, ⊑_static κs.1.0)

pub push-requires : goal.push-requires
push-requires g c κs = λ h. (within_boolean κs.1.0 g.row.I.lives h, ⊑_static κs.1.1.0)

pub branch-push-requires : goal.branch-push-requires
branch-push-requires g c κs = λ h.
    let b = boolean_lives g.row.I.lives in
    (⊑_static κs.0, within_twice κs.1.0 (b ++ []) (with_none κs.1.0 b (within_boolean κs.1.0 g.row.I.lives h)))

pub from_residual-requires : goal.from_residual-requires
from_residual-requires g c κs = λ h.
    let b = boolean_lives g.row.I.lives in
    let all : κs.0 ⊑ (((b ++ []) ++ []) ++ []) = with_none κs.0 ((b ++ []) ++ []) (with_none κs.0 (b ++ []) (with_none κs.0 b (within_boolean κs.0 g.row.I.lives h.0))) in (
      ⊑_meet κs.0 (((b ++ []) ++ []) ++ []) ((((b ++ []) ++ []) ++ []) ++ []) all (with_none κs.0 (((b ++ []) ++ []) ++ []) all),
      (within_twice κs.1.0 (b ++ []) (with_none κs.1.0 b (within_boolean κs.1.0 g.row.I.lives h.1)), ⊑_static κs.1.1.0),
    )

pub loop-edge-init : goal.loop-edge-init
loop-edge-init g c = grind (arith, common_steps)

pub loop-edge-preserved : goal.loop-edge-preserved
loop-edge-preserved g c = grind (arith, common_steps)

pub returns : goal.returns
returns g c = grind (arith, common_steps)

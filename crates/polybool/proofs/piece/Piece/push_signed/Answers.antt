use Rattle.std.proofs.Common.{◌≤◌, ◌+◌, length, ap, arith}
use Rattle.std.specs.Prelude.{decimal}
use Rattle.polybool.proofs.DecimalLaws.{length_number}
use Rattle.polybool.proofs.piece.Piece.push_signed.Goals.{then-n-lt0, else-n-lt0}
use Rattle.polybool.proofs.piece.Piece.push_signed.Goals as goal

pub push_decimal-requires : goal.push_decimal-requires
push_decimal-requires c =
    let few : length (decimal c.unsigned_abs.result) ≤ 20 = length_number c.unsigned_abs.result c.unsigned_abs.type_inv in
    let sign : c.if-n-lt0.self.length ≤ c.args.self.now.length + 1 = elim c.if-n-lt0.branch [
      | then-n-lt0 w ↦ omega (arith, ap (λ s. s.length) w.self-is, w.push.ensures.length)
      | else-n-lt0 w ↦ omega (arith, ap (λ s. s.length) w.self-is)
    ] in
    omega arith

pub returns-clause-length : goal.returns-clause-length
returns-clause-length c =
    let few : length (decimal c.unsigned_abs.result) ≤ 20 = length_number c.unsigned_abs.result c.unsigned_abs.type_inv in
    let sign : c.if-n-lt0.self.length ≤ c.args.self.now.length + 1 = elim c.if-n-lt0.branch [
      | then-n-lt0 w ↦ omega (arith, ap (λ s. s.length) w.self-is, w.push.ensures.length)
      | else-n-lt0 w ↦ omega (arith, ap (λ s. s.length) w.self-is)
    ] in
    omega arith

use Rattle.std.specs.Prelude.{◌≡◌, ◌↔◌, ◌⊎◌}
use Rattle.std.proofs.Common.{sym, ap, subst}
use Rattle.std.specs.Int.{bit_at}
use Rattle.uses.specs.Owning.{Owns}
use Rattle.uses.proofs.Sets.{either_bit}
use Rattle.uses.proofs.owners.owners_of_border.Goals as goal

pub returns : goal.returns
returns g c = λ n.
    let one = c.args.one.now.datum in
    let other = c.args.other.now.datum in
    subst (λ m. (bit_at m n ≡ 1) ↔ (Owns one n ⊎ Owns other n)) (sym (ap (λ o. o.bits) c.merge.ensures)) (either_bit one.bits other.bits n)

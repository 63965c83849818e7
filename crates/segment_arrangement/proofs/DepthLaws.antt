-- A depth is told by its number of windings.
use Rattle.std.proofs.Common.{◌≡◌, ℤ, pos, ◌≤ℤ◌, subst, ap}
use Rattle.std.proofs.Math.Dec.{T_prop}
use Rattle.segment_arrangement.specs.declared.depth.Depth.{Depth}

-- There is one proof at most that a number is not below another.
one_proof : (n w : ℤ) → IsProp (n ≤ℤ w)
one_proof n w p q = λ i. record { le = T_prop _ p.le q.le i }

pub same_depth : (a b : Depth) → a.windings ≡ b.windings → a ≡ b
same_depth a b e =
    subst (λ w. (p : pos 1 ≤ℤ w) → a ≡ record { windings = w; some = p }) e
    (λ p. ap (λ q. record { windings = a.windings; some = q }) (one_proof (pos 1) a.windings a.some p)) b.some

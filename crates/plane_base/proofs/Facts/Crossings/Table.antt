-- Thirty of the pairs of the test's table, of every kind and in the whole range, with the answers of an independent program, compared by computation.
use Rattle.std.proofs.Common.{◌≡◌, ℕ, ℤ, pos, negsuc, refl, List, [], ◌∷◌}
use Rattle.std.specs.Prelude.{map}
use Rattle.plane_base.specs.Plane.{Point, Edge}
use Rattle.plane_base.specs.Crossing.{Meeting, apart, pure, target_end, other_end, overlay, cross_meeting, late_meeting}

-- a pair, a radius, and what the definition has to give early and late
record Row : Type 0 where
  target : Edge
  other : Edge
  radius : ℕ
  early : Meeting
  late : Meeting

abbrev at : ℤ → ℤ → Point
at x y = record { x = x; y = y }

abbrev from : ℤ → ℤ → ℤ → ℤ → Edge
from x y z w = record { a = at x y; b = at z w }

abbrev row : Edge → Edge → ℕ → Meeting → Meeting → Row
row s t radius early late = record { target = s; other = t; radius = radius; early = early; late = late }

-- the row with the definition's own answers
abbrev reckoned : Row → Row
reckoned r = record r { early = cross_meeting r.target r.other r.radius; late = late_meeting r.target r.other }

abbrev rows : List Row
rows =
    row (from (negsuc 74) (pos 40) (pos 751) (pos 202)) (from (pos 599) (negsuc 46) (pos 754) (pos 892)) 4 (pure (at (pos 636) (pos 180))) (pure (at (pos 636) (pos 180))) ∷
    row (from (pos 0) (pos 3) (pos 2) (pos 1)) (from (pos 5) (pos 4) (pos 6) (pos 1)) 1 apart apart ∷
    row (from (pos 219) (negsuc 188) (pos 299) (negsuc 914)) (from (pos 339) (pos 513) (pos 975) (negsuc 72)) 2 apart apart ∷
    row (from (negsuc 524287) (pos 524278) (pos 524280) (negsuc 524279)) (from (negsuc 524287) (pos 524284) (negsuc 114669) (negsuc 524287)) 1 (pure (at (negsuc 524283) (pos 524274))) (pure (at (negsuc 524283) (pos 524274))) ∷
    row (from (negsuc 19) (negsuc 15) (negsuc 18) (negsuc 15)) (from (negsuc 16) (pos 10) (pos 4) (pos 5)) 1048576 apart apart ∷
    row (from (pos 0) (pos 0) (pos 1) (pos 1)) (from (pos 0) (pos 2) (pos 2) (pos 0)) 1152921504606846976 (target_end (at (pos 1) (pos 1))) (target_end (at (pos 1) (pos 1))) ∷
    row (from (negsuc 524287) (negsuc 443135) (pos 524287) (pos 524284)) (from (negsuc 524284) (negsuc 257486) (pos 524278) (pos 524287)) 8 apart apart ∷
    row (from (negsuc 524279) (negsuc 524287) (pos 524281) (pos 524280)) (from (negsuc 99458) (pos 524282) (pos 518522) (negsuc 524280)) 4 (pure (at (pos 131835) (pos 131832))) (pure (at (pos 131835) (pos 131832))) ∷
    row (from (negsuc 98) (pos 936) (pos 388) (pos 411)) (from (pos 61) (pos 720) (pos 844) (pos 481)) 1152921504606846976 (other_end (at (pos 61) (pos 720))) (pure (at (pos 117) (pos 703))) ∷
    row (from (negsuc 524279) (negsuc 524281) (pos 397246) (negsuc 179620)) (from (negsuc 513936) (negsuc 432112) (pos 48155) (pos 337816)) 1048576 apart apart ∷
    row (from (negsuc 963) (negsuc 803) (pos 403) (pos 636)) (from (negsuc 741) (negsuc 589) (negsuc 175) (pos 286)) 4 (pure (at (negsuc 701) (negsuc 527))) (pure (at (negsuc 701) (negsuc 527))) ∷
    row (from (negsuc 96) (pos 62) (pos 79) (negsuc 89)) (from (pos 10) (negsuc 46) (pos 53) (negsuc 4)) 4 (pure (at (pos 19) (negsuc 37))) (pure (at (pos 19) (negsuc 37))) ∷
    row (from (pos 0) (pos 0) (pos 3) (pos 1)) (from (pos 0) (pos 3) (pos 1) (pos 0)) 1152921504606846976 (other_end (at (pos 1) (pos 0))) (pure (at (pos 1) (pos 0))) ∷
    row (from (pos 0) (pos 0) (pos 1) (pos 2)) (from (pos 0) (pos 2) (pos 1) (pos 1)) 1048576 (other_end (at (pos 1) (pos 1))) (pure (at (pos 1) (pos 1))) ∷
    row (from (negsuc 7) (pos 12) (pos 6) (negsuc 1)) (from (negsuc 1) (pos 6) (pos 6) (negsuc 1)) 64 (overlay (at (negsuc 1) (pos 6))) (overlay (at (negsuc 1) (pos 6))) ∷
    row (from (negsuc 9) (pos 1) (pos 1) (pos 1)) (from (negsuc 2) (negsuc 7) (pos 2) (pos 6)) 1048576 (target_end (at (pos 1) (pos 1))) (pure (at (pos 0) (pos 1))) ∷
    row (from (negsuc 524287) (negsuc 403224) (pos 524278) (pos 524287)) (from (negsuc 524287) (pos 116338) (negsuc 524286) (negsuc 524287)) 2 (target_end (at (negsuc 524287) (negsuc 403224))) (pure (at (negsuc 524286) (negsuc 403223))) ∷
    row (from (negsuc 992) (pos 650) (negsuc 284) (pos 747)) (from (negsuc 817) (pos 819) (negsuc 225) (pos 707)) 1152921504606846976 (target_end (at (negsuc 284) (pos 747))) (pure (at (negsuc 372) (pos 735))) ∷
    row (from (negsuc 7) (pos 7) (negsuc 1) (pos 1)) (from (negsuc 5) (pos 5) (pos 0) (negsuc 0)) 1048576 (overlay (at (negsuc 5) (pos 5))) (overlay (at (negsuc 5) (pos 5))) ∷
    row (from (negsuc 20) (pos 9) (pos 0) (pos 9)) (from (negsuc 17) (pos 9) (negsuc 5) (pos 9)) 4 (overlay (at (negsuc 17) (pos 9))) (overlay (at (negsuc 17) (pos 9))) ∷
    row (from (negsuc 524287) (negsuc 524284) (pos 524280) (pos 524284)) (from (negsuc 249316) (pos 524287) (pos 359532) (negsuc 524285)) 2 (pure (at (pos 34863) (pos 34866))) (pure (at (pos 34863) (pos 34866))) ∷
    row (from (pos 0) (pos 3) (pos 3) (pos 1)) (from (pos 1) (pos 0) (pos 3) (pos 3)) 2 (target_end (at (pos 3) (pos 1))) (pure (at (pos 2) (pos 2))) ∷
    row (from (negsuc 524287) (negsuc 524281) (pos 524287) (pos 524278)) (from (negsuc 524281) (negsuc 524287) (pos 49927) (pos 524282)) 1 (pure (at (negsuc 524266) (negsuc 524260))) (pure (at (negsuc 524266) (negsuc 524260))) ∷
    row (from (negsuc 524287) (pos 524287) (pos 197155) (pos 524287)) (from (negsuc 524281) (pos 524287) (negsuc 164593) (negsuc 524280)) 1 (other_end (at (negsuc 524281) (pos 524287))) (other_end (at (negsuc 524281) (pos 524287))) ∷
    row (from (pos 0) (pos 0) (pos 2) (pos 0)) (from (pos 1) (pos 0) (pos 2) (pos 2)) 1 (other_end (at (pos 1) (pos 0))) (other_end (at (pos 1) (pos 0))) ∷
    row (from (pos 0) (pos 0) (pos 4) (pos 0)) (from (pos 1) (pos 4) (pos 3) (pos 0)) 1152921504606846976 (other_end (at (pos 3) (pos 0))) (other_end (at (pos 3) (pos 0))) ∷
    row (from (pos 524283) (negsuc 524284) (pos 524287) (negsuc 524285)) (from (pos 524285) (negsuc 524282) (pos 524287) (negsuc 524287)) 1048576 (target_end (at (pos 524287) (negsuc 524285))) (pure (at (pos 524286) (negsuc 524285))) ∷
    row (from (negsuc 524287) (negsuc 524287) (negsuc 524287) (pos 524285)) (from (negsuc 524287) (negsuc 524281) (pos 524287) (negsuc 142168)) 8 (other_end (at (negsuc 524287) (negsuc 524281))) (other_end (at (negsuc 524287) (negsuc 524281))) ∷
    row (from (pos 405067) (pos 524284) (pos 524286) (pos 524287)) (from (pos 524285) (pos 524287) (pos 524287) (negsuc 524287)) 2 (other_end (at (pos 524285) (pos 524287))) (pure (at (pos 524285) (pos 524287))) ∷
    row (from (negsuc 524287) (negsuc 524281) (pos 524286) (pos 524287)) (from (negsuc 524286) (pos 524287) (pos 524287) (pos 524287)) 64 (target_end (at (pos 524286) (pos 524287))) (target_end (at (pos 524286) (pos 524287))) ∷
    []

table : map reckoned rows ≡ rows
table = refl

-- Room for masks that are sized by halves of a side, and again.
use Rattle.std.proofs.Common.{◌≡◌, List, ℤ, pos, negsuc, neg_ℤ, ◌+ℤ◌, ◌-ℤ◌, ◌≤ℤ◌, arith}
use Rattle.std.specs.Int.{int_div_euclid}
use Rattle.std.proofs.lemmas.Int.{ints}
use Rattle.plane_base.specs.Plane.{Point}
use Rattle.polygon_overlay.specs.Checks.{evenly, opposite, halves}
use Rattle.polygon_overlay.specs.Sizing.{Amounts}
use Rattle.polygon_overlay.specs.SizingCalls.{HasRoom, HasRoomInTurn, StaysInRange, StaysInTurn, Fits, FitsInTurn}
use Rattle.polygon_overlay.proofs.Checked.Squares.{Parts}
use Rattle.polygon_overlay.proofs.Sized.Kept.{both_hold}

-- ---- the halves of a side

half_is : (n : ℤ) → pos 0 ≤ℤ n → (pos 0 ≤ℤ int_div_euclid n (pos 2)) × ((int_div_euclid n (pos 2) +ℤ int_div_euclid n (pos 2)) ≤ℤ n)
    × (n ≤ℤ ((int_div_euclid n (pos 2) +ℤ int_div_euclid n (pos 2)) +ℤ pos 1))
half_is (pos n) l = (omega (arith, ints), omega (arith, ints), omega (arith, ints))
half_is (negsuc n) l = absurd (omega (arith, ints))

-- ---- amounts that are no greater than h

pub record AreWithin (h : ℤ) (by : Amounts) : Type 0 where
  pub left : (neg_ℤ h ≤ℤ by.left) × (by.left ≤ℤ h)
  pub right : (neg_ℤ h ≤ℤ by.right) × (by.right ≤ℤ h)
  pub bottom : (neg_ℤ h ≤ℤ by.bottom) × (by.bottom ≤ℤ h)
  pub top : (neg_ℤ h ≤ℤ by.top) × (by.top ≤ℤ h)

back_too : (h a : ℤ) → (neg_ℤ h ≤ℤ a) × (a ≤ℤ h) → (neg_ℤ h ≤ℤ neg_ℤ a) × (neg_ℤ a ≤ℤ h)
back_too h a (l, m) = (omega (arith, ints, l, m), omega (arith, ints, l, m))

pub opposite_within : (h : ℤ) (by : Amounts) → AreWithin h by → AreWithin h (opposite by)
opposite_within h by are = record {
  left = back_too h by.left are.left;
  right = back_too h by.right are.right;
  bottom = back_too h by.bottom are.bottom;
  top = back_too h by.top are.top;
}

module _ (side : ℤ) (some : pos 1 ≤ℤ side) where
  abbrev pub half : ℤ
  half = int_div_euclid (side -ℤ pos 1) (pos 2)

  abbrev pub rest : ℤ
  rest = (side -ℤ pos 1) -ℤ half

  not_negative : pos 0 ≤ℤ (side -ℤ pos 1)
  not_negative = less side some
    where
      less : (s : ℤ) → pos 1 ≤ℤ s → pos 0 ≤ℤ (s -ℤ pos 1)
      less s l = omega (arith, ints)

  pub halves_are : (pos 0 ≤ℤ half) × (half ≤ℤ rest) × ((rest +ℤ rest) ≤ℤ side) × (rest ≤ℤ side)
  halves_are = let h = half_is (side -ℤ pos 1) not_negative in all half side h.0 h.1 h.2
    where
      all : (a s : ℤ) → pos 0 ≤ℤ a → (a +ℤ a) ≤ℤ (s -ℤ pos 1) → (s -ℤ pos 1) ≤ℤ ((a +ℤ a) +ℤ pos 1)
          → (pos 0 ≤ℤ a) × (a ≤ℤ ((s -ℤ pos 1) -ℤ a)) × ((((s -ℤ pos 1) -ℤ a) +ℤ ((s -ℤ pos 1) -ℤ a)) ≤ℤ s) × (((s -ℤ pos 1) -ℤ a) ≤ℤ s)
      all a s l m n = (omega (arith, ints), omega (arith, ints), omega (arith, ints), omega (arith, ints))

  pub halves_within : AreWithin rest (halves side)
  halves_within = record { left = first; right = last; bottom = first; top = last }
    where
      bound : (a h : ℤ) → pos 0 ≤ℤ a → a ≤ℤ h → (neg_ℤ h ≤ℤ a) × (a ≤ℤ h)
      bound a h l m = (omega (arith, ints), omega (arith, ints))

      level : (x : ℤ) → x ≤ℤ x
      level x = omega (arith, ints)

      through : (x y z : ℤ) → x ≤ℤ y → y ≤ℤ z → x ≤ℤ z
      through x y z l m = omega (arith, ints)

      first : (neg_ℤ rest ≤ℤ half) × (half ≤ℤ rest)
      first = bound half rest halves_are.0 halves_are.1

      last : (neg_ℤ rest ≤ℤ rest) × (rest ≤ℤ rest)
      last = bound rest rest (through (pos 0) half rest halves_are.0 halves_are.1) (level rest)

  pub halves_part : Parts side (halves side)
  halves_part = record {
    left = halves_are.0;
    right = through (pos 0) half rest halves_are.0 halves_are.1;
    bottom = halves_are.0;
    top = through (pos 0) half rest halves_are.0 halves_are.1;
    across = sum half side;
    up = sum half side;
  }
    where
      through : (x y z : ℤ) → x ≤ℤ y → y ≤ℤ z → x ≤ℤ z
      through x y z l m = omega (arith, ints)

      sum : (a s : ℤ) → (a +ℤ ((s -ℤ pos 1) -ℤ a)) +ℤ pos 1 ≡ s
      sum a s = omega (arith, ints)

-- ---- room for them

module _ (least greatest : ℤ) where
  room_in_turn : (side h back on then_back then_on n : ℤ) → (h +ℤ h) ≤ℤ side → h ≤ℤ side → HasRoom least greatest side side n → (neg_ℤ h ≤ℤ back) × (back ≤ℤ h)
      → (neg_ℤ h ≤ℤ on) × (on ≤ℤ h) → (neg_ℤ h ≤ℤ then_back) × (then_back ≤ℤ h) → (neg_ℤ h ≤ℤ then_on) × (then_on ≤ℤ h)
      → HasRoomInTurn least greatest back on then_back then_on n
  room_in_turn side h back on then_back then_on n twice whole room b o c d =
      between room.below.0 room.above.1 b.0 b.1 o.0 o.1 c.0 c.1 d.0 d.1
    where
      between : least ≤ℤ (n -ℤ side) → (n +ℤ side) ≤ℤ greatest → neg_ℤ h ≤ℤ back → back ≤ℤ h → neg_ℤ h ≤ℤ on → on ≤ℤ h → neg_ℤ h ≤ℤ then_back → then_back ≤ℤ h
          → neg_ℤ h ≤ℤ then_on → then_on ≤ℤ h → HasRoomInTurn least greatest back on then_back then_on n
      between l m e f g i j k p q = record {
        first = record { below = (omega (arith, ints), omega (arith, ints)); above = (omega (arith, ints), omega (arith, ints)) };
        below = record { below = (omega (arith, ints), omega (arith, ints)); above = (omega (arith, ints), omega (arith, ints)) };
        above = record { below = (omega (arith, ints), omega (arith, ints)); above = (omega (arith, ints), omega (arith, ints)) };
      }

  fits_turns : (side h : ℤ) (first second : Amounts) (cs : List (List Point)) → (h +ℤ h) ≤ℤ side → h ≤ℤ side → AreWithin h first → AreWithin h second
      → Fits least greatest (evenly side) cs → FitsInTurn least greatest first second cs
  fits_turns side h first second cs twice whole one two fit =
      both_hold (StaysInRange least greatest (evenly side)) (StaysInRange least greatest (evenly side)) (StaysInTurn least greatest first second)
      (λ p stays k. record {
        across = room_in_turn side h first.left first.right second.left second.right p.x twice whole stays.across one.left one.right two.left two.right;
        up = room_in_turn side h first.bottom first.top second.bottom second.top p.y twice whole stays.up one.bottom one.top two.bottom two.top;
      }) cs fit fit

  module _ (side : ℤ) (some : pos 1 ≤ℤ side) (cs : List (List Point)) (fit : Fits least greatest (evenly side) cs) where
    pub fits_out_and_in : FitsInTurn least greatest (halves side) (opposite (halves side)) cs
    fits_out_and_in =
        fits_turns side (rest side some) (halves side) (opposite (halves side)) cs (halves_are side some).2 (halves_are side some).3 (halves_within side some)
        (opposite_within (rest side some) (halves side) (halves_within side some)) fit

    pub fits_in_and_out : FitsInTurn least greatest (opposite (halves side)) (halves side) cs
    fits_in_and_out =
        fits_turns side (rest side some) (opposite (halves side)) (halves side) cs (halves_are side some).2 (halves_are side some).3
        (opposite_within (rest side some) (halves side) (halves_within side some)) (halves_within side some) fit

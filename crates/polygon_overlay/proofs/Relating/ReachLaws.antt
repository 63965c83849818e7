-- Two sources of which one reaches less far to a side than the other begins lie in boxes that share no point.
use Rattle.std.proofs.Common.{◌≡◌, inl, inr, ℤ, ◌≤ℤ◌, int_lt, true, List, All}
use Rattle.plane_base.specs.Plane.{Point, IsWithin}
use Rattle.segment_split.proofs.Facts.Groups.Boxes.{apart_swapped}
use Rattle.polygon_overlay.specs.RelationLaws.{LieApart}
use Rattle.polygon_overlay.proofs.Locating.LocationLaws.{lt_tells}

module _ (least greatest : ℤ) (ones others : List (List Point)) (ones_in : All (All (IsWithin least greatest)) ones)
    (others_in : All (All (IsWithin least greatest)) others) where
  -- the ones lie left of the others
  pub beside : (right left : ℤ) → int_lt right left ≡ true → All (All (λ (p : Point). p.x ≤ℤ right)) ones → All (All (λ (p : Point). left ≤ℤ p.x)) others
      → LieApart ones others
  beside right left less up_to from = record {
    one = record { left = least; right = right; bottom = least; top = greatest };
    other = record { left = left; right = greatest; bottom = least; top = greatest };
    ones_within = λ k ps l j p m. let h = ones_in k ps l j p m in record { left = h.0; right = up_to k ps l j p m; bottom = h.2; top = h.3 };
    others_within = λ k ps l j p m. let h = others_in k ps l j p m in record { left = from k ps l j p m; right = h.1; bottom = h.2; top = h.3 };
    apart = inl (lt_tells right left less);
  }

  -- the ones lie below the others
  pub stacked : (top bottom : ℤ) → int_lt top bottom ≡ true → All (All (λ (p : Point). p.y ≤ℤ top)) ones → All (All (λ (p : Point). bottom ≤ℤ p.y)) others
      → LieApart ones others
  stacked top bottom less up_to from = record {
    one = record { left = least; right = greatest; bottom = least; top = top };
    other = record { left = least; right = greatest; bottom = bottom; top = greatest };
    ones_within = λ k ps l j p m. let h = ones_in k ps l j p m in record { left = h.0; right = h.1; bottom = h.2; top = up_to k ps l j p m };
    others_within = λ k ps l j p m. let h = others_in k ps l j p m in record { left = h.0; right = h.1; bottom = from k ps l j p m; top = h.3 };
    apart = inr (inr (inl (lt_tells top bottom less)));
  }

-- which is which doesn't matter
pub lie_apart_swapped : (ones others : List (List Point)) → LieApart ones others → LieApart others ones
lie_apart_swapped ones others lie = record {
  one = lie.other;
  other = lie.one;
  ones_within = lie.others_within;
  others_within = lie.ones_within;
  apart = apart_swapped lie.one lie.other lie.apart;
}

-- The width of buckets, and their order.
use Rattle.std.proofs.Common.{◌≡◌, ℕ, ◌+◌, ◌-◌, ◌*◌, ◌/◌, ◌^◌, ◌≤◌, ◌<◌, inl, inr, ℤ, ◌≤ℤ◌, refl, ap, ◌∙◌, arith}
use Rattle.std.proofs.lemmas.Int.{ints}
use Rattle.std.proofs.lemmas.Bool.{cases_lt}
use Rattle.std.proofs.lemmas.Nat.{pow-add, pow_pos}
use Rattle.std.proofs.Math.Nat.{div-lt_iff_lt-mul, div-mul-le_self, pow-le-pow_right}
use Rattle.i_tree.specs.Layout.{Buckets, offset_of, bucket_of, IsWidth, BucketsRise}

pub div_le : (a b w : ℕ) → 0 < w → a ≤ b → a / w ≤ b / w
div_le a b w h k = elim (cases_lt (b / w) (a / w)) [
  | inl less ↦ absurd (
      let low : a / w * w ≤ a = div-mul-le_self a w in
      let high : b < (a / w) * w = (div-lt_iff_lt-mul {x = b} {y = a / w} h).0 less in
      omega arith)
  | inr more ↦ more
]

-- the width of a span of which the highest bit is known
pub IsWidth-power : (span power : ℕ) → 4 ≤ power → 2 ^ power ≤ span → span < 2 * 2 ^ power → IsWidth span (2 ^ (power - 4))
IsWidth-power span power h low high = record {
  power = (power - 4, refl);
  fits = let less : span / 2 ^ (power - 4) < 32 = (div-lt_iff_lt-mul {x = span} {y = 32} (pow_pos (power - 4))).1 (omega (arith, sixteen)) in omega arith;
  least = λ k fit. elim (cases_lt k (power - 4)) [ inl less ↦ absurd (too_small k less fit) | inr more ↦ pow-le-pow_right (omega arith) more ];
} where
  sixteen : 2 ^ power ≡ 2 ^ (power - 4) * 16
  sixteen = let e : power ≡ (power - 4) + 4 = omega arith in ap (λ n. 2 ^ n) e ∙ pow-add 2 (power - 4) 4

  too_small : (k : ℕ) → k < power - 4 → span / 2 ^ k ≤ 31 → ⊥
  too_small k less fit =
      let e : (power - 4) ≡ (k + 1) + (power - 4 - (k + 1)) = omega arith in
      let more : 2 ^ (k + 1) ≤ 2 ^ (power - 4) = pow-le-pow_right (omega arith) (omega arith) in
      let two : 2 ^ (k + 1) ≡ 2 ^ k * 2 = pow-add 2 k 1 in
      let under : span < 32 * 2 ^ k = (div-lt_iff_lt-mul {x = span} {y = 32} (pow_pos k)).0 (omega arith) in
      omega (arith, sixteen)

-- offsets keep the order
pub offset_le : (min a b : ℤ) → min ≤ℤ a → a ≤ℤ b → offset_of min a ≤ offset_of min b
offset_le min a b h k = omega (arith, ints)

pub BucketsRise-buckets : (buckets : Buckets) → 0 < buckets.width → bucket_of buckets buckets.max ≤ 31 → BucketsRise buckets
BucketsRise-buckets buckets some fits = record {
  rise = λ a b h k. div_le _ _ buckets.width some (offset_le buckets.min a b h k);
  within = λ a h k. omega (arith, fits, div_le _ _ buckets.width some (offset_le buckets.min a buckets.max h k));
}

pub short_span : (span power : ℕ) → power < 4 → span < 2 * 2 ^ power → span < 31
short_span span power h less = let three : power ≤ 3 = omega arith in let low : 2 ^ power ≤ 2 ^ 3 = pow-le-pow_right (omega arith) three in omega arith

pub long_span : (span power : ℕ) → 4 < power → 2 ^ power ≤ span → 31 ≤ span
long_span span power h more = let five : 5 ≤ power = omega arith in let high : 2 ^ 5 ≤ 2 ^ power = pow-le-pow_right (omega arith) five in omega arith

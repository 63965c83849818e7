use Rattle.std.proofs.Common.{◌≡◌, ◌∙◌, ◌⊎◌, ℕ, suc, ◌+◌, ◌*◌, ◌/◌, ◌^◌, ◌<◌, ◌≤◌, ap, refl, subst, inl, inr, arith}
use Rattle.std.proofs.Math.Nat.{le-div_iff_mul-le}
use Rattle.std.proofs.lemmas.Int.{ints}
use Rattle.std.proofs.lemmas.Bool.{cases_lt}
use Rattle.i_tree.specs.Layout.{offset_of}
use Rattle.segment_split.proofs.pairs.rows.layout.Measure.shift.Goals as goal

next_power : (k : ℕ) → 2 ^ (k + 1) ≡ 2 * 2 ^ k
next_power k = let e : k + 1 ≡ suc k = omega arith in ap (λ n. 2 ^ n) e ∙ omega arith

pub loop-shift-init : goal.loop-shift-init
loop-shift-init c = refl

pub loop-shift-preserved : goal.loop-shift-preserved
loop-shift-preserved c =
    let double : c.saturating_mul-width.result ≡ 2 * c.loop-shift.width = omega (arith, c.saturating_mul-width.ensures, c.if-width-widest.false, c.widest_row-widest.ensures.1, c.abs_diff-span.type_inv) in
    omega (arith, double, c.loop-shift.invariant, next_power c.loop-shift.shift)

-- a width that a 64th of the span doesn't reach makes few rows
few_by_width : (span width : ℕ) → 0 < width → span / 64 < width → span / width < 2 ^ 31
few_by_width span width some wide = by (cases_lt (span / width) 64)
  where
    by : (span / width < 64) ⊎ (64 ≤ span / width) → span / width < 2 ^ 31
    by (inl few) = omega (arith, few)
    by (inr many) = let room : 64 * width ≤ span = (le-div_iff_mul-le some).0 many in absurd (omega (arith, room, wide))

pub returns-then-width-widest-clause-few : goal.returns-then-width-widest-clause-few
returns-then-width-widest-clause-few c =
    let span : c.abs_diff-span.result ≡ offset_of c.args.self.least c.args.self.greatest = omega (arith, ints) in
    let wide : c.abs_diff-span.result / 64 < c.loop-shift.width = omega (arith, c.if-width-widest.true, c.widest_row-widest.ensures.0) in
    subst (λ n. n / 2 ^ c.loop-shift.shift < 2 ^ 31) span
    (subst (λ w. c.abs_diff-span.result / w < 2 ^ 31) c.loop-shift.invariant
    (few_by_width c.abs_diff-span.result c.loop-shift.width (omega (arith, wide)) wide))

pub returns-then-span-shift-lt-MOST_ROWS-clause-few : goal.returns-then-span-shift-lt-MOST_ROWS-clause-few
returns-then-span-shift-lt-MOST_ROWS-clause-few c =
    let span : c.abs_diff-span.result ≡ offset_of c.args.self.least c.args.self.greatest = omega (arith, ints) in
    subst (λ n. n / 2 ^ c.loop-shift.shift < 2 ^ 31) span (omega (arith, c.if-span-shift-lt-MOST_ROWS.true))

few_at_end : (span : ℕ) → span < 2 ^ 64 → span / 2 ^ 36 < 2 ^ 31
few_at_end span h = omega (arith, h)

pub returns-clause-few : goal.returns-clause-few
returns-clause-few c =
    let span : c.abs_diff-span.result ≡ offset_of c.args.self.least c.args.self.greatest = omega (arith, ints) in
    subst (λ n. n / 2 ^ 36 < 2 ^ 31) span (few_at_end c.abs_diff-span.result c.abs_diff-span.type_inv)

-- String counts obey the laws of counts, and masks stand for them.
use Rattle.std.proofs.Common.{◌≡◌, ℕ, zero, suc, ◌<◌, Bool, true, false, ◌&&◌, ◌||◌, not, ℤ, pos, ◌+ℤ◌, neg_ℤ, int_eq}
use Rattle.std.proofs.Common.{refl, sym, ap, ap₂, ◌∙◌, arith}
use Rattle.std.proofs.lemmas.Bool.Decides.{Decides-int_eq, same_from_decides, Decides-like}
use Rattle.std.proofs.lemmas.Bool.{false≢true}
use Rattle.std.proofs.lemmas.Int.{ints}
use Rattle.plane_base.specs.Balance.{IsAdditive}
use Rattle.plane_base.proofs.Facts.Maps.Normal.{IsCounting}
use Rattle.segment_split.specs.Strings.{StringCount, stringed, mask_of, masked}

-- ---- two bits

or_comm : (a b : Bool) → (a || b) ≡ (b || a)
or_comm true true = refl
or_comm true false = refl
or_comm false true = refl
or_comm false false = refl

or_assoc : (a b c : Bool) → ((a || b) || c) ≡ (a || (b || c))
or_assoc true b c = refl
or_assoc false b c = refl

-- no line runs along an empty edge
none_true : (a b : Bool) → (not a && not b) ≡ true → (a ≡ false) × (b ≡ false)
none_true true b h = absurd (false≢true h)
none_true false true h = absurd (false≢true h)
none_true false false h = (refl, refl)

none_comm : (a b : Bool) → (not a && not b) ≡ (not b && not a)
none_comm true true = refl
none_comm true false = refl
none_comm false true = refl
none_comm false false = refl

both_true : (a b : Bool) → (a && b) ≡ true → (a ≡ true) × (b ≡ true)
both_true true b h = (refl, h)
both_true false b h = absurd (false≢true h)

-- an empty count has the subject 0 and no line
pub string_empty : (c : StringCount) → stringed.is_empty c ≡ true → (c.subject ≡ pos 0) × (c.forward ≡ false) × (c.back ≡ false)
string_empty c h =
    let both = both_true (int_eq c.subject (pos 0)) (not c.forward && not c.back) h in
    let lines = none_true c.forward c.back both.1 in
    ((Decides-int_eq c.subject (pos 0)).0 both.0, lines.0, lines.1)

-- ---- the laws of counts

pub string_counting : IsCounting stringed
string_counting = record {
  join_comm = λ c d i. record { subject = commuted c.subject d.subject i; forward = or_comm c.forward d.forward i; back = or_comm c.back d.back i };
  join_assoc = λ c d e i. record {
    subject = grouped c.subject d.subject e.subject i;
    forward = or_assoc c.forward d.forward e.forward i;
    back = or_assoc c.back d.back e.back i;
  };
  join_empty = λ c d h.
      let z = string_empty c h in
      λ i. record { subject = none c.subject d.subject z.0 i; forward = z.1 i || d.forward; back = z.2 i || d.back };
  turned_join = λ c d i. record { subject = spread c.subject d.subject i; forward = c.back || d.back; back = c.forward || d.forward };
  turned_twice = λ c i. record { subject = twice c.subject i; forward = c.forward; back = c.back };
  turned_empty = λ c. ap₂ (λ a b. a && b) (level c.subject) (none_comm c.back c.forward);
}
  where
    commuted : (x y : ℤ) → x +ℤ y ≡ y +ℤ x
    commuted x y = omega (arith, ints)

    grouped : (x y z : ℤ) → (x +ℤ y) +ℤ z ≡ x +ℤ (y +ℤ z)
    grouped x y z = omega (arith, ints)

    none : (x y : ℤ) → x ≡ pos 0 → x +ℤ y ≡ y
    none x y h = omega (arith, ints)

    spread : (x y : ℤ) → neg_ℤ (x +ℤ y) ≡ neg_ℤ x +ℤ neg_ℤ y
    spread x y = omega (arith, ints)

    twice : (x : ℤ) → neg_ℤ (neg_ℤ x) ≡ x
    twice x = omega (arith, ints)

    level : (x : ℤ) → int_eq (neg_ℤ x) (pos 0) ≡ int_eq x (pos 0)
    level x =
        same_from_decides (int_eq (neg_ℤ x) (pos 0)) (int_eq x (pos 0))
        (Decides-like (int_eq (neg_ℤ x) (pos 0)) (λ e. sym (twice x) ∙ ap neg_ℤ e) (λ e. ap neg_ℤ e) (Decides-int_eq (neg_ℤ x) (pos 0)))
        (Decides-int_eq x (pos 0))

pub subject_additive : IsAdditive stringed (λ c. c.subject)
subject_additive = record { of_join = λ c d. refl; of_turned = λ c. refl; of_empty = λ c h. (string_empty c h).0 }

-- ---- masks

-- a mask below 4 is that of its count
pub mask_is : (subject : ℤ) (mask : ℕ) → mask < 4 → mask_of (masked subject mask) ≡ mask
mask_is subject zero h = refl
mask_is subject (suc zero) h = refl
mask_is subject (suc (suc zero)) h = refl
mask_is subject (suc (suc (suc zero))) h = refl
mask_is subject (suc (suc (suc (suc mask)))) h = absurd (omega arith)

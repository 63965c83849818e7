-- How numbers of edges are joined, each way by data of a type of its own.
use Rattle.std.specs.Prelude.{◌≡◌, ◌↔◌, ℕ, min, max, bit_or, Bool, true, false, cond, nat_eq, Option, Some, None}
use Rattle.std.specs.Int.{bit_at}
use Rattle.std.specs.Option.{option_eq}
use Rattle.std.proofs.Common.{refl, ap, sym, ◌∙◌, arith}
use Rattle.std.proofs.lemmas.Bool.{eqb-true, eq-eqb}
use Rattle.std.proofs.lemmas.Nat.Bits.{bit_at_or, same_from_bits}
use Rattle.polygon_c.specs.declared.datum.Bits.{Bits}
use Rattle.polygon_c.specs.declared.datum.Least.{Least}
use Rattle.polygon_c.specs.declared.datum.Kept.{Kept}

-- ---- or

-- each bit that one of them has
abbrev pub all_bits : Bits → Bits → Bits
all_bits d e = record { bits = bit_or d.bits e.bits }

pub or_assoc : (a b c : ℕ) → bit_or (bit_or a b) c ≡ bit_or a (bit_or b c)
or_assoc a b c =
    same_from_bits (bit_or (bit_or a b) c) (bit_or a (bit_or b c))
    (λ i. bit_at_or (bit_or a b) c i
    ∙ (ap (λ n. max n (bit_at c i)) (bit_at_or a b i)
    ∙ (grouped (bit_at a i) (bit_at b i) (bit_at c i)
    ∙ sym (bit_at_or a (bit_or b c) i ∙ ap (max (bit_at a i)) (bit_at_or b c i)))))
  where
    grouped : (l m n : ℕ) → max (max l m) n ≡ max l (max m n)
    grouped l m n = omega arith

pub bits_told : (d e : Bits) → (nat_eq d.bits e.bits ≡ true) ↔ (d ≡ e)
bits_told d e = (λ h i. record { bits = eqb-true d.bits e.bits h i }, λ h. eq-eqb d.bits e.bits (ap (λ it. it.bits) h))

-- ---- the least

abbrev pub lesser : Least → Least → Least
lesser d e = record { number = min d.number e.number }

pub min_commutes : (m n : ℕ) → min m n ≡ min n m
min_commutes m n = omega arith

pub min_regroups : (l m n : ℕ) → min (min l m) n ≡ min l (min m n)
min_regroups l m n = omega arith

pub min_repeats : (n : ℕ) → min n n ≡ n
min_repeats n = omega arith

pub least_told : (d e : Least) → (nat_eq d.number e.number ≡ true) ↔ (d ≡ e)
least_told d e = (λ h i. record { number = eqb-true d.number e.number h i }, λ h. eq-eqb d.number e.number (ap (λ it. it.number) h))

-- ---- kept

-- the number of both, or none where they differ or one has none
abbrev pub alike : Option ℕ → Option ℕ → Option ℕ
alike None e = None
alike (Some m) None = None
alike (Some m) (Some n) = cond (nat_eq m n) (Some m) None

pub alike_commutes : (d e : Option ℕ) → alike d e ≡ alike e d
alike_commutes None None = refl
alike_commutes None (Some n) = refl
alike_commutes (Some m) None = refl
alike_commutes (Some m) (Some n) = grind arith

pub alike_regroups : (d e f : Option ℕ) → alike (alike d e) f ≡ alike d (alike e f)
alike_regroups None e f = refl
alike_regroups (Some l) None f = refl
alike_regroups (Some l) (Some m) None = by (nat_eq l m)
  where
    by : (b : Bool) → alike (cond b (Some l) None) None ≡ None
    by true = refl
    by false = refl
alike_regroups (Some l) (Some m) (Some n) = by (nat_eq l m) refl (nat_eq m n) refl
  where
    by : (b : Bool) → nat_eq l m ≡ b → (b' : Bool) → nat_eq m n ≡ b' → alike (cond b (Some l) None) (Some n) ≡ alike (Some l) (cond b' (Some m) None)
    by true e true f = grind (arith, e, f)
    by true e false f = grind (arith, e, f)
    by false e true f = grind (arith, e, f)
    by false e false f = refl

pub alike_repeats : (d : Option ℕ) → alike d d ≡ d
alike_repeats None = refl
alike_repeats (Some n) = grind arith

-- options of numbers are equal where they are called so
option_told : (d e : Option ℕ) → (option_eq nat_eq d e ≡ true) ↔ (d ≡ e)
option_told None None = (λ h. refl, λ h. refl)
option_told None (Some n) = (λ h. absurd (cc), λ h. absurd (cc))
option_told (Some m) None = (λ h. absurd (cc), λ h. absurd (cc))
option_told (Some m) (Some n) = (λ h. ap Some (eqb-true m n h), λ h. eq-eqb m n (ap inside h))
  where
    inside : Option ℕ → ℕ
    inside None = 0
    inside (Some n) = n

pub kept_told : (d e : Kept) → (option_eq nat_eq d.number e.number ≡ true) ↔ (d ≡ e)
kept_told d e = (λ h i. record { number = (option_told d.number e.number).0 h i }, λ h. (option_told d.number e.number).1 (ap (λ it. it.number) h))

-- ---- the three

-- how data are joined, what a number is carried as, and what number a datum tells, if it tells one
pub record Joining (D : Type 0) : Type 0 where
  pub join : D → D → D
  pub datum : ℕ → D
  pub number : D → Option ℕ

abbrev pub by_bits : Joining Bits
by_bits = record { join = all_bits; datum = λ n. record { bits = n }; number = λ d. Some d.bits }

abbrev pub by_least : Joining Least
by_least = record { join = lesser; datum = λ n. record { number = n }; number = λ d. Some d.number }

-- (only of edges whose numbers are alike)
abbrev pub by_kept : Joining Kept
by_kept = record { join = λ d e. record { number = alike d.number e.number }; datum = λ n. record { number = Some n }; number = λ d. d.number }

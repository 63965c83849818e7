-- Laws of numbers in decimal.
use Rattle.std.proofs.Common.{◌≡◌, ℕ, zero, ◌+◌, ◌-◌, ◌*◌, ◌/◌, ◌%◌, ◌<◌, ◌≤◌, ◌^◌, [], ◌∷◌, ◌++◌, length, get_or, ap, ◌∙◌, length-append, append_assoc}
use Rattle.std.proofs.Common.{Bool, true, ◌&&◌, T, eqb, eqb→eq, eq-zero-or-pos, inl, inr, arith, lit<}
use lib.Ieee.Fits.{and_l, and_r}
use Rattle.std.specs.Prelude.{ℤ, pos, negsuc, suc, decimal, FitsSigned}
use Rattle.std.proofs.lemmas.Int.{ints}
use Rattle.std.specs.Int.{w128}
use Rattle.std.specs.Fmt.{signed_decimal}
use Rattle.std.proofs.lemmas.Fmt.{decimal_digit, decimal_step, decimal_step_wide, length-decimal-le, length-decimal-le_wide}
use Rattle.polybool.specs.declared.digits.TheConstants.{PAIRS}
use Rattle.polybool.specs.Digits.{two_digits, four_digits, eight_digits}
use Rattle.polybool.specs.Texts.{code_of}
use Rattle.polybool.specs.declared.refusal.Refusal.{Refusal}
use Rattle.polybool.specs.declared.refusal.Refusal.TheVariants.{UnknownWord, Arguments, Range, NoAnswer, NoPoints, Count, Edges, Memory, TooLong}

pub length_digit : (n : ℕ) → n < 10 → length (decimal n) ≡ 1
length_digit n h = ap length (decimal_digit n h)

-- one digit more
pub length_step : (n : ℕ) → 10 ≤ n → n < 2 ^ 128 → length (decimal n) ≡ length (decimal (n / 10)) + 1
length_step n h fits = ap length (decimal_step_wide n h (omega arith)) ∙ length-append (decimal (n / 10)) ((48 + n % 10) ∷ [])

-- a refusal's number has at most two digits
pub length_code : (e : Refusal) → length (decimal (code_of e)) ≤ 2
length_code UnknownWord = length-decimal-le 2 1 (lit< tt) (lit< tt) (lit< tt)
length_code Arguments = length-decimal-le 2 2 (lit< tt) (lit< tt) (lit< tt)
length_code Range = length-decimal-le 2 3 (lit< tt) (lit< tt) (lit< tt)
length_code NoAnswer = length-decimal-le 2 4 (lit< tt) (lit< tt) (lit< tt)
length_code NoPoints = length-decimal-le 2 5 (lit< tt) (lit< tt) (lit< tt)
length_code Count = length-decimal-le 2 6 (lit< tt) (lit< tt) (lit< tt)
length_code Edges = length-decimal-le 2 7 (lit< tt) (lit< tt) (lit< tt)
length_code Memory = length-decimal-le 2 8 (lit< tt) (lit< tt) (lit< tt)
length_code TooLong = length-decimal-le 2 9 (lit< tt) (lit< tt) (lit< tt)

-- a number of 64 bits has at most twenty
pub length_number : (n : ℕ) → n < 2 ^ 64 → length (decimal n) ≤ 20
length_number n h = length-decimal-le 20 n (lit< tt) (omega arith) h

-- a number of 128 bits has at most 39
pub length_wide : (n : ℕ) → n < 2 ^ 128 → length (decimal n) ≤ 39
length_wide n h = length-decimal-le_wide 39 n (lit< tt) (omega arith) (omega arith)

-- a signed number of 128 bits has a sign beside
pub length_signed : (n : ℤ) → FitsSigned w128 n → length (signed_decimal n) ≤ 40
length_signed (pos n) h = let few : length (decimal n) ≤ 39 = length_wide n (omega (arith, ints, h)) in omega arith
length_signed (negsuc n) h = let few : length (decimal (suc n)) ≤ 39 = length_wide (suc n) (omega (arith, ints, h)) in omega arith

-- ---- two digits at a time

-- whether the table has the digits of each number below n
abbrev are_pairs : ℕ → Bool
are_pairs zero = true
are_pairs (suc p) = (eqb (get_or PAIRS (p * 2) 0) (48 + p / 10) && eqb (get_or PAIRS (p * 2 + 1) 0) (48 + p % 10)) && are_pairs p

-- the table has the digits of this number
abbrev pub IsPairAt : ℕ → Type 0
IsPairAt p = (get_or PAIRS (p * 2) 0 ≡ 48 + p / 10) × (get_or PAIRS (p * 2 + 1) 0 ≡ 48 + p % 10)

pair_below : (n p : ℕ) → T (are_pairs n) → p < n → IsPairAt p
pair_below zero p t h = absurd (omega arith)
pair_below (suc n) p t h =
    elim (eq-zero-or-pos (n - p)) [
      | inl z ↦ let e : p ≡ n = omega arith in let a = and_l _ (are_pairs n) t in rw e (eqb→eq _ _ (and_l _ _ a), eqb→eq _ _ (and_r _ _ a))
      | inr g ↦ pair_below n p (and_r _ (are_pairs n) t) (omega arith)
    ]

pub pair_at : (p : ℕ) → p < 100 → IsPairAt p
pair_at p h = pair_below 100 p tt h

-- a number of two digits
pub decimal_two : (n : ℕ) → 10 ≤ n → n < 100 → decimal n ≡ two_digits n
decimal_two n lo hi = rw (decimal_step n lo (omega arith), decimal_digit (n / 10) (omega arith))

pub length_two : (n : ℕ) → 10 ≤ n → n < 100 → length (decimal n) ≡ 2
length_two n lo hi = ap length (decimal_two n lo hi)

-- two digits more
pub decimal_two_more : (n : ℕ) → 100 ≤ n → n < 2 ^ 64 → decimal n ≡ decimal (n / 100) ++ two_digits (n % 100)
decimal_two_more n lo hi =
    let a : n / 10 / 10 ≡ n / 100 = omega arith in
    let b : n / 10 % 10 ≡ n % 100 / 10 = omega arith in
    let c : n % 10 ≡ n % 100 % 10 = omega arith in
    rw (decimal_step n (omega arith) hi, decimal_step (n / 10) (omega arith) (omega arith), append_assoc, a, b, ← c)

-- four digits more
pub decimal_four_more : (n : ℕ) → 10000 ≤ n → n < 2 ^ 64 → decimal n ≡ decimal (n / 10000) ++ four_digits (n % 10000)
decimal_four_more n lo hi =
    let a : n / 100 / 100 ≡ n / 10000 = omega arith in
    let b : n / 100 % 100 ≡ n % 10000 / 100 = omega arith in
    let c : n % 100 ≡ n % 10000 % 100 = omega arith in
    decimal_two_more n (omega arith) hi
    ∙ ap (λ d. d ++ two_digits (n % 100)) (decimal_two_more (n / 100) (omega arith) (omega arith))
    ∙ append_assoc (decimal (n / 100 / 100)) (two_digits (n / 100 % 100)) (two_digits (n % 100))
    ∙ (λ i. decimal (a i) ++ (two_digits (b i) ++ two_digits (c i)))

-- eight digits more
pub decimal_eight_more : (n : ℕ) → 100000000 ≤ n → n < 2 ^ 64 → decimal n ≡ decimal (n / 100000000) ++ eight_digits (n % 100000000)
decimal_eight_more n lo hi =
    let a : n / 10000 / 10000 ≡ n / 100000000 = omega arith in
    let b : n / 10000 % 10000 ≡ n % 100000000 / 10000 = omega arith in
    let c : n % 10000 ≡ n % 100000000 % 10000 = omega arith in
    decimal_four_more n (omega arith) hi
    ∙ ap (λ d. d ++ four_digits (n % 10000)) (decimal_four_more (n / 10000) (omega arith) (omega arith))
    ∙ append_assoc (decimal (n / 10000 / 10000)) (four_digits (n / 10000 % 10000)) (four_digits (n % 10000))
    ∙ (λ i. decimal (a i) ++ (four_digits (b i) ++ four_digits (c i)))

-- ---- how many digits that makes

pub length_two_more : (n : ℕ) → 100 ≤ n → n < 2 ^ 64 → length (decimal n) ≡ length (decimal (n / 100)) + 2
length_two_more n lo hi = ap length (decimal_two_more n lo hi) ∙ length-append (decimal (n / 100)) (two_digits (n % 100))

pub length_four_more : (n : ℕ) → 10000 ≤ n → n < 2 ^ 64 → length (decimal n) ≡ length (decimal (n / 10000)) + 4
length_four_more n lo hi = ap length (decimal_four_more n lo hi) ∙ length-append (decimal (n / 10000)) (four_digits (n % 10000))

pub length_eight_more : (n : ℕ) → 100000000 ≤ n → n < 2 ^ 64 → length (decimal n) ≡ length (decimal (n / 100000000)) + 8
length_eight_more n lo hi = ap length (decimal_eight_more n lo hi) ∙ length-append (decimal (n / 100000000)) (eight_digits (n % 100000000))

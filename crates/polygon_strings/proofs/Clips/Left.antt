-- The steps that are left along edges, and what a step that is passed takes from them.
use Rattle.std.proofs.Common.{◌≡◌, ℕ, zero, suc, ◌+◌, ◌<◌, ◌≤◌, Bool, true, false, cond, List, [], ◌∷◌, ◌++◌, length, get_or, set, ◌⊎◌, inl, inr, All, refl, sym, ap, ◌∙◌, subst, arith}
use Rattle.std.specs.Prelude.{IsPermutation}
use Rattle.std.proofs.lemmas.Bool.{false≢true, cases_eq, cases_lt}
use Rattle.std.proofs.lemmas.List.{get_or-set_same, get_or-set_other}
use Rattle.std.proofs.lemmas.List.Elements.{All-nil, All-cons, All-append}
use Rattle.std.proofs.lemmas.List.Sorted.{IsPermutation-refl, IsPermutation-trans, IsPermutation-append_right, IsPermutation-middle}
use Rattle.plane_base.specs.Plane.{Edge}
use Rattle.polygon_strings.specs.Clips.{turned}
use Rattle.polygon_strings.specs.ClipWalks.{step_along, is_left, without, none_left, steps_along, steps_left, StayPassed, ArePassedBefore}
use Rattle.polygon_strings.specs.declared.string.clip_walk.StepsLeft.{StepsLeft}

-- ---- a step is passed

-- both steps along an edge, without one of them
one_passed : (from_a a b : Bool) (s : Edge) (rest : List Edge) → cond from_a a b ≡ true
    → IsPermutation ((cond a (s ∷ []) [] ++ cond b (turned s ∷ []) []) ++ rest)
    (step_along from_a s ∷ ((cond (cond from_a false a) (s ∷ []) [] ++ cond (cond from_a b false) (turned s ∷ []) []) ++ rest))
one_passed true true true s rest h = IsPermutation-refl (s ∷ turned s ∷ rest)
one_passed true true false s rest h = IsPermutation-refl (s ∷ rest)
one_passed true false b s rest h = absurd (false≢true h)
one_passed false true true s rest h = IsPermutation-middle (s ∷ []) (turned s) rest
one_passed false false true s rest h = IsPermutation-refl (turned s ∷ rest)
one_passed false a false s rest h = absurd (false≢true h)

-- A step that is passed is taken from those that are left.
pub passed_once : (from_a : Bool) (edges : List Edge) (left : List StepsLeft) (i : ℕ) (d : Edge) → length left ≡ length edges → i < length edges
    → is_left from_a (get_or left i none_left) ≡ true
    → IsPermutation (steps_left edges left)
    (step_along from_a (get_or edges i d) ∷ steps_left edges (set left i (without from_a (get_or left i none_left))))
passed_once from_a [] left i d long inside h = absurd (omega arith)
passed_once from_a (s ∷ ss) [] i d long inside h = absurd (omega arith)
passed_once from_a (s ∷ ss) (l ∷ ls) zero d long inside h = one_passed from_a l.from_a l.from_b s (steps_left ss ls) h
passed_once from_a (s ∷ ss) (l ∷ ls) (suc i) d long inside h =
    let step = step_along from_a (get_or ss i d) in
    let rest = steps_left ss (set ls i (without from_a (get_or ls i none_left))) in
    IsPermutation-trans (steps_along s l ++ steps_left ss ls) (steps_along s l ++ step ∷ rest) (step ∷ (steps_along s l ++ rest))
    (IsPermutation-append_right (steps_along s l) (steps_left ss ls) (step ∷ rest) (passed_once from_a ss ls i d (omega arith) (omega arith) h))
    (IsPermutation-middle (steps_along s l) step rest)

-- ---- passed steps stay so

passed_stays : (from_a other : Bool) (l : StepsLeft) → is_left other l ≡ false → is_left other (without from_a l) ≡ false
passed_stays true true l h = refl
passed_stays true false l h = h
passed_stays false true l h = h
passed_stays false false l h = refl

is_passed : (from_a : Bool) (l : StepsLeft) → is_left from_a (without from_a l) ≡ false
is_passed true l = refl
is_passed false l = refl

module _ (from_a : Bool) (left : List StepsLeft) (i : ℕ) (inside : i < length left) where
  abbrev after : List StepsLeft
  after = set left i (without from_a (get_or left i none_left))

  pub stays_passed : StayPassed left after
  stays_passed other j h = by (cases_eq j i)
    where
      by : (j ≡ i) ⊎ ((j ≡ i) → ⊥) → is_left other (get_or after j none_left) ≡ false
      by (inl same) =
          subst (λ n. is_left other (get_or after n none_left) ≡ false) (sym same)
          (ap (is_left other) (get_or-set_same left i (without from_a (get_or left i none_left)) none_left inside)
          ∙ passed_stays from_a other (get_or left i none_left) (subst (λ n. is_left other (get_or left n none_left) ≡ false) same h))
      by (inr apart) = ap (is_left other) (get_or-set_other left i j (without from_a (get_or left i none_left)) none_left apart) ∙ h

  pub now_passed : is_left from_a (get_or after i none_left) ≡ false
  now_passed =
      ap (is_left from_a) (get_or-set_same left i (without from_a (get_or left i none_left)) none_left inside)
      ∙ is_passed from_a (get_or left i none_left)

pub stay_through : (one two three : List StepsLeft) → StayPassed one two → StayPassed two three → StayPassed one three
stay_through one two three h k from_a i passed = k from_a i (h from_a i passed)

-- ---- what holds of each step that is left

-- the steps that are left along an edge
along_holds : (P : Edge → Type 0) (s : Edge) (a b : Bool) → (a ≡ true → P s) → (b ≡ true → P (turned s))
    → All P (cond a (s ∷ []) [] ++ cond b (turned s ∷ []) [])
along_holds P s true true h k = All-cons P s (turned s ∷ []) (h refl) (All-cons P (turned s) [] (k refl) (All-nil P))
along_holds P s true false h k = All-cons P s [] (h refl) (All-nil P)
along_holds P s false true h k = All-cons P (turned s) [] (k refl) (All-nil P)
along_holds P s false false h k = All-nil P

pub left_hold : (P : Edge → Type 0) (edges : List Edge) (left : List StepsLeft)
    → ((i : ℕ) (d : Edge) (from_a : Bool) → i < length edges → is_left from_a (get_or left i none_left) ≡ true → P (step_along from_a (get_or edges i d)))
    → All P (steps_left edges left)
left_hold P [] left h = All-nil P
left_hold P (s ∷ ss) [] h = All-nil P
left_hold P (s ∷ ss) (l ∷ ls) h =
    All-append P (steps_along s l) (steps_left ss ls)
    (along_holds P s l.from_a l.from_b (h zero s true (omega arith)) (h zero s false (omega arith)))
    (left_hold P ss ls (λ i d from_a inside. h (suc i) d from_a (omega arith)))

-- where nothing is left, there is no step
pub none_are_left : (edges : List Edge) (left : List StepsLeft)
    → ((from_a : Bool) (i : ℕ) → i < length edges → is_left from_a (get_or left i none_left) ≡ false) → steps_left edges left ≡ []
none_are_left [] left h = refl
none_are_left (s ∷ ss) [] h = refl
none_are_left (s ∷ ss) (l ∷ ls) h =
    ap (λ b. (cond b (s ∷ []) [] ++ cond l.from_b (turned s ∷ []) []) ++ steps_left ss ls) (h true zero (omega arith))
    ∙ ap (λ b. cond b (turned s ∷ []) [] ++ steps_left ss ls) (h false zero (omega arith))
    ∙ none_are_left ss ls (λ from_a i inside. h from_a (suc i) (omega arith))

-- no step is left along one edge more
pub passed_more : (first : ℕ) (one two three : List StepsLeft) → ArePassedBefore first one → StayPassed one two → is_left true (get_or two first none_left) ≡ false
    → StayPassed two three → is_left false (get_or three first none_left) ≡ false → ArePassedBefore (first + 1) three
passed_more first one two three before stay here later there from_a i low = by (cases_lt i first) from_a
  where
    by : (i < first) ⊎ (first ≤ i) → (from_a : Bool) → is_left from_a (get_or three i none_left) ≡ false
    by (inl less) from_a = later from_a i (stay from_a i (before from_a i less))
    by (inr high) true =
        let same : first ≡ i = omega arith in subst (λ n. is_left true (get_or three n none_left) ≡ false) same (later true first here)
    by (inr high) false =
        let same : first ≡ i = omega arith in subst (λ n. is_left false (get_or three n none_left) ≡ false) same there

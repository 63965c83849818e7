-- The live entries of a row, before a place and from it on.
use Rattle.std.proofs.Common.{◌≡◌, ℕ, zero, suc, ◌+◌, ◌*◌, ◌^◌, ◌-◌, ◌<◌, ◌≤◌, List, [], ◌∷◌, ◌++◌, length, take, drop, get_or, Bool, true, false, filter, All, refl, sym, ap, ◌∙◌, arith, subst, add-one, pow-suc}
use Rattle.std.proofs.lemmas.List.{take-append-drop, take_more, at_drop_more}
use Rattle.std.proofs.lemmas.List.Elements.{All-nil, All-cons, All-append, filter-append, All-contains}
use Rattle.std.specs.declared.cmp.Ordering.{Ordering}
use Rattle.std.specs.declared.cmp.Ordering.TheVariants.{Less, Greater}
use Rattle.i_tree.specs.LiveList.{is_live, live_at}
use Rattle.i_tree.specs.KeyAnswers.{IsMonotone}
use Rattle.i_tree.specs.Row.{IsParted}
use Rattle.i_tree.specs.TreeBound.{greatest_power, most_comparisons}
use Rattle.i_tree.proofs.Keys.LiveParts.{Less-before, Greater-after, Contains-node}
use Rattle.i_tree.proofs.Trees.Powers.{power-half}

-- ---- what a test leaves of a list, before a place and from it on
module _ {X : Type 0} (q : X → Bool) where
  pub filter-true : (x : X) (xs : List X) → q x ≡ true → filter q (x ∷ xs) ≡ x ∷ filter q xs
  filter-true x xs e = rw e refl

  filter-false : (x : X) (xs : List X) → q x ≡ false → filter q (x ∷ xs) ≡ filter q xs
  filter-false x xs e = rw e refl

  pub filter-parts : (xs : List X) (i : ℕ) → filter q xs ≡ filter q (take i xs) ++ filter q (drop i xs)
  filter-parts xs i = ap (filter q) (sym (take-append-drop i xs)) ∙ filter-append q (take i xs) (drop i xs)

  -- from a place on, past an entry that is dropped
  pub drop-false : (xs : List X) (i : ℕ) (d : X) → i < length xs → q (get_or xs i d) ≡ false → filter q (drop i xs) ≡ filter q (drop (i + 1) xs)
  drop-false xs i d lt e = at_drop_more (filter q) xs i d lt ∙ filter-false (get_or xs i d) (drop (i + 1) xs) e

  -- and with one that is kept
  pub drop-true : (xs : List X) (i : ℕ) (d : X) → i < length xs → q (get_or xs i d) ≡ true → filter q (drop i xs) ≡ get_or xs i d ∷ filter q (drop (i + 1) xs)
  drop-true xs i d lt e = at_drop_more (filter q) xs i d lt ∙ filter-true (get_or xs i d) (drop (i + 1) xs) e

  pub take-true : (xs : List X) (i : ℕ) (d : X) → i < length xs → q (get_or xs i d) ≡ true → filter q (take (i + 1) xs) ≡ filter q (take i xs) ++ (get_or xs i d ∷ [])
  take-true xs i d lt e =
      ap (filter q) (take_more xs i d lt) ∙ filter-append q (take i xs) (get_or xs i d ∷ []) ∙ ap (λ zs. filter q (take i xs) ++ zs) (filter-true (get_or xs i d) [] e)

  pub split-true : (xs : List X) (i : ℕ) (d : X) → i < length xs → q (get_or xs i d) ≡ true → filter q xs ≡ filter q (take i xs) ++ (get_or xs i d ∷ filter q (drop (i + 1) xs))
  split-true xs i d lt e = filter-parts xs i ∙ ap (λ zs. filter q (take i xs) ++ zs) (drop-true xs i d lt e)

  -- what holds of all that are kept holds of one that is
  pub All-kept : (P : X → Type 0) (xs : List X) (i : ℕ) (d : X) → All P (filter q xs) → i < length xs → q (get_or xs i d) ≡ true → P (get_or xs i d)
  All-kept P xs i d all lt e =
      All-contains P (filter q xs) (get_or xs i d) all
      (rw (split-true xs i d lt e) (Contains-node (filter q (take i xs)) (get_or xs i d) (filter q (drop (i + 1) xs))))

-- whether an entry is live
abbrev pub live : {K E V : Type 0} → (E → E → Ordering) → (K → E) → E → K × V → Bool
live cmp expires time entry = is_live cmp expires time entry.0

module _ {K E V : Type 0} (cmp : E → E → Ordering) (expires : K → E) (by : K → Ordering) (time : E) (entries : List (K × V)) where
  module _ (mono : IsMonotone by (live_at cmp expires time entries)) (at : ℕ) (d : K × V) (lt : at < length entries) (is : is_live cmp expires time (get_or entries at d).0 ≡ true) where
    abbrev here : K × V
    here = get_or entries at d

    rises : IsMonotone by (live_at cmp expires time (take at entries) ++ (here ∷ live_at cmp expires time (drop (at + 1) entries)))
    rises = subst (IsMonotone by) (split-true (live cmp expires time) entries at d lt is) mono

    -- with one that is Less all up to it are
    pub Less-up_to : by here.0 ≡ Less → All (λ entry. by entry.0 ≡ Less) (live_at cmp expires time (take (at + 1) entries))
    Less-up_to e =
        rw (take-true (live cmp expires time) entries at d lt is)
        (All-append (λ entry. by entry.0 ≡ Less) (live_at cmp expires time (take at entries)) (here ∷ [])
        (Less-before by (live_at cmp expires time (take at entries)) here (live_at cmp expires time (drop (at + 1) entries)) rises e)
        (All-cons (λ entry. by entry.0 ≡ Less) here [] e (All-nil (λ entry. by entry.0 ≡ Less))))

    -- with one that is Greater all from it on are
    pub Greater-from : by here.0 ≡ Greater → All (λ entry. by entry.0 ≡ Greater) (live_at cmp expires time (drop at entries))
    Greater-from e =
        rw (drop-true (live cmp expires time) entries at d lt is)
        (All-cons (λ entry. by entry.0 ≡ Greater) here (live_at cmp expires time (drop (at + 1) entries)) e
        (Greater-after by (live_at cmp expires time (take at entries)) here (live_at cmp expires time (drop (at + 1) entries)) rises e))

  -- a search by halves goes on to the left of a stretch without a live entry
  pub IsParted-none : (low middle high : ℕ) → IsParted cmp expires by time entries low high → live_at cmp expires time (drop middle entries) ≡ live_at cmp expires time (drop high entries) → IsParted cmp expires by time entries low middle
  IsParted-none low middle high parted same = record { less = parted.less; greater = rw same parted.greater }

  pub IsParted-Less : (low high at : ℕ) (d : K × V) → IsMonotone by (live_at cmp expires time entries) → at < length entries → is_live cmp expires time (get_or entries at d).0 ≡ true → IsParted cmp expires by time entries low high → by (get_or entries at d).0 ≡ Less → IsParted cmp expires by time entries (at + 1) high
  IsParted-Less low high at d mono lt is parted e = record { less = Less-up_to mono at d lt is e; greater = parted.greater }

  pub IsParted-Greater : (low high middle at : ℕ) (d : K × V) → IsMonotone by (live_at cmp expires time entries) → at < length entries → is_live cmp expires time (get_or entries at d).0 ≡ true → live_at cmp expires time (drop middle entries) ≡ live_at cmp expires time (drop at entries) → IsParted cmp expires by time entries low high → by (get_or entries at d).0 ≡ Greater → IsParted cmp expires by time entries low middle
  IsParted-Greater low high middle at d mono lt is same parted e = record { less = parted.less; greater = rw same (Greater-from mono at d lt is e) }

-- ---- how often a search by halves compares

pow-grows : (k : ℕ) → 1 ≤ 2 ^ k
pow-grows zero = omega arith
pow-grows (suc k) = let h = pow-grows k in rw pow-suc (omega arith)

-- one more comparison is within the bound while something is left
pub most-one_more : (k left n : ℕ) → 1 ≤ left → 2 ^ k * left ≤ n → k + 1 ≤ most_comparisons n
most-one_more k left n some small =
    let one = pow-grows k in
    let power : 2 ^ k ≤ n = grind arith in
    let half : k ≤ greatest_power n (n + 1) = power-half k n (omega arith) in
    let two : 1 ≤ greatest_power n (n + 1) = power-half 1 n (omega arith) in
    omega arith

pub no_more : (k left half n : ℕ) → half ≤ left → 2 ^ k * left ≤ n → 2 ^ k * half ≤ n
no_more k left half n le small = grind arith

-- half of what was left is left
pub halves : (k left half n : ℕ) → half + half ≤ left → 2 ^ k * left ≤ n → 2 ^ (k + 1) * half ≤ n
halves k left half n le small =
    let both : 2 ^ k * (half + half) ≤ n = no_more k left (half + half) n le small in
    let twice : 2 ^ (k + 1) ≡ 2 ^ k + 2 ^ k = rw (add-one, pow-suc) (omega arith) in
    rw twice (grind arith)

-- ---- one look of a search by halves
module _ (left n old was now : ℕ) (never : old ≤ was) (one : now ≡ was + 1) (halved : 2 ^ (was - old) * left ≤ n) where
  again : now - old ≡ (was - old) + 1
  again = omega arith

  pub few-looked : 1 ≤ left → now - old ≤ most_comparisons n
  few-looked some = rw again (most-one_more (was - old) left n some halved)

  pub bound-looked : 1 ≤ left → now ≤ old + most_comparisons n
  bound-looked some = let few = few-looked some in omega arith

  pub halved-looked : (half : ℕ) → half + half ≤ left → 2 ^ (now - old) * half ≤ n
  halved-looked half le = rw again (halves (was - old) left half n le halved)

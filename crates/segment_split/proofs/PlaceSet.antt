-- Laws of sets of places by the bits of words.
use Rattle.std.proofs.Common.{◌≡◌, ◌∙◌, ℕ, zero, suc, ◌+◌, ◌-◌, ◌*◌, ◌/◌, ◌%◌, ◌^◌, ◌<◌, ◌≤◌, min, ◌⊎◌, ◌++◌, cond, take, Bool, true, false, eqb, ltb, List, [], length, get_or, set, replicate, bit_and, refl, sym, ap, subst, inl, inr, arith, length-set, get_or-set_same, get_or-set_other}
use Rattle.std.specs.Prelude.{Vec}
use Rattle.std.specs.Vec.{with_items}
use Rattle.std.specs.Int.{bit_at}
use Rattle.std.proofs.lemmas.Bool.{true≢false, false≢true, cases_eq, cases_lt, lt-ltb}
use Rattle.std.proofs.lemmas.List.{get_or_past, get_or-replicate, length-replicate, with_items_is}
use Rattle.std.proofs.lemmas.List.Sums.{sum_by-set}
use Rattle.std.proofs.lemmas.List.FromFn.{length-map-range_with_len, get_or-map-range_with_len, fill_by_all}
use Rattle.std.proofs.lemmas.Nat.{pow_pos, pow-add, le-div, div_below}
use Rattle.std.proofs.lemmas.Nat.Bits.{bit_at-zero, bit_at-lt, bit_at_and, bit_at_ones, bit_at_ones_above, bit_at_above}
use Rattle.segment_split.specs.PlaceSet.{is_member, members, IsLastBefore, IsNoneBefore, IsHighestBit, is_set, IsNoneBeside, members_of, Tells, ChangesBit, IsSound}

-- ---- a word

min_one : (b : ℕ) → b < 2 → min b 1 ≡ b
min_one b h = omega arith

min_zero : (b : ℕ) → min b 0 ≡ 0
min_zero b = omega arith

pub bit_at_before : (n c k : ℕ) → k < c → bit_at (bit_and n (2 ^ c - 1)) k ≡ bit_at n k
bit_at_before n c k h = bit_at_and n (2 ^ c - 1) k ∙ ap (min (bit_at n k)) (bit_at_ones c k h) ∙ min_one (bit_at n k) (bit_at-lt n k)

pub bit_at_from : (n c k : ℕ) → c ≤ k → bit_at (bit_and n (2 ^ c - 1)) k ≡ 0
bit_at_from n c k h = bit_at_and n (2 ^ c - 1) k ∙ ap (min (bit_at n k)) (bit_at_ones_above c k h) ∙ min_zero (bit_at n k)

odd_one : (q : ℕ) → 1 ≤ q → q < 2 → q % 2 ≡ 1
odd_one q l h = omega arith

pub highest : (n j : ℕ) → j < 64 → 2 ^ j ≤ n → n < 2 * 2 ^ j → IsHighestBit n j
highest n j within low high =
    let next : 2 ^ (j + 1) ≡ 2 ^ j * 2 = pow-add 2 j 1 in
    record {
      within = within;
      set = odd_one (n / 2 ^ j) (le-div 1 n (2 ^ j) (pow_pos j) (omega arith)) (div_below n (2 ^ j) 2 (pow_pos j) high);
      above = λ k h. bit_at_above n (j + 1) k (omega arith) (omega arith);
    }

-- ---- words that tell of words

-- the last before a place is the last before a later one, where none is between
last_later : (passes : ℕ → Bool) (middle bound place : ℕ) → IsLastBefore passes middle place → middle ≤ bound → ((k : ℕ) → middle ≤ k → k < bound → passes k ≡ false) → IsLastBefore passes bound place
last_later passes middle bound place last later none = record {
  before = omega (arith, last.before);
  found = last.found;
  between = λ k after below. elim (cases_lt k middle) [ inl before ↦ last.between k after before | inr past ↦ none k past below ];
}

-- a word that is empty, or isn't there, has no bit set
is_set-empty : (words : List ℕ) (k : ℕ) → get_or words (k / 64) 0 ≡ 0 → is_set words k ≡ false
is_set-empty words k h = ap (λ n. eqb (bit_at n (k % 64)) 1) h ∙ ap (λ b. eqb b 1) (bit_at-zero (k % 64))

module _ (upper words : List ℕ) (tells : Tells upper words) where
  empty_below : (i : ℕ) → is_set upper i ≡ false → get_or words i 0 ≡ 0
  empty_below i unset =
      elim (cases_lt 0 (get_or words i 0)) [ inl some ↦ absurd (true≢false (sym (lt-ltb 0 (get_or words i 0) some) ∙ sym (tells i) ∙ unset)) | inr none ↦ omega arith ]

  module _ (bound : ℕ) (beside : IsNoneBeside words bound) where
    -- the last in the last word before that isn't empty
    pub last_by_upper : (at place : ℕ) → IsLastBefore (is_set upper) (bound / 64) at → IsLastBefore (is_set words) (at * 64 + 64) place → IsLastBefore (is_set words) bound place
    last_by_upper at place last last_there =
        last_later (is_set words) (at * 64 + 64) bound place last_there (omega (arith, last.before))
        (λ k from below.
        elim (cases_lt k (bound / 64 * 64)) [
          | inl lower ↦ is_set-empty words k (empty_below (k / 64) (last.between (k / 64) (omega arith) (omega arith)))
          | inr here ↦ beside k here below
        ])

    pub none_by_upper : IsNoneBefore (is_set upper) (bound / 64) → IsNoneBefore (is_set words) bound
    none_by_upper none k below =
        elim (cases_lt k (bound / 64 * 64)) [
          | inl lower ↦ is_set-empty words k (empty_below (k / 64) (none (k / 64) (omega arith)))
          | inr here ↦ beside k here below
        ]

-- ---- a bit changes

module _ (words words' : List ℕ) (place : ℕ) (bit : Bool) (changes : ChangesBit words words' place bit) where
  Tells-changed : (upper upper' : List ℕ) (some : Bool) → Tells upper words → some ≡ ltb 0 (get_or words' (place / 64) 0) → ChangesBit upper upper' (place / 64) some → Tells upper' words'
  Tells-changed upper upper' some tells e above i =
      elim (cases_eq i (place / 64)) [
        | inl same ↦ subst (λ j. is_set upper' j ≡ ltb 0 (get_or words' j 0)) (sym same) (above.here ∙ e)
        | inr other ↦ above.others i other ∙ tells i ∙ ap (ltb 0) (sym (changes.words i other))
      ]

module _ (words words' : List ℕ) (place : ℕ) (bit : Bool) (changes : ChangesBit words words' place bit) (places : ℕ) (within : place < places) where
  pub members_of-changed : members_of places words' ≡ set (members_of places words) place bit
  members_of-changed =
      let many : length (members_of places words) ≡ places = length-map-range_with_len (is_set words) 0 places in
      sym
      (fill_by_all (is_set words') (set (members_of places words) place bit) places false (length-set (members_of places words) place bit ∙ many)
      (λ k below.
      elim (cases_eq k place) [
        | inl same ↦
            subst (λ j. get_or (set (members_of places words) place bit) j false ≡ is_set words' j) (sym same)
            (get_or-set_same (members_of places words) place bit false (omega arith) ∙ sym changes.here)
        | inr other ↦
            get_or-set_other (members_of places words) place k bit false other ∙ get_or-map-range_with_len (is_set words) 0 places k k false below (omega arith)
            ∙ sym (changes.others k other)
      ]))

  pub IsSound-changed : (groups groups' tops tops' : List ℕ) (some any : Bool) → IsSound places words groups tops → some ≡ ltb 0 (get_or words' (place / 64) 0) → ChangesBit groups groups' (place / 64) some → any ≡ ltb 0 (get_or groups' (place / 64 / 64) 0) → ChangesBit tops tops' (place / 64 / 64) any → IsSound places words' groups' tops'
  IsSound-changed groups groups' tops tops' some any sound e middle e' top = record {
    words_reach = omega (arith, sound.words_reach, changes.many);
    groups_reach = omega (arith, sound.groups_reach, middle.many);
    tops_reach = omega (arith, sound.tops_reach, top.many);
    none_past = λ k past. changes.others k (λ same. absurd (omega arith)) ∙ sound.none_past k past;
    groups_tell = Tells-changed words words' place bit changes groups groups' some sound.groups_tell e middle;
    tops_tell = Tells-changed groups groups' (place / 64) some middle tops tops' any sound.tops_tell e' top;
  }

  -- where the word has bits as before, the words above tell the same
  stays : (upper : List ℕ) (i : ℕ) (some : Bool) → is_set upper i ≡ some → ChangesBit upper upper i some
  stays upper i some e = record { many = refl; here = e; others = λ k _. refl; words = λ k _. refl }

  pub IsSound-word : (groups tops : List ℕ) → IsSound places words groups tops → ltb 0 (get_or words' (place / 64) 0) ≡ ltb 0 (get_or words (place / 64) 0) → IsSound places words' groups tops
  IsSound-word groups tops sound e =
      IsSound-changed groups groups tops tops (ltb 0 (get_or words' (place / 64) 0)) (ltb 0 (get_or groups (place / 64 / 64) 0)) sound refl
      (stays groups (place / 64) (ltb 0 (get_or words' (place / 64) 0)) (sound.groups_tell (place / 64) ∙ sym e)) refl
      (stays tops (place / 64 / 64) (ltb 0 (get_or groups (place / 64 / 64) 0)) (sound.tops_tell (place / 64 / 64)))

pub items_written : {Z : Type 0} (v : Vec ℕ Z) (words : List ℕ) (place : ℕ) (bit : Bool) → ChangesBit v.items words place bit → (with_items v words).items ≡ words
items_written v words place bit changes = with_items_is v words (changes.many ∙ sym v.ok.0)

-- ---- what contracts see

-- a place is a member where its bit is set
is_member-members_of : (places : ℕ) (words : List ℕ) → ((k : ℕ) → places ≤ k → is_set words k ≡ false) → is_member (members_of places words) ≡ is_set words
is_member-members_of places words none_past = λ i k. at k i where
  at : (k : ℕ) → is_member (members_of places words) k ≡ is_set words k
  at k =
      elim (cases_lt k places) [
        | inl within ↦ get_or-map-range_with_len (is_set words) 0 places k k false within (omega arith)
        | inr past ↦ get_or_past (members_of places words) k false (omega (arith, length-map-range_with_len (is_set words) 0 places)) ∙ sym (none_past k past)
      ]

module _ (places : ℕ) (words : List ℕ) (members : List Bool) (view : members_of places words ≡ members) where
  pub is_set-members : ((k : ℕ) → places ≤ k → is_set words k ≡ false) → is_set words ≡ is_member members
  is_set-members none_past = sym (is_member-members_of places words none_past) ∙ ap is_member view

  pub place_below : (place : ℕ) → place < length members → place < places
  place_below place within = omega (arith, ap length view, length-map-range_with_len (is_set words) 0 places)

-- ---- at first

abbrev empty_words : ℕ → List ℕ
empty_words n = replicate n 0

empty_word : (n i : ℕ) → get_or (empty_words n) i 0 ≡ 0
empty_word n i =
    elim (cases_lt i n) [
      | inl within ↦ get_or-replicate n i 0 0 within
      | inr past ↦ get_or_past (empty_words n) i 0 (omega (arith, length-replicate {A = ℕ} n 0))
    ]

is_set-replicate : (n k : ℕ) → is_set (replicate n 0) k ≡ false
is_set-replicate n k = is_set-empty (replicate n 0) k (empty_word n (k / 64))

Tells-replicate : (m n : ℕ) → Tells (replicate m 0) (replicate n 0)
Tells-replicate m n i = is_set-replicate m i ∙ ap (ltb 0) (sym (empty_word n i))

pub members_of-replicate : (places n : ℕ) → members_of places (replicate n 0) ≡ replicate places false
members_of-replicate places n =
    sym
    (fill_by_all (is_set (replicate n 0)) (replicate places false) places false (length-replicate places false)
    (λ k below. get_or-replicate places k false false below ∙ sym (is_set-replicate n k)))

-- whatever storage there is
module _ (places words groups tops : ℕ) where
  pub IsSound-replicate : places ≤ words * 64 → places ≤ groups * 4096 → places ≤ tops * 262144 → IsSound places (replicate words 0) (replicate groups 0) (replicate tops 0)
  IsSound-replicate w g t = record {
    words_reach = omega (arith, w, length-replicate {A = ℕ} words 0);
    groups_reach = omega (arith, g, length-replicate {A = ℕ} groups 0);
    tops_reach = omega (arith, t, length-replicate {A = ℕ} tops 0);
    none_past = λ k past. is_set-replicate words k;
    groups_tell = Tells-replicate groups words;
    tops_tell = Tells-replicate tops groups;
  }

pub IsSound-new : (places : ℕ) → IsSound places (replicate (places / 64 + 1) 0) (replicate (places / 64 / 64 + 1) 0) (replicate (places / 64 / 64 / 64 + 1) 0)
IsSound-new places = IsSound-replicate places (places / 64 + 1) (places / 64 / 64 + 1) (places / 64 / 64 / 64 + 1) (omega arith) (omega arith) (omega arith)

pub IsSound-none : (words groups tops : ℕ) → IsSound 0 (replicate words 0) (replicate groups 0) (replicate tops 0)
IsSound-none words groups tops = IsSound-replicate 0 words groups tops (omega arith) (omega arith) (omega arith)

-- ---- how many members

pub members-replicate : (n : ℕ) → members (replicate n false) ≡ 0
members-replicate zero = refl
members-replicate (suc n) = members-replicate n

abbrev one : Bool → ℕ
one b = cond b 1 0

one-le : (b : Bool) → one b ≤ 1
one-le true = omega arith
one-le false = omega arith

module _ (ms : List Bool) (place : ℕ) where
  is_within : is_member ms place ≡ true → place < length ms
  is_within e = by (cases_lt place (length ms))
    where
      by : (place < length ms) ⊎ (length ms ≤ place) → place < length ms
      by (inl l) = l
      by (inr past) = absurd (false≢true (sym (get_or_past ms place false past) ∙ e))

  -- one that is taken out is one fewer
  pub members-out : is_member ms place ≡ true → members (set ms place false) + 1 ≡ members ms
  members-out e =
      let h : members (set ms place false) + one (is_member ms place) ≡ members ms + 0 = sum_by-set one ms place false false (is_within e) in
      let was : one (is_member ms place) ≡ 1 = ap one e in
      omega (arith, h, was)

  module _ (within : place < length ms) where
    changed : members (set ms place true) + one (is_member ms place) ≡ members ms + 1
    changed = sum_by-set one ms place true false within

    -- no more than one comes with one that is put in, and none goes
    pub members-in : members (set ms place true) ≤ members ms + 1
    members-in = omega (arith, changed)

    pub members-stay : members ms ≤ members (set ms place true)
    members-stay = omega (arith, changed, one-le (is_member ms place))

take_nothing : (n : ℕ) → take {A = ℕ} n [] ≡ []
take_nothing zero = refl
take_nothing (suc n) = refl

-- a list that was emptied, and filled up
pub refilled : (n : ℕ) (old new : List ℕ) (many : ℕ) → old ≡ [] → many ≡ 0 → new ≡ take n old ++ replicate (n - many) 0 → new ≡ replicate n 0
refilled n old new many none few is =
    let whole : n - many ≡ n = omega (arith, few) in
    is ∙ ap (λ xs. take n xs ++ replicate (n - many) 0) none ∙ ap (λ xs. xs ++ replicate (n - many) 0) (take_nothing n) ∙ ap (λ k. replicate k 0) whole

-- The live entries of a list by its parts, and what a test that rises along them says of each.
use Rattle.std.proofs.Common.{◌≡◌, ℕ, ◌≤◌, List, [], ◌∷◌, ◌++◌, true, false, All, Contains, refl, sym, ap, ◌∙◌, arith}
use Rattle.std.proofs.lemmas.List.{map-append}
use Rattle.std.proofs.lemmas.List.Elements.{All-cons, All-nil, All-head, All-tail, All-same, All-weaker, filter-append, Contains-append_right}
use Rattle.std.specs.Ordering.{ordering_index}
use Rattle.std.specs.declared.cmp.Ordering.{Ordering}
use Rattle.std.specs.declared.cmp.Ordering.TheVariants.{Less, Equal, Greater}
use Rattle.i_tree.specs.Tree.Entries.{unnamed}
use Rattle.i_tree.specs.LiveList.{is_live, live_at}
use Rattle.i_tree.specs.KeyAnswers.{last_where, IsMonotone}

pub All-left : {X : Type 0} (P : X → Type 0) (xs ys : List X) → All P (xs ++ ys) → All P xs
All-left P [] ys all = All-nil P
All-left P (x ∷ xs) ys all = All-cons P x xs (All-head P x (xs ++ ys) all) (All-left P xs ys (All-tail P x (xs ++ ys) all))

pub All-right : {X : Type 0} (P : X → Type 0) (xs ys : List X) → All P (xs ++ ys) → All P ys
All-right P [] ys all = all
All-right P (x ∷ xs) ys all = All-right P xs ys (All-tail P x (xs ++ ys) all)

-- what is asked of a list holds of its first element
pub All-first : {X : Type 0} (P : X → Type 0) (x : X) (xs rest : List X) → rest ≡ x ∷ xs → All P rest → P x
All-first P x xs rest e all = All-head P x xs (All-same P (x ∷ xs) rest (sym e) all)

lowest : (a : Ordering) → ordering_index a ≤ 0 → a ≡ Less
lowest Less h = refl
lowest Equal h = absurd (omega arith)
lowest Greater h = absurd (omega arith)

highest : (a : Ordering) → 2 ≤ ordering_index a → a ≡ Greater
highest Less h = absurd (omega arith)
highest Equal h = absurd (omega arith)
highest Greater h = refl

module _ {K V : Type 0} (by : K → Ordering) where
  -- before an entry that is Less all are
  pub Less-before : (xs : List (K × V)) (x : K × V) (ys : List (K × V)) → IsMonotone by (xs ++ (x ∷ ys)) → by x.0 ≡ Less → All (λ entry. by entry.0 ≡ Less) xs
  Less-before [] x ys mono e = All-nil (λ entry. by entry.0 ≡ Less)
  Less-before (y ∷ xs) x ys mono e =
      let rises = All-head (λ later. ordering_index (by y.0) ≤ ordering_index (by later.0)) x ys (All-right (λ later. ordering_index (by y.0) ≤ ordering_index (by later.0)) xs (x ∷ ys) mono.0) in
      let none : ordering_index (by x.0) ≡ 0 = ap ordering_index e in
      All-cons (λ entry. by entry.0 ≡ Less) y xs (lowest (by y.0) (omega arith)) (Less-before xs x ys mono.1 e)

  -- after an entry that is Greater all are
  pub Greater-after : (xs : List (K × V)) (x : K × V) (ys : List (K × V)) → IsMonotone by (xs ++ (x ∷ ys)) → by x.0 ≡ Greater → All (λ entry. by entry.0 ≡ Greater) ys
  Greater-after [] x ys mono e =
      let two : ordering_index (by x.0) ≡ 2 = ap ordering_index e in
      All-weaker (λ later. ordering_index (by x.0) ≤ ordering_index (by later.0)) (λ entry. by entry.0 ≡ Greater) (λ y h. highest (by y.0) (omega arith)) ys mono.0
  Greater-after (y ∷ xs) x ys mono e = Greater-after xs x ys mono.1 e

-- the value of the last entry
pub last_where-last : {K V : Type 0} (default : V) (xs : List (K × V)) (x : K × V) → last_where (λ k. true) default (xs ++ (x ∷ [])) ≡ x.1
last_where-last default [] x = refl
last_where-last default (y ∷ xs) x = last_where-last y.1 xs x

module _ {K E V : Type 0} (cmp : E → E → Ordering) (expires : K → E) (time : E) where
  -- the live ones of named entries
  abbrev pub live_of : List (ℕ × (K × V)) → List (K × V)
  live_of entries = live_at cmp expires time (unnamed entries)

  pub live_of-append : (xs ys : List (ℕ × (K × V))) → live_of (xs ++ ys) ≡ live_of xs ++ live_of ys
  live_of-append xs ys =
      ap (live_at cmp expires time) (map-append (λ (entry : ℕ × (K × V)). entry.1) xs ys)
      ∙ filter-append (λ (entry : K × V). is_live cmp expires time entry.0) (unnamed xs) (unnamed ys)

  pub live_of-live : (at : ℕ) (entry : K × V) (xs : List (ℕ × (K × V))) → is_live cmp expires time entry.0 ≡ true → live_of ((at, entry) ∷ xs) ≡ entry ∷ live_of xs
  live_of-live at entry xs live = rw live refl

  pub live_of-expired : (at : ℕ) (entry : K × V) (xs : List (ℕ × (K × V))) → is_live cmp expires time entry.0 ≡ false → live_of ((at, entry) ∷ xs) ≡ live_of xs
  live_of-expired at entry xs gone = rw gone refl

  -- a live entry stands between the live ones before it and those after it
  pub live_of-node : (xs : List (ℕ × (K × V))) (at : ℕ) (entry : K × V) (ys : List (ℕ × (K × V))) → is_live cmp expires time entry.0 ≡ true → live_of (xs ++ ((at, entry) ∷ ys)) ≡ live_of xs ++ (entry ∷ live_of ys)
  live_of-node xs at entry ys live = live_of-append xs ((at, entry) ∷ ys) ∙ ap (λ zs. live_of xs ++ zs) (live_of-live at entry ys live)

pub Contains-node : {X : Type 0} (xs : List X) (x : X) (ys : List X) → Contains (xs ++ (x ∷ ys)) x
Contains-node xs x ys = Contains-append_right xs (x ∷ ys) x (0, omega arith, refl)

-- What is among entries after an insertion and at a time, and what holds of all of them.
use Rattle.std.proofs.Common.{◌≡◌, ℕ, zero, suc, ◌<◌, List, [], ◌∷◌, length, Bool, true, false, cond, filter, All, Contains, get_or, ◌↔◌, ◌⊎◌, refl, sym, ap, ◌∙◌, inl, inr, arith}
use Rattle.std.proofs.lemmas.List.Elements.{All-weaker, All-contains, All-contains_itself}
use Rattle.std.specs.Ordering.{is_lt}
use Rattle.std.specs.declared.cmp.Ordering.{Ordering}
use Rattle.i_tree.specs.LiveList.{is_live, live_at, live_with, placed}

pub Contains-head : {X : Type 0} (x : X) (xs : List X) → Contains (x ∷ xs) x
Contains-head x xs = (0, omega arith, refl)

pub Contains-tail : {X : Type 0} (x y : X) (xs : List X) → Contains xs y → Contains (x ∷ xs) y
Contains-tail x y xs c = (suc c.0, omega (arith, c.1), c.2)

pub Contains-cases : {X : Type 0} (x y : X) (xs : List X) → Contains (x ∷ xs) y → (y ≡ x) ⊎ Contains xs y
Contains-cases x y xs c = by c.0 c.1 c.2 where
  by : (i : ℕ) → i < length (x ∷ xs) → get_or (x ∷ xs) i y ≡ y → (y ≡ x) ⊎ Contains xs y
  by zero h e = inl (sym e)
  by (suc i) h e = inr (i, omega arith, e)

pub Contains-none : {X : Type 0} (y : X) → Contains [] y → ⊥
Contains-none y c = absurd (omega (arith, c.1))

-- what holds of each that is contained holds of all
pub All-from_contains : {X : Type 0} (P : X → Type 0) (xs : List X) → ((x : X) → Contains xs x → P x) → All P xs
All-from_contains P xs h = All-weaker (Contains xs) P h xs (All-contains_itself xs)

-- a filter keeps just what passes
module _ {X : Type 0} (p : X → Bool) where
  pub Contains-from_filter : (xs : List X) (y : X) → Contains (filter p xs) y → Contains xs y × (p y ≡ true)
  Contains-from_filter [] y c = absurd (Contains-none y c)
  Contains-from_filter (x ∷ xs) y c = by (p x) refl c (Contains-from_filter xs y) where
    by : (b : Bool) → p x ≡ b → Contains (cond b (x ∷ filter p xs) (filter p xs)) y → (Contains (filter p xs) y → Contains xs y × (p y ≡ true)) → Contains (x ∷ xs) y × (p y ≡ true)
    by true e d rest = elim (Contains-cases x y (filter p xs) d) [
      | inl same ↦ rw same (Contains-head x xs, e)
      | inr later ↦ (Contains-tail x y xs (rest later).0, (rest later).1)
    ]
    by false e d rest = (Contains-tail x y xs (rest d).0, (rest d).1)

  pub Contains-filter : (xs : List X) (y : X) → Contains xs y → p y ≡ true → Contains (filter p xs) y
  Contains-filter [] y c e = absurd (Contains-none y c)
  Contains-filter (x ∷ xs) y c e = by (p x) refl (Contains-cases x y xs c) (λ d. Contains-filter xs y d e) where
    by : (b : Bool) → p x ≡ b → (y ≡ x) ⊎ Contains xs y → (Contains xs y → Contains (filter p xs) y) → Contains (cond b (x ∷ filter p xs) (filter p xs)) y
    by true f (inl same) rest = rw same (Contains-head x (filter p xs))
    by true f (inr later) rest = Contains-tail x y (filter p xs) (rest later)
    by false f (inl same) rest = absurd (let yes : p x ≡ true = ap p (sym same) ∙ e in cc)
    by false f (inr later) rest = rest later

module _ {K V : Type 0} (order : K → K → Ordering) (new : K × V) where
  Contains-from_placed : (es : List (K × V)) (y : K × V) → Contains (placed order new es) y → (y ≡ new) ⊎ Contains es y
  Contains-from_placed [] y c = Contains-cases new y [] c
  Contains-from_placed (x ∷ xs) y c = by (is_lt (order x.0 new.0)) c (Contains-from_placed xs y) where
    by : (b : Bool) → Contains (cond b (x ∷ placed order new xs) (new ∷ x ∷ xs)) y → (Contains (placed order new xs) y → (y ≡ new) ⊎ Contains xs y) → (y ≡ new) ⊎ Contains (x ∷ xs) y
    by true d rest = elim (Contains-cases x y (placed order new xs) d) [
      | inl same ↦ inr (rw same (Contains-head x xs))
      | inr later ↦ elim (rest later) [ inl same ↦ inl same | inr old ↦ inr (Contains-tail x y xs old) ]
    ]
    by false d rest = Contains-cases new y (x ∷ xs) d

  Contains-placed_new : (es : List (K × V)) → Contains (placed order new es) new
  Contains-placed_new [] = Contains-head new []
  Contains-placed_new (x ∷ xs) = by (is_lt (order x.0 new.0)) (Contains-placed_new xs) where
    by : (b : Bool) → Contains (placed order new xs) new → Contains (cond b (x ∷ placed order new xs) (new ∷ x ∷ xs)) new
    by true rest = Contains-tail x new (placed order new xs) rest
    by false rest = Contains-head new (x ∷ xs)

  Contains-placed_old : (es : List (K × V)) (y : K × V) → Contains es y → Contains (placed order new es) y
  Contains-placed_old [] y c = absurd (Contains-none y c)
  Contains-placed_old (x ∷ xs) y c = by (is_lt (order x.0 new.0)) (Contains-cases x y xs c) (Contains-placed_old xs y) where
    by : (b : Bool) → (y ≡ x) ⊎ Contains xs y → (Contains xs y → Contains (placed order new xs) y) → Contains (cond b (x ∷ placed order new xs) (new ∷ x ∷ xs)) y
    by true (inl same) rest = rw same (Contains-head x (placed order new xs))
    by true (inr later) rest = Contains-tail x y (placed order new xs) (rest later)
    by false o rest = Contains-tail new y (x ∷ xs) c

  pub Contains-placed_iff : (es : List (K × V)) (y : K × V) → Contains (placed order new es) y ↔ ((y ≡ new) ⊎ Contains es y)
  Contains-placed_iff es y = (Contains-from_placed es y, back) where
    back : (y ≡ new) ⊎ Contains es y → Contains (placed order new es) y
    back (inl same) = rw same (Contains-placed_new es)
    back (inr old) = Contains-placed_old es y old

  pub All-placed_iff : (claim : K × V → Type 0) (es : List (K × V)) → All claim (placed order new es) ↔ (claim new × All claim es)
  All-placed_iff claim es = (there, back) where
    there : All claim (placed order new es) → claim new × All claim es
    there all = (All-contains claim (placed order new es) new all (Contains-placed_new es), All-from_contains claim es (λ y h. All-contains claim (placed order new es) y all (Contains-placed_old es y h)))

    back : claim new × All claim es → All claim (placed order new es)
    back h = All-from_contains claim (placed order new es) (λ y c. by y (Contains-from_placed es y c)) where
      by : (y : K × V) → (y ≡ new) ⊎ Contains es y → claim y
      by y (inl same) = rw same h.0
      by y (inr old) = All-contains claim es y h.1 old

module _ {K E V : Type 0} (cmp : E → E → Ordering) (expires : K → E) (time : E) where
  pub Contains-live_at_iff : (es : List (K × V)) (y : K × V) → Contains (live_at cmp expires time es) y ↔ (Contains es y × (is_live cmp expires time y.0 ≡ true))
  Contains-live_at_iff es y = (Contains-from_filter (λ (e : K × V). is_live cmp expires time e.0) es y, λ h. Contains-filter (λ (e : K × V). is_live cmp expires time e.0) es y h.0 h.1)

  pub All-live_at_iff : (claim : K × V → Type 0) (es : List (K × V)) → All claim (live_at cmp expires time es) ↔ All (λ e. is_live cmp expires time e.0 ≡ true → claim e) es
  All-live_at_iff claim es = (
    λ all. All-from_contains (λ e. is_live cmp expires time e.0 ≡ true → claim e) es (λ y h e. All-contains claim (live_at cmp expires time es) y all ((Contains-live_at_iff es y).1 (h, e))),
    λ all. All-from_contains claim (live_at cmp expires time es) (λ y h. let was = (Contains-live_at_iff es y).0 h in All-contains (λ e. is_live cmp expires time e.0 ≡ true → claim e) es y all was.0 was.1),
  )

  module _ (order : K → K → Ordering) (new : K × V) where
    pub Contains-live_with_iff : (es : List (K × V)) (y : K × V) → Contains (live_with cmp expires order new time es) y ↔ (((y ≡ new) ⊎ Contains es y) × (is_live cmp expires time y.0 ≡ true))
    Contains-live_with_iff es y = by (is_live cmp expires time new.0) refl where
      old : Contains (live_at cmp expires time es) y → ((y ≡ new) ⊎ Contains es y) × (is_live cmp expires time y.0 ≡ true)
      old c = let was = (Contains-live_at_iff es y).0 c in (inr was.0, was.1)

      by : (b : Bool) → is_live cmp expires time new.0 ≡ b → Contains (cond b (placed order new (live_at cmp expires time es)) (live_at cmp expires time es)) y ↔ (((y ≡ new) ⊎ Contains es y) × (is_live cmp expires time y.0 ≡ true))
      by true e = (
        λ c. elim (Contains-from_placed order new (live_at cmp expires time es) y c) [ inl same ↦ (inl same, rw same e) | inr kept ↦ old kept ],
        λ h. (Contains-placed_iff order new (live_at cmp expires time es) y).1 (elim h.0 [ inl same ↦ inl same | inr was ↦ inr ((Contains-live_at_iff es y).1 (was, h.1)) ]),
      )
      by false e = (old, λ h. elim h.0 [ inl same ↦ absurd (let gone : is_live cmp expires time y.0 ≡ false = rw same e in let lives = h.1 in cc) | inr was ↦ (Contains-live_at_iff es y).1 (was, h.1) ])

    pub All-live_with_iff : (claim : K × V → Type 0) (es : List (K × V)) → All claim (live_with cmp expires order new time es) ↔ ((is_live cmp expires time new.0 ≡ true → claim new) × All (λ e. is_live cmp expires time e.0 ≡ true → claim e) es)
    All-live_with_iff claim es = (there, back) where
      there : All claim (live_with cmp expires order new time es) → (is_live cmp expires time new.0 ≡ true → claim new) × All (λ e. is_live cmp expires time e.0 ≡ true → claim e) es
      there all = (
        λ lives. All-contains claim (live_with cmp expires order new time es) new all ((Contains-live_with_iff es new).1 (inl refl, lives)),
        All-from_contains (λ e. is_live cmp expires time e.0 ≡ true → claim e) es (λ y h lives. All-contains claim (live_with cmp expires order new time es) y all ((Contains-live_with_iff es y).1 (inr h, lives))),
      )

      back : (is_live cmp expires time new.0 ≡ true → claim new) × All (λ e. is_live cmp expires time e.0 ≡ true → claim e) es → All claim (live_with cmp expires order new time es)
      back h = All-from_contains claim (live_with cmp expires order new time es) (λ y c. let was = (Contains-live_with_iff es y).0 c in by y was.0 was.1) where
        by : (y : K × V) → (y ≡ new) ⊎ Contains es y → is_live cmp expires time y.0 ≡ true → claim y
        by y (inl same) lives = rw same (h.0 (rw (← same) lives))
        by y (inr was) lives = All-contains (λ e. is_live cmp expires time e.0 ≡ true → claim e) es y h.1 was lives

-- Writes to the pool of a bucket tree: an insertion kept at a place, and a node taken out of a place's mask.
use Rattle.std.proofs.Common.{◌≡◌, ◌≢◌, ℕ, zero, suc, ◌+◌, ◌*◌, ◌%◌, ◌^◌, ◌≤◌, ◌<◌, inl, inr, ◌⊎◌, List, [], ◌∷◌, ◌++◌, length, filter, get_or, set, bit_and, Bool, true, false, ◌&&◌, ◌==◌, if◌then◌else◌, cond, refl, sym, ap, ◌∙◌, arith, length-set, length-append}
use Rattle.std.proofs.lemmas.Bool.{eq-eqb, cases_lt}
use Rattle.std.proofs.lemmas.Bool.Decides.{nat_tests}
use Rattle.std.proofs.lemmas.List.{get_or-map}
use Rattle.std.proofs.lemmas.List.Sums.{sum_by-set, length-filter}
use Rattle.std.proofs.lemmas.Nat.Bits.{bit_at_clear_same, bit_at_clear_other}
use Rattle.std.proofs.Math.Seq.{map-set_same}
use Rattle.std.specs.Int.{w64, bit_at, bit_not}
use Rattle.i_tree.specs.Ranges.Pool.{mentions, named_at, is_held, AreSpare, IsKept, LosesNode}
use Rattle.i_tree.proofs.Keys.Lists.{get_map_set}
use Rattle.i_tree.proofs.Ranges.PoolNames.{by_equal, mentions-last, mentions-none, filter-set_none, filter-set_fails, filter-last, get_map_last}

module _ {C : Type 0} (named : C → ℕ) where
  pub held_if : (c : C) (n : ℕ) → named c ≡ n → 0 < n → is_held named c ≡ true
  held_if c n e h = let off : (n == 0) ≡ false = grind (arith, nat_tests) in rw (e, off) refl

  pub vacant_if : (c : C) → named c ≡ 0 → is_held named c ≡ false
  vacant_if c e = rw e refl

  pub named_here : (pool : List C) (i : ℕ) (d : C) → i < length pool → named_at named pool i ≡ named (get_or pool i d)
  named_here pool i d h = get_or-map named pool i d 0 h

  pub named_past : (pool : List C) (i : ℕ) → length pool ≤ i → named_at named pool i ≡ 0
  named_past [] i h = refl
  named_past (c ∷ cs) zero h = absurd (omega arith)
  named_past (c ∷ cs) (suc i) h = named_past cs i (omega arith)

  -- how many are held after a write
  held_after : (pool : List C) (i : ℕ) (x d : C) → i < length pool → length (filter (is_held named) (set pool i x)) + cond (is_held named (get_or pool i d)) 1 0 ≡ length (filter (is_held named) pool) + cond (is_held named x) 1 0
  held_after pool i x d h = rw (length-filter (is_held named) (set pool i x), length-filter (is_held named) pool) (sum_by-set (λ c. cond (is_held named c) 1 0) pool i x d h)

  most_one : (b : Bool) → cond b 1 0 ≤ 1
  most_one true = omega arith
  most_one false = omega arith

  filter_most : (p : C → Bool) (xs : List C) → length (filter p xs) ≤ length xs
  filter_most p [] = omega arith
  filter_most p (x ∷ xs) = by (p x) refl (filter_most p xs) where
    by : (t : Bool) → p x ≡ t → length (filter p xs) ≤ length xs → length (filter p (x ∷ xs)) ≤ length (x ∷ xs)
    by true e rest = rw e (omega arith)
    by false e rest = rw e (omega arith)

  some_pass : (p : C → Bool) (xs : List C) (i : ℕ) (d : C) → i < length xs → p (get_or xs i d) ≡ true → 0 < length (filter p xs)
  some_pass p [] i d h e = absurd (omega arith)
  some_pass p (x ∷ xs) zero d h e = rw e (omega arith)
  some_pass p (x ∷ xs) (suc i) d h e = by (p x) refl (some_pass p xs i d (omega arith) e) where
    by : (t : Bool) → p x ≡ t → 0 < length (filter p xs) → 0 < length (filter p (x ∷ xs))
    by true f rest = rw f (omega arith)
    by false f rest = rw f rest

  fails_at_last : (p : C → Bool) (c : C) → named c ≡ 0 → (p c && is_held named c) ≡ false
  fails_at_last p c e = rw e (by (p c)) where
    by : (b : Bool) → (b && false) ≡ false
    by true = refl
    by false = refl

  module _ (pool : List C) (i : ℕ) (x d : C) (within : i < length pool) where
    set_named : (other : ℕ) → named_at named (set pool i x) other ≡ (if other == i then named x else named_at named pool other)
    set_named other = get_map_set named pool i x other 0 within

    set_here : named_at named (set pool i x) i ≡ named x
    set_here = let e : (i == i) ≡ true = eq-eqb _ _ refl in set_named i ∙ rw e refl

    set_other : (other : ℕ) → other ≢ i → named_at named (set pool i x) other ≡ named_at named pool other
    set_other other apart = set_named other ∙ by_equal other i (λ e is. absurd (apart is)) (λ e. rw e refl)

    -- a place that was spare has an insertion
    pub IsKept-set : named_at named pool i ≡ 0 → IsKept named pool (set pool i x) i x
    IsKept-set vacant = record {
      vacant = vacant;
      here = set_here;
      others = set_other;
      longer = let e = length-set pool i x in omega arith;
      kept = λ p. filter-set_fails (λ c. p c && is_held named c) pool i x d within (fails_at_last p (get_or pool i d) (sym (named_here pool i d within) ∙ vacant));
    }

    pub AreSpare-taken : 0 < named x → (spares old : List ℕ) (capacity : ℕ) → old ≡ spares ++ i ∷ [] → AreSpare named pool old capacity → AreSpare named (set pool i x) spares capacity
    AreSpare-taken held spares old capacity is now = record {
      all = λ place inside none. by_equal place i
          (λ e at. absurd (let here : named x ≡ 0 = sym set_here ∙ ap (named_at named (set pool i x)) (sym at) ∙ none in omega arith))
          (λ e.
          let len = length-set pool i x in
          let was = now.all place (omega arith) (sym (set_named place ∙ rw e refl) ∙ none) in
          let more = mentions-last place i spares in
          let there : 0 < mentions place (spares ++ i ∷ []) = rw is at was in
          let f : (i == place) ≡ false = by_equal i place (λ g same. let t : (place == i) ≡ true = eq-eqb _ _ (sym same) in cc) (λ g. g) in
          let two : mentions place (spares ++ i ∷ []) ≡ mentions place spares + 0 = rw f at more in omega arith);
      vacant = λ place some.
          let more = mentions-last place i spares in
          let was = now.vacant place (rw is (omega arith)) in
          let apart : place ≢ i = λ e. let one = now.once place in let here : (i == place) ≡ true = eq-eqb _ _ (sym e) in let two : mentions place spares + 1 ≤ 1 = rw (is, more, here) at one in omega arith in
          (let e = length-set pool i x in omega (arith, was.0), set_other place apart ∙ was.1);
      once = λ place. let more = mentions-last place i spares in let one : mentions place spares + (if i == place then 1 else 0) ≤ 1 = rw (is, more) at (now.once place) in omega arith;
      room =
          let held = held_after pool i x d within in
          let a = most_one (is_held named x) in
          let len : length old ≡ length spares + 1 = rw is (length-append spares (i ∷ [])) in
          let room = now.room in omega arith;
    }

    -- a mask loses bits
    pub AreSpare-less : (spares : List ℕ) (capacity : ℕ) → 0 < named x → named x ≤ named_at named pool i → AreSpare named pool spares capacity → AreSpare named (set pool i x) spares capacity
    AreSpare-less spares capacity held less now = record {
      all = λ place inside none. by_equal place i
          (λ e at. absurd (let here : named x ≡ 0 = sym set_here ∙ ap (named_at named (set pool i x)) (sym at) ∙ none in omega arith))
          (λ e. let len = length-set pool i x in now.all place (omega arith) (sym (set_named place ∙ rw e refl) ∙ none));
      vacant = λ place some.
          let was = now.vacant place some in
          (let e = length-set pool i x in omega (arith, was.0), by_equal place i (λ e is. ap (named_at named (set pool i x)) is ∙ set_here ∙ (let none : named_at named pool i ≡ 0 = ap (named_at named pool) (sym is) ∙ was.1 in omega arith)) (λ e. set_named place ∙ rw e was.1));
      once = now.once;
      room =
          let held = held_after pool i x d within in
          let room = now.room in
          let fewer : cond (is_held named x) 1 0 ≤ cond (is_held named (get_or pool i d)) 1 0 = by (cases_lt 0 (named x)) in
          omega arith;
    } where
      by : (0 < named x) ⊎ (named x ≤ 0) → cond (is_held named x) 1 0 ≤ cond (is_held named (get_or pool i d)) 1 0
      by (inl some) = let a = held_if x (named x) refl some in let b = held_if (get_or pool i d) (named_at named pool i) (sym (named_here pool i d within)) (omega arith) in rw (a, b) (omega arith)
      by (inr none) = let a = vacant_if x (omega arith) in rw a (omega arith)

    -- the last node of a mask goes
    pub AreSpare-freed : (spares : List ℕ) (capacity : ℕ) → named x ≡ 0 → 0 < named_at named pool i → AreSpare named pool spares capacity → AreSpare named (set pool i x) (spares ++ i ∷ []) capacity
    AreSpare-freed spares capacity none some now = record {
      all = λ place inside off. by_equal place i
          (λ e is. rw (mentions-last place i spares) (let here : (i == place) ≡ true = eq-eqb _ _ (sym is) in rw here (omega arith)))
          (λ e. let len = length-set pool i x in let was = now.all place (omega arith) (sym (set_named place ∙ rw e refl) ∙ off) in let more = mentions-last place i spares in omega arith);
      vacant = λ place more. by_equal place i
          (λ e is. (let l = length-set pool i x in omega arith, ap (named_at named (set pool i x)) is ∙ set_here ∙ none))
          (λ e. let sum = mentions-last place i spares in let other : (i == place) ≡ false = flip place e in let there : 0 < mentions place spares = let all = rw (sum, other) at more in omega arith in
          let was = now.vacant place there in (let l = length-set pool i x in omega (arith, was.0), set_named place ∙ rw e was.1));
      once = λ place. rw (mentions-last place i spares) (by_equal place i
          (λ e is. let here : (i == place) ≡ true = eq-eqb _ _ (sym is) in rw here (let zero_of = absent place is in omega arith))
          (λ e. let other : (i == place) ≡ false = flip place e in rw other (let one = now.once place in omega arith)));
      room =
          let held = held_after pool i x d within in
          let a = held_if (get_or pool i d) (named_at named pool i) (sym (named_here pool i d within)) some in
          let b = vacant_if x none in
          let exact : length (filter (is_held named) (set pool i x)) + 1 ≡ length (filter (is_held named) pool) + 0 = rw (a, b) at held in
          let len = length-append spares (i ∷ []) in let room = now.room in omega arith;
    } where
      flip : (place : ℕ) → (place == i) ≡ false → (i == place) ≡ false
      flip place e = by_equal i place (λ f is. let g : (place == i) ≡ true = eq-eqb _ _ (sym is) in cc) (λ f. f)

      absent : (place : ℕ) → place ≡ i → mentions place spares ≡ 0
      absent place is = elim (cases_lt 0 (mentions place spares)) [ inl h ↦ absurd (let was = now.vacant place h in let zero_of : named_at named pool i ≡ 0 = ap (named_at named pool) (sym is) ∙ was.1 in omega arith) | inr h ↦ omega arith ]

    -- there is room for one more spare place
    pub room_for_spare : (spares : List ℕ) (capacity : ℕ) → 0 < named_at named pool i → AreSpare named pool spares capacity → length spares < capacity
    room_for_spare spares capacity some now =
        let a = held_if (get_or pool i d) (named_at named pool i) (sym (named_here pool i d within)) some in
        let most = some_pass (is_held named) pool i d within a in
        let room = now.room in omega arith

    -- a node goes
    pub LosesNode-set : {V : Type 0} (value : C → V) (node : ℕ) → node < 63 → named x ≡ bit_and (named_at named pool i) (bit_not w64 (1 * 2 ^ node % 2 ^ 64)) → value x ≡ value (get_or pool i d) → LosesNode named value i node pool (set pool i x)
    LosesNode-set value node inside is same = record {
      cleared = ap (λ m. bit_at m node) (set_here ∙ is) ∙ bit_at_clear_same w64 (named_at named pool i) node (omega arith);
      elsewhere = set_other;
      gone = λ live dead.
          let off : live (value (get_or pool i d)) ≡ false = sym (get_or-map (λ c. live (value c)) pool i d true within) ∙ dead in
          record {
            others = λ place other a b. by_equal place i
                (λ e at. ap (λ m. bit_at m other) (ap (named_at named (set pool i x)) at ∙ set_here ∙ is) ∙ bit_at_clear_other w64 (named_at named pool i) node (omega arith) other (omega arith) b ∙ ap (λ j. bit_at (named_at named pool j) other) (sym at))
                (λ e. ap (λ m. bit_at m other) (set_named place ∙ rw e refl));
            same = length-set pool i x;
            lives = map-set_same (λ c. live (value c)) pool i x d (ap live same);
            stays = λ p. filter-set_none (λ c. live (value c) && p c) pool i x d (rw (same, off) refl) (rw off refl);
          };
    }

  -- a new place has an insertion
  pub IsKept-last : (pool : List C) (x : C) → IsKept named pool (pool ++ x ∷ []) (length pool) x
  IsKept-last pool x = record {
    vacant = named_past pool (length pool) (omega arith);
    here = let e : (length pool == length pool) ≡ true = eq-eqb _ _ refl in get_map_last named pool x (length pool) 0 ∙ rw e refl;
    others = λ other apart. get_map_last named pool x other 0 ∙ by_equal other (length pool) (λ e is. absurd (apart is)) (λ e. rw e refl);
    longer = let e = length-append pool (x ∷ []) in omega arith;
    kept = λ p. filter-last (λ c. p c && is_held named c) pool x;
  }

  -- an empty pool has no spare place
  pub AreSpare-none : (capacity : ℕ) → AreSpare named [] [] capacity
  AreSpare-none capacity = record {
    vacant = λ place some. absurd (let none = mentions-none place in omega arith);
    all = λ place inside none. absurd (omega arith);
    once = λ place. let none = mentions-none place in omega arith;
    room = omega arith;
  }

  -- with none spare, a new place leaves none spare, and there is room as for the whole pool
  pub AreSpare-last : (pool : List C) (x : C) (old capacity : ℕ) → 0 < named x → length pool + 1 ≤ capacity → AreSpare named pool [] old → AreSpare named (pool ++ x ∷ []) [] capacity
  AreSpare-last pool x old capacity held room now = record {
    vacant = λ place some. absurd (let none = mentions-none place in omega arith);
    all = λ place inside off. absurd (by_equal place (length pool)
        (λ e is. let here : named x ≡ 0 = sym (get_map_last named pool x place 0 ∙ rw e refl) ∙ off in omega arith)
        (λ e.
        let len = length-append pool (x ∷ []) in
        let apart : place ≢ length pool = λ is. let t : (place == length pool) ≡ true = eq-eqb _ _ is in cc in
        let was = now.all place (omega arith) (sym (get_map_last named pool x place 0 ∙ rw e refl) ∙ off) in let none = mentions-none place in omega arith));
    once = λ place. let none = mentions-none place in omega arith;
    room = let most = filter_most (is_held named) (pool ++ x ∷ []) in let len = length-append pool (x ∷ []) in omega arith;
  }

  pub AreSpare-grown : (pool : List C) (spares : List ℕ) (capacity more : ℕ) → capacity ≤ more → AreSpare named pool spares capacity → AreSpare named pool spares more
  AreSpare-grown pool spares capacity more h now = record { vacant = now.vacant; all = now.all; once = now.once; room = let room = now.room in omega arith }

  -- a spare place that is taken from the list
  pub popped : (pool : List C) (spares old : List ℕ) (i capacity : ℕ) → old ≡ spares ++ i ∷ [] → AreSpare named pool old capacity → (i < length pool) × (named_at named pool i ≡ 0)
  popped pool spares old i capacity is now = now.vacant i (rw (is, mentions-last i i spares) (let e : (i == i) ≡ true = eq-eqb _ _ refl in rw e (omega arith)))

pub nothing_left : {X : Type 0} (xs : List X) → length xs ≡ 0 → xs ≡ []
nothing_left [] e = refl
nothing_left (x ∷ xs) e = absurd (omega arith)

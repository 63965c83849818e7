-- What has expired stays so: the live list of a later time is found from that of an earlier one.
use Rattle.std.proofs.Common.{◌≡◌, ◌≢◌, ℕ, ◌≤◌, List, [], ◌∷◌, length, Bool, true, false, filter, refl, arith, Some, None}
use Rattle.std.proofs.lemmas.List.Elements.{All-filter}
use Rattle.std.proofs.lemmas.Cmp.{upto, tied_itself}
use Rattle.std.specs.Cmp.{IsTotalOrder}
use Rattle.std.specs.Ordering.{is_gt}
use Rattle.std.specs.declared.cmp.Ordering.{Ordering}
use Rattle.std.specs.declared.cmp.Ordering.TheVariants.{Less, Equal, Greater}
use Rattle.i_tree.specs.LiveList.{LiveList, is_live, live_at, IsSound, IsRising, IsAdvanced}

-- what the stronger test drops first the weaker one need not look at
filter_twice_step : {X : Type 0} (p q : X → Bool) (x : X) (xs : List X) → (p x ≡ false → q x ≡ false) → filter q (filter p xs) ≡ filter q xs → (b : Bool) → p x ≡ b → filter q (filter p (x ∷ xs)) ≡ filter q (x ∷ xs)
filter_twice_step p q x xs h rest true e = rw (e, rest) refl
filter_twice_step p q x xs h rest false e = rw (e, h e, rest) refl

pub filter_twice : {X : Type 0} (p q : X → Bool) → ((x : X) → p x ≡ false → q x ≡ false) → (xs : List X) → filter q (filter p xs) ≡ filter q xs
filter_twice p q h [] = refl
filter_twice p q h (x ∷ xs) = filter_twice_step p q x xs (h x) (filter_twice p q h xs) (p x) refl

length_filter_step : {X : Type 0} (p : X → Bool) (x : X) (xs : List X) → length (filter p xs) ≤ length xs → (b : Bool) → p x ≡ b → length (filter p (x ∷ xs)) ≤ length (x ∷ xs)
length_filter_step p x xs rest true e = rw e (omega arith)
length_filter_step p x xs rest false e = rw e (omega arith)

pub length-filter_le : {X : Type 0} (p : X → Bool) (xs : List X) → length (filter p xs) ≤ length xs
length-filter_le p [] = omega arith
length-filter_le p (x ∷ xs) = length_filter_step p x xs (length-filter_le p xs) (p x) refl

rising_filter_step : {K V : Type 0} (order : K → K → Ordering) (p : K × V → Bool) (x : K × V) (xs : List (K × V)) → IsRising order (x ∷ xs) → IsRising order (filter p xs) → (b : Bool) → p x ≡ b → IsRising order (filter p (x ∷ xs))
rising_filter_step order p x xs r rest true e = rw e (All-filter p (λ later. order x.0 later.0 ≡ Less) xs r.0, rest)
rising_filter_step order p x xs r rest false e = rw e rest

pub IsRising-filter : {K V : Type 0} (order : K → K → Ordering) (p : K × V → Bool) (xs : List (K × V)) → IsRising order xs → IsRising order (filter p xs)
IsRising-filter order p [] r = tt
IsRising-filter order p (x ∷ xs) r = rising_filter_step order p x xs r (IsRising-filter order p xs r.1) (p x) refl

module _ {K E : Type 0} (cmp : E → E → Ordering) (total : IsTotalOrder cmp) (expires : K → E) where
  not_after : (t time : E) → cmp t time ≢ Less → is_gt (cmp time t) ≡ false
  not_after t time h = by (cmp t time) refl where
    by : (o : Ordering) → cmp t time ≡ o → is_gt (cmp time t) ≡ false
    by Less e = absurd (h e)
    by Equal e = rw (total.antisymm time t, e) refl
    by Greater e = rw (total.antisymm time t, e) refl

  -- what isn't live at a time isn't live later
  pub expired_later : (time t : E) → cmp t time ≢ Less → (k : K) → is_live cmp expires time k ≡ false → is_live cmp expires t k ≡ false
  expired_later time t h k e = upto total (expires k) time t e (not_after t time h)

  -- no entry is live at a later time that wasn't at an earlier one
  pub live_at-live_at : {V : Type 0} (time t : E) → cmp t time ≢ Less → (es : List (K × V)) → live_at cmp expires t (live_at cmp expires time es) ≡ live_at cmp expires t es
  live_at-live_at {V} time t h es =
      filter_twice (λ (entry : K × V). is_live cmp expires time entry.0) (λ (entry : K × V). is_live cmp expires t entry.0) (λ entry. expired_later time t h entry.0) es

  pub not_before_itself : (time : E) → cmp time time ≢ Less
  not_before_itself time e = let tied : cmp time time ≡ Equal = tied_itself total time in cc

  -- the live list of a time is all live then
  pub live_at-settled : {V : Type 0} (time : E) (es : List (K × V)) → live_at cmp expires time (live_at cmp expires time es) ≡ live_at cmp expires time es
  live_at-settled time es = live_at-live_at time time (not_before_itself time) es

  module _ {V : Type 0} (order : K → K → Ordering) (time : E) (kept : LiveList K E V) (sound : IsSound cmp expires order kept) (left : List (K × V)) (is : left ≡ live_at cmp expires time kept.entries) where
    pub length-advanced : length left ≤ kept.stored
    length-advanced = let n : length left ≤ length kept.entries = rw is (length-filter_le (λ (entry : K × V). is_live cmp expires time entry.0) kept.entries) in omega (arith, sound.at_least_live)

    module _ (stored : ℕ) (least : length left ≤ stored) (most : stored ≤ kept.stored) where
      -- a collection that keeps just what is live is sound
      pub IsSound-advanced : IsSound cmp expires order (record { latest_time = Some time; insertions = kept.insertions; stored = stored; entries = left })
      IsSound-advanced = record {
        at_most_insertions = omega (arith, most, sound.at_most_insertions);
        at_least_live = least;
        all_live = λ t e. let same : time ≡ t = cc in rw (← same, is) (live_at-settled time kept.entries);
        no_time = λ e. absurd (let none : Some time ≡ None = e in cc);
        rising = rw is (IsRising-filter order (λ (entry : K × V). is_live cmp expires time entry.0) kept.entries sound.rising);
      }

      -- and it is what a call at that time has to leave
      pub IsAdvanced-advanced : IsAdvanced cmp expires time kept (record { latest_time = Some time; insertions = kept.insertions; stored = stored; entries = left })
      IsAdvanced-advanced = record {
        latest_time = refl;
        insertions = refl;
        stored = most;
        entries = is;
        later = λ t h. rw is (live_at-live_at time t h kept.entries);
      }

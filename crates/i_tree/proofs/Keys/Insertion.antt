-- What the insertion of a new key leaves.
use Rattle.std.proofs.Common.{◌≡◌, ◌≢◌, ℕ, suc, ◌+◌, ◌≤◌, List, [], ◌∷◌, length, Bool, true, false, cond, filter, insert, get_or, if◌then◌else◌, All, refl, sym, ap, ◌∙◌, inl, arith, Some, None, Result}
use Rattle.std.proofs.lemmas.List.Elements.{All-nil, All-cons, All-filter, All-head, All-tail}
use Rattle.std.specs.Cmp.{IsTotalOrder}
use Rattle.std.specs.Ordering.{is_lt, ordering_reverse}
use Rattle.std.specs.declared.cmp.Ordering.{Ordering}
use Rattle.std.specs.declared.cmp.Ordering.TheVariants.{Less, Equal, Greater}
use Rattle.i_tree.specs.LiveList.{LiveList, is_live, live_at, live_with, placed, IsSound, IsRising, IsLawful, IsNewKey, IsAdvanced, IsInserted}
use Rattle.i_tree.specs.KeyAnswers.{IsMonotone}
use Rattle.i_tree.specs.Search.{place_of, stop_of}
use Rattle.i_tree.proofs.Keys.Expiry.{not_before_itself, expired_later}
use Rattle.i_tree.proofs.Keys.Places.{stop_of-after_one, none_Less_after, all_among, among_head, among_tail, IsLawful-tail, IsMonotone-order}

module _ {K V : Type 0} (order : K → K → Ordering) (new : K × V) where
  abbrev against : K → Ordering
  against k = order k new.0

  -- an insertion where the search stopped puts the entry in its place
  pub insert-place : (es : List (K × V)) → insert es (stop_of (place_of against es)) new ≡ placed order new es
  insert-place [] = refl
  insert-place (x ∷ xs) = step (against x.0) refl (insert-place xs) where
    step : (o : Ordering) → against x.0 ≡ o → insert xs (stop_of (place_of against xs)) new ≡ placed order new xs → insert (x ∷ xs) (stop_of (place_of against (x ∷ xs))) new ≡ placed order new (x ∷ xs)
    step Less e rest = rw (e, stop_of-after_one) (ap (λ (ys : List (K × V)). x ∷ ys) rest)
    step Equal e rest = rw e refl
    step Greater e rest = rw e refl

  pub insert-stop : (es items : List (K × V)) (at : ℕ) (place : Result ℕ ℕ) → items ≡ insert es at new → at ≡ stop_of place → place ≡ place_of against es → items ≡ placed order new es
  insert-stop es items at place inserted stopped searched = inserted ∙ rw (stopped, searched) (insert-place es)

  pub length-placed : (es : List (K × V)) → length (placed order new es) ≡ suc (length es)
  length-placed [] = refl
  length-placed (x ∷ xs) = step (is_lt (against x.0)) refl (length-placed xs) where
    step : (b : Bool) → is_lt (against x.0) ≡ b → length (placed order new xs) ≡ suc (length xs) → length (placed order new (x ∷ xs)) ≡ suc (length (x ∷ xs))
    step true e rest = rw e (ap suc rest)
    step false e rest = rw e refl

  All-placed : (P : K × V → Type 0) (es : List (K × V)) → P new → All P es → All P (placed order new es)
  All-placed P [] p all = All-cons P new [] p all
  All-placed P (x ∷ xs) p all = step (is_lt (against x.0)) refl (All-placed P xs p (All-tail P x xs all)) where
    step : (b : Bool) → is_lt (against x.0) ≡ b → All P (placed order new xs) → All P (placed order new (x ∷ xs))
    step true e rest = rw e (All-cons P x (placed order new xs) (All-head P x xs all) rest)
    step false e rest = rw e (All-cons P new (x ∷ xs) p all)

  -- an entry that no other is below goes in front
  pub placed_in_front : (es : List (K × V)) → All (λ entry. is_lt (against entry.0) ≡ false) es → placed order new es ≡ new ∷ es
  placed_in_front [] none = refl
  placed_in_front (x ∷ xs) none = rw (All-head (λ entry. is_lt (against entry.0) ≡ false) x xs none) refl

  -- to drop entries and to put one in its place may be done in either order
  pub filter-placed : (q : K × V → Bool) (es : List (K × V)) → IsMonotone against es → filter q (placed order new es) ≡ (if q new then placed order new (filter q es) else filter q es)
  filter-placed q [] mono = refl
  filter-placed q (x ∷ xs) mono = step (is_lt (against x.0)) refl (filter-placed q xs mono.1) where
    kept : is_lt (against x.0) ≡ true → (c d : Bool) → q x ≡ c → q new ≡ d → filter q (placed order new xs) ≡ (if d then placed order new (filter q xs) else filter q xs) → cond (q x) (x ∷ filter q (placed order new xs)) (filter q (placed order new xs)) ≡ (if q new then placed order new (filter q (x ∷ xs)) else filter q (x ∷ xs))
    kept e true true f g rest = rw (f, g, e, rest) refl
    kept e true false f g rest = rw (f, g, rest) refl
    kept e false true f g rest = rw (f, g, rest) refl
    kept e false false f g rest = rw (f, g, rest) refl

    step : (b : Bool) → is_lt (against x.0) ≡ b → filter q (placed order new xs) ≡ (if q new then placed order new (filter q xs) else filter q xs) → filter q (placed order new (x ∷ xs)) ≡ (if q new then placed order new (filter q (x ∷ xs)) else filter q (x ∷ xs))
    step true e rest = rw e (kept e (q x) (q new) refl refl rest)
    step false e rest =
        let none : All (λ (entry : K × V). is_lt (against entry.0) ≡ false) (x ∷ xs) = All-cons (λ (entry : K × V). is_lt (against entry.0) ≡ false) x xs e (none_Less_after against x xs mono e) in
        rw (e, placed_in_front (filter q (x ∷ xs)) (All-filter q (λ entry. is_lt (against entry.0) ≡ false) (x ∷ xs) none)) refl

  -- a new key, lawful among the others, keeps them rising
  pub IsRising-placed : (es : List (K × V)) → IsRising order es → IsLawful order new.0 es → IsNewKey order new.0 es → IsRising order (placed order new es)
  IsRising-placed [] rising lawful unlike = (All-nil (λ later. order new.0 later.0 ≡ Less), tt)
  IsRising-placed (x ∷ xs) rising lawful unlike = step (against x.0) refl (IsRising-placed xs rising.1 (IsLawful-tail order new.0 x xs lawful) (All-tail (λ entry. order entry.0 new.0 ≢ Equal) x xs unlike)) where
    above : against x.0 ≡ Greater → order new.0 x.0 ≡ Less
    above e = lawful.reversed new.0 x.0 (inl refl) (among_head new.0 x xs) ∙ ap ordering_reverse e

    step : (o : Ordering) → against x.0 ≡ o → IsRising order (placed order new xs) → IsRising order (placed order new (x ∷ xs))
    step Less e rest = rw e (All-placed (λ later. order x.0 later.0 ≡ Less) xs e rising.0, rest)
    step Equal e rest = absurd (All-head (λ entry. order entry.0 new.0 ≢ Equal) x xs unlike e)
    step Greater e rest = rw e (All-cons (λ later. order new.0 later.0 ≡ Less) x xs (above e) (λ i d h. lawful.through new.0 x.0 (get_or xs i d).0 (inl refl) (among_head new.0 x xs) (among_tail new.0 x xs (get_or xs i d).0 (all_among new.0 xs i d h)) (above e) (rising.0 i d h)), rising)

module _ {K E V : Type 0} (cmp : E → E → Ordering) (total : IsTotalOrder cmp) (expires : K → E) (order : K → K → Ordering) (entry : K × V) (time : E) (old mid : LiveList K E V) (advanced : IsAdvanced cmp expires time old mid) (sound : IsSound cmp expires order mid) (stored : ℕ) (most : stored ≤ mid.stored + 1) where
  module _ (least : length mid.entries ≤ stored) where
    -- what has expired is accepted, and never seen
    pub IsInserted-expired : is_live cmp expires time entry.0 ≡ false → IsInserted cmp expires order entry time old (record { latest_time = mid.latest_time; insertions = mid.insertions + 1; stored = stored; entries = mid.entries })
    IsInserted-expired gone = record {
      latest_time = advanced.latest_time;
      insertions = ap (λ n. n + 1) advanced.insertions;
      stored = omega (arith, most, advanced.stored);
      entries = rw gone advanced.entries;
      later = λ t h. rw (expired_later cmp total expires time t h entry.0 gone) (advanced.later t h);
    }

    pub IsSound-expired : IsSound cmp expires order (record { latest_time = mid.latest_time; insertions = mid.insertions + 1; stored = stored; entries = mid.entries })
    IsSound-expired = record {
      at_most_insertions = omega (arith, most, sound.at_most_insertions);
      at_least_live = least;
      all_live = sound.all_live;
      no_time = sound.no_time;
      rising = sound.rising;
    }

  module _ (lawful : IsLawful order entry.0 (live_at cmp expires time old.entries)) (unlike : IsNewKey order entry.0 (live_at cmp expires time old.entries)) (live : is_live cmp expires time entry.0 ≡ true) (items : List (K × V)) (is : items ≡ placed order entry mid.entries) (least : length items ≤ stored) where
    lawful_now : IsLawful order entry.0 mid.entries
    lawful_now = rw advanced.entries lawful

    unlike_now : IsNewKey order entry.0 mid.entries
    unlike_now = rw advanced.entries unlike

    rising_now : IsRising order mid.entries
    rising_now = sound.rising

    later_with : (t : E) → cmp t time ≢ Less → live_at cmp expires t (placed order entry mid.entries) ≡ live_with cmp expires order entry t old.entries
    later_with t h =
        filter-placed order entry (λ (e : K × V). is_live cmp expires t e.0) mid.entries (IsMonotone-order order entry.0 mid.entries rising_now lawful_now)
        ∙ rw (advanced.later t h) refl

    -- what is live is in its place
    pub IsInserted-live : IsInserted cmp expires order entry time old (record { latest_time = mid.latest_time; insertions = mid.insertions + 1; stored = stored; entries = items })
    IsInserted-live = record {
      latest_time = advanced.latest_time;
      insertions = ap (λ n. n + 1) advanced.insertions;
      stored = omega (arith, most, advanced.stored);
      entries = rw (is, live, advanced.entries) refl;
      later = λ t h. rw is (later_with t h);
    }

    pub IsSound-live : IsSound cmp expires order (record { latest_time = mid.latest_time; insertions = mid.insertions + 1; stored = stored; entries = items })
    IsSound-live = record {
      at_most_insertions = omega (arith, most, sound.at_most_insertions);
      at_least_live = least;
      all_live = λ t e.
          let at_once : Some time ≡ Some t = sym advanced.latest_time ∙ e in let same : time ≡ t = cc in
          rw (← same, is) (later_with time (not_before_itself cmp total expires time) ∙ rw (live, advanced.entries) refl);
      no_time = λ e. absurd (let none : Some time ≡ None = sym advanced.latest_time ∙ e in cc);
      rising = rw is (IsRising-placed order entry mid.entries rising_now lawful_now unlike_now);
    }

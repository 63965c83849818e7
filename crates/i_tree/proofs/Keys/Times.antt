-- What has expired stays so, where a value is live as long as its expiration isn't before the time.
use Rattle.std.proofs.Common.{◌≡◌, ◌≢◌, List, Bool, true, false, ◌&&◌, refl, sym, ◌∙◌, Option, Some, None}
use Rattle.std.proofs.lemmas.Cmp.{upto}
use Rattle.std.specs.Cmp.{IsTotalOrder}
use Rattle.std.specs.Ordering.{is_gt, is_ge}
use Rattle.std.specs.declared.cmp.Ordering.{Ordering}
use Rattle.std.specs.declared.cmp.Ordering.TheVariants.{Less, Equal, Greater}
use Rattle.i_tree.specs.Bag.{Insertion, Bag, is_still_live, is_live_yet, still_live, IsPassed}
use Rattle.i_tree.proofs.Ranges.Filters.{filter_and, filter_like}

less_from_ge : (o : Ordering) → is_ge o ≡ false → o ≡ Less
less_from_ge Less e = refl
less_from_ge Equal e = cc
less_from_ge Greater e = cc

module _ {E V : Type 0} (cmp : E → E → Ordering) (total : IsTotalOrder cmp) (expires : V → E) where
  not_after : (t time : E) → cmp t time ≢ Less → is_gt (cmp time t) ≡ false
  not_after t time h = by (cmp t time) refl where
    by : (o : Ordering) → cmp t time ≡ o → is_gt (cmp time t) ≡ false
    by Less e = absurd (h e)
    by Equal e = rw (total.antisymm time t, e) refl
    by Greater e = rw (total.antisymm time t, e) refl

  -- what isn't live at a time isn't live later
  pub gone_later : (time t : E) → cmp t time ≢ Less → (v : V) → is_still_live cmp expires time v ≡ false → is_still_live cmp expires t v ≡ false
  gone_later time t h v gone = by (cmp (expires v) t) refl where
    before : cmp (expires v) time ≡ Less
    before = less_from_ge _ gone

    never : cmp (expires v) t ≢ Less → is_ge (cmp (expires v) t) ≡ false
    never lasts = absurd (
        let past : is_gt (cmp time (expires v)) ≡ false = upto total time t (expires v) (not_after t time h) (not_after (expires v) t lasts) in
        let after : is_gt (cmp time (expires v)) ≡ true = rw (total.antisymm time (expires v), before) refl in cc)

    by : (o : Ordering) → cmp (expires v) t ≡ o → is_ge (cmp (expires v) t) ≡ false
    by Less e = rw e refl
    by Equal e = never (λ f. cc)
    by Greater e = never (λ f. cc)

  pub gone_yet : (latest : Option E) (time : E) → ((x : E) → latest ≡ Some x → cmp time x ≢ Less) → (v : V) → is_live_yet cmp expires latest v ≡ false → is_still_live cmp expires time v ≡ false
  gone_yet None time h v gone = cc
  gone_yet (Some t) time h v gone = gone_later t time (h t refl) v gone

  weaker_last : (a b : Bool) → (a ≡ false → b ≡ false) → (a && b) ≡ b
  weaker_last true b h = refl
  weaker_last false b h = sym (h refl)

  pub still_live-later : (time t : E) → cmp t time ≢ Less → (xs : List (Insertion V)) → still_live cmp expires t (still_live cmp expires time xs) ≡ still_live cmp expires t xs
  still_live-later time t h xs =
      filter_and (λ (x : Insertion V). is_still_live cmp expires t x.value) (λ (x : Insertion V). is_still_live cmp expires time x.value) xs
      ∙ filter_like _ (λ (x : Insertion V). is_still_live cmp expires t x.value) (λ x. weaker_last _ _ (gone_later time t h x.value)) xs

  -- a bag that keeps just what is live at the time
  pub IsPassed-live : (time : E) (old new : Bag E V) → new.buckets ≡ old.buckets → new.latest_time ≡ Some time → new.insertions ≡ old.insertions → new.live ≡ still_live cmp expires time old.live → IsPassed cmp expires time old new
  IsPassed-live time old new buckets latest insertions live = record {
    buckets = buckets;
    latest_time = latest;
    insertions = insertions;
    live = live;
    later = λ t h. rw live (still_live-later time t h old.live);
  }

-- What a handler was told, segment by segment.
use Rattle.std.proofs.Common.{◌≡◌, ℕ, ◌+◌, ◌<◌, ◌≤◌, List, [], ◌∷◌, ◌++◌, ◌⊎◌, map, length, get_or, inl, inr, sym, ap, ◌∙◌, arith}
use Rattle.std.proofs.Math.ListN.{drop, drop_of_length-le}
use Rattle.std.proofs.lemmas.List.{drop_more, get_or-map}
use Rattle.std.specs.declared.ops.ControlFlow.{ControlFlow}
use Rattle.std.specs.declared.ops.ControlFlow.TheVariants.{Continue, Break}
use Rattle.plane_base.specs.declared.fault.Fault.{Fault}
use Rattle.segment_arrangement.specs.Sweeps.{IsHandled, IsRefused}

module _ {H S O : Type 0} (handles : H → ℕ → S → ℕ → ControlFlow O (Unit {0}) → H → Type 0) (finishes : H → O → Type 0) where
  -- From the place n on the first i of the segments were told, and what comes of the others comes of all of them.
  abbrev pub IsLed : (S → ℕ) → ℕ → ℕ → List S → H → H → Type 0
  IsLed fill n i segments old new = (rest : List S) (output : O) → IsHandled handles finishes fill (n + i) (drop i segments ++ rest) new output → IsHandled handles finishes fill n (segments ++ rest) old output

  pub led_start : (fill : S → ℕ) (n : ℕ) (segments : List S) (old : H) → IsLed fill n 0 segments old old
  led_start fill n segments old rest output k = let e : n + 0 ≡ n = omega arith in rw e at k

  pub led_break :
      (fill : S → ℕ) (n i : ℕ) (segments : List S) (old new after : H) (s : S) (told : ℕ) (output : O) → IsLed fill n i segments old new → i < length segments → get_or segments i s ≡ s → fill s ≡ told
      → handles new (n + i) s told (Break output) after → (rest : List S) → IsHandled handles finishes fill n (segments ++ rest) old output
  led_break fill n i segments old new after s told output led within here same call rest =
      led rest output (rw (drop_more segments i s within) (rw here (inl (after, (rw same call)))))

  pub led_next :
      (fill : S → ℕ) (n i : ℕ) (segments : List S) (old new after : H) (s : S) (told : ℕ) → IsLed fill n i segments old new → i < length segments → get_or segments i s ≡ s → fill s ≡ told
      → handles new (n + i) s told (Continue tt) after → IsLed fill n (i + 1) segments old after
  led_next fill n i segments old new after s told led within here same call rest output k =
      led rest output (rw (drop_more segments i s within) (rw here (inr (after, rw same call, rw (sym place) k))))
    where
      place : n + (i + 1) ≡ (n + i) + 1
      place = omega arith

  pub led_all :
      (fill : S → ℕ) (n i : ℕ) (segments : List S) (old new : H) → IsLed fill n i segments old new → length segments ≤ i → i ≤ length segments
      → (rest : List S) (output : O) → IsHandled handles finishes fill (n + length segments) rest new output → IsHandled handles finishes fill n (segments ++ rest) old output
  led_all fill n i segments old new led over within rest output k =
      led rest output (rw (drop_of_length-le segments over) (rw (sym place) k))
    where
      place : n + length segments ≡ n + i
      place = omega (arith, over, within)

-- the fill of the segment at a place
pub fill_at :
    {S T : Type 0} (fill : S → ℕ) (of : T → ℕ) (segments : List S) (sides : List T) (i : ℕ) (s : S) (t : T) → map fill segments ≡ map of sides → length sides ≡ length segments → i < length segments
    → get_or segments i s ≡ s → fill s ≡ of (get_or sides i t)
fill_at fill of segments sides i s t same one_each within here =
    sym (ap fill here) ∙ (sym (get_or-map fill segments i s 0 within) ∙ (ap (λ l. get_or l i 0) same ∙ get_or-map of sides i t 0 inside))
  where
    inside : i < length sides
    inside = omega (arith, within, one_each)

-- A handler that is refused by faults of some kind alone ends a sweep with such a fault.
module _ {H S O : Type 0} (handles : H → ℕ → S → ℕ → ControlFlow O (Unit {0}) → H → Type 0) (refuses : H → ℕ → S → ℕ → Fault → Type 0) (Wanted : Fault → Type 0)
    (only : (h : H) (n : ℕ) (s : S) (fill : ℕ) (fault : Fault) → refuses h n s fill fault → Wanted fault) where
  pub refused_by : (fill : S → ℕ) (n : ℕ) (ss : List S) (h : H) (fault : Fault) → IsRefused handles refuses fill n ss h fault → Wanted fault
  refused_by fill n [] h fault refused = absurd refused
  refused_by fill n (s ∷ rest) h fault refused = by (λ after. refused_by fill (n + 1) rest after fault) refused
    where
      by : ((after : H) → IsRefused handles refuses fill (n + 1) rest after fault → Wanted fault)
          → ((after : H) × refuses h n s (fill s) fault) ⊎ ((after : H) × handles h n s (fill s) (Continue tt) after × IsRefused handles refuses fill (n + 1) rest after fault) → Wanted fault
      by more (inl (after, call)) = only h n s (fill s) fault call
      by more (inr (after, call, others)) = more after others

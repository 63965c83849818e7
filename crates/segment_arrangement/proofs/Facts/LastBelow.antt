-- The last of the edges below a point, and what telescopes along them.
use Rattle.std.proofs.Common.{◌≡◌, ◌≢◌, ℕ, zero, suc, Bool, true, false, cond, ◌&&◌, List, All, Contains, ◌⊎◌, inl, inr, ℤ, pos, negsuc, ◌+ℤ◌, ◌-ℤ◌, ◌≤ℤ◌, int_lt, get_or, refl, sym, ap, ◌∙◌, arith}
use Rattle.std.specs.declared.cmp.Ordering.{Ordering}
use Rattle.std.specs.declared.cmp.Ordering.TheVariants.{Less, Equal, Greater}
use Rattle.std.specs.Prelude.{unsigned_abs}
use Rattle.std.specs.Ordering.{is_lt, ordering_reverse}
use Rattle.std.proofs.lemmas.Int.{ints}
use Rattle.std.proofs.lemmas.Bool.{false≢true, and_parts, and_from, and_right}
use Rattle.std.proofs.lemmas.List.Elements.{All-contains, All-contains_itself}
use Rattle.plane_base.specs.Plane.{Edge, RationalPoint, IsRational, spans, side, is_below}
use Rattle.plane_base.specs.Counts.{Count, Entry, boolean}
use Rattle.plane_base.specs.Windings.{winding}
use Rattle.plane_base.specs.Segments.{parted, column_order, precedes}
use Rattle.plane_base.specs.ColumnLaws.{IsLive}
use Rattle.plane_base.specs.Regions.{region}
use Rattle.plane_base.specs.Totals.{total}
use Rattle.plane_base.proofs.Facts.Columns.Order.{order_is_lawful}
use Rattle.plane_base.proofs.Facts.Columns.Levels.{unless_same}
use Rattle.plane_base.proofs.Facts.Columns.Sides.{sides_keep_order}
use Rattle.plane_base.proofs.Facts.Lists.Totals.{total_pointwise_on, total_zero_on, total_not_negative}
use Rattle.plane_base.proofs.Facts.Windings.Sums.{region_of_nothing}
use Rattle.segment_arrangement.specs.Columns.{no_count, is_live, sum_of, below}
use Rattle.segment_arrangement.specs.EdgeSides.{lower_side, upper_side, sign, indicator}
use Rattle.segment_arrangement.specs.SideLaws.{IsArrangement, IsLastBelow, SignsSumToRegion, WindingIsLastUpper}
use Rattle.segment_arrangement.proofs.Facts.ColumnPlaces.{same_tests, lt_holds, lt_tells, live_tells, live_holds, IsColumn, column_of, spans_live, column_over}
use Rattle.segment_arrangement.proofs.Facts.EndsAlong.{precedes_itself}
use Rattle.segment_arrangement.proofs.Facts.AlongKey.{same_count}
use Rattle.segment_arrangement.proofs.Facts.ConstantSides.{parted_from_others, lower_is_below}
use Rattle.segment_arrangement.proofs.Facts.GreatestEntry.{IsGreatest, IsOrdered, greatest, total_apart}

-- the edges that pass below s at the column
abbrev pub under : ℤ → Edge → Edge → Bool
under x s t = is_live x t && precedes t s

module _ (es : List (Entry Count)) (arranged : IsArrangement es) (x : ℤ) where
  apart : (e f : Entry Count) → Contains es e → Contains es f → precedes e.edge f.edge ≡ true → parted e.edge f.edge ≡ true
  apart e f here there l = All-contains (λ g. e.edge ≢ g.edge → parted e.edge g.edge ≡ true) es f (parted_from_others es arranged e here) there differ
    where
      differ : e.edge ≢ f.edge
      differ same = false≢true (sym (precedes_itself f.edge) ∙ (ap (λ s. precedes s f.edge) (sym same) ∙ l))

  before : (s t : Edge) → precedes s t ≡ true → column_order s t ≡ Less
  before s t l = (order_is_lawful.precedes_is s t).0 l

  -- edges over the column, with each all that pass below it
  pub record IsLowerSet (test : Edge → Bool) : Type 0 where
    pub live : (e : Entry Count) → Contains es e → test e.edge ≡ true → IsLive x e.edge
    pub down : (e f : Entry Count) → Contains es e → Contains es f → test f.edge ≡ true → IsLive x e.edge → precedes e.edge f.edge ≡ true → test e.edge ≡ true

  under_is_lower : (k : Entry Count) → Contains es k → IsLive x k.edge → IsLowerSet (under x k.edge)
  under_is_lower k there live = record { live = λ e here t. live_tells x e.edge (and_parts (is_live x e.edge) (precedes e.edge k.edge) t).0; down = down }
    where
      down : (e f : Entry Count) → Contains es e → Contains es f → under x k.edge f.edge ≡ true → IsLive x e.edge → precedes e.edge f.edge ≡ true → under x k.edge e.edge ≡ true
      down e f here between t le l =
          let h = and_parts (is_live x f.edge) (precedes f.edge k.edge) t in
          let e_f = apart e f here between l in
          let f_k = apart f k between there h.1 in
          and_from (is_live x e.edge) (precedes e.edge k.edge) (live_holds x e.edge le)
          (ap is_lt (order_is_lawful.through e.edge f.edge k.edge x e_f f_k
          (λ differ. All-contains (λ g. e.edge ≢ g.edge → parted e.edge g.edge ≡ true) es k (parted_from_others es arranged e here) there differ)
          le (live_tells x f.edge h.0) live (before e.edge f.edge l) (before f.edge k.edge h.1)))

  below_is_lower : (p : RationalPoint) → IsRational p → IsColumn x p → IsLowerSet (λ t. is_below t.a t.b p)
  below_is_lower p some column = record { live = live; down = down }
    where
      live : (e : Entry Count) → Contains es e → is_below e.edge.a e.edge.b p ≡ true → IsLive x e.edge
      live e here t = live_tells x e.edge (sym (spans_live x p some column e.edge) ∙ (and_parts (spans e.edge.a e.edge.b p) (int_lt (pos 0) (side e.edge.a e.edge.b p)) t).0)

      down : (e f : Entry Count) → Contains es e → Contains es f → is_below f.edge.a f.edge.b p ≡ true → IsLive x e.edge → precedes e.edge f.edge ≡ true → is_below e.edge.a e.edge.b p ≡ true
      down e f here between t le l =
          and_from (spans e.edge.a e.edge.b p) (int_lt (pos 0) (side e.edge.a e.edge.b p)) (spans_live x p some column e.edge ∙ live_holds x e.edge le)
          (lt_holds (pos 0) (side e.edge.a e.edge.b p)
          (sides_keep_order.above e.edge f.edge x p some (apart e f here between l) le (live f between t) (column_over x p column) (before e.edge f.edge l)
          (lt_tells (pos 0) (side f.edge.a f.edge.b p) (and_parts (spans f.edge.a f.edge.b p) (int_lt (pos 0) (side f.edge.a f.edge.b p)) t).1)))

  module _ (test : Edge → Bool) (lower : IsLowerSet test) where
    -- the last one and those below it
    top_apart : (k : Entry Count) → IsGreatest precedes test es k → (g : Entry Count → ℤ) → total (λ e. cond (test e.edge) (g e) (pos 0)) es ≡ g k +ℤ total (λ e. cond (under x k.edge e.edge) (g e) (pos 0)) es
    top_apart k top g =
        total_apart test (under x k.edge) g k es arranged.rising top.here top.passes (and_right (is_live x k.edge) (precedes k.edge k.edge) (precedes_itself k.edge))
        (λ i d l differ. each (get_or es i d) (All-contains_itself es i d l) differ)
      where
        each : (e : Entry Count) → Contains es e → k.edge ≢ e.edge → test e.edge ≡ under x k.edge e.edge
        each e here differ =
            same_tests (test e.edge) (under x k.edge e.edge)
            (λ t. and_from (is_live x e.edge) (precedes e.edge k.edge) (live_holds x e.edge (lower.live e here t)) (top.last e here t differ))
            (λ t. let h = and_parts (is_live x e.edge) (precedes e.edge k.edge) t in lower.down e k here top.here top.passes (live_tells x e.edge h.0) h.1)

    -- all of them together are the upper side of the last one
    top_upper : (k : Entry Count) → IsGreatest precedes test es k → sum_of test es ≡ upper_side es k
    top_upper k top =
        same_count (sum_of test es) (boolean.join (below es k.edge x) k.count)
        (turned (sum_of test es).subject k.count.subject (below es k.edge x).subject (top_apart k top (λ e. e.count.subject)))
        (turned (sum_of test es).clip k.count.clip (below es k.edge x).clip (top_apart k top (λ e. e.count.clip)))
        ∙ ap (λ c. boolean.join c k.count) (sym (lower_is_below es arranged k top.here x (lower.live k top.here top.passes)))
      where
        turned : (s m t : ℤ) → s ≡ m +ℤ t → s ≡ t +ℤ m
        turned s m t e = omega (arith, ints)

    ordered : IsOrdered precedes test es
    ordered = record { decided = decided; through = through }
      where
        decided : (e f : Entry Count) → Contains es e → Contains es f → test e.edge ≡ true → test f.edge ≡ true → (e.edge ≡ f.edge) ⊎ ((precedes e.edge f.edge ≡ true) ⊎ (precedes f.edge e.edge ≡ true))
        decided e f here there t u = unless_same e.edge f.edge inl other
          where
            other : e.edge ≢ f.edge → (e.edge ≡ f.edge) ⊎ ((precedes e.edge f.edge ≡ true) ⊎ (precedes f.edge e.edge ≡ true))
            other differ = by (column_order e.edge f.edge) refl
              where
                by : (o : Ordering) → column_order e.edge f.edge ≡ o → (e.edge ≡ f.edge) ⊎ ((precedes e.edge f.edge ≡ true) ⊎ (precedes f.edge e.edge ≡ true))
                by Less h = inr (inl (ap is_lt h))
                by Equal h =
                    absurd (order_is_lawful.decided e.edge f.edge x
                    (All-contains (λ g. e.edge ≢ g.edge → parted e.edge g.edge ≡ true) es f (parted_from_others es arranged e here) there differ) (lower.live e here t) (lower.live f there u) differ h)
                by Greater h = inr (inr (ap is_lt (order_is_lawful.reversed e.edge f.edge ∙ ap ordering_reverse h)))

        through :
            (e f g : Entry Count) → Contains es e → Contains es f → Contains es g → test e.edge ≡ true → test f.edge ≡ true → test g.edge ≡ true →
            precedes e.edge f.edge ≡ true → precedes f.edge g.edge ≡ true → precedes e.edge g.edge ≡ true
        through e f g he hf hg t u v l m =
            let k = and_from (is_live x f.edge) (precedes f.edge g.edge) (live_holds x f.edge (lower.live f hf u)) m in
            (and_parts (is_live x e.edge) (precedes e.edge g.edge) ((under_is_lower g hg (lower.live g hg v)).down e f he hf k (lower.live e he t) l)).1

    pub last_one : All (λ e. test e.edge ≡ false) es ⊎ ((k : Entry Count) × IsGreatest precedes test es k)
    last_one = greatest precedes test es ordered

    none_of : All (λ e. test e.edge ≡ false) es → (g : Entry Count → ℤ) → total (λ e. cond (test e.edge) (g e) (pos 0)) es ≡ pos 0
    none_of all g = total_zero_on (λ e. cond (test e.edge) (g e) (pos 0)) es (λ i d l. ap (λ b. cond b (g (get_or es i d)) (pos 0)) (all i d l))

    none_nothing : All (λ e. test e.edge ≡ false) es → sum_of test es ≡ no_count
    none_nothing all = same_count (sum_of test es) no_count (none_of all (λ e. e.count.subject)) (none_of all (λ e. e.count.clip))

  -- ---- what changes along them adds up

  abbrev size : (Edge → Bool) → ℤ
  size test = total (λ e. cond (test e.edge) (pos 1) (pos 0)) es

  size_not_negative : (test : Edge → Bool) → pos 0 ≤ℤ size test
  size_not_negative test = total_not_negative (λ e. cond (test e.edge) (pos 1) (pos 0)) es (λ e. by (test e.edge))
    where
      by : (b : Bool) → pos 0 ≤ℤ cond b (pos 1) (pos 0)
      by true = omega (arith, ints)
      by false = omega (arith, ints)

  module _ (h : Count → ℤ) where
    abbrev jump : Entry Count → ℤ
    jump e = h (upper_side es e) -ℤ h (lower_side es e.edge)

    one_step :
        (test : Edge → Bool) → IsLowerSet test →
        ((k : Entry Count) → IsGreatest precedes test es k → total (λ e. cond (under x k.edge e.edge) (jump e) (pos 0)) es ≡ h (below es k.edge x) -ℤ h no_count)
        → total (λ e. cond (test e.edge) (jump e) (pos 0)) es ≡ h (sum_of test es) -ℤ h no_count
    one_step test lower rest = by (last_one test lower)
      where
        level : (z : ℤ) → pos 0 ≡ z -ℤ z
        level z = omega (arith, ints)

        joined : (s u l t o v : ℤ) → s ≡ (u -ℤ l) +ℤ t → t ≡ l -ℤ o → v ≡ u → s ≡ v -ℤ o
        joined s u l t o v e f g = omega (arith, ints)

        by : All (λ e. test e.edge ≡ false) es ⊎ ((k : Entry Count) × IsGreatest precedes test es k) → total (λ e. cond (test e.edge) (jump e) (pos 0)) es ≡ h (sum_of test es) -ℤ h no_count
        by (inl all) = none_of test lower all jump ∙ (level (h no_count) ∙ ap (λ c. h c -ℤ h no_count) (sym (none_nothing test lower all)))
        by (inr (k, top)) =
            joined (total (λ e. cond (test e.edge) (jump e) (pos 0)) es) (h (upper_side es k)) (h (lower_side es k.edge)) (total (λ e. cond (under x k.edge e.edge) (jump e) (pos 0)) es) (h no_count) (h (sum_of test es))
            (top_apart test lower k top jump)
            (rest k top ∙ ap (λ c. h c -ℤ h no_count) (sym (lower_is_below es arranged k top.here x (lower.live k top.here top.passes))))
            (ap h (top_upper test lower k top))

    jumps_up_to : (n : ℕ) (test : Edge → Bool) → IsLowerSet test → size test ≤ℤ pos n → total (λ e. cond (test e.edge) (jump e) (pos 0)) es ≡ h (sum_of test es) -ℤ h no_count
    jumps_up_to zero test lower few =
        one_step test lower (λ k top. absurd (clash (size test) (size (under x k.edge)) (top_apart test lower k top (λ e. pos 1)) (size_not_negative (under x k.edge)) few))
      where
        clash : (s t : ℤ) → s ≡ pos 1 +ℤ t → pos 0 ≤ℤ t → s ≤ℤ pos 0 → ⊥
        clash s t e l m = absurd (omega (arith, ints))
    jumps_up_to (suc n) test lower few =
        one_step test lower
        (λ k top. jumps_up_to n (under x k.edge) (under_is_lower k top.here (lower.live k top.here top.passes)) (fewer (size test) (size (under x k.edge)) (top_apart test lower k top (λ e. pos 1)) few))
      where
        fewer : (s t : ℤ) → s ≡ pos 1 +ℤ t → s ≤ℤ pos (suc n) → t ≤ℤ pos n
        fewer s t e l = omega (arith, ints)

    pub jumps_add_up : (test : Edge → Bool) → IsLowerSet test → total (λ e. cond (test e.edge) (jump e) (pos 0)) es ≡ h (sum_of test es) -ℤ h no_count
    jumps_add_up test lower = jumps_up_to (unsigned_abs (size test)) test lower (bounded (size test) (size_not_negative test))
      where
        bounded : (z : ℤ) → pos 0 ≤ℤ z → z ≤ℤ pos (unsigned_abs z)
        bounded (pos n) l = omega (arith, ints)
        bounded (negsuc n) l = absurd (omega (arith, ints))

-- ---- the laws

pub winding_is_last_upper : WindingIsLastUpper
winding_is_last_upper = record {
  found = λ es p arranged some. let c = column_of p some in as_last es p (last_one es arranged c.0 (λ s. is_below s.a s.b p) (below_is_lower es arranged c.0 p some c.1));
  of_last = λ es e p arranged some h.
      let c = column_of p some in
      top_upper es arranged c.0 (λ s. is_below s.a s.b p) (below_is_lower es arranged c.0 p some c.1) e (record { here = h.here; passes = h.below; last = h.last });
  of_none = λ es p all. nothing_below es p all;
}
  where
    as_last : (es : List (Entry Count)) (p : RationalPoint) → All (λ e. is_below e.edge.a e.edge.b p ≡ false) es ⊎ ((k : Entry Count) × IsGreatest precedes (λ s. is_below s.a s.b p) es k)
        → All (λ e. is_below e.edge.a e.edge.b p ≡ false) es ⊎ ((e : Entry Count) × IsLastBelow es p e)
    as_last es p (inl none) = inl none
    as_last es p (inr (k, top)) = inr (k, record { here = top.here; below = top.passes; last = top.last })

    nothing_below : (es : List (Entry Count)) (p : RationalPoint) → All (λ e. is_below e.edge.a e.edge.b p ≡ false) es → winding es p ≡ no_count
    nothing_below es p all =
        same_count (winding es p) no_count
        (total_zero_on (λ e. cond (is_below e.edge.a e.edge.b p) e.count.subject (pos 0)) es (λ i d l. ap (λ b. cond b (get_or es i d).count.subject (pos 0)) (all i d l)))
        (total_zero_on (λ e. cond (is_below e.edge.a e.edge.b p) e.count.clip (pos 0)) es (λ i d l. ap (λ b. cond b (get_or es i d).count.clip (pos 0)) (all i d l)))

sign_is : (upper lower : Bool) → cond upper (cond lower (pos 0) (pos 1)) (cond lower (negsuc 0) (pos 0)) ≡ indicator upper -ℤ indicator lower
sign_is true true = refl
sign_is true false = refl
sign_is false true = refl
sign_is false false = refl

pub signs_sum_to_region : SignsSumToRegion
signs_sum_to_region fill rule es p arranged some =
    let c = column_of p some in
    total_pointwise_on (λ e. cond (is_below e.edge.a e.edge.b p) (sign fill rule es e) (pos 0)) (λ e. cond (is_below e.edge.a e.edge.b p) (change (upper_side es e) (lower_side es e.edge)) (pos 0)) es
    (λ i d l. let e : Entry Count = get_or es i d in ap (λ z. cond (is_below e.edge.a e.edge.b p) z (pos 0)) (sign_is (region fill rule (upper_side es e)) (region fill rule (lower_side es e.edge))))
    ∙ (jumps_add_up es arranged c.0 (λ w. indicator (region fill rule w)) (λ s. is_below s.a s.b p) (below_is_lower es arranged c.0 p some c.1)
    ∙ outside (indicator (region fill rule (winding es p))) _ (ap indicator (region_of_nothing fill rule)))
  where
    change : Count → Count → ℤ
    change u l = indicator (region fill rule u) -ℤ indicator (region fill rule l)

    outside : (z o : ℤ) → o ≡ pos 0 → z -ℤ o ≡ z
    outside z o e = omega (arith, ints)

-- Below an edge that has the region below it passes an edge that has it above.
use Rattle.std.proofs.Common.{◌≡◌, ◌≢◌, Bool, true, false, cond, List, Contains, ℤ, pos, ◌-ℤ◌, ◌<ℤ◌, refl, sym, ap, ◌∙◌, subst, arith}
use Rattle.std.specs.declared.cmp.Ordering.TheVariants.{Less}
use Rattle.std.specs.Ordering.{is_lt}
use Rattle.std.proofs.lemmas.Int.{ints}
use Rattle.std.proofs.lemmas.Bool.{false≢true, and_parts, and_from}
use Rattle.plane_base.specs.Plane.{Edge}
use Rattle.plane_base.specs.Counts.{Count, Entry}
use Rattle.plane_base.specs.Segments.{column_order, precedes}
use Rattle.plane_base.specs.ColumnLaws.{IsLive}
use Rattle.plane_base.specs.Regions.{FillRule, OverlayRule, region}
use Rattle.plane_base.specs.Totals.{total}
use Rattle.plane_base.proofs.Facts.Columns.Order.{order_is_lawful}
use Rattle.plane_base.proofs.Facts.Windings.Sums.{region_of_nothing}
use Rattle.segment_arrangement.specs.Columns.{no_count, is_live, below}
use Rattle.segment_arrangement.specs.EdgeSides.{lower_side, upper_side, indicator}
use Rattle.segment_arrangement.specs.SideLaws.{IsArrangement}
use Rattle.segment_arrangement.proofs.Facts.ColumnPlaces.{live_tells, live_holds}
use Rattle.segment_arrangement.proofs.Facts.EndsAlong.{precedes_itself}
use Rattle.segment_arrangement.proofs.Facts.ConstantSides.{lower_is_below}
use Rattle.segment_arrangement.proofs.Facts.LastBelow.{under, IsLowerSet, jumps_add_up}
use Rattle.segment_arrangement.proofs.Facts.LiveLists.{apart}
use Rattle.contour_walk.proofs.Facts.Binding.Lists.{term_above}

module _ (fill : FillRule) (rule : OverlayRule) (es : List (Entry Count)) (arranged : IsArrangement es) (k : Entry Count) (there : Contains es k) where
  differs : (e f : Entry Count) → precedes e.edge f.edge ≡ true → e.edge ≢ f.edge
  differs e f l same = false≢true (sym (precedes_itself f.edge) ∙ (ap (λ s. precedes s f.edge) (sym same) ∙ l))

  before : (s t : Edge) → precedes s t ≡ true → column_order s t ≡ Less
  before s t l = (order_is_lawful.precedes_is s t).0 l

  under_is_lower : (x : ℤ) → IsLive x k.edge → IsLowerSet es arranged x (under x k.edge)
  under_is_lower x live = record { live = λ e here t. live_tells x e.edge (and_parts (is_live x e.edge) (precedes e.edge k.edge) t).0; down = down }
    where
      down : (e f : Entry Count) → Contains es e → Contains es f → under x k.edge f.edge ≡ true → IsLive x e.edge → precedes e.edge f.edge ≡ true → under x k.edge e.edge ≡ true
      down e f here between t le l =
          let h = and_parts (is_live x f.edge) (precedes f.edge k.edge) t in
          and_from (is_live x e.edge) (precedes e.edge k.edge) (live_holds x e.edge le)
          (ap is_lt (order_is_lawful.through e.edge f.edge k.edge x (apart es e f arranged here between (differs e f l)) (apart es f k arranged between there (differs f k h.1))
          (apart es e k arranged here there)
          le (live_tells x f.edge h.0) live (before e.edge f.edge l) (before f.edge k.edge h.1)))

  abbrev seen : Count → ℤ
  seen w = indicator (region fill rule w)

  signs_below : (x : ℤ) → IsLive x k.edge → region fill rule (lower_side es k.edge) ≡ true
      → total (λ e. cond (under x k.edge e.edge) (seen (upper_side es e) -ℤ seen (lower_side es e.edge)) (pos 0)) es ≡ pos 1
  signs_below x live filled =
      jumps_add_up es arranged x seen (under x k.edge) (under_is_lower x live)
      ∙ one (seen (below es k.edge x)) (seen no_count) (ap seen (sym (lower_is_below es arranged k there x live)) ∙ ap indicator filled) (ap indicator (region_of_nothing fill rule))
    where
      one : (a b : ℤ) → a ≡ pos 1 → b ≡ pos 0 → a -ℤ b ≡ pos 1
      one a b e f = omega (arith, ints)

  -- an edge that passes below k at the column, with the region above it alone
  pub filled_above : (x : ℤ) → IsLive x k.edge → region fill rule (lower_side es k.edge) ≡ true
      → (e : Entry Count) × Contains es e × (under x k.edge e.edge ≡ true) × (region fill rule (upper_side es e) ≡ true) × (region fill rule (lower_side es e.edge) ≡ false)
  filled_above x live filled = by (term_above (λ e. cond (under x k.edge e.edge) (seen (upper_side es e) -ℤ seen (lower_side es e.edge)) (pos 0)) es (subst (λ z. pos 0 <ℤ z) (sym (signs_below x live filled)) (omega (arith, ints))))
    where
      tells : (b u l : Bool) → pos 0 <ℤ cond b (indicator u -ℤ indicator l) (pos 0) → (b ≡ true) × (u ≡ true) × (l ≡ false)
      tells true true true h = absurd (omega (arith, ints, h))
      tells true true false h = (refl, refl, refl)
      tells true false true h = absurd (omega (arith, ints, h))
      tells true false false h = absurd (omega (arith, ints, h))
      tells false u l h = absurd (omega (arith, ints, h))

      by : ((e : Entry Count) × Contains es e × (pos 0 <ℤ cond (under x k.edge e.edge) (seen (upper_side es e) -ℤ seen (lower_side es e.edge)) (pos 0)))
          → (e : Entry Count) × Contains es e × (under x k.edge e.edge ≡ true) × (region fill rule (upper_side es e) ≡ true) × (region fill rule (lower_side es e.edge) ≡ false)
      by (e, here, l) =
          let h = tells (under x k.edge e.edge) (region fill rule (upper_side es e)) (region fill rule (lower_side es e.edge)) l in
          (e, here, h.0, h.1, h.2)

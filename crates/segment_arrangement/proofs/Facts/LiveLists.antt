-- The live list from point to point.
use Rattle.std.proofs.Common.{◌≡◌, ◌≢◌, ◌↔◌, Bool, true, false, cond, List, [], ◌∷◌, filter, Contains, ◌⊎◌, inl, inr, get_or, refl, sym, ap, subst, ◌∙◌, arith}
use Rattle.std.specs.declared.cmp.Ordering.TheVariants.{Less}
use Rattle.std.specs.Ordering.{is_eq, is_lt}
use Rattle.std.proofs.lemmas.Int.{ints}
use Rattle.std.proofs.lemmas.Bool.{false≢true}
use Rattle.std.proofs.lemmas.List.Elements.{All-nil, All-contains, All-contains_itself, All-filter, filter_passes}
use Rattle.std.proofs.lemmas.List.Sorted.{All-permutation, Contains-permutation}
use Rattle.plane_base.specs.Plane.{Point, Edge, point_order}
use Rattle.plane_base.specs.Counts.{Count, Entry}
use Rattle.plane_base.specs.ColumnLaws.{IsLive}
use Rattle.plane_base.specs.Segments.{parted, column_order, precedes}
use Rattle.plane_base.proofs.Facts.Columns.Order.{order_is_lawful}
use Rattle.plane_base.proofs.Facts.Columns.Sides.{sides_keep_order}
use Rattle.plane_base.proofs.Facts.Points.Orders.{is_equal, point_total, point_equal, point_itself, point_less_x}
use Rattle.segment_arrangement.specs.FanLaws.{starts_at, IsFan, IsLiveList, LiveEdgesAreOrdered, LiveListIsKept}
use Rattle.segment_arrangement.specs.SideLaws.{IsArrangement}
use Rattle.segment_arrangement.proofs.Facts.EndsAlong.{precedes_itself}
use Rattle.segment_arrangement.proofs.Facts.ConstantSides.{parted_from_others}
use Rattle.segment_arrangement.proofs.Facts.GreatestEntry.{Contains-head, Contains-later, Contains-cases}

pub Contains-filter : {A : Type 0} (test : A → Bool) (xs : List A) (x : A) → Contains xs x → test x ≡ true → Contains (filter test xs) x
Contains-filter test [] x here e = absurd (omega (arith, here.1))
Contains-filter test (y ∷ xs) x here e = by (test y) refl (Contains-cases y xs x here) (λ later. Contains-filter test xs x later e)
  where
    by : (b : Bool) → test y ≡ b → (y ≡ x) ⊎ Contains xs x → (Contains xs x → Contains (filter test xs) x) → Contains (cond b (y ∷ filter test xs) (filter test xs)) x
    by true f (inl same) step = subst (λ z. Contains (y ∷ filter test xs) z) same (Contains-head y (filter test xs))
    by true f (inr later) step = Contains-later y (filter test xs) x (step later)
    by false f (inl same) step = absurd (false≢true (sym f ∙ (ap test same ∙ e)))
    by false f (inr later) step = step later

module _ (es fan : List (Entry Count)) (v : Point) (is : IsFan es v fan) where
  in_fan_tells : (e : Entry Count) → Contains fan e → Contains es e × (e.edge.a ≡ v)
  in_fan_tells e here = (
    All-contains (Contains es) fan e (All-permutation (Contains es) (filter (starts_at v) es) fan is.all (All-filter (starts_at v) (Contains es) es (All-contains_itself es))) here,
    point_equal e.edge.a v
        (is_equal (point_order e.edge.a v)
        (All-contains (λ f. starts_at v f ≡ true) fan e (All-permutation (λ f. starts_at v f ≡ true) (filter (starts_at v) es) fan is.all (filter_passes (starts_at v) es)) here)),
  )

  in_fan_from : (e : Entry Count) → Contains es e → e.edge.a ≡ v → Contains fan e
  in_fan_from e here start = Contains-permutation (filter (starts_at v) es) fan e is.all (Contains-filter (starts_at v) es e here (ap (λ p. is_eq (point_order p v)) start ∙ ap is_eq (point_itself v)))

module _ (es list fan next : List (Entry Count)) (v w : Point) (live : IsLiveList es v list) (is : IsFan es v fan) (later : point_order v w ≡ Less) where
  was_live : (e : Entry Count) → point_order e.edge.a v ≡ Less → IsLive w.x e.edge → IsLive v.x e.edge
  was_live e before h = let from = point_less_x e.edge.a v before in let to = point_less_x v w later in (from, omega (arith, ints, h.1))

  kept :
      ((e : Entry Count) → Contains es e → point_order e.edge.a w ≡ Less → (point_order e.edge.a v ≡ Less) ⊎ (e.edge.a ≡ v)) →
      ((e : Entry Count) → Contains next e ↔ ((Contains list e ⊎ Contains fan e) × IsLive w.x e.edge)) → IsLiveList es w next
  kept none_between members = record {
    sound = λ i d l. let e : Entry Count = get_or next i d in let m = (members e).0 (All-contains_itself next i d l) in by_source e m.0 m.1;
    complete = λ e here h before. (members e).1 (by_start e here h (none_between e here before), h);
  }
    where
      by_source : (e : Entry Count) → Contains list e ⊎ Contains fan e → IsLive w.x e.edge → Contains es e × IsLive w.x e.edge × (point_order e.edge.a w ≡ Less)
      by_source e (inl here) h =
          let s = All-contains (λ e. Contains es e × IsLive v.x e.edge × (point_order e.edge.a v ≡ Less)) list e live.sound here in
          (s.0, h, point_total.trans e.edge.a v w s.2 later)
      by_source e (inr here) h = let s = in_fan_tells es fan v is e here in (s.0, h, ap (λ p. point_order p w) s.1 ∙ later)

      by_start : (e : Entry Count) → Contains es e → IsLive w.x e.edge → (point_order e.edge.a v ≡ Less) ⊎ (e.edge.a ≡ v) → Contains list e ⊎ Contains fan e
      by_start e here h (inl before) = inl (live.complete e here (was_live e before h) before)
      by_start e here h (inr start) = inr (in_fan_from es fan v is e here start)

-- ---- the order at a column

pub apart : (es : List (Entry Count)) (e f : Entry Count) → IsArrangement es → Contains es e → Contains es f → e.edge ≢ f.edge → parted e.edge f.edge ≡ true
apart es e f arranged here there differ = All-contains (λ g. e.edge ≢ g.edge → parted e.edge g.edge ≡ true) es f (parted_from_others es arranged e here) there differ

-- what is before another isn't the other
pub differ_if : (s t : Edge) → column_order s t ≡ Less → s ≢ t
differ_if s t e same = false≢true (sym (precedes_itself t) ∙ (ap (λ u. precedes u t) (sym same) ∙ ap is_lt e))

pub live_edges_are_ordered : LiveEdgesAreOrdered
live_edges_are_ordered = record {
  decided = λ es e f x arranged he hf le lf differ. order_is_lawful.decided e.edge f.edge x (apart es e f arranged he hf differ) le lf differ;
  through = λ es e f g x arranged he hf hg le lf lg l m.
      order_is_lawful.through e.edge f.edge g.edge x (apart es e f arranged he hf (differ_if e.edge f.edge l)) (apart es f g arranged hf hg (differ_if f.edge g.edge m))
      (λ differ. apart es e g arranged he hg differ) le lf lg l m;
  answers = λ es e f v arranged he hf le lf l m.
      sides_keep_order.less e.edge f.edge v.x v (apart es e f arranged he hf (differ_if e.edge f.edge l)) le lf (omega (arith, ints)) (omega (arith, ints)) l m;
}

pub live_list_is_kept : LiveListIsKept
live_list_is_kept = record {
  starts = λ es v none. record { sound = All-nil (λ e. Contains es e × IsLive v.x e.edge × (point_order e.edge.a v ≡ Less)); complete = λ e here h before. absurd (none e here before) };
  goes_on = kept;
}

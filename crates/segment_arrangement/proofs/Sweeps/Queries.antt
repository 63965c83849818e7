-- What a query for a point answers, where the live entries are the edges that reach over its column, each with what lies above it.
use Rattle.std.proofs.Common.{◌≡◌, ◌≢◌, ◌≤◌, ◌⊎◌, inl, inr, List, [], ◌∷◌, Contains, true, refl, sym, ap, ap₂, subst, ◌∙◌, arith}
use Rattle.std.specs.Ordering.{is_lt, ordering_index}
use Rattle.std.specs.declared.cmp.Ordering.{Ordering}
use Rattle.std.specs.declared.cmp.Ordering.TheVariants.{Less, Equal, Greater}
use Rattle.std.proofs.lemmas.List.Elements.{All-contains, All-contains_itself, All-weaker}
use Rattle.i_tree.specs.LiveList.{IsRising}
use Rattle.i_tree.specs.KeyAnswers.{IsAnswer, IsMonotone, IsPlace}
use Rattle.i_tree.specs.EntryLaws.{AnswerIsGreatest, IsGreatestLess, IsAboveOthers}
use Rattle.i_tree.specs.EntryLaws.IsGreatestLess.{none, greatest}
use Rattle.plane_base.specs.Plane.{Point, Edge, point_order}
use Rattle.plane_base.specs.Counts.{Count, Entry}
use Rattle.plane_base.specs.ColumnLaws.{IsLive}
use Rattle.plane_base.specs.Segments.{order_against, column_order, precedes}
use Rattle.plane_base.specs.Windings.{winding}
use Rattle.segment_arrangement.specs.Columns.{no_count}
use Rattle.segment_arrangement.specs.EdgeSides.{upper_side}
use Rattle.segment_arrangement.specs.FanLaws.{whole, IsLiveList}
use Rattle.segment_arrangement.specs.SideLaws.{IsArrangement}
use Rattle.segment_arrangement.specs.SweepViews.{HoldsUppers, IsPlaceAt}
use Rattle.segment_arrangement.proofs.Facts.Angles.{live_list_tells}
use Rattle.segment_arrangement.proofs.Facts.GreatestEntry.{Contains-head, Contains-later}
use Rattle.segment_arrangement.proofs.Facts.LiveLists.{live_edges_are_ordered}

rises : (m n : Ordering) → m ≢ Equal → n ≢ Equal → (n ≡ Less → m ≡ Less) → ordering_index m ≤ ordering_index n
rises Less n f g h = omega arith
rises Equal n f g h = absurd (f refl)
rises Greater Less f g h = let e = h refl in absurd (cc)
rises Greater Equal f g h = absurd (g refl)
rises Greater Greater f g h = omega arith

module _ {K : Type 0} (order : K → K → Ordering) (by : K → Ordering) where
  monotone_from :
      (live : List (K × Count)) → ((e f : K × Count) → Contains live e → Contains live f → order e.0 f.0 ≡ Less → ordering_index (by e.0) ≤ ordering_index (by f.0)) → IsRising order live → IsMonotone by live
  monotone_from [] h rising = tt
  monotone_from (e ∷ rest) h rising = (
    All-weaker (Contains rest) (λ f. ordering_index (by e.0) ≤ ordering_index (by f.0)) (λ f c. h e f (Contains-head e rest) (Contains-later e rest f c) (All-contains (λ later. order e.0 later.0 ≡ Less) rest f rising.0 c)) rest (All-contains_itself rest),
    monotone_from rest (λ f g cf cg. h f g (Contains-later e rest f cf) (Contains-later e rest g cg)) rising.1,
  )

module _ {K : Type 0} (edge : K → Edge) (es list : List (Entry Count)) (live : List (K × Count)) (v : Point) (arranged : IsArrangement es) (is : IsLiveList es v list) (holds : HoldsUppers edge es list live) (f : Entry Count) (here : Contains es f) (start : f.edge.a ≡ v) where
  listed : (e : Entry Count) → Contains list e → Contains es e × IsLive v.x e.edge × (point_order e.edge.a v ≡ Less)
  listed e c = All-contains (λ e. Contains es e × IsLive v.x e.edge × (point_order e.edge.a v ≡ Less)) list e is.sound c

  pub never_equal : (k : K) (c : Count) → Contains live (k, c) → order_against (edge k) v ≢ Equal
  never_equal k c there level =
      let s = holds.sound k c there in
      let t = listed s.0 s.1 in
      live_list_tells.never_on es f s.0 arranged here t.0 (subst (λ p. IsLive p.x s.0.edge) (sym start) t.1) (ap (λ p. point_order s.0.edge.a p) start ∙ t.2)
      (ap₂ (λ u p. order_against u p) (sym s.2) start ∙ level)

  pub monotone : IsRising (λ j k. column_order (edge j) (edge k)) live → IsMonotone (λ k. order_against (edge k) v) live
  monotone rising = monotone_from (λ j k. column_order (edge j) (edge k)) (λ k. order_against (edge k) v) live pair rising
    where
      pair : (d e : K × Count) → Contains live d → Contains live e → column_order (edge d.0) (edge e.0) ≡ Less → ordering_index (order_against (edge d.0) v) ≤ ordering_index (order_against (edge e.0) v)
      pair d e cd ce below =
          let s = holds.sound d.0 d.1 cd in
          let t = holds.sound e.0 e.1 ce in
          let one = listed s.0 s.1 in
          let two = listed t.0 t.1 in
          rises (order_against (edge d.0) v) (order_against (edge e.0) v) (never_equal d.0 d.1 cd) (never_equal e.0 e.1 ce)
          (λ l. ap (λ u. order_against u v) s.2 ∙ live_edges_are_ordered.answers es s.0 t.0 v arranged one.0 two.0 one.1 two.1 (sym (ap₂ column_order s.2 t.2) ∙ below) (sym (ap (λ u. order_against u v) t.2) ∙ l))

  pub answer_is_winding :
      AnswerIsGreatest K Count → (answer : Count) → IsRising (λ j k. column_order (edge j) (edge k)) live → IsAnswer (λ k. order_against (edge k) v) no_count live answer → answer ≡ winding es (whole v)
  answer_is_winding law answer rising told =
      by answer
      (law (λ j k. column_order (edge j) (edge k)) (λ k. order_against (edge k) v) no_count live answer rising
      (All-weaker (Contains live) (λ e. order_against (edge e.0) v ≢ Equal) (λ e c. never_equal e.0 e.1 c) live (All-contains_itself live)) told)
    where
      by : (a : Count) → IsGreatestLess (λ j k. column_order (edge j) (edge k)) (λ k. order_against (edge k) v) no_count live a → a ≡ winding es (whole v)
      by a (none others same) =
          same
          ∙ sym (live_list_tells.of_none es list v is (λ e c l.
          let m = holds.complete e c in
          All-contains (λ h. order_against (edge h.0) v ≢ Less) live (m.0, upper_side es e) others m.1 (ap (λ u. order_against u v) m.2 ∙ l)))
      by a (greatest k there l above) =
          let s = holds.sound k a there in
          s.3
          ∙ sym (live_list_tells.of_last es list v s.0 arranged is (record {
            here = s.1;
            below = sym (ap (λ u. order_against u v) s.2) ∙ l;
            last = λ e c m differ. last_one k a s.0 s.2 above e c m differ;
          }))
        where
          last_one :
              (k : K) (a : Count) (g : Entry Count) → edge k ≡ g.edge → IsAboveOthers (λ j k. column_order (edge j) (edge k)) (λ k. order_against (edge k) v) live (k, a)
              → (e : Entry Count) → Contains list e → order_against e.edge v ≡ Less → g.edge ≢ e.edge → precedes e.edge g.edge ≡ true
          last_one k a g same above e c m differ =
              let n = holds.complete e c in
              cases (n.0, upper_side es e) n.2 (All-contains (λ h. order_against (edge h.0) v ≡ Less → (column_order (edge h.0) (edge k) ≡ Less) ⊎ (h ≡ (k, a))) live (n.0, upper_side es e) above n.1 (ap (λ u. order_against u v) n.2 ∙ m))
            where
              cases : (j : K × Count) → edge j.0 ≡ e.edge → (column_order (edge j.0) (edge k) ≡ Less) ⊎ (j ≡ (k, a)) → precedes e.edge g.edge ≡ true
              cases j is_e (inl below) = ap is_lt (sym (ap₂ column_order is_e same) ∙ below)
              cases j is_e (inr equal) = absurd (differ (sym same ∙ (sym (ap (λ h. edge h.0) equal) ∙ is_e)))

  -- the place that a query for the point tells
  pub place_is_at : (before after : List (K × Count)) → IsPlace (λ k. order_against (edge k) v) live before after → IsPlaceAt edge v before after
  place_is_at before after told = record {
    below = All-weaker (λ k. Contains live k × (order_against (edge k.0) v ≡ Less)) (λ k. (point_order (edge k.0).a v ≡ Less) × (order_against (edge k.0) v ≡ Less)) (λ k h. (starts_before k h.0, h.1)) before told.less;
    above = All-weaker (λ k. Contains live k × (order_against (edge k.0) v ≡ Greater)) (λ k. (point_order (edge k.0).a v ≡ Less) × (order_against (edge k.0) v ≡ Greater)) (λ k h. (starts_before k h.0, h.1)) after told.greater;
  }
    where
      starts_before : (k : K × Count) → Contains live k → point_order (edge k.0).a v ≡ Less
      starts_before k there =
          let s = holds.sound k.0 k.1 there in
          ap (λ s. point_order s.a v) s.2 ∙ (listed s.0 s.1).2

-- Some walks of a boundary, taken for a map of their own. It is an arrangement, in which each step of theirs counts its edge once.
use Rattle.std.proofs.Common.{◌≡◌, true, cond, List, [], ◌∷◌, ◌++◌, map, flat_map, get_or, All, Contains, pos, ◌*ℤ◌, ◌≤ℤ◌, refl, sym, ap, ◌∙◌, subst, append-nil}
use Rattle.std.specs.declared.cmp.Ordering.{Ordering}
use Rattle.std.specs.declared.cmp.Ordering.TheVariants.{Less, Equal, Greater}
use Rattle.std.specs.Ordering.{is_eq, is_lt}
use Rattle.std.proofs.lemmas.List.Elements.{All-nil, All-cons, All-append, All-head, All-tail, All-contains, All-contains_itself}
use Rattle.plane_base.specs.Plane.{Point, Edge, is_before, point_order, edge_order}
use Rattle.plane_base.specs.Counts.{Count, Entry, boolean, one_subject}
use Rattle.plane_base.specs.Given.{laid, given}
use Rattle.plane_base.specs.Regions.{FillRule, OverlayRule}
use Rattle.plane_base.specs.Totals.{total}
use Rattle.plane_base.proofs.Facts.Lists.Totals.{total_flat_map}
use Rattle.plane_base.proofs.Facts.Maps.Balance.{given_is_balanced}
use Rattle.plane_base.proofs.Facts.Maps.Laying.{lay_by, given_is_normal}
use Rattle.plane_base.proofs.Facts.Maps.LinearSums.{linear_sum_normal, subject_additive}
use Rattle.plane_base.proofs.Facts.Maps.Normal.{normal_edges}
use Rattle.plane_base.proofs.Facts.Points.Orders.{point_total, less_from_greater}
use Rattle.segment_arrangement.specs.SideLaws.{IsArrangement}
use Rattle.segment_arrangement.proofs.Facts.ConstantSides.{Contains-map}
use Rattle.contour_walk.specs.BindingLaws.{PassOnce}
use Rattle.contour_walk.specs.Walks.{Contour, contour_edges}
use Rattle.contour_walk.specs.WalkLaws.{borders, contour_steps}
use Rattle.contour_walk.proofs.Binding.Passed.{any_two, clean}
use Rattle.contour_walk.proofs.Binding.Walks.{edge_of, edges_by_steps}
use Rattle.contour_walk.proofs.Facts.Binding.Lists.{map_tells, flat_holds, flat_tells}
use Rattle.contour_walk.proofs.Walks.Links.{between_forward, between_backward}
use Rattle.polygon_overlay.proofs.Nesting.CountLaws.{way, HasLength, step_counts}
use Rattle.polygon_overlay.proofs.Nesting.HandLaws.{IsLinear}
use Rattle.polygon_overlay.proofs.Returning.ReturnLaws.{lay_step, all_laid_by_steps}

module _ (fill : FillRule) (rule : OverlayRule) (es : List (Entry Count)) (arranged : IsArrangement es) (cs : List Contour) (passed : PassOnce (borders fill rule es) cs)
    (ds : List (List Point)) (within : (d : List Point) → Contains ds d → (c : Contour) × Contains cs c × (c.points ≡ d)) where
  abbrev pub steps : List Edge
  steps = flat_map contour_steps ds

  abbrev pub all_edges : List Edge
  all_edges = flat_map (λ (c : Contour). contour_edges c.points) cs

  laid_is : flat_map (laid boolean one_subject) ds ++ [] ≡ flat_map lay_step steps
  laid_is = append-nil (flat_map (laid boolean one_subject) ds) ∙ all_laid_by_steps ds

  -- what the map counts is what the steps lay
  pub linear : IsLinear (given ds []) ds
  linear weight =
      linear_sum_normal subject_additive weight (flat_map (laid boolean one_subject) ds ++ [])
      ∙ (ap (total (λ e. e.count.subject *ℤ weight e.edge)) laid_is ∙ total_flat_map (λ e. e.count.subject *ℤ weight e.edge) lay_step steps)

  -- ---- its edges are some of the boundary's

  pub step_in : (s : Edge) → Contains steps s → Contains all_edges (edge_of s)
  step_in s here =
      let d = flat_tells contour_steps ds s here in
      let c = within d.0 d.1 in
      flat_holds (λ (c : Contour). contour_edges c.points) cs c.0 (edge_of s) c.1
      (subst (λ ps. Contains (contour_edges ps) (edge_of s)) (sym c.2)
      (subst (λ ss. Contains ss (edge_of s)) (edges_by_steps d.0) (Contains-map edge_of (contour_steps d.0) s d.2)))

  -- an edge along which some step runs
  abbrev pub IsStepped : Edge → Type 0
  IsStepped t = (s : Edge) × Contains steps s × (edge_of s ≡ t)

  abbrev IsIn : Entry Count → Type 0
  IsIn e = IsStepped e.edge

  step_lays_in : (s : Edge) → Contains steps s → All IsIn (lay_step s)
  step_lays_in s here = by (point_order s.a s.b) refl
    where
      by : (o : Ordering) → point_order s.a s.b ≡ o → All IsIn (lay_by boolean o s.a s.b one_subject)
      by Less e = All-cons IsIn _ [] (s, here, between_forward s.a s.b (ap is_lt e)) (All-nil IsIn)
      by Equal e = All-nil IsIn
      by Greater e = All-cons IsIn _ [] (s, here, between_backward s.b s.a (ap is_lt (less_from_greater point_total s.a s.b e))) (All-nil IsIn)

  steps_lay_in : (ss : List Edge) → All (Contains steps) ss → All IsIn (flat_map lay_step ss)
  steps_lay_in [] h = All-nil IsIn
  steps_lay_in (s ∷ ss) h =
      All-append IsIn (lay_step s) (flat_map lay_step ss) (step_lays_in s (All-head (Contains steps) s ss h)) (steps_lay_in ss (All-tail (Contains steps) s ss h))

  edges_in : All IsIn (given ds [])
  edges_in =
      normal_edges boolean IsStepped (flat_map (laid boolean one_subject) ds ++ [])
      (subst (All IsIn) (sym laid_is) (steps_lay_in steps (All-contains_itself steps)))

  pub entry_is_step : (e : Entry Count) → Contains (given ds []) e → IsStepped e.edge
  entry_is_step e here = All-contains IsIn (given ds []) e edges_in here

  pub alone_arranged : IsArrangement (given ds [])
  alone_arranged = record {
    directed = (given_is_normal ds []).directed;
    rising = (given_is_normal ds []).rising;
    in_ends = λ s t here there. any_two fill rule es arranged cs passed s t (in_all s here) (in_all t there);
    balanced = given_is_balanced ds [];
  }
    where
      in_all : (s : Edge) → Contains (map (λ (e : Entry Count). e.edge) (given ds [])) s → Contains all_edges s
      in_all s here =
          let e = map_tells (λ (e : Entry Count). e.edge) (given ds []) s here in
          let k = entry_is_step e.0 e.1 in
          subst (Contains all_edges) (k.2 ∙ e.2) (step_in k.0 k.1)

  -- ---- each step counts its edge

  step_long : (s : Edge) → Contains steps s → HasLength s
  step_long s here =
      let c = flat_tells (λ (c : Contour). contour_edges c.points) cs (edge_of s) (step_in s here) in
      All-contains (λ (t : Edge). is_before t.a t.b ≡ true) (contour_edges c.0.points) (edge_of s) (clean fill rule es arranged cs passed c.0 c.1).directed c.2

  -- where no edge is stepped along twice, the map has an entry for each step
  pub stands :
      ((s : Edge) → Contains steps s → total (λ u. cond (is_eq (edge_order (edge_of u) (edge_of s))) (pos 1) (pos 0)) steps ≤ℤ pos 1)
      → (s : Edge) → Contains steps s → (e : Entry Count) × Contains (given ds []) e × (e.edge ≡ edge_of s) × (e.count.subject ≡ way s)
  stands few s here =
      step_counts (given ds []) (given_is_normal ds []).rising ds linear s here (λ i d l. step_long (get_or steps i d) (All-contains_itself steps i d l)) (few s here)

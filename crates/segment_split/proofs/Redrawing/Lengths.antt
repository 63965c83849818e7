-- A pass lays no fewer steps than there are edges.
use Rattle.std.specs.Prelude.{◌≡◌, ◌≢◌, ℕ, ◌+◌, ◌^◌, ◌≤◌, true, List, [], ◌∷◌, ◌++◌, length, sum_by, All}
use Rattle.std.specs.declared.cmp.Ordering.{Ordering}
use Rattle.std.specs.declared.cmp.Ordering.TheVariants.{Less, Equal, Greater}
use Rattle.std.proofs.Common.{refl, sym, ap, ◌∙◌, arith}
use Rattle.std.proofs.lemmas.List.{length-append}
use Rattle.std.proofs.lemmas.List.Concat.{length-flat_map}
use Rattle.std.proofs.lemmas.List.Sums.{sum_by-cons}
use Rattle.std.proofs.lemmas.List.Elements.{All-head, All-tail, All-weaker}
use Rattle.plane_base.specs.Plane.{Point, Edge, is_before, point_order}
use Rattle.plane_base.specs.Counts.{Counting, Entry, IsNormal, lay}
use Rattle.plane_base.specs.Given.{laid_path}
use Rattle.plane_base.specs.Crossing.{Marks}
use Rattle.plane_base.proofs.Facts.Maps.Laying.{IsDirected}
use Rattle.plane_base.proofs.Facts.Points.Orders.{point_equal, point_itself, before_is_less}
use Rattle.segment_split.specs.Paths.{along}
use Rattle.segment_split.specs.Passes.{edges_of, marks_in, marks_on, cut, all_cut}
use Rattle.segment_split.specs.Refusals.{steps_in, LaysTooMany}
use Rattle.segment_split.specs.declared.solver.Precision.{Precision}

ends_differ : (p q : Point) → is_before p q ≡ true → p ≢ q
ends_differ p q h same =
    let level : point_order p q ≡ Equal = ap (point_order p) (sym same) ∙ point_itself p in
    let clash : Less ≡ Equal = sym (before_is_less p q h) ∙ level in
    absurd (cc)

module _ {C : Type 0} (kind : Counting C) where
  abbrev lay_by : Ordering → Point → Point → C → List (Entry C)
  lay_by o u v c =
      elim o [
        | Less ↦ record { edge = record { a = u; b = v }; count = c } ∷ []
        | Equal ↦ []
        | Greater ↦ record { edge = record { a = v; b = u }; count = kind.turned c } ∷ []
      ]

  lays_one : (c : C) (u v : Point) → u ≢ v → 1 ≤ length (lay kind u v c)
  lays_one c u v differ = by (point_order u v) refl
    where
      by : (o : Ordering) → point_order u v ≡ o → 1 ≤ length (lay_by o u v c)
      by Less e = omega arith
      by Equal e = absurd (differ (point_equal u v e))
      by Greater e = omega arith

  path_lays : (c : C) (ps : List Point) (u v : Point) → u ≢ v → 1 ≤ length (laid_path kind c (u ∷ (ps ++ v ∷ [])))
  path_lays c [] u v differ = let one = lays_one c u v differ in let all = length-append (lay kind u v c) [] in omega (arith, one, all)
  path_lays c (w ∷ ps) u v differ = by (point_order u w) refl (path_lays c ps w v)
    where
      parts : length (laid_path kind c (u ∷ ((w ∷ ps) ++ v ∷ []))) ≡ length (lay kind u w c) + length (laid_path kind c (w ∷ (ps ++ v ∷ [])))
      parts = length-append (lay kind u w c) (laid_path kind c (w ∷ (ps ++ v ∷ [])))

      apart : (o : Ordering) → point_order u w ≡ o → (o ≡ Equal → ⊥) → u ≢ w
      apart o e unequal same = unequal (sym e ∙ (ap (point_order u) (sym same) ∙ point_itself u))

      by : (o : Ordering) → point_order u w ≡ o → (w ≢ v → 1 ≤ length (laid_path kind c (w ∷ (ps ++ v ∷ [])))) → 1 ≤ length (laid_path kind c (u ∷ ((w ∷ ps) ++ v ∷ [])))
      by Less e later = let one = lays_one c u w (apart Less e (λ clash. absurd (cc))) in omega (arith, parts, one)
      by Equal e later = let rest = later (λ same. differ (point_equal u w e ∙ same)) in omega (arith, parts, rest)
      by Greater e later = let one = lays_one c u w (apart Greater e (λ clash. absurd (cc))) in omega (arith, parts, one)

  each_lays : (f : Entry C → List (Entry C)) (es : List (Entry C)) → All (λ e. 1 ≤ length (f e)) es → length es ≤ sum_by (λ e. length (f e)) es
  each_lays f [] h = omega arith
  each_lays f (e ∷ es) h =
      let own = All-head (λ e. 1 ≤ length (f e)) e es h in
      let rest = each_lays f es (All-tail (λ e. 1 ≤ length (f e)) e es h) in
      let parts = sum_by-cons (λ e. length (f e)) e es in
      omega (arith, own, rest, parts)

  pub no_fewer_cuts : (marks : Edge → Edge → Marks) (ss : List Edge) (es : List (Entry C)) → IsDirected es → length es ≤ length (all_cut kind marks ss es)
  no_fewer_cuts marks ss es directed =
      let f = cut kind marks ss in
      let all = length-flat_map f es in
      let each = each_lays f es (All-weaker (λ e. is_before e.edge.a e.edge.b ≡ true) (λ e. 1 ≤ length (f e))
      (λ e ahead. path_lays e.count (along e.edge (marks_on marks ss e.edge)) e.edge.a e.edge.b (ends_differ e.edge.a e.edge.b ahead)) es directed) in
      omega (arith, all, each)

  pub no_fewer_steps : (precision : Precision) (k : ℕ) (es : List (Entry C)) → IsNormal kind es → length es ≤ length (steps_in kind precision es k)
  no_fewer_steps precision k es h = no_fewer_cuts (marks_in precision k) (edges_of es) es h.directed

  pub too_many_given : (precision : Precision) (es : List (Entry C)) → IsNormal kind es → 2 ^ 31 ≤ length es → LaysTooMany kind precision es
  too_many_given precision es h many = let steps = no_fewer_steps precision 0 es h in (0, omega (arith, many, steps))

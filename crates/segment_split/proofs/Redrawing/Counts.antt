-- Redrawing looks at edges alone: counts may be read otherwise before it or after it.
use Rattle.std.proofs.Common.{◌≡◌, ℕ, zero, suc, ◌+◌, Bool, true, false, cond, ◌&&◌, pos, int_eq, List, [], ◌∷◌, ◌++◌, flat_map, Ordering, Less, Equal, Greater, refl, sym, ap, ap₂, ◌∙◌}
use Rattle.std.proofs.lemmas.List.{map-append}
use Rattle.plane_base.specs.Plane.{Point, Edge, point_order, edge_order}
use Rattle.plane_base.specs.Counts.{Counting, Entry, boolean, unless_empty, joined, lay, normal}
use Rattle.plane_base.specs.Given.{laid_path}
use Rattle.plane_base.specs.Crossing.{Marks}
use Rattle.plane_base.proofs.Facts.Maps.Normal.{joined_by, IsCounting}
use Rattle.plane_base.proofs.Facts.Maps.Laying.{lay_by}
use Rattle.segment_split.specs.Paths.{path}
use Rattle.segment_split.specs.Passes.{early_passes, edges_of, marks_in, marks_on, cut, pass_by, pass}
use Rattle.segment_split.specs.Redrawing.{iterate, spread, redrawn}
use Rattle.segment_split.specs.RedrawLaws.{IsCountMap, with_counts, roles_exchanged, RedrawsAnyCounts}
use Rattle.segment_split.specs.declared.solver.Precision.{Precision}

-- the entry with f of its count
abbrev pub with_count_of : {C D : Type 0} → (C → D) → Entry C → Entry D
with_count_of f e = record { edge = e.edge; count = f e.count }

module _ {C D : Type 0} {from : Counting C} {to : Counting D} {f : C → D} (reads : IsCountMap from to f) where
  -- ---- maps

  counts_unless_empty : (e : Entry C) (es : List (Entry C)) → with_counts f (unless_empty from e es) ≡ unless_empty to (with_count_of f e) (with_counts f es)
  counts_unless_empty e es = by (from.is_empty e.count) (to.is_empty (f e.count)) (reads.of_empty e.count)
    where
      by : (b c : Bool) → c ≡ b → with_counts f (cond b es (e ∷ es)) ≡ cond c (with_counts f es) (with_count_of f e ∷ with_counts f es)
      by true c h = rw h refl
      by false c h = rw h refl

  counts_joined : (e : Entry C) (es : List (Entry C)) → with_counts f (joined from e es) ≡ joined to (with_count_of f e) (with_counts f es)
  counts_joined e [] = counts_unless_empty e []
  counts_joined e (g ∷ rest) = by (edge_order e.edge g.edge) (counts_joined e rest)
    where
      by : (o : Ordering) → with_counts f (joined from e rest) ≡ joined to (with_count_of f e) (with_counts f rest)
          → with_counts f (joined_by from o e g rest) ≡ joined_by to o (with_count_of f e) (with_count_of f g) (with_counts f rest)
      by Less h = counts_unless_empty e (g ∷ rest)
      by Equal h =
          counts_unless_empty (record { edge = g.edge; count = from.join e.count g.count }) rest
          ∙ ap (λ c. unless_empty to (record { edge = g.edge; count = c }) (with_counts f rest)) (reads.of_join e.count g.count)
      by Greater h = ap (λ l. with_count_of f g ∷ l) h

  pub counts_normal : (es : List (Entry C)) → with_counts f (normal from es) ≡ normal to (with_counts f es)
  counts_normal [] = refl
  counts_normal (e ∷ es) = counts_joined e (normal from es) ∙ ap (joined to (with_count_of f e)) (counts_normal es)

  -- ---- steps and paths

  counts_lay : (u v : Point) (c : C) → with_counts f (lay from u v c) ≡ lay to u v (f c)
  counts_lay u v c = by (point_order u v)
    where
      by : (o : Ordering) → with_counts f (lay_by from o u v c) ≡ lay_by to o u v (f c)
      by Less = refl
      by Equal = refl
      by Greater = ap (λ d. record { edge = record { a = v; b = u }; count = d } ∷ []) (reads.of_turned c)

  pub counts_path : (c : C) (points : List Point) → with_counts f (laid_path from c points) ≡ laid_path to (f c) points
  counts_path c [] = refl
  counts_path c (p ∷ []) = refl
  counts_path c (p ∷ q ∷ rest) =
      map-append (with_count_of f) (lay from p q c) (laid_path from c (q ∷ rest))
      ∙ ap₂ (λ l m. l ++ m) (counts_lay p q c) (counts_path c (q ∷ rest))

  -- ---- passes

  pub counts_edges : (es : List (Entry C)) → edges_of (with_counts f es) ≡ edges_of es
  counts_edges [] = refl
  counts_edges (e ∷ es) = ap (λ l. e.edge ∷ l) (counts_edges es)

  pub counts_cuts : (marks : Edge → Edge → Marks) (edges : List Edge) (es : List (Entry C)) → with_counts f (flat_map (cut from marks edges) es) ≡ flat_map (cut to marks edges) (with_counts f es)
  counts_cuts marks edges [] = refl
  counts_cuts marks edges (e ∷ es) =
      map-append (with_count_of f) (cut from marks edges e) (flat_map (cut from marks edges) es)
      ∙ ap₂ (λ l m. l ++ m) (counts_path e.count (path e.edge (marks_on marks edges e.edge))) (counts_cuts marks edges es)

  pub counts_pass_by : (marks : Edge → Edge → Marks) (es : List (Entry C)) → with_counts f (pass_by from marks es) ≡ pass_by to marks (with_counts f es)
  counts_pass_by marks es =
      counts_normal (flat_map (cut from marks (edges_of es)) es)
      ∙ ap (normal to) (counts_cuts marks (edges_of es) es)
      ∙ ap (λ edges. normal to (flat_map (cut to marks edges) (with_counts f es))) (sym (counts_edges es))

  pub counts_iterate : (precision : Precision) (es : List (Entry C)) (n : ℕ) → with_counts f (iterate from precision es n) ≡ iterate to precision (with_counts f es) n
  counts_iterate precision es zero = refl
  counts_iterate precision es (suc n) =
      counts_pass_by (marks_in precision n) (iterate from precision es n) ∙ ap (λ fs. pass to precision fs n) (counts_iterate precision es n)

  pub counts_redrawn : (precision : Precision) (es : List (Entry C)) → with_counts f (redrawn from precision es) ≡ redrawn to precision (with_counts f es)
  counts_redrawn precision es =
      counts_iterate precision es (early_passes + spread (edges_of (iterate from precision es early_passes)))
      ∙ ap (λ edges. iterate to precision (with_counts f es) (early_passes + spread edges))
      (sym (counts_edges (iterate from precision es early_passes)) ∙ ap edges_of (counts_iterate precision es early_passes))

  pub redraws_any_counts : (precision : Precision) → RedrawsAnyCounts from to f precision
  redraws_any_counts precision = record {
    of_normal = counts_normal;
    of_path = counts_path;
    of_pass = λ es k. counts_pass_by (marks_in precision k) es;
    of_iterate = counts_iterate precision;
    of_redrawn = counts_redrawn precision;
  }

-- ---- readings

-- of any lawful counts: all of them turned
pub turned_counts : {C : Type 0} {kind : Counting C} → IsCounting kind → IsCountMap kind kind kind.turned
turned_counts laws = record { of_join = laws.turned_join; of_turned = λ c. refl; of_empty = laws.turned_empty }

pub exchanged_counts : IsCountMap boolean boolean roles_exchanged
exchanged_counts = record { of_join = λ c d. refl; of_turned = λ c. refl; of_empty = λ c. either (int_eq c.clip (pos 0)) (int_eq c.subject (pos 0)) }
  where
    either : (b c : Bool) → b && c ≡ c && b
    either true true = refl
    either true false = refl
    either false true = refl
    either false false = refl

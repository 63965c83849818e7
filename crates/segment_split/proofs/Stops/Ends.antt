-- The sweep from its beginning to its end.
use Rattle.std.proofs.Common.{◌≡◌, ◌↔◌, ℕ, ◌^◌, ◌≤◌, Bool, true, false, cond, List, [], length, map, reverse, All, Contains, IsPermutation, None, Result, Ok, Err, IfOk, OnOk, Less, int_eq, refl, sym, ap, subst, ◌∙◌, append-nil, arith}
use Rattle.std.proofs.lemmas.Bool.{false≢true}
use Rattle.std.proofs.lemmas.List.{length-reverse}
use Rattle.std.proofs.lemmas.List.Elements.{All-nil, All-contains}
use Rattle.i_tree.specs.Steps.{Counts}
use Rattle.plane_base.specs.Plane.{Point, point_order}
use Rattle.plane_base.proofs.Facts.Maps.Normal.{AllPairs-nil}
use Rattle.plane_base.specs.Crossing.{late_marks}
use Rattle.plane_base.specs.Counts.{Count, Entry, boolean, IsNormal}
use Rattle.plane_base.specs.declared.fault.Fault.{Fault}
use Rattle.segment_split.specs.Passes.{edges_of, all_cut, pass_by}
use Rattle.segment_split.specs.Redrawing.{redrawn, MarksInPass}
use Rattle.segment_split.specs.Kinds.{count_fits}
use Rattle.segment_split.specs.LineLaws.{AllRectilinear, IsCrossing}
use Rattle.segment_split.specs.Refusals.{steps_in, IsOverfull, PassesTooMuch, LaysTooMany, IsRefusal, IsRefusalOf}
use Rattle.segment_split.specs.Rows.{CountsPairsUpTo}
use Rattle.segment_split.specs.StepBounds.{most_pairs}
use Rattle.segment_split.specs.Stops.{LinesView, AreRising, bare}
use Rattle.segment_split.specs.Sweeps.{AreInOrder, Swept, Ticked, IsSwept, AreBySeconds}
use Rattle.segment_split.specs.declared.solver.Precision.{Precision}
use Rattle.segment_split.specs.declared.solver.Strategy.TheVariants as strategy
use Rattle.segment_split.proofs.Redrawing.Changes.{normal_length}
use Rattle.segment_split.proofs.Redrawing.Loops.{redrawn_before}
use Rattle.segment_split.proofs.Redrawing.Refusals.{handed_on}
use Rattle.segment_split.proofs.Whole.RectilinearEdges.{horizontal_meet_whole, horizontal_and_vertical_meet_whole}
use Rattle.segment_split.proofs.Whole.Neighbours.{redrawn_by_a_pass}
use Rattle.segment_split.proofs.Stops.Looks.{ticks_few}
use Rattle.segment_split.proofs.Stops.Overfull.{steps_late}
use Rattle.segment_split.proofs.Stops.Sweeping.{begun, normal_in_order, is_laid, is_marked}

pub begins : (es fs : List (Entry Count)) (lines : LinesView) (laid : List (Entry Count)) (ticks : ℕ) → laid ≡ [] → IsPermutation es fs → AreBySeconds fs → All (λ r. r.line ≡ bare) lines.rows → lines.column ≡ bare → AreRising lines.rows
    → All (λ e. int_eq e.edge.a.x e.edge.b.x ≡ false → Contains (map (λ r. r.y) lines.rows) e.edge.a.y) es → IsSwept es es fs lines laid false ticks ticks
begins es fs lines laid ticks none same sorted bare_rows bare_column rising has = record {
  last = None;
  stops = [];
  gone = [];
  come = [];
  swept =
      subst (λ l. Swept es None [] es [] fs [] lines l false) (sym none)
      (begun es fs lines same bare_rows bare_column rising (λ e at. All-contains (λ e. int_eq e.edge.a.x e.edge.b.x ≡ false → Contains (map (λ r. r.y) lines.rows) e.edge.a.y) es e has at));
  seconds = subst AreBySeconds (sym (append-nil fs)) sorted;
  ticked = record { crossings = []; rising = AllPairs-nil (λ p q. point_order p q ≡ Less); listed = All-nil (Contains []); only = All-nil (IsCrossing (edges_of es)); number = omega arith };
}

-- no pair is counted
pub none_ticked : (es : List (Entry Count)) (now : ℕ) → (ps : List Point) × Ticked es ps now now
none_ticked es now = (
  [],
  record { crossings = []; rising = AllPairs-nil (λ p q. point_order p q ≡ Less); listed = All-nil (Contains []); only = All-nil (IsCrossing (edges_of es)); number = omega arith },
)

-- what a sweep laid of entries in order
module _ (es left : List (Entry Count)) (lines : LinesView) (laid : List (Entry Count)) (marked : Bool) (first now : ℕ) (h : AreInOrder es) (all : AllRectilinear (edges_of es)) (is : IsSwept es [] left lines laid marked first now) where
  pub ends_laid : reverse laid ≡ pass_by boolean late_marks es
  ends_laid = is_laid es h all is.last is.stops is.gone left is.come lines laid marked is.swept

  -- as many entries come of the pass before any are joined
  pub laid_many : 2 ^ 31 ≤ length laid → 2 ^ 31 ≤ length (all_cut boolean late_marks (edges_of es) es)
  laid_many many =
      enough (length laid) (length (pass_by boolean late_marks es)) (length (all_cut boolean late_marks (edges_of es) es)) many (sym (length-reverse laid) ∙ ap length ends_laid)
      (normal_length boolean (all_cut boolean late_marks (edges_of es) es))
    where
      enough : (m n k : ℕ) → 2 ^ 31 ≤ m → m ≡ n → n ≤ k → 2 ^ 31 ≤ k
      enough m n k a e b = omega (arith, a, e, b)

-- and of a map
module _ (es left : List (Entry Count)) (lines : LinesView) (laid : List (Entry Count)) (marked : Bool) (first now : ℕ) (h : IsNormal boolean es) (all : AllRectilinear (edges_of es)) (is : IsSwept es [] left lines laid marked first now) where
  pub ends_marked : (precision : Precision) → (marked ≡ true) ↔ ((k : ℕ) × MarksInPass boolean precision es k)
  ends_marked precision = is_marked es h all is.last is.stops is.gone left is.come lines laid marked is.swept precision

-- the sweep's answers as redrawing's
module _ (es : List (Entry Count)) (h : IsNormal boolean es) (all : AllRectilinear (edges_of es)) where
  abbrev pieces : List (Entry Count)
  pieces = all_cut boolean late_marks (edges_of es) es

  pub redrawn_where_marked : (r : Result Bool Fault) (laid : List (Entry Count)) → OnOk r (laid ≡ pass_by boolean late_marks es)
      → IfOk r (λ marked. (precision : Precision) → IsNormal boolean es → (marked ≡ true) ↔ ((k : ℕ) × MarksInPass boolean precision es k))
      → IfOk r (λ marked. (precision : Precision) → cond marked laid es ≡ redrawn boolean precision es)
  redrawn_where_marked (Err fault) laid is marks = tt
  redrawn_where_marked (Ok true) laid is marks = λ precision. is ∙ sym (redrawn_by_a_pass boolean precision es h (horizontal_and_vertical_meet_whole boolean es h all))
  redrawn_where_marked (Ok false) laid is marks = λ precision. redrawn_before boolean precision es es 0 h refl (λ some. false≢true ((marks precision h).1 (0, some)))

  pub refused_in_a_pass : (fault : Fault) → IsRefusalOf boolean count_fits pieces fault
      → (precision : Precision) → IsRefusal (PassesTooMuch boolean count_fits precision es) (LaysTooMany boolean precision es) fault
  refused_in_a_pass fault refused precision =
      handed_on fault fault refl (λ over. (0, subst (λ (l : List (Entry Count)). IsOverfull boolean count_fits l) (sym (same precision)) over))
      (λ many. (0, subst (λ (l : List (Entry Count)). 2 ^ 31 ≤ length l) (sym (same precision)) many)) refused
    where
      same : (precision : Precision) → steps_in boolean precision es 0 ≡ pieces
      same = steps_late es (normal_in_order es h) (horizontal_meet_whole es h.directed all)

  pub ticked_few : (old new : Counts) → (ps : List Point) × Ticked es ps old.pairs new.pairs → new.comparisons ≡ old.comparisons
      → CountsPairsUpTo old new (most_pairs strategy.Auto (edges_of es))
  ticked_few old new ticked compared =
      let few = ticks_few es (normal_in_order es h) ticked.0 old.pairs new.pairs ticked.1 in
      record { comparisons = compared; pairs = few.0; bound = few.1 }

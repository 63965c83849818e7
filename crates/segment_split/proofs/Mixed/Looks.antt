-- How many pairs the first pass over mixed edges looks at in all: no more than share an x, and so no more than `Auto` may.
use Rattle.std.specs.Prelude.{◌≡◌, ◌≤◌, ◌+◌, ◌&&◌, ◌<ℤ◌, ◌≤ℤ◌, ℕ, ℤ, Bool, true, false, not, cond, nat_lt, List, [], ◌∷◌, length, filter, All, Contains}
use Rattle.std.proofs.Common.{refl, sym, ap, ap₂, ◌∙◌, subst, arith}
use Rattle.std.proofs.lemmas.Int.{ints}
use Rattle.std.proofs.lemmas.List.Elements.{All-contains, All-filter, All-map, All-weaker}
use Rattle.i_tree.specs.Steps.{Counts}
use Rattle.plane_base.specs.Plane.{Point, Edge, is_before}
use Rattle.plane_base.specs.Counts.{Count, Entry, boolean}
use Rattle.plane_base.specs.WholeLaws.{IsPiece}
use Rattle.plane_base.proofs.Facts.Maps.Laying.{IsDirected}
use Rattle.segment_split.specs.LineLaws.{is_rectilinear, IsCrossing, PassesHorizontalThrough, PassesUpThrough}
use Rattle.segment_split.specs.MarkLists.{IsAt}
use Rattle.segment_split.specs.Mixed.{TellsOld, TakesBothNew, is_one_slanted, slanted_pairs, lines_among}
use Rattle.segment_split.specs.Passes.{edges_of}
use Rattle.segment_split.specs.Rows.{CountsPairsUpTo, TakesNew, is_old}
use Rattle.segment_split.specs.StepBounds.{pairs_by, all_pairs, most_by_columns, most_pairs, share_point, x_range}
use Rattle.segment_split.specs.Sweeps.{Ticked}
use Rattle.segment_split.specs.declared.solver.Strategy.{Strategy}
use Rattle.segment_split.specs.declared.solver.Strategy.TheVariants as strategy
use Rattle.segment_split.proofs.Mixed.Bound.{pairs_kept, slanted_and_kept}
use Rattle.segment_split.proofs.Passes.Columns.{pairs_in_columns}
use Rattle.segment_split.proofs.Passes.PairCounts.{pairs_among_all}
use Rattle.segment_split.proofs.Rows.Counts.{up_to_greater, up_to_more}
use Rattle.segment_split.proofs.Stops.Looks.{share_pairs}
use Rattle.segment_split.proofs.Whole.Coordinates.{cut_by_coordinates}
use Rattle.segment_split.proofs.Whole.CutPoints.{part_from}
use Rattle.segment_split.proofs.Whole.Pieces.{IsPieceOfSome}

-- the pairs of horizontal and vertical edges that share an x
abbrev pub line_pairs : List Edge → ℕ
line_pairs es = pairs_by (λ s t. (is_rectilinear s && is_rectilinear t) && share_point (x_range s) (x_range t)) es

-- ---- which pairs are looked at

-- where horizontal and vertical edges are told to be old, pairs with a slanted one
pub takes_slanted : (es : List Edge) (next_new : List ℕ) → TellsOld is_rectilinear es next_new
    → TakesNew es next_new (λ s t. is_one_slanted s t && share_point (x_range s) (x_range t))
takes_slanted es next_new told i j s t p at there shared =
    ap₂ (λ a b. a && b) (ap not (sym (ap₂ (λ a b. a && b) (told i s at) (told j t there)) ∙ p.1)) shared

-- where slanted ones are, pairs of horizontal and vertical ones
pub takes_lines : (es : List Edge) (next_new : List ℕ) → TellsOld (λ s. not (is_rectilinear s)) es next_new
    → TakesBothNew es next_new (λ s t. (is_rectilinear s && is_rectilinear t) && share_point (x_range s) (x_range t))
takes_lines es next_new told i j s t p at there shared =
    ap₂ (λ a b. a && b) (ap₂ (λ a b. a && b) (line i s at p.1) (line j t there p.2)) shared
  where
    not_slanted : (b : Bool) → not b ≡ false → b ≡ true
    not_slanted true e = refl
    not_slanted false e = sym e

    line : (i : ℕ) (s : Edge) → IsAt es i s → is_old next_new i ≡ false → is_rectilinear s ≡ true
    line i s at new = not_slanted (is_rectilinear s) (sym (told i s at) ∙ new)

-- ---- their bounds

module _ (es : List Edge) (directed : All (λ s. is_before s.a s.b ≡ true) es) where
  pub shared_most : pairs_by (λ s t. share_point (x_range s) (x_range t)) es ≤ most_pairs strategy.Auto es
  shared_most = by (nat_lt (length es) 64)
    where
      by : (b : Bool) → pairs_by (λ s t. share_point (x_range s) (x_range t)) es ≤ cond b (all_pairs es) (most_by_columns es)
      by true = pairs_among_all (λ s t. share_point (x_range s) (x_range t)) es
      by false = pairs_in_columns es directed

  pub both_most : slanted_pairs es + line_pairs es ≤ most_pairs strategy.Auto es
  both_most =
      let both = slanted_and_kept is_rectilinear (λ s t. share_point (x_range s) (x_range t)) es in
      let kept = pairs_kept is_rectilinear (λ s t. share_point (x_range s) (x_range t)) es in
      let most = shared_most in
      omega (arith, both, kept, most)

  -- pairs with a slanted edge alone
  pub slanted_most : (solver : Strategy) → solver ≡ strategy.Auto → (first now : Counts) → CountsPairsUpTo first now (slanted_pairs es) → CountsPairsUpTo first now (most_pairs solver es)
  slanted_most solver auto first now looks =
      let most = both_most in
      subst (λ by. CountsPairsUpTo first now (most_pairs by es)) (sym auto) (up_to_greater first now (slanted_pairs es) (most_pairs strategy.Auto es) (omega (arith, most)) looks)

  -- and then pairs of horizontal and vertical ones
  pub lines_most : (solver : Strategy) → solver ≡ strategy.Auto → (first now next : Counts) → CountsPairsUpTo first now (slanted_pairs es) → CountsPairsUpTo now next (line_pairs es)
      → CountsPairsUpTo first next (most_pairs solver es)
  lines_most solver auto first now next looks more =
      subst (λ by. CountsPairsUpTo first next (most_pairs by es)) (sym auto) (up_to_more first now next (slanted_pairs es) (line_pairs es) (most_pairs strategy.Auto es) both_most looks more)

-- ---- crossings of pieces

-- what passes through a piece of an edge passes through the edge
module _ (u s : Edge) (p : Point) (forward : is_before s.a s.b ≡ true) (piece : IsPiece u s) where
  weak_less : (x y z : ℤ) → x ≤ℤ y → y <ℤ z → x <ℤ z
  weak_less x y z h k = omega (arith, ints, h, k)

  less_weak : (x y z : ℤ) → x <ℤ y → y ≤ℤ z → x <ℤ z
  less_weak x y z h k = omega (arith, ints, h, k)

  up_through : PassesUpThrough u p → PassesUpThrough s p
  up_through h =
      let spans = ((cut_by_coordinates boolean).vertical_part u s piece.forward forward (h.first ∙ sym h.second)).0 (part_from u s piece) in
      record {
        first = spans.first ∙ h.first;
        second = spans.second ∙ h.first;
        below = weak_less s.a.y u.a.y p.y spans.from h.below;
        above = less_weak p.y u.b.y s.b.y h.above spans.to;
      }

  horizontal_through : PassesHorizontalThrough u p → PassesHorizontalThrough s p
  horizontal_through h =
      let spans = ((cut_by_coordinates boolean).horizontal_part u s piece.forward forward (h.first ∙ sym h.second)).0 (part_from u s piece) in
      record {
        first = spans.first ∙ h.first;
        second = spans.second ∙ h.first;
        left = weak_less s.a.x u.a.x p.x spans.from h.left;
        right = less_weak p.x u.b.x s.b.x h.right spans.to;
      }

-- so where two pieces cross, two edges do
pub crossing_of_edges : (es us : List Edge) → All (λ s. is_before s.a s.b ≡ true) es → All (IsPieceOfSome es) us → (p : Point) → IsCrossing us p → IsCrossing es p
crossing_of_edges es us directed pieces p h = (
  (up.of, up.listed, up_through h.0.0 up.of p (forward up.of up.listed) up.piece h.0.2),
  (level.of, level.listed, horizontal_through h.1.0 level.of p (forward level.of level.listed) level.piece h.1.2),
)
  where
    up : IsPieceOfSome es h.0.0
    up = All-contains (IsPieceOfSome es) us h.0.0 pieces h.0.1

    level : IsPieceOfSome es h.1.0
    level = All-contains (IsPieceOfSome es) us h.1.0 pieces h.1.1

    forward : (s : Edge) → Contains es s → is_before s.a s.b ≡ true
    forward s at = All-contains (λ s. is_before s.a s.b ≡ true) es s directed at

-- ---- a sweep over pieces of horizontal and vertical edges

pub edges_of_lines : {C : Type 0} (es : List (Entry C)) → edges_of (lines_among es) ≡ filter is_rectilinear (edges_of es)
edges_of_lines [] = refl
edges_of_lines {C} (e ∷ es) = by (is_rectilinear e.edge) (edges_of_lines es)
  where
    by : (b : Bool) → edges_of (lines_among es) ≡ filter is_rectilinear (edges_of es)
        → edges_of (cond b (e ∷ lines_among es) (lines_among es)) ≡ cond b (e.edge ∷ filter is_rectilinear (edges_of es)) (filter is_rectilinear (edges_of es))
    by true h = ap (λ l. e.edge ∷ l) h
    by false h = h

module _ {C : Type 0} (es : List (Entry C)) (directed : IsDirected es) (pieces : List (Entry Count)) (are : All (IsPieceOfSome (edges_of (lines_among es))) (edges_of pieces)) where
  directed_edges : All (λ s. is_before s.a s.b ≡ true) (edges_of es)
  directed_edges = All-map (λ s. is_before s.a s.b ≡ true) (λ (e : Entry C). e.edge) es directed

  directed_lines : All (λ s. is_before s.a s.b ≡ true) (edges_of (lines_among es))
  directed_lines =
      subst (All (λ s. is_before s.a s.b ≡ true)) (sym (edges_of_lines es)) (All-filter is_rectilinear (λ s. is_before s.a s.b ≡ true) (edges_of es) directed_edges)

  -- it counts no more crossings than there are pairs of such edges that share an x
  pub ticks_in_lines : (ps : List Point) (first now : ℕ) → Ticked pieces ps first now → (first ≤ now) × (now ≤ first + line_pairs (edges_of es))
  ticks_in_lines ps first now ticked =
      let lines = edges_of (lines_among es) in
      let some = share_pairs lines ticked.crossings ticked.rising
      (All-weaker (IsCrossing (edges_of pieces)) (IsCrossing lines) (crossing_of_edges lines (edges_of pieces) directed_lines are) ticked.crossings ticked.only) in
      let same = ap (pairs_by (λ s t. share_point (x_range s) (x_range t))) (edges_of_lines es) in
      let kept = pairs_kept is_rectilinear (λ s t. share_point (x_range s) (x_range t)) (edges_of es) in
      let number = ticked.number in
      (omega (arith, number), omega (arith, number, some, same, kept))

  -- pairs with a slanted edge, and then such a sweep
  pub sweep_most : (solver : Strategy) → solver ≡ strategy.Auto → (first now next : Counts) → CountsPairsUpTo first now (slanted_pairs (edges_of es))
      → (ps : List Point) → Ticked pieces ps now.pairs next.pairs → next.comparisons ≡ now.comparisons → CountsPairsUpTo first next (most_pairs solver (edges_of es))
  sweep_most solver auto first now next looks ps ticked level =
      let few = ticks_in_lines ps now.pairs next.pairs ticked in
      lines_most (edges_of es) directed_edges solver auto first now next looks (record { comparisons = level; pairs = few.0; bound = few.1 })

-- Where edges cross at whole points alone, a pass cuts them into pieces, which do so too.
use Rattle.std.proofs.Common.{◌≡◌, true, List, [], ◌∷◌, ◌++◌, flat_map, Contains, All, Ordering, Less, Equal, Greater, is_lt, ◌&&◌, get_or, refl, ap, pos}
use Rattle.std.specs.Ordering.{is_le}
use Rattle.std.proofs.lemmas.List.Elements.{All-nil, All-cons, All-head, All-tail, All-append, All-push, All-map, All-weaker, All-contains}
use Rattle.plane_base.specs.Plane.{Point, Edge, turn, point_order, is_before}
use Rattle.plane_base.specs.Counts.{Counting, Entry, lay}
use Rattle.plane_base.specs.Given.{laid_path}
use Rattle.plane_base.specs.Segments.{strictly_inside}
use Rattle.plane_base.specs.Crossing.{late_marks}
use Rattle.plane_base.specs.WholeLaws.{IsPiece}
use Rattle.plane_base.proofs.Facts.Maps.Laying.{IsDirected, lay_by}
use Rattle.plane_base.proofs.Facts.Maps.Normal.{normal_edges}
use Rattle.plane_base.proofs.Facts.Points.Orders.{point_total, point_itself, less_from_greater}
use Rattle.plane_base.proofs.Facts.Points.Turns.{turn_there_and_back, turn_end_twice}
use Rattle.plane_base.proofs.Facts.Crossings.Tests.{both_true, inside_tells}
use Rattle.plane_base.proofs.Facts.Crossings.Pieces.{pieces_cross_alike}
use Rattle.segment_split.specs.Paths.{along, path}
use Rattle.segment_split.specs.Passes.{edges_of, marks_on, cut, pass_by}
use Rattle.segment_split.specs.WholeLaws.{AllMeetWhole}
use Rattle.segment_split.proofs.Spread.StaircaseMarks.{along_all}
use Rattle.segment_split.proofs.Spread.Lists.{IsDirectedEdge, all_flat_map, edges_contain}
use Rattle.segment_split.proofs.Passes.Steps.{IsStep}
use Rattle.segment_split.proofs.Whole.Marks.{whole_marks_inside}

-- The point lies on the line of the segment, and not outside its ends.
pub record IsOnEdge (s : Edge) (p : Point) : Type 0 where
  pub flat : turn s.a s.b p ≡ pos 0
  pub from : is_le (point_order s.a p) ≡ true
  pub to : is_le (point_order p s.b) ≡ true

is_less_le : (o : Ordering) → is_lt o ≡ true → is_le o ≡ true
is_less_le Less e = refl
is_less_le Equal e = refl
is_less_le Greater e = absurd (cc)

module _ (s : Edge) (directed : IsDirectedEdge s) where
  first_on : IsOnEdge s s.a
  first_on = record { flat = turn_there_and_back s.a s.b; from = ap is_le (point_itself s.a); to = is_less_le (point_order s.a s.b) directed }

  second_on : IsOnEdge s s.b
  second_on = record { flat = turn_end_twice s.a s.b; from = is_less_le (point_order s.a s.b) directed; to = ap is_le (point_itself s.b) }

inside_on : (s : Edge) (m : Point) → strictly_inside m s ≡ true → IsOnEdge s m
inside_on s m e =
    let h = both_true _ (is_before s.a m && is_before m s.b) e in
    let k = both_true (is_before s.a m) (is_before m s.b) h.1 in
    record { flat = (inside_tells m s e).0; from = is_less_le (point_order s.a m) k.0; to = is_less_le (point_order m s.b) k.1 }

pub path_on : (s : Edge) (ms : List Point) → IsDirectedEdge s → All (λ m. strictly_inside m s ≡ true) ms → All (IsOnEdge s) (path s ms)
path_on s ms directed inside =
    All-cons (IsOnEdge s) s.a (along s ms ++ (s.b ∷ [])) (first_on s directed)
    (All-push (IsOnEdge s) (along s ms) s.b (All-weaker (λ m. strictly_inside m s ≡ true) (IsOnEdge s) (inside_on s) (along s ms) (along_all s (λ m. strictly_inside m s ≡ true) ms inside)) (second_on s directed))

-- a step of the path through such marks is a part of the edge
pub step_of_path : (s : Edge) (ms : List Point) → IsDirectedEdge s → All (λ m. strictly_inside m s ≡ true) ms → (u : Edge) → IsStep (path s ms) u → IsPiece u s
step_of_path s ms directed inside u step =
    let on = path_on s ms directed inside in
    let first = All-contains (IsOnEdge s) (path s ms) u.a on step.first in
    let second = All-contains (IsOnEdge s) (path s ms) u.b on step.second in
    record { first_on = first.flat; second_on = second.flat; from = first.from; forward = ap is_lt step.forward; to = second.to }

-- ---- what is laid along an edge

module _ {C : Type 0} (kind : Counting C) (s : Edge) where
  lay_pieces : (u v : Point) (c : C) → IsOnEdge s u → IsOnEdge s v → All (λ e. IsPiece e.edge s) (lay kind u v c)
  lay_pieces u v c h k = by (point_order u v) refl
    where
      by : (o : Ordering) → point_order u v ≡ o → All (λ e. IsPiece e.edge s) (lay_by kind o u v c)
      by Less l =
          All-cons (λ (e : Entry C). IsPiece e.edge s) (record { edge = record { a = u; b = v }; count = c }) []
          (record { first_on = h.flat; second_on = k.flat; from = h.from; forward = ap is_lt l; to = k.to }) (All-nil (λ (e : Entry C). IsPiece e.edge s))
      by Equal l = All-nil (λ (e : Entry C). IsPiece e.edge s)
      by Greater l =
          All-cons (λ (e : Entry C). IsPiece e.edge s) (record { edge = record { a = v; b = u }; count = kind.turned c }) []
          (record { first_on = k.flat; second_on = h.flat; from = k.from; forward = ap is_lt (less_from_greater point_total u v l); to = h.to }) (All-nil (λ (e : Entry C). IsPiece e.edge s))

  path_pieces : (c : C) (ps : List Point) → All (IsOnEdge s) ps → All (λ e. IsPiece e.edge s) (laid_path kind c ps)
  path_pieces c [] all = All-nil (λ (e : Entry C). IsPiece e.edge s)
  path_pieces c (u ∷ []) all = All-nil (λ (e : Entry C). IsPiece e.edge s)
  path_pieces c (u ∷ v ∷ rest) all =
      let later = All-tail (IsOnEdge s) u (v ∷ rest) all in
      All-append (λ (e : Entry C). IsPiece e.edge s) (lay kind u v c) (laid_path kind c (v ∷ rest))
      (lay_pieces u v c (All-head (IsOnEdge s) u (v ∷ rest) all) (All-head (IsOnEdge s) v rest later)) (path_pieces c (v ∷ rest) later)

-- ---- a pass

-- a piece of an edge of the list
pub record IsPieceOfSome (es : List Edge) (u : Edge) : Type 0 where
  pub of : Edge
  pub listed : Contains es of
  pub piece : IsPiece u of

module _ {C : Type 0} (kind : Counting C) (es : List (Entry C)) (directed : IsDirected es) (whole : AllMeetWhole (edges_of es)) where
  pub directed_edges : All IsDirectedEdge (edges_of es)
  directed_edges = All-map IsDirectedEdge (λ (e : Entry C). e.edge) es directed

  pub cut_inside : All (λ e. All (λ m. strictly_inside m e.edge ≡ true) (marks_on late_marks (edges_of es) e.edge)) es
  cut_inside k d h = whole_marks_inside (edges_of es) _ directed_edges (λ t. whole _ t (edges_contain es k d h)) (directed k d h)

  pass_pieces : All (λ e. IsPieceOfSome (edges_of es) e.edge) (pass_by kind late_marks es)
  pass_pieces =
      normal_edges kind (IsPieceOfSome (edges_of es)) (flat_map (cut kind late_marks (edges_of es)) es)
      (all_flat_map (λ (f : Entry C). IsPieceOfSome (edges_of es) f.edge) (cut kind late_marks (edges_of es)) es
      (λ k d h. all_of (get_or es k d) (edges_contain es k d h) (directed k d h) (cut_inside k d h)))
    where
      all_of : (e : Entry C) → Contains (edges_of es) e.edge → IsDirectedEdge e.edge → All (λ m. strictly_inside m e.edge ≡ true) (marks_on late_marks (edges_of es) e.edge)
          → All (λ f. IsPieceOfSome (edges_of es) f.edge) (cut kind late_marks (edges_of es) e)
      all_of e listed forward inside =
          All-weaker (λ (f : Entry C). IsPiece f.edge e.edge) (λ f. IsPieceOfSome (edges_of es) f.edge) (λ f h. record { of = e.edge; listed = listed; piece = h })
          (cut kind late_marks (edges_of es) e)
          (path_pieces kind e.edge e.count (path e.edge (marks_on late_marks (edges_of es) e.edge)) (path_on e.edge (marks_on late_marks (edges_of es) e.edge) forward inside))

  pub pieces_meet_whole : AllMeetWhole (edges_of (pass_by kind late_marks es))
  pieces_meet_whole u v in_u in_v =
      let h : IsPieceOfSome (edges_of es) u = All-contains (IsPieceOfSome (edges_of es)) (edges_of (pass_by kind late_marks es)) u all in_u in
      let k : IsPieceOfSome (edges_of es) v = All-contains (IsPieceOfSome (edges_of es)) (edges_of (pass_by kind late_marks es)) v all in_v in
      pieces_cross_alike.meets h.of k.of u v h.piece k.piece (whole h.of k.of h.listed k.listed)
    where
      all : All (IsPieceOfSome (edges_of es)) (edges_of (pass_by kind late_marks es))
      all = All-map (IsPieceOfSome (edges_of es)) (λ (e : Entry C). e.edge) (pass_by kind late_marks es) pass_pieces

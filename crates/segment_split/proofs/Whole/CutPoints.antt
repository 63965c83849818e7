-- Where edges cross at whole points alone, the points of an edge's path are the cut points of its line on it, and its steps join neighbours.
use Rattle.std.proofs.Common.{◌≡◌, ◌↔◌, ◌<◌, ℕ, Bool, true, false, List, [], ◌∷◌, ◌++◌, All, Contains, ◌⊎◌, inl, inr, ⊎_elim, subst, pos, ◌&&◌, Ordering, Less, Equal, Greater, int_eq, refl, sym, ap, ◌∙◌, arith}
use Rattle.std.specs.Prelude.{unsigned_abs}
use Rattle.std.specs.Ordering.{is_le}
use Rattle.std.proofs.lemmas.Bool.{false≢true}
use Rattle.std.proofs.lemmas.Bool.Decides.{Decides-int_eq}
use Rattle.std.proofs.lemmas.List.Elements.{All-weaker, All-contains, All-contains_itself, Contains-append_left, Contains-append_right}
use Rattle.plane_base.specs.Plane.{Point, Edge, turn, is_before, point_order}
use Rattle.plane_base.specs.Segments.{strictly_inside, cross_properly, on_one_line}
use Rattle.plane_base.specs.Crossing.{late_marks}
use Rattle.plane_base.specs.WholeLaws.{IsPiece}
use Rattle.plane_base.proofs.Facts.Points.Orders.{point_equal, before_is_less}
use Rattle.plane_base.proofs.Facts.Points.Turns.{turn_there_and_back, turn_end_twice}
use Rattle.plane_base.proofs.Facts.Crossings.Tests.{both_true}
use Rattle.plane_base.proofs.Facts.Crossings.Place.{other_apart}
use Rattle.plane_base.proofs.Facts.Crossings.Pieces.{three_on_line, le_then_less, less_then_le}
use Rattle.segment_split.specs.Paths.{along, path}
use Rattle.segment_split.specs.Passes.{marks_in, marks_on}
use Rattle.segment_split.specs.WholeLaws.{MeetsAllWhole}
use Rattle.segment_split.specs.LineLaws.{IsCutPoint, is_part, JoinsNeighbours}
use Rattle.segment_split.specs.declared.solver.Precision.{Precision}
use Rattle.segment_split.proofs.Spread.Lists.{IsDirectedEdge}
use Rattle.segment_split.proofs.Whole.Marks.{whole_marks_on, whole_marks_inside}
use Rattle.segment_split.proofs.Whole.Pieces.{step_of_path}
use Rattle.segment_split.proofs.Passes.Steps.{contains_head, contains_tail, along_holds, IsStep, inside_is, inside_from, path_tells}
use Rattle.segment_split.proofs.Passes.Common.{AreCollinear, collinear_swapped, one_line_from, end_marked, common_marked, mark_tells}
use Rattle.segment_split.proofs.Passes.Last.{joined_from, joined_tells, inside_piece}

-- ---- parts

pub part_tells : (u s : Edge) → is_before u.a u.b ≡ true → is_part u s ≡ true → IsPiece u s
part_tells u s forward e =
    let h = both_true (int_eq (turn s.a s.b u.a) (pos 0) && int_eq (turn s.a s.b u.b) (pos 0)) (is_le (point_order s.a u.a) && is_le (point_order u.b s.b)) e in
    let k = both_true (int_eq (turn s.a s.b u.a) (pos 0)) (int_eq (turn s.a s.b u.b) (pos 0)) h.0 in
    let l = both_true (is_le (point_order s.a u.a)) (is_le (point_order u.b s.b)) h.1 in
    record {
      first_on = (Decides-int_eq (turn s.a s.b u.a) (pos 0)).0 k.0;
      second_on = (Decides-int_eq (turn s.a s.b u.b) (pos 0)).0 k.1;
      from = l.0;
      forward = forward;
      to = l.1;
    }

pub part_from : (u s : Edge) → IsPiece u s → is_part u s ≡ true
part_from u s h =
    let first = (Decides-int_eq (turn s.a s.b u.a) (pos 0)).1 h.first_on in
    let second = (Decides-int_eq (turn s.a s.b u.b) (pos 0)).1 h.second_on in
    rw (first, second, h.from, h.to) refl

-- ---- a part and the whole run on one line

module _ (u s : Edge) (forward : is_before s.a s.b ≡ true) (piece : IsPiece u s) where
  pub same_line : (p : Point) → (turn s.a s.b p ≡ pos 0) ↔ (turn u.a u.b p ≡ pos 0)
  same_line p = (
    three_on_line s.a s.b u.a u.b p forward piece.first_on piece.second_on,
    three_on_line u.a u.b s.a s.b p piece.forward
        (three_on_line s.a s.b u.a u.b s.a forward piece.first_on piece.second_on (turn_there_and_back s.a s.b))
        (three_on_line s.a s.b u.a u.b s.b forward piece.first_on piece.second_on (turn_end_twice s.a s.b)),
  )

one_line_tells : (s r : Edge) → on_one_line s r ≡ true → AreCollinear s r
one_line_tells s r e =
    let h = both_true (int_eq (turn s.a s.b r.a) (pos 0) && int_eq (turn s.a s.b r.b) (pos 0)) (int_eq (turn r.a r.b s.a) (pos 0) && int_eq (turn r.a r.b s.b) (pos 0)) e in
    let k = both_true (int_eq (turn s.a s.b r.a) (pos 0)) (int_eq (turn s.a s.b r.b) (pos 0)) h.0 in
    ((Decides-int_eq (turn s.a s.b r.a) (pos 0)).0 k.0, (Decides-int_eq (turn s.a s.b r.b) (pos 0)).0 k.1)

pub not_one_line : (s r : Edge) → (AreCollinear s r → ⊥) → on_one_line s r ≡ false
not_one_line s r h = by (on_one_line s r) refl
  where
    by : (b : Bool) → on_one_line s r ≡ b → b ≡ false
    by true e = absurd (h (one_line_tells s r e))
    by false e = refl

-- an edge on another line than the one runs on another than the other
other_line : (u s r : Edge) → is_before u.a u.b ≡ true → ((p : Point) → turn s.a s.b p ≡ pos 0 → turn u.a u.b p ≡ pos 0) → on_one_line u r ≡ false → on_one_line s r ≡ false
other_line u s r forward same e =
    not_one_line s r
    (λ h. let k : AreCollinear u r = (same r.a h.0, same r.b h.1) in false≢true (sym e ∙ one_line_from u r k (collinear_swapped u r forward k)))

pub cut_point_moved : (es : List Edge) (u s : Edge) (p : Point) → is_before u.a u.b ≡ true → ((p : Point) → (turn s.a s.b p ≡ pos 0) ↔ (turn u.a u.b p ≡ pos 0)) → IsCutPoint es u p → IsCutPoint es s p
cut_point_moved es u s p forward same h = record {
  flat = (same p).1 h.flat;
  of = h.of;
  listed = h.listed;
  meets = ⊎_elim inl (λ k. inr (k.0, other_line u s h.of forward (λ q. (same q).0) k.1)) h.meets;
}

-- ---- marks are cut points

module _ (es : List Edge) (directed : All IsDirectedEdge es) (s : Edge) (at : Contains es s) (meets : MeetsAllWhole es s) where
  pub directed_at : (r : Edge) → Contains es r → is_before r.a r.b ≡ true
  directed_at r there = All-contains IsDirectedEdge es r directed there

  pub marked_inside : All (λ m. strictly_inside m s ≡ true) (marks_on late_marks es s)
  marked_inside = whole_marks_inside es s directed meets (directed_at s at)

  flat_inside : (p : Point) → strictly_inside p s ≡ true → turn s.a s.b p ≡ pos 0
  flat_inside p e = (inside_is p s e).0

  pub mark_is_cut_point : (p : Point) → Contains (marks_on late_marks es s) p → IsCutPoint es s p
  mark_is_cut_point p mark =
      let found = joined_tells (λ r. (late_marks s r).first) es p mark in
      record {
        flat = flat_inside p (All-contains (λ m. strictly_inside m s ≡ true) (marks_on late_marks es s) p marked_inside mark);
        of = found.0;
        listed = found.1;
        meets =
            ⊎_elim inl (λ k. inr (k.1, not_one_line s found.0 (apart found.0 k.0)))
            (mark_tells s found.0 p (directed_at s at) (directed_at found.0 found.1) (meets found.0 found.1) found.2);
      }
    where
      apart : (r : Edge) → cross_properly s r ≡ true → AreCollinear s r → ⊥
      apart r proper h = none (turn s.a s.b r.a) (other_apart s r proper).0 h.0
        where
          none : (x : _) → 0 < unsigned_abs x → x ≡ pos 0 → ⊥
          none x h e = let g : 0 < unsigned_abs (pos 0) = rw e at h in omega arith

  pub cut_point_is_mark : (p : Point) → IsCutPoint es s p → strictly_inside p s ≡ true → Contains (marks_on late_marks es s) p
  cut_point_is_mark p h e = joined_from (λ r. (late_marks s r).first) es h.of p h.listed (⊎_elim (end_marked s h.of p (directed_at s at) e) passed h.meets)
    where
      passed : (strictly_inside p h.of ≡ true) × (on_one_line s h.of ≡ false) → Contains (late_marks s h.of).first p
      passed k =
          ⊎_elim (λ m. m) (λ c. absurd (false≢true (sym k.1 ∙ one_line_from s h.of c (collinear_swapped s h.of (directed_at s at) c))))
          (common_marked s h.of p (directed_at s at) (directed_at h.of h.listed) (meets h.of h.listed) e k.0)

  -- ---- the points of the path

  abbrev points : List Point
  points = path s (marks_on late_marks es s)

  own_end : (p : Point) → ((p ≡ s.a) ⊎ (p ≡ s.b)) → IsCutPoint es s p
  own_end p h = record {
    flat = ⊎_elim (λ e. ap (turn s.a s.b) e ∙ turn_there_and_back s.a s.b) (λ e. ap (turn s.a s.b) e ∙ turn_end_twice s.a s.b) h;
    of = s;
    listed = at;
    meets = inl h;
  }

  pub point_is_cut_point : (p : Point) → Contains points p → IsCutPoint es s p
  point_is_cut_point p there = ⊎_elim (own_end p) (mark_is_cut_point p) (path_tells s (marks_on late_marks es s) p there)

  pub cut_point_is_point : (p : Point) → IsCutPoint es s p → is_le (point_order s.a p) ≡ true → is_le (point_order p s.b) ≡ true → Contains points p
  cut_point_is_point p h from to = by (point_order s.a p) (point_order p s.b) refl refl from to
    where
      by : (o r : Ordering) → point_order s.a p ≡ o → point_order p s.b ≡ r → is_le o ≡ true → is_le r ≡ true → Contains points p
      by Equal r e f k l = subst (Contains points) (point_equal s.a p e) (contains_head s.a (along s (marks_on late_marks es s) ++ (s.b ∷ [])))
      by Less Equal e f k l =
          subst (Contains points) (sym (point_equal p s.b f))
          (contains_tail s.a (along s (marks_on late_marks es s) ++ (s.b ∷ [])) s.b (Contains-append_right (along s (marks_on late_marks es s)) (s.b ∷ []) s.b (contains_head s.b [])))
      by Less Less e f k l =
          contains_tail s.a (along s (marks_on late_marks es s) ++ (s.b ∷ [])) p
          (Contains-append_left (along s (marks_on late_marks es s)) (s.b ∷ []) p
          (All-contains (Contains (along s (marks_on late_marks es s))) (marks_on late_marks es s) p (along_holds s (marks_on late_marks es s))
          (cut_point_is_mark p h (inside_from p s h.flat e f))))
      by Less Greater e f k l = absurd (cc)
      by Greater r e f k l = absurd (cc)

  -- ---- its steps

  pub step_is_piece : (u : Edge) → IsStep points u → IsPiece u s
  step_is_piece = step_of_path s (marks_on late_marks es s) (directed_at s at) marked_inside

  line_of : (u : Edge) → IsPiece u s → (p : Point) → (turn s.a s.b p ≡ pos 0) ↔ (turn u.a u.b p ≡ pos 0)
  line_of u piece = same_line u s (directed_at s at) piece

  pub step_joins : (u : Edge) → IsStep points u → JoinsNeighbours es u
  step_joins u step = record {
    forward = piece.forward;
    along = (s, at, part_from u s piece);
    first = moved u.a (point_is_cut_point u.a step.first);
    second = moved u.b (point_is_cut_point u.b step.second);
    free = λ p h. by p h (strictly_inside p u) refl;
  }
    where
      piece : IsPiece u s
      piece = step_is_piece u step

      moved : (p : Point) → IsCutPoint es s p → IsCutPoint es u p
      moved p = cut_point_moved es s u p (directed_at s at) (λ q. ((line_of u piece q).1, (line_of u piece q).0))

      by : (p : Point) → IsCutPoint es u p → (b : Bool) → strictly_inside p u ≡ b → b ≡ false
      by p h false e = refl
      by p h true e =
          let here = inside_piece s u p (directed_at s at) piece e in
          let k = inside_is p u e in
          let l = inside_is p s here in
          let there = cut_point_is_point p (cut_point_moved es u s p piece.forward (line_of u piece) h) (ap is_le l.1) (ap is_le l.2) in
          absurd (All-contains (λ p. point_order u.a p ≡ Less → point_order p u.b ≡ Less → ⊥) points p step.free there k.1 k.2)

  pub joins_step : (u : Edge) → JoinsNeighbours es u → is_part u s ≡ true → IsStep points u
  joins_step u h e = record {
    first = cut_point_is_point u.a (moved u.a h.first) piece.from (ap is_le (less_then_le u.a u.b s.b next piece.to));
    second = cut_point_is_point u.b (moved u.b h.second) (ap is_le (le_then_less s.a u.a u.b piece.from next)) piece.to;
    forward = next;
    free = All-weaker (Contains points) (λ p. point_order u.a p ≡ Less → point_order p u.b ≡ Less → ⊥) between points (All-contains_itself points);
  }
    where
      piece : IsPiece u s
      piece = part_tells u s h.forward e

      next : point_order u.a u.b ≡ Less
      next = before_is_less u.a u.b h.forward

      moved : (p : Point) → IsCutPoint es u p → IsCutPoint es s p
      moved p = cut_point_moved es u s p h.forward (line_of u piece)

      between : (p : Point) → Contains points p → point_order u.a p ≡ Less → point_order p u.b ≡ Less → ⊥
      between p there l m =
          let k = point_is_cut_point p there in
          false≢true
          (sym (h.free p (cut_point_moved es s u p (directed_at s at) (λ q. ((line_of u piece q).1, (line_of u piece q).0)) k))
          ∙ inside_from p u ((line_of u piece p).0 k.flat) l m)

-- ---- marks of any pass

-- an edge that meets all others whole is marked at the cut points strictly inside it
pub marks_are_cut_points : (precision : Precision) (k : ℕ) (es : List Edge) (s : Edge) (p : Point) → All IsDirectedEdge es → Contains es s → MeetsAllWhole es s
    → Contains (marks_on (marks_in precision k) es s) p ↔ (IsCutPoint es s p × (strictly_inside p s ≡ true))
marks_are_cut_points precision k es s p directed at meets = (
  (λ m. let l = subst (λ ms. Contains ms p) same m in (
    mark_is_cut_point es directed s at meets p l,
    All-contains (λ m. strictly_inside m s ≡ true) (marks_on late_marks es s) p (marked_inside es directed s at meets) l,
  )),
  (λ m. subst (λ ms. Contains ms p) (sym same) (cut_point_is_mark es directed s at meets p m.0 m.1)),
)
  where
    same : marks_on (marks_in precision k) es s ≡ marks_on late_marks es s
    same = whole_marks_on precision k es s meets

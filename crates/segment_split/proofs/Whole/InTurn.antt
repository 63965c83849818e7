-- Edges that meet all others whole are cut first where the others mark them, or at more of their marks, and their pieces then at each
-- other.
use Rattle.std.proofs.Common.{◌≡◌, ◌<◌, ℕ, true, List, [], ◌∷◌, ◌++◌, flat_map, All, Contains, IsPermutation, ◌⊎◌, inl, inr, ⊎_elim, pos, Less, refl, sym, ap, subst, ◌∙◌, arith}
use Rattle.std.specs.Prelude.{unsigned_abs}
use Rattle.std.proofs.lemmas.Bool.{false≢true}
use Rattle.std.proofs.lemmas.List.Elements.{All-map, All-weaker, All-contains, All-contains_itself, Contains-append_left, Contains-append_right, Contains-append_cases}
use Rattle.std.proofs.lemmas.List.Sorted.{Contains-permutation, IsPermutation-sym, IsPermutation-append_left}
use Rattle.plane_base.specs.Plane.{Point, Edge, turn, is_before, point_order}
use Rattle.plane_base.specs.Segments.{strictly_inside, cross_properly, on_one_line}
use Rattle.plane_base.specs.Counts.{Counting, Entry, normal, IsNormal}
use Rattle.plane_base.specs.Given.{laid_path}
use Rattle.plane_base.specs.Crossing.{Marks, late_marks}
use Rattle.plane_base.specs.WholeLaws.{IsPiece}
use Rattle.plane_base.proofs.Facts.Maps.Normal.{IsCounting, normal_permutation, normal_normal_append}
use Rattle.plane_base.proofs.Facts.Points.Turns.{turn_there_and_back, turn_end_twice}
use Rattle.plane_base.proofs.Facts.Crossings.Place.{other_apart}
use Rattle.plane_base.proofs.Facts.Crossings.Pieces.{three_on_line, pieces_cross_alike}
use Rattle.segment_split.specs.Paths.{along, path}
use Rattle.segment_split.specs.Passes.{edges_of, marks_in, marks_on, cut, all_cut, all_cut_at, pass_by, pass}
use Rattle.segment_split.specs.WholeLaws.{AllMeetWhole, MeetsAllWhole}
use Rattle.segment_split.specs.LineLaws.{EndsOrPasses, IsCutPoint}
use Rattle.segment_split.specs.TurnLaws.{ArePartedWhole, AreFirstCuts, CutsInTurn}
use Rattle.segment_split.specs.declared.solver.Precision.{Precision}
use Rattle.segment_split.proofs.Spread.Lists.{IsDirectedEdge, flat_map_same, all_flat_map, edges_contain}
use Rattle.segment_split.proofs.Spread.StaircaseMembers.{marks_stand_along}
use Rattle.segment_split.proofs.Passes.Steps.{contains_head, contains_tail, along_holds, IsRisingPath, IsStep, inside_is, inside_from, path_rises, path_tells, cut_steps}
use Rattle.segment_split.proofs.Passes.Common.{AreCollinear, collinear_swapped, one_line_from, common_marked, mark_tells}
use Rattle.segment_split.proofs.Passes.Last.{joined_from, joined_tells, inside_piece, marked_too, IsCut, cuts_parted}
use Rattle.segment_split.proofs.Stops.Permuted.{flat_map_permuted, flat_map_parted}
use Rattle.segment_split.proofs.Whole.Marks.{whole_marks_on, whole_marks_inside}
use Rattle.segment_split.proofs.Whole.Pieces.{step_of_path}
use Rattle.segment_split.proofs.Whole.CutPoints.{same_line, not_one_line, mark_is_cut_point, cut_point_is_mark, marks_are_cut_points}
use Rattle.segment_split.proofs.Whole.Neighbours.{not_there_and_back}
use Rattle.segment_split.proofs.Whole.Refined.{same_points, IsFound, place_in, end_of_step, step_laid, after, laid_again, after_rises, after_tells, after_points, after_marks}

-- ---- points of a path

own_on_path : (s : Edge) (ms : List Point) (p : Point) → ((p ≡ s.a) ⊎ (p ≡ s.b)) → Contains (path s ms) p
own_on_path s ms p (inl e) = subst (Contains (path s ms)) (sym e) (contains_head s.a (along s ms ++ (s.b ∷ [])))
own_on_path s ms p (inr e) =
    subst (Contains (path s ms)) (sym e)
    (contains_tail s.a (along s ms ++ (s.b ∷ [])) s.b (Contains-append_right (along s ms) (s.b ∷ []) s.b (contains_head s.b [])))

mark_on_path : (s : Edge) (ms : List Point) (p : Point) → Contains ms p → Contains (path s ms) p
mark_on_path s ms p at =
    contains_tail s.a (along s ms ++ (s.b ∷ [])) p
    (Contains-append_left (along s ms) (s.b ∷ []) p (All-contains (Contains (along s ms)) ms p (along_holds s ms) at))

-- a point between the ends is one of the path, or stands inside a step
found_on_path : (s : Edge) (ms : List Point) (x : Point) → IsRisingPath (path s ms) → point_order s.a x ≡ Less → point_order x s.b ≡ Less → IsFound (path s ms) x
found_on_path s ms x rising l m = by (place_in s.a (along s ms ++ (s.b ∷ [])) x rising l)
  where
    by : IsFound (path s ms) x ⊎ All (λ q. point_order q x ≡ Less) (path s ms) → IsFound (path s ms) x
    by (inl h) = h
    by (inr all) = absurd (not_there_and_back x s.b m (All-contains (λ q. point_order q x ≡ Less) (path s ms) s.b all (own_on_path s ms s.b (inr refl))))

-- ---- pieces on one line

module _ (s t u v : Edge) (s_forward : is_before s.a s.b ≡ true) (t_forward : is_before t.a t.b ≡ true) (in_s : IsPiece u s) (in_t : IsPiece v t) where
  pieces_on_line : AreCollinear s t → on_one_line u v ≡ true
  pieces_on_line h = one_line_from u v both (collinear_swapped u v in_s.forward both)
    where
      swapped : AreCollinear t s
      swapped = collinear_swapped s t s_forward h

      on : (p : Point) → turn t.a t.b p ≡ pos 0 → turn u.a u.b p ≡ pos 0
      on p e = (same_line u s s_forward in_s p).0 (three_on_line t.a t.b s.a s.b p t_forward swapped.0 swapped.1 e)

      both : AreCollinear u v
      both = (on v.a in_t.first_on, on v.b in_t.second_on)

  lines_of_pieces : AreCollinear u v → AreCollinear s t
  lines_of_pieces h = (on t.a (turn_there_and_back t.a t.b), on t.b (turn_end_twice t.a t.b))
    where
      swapped : AreCollinear v u
      swapped = collinear_swapped u v in_s.forward h

      on : (p : Point) → turn t.a t.b p ≡ pos 0 → turn s.a s.b p ≡ pos 0
      on p e = (same_line u s s_forward in_s p).1 (three_on_line v.a v.b u.a u.b p in_t.forward swapped.0 swapped.1 ((same_line v t t_forward in_t p).0 e))

not_collinear : (s r : Edge) → cross_properly s r ≡ true → AreCollinear s r → ⊥
not_collinear s r proper h = none (turn s.a s.b r.a) (other_apart s r proper).0 h.0
  where
    none : (x : _) → 0 < unsigned_abs x → x ≡ pos 0 → ⊥
    none x h e = let g : 0 < unsigned_abs (pos 0) = rw e at h in omega arith

-- ---- lines among all edges, and the rest

module _ (es lines rest : List Edge) (base : Edge → List Point) (directed : All IsDirectedEdge es) (line_in : (s : Edge) → Contains lines s → Contains es s)
    (covered : (s : Edge) → Contains es s → Contains lines s ⊎ Contains rest s) (whole : (s : Edge) → Contains lines s → MeetsAllWhole es s)
    (held : (s : Edge) (p : Point) → Contains lines s → Contains (marks_on late_marks rest s) p → Contains (base s) p)
    (only : (s : Edge) (p : Point) → Contains lines s → Contains (base s) p → Contains (marks_on late_marks es s) p) where
  forward : (s : Edge) → Contains lines s → is_before s.a s.b ≡ true
  forward s at = All-contains IsDirectedEdge es s directed (line_in s at)

  -- all marks of a line, and those of the base, lie inside it
  marks_inside : (s : Edge) → Contains lines s → All (λ m. strictly_inside m s ≡ true) (marks_on late_marks es s)
  marks_inside s at = whole_marks_inside es s directed (whole s at) (forward s at)

  base_inside : (s : Edge) → Contains lines s → All (λ m. strictly_inside m s ≡ true) (base s)
  base_inside s at =
      All-weaker (Contains (base s)) (λ m. strictly_inside m s ≡ true)
      (λ m there. All-contains (λ m. strictly_inside m s ≡ true) (marks_on late_marks es s) m (marks_inside s at) (only s m at there)) (base s) (All-contains_itself (base s))

  base_rises : (s : Edge) → Contains lines s → IsRisingPath (path s (base s))
  base_rises s at = path_rises s (forward s at) (base s) (base_inside s at)

  base_points : (s : Edge) → Contains lines s → (p : Point) → Contains (path s (base s)) p → Contains (path s (marks_on late_marks es s)) p
  base_points s at p on = ⊎_elim (own_on_path s (marks_on late_marks es s) p) (λ m. mark_on_path s (marks_on late_marks es s) p (only s p at m)) (path_tells s (base s) p on)

  -- a step of the path of a line through these marks
  record IsFirstPiece (u : Edge) : Type 0 where
    of : Edge
    listed : Contains lines of
    step : IsStep (path of (base of)) u

  first_piece : (u : Edge) (h : IsFirstPiece u) → IsPiece u h.of
  first_piece u h = step_of_path h.of (base h.of) (forward h.of h.listed) (base_inside h.of h.listed) u h.step

  module _ (ps : List Edge) (all : All IsFirstPiece ps) (listed : (u : Edge) → IsFirstPiece u → Contains ps u) where
    piece_at : (u : Edge) → Contains ps u → IsFirstPiece u
    piece_at u at = All-contains IsFirstPiece ps u all at

    pieces_directed : All IsDirectedEdge ps
    pieces_directed = All-weaker IsFirstPiece IsDirectedEdge (λ u h. (first_piece u h).forward) ps all

    pieces_whole : AllMeetWhole ps
    pieces_whole u v in_u in_v =
        let h = piece_at u in_u in
        let k = piece_at v in_v in
        pieces_cross_alike.meets h.of k.of u v (first_piece u h) (first_piece v k) (whole h.of h.listed k.of (line_in k.of k.listed))

    abbrev again : Edge → List Point
    again u = marks_on late_marks ps u

    again_inside : (u : Edge) → Contains ps u → All (λ m. strictly_inside m u ≡ true) (again u)
    again_inside u at = whole_marks_inside ps u pieces_directed (λ v. pieces_whole u v at) (first_piece u (piece_at u at)).forward

    module _ (s : Edge) (at : Contains lines s) where
      abbrev own : (u : Edge) → IsStep (path s (base s)) u → IsFirstPiece u
      own u step = record { of = s; listed = at; step = step }

      -- ---- a mark of a piece is one of the whole edge

      again_mark : (u : Edge) (p : Point) → IsStep (path s (base s)) u → Contains (again u) p → Contains (marks_on late_marks es s) p
      again_mark u p step m = by cut_point.meets
        where
          in_u : Contains ps u
          in_u = listed u (own u step)

          piece : IsPiece u s
          piece = first_piece u (own u step)

          inside : strictly_inside p s ≡ true
          inside = inside_piece s u p (forward s at) piece (All-contains (λ m. strictly_inside m u ≡ true) (again u) p (again_inside u in_u) m)

          cut_point : IsCutPoint ps u p
          cut_point = mark_is_cut_point ps pieces_directed u in_u (λ v. pieces_whole u v in_u) p m

          other : IsFirstPiece cut_point.of
          other = piece_at cut_point.of cut_point.listed

          on_other : Contains (path other.of (base other.of)) p → Contains (marks_on late_marks es s) p
          on_other there = marked_too es directed s other.of p (line_in s at) (line_in other.of other.listed) (whole s at) (whole other.of other.listed) inside (base_points other.of other.listed p there)

          by : EndsOrPasses u cut_point.of p → Contains (marks_on late_marks es s) p
          by (inl e) =
              on_other
              (⊎_elim (λ f. subst (Contains (path other.of (base other.of))) (sym f) other.step.first) (λ f. subst (Contains (path other.of (base other.of))) (sym f) other.step.second) e)
          by (inr k) =
              ⊎_elim (joined_from (λ r. (late_marks s r).first) es other.of p (line_in other.of other.listed))
              (λ c. absurd (false≢true (sym k.1 ∙ pieces_on_line s other.of u cut_point.of (forward s at) (forward other.of other.listed) piece (first_piece cut_point.of other) c)))
              (common_marked s other.of p (forward s at) (forward other.of other.listed) (whole s at other.of (line_in other.of other.listed)) inside
              (inside_piece other.of cut_point.of p (forward other.of other.listed) (first_piece cut_point.of other) k.0))

      -- ---- a mark of the whole edge is one of the rest, or of a piece

      abbrev twice : List Point
      twice = s.a ∷ after again s.a (along s (base s) ++ (s.b ∷ []))

      base_in_twice : (p : Point) → Contains (path s (base s)) p → Contains twice p
      base_in_twice p there = All-contains (Contains twice) (path s (base s)) p (after_points again s.a (along s (base s) ++ (s.b ∷ []))) there

      module _ (u : Edge) (step : IsStep (path s (base s)) u) (p : Point) (flat : turn u.a u.b p ≡ pos 0) (r : Edge) (there : Contains lines r) where
        at_point : Contains (path r (base r)) p → IsCutPoint ps u p
        at_point on =
            let k = All-contains (λ x. (v : Edge) × IsStep (path r (base r)) v × ((x ≡ v.a) ⊎ (x ≡ v.b))) (path r (base r)) p
            (end_of_step r.a (along r (base r) ++ (r.b ∷ [])) r.b (base_rises r there) (Contains-append_right (along r (base r)) (r.b ∷ []) r.b (contains_head r.b []))) on in
            record { flat = flat; of = k.0; listed = listed k.0 (record { of = r; listed = there; step = k.1 }); meets = inl k.2 }

        at_crossing : cross_properly s r ≡ true → strictly_inside p r ≡ true → IsCutPoint ps u p
        at_crossing proper e = by (found_on_path r (base r) p (base_rises r there) inside.1 inside.2)
          where
            inside : (turn r.a r.b p ≡ pos 0) × (point_order r.a p ≡ Less) × (point_order p r.b ≡ Less)
            inside = inside_is p r e

            by : IsFound (path r (base r)) p → IsCutPoint ps u p
            by (inl on) = at_point on
            by (inr k) =
                let v = k.0 in
                let other : IsFirstPiece v = record { of = r; listed = there; step = k.1 } in
                let piece = first_piece v other in
                record {
                  flat = flat;
                  of = v;
                  listed = listed v other;
                  meets = inr (
                    inside_from p v ((same_line v r (forward r there) piece p).0 inside.0) k.2 k.3,
                    not_one_line u v (λ h. not_collinear s r proper (lines_of_pieces s r u v (forward s at) (forward r there) (first_piece u (own u step)) piece h)),
                  );
                }

      mark_again : (p : Point) → Contains (marks_on late_marks es s) p → Contains twice p
      mark_again p m = of_edge found.0 found.1 found.2 (covered found.0 found.1)
        where
          found : (r : Edge) × Contains es r × Contains (late_marks s r).first p
          found = joined_tells (λ r. (late_marks s r).first) es p m

          inside : (turn s.a s.b p ≡ pos 0) × (point_order s.a p ≡ Less) × (point_order p s.b ≡ Less)
          inside = inside_is p s (All-contains (λ m. strictly_inside m s ≡ true) (marks_on late_marks es s) p (marks_inside s at) m)

          in_step : (u : Edge) → IsStep (path s (base s)) u → point_order u.a p ≡ Less → point_order p u.b ≡ Less → (r : Edge) → Contains es r → Contains lines r → Contains (late_marks s r).first p → Contains twice p
          in_step u step l n r in_r there mark =
              let in_u = listed u (own u step) in
              let flat = (same_line u s (forward s at) (first_piece u (own u step)) p).0 inside.0 in
              after_marks again s.a (along s (base s) ++ (s.b ∷ [])) u p (base_rises s at) step
              (cut_point_is_mark ps pieces_directed u in_u (λ v. pieces_whole u v in_u) p
              (⊎_elim (λ e. at_point u step p flat r there (own_on_path r (base r) p e)) (λ k. at_crossing u step p flat r there k.0 k.1)
              (mark_tells s r p (forward s at) (forward r there) (whole s at r in_r) mark))
              (inside_from p u flat l n))

          of_edge : (r : Edge) → Contains es r → Contains (late_marks s r).first p → Contains lines r ⊎ Contains rest r → Contains twice p
          of_edge r in_r mark (inr there) = base_in_twice p (mark_on_path s (base s) p (held s p at (joined_from (λ t. (late_marks s t).first) rest r p there mark)))
          of_edge r in_r mark (inl there) =
              ⊎_elim (base_in_twice p) (λ k. in_step k.0 k.1 k.2 k.3 r in_r there mark) (found_on_path s (base s) p (base_rises s at) inside.1 inside.2)

      same_path : path s (marks_on late_marks es s) ≡ twice
      same_path =
          same_points (path s (marks_on late_marks es s)) twice
          (path_rises s (forward s at) (marks_on late_marks es s) (marks_inside s at))
          (after_rises again s.a (along s (base s) ++ (s.b ∷ [])) (base_rises s at) (λ u step. again_inside u (listed u (own u step))))
          (λ p. (
            (λ on. ⊎_elim (λ e. base_in_twice p (own_on_path s (base s) p e)) (mark_again p) (path_tells s (marks_on late_marks es s) p on)),
            (λ on. ⊎_elim (base_points s at p) (λ k. mark_on_path s (marks_on late_marks es s) p (again_mark k.0 p k.1 k.2))
                (All-contains (λ x. Contains (path s (base s)) x ⊎ ((u : Edge) × IsStep (path s (base s)) u × Contains (again u) x)) twice p
                (after_tells again s.a (along s (base s) ++ (s.b ∷ [])) (base_rises s at)) on)),
          ))

-- ---- entries

flat_map_twice : {X Y Z : Type 0} (g : Y → List Z) (f : X → List Y) (xs : List X) → flat_map g (flat_map f xs) ≡ flat_map (λ x. flat_map g (f x)) xs
flat_map_twice g f [] = refl
flat_map_twice g f (x ∷ xs) = flat_map_parted g (f x) (flat_map f xs) ∙ ap (λ l. flat_map g (f x) ++ l) (flat_map_twice g f xs)

module _ {C : Type 0} where
  pub edge_at : (es : List (Entry C)) (e : Entry C) → Contains es e → Contains (edges_of es) e.edge
  edge_at es e at = All-contains (λ e. Contains (edges_of es) e.edge) es e (edges_contain es) at

  pub entry_of : (es : List (Entry C)) (s : Edge) → Contains (edges_of es) s → (e : Entry C) × Contains es e × (e.edge ≡ s)
  entry_of es s =
      All-contains (λ s. (e : Entry C) × Contains es e × (e.edge ≡ s)) (edges_of es) s
      (All-map (λ s. (e : Entry C) × Contains es e × (e.edge ≡ s)) (λ (e : Entry C). e.edge) es
      (All-weaker (Contains es) (λ e. (f : Entry C) × Contains es f × (f.edge ≡ e.edge)) (λ e at. (e, at, refl)) es (All-contains_itself es)))

  -- lists in another order have the same edges, and cut alike
  edge_permuted : (es fs : List (Entry C)) → IsPermutation es fs → (s : Edge) → Contains (edges_of es) s → Contains (edges_of fs) s
  edge_permuted es fs h s at = let k = entry_of es s at in subst (Contains (edges_of fs)) k.2 (edge_at fs k.0 (Contains-permutation es fs k.0 h k.1))

  mark_permuted : (marks : Edge → Edge → Marks) (es fs : List (Entry C)) → IsPermutation es fs → (s : Edge) (p : Point) → Contains (marks_on marks (edges_of es) s) p → Contains (marks_on marks (edges_of fs) s) p
  mark_permuted marks es fs h s p at =
      let found = joined_tells (λ t. (marks s t).first) (edges_of es) p at in
      joined_from (λ t. (marks s t).first) (edges_of fs) found.0 p (edge_permuted es fs h found.0 found.1) found.2

  pub all_cut_permuted : (kind : Counting C) (marks : Edge → Edge → Marks) (es fs : List (Entry C)) → IsPermutation es fs → IsPermutation (all_cut kind marks (edges_of es) es) (all_cut kind marks (edges_of fs) fs)
  all_cut_permuted kind marks es fs h =
      subst (IsPermutation (all_cut kind marks (edges_of es) es))
      (flat_map_same (cut kind marks (edges_of es)) (cut kind marks (edges_of fs)) fs (All-weaker (Contains fs) (λ e. cut kind marks (edges_of es) e ≡ cut kind marks (edges_of fs) e) (λ e _. same e) fs (All-contains_itself fs)))
      (flat_map_permuted (cut kind marks (edges_of es)) es fs h)
    where
      same : (e : Entry C) → cut kind marks (edges_of es) e ≡ cut kind marks (edges_of fs) e
      same e =
          ap (laid_path kind e.count)
          (marks_stand_along.same e.edge (marks_on marks (edges_of es) e.edge) (marks_on marks (edges_of fs) e.edge)
          (λ p. (mark_permuted marks es fs h e.edge p, mark_permuted marks fs es (IsPermutation-sym es fs h) e.edge p)))

module _ {C : Type 0} (kind : Counting C) where
  directed_entries : (es : List (Entry C)) → IsNormal kind es → All IsDirectedEdge (edges_of es)
  directed_entries es h = All-map IsDirectedEdge (λ (e : Entry C). e.edge) es h.directed

  late_cut : (precision : Precision) (k : ℕ) (ss : List Edge) (e : Entry C) → MeetsAllWhole ss e.edge → cut kind (marks_in precision k) ss e ≡ cut kind late_marks ss e
  late_cut precision k ss e meets = ap (λ ms. laid_path kind e.count (path e.edge ms)) (whole_marks_on precision k ss e.edge meets)

  late_cuts : (precision : Precision) (k : ℕ) (ss : List Edge) (es : List (Entry C)) → All (λ e. MeetsAllWhole ss e.edge) es → all_cut kind (marks_in precision k) ss es ≡ all_cut kind late_marks ss es
  late_cuts precision k ss es all =
      flat_map_same (cut kind (marks_in precision k) ss) (cut kind late_marks ss) es
      (All-weaker (λ e. MeetsAllWhole ss e.edge) (λ e. cut kind (marks_in precision k) ss e ≡ cut kind late_marks ss e) (late_cut precision k ss) es all)

  module _ (es lines rest : List (Entry C)) (h : IsNormal kind es) (parts : ArePartedWhole es lines rest) where
    line_in : (s : Edge) → Contains (edges_of lines) s → Contains (edges_of es) s
    line_in s at =
        let k = entry_of lines s at in
        subst (Contains (edges_of es)) k.2 (edge_at es k.0 (Contains-permutation (lines ++ rest) es k.0 (IsPermutation-sym es (lines ++ rest) parts.parts) (Contains-append_left lines rest k.0 k.1)))

    rest_in : (s : Edge) → Contains (edges_of rest) s → Contains (edges_of es) s
    rest_in s at =
        let k = entry_of rest s at in
        subst (Contains (edges_of es)) k.2 (edge_at es k.0 (Contains-permutation (lines ++ rest) es k.0 (IsPermutation-sym es (lines ++ rest) parts.parts) (Contains-append_right lines rest k.0 k.1)))

    covered : (s : Edge) → Contains (edges_of es) s → Contains (edges_of lines) s ⊎ Contains (edges_of rest) s
    covered s at =
        let k = entry_of es s at in
        ⊎_elim (λ l. inl (subst (Contains (edges_of lines)) k.2 (edge_at lines k.0 l))) (λ l. inr (subst (Contains (edges_of rest)) k.2 (edge_at rest k.0 l)))
        (Contains-append_cases lines rest k.0 (Contains-permutation es (lines ++ rest) k.0 parts.parts k.1))

    whole : (s : Edge) → Contains (edges_of lines) s → MeetsAllWhole (edges_of es) s
    whole s at = All-contains (MeetsAllWhole (edges_of es)) (edges_of lines) s (All-map (MeetsAllWhole (edges_of es)) (λ (e : Entry C). e.edge) lines parts.whole) at

    module _ (base : Edge → List Point) (held : (s : Edge) (p : Point) → Contains (edges_of lines) s → Contains (marks_on late_marks (edges_of rest) s) p → Contains (base s) p)
        (only : (s : Edge) (p : Point) → Contains (edges_of lines) s → Contains (base s) p → Contains (marks_on late_marks (edges_of es) s) p) where
      abbrev FirstPiece : Edge → Type 0
      FirstPiece u = IsFirstPiece (edges_of es) (edges_of lines) (edges_of rest) base (directed_entries es h) line_in covered whole held only u

      -- what an entry becomes at first
      abbrev first_cut : Entry C → List (Entry C)
      first_cut e = laid_path kind e.count (path e.edge (base e.edge))

      abbrev first : List (Entry C)
      first = all_cut_at kind base lines

      line_rises : (e : Entry C) → Contains lines e → IsRisingPath (path e.edge (base e.edge))
      line_rises e at = base_rises (edges_of es) (edges_of lines) (edges_of rest) base (directed_entries es h) line_in covered whole held only e.edge (edge_at lines e at)

      first_all : All FirstPiece (edges_of first)
      first_all =
          All-map FirstPiece (λ (e : Entry C). e.edge) first
          (all_flat_map (λ (f : Entry C). FirstPiece f.edge) first_cut lines (All-weaker (Contains lines) (λ e. All (λ (f : Entry C). FirstPiece f.edge) (first_cut e)) each lines (All-contains_itself lines)))
        where
          each : (e : Entry C) → Contains lines e → All (λ (f : Entry C). FirstPiece f.edge) (first_cut e)
          each e at =
              All-weaker (λ (f : Entry C). IsStep (path e.edge (base e.edge)) f.edge) (λ f. FirstPiece f.edge) (λ f step. record { of = e.edge; listed = edge_at lines e at; step = step }) (first_cut e)
              (cut_steps e.edge (All-contains IsDirectedEdge (edges_of es) e.edge (directed_entries es h) (line_in e.edge (edge_at lines e at))) (base e.edge)
              (base_inside (edges_of es) (edges_of lines) (edges_of rest) base (directed_entries es h) line_in covered whole held only e.edge (edge_at lines e at)) kind e.count)

      first_listed : (u : Edge) → FirstPiece u → Contains (edges_of first) u
      first_listed u k =
          let e = entry_of lines k.of k.listed in
          let step = subst (λ s. IsStep (path s (base s)) u) (sym e.2) k.step in
          let f = entry_of (first_cut e.0) u (step_laid kind e.0.count (path e.0.edge (base e.0.edge)) u (line_rises e.0 e.1) step) in
          subst (Contains (edges_of first)) f.2 (edge_at first f.0 (joined_from first_cut lines e.0 f.0 e.1 f.1))

      cut_twice : (e : Entry C) → Contains lines e → flat_map (cut kind late_marks (edges_of first)) (first_cut e) ≡ cut kind late_marks (edges_of es) e
      cut_twice e at =
          laid_again (λ u. marks_on late_marks (edges_of first) u) kind e.count e.edge.a (along e.edge (base e.edge) ++ (e.edge.b ∷ [])) (line_rises e at)
          ∙ ap (laid_path kind e.count)
          (sym (same_path (edges_of es) (edges_of lines) (edges_of rest) base (directed_entries es h) line_in covered whole held only (edges_of first) first_all first_listed e.edge (edge_at lines e at)))

      late_pieces : all_cut kind late_marks (edges_of first) first ≡ all_cut kind late_marks (edges_of es) lines
      late_pieces =
          flat_map_twice (cut kind late_marks (edges_of first)) first_cut lines
          ∙ flat_map_same (λ e. flat_map (cut kind late_marks (edges_of first)) (first_cut e)) (cut kind late_marks (edges_of es)) lines
          (All-weaker (Contains lines) (λ e. flat_map (cut kind late_marks (edges_of first)) (first_cut e) ≡ cut kind late_marks (edges_of es) e) cut_twice lines (All-contains_itself lines))

  -- ---- the law

  module _ (precision : Precision) (k : ℕ) (es : List (Entry C)) (h : IsNormal kind es) where
    module _ (lines rest laid : List (Entry C)) (base : Edge → List Point) (parts : ArePartedWhole es lines rest)
        (cuts : AreFirstCuts precision k (edges_of es) (edges_of lines) (edges_of rest) base) (permuted : IsPermutation (all_cut_at kind base lines) laid) where
      pieces_same : all_cut kind late_marks (edges_of (all_cut_at kind base lines)) (all_cut_at kind base lines) ≡ all_cut kind (marks_in precision k) (edges_of es) lines
      pieces_same =
          late_pieces es lines rest h parts base
          (λ s p at m. cuts.marked s p at (subst (λ ms. Contains ms p) (sym (whole_marks_on precision k (edges_of rest) s (λ t there. whole es lines rest h parts s at t (rest_in es lines rest h parts t there)))) m))
          (λ s p at m. subst (λ ms. Contains ms p) (whole_marks_on precision k (edges_of es) s (whole es lines rest h parts s at)) (cuts.only s p at m))
          ∙ sym (late_cuts precision k (edges_of es) lines parts.whole)

      pieces_permuted : IsPermutation (all_cut kind (marks_in precision k) (edges_of es) lines) (all_cut kind late_marks (edges_of laid) laid)
      pieces_permuted = subst (λ l. IsPermutation l (all_cut kind late_marks (edges_of laid) laid)) pieces_same (all_cut_permuted kind late_marks (all_cut_at kind base lines) laid permuted)

      pass_in_turn : IsCounting kind → pass kind precision es k ≡ normal kind (pass_by kind late_marks laid ++ all_cut kind (marks_in precision k) (edges_of es) rest)
      pass_in_turn laws =
          let cut_now = all_cut kind (marks_in precision k) (edges_of es) in
          let again = all_cut kind late_marks (edges_of laid) laid in
          sym (normal_permutation laws (cut_now es) (cut_now (lines ++ rest)) (flat_map_permuted (cut kind (marks_in precision k) (edges_of es)) es (lines ++ rest) parts.parts))
          ∙ ap (normal kind) (flat_map_parted (cut kind (marks_in precision k) (edges_of es)) lines rest)
          ∙ sym (normal_permutation laws (cut_now lines ++ cut_now rest) (again ++ cut_now rest) (IsPermutation-append_left (cut_now rest) (cut_now lines) again pieces_permuted))
          ∙ sym (normal_normal_append laws again (cut_now rest))

    whole_cut : (e : Entry C) (s : Edge) → Contains es e → MeetsAllWhole (edges_of es) e.edge → Contains (edges_of (cut kind (marks_in precision k) (edges_of es) e)) s → IsCut (edges_of es) (directed_entries es h) s
    whole_cut e s at meets there = record { of = e.edge; listed = edge_at es e at; meets = meets; step = All-contains (IsStep points) (edges_of laid) s steps late }
      where
        points : List Point
        points = path e.edge (marks_on late_marks (edges_of es) e.edge)

        laid : List (Entry C)
        laid = cut kind late_marks (edges_of es) e

        forward : is_before e.edge.a e.edge.b ≡ true
        forward = All-contains IsDirectedEdge (edges_of es) e.edge (directed_entries es h) (edge_at es e at)

        late : Contains (edges_of laid) s
        late = subst (λ l. Contains (edges_of l) s) (late_cut precision k (edges_of es) e meets) there

        steps : All (IsStep points) (edges_of laid)
        steps =
            All-map (IsStep points) (λ (f : Entry C). f.edge) laid
            (cut_steps e.edge forward (marks_on late_marks (edges_of es) e.edge) (whole_marks_inside (edges_of es) e.edge (directed_entries es h) meets forward) kind e.count)

pub cuts_in_turn : {C : Type 0} (kind : Counting C) (precision : Precision) → CutsInTurn kind precision
cuts_in_turn kind precision = record {
  marks = λ k es s p h at meets. marks_are_cut_points precision k (edges_of es) s p (directed_entries kind es h) at meets;
  pieces = λ k es lines rest first base h parts cuts same. pieces_permuted kind precision k es h lines rest first base parts cuts same;
  in_turn = λ k es lines rest first base laws h parts cuts same. pass_in_turn kind precision k es h lines rest first base parts cuts same laws;
  parted = λ k es e f s t h in_e in_f meets others there in_t.
      cuts_parted (edges_of es) (directed_entries kind es h) s t (whole_cut kind precision k es h e s in_e meets there) (whole_cut kind precision k es h f t in_f others in_t);
}

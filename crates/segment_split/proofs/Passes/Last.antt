-- Where edges cross at whole points alone, a pass leaves edges that meet in ends.
use Rattle.std.proofs.Common.{◌≡◌, ℕ, suc, Bool, true, false, List, [], ◌∷◌, ◌++◌, flat_map, All, Contains, ⊎_elim, subst, pos, get_or, refl, sym, ◌<◌, arith}
use Rattle.std.specs.Prelude.{unsigned_abs}
use Rattle.std.proofs.lemmas.List.Elements.{All-nil, All-cons, All-map, All-weaker, All-contains, All-contains_itself, Contains-append_left, Contains-append_right}
use Rattle.plane_base.specs.Plane.{Point, Edge, turn, is_before}
use Rattle.plane_base.specs.Counts.{Counting, Entry, IsNormal}
use Rattle.plane_base.specs.Segments.{strictly_inside, cross_properly, parted, MeetsInEnds}
use Rattle.plane_base.specs.Crossing.{rounded, crossing, late_marks}
use Rattle.plane_base.specs.WholeLaws.{IsPiece}
use Rattle.plane_base.proofs.Facts.Maps.Normal.{normal_edges}
use Rattle.plane_base.proofs.Facts.Points.Turns.{turn_there_and_back, turn_end_twice}
use Rattle.plane_base.proofs.Facts.Crossings.Place.{other_apart}
use Rattle.plane_base.proofs.Facts.Crossings.Whole.{whole_in_both}
use Rattle.plane_base.proofs.Facts.Crossings.Pieces.{three_on_line, le_then_less, less_then_le, pieces_cross_alike}
use Rattle.segment_split.specs.Paths.{path}
use Rattle.segment_split.specs.Passes.{edges_of, marks_on, cut, pass_by, pass}
use Rattle.segment_split.specs.Redrawing.{iterate}
use Rattle.segment_split.specs.WholeLaws.{AllMeetWhole, MeetsAllWhole}
use Rattle.segment_split.specs.RedrawLaws.{OnePassIsEnough}
use Rattle.segment_split.specs.declared.solver.Precision.{Precision}
use Rattle.segment_split.proofs.Spread.Lists.{IsDirectedEdge, all_flat_map, edges_contain}
use Rattle.segment_split.proofs.Whole.Marks.{whole_pass, whole_marks_inside}
use Rattle.segment_split.proofs.Whole.Pieces.{step_of_path, directed_edges, cut_inside}
use Rattle.segment_split.proofs.Passes.Steps.{contains_head, IsStep, inside_is, inside_from, cut_steps, no_mark_inside, path_tells}
use Rattle.segment_split.proofs.Passes.Common.{AreCollinear, end_marked, common_marked, crossing_marked, mark_tells}
use Rattle.segment_split.proofs.Redrawing.Iterates.{iterate_normal}
use Rattle.segment_split.proofs.Redrawing.Ends.{redrawn_at}

-- ---- members of joined lists

module _ {X Y : Type 0} (f : X → List Y) where
  joined_holds : (xs : List X) → All (λ x. All (Contains (flat_map f xs)) (f x)) xs
  joined_holds [] = All-nil (λ x. All (Contains []) (f x))
  joined_holds (x ∷ xs) =
      All-cons (λ z. All (Contains (f x ++ flat_map f xs)) (f z)) x xs
      (All-weaker (Contains (f x)) (Contains (f x ++ flat_map f xs)) (Contains-append_left (f x) (flat_map f xs)) (f x) (All-contains_itself (f x)))
      (All-weaker (λ z. All (Contains (flat_map f xs)) (f z)) (λ z. All (Contains (f x ++ flat_map f xs)) (f z))
      (λ z h. All-weaker (Contains (flat_map f xs)) (Contains (f x ++ flat_map f xs)) (Contains-append_right (f x) (flat_map f xs)) (f z) h) xs (joined_holds xs))

  pub joined_from : (xs : List X) (x : X) (y : Y) → Contains xs x → Contains (f x) y → Contains (flat_map f xs) y
  joined_from xs x y at there = All-contains (Contains (flat_map f xs)) (f x) y (All-contains (λ x. All (Contains (flat_map f xs)) (f x)) xs x (joined_holds xs) at) there

  pub joined_tells : (xs : List X) (y : Y) → Contains (flat_map f xs) y → (x : X) × Contains xs x × Contains (f x) y
  joined_tells xs y =
      All-contains (λ y. (x : X) × Contains xs x × Contains (f x) y) (flat_map f xs) y
      (all_flat_map (λ y. (x : X) × Contains xs x × Contains (f x) y) f xs
      (All-weaker (Contains xs) (λ x. All (λ y. (x : X) × Contains xs x × Contains (f x) y) (f x))
      (λ x at. All-weaker (Contains (f x)) (λ y. (x : X) × Contains xs x × Contains (f x) y) (λ y there. (x, at, there)) (f x) (All-contains_itself (f x))) xs (All-contains_itself xs)))

-- ---- a point inside a piece

pub inside_piece : (s u : Edge) (p : Point) → is_before s.a s.b ≡ true → IsPiece u s → strictly_inside p u ≡ true → strictly_inside p s ≡ true
inside_piece s u p forward piece e =
    let h = inside_is p u e in
    inside_from p s
    (three_on_line u.a u.b s.a s.b p piece.forward
    (three_on_line s.a s.b u.a u.b s.a forward piece.first_on piece.second_on (turn_there_and_back s.a s.b))
    (three_on_line s.a s.b u.a u.b s.b forward piece.first_on piece.second_on (turn_end_twice s.a s.b)) h.0)
    (le_then_less s.a u.a p piece.from h.1)
    (less_then_le p u.b s.b h.2 piece.to)

-- ---- the steps of all paths

module _ (es : List Edge) (directed : All IsDirectedEdge es) where
  forward : (s : Edge) → Contains es s → is_before s.a s.b ≡ true
  forward s at = All-contains IsDirectedEdge es s directed at

  inside : (s : Edge) → Contains es s → MeetsAllWhole es s → All (λ m. strictly_inside m s ≡ true) (marks_on late_marks es s)
  inside s at meets = whole_marks_inside es s directed meets (forward s at)

  marked_by : (s r : Edge) (p : Point) → Contains es r → Contains (late_marks s r).first p → Contains (marks_on late_marks es s) p
  marked_by s r p = joined_from (λ t. (late_marks s t).first) es r p

  -- a point that stands on the path of t is marked on each s that it lies inside
  pub marked_too : (s t : Edge) (p : Point) → Contains es s → Contains es t → MeetsAllWhole es s → MeetsAllWhole es t → strictly_inside p s ≡ true → Contains (path t (marks_on late_marks es t)) p → Contains (marks_on late_marks es s) p
  marked_too s t p in_s in_t s_meets t_meets e there =
      ⊎_elim (λ end. marked_by s t p in_t (end_marked s t p (forward s in_s) e end)) (λ mark. by (joined_tells (λ r. (late_marks t r).first) es p mark) mark)
      (path_tells t (marks_on late_marks es t) p there)
    where
      apart : (r : Edge) → cross_properly t r ≡ true → AreCollinear s t → AreCollinear s r → ⊥
      apart r proper h k = none (turn t.a t.b r.a) (other_apart t r proper).0 (three_on_line s.a s.b t.a t.b r.a (forward s in_s) h.0 h.1 k.0)
        where
          none : (x : _) → 0 < unsigned_abs x → x ≡ pos 0 → ⊥
          none x h e = let g : 0 < unsigned_abs (pos 0) = rw e at h in omega arith

      crossed : (r : Edge) → Contains es r → Contains (marks_on late_marks es t) p → cross_properly t r ≡ true → strictly_inside p r ≡ true → Contains (marks_on late_marks es s) p
      crossed r in_r mark proper f =
          let g : strictly_inside p t ≡ true = All-contains (λ m. strictly_inside m t ≡ true) (marks_on late_marks es t) p (inside t in_t t_meets) mark in
          ⊎_elim (marked_by s t p in_t)
          (λ h. ⊎_elim (marked_by s r p in_r) (λ k. absurd (apart r proper h k)) (common_marked s r p (forward s in_s) (forward r in_r) (s_meets r in_r) e f))
          (common_marked s t p (forward s in_s) (forward t in_t) (s_meets t in_t) e g)

      by : (r : Edge) × Contains es r × Contains (late_marks t r).first p → Contains (marks_on late_marks es t) p → Contains (marks_on late_marks es s) p
      by found mark =
          ⊎_elim
          (λ end. marked_by s found.0 p found.1 (end_marked s found.0 p (forward s in_s) e end))
          (λ h. crossed found.0 found.1 mark h.0 h.1)
          (mark_tells t found.0 p (forward t in_t) (forward found.0 found.1) (t_meets found.0 found.1) found.2)

  -- a step of the path of an edge of the list
  pub record IsCut (u : Edge) : Type 0 where
    pub of : Edge
    pub listed : Contains es of
    pub meets : MeetsAllWhole es of
    pub step : IsStep (path of (marks_on late_marks es of)) u

  cut_piece : (u : Edge) (h : IsCut u) → IsPiece u h.of
  cut_piece u h = step_of_path h.of (marks_on late_marks es h.of) (forward h.of h.listed) (inside h.of h.listed h.meets) u h.step

  not_marked : (u : Edge) (h : IsCut u) (p : Point) → Contains (marks_on late_marks es h.of) p → strictly_inside p u ≡ true → ⊥
  not_marked u h p = no_mark_inside h.of (forward h.of h.listed) (marks_on late_marks es h.of) (inside h.of h.listed h.meets) u p h.step

  no_end_inside : (u v : Edge) (h : IsCut u) (k : IsCut v) (p : Point) → Contains (path k.of (marks_on late_marks es k.of)) p → strictly_inside p u ≡ false
  no_end_inside u v h k p there = by (strictly_inside p u) refl
    where
      by : (b : Bool) → strictly_inside p u ≡ b → b ≡ false
      by false e = refl
      by true e = absurd (not_marked u h p (marked_too h.of k.of p h.listed k.listed h.meets k.meets (inside_piece h.of u p (forward h.of h.listed) (cut_piece u h) e) there) e)

  no_crossing : (u v : Edge) (h : IsCut u) (k : IsCut v) → cross_properly u v ≡ false
  no_crossing u v h k = by (cross_properly u v) refl
    where
      by : (b : Bool) → cross_properly u v ≡ b → b ≡ false
      by false e = refl
      by true e =
          let in_u = cut_piece u h in
          let in_v = cut_piece v k in
          let meets = h.meets k.of k.listed in
          let proper = pieces_cross_alike.cross h.of k.of u v in_u in_v e in
          let marked = crossing_marked h.of k.of (forward h.of h.listed) (forward k.of k.listed) meets proper in
          let same = pieces_cross_alike.rounded h.of k.of u v in_u in_v e in
          let there : Contains (late_marks h.of k.of).first (rounded (crossing u v)) =
          subst (λ l. Contains l (rounded (crossing u v))) (sym marked) (subst (Contains (rounded (crossing h.of k.of) ∷ [])) (sym same) (contains_head (rounded (crossing h.of k.of)) [])) in
          absurd (not_marked u h (rounded (crossing u v)) (marked_by h.of k.of (rounded (crossing u v)) k.listed there)
          (whole_in_both u v in_u.forward in_v.forward e (pieces_cross_alike.meets h.of k.of u v in_u in_v meets e)).0)

  pub cuts_parted : (u v : Edge) → IsCut u → IsCut v → parted u v ≡ true
  cuts_parted u v h k =
      rw (no_crossing u v h k, no_end_inside u v h k v.a k.step.first, no_end_inside u v h k v.b k.step.second, no_end_inside v u k h u.a h.step.first, no_end_inside v u k h u.b h.step.second) refl

-- ---- the pass

module _ {C : Type 0} (kind : Counting C) (es : List (Entry C)) (h : IsNormal kind es) (whole : AllMeetWhole (edges_of es)) where
  directed : All IsDirectedEdge (edges_of es)
  directed = directed_edges kind es h.directed whole

  pass_cuts : All (λ e. IsCut (edges_of es) directed e.edge) (pass_by kind late_marks es)
  pass_cuts =
      normal_edges kind (IsCut (edges_of es) directed) (flat_map (cut kind late_marks (edges_of es)) es)
      (all_flat_map (λ (f : Entry C). IsCut (edges_of es) directed f.edge) (cut kind late_marks (edges_of es)) es
      (λ k d l. each (get_or es k d) (edges_contain es k d l) (h.directed k d l) (cut_inside kind es h.directed whole k d l)))
    where
      each : (e : Entry C) → Contains (edges_of es) e.edge → IsDirectedEdge e.edge → All (λ m. strictly_inside m e.edge ≡ true) (marks_on late_marks (edges_of es) e.edge)
          → All (λ f. IsCut (edges_of es) directed f.edge) (cut kind late_marks (edges_of es) e)
      each e listed forward inside =
          All-weaker (λ (f : Entry C). IsStep (path e.edge (marks_on late_marks (edges_of es) e.edge)) f.edge) (λ f. IsCut (edges_of es) directed f.edge)
          (λ f step. record { of = e.edge; listed = listed; meets = λ t. whole e.edge t listed; step = step }) (cut kind late_marks (edges_of es) e)
          (cut_steps e.edge forward (marks_on late_marks (edges_of es) e.edge) inside kind e.count)

  pub pass_meets : MeetsInEnds (edges_of (pass_by kind late_marks es))
  pass_meets u v in_u in_v differ = cuts_parted (edges_of es) directed u v (cut_at u in_u) (cut_at v in_v)
    where
      cut_at : (u : Edge) → Contains (edges_of (pass_by kind late_marks es)) u → IsCut (edges_of es) directed u
      cut_at u =
          All-contains (IsCut (edges_of es) directed) (edges_of (pass_by kind late_marks es)) u
          (All-map (IsCut (edges_of es) directed) (λ (e : Entry C). e.edge) (pass_by kind late_marks es) pass_cuts)

module _ {C : Type 0} (kind : Counting C) (precision : Precision) where
  any_pass_meets : (es : List (Entry C)) (k : ℕ) → IsNormal kind es → AllMeetWhole (edges_of es) → MeetsInEnds (edges_of (pass kind precision es k))
  any_pass_meets es k h whole = subst (λ (l : List (Entry C)). MeetsInEnds (edges_of l)) (sym (whole_pass kind precision es k whole)) (pass_meets kind es h whole)

  pub one_pass_is_enough : OnePassIsEnough kind precision
  one_pass_is_enough = record {
    meets = any_pass_meets;
    is_last = λ es n h whole. redrawn_at kind precision es h (suc n) (any_pass_meets (iterate kind precision es n) n (iterate_normal kind precision es n h) whole);
  }

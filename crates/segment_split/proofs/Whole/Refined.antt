-- Paths whose steps are cut again: what is laid along them is laid along one path through all points.
use Rattle.std.proofs.Common.{◌≡◌, ◌↔◌, List, [], ◌∷◌, ◌++◌, flat_map, All, Contains, ◌⊎◌, inl, inr, ⊎_elim, pos, true, is_lt, Ordering, Less, Equal, Greater, append_assoc, append-nil, refl, sym, ap, subst, ◌∙◌}
use Rattle.std.proofs.lemmas.List.Elements.{All-nil, All-cons, All-head, All-tail, All-append, All-weaker, All-contains, All-contains_itself, Contains-append_left, Contains-append_right}
use Rattle.plane_base.specs.Plane.{Point, Edge, point_order}
use Rattle.plane_base.specs.Segments.{strictly_inside}
use Rattle.plane_base.specs.Counts.{Counting, Entry, lay}
use Rattle.plane_base.specs.Given.{laid_path}
use Rattle.plane_base.proofs.Facts.Maps.Normal.{AllPairs-cons, AllPairs-head, AllPairs-tail}
use Rattle.plane_base.proofs.Facts.Maps.Laying.{lay_by}
use Rattle.plane_base.proofs.Facts.Points.Orders.{point_total, point_equal, less_from_greater}
use Rattle.segment_split.specs.Paths.{along, path}
use Rattle.segment_split.specs.Passes.{edges_of}
use Rattle.segment_split.proofs.Spread.StaircaseMarks.{along_all}
use Rattle.segment_split.proofs.Spread.StaircaseMembers.{marks_stand_along}
use Rattle.segment_split.proofs.Passes.Steps.{contains_head, contains_tail, along_holds, IsRisingPath, IsStep, path_rises}
use Rattle.segment_split.proofs.Whole.Neighbours.{contained, contains_no, not_itself, first_step, later_step, step_cases}

-- ---- rising lists of points

abbrev nowhere : Point
nowhere = record { x = pos 0; y = pos 0 }

-- no two of them have the same points
pub same_points : (xs ys : List Point) → IsRisingPath xs → IsRisingPath ys → ((p : Point) → Contains xs p ↔ Contains ys p) → xs ≡ ys
same_points xs ys h k same =
    sym (marks_stand_along.only (record { a = nowhere; b = nowhere }) ys xs h same)
    ∙ marks_stand_along.only (record { a = nowhere; b = nowhere }) ys ys k (λ p. ((λ l. l), (λ l. l)))

rising_joined : (xs : List Point) (q : Point) (ys : List Point) → IsRisingPath (xs ++ (q ∷ [])) → IsRisingPath (q ∷ ys) → IsRisingPath (xs ++ (q ∷ ys))
rising_joined [] q ys h k = k
rising_joined (x ∷ xs) q ys h k =
    AllPairs-cons (λ p q. point_order p q ≡ Less) x (xs ++ (q ∷ ys))
    (All-append (λ r. point_order x r ≡ Less) xs (q ∷ ys)
    (All-weaker (Contains xs) (λ r. point_order x r ≡ Less) (λ r at. first r (Contains-append_left xs (q ∷ []) r at)) xs (All-contains_itself xs))
    (All-cons (λ r. point_order x r ≡ Less) q ys before_q (All-weaker (λ r. point_order q r ≡ Less) (λ r. point_order x r ≡ Less) (λ r l. point_total.trans x q r before_q l) ys (AllPairs-head (λ p q. point_order p q ≡ Less) q ys k))))
    (rising_joined xs q ys (AllPairs-tail (λ p q. point_order p q ≡ Less) x (xs ++ (q ∷ [])) h) k)
  where
    first : (r : Point) → Contains (xs ++ (q ∷ [])) r → point_order x r ≡ Less
    first r at = All-contains (λ r. point_order x r ≡ Less) (xs ++ (q ∷ [])) r (AllPairs-head (λ p q. point_order p q ≡ Less) x (xs ++ (q ∷ [])) h) at

    before_q : point_order x q ≡ Less
    before_q = first q (Contains-append_right xs (q ∷ []) q (contains_head q []))

-- a point is one of the list, or stands between two neighbours of it
abbrev pub IsFound : List Point → Point → Type 0
IsFound ps x = Contains ps x ⊎ ((u : Edge) × IsStep ps u × (point_order u.a x ≡ Less) × (point_order x u.b ≡ Less))

-- a point behind the first one is found so, or stands behind all
pub place_in : (p : Point) (ps : List Point) (x : Point) → IsRisingPath (p ∷ ps) → point_order p x ≡ Less → IsFound (p ∷ ps) x ⊎ All (λ q. point_order q x ≡ Less) (p ∷ ps)
place_in p [] x rising l = inr (All-cons (λ q. point_order q x ≡ Less) p [] l (All-nil (λ q. point_order q x ≡ Less)))
place_in p (q ∷ rest) x rising l = by (point_order x q) refl (place_in q rest x (AllPairs-tail (λ p q. point_order p q ≡ Less) p (q ∷ rest) rising))
  where
    on : IsFound (q ∷ rest) x → IsFound (p ∷ q ∷ rest) x
    on (inl at) = inl (contains_tail p (q ∷ rest) x at)
    on (inr h) = inr (h.0, later_step p q rest rising h.0 h.1, h.2, h.3)

    further : IsFound (q ∷ rest) x ⊎ All (λ q. point_order q x ≡ Less) (q ∷ rest) → IsFound (p ∷ q ∷ rest) x ⊎ All (λ q. point_order q x ≡ Less) (p ∷ q ∷ rest)
    further (inl h) = inl (on h)
    further (inr all) = inr (All-cons (λ q. point_order q x ≡ Less) p (q ∷ rest) l all)

    by : (o : Ordering) → point_order x q ≡ o → (point_order q x ≡ Less → IsFound (q ∷ rest) x ⊎ All (λ q. point_order q x ≡ Less) (q ∷ rest))
        → IsFound (p ∷ q ∷ rest) x ⊎ All (λ q. point_order q x ≡ Less) (p ∷ q ∷ rest)
    by Less e later = inl (inr (record { a = p; b = q }, first_step p q rest rising, l, e))
    by Equal e later = inl (inl (contains_tail p (q ∷ rest) x (subst (Contains (q ∷ rest)) (sym (point_equal x q e)) (contains_head q rest))))
    by Greater e later = further (later (less_from_greater point_total x q e))

abbrev pub EndsStep : List Point → Point → Type 0
EndsStep ps x = (u : Edge) × IsStep ps u × ((x ≡ u.a) ⊎ (x ≡ u.b))

-- where there are two points, each is an end of a step
pub end_of_step : (p : Point) (ps : List Point) (q : Point) → IsRisingPath (p ∷ ps) → Contains ps q → All (EndsStep (p ∷ ps)) (p ∷ ps)
end_of_step p [] q rising at = absurd (contains_no q at)
end_of_step p (q ∷ rest) r rising at =
    All-cons (EndsStep (p ∷ q ∷ rest)) p (q ∷ rest) (record { a = p; b = q }, first_step p q rest rising, inl refl) (by rest rising (end_of_step q rest))
  where
    by : (rest : List Point) (rising : IsRisingPath (p ∷ q ∷ rest)) → ((r : Point) → IsRisingPath (q ∷ rest) → Contains rest r → All (EndsStep (q ∷ rest)) (q ∷ rest)) → All (EndsStep (p ∷ q ∷ rest)) (q ∷ rest)
    by [] rising later = All-cons (EndsStep (p ∷ q ∷ [])) q [] (record { a = p; b = q }, first_step p q [] rising, inr refl) (All-nil (EndsStep (p ∷ q ∷ [])))
    by (r ∷ ss) rising later =
        All-weaker (EndsStep (q ∷ r ∷ ss)) (EndsStep (p ∷ q ∷ r ∷ ss)) (λ x h. (h.0, later_step p q (r ∷ ss) rising h.0 h.1, h.2)) (q ∷ r ∷ ss)
        (later r (AllPairs-tail (λ p q. point_order p q ≡ Less) p (q ∷ r ∷ ss) rising) (contains_head r ss))

abbrev next_step : Point → Point → Edge
next_step p q = record { a = p; b = q }

-- one point has no step
alone : (p : Point) (u : Edge) → IsStep (p ∷ []) u → ⊥
alone p u h = not_itself u.b (subst (λ z. point_order z u.b ≡ Less) (sym (only u.a h.first) ∙ only u.b h.second) h.forward)
  where
    only : (x : Point) → Contains (p ∷ []) x → p ≡ x
    only x at = ⊎_elim (λ e. e) (λ k. absurd (contains_no x k)) (contained p [] x at)

-- ---- what is laid along a path

head_edge : (s : Edge) (ss : List Edge) → Contains (s ∷ ss) s
head_edge s ss = All-head (Contains (s ∷ ss)) s ss (All-contains_itself (s ∷ ss))

later_edge : (s : Edge) (ss : List Edge) (u : Edge) → Contains ss u → Contains (s ∷ ss) u
later_edge s ss u at = All-contains (Contains (s ∷ ss)) ss u (All-tail (Contains (s ∷ ss)) s ss (All-contains_itself (s ∷ ss))) at

module _ {C : Type 0} (kind : Counting C) (c : C) where
  path_joined : (xs : List Point) (q : Point) (ys : List Point) → laid_path kind c (xs ++ (q ∷ ys)) ≡ laid_path kind c (xs ++ (q ∷ [])) ++ laid_path kind c (q ∷ ys)
  path_joined [] q ys = refl
  path_joined (x ∷ []) q ys = ap (λ l. l ++ laid_path kind c (q ∷ ys)) (sym (append-nil (lay kind x q c)))
  path_joined (x ∷ y ∷ xs) q ys =
      ap (λ l. lay kind x y c ++ l) (path_joined (y ∷ xs) q ys)
      ∙ sym (append_assoc (lay kind x y c) (laid_path kind c (y ∷ xs ++ (q ∷ []))) (laid_path kind c (q ∷ ys)))

  -- its steps are
  pub step_laid : (ps : List Point) (u : Edge) → IsRisingPath ps → IsStep ps u → Contains (edges_of (laid_path kind c ps)) u
  step_laid [] u rising h = absurd (contains_no u.a h.first)
  step_laid (p ∷ []) u rising h = absurd (alone p u h)
  step_laid (p ∷ q ∷ rest) u rising h =
      subst (λ o. Contains (edges_of (lay_by kind o p q c ++ laid_path kind c (q ∷ rest))) u) (sym (first_step p q rest rising).forward)
      (by (step_cases p q rest rising u h) (step_laid (q ∷ rest) u (AllPairs-tail (λ p q. point_order p q ≡ Less) p (q ∷ rest) rising)))
    where
      by : (next_step p q ≡ u) ⊎ IsStep (q ∷ rest) u → (IsStep (q ∷ rest) u → Contains (edges_of (laid_path kind c (q ∷ rest))) u) → Contains (next_step p q ∷ edges_of (laid_path kind c (q ∷ rest))) u
      by (inl e) later = subst (Contains (next_step p q ∷ edges_of (laid_path kind c (q ∷ rest)))) e (head_edge (next_step p q) (edges_of (laid_path kind c (q ∷ rest))))
      by (inr k) later = later_edge (next_step p q) (edges_of (laid_path kind c (q ∷ rest))) u (later k)

-- ---- a path through further marks

module _ (f : Edge → List Point) where
  -- the points behind p, and in each step the marks along it
  abbrev pub after : Point → List Point → List Point
  after p [] = []
  after p (q ∷ rest) = along (next_step p q) (f (next_step p q)) ++ (q ∷ after q rest)

  abbrev pub AreInsideSteps : List Point → Type 0
  AreInsideSteps ps = (u : Edge) → IsStep ps u → All (λ m. strictly_inside m u ≡ true) (f u)

  -- The points of a path, and what is told of the marks inside its steps.
  module _ {C : Type 0} (kind : Counting C) where
    abbrev cut_again : Entry C → List (Entry C)
    cut_again e = laid_path kind e.count (path e.edge (f e.edge))

    pub laid_again : (c : C) (p : Point) (ps : List Point) → IsRisingPath (p ∷ ps) → flat_map cut_again (laid_path kind c (p ∷ ps)) ≡ laid_path kind c (p ∷ after p ps)
    laid_again c p [] rising = refl
    laid_again c p (q ∷ rest) rising =
        ap (λ o. flat_map cut_again (lay_by kind o p q c ++ laid_path kind c (q ∷ rest))) (first_step p q rest rising).forward
        ∙ ap (λ l. laid_path kind c (path (next_step p q) (f (next_step p q))) ++ l) (laid_again c q rest (AllPairs-tail (λ p q. point_order p q ≡ Less) p (q ∷ rest) rising))
        ∙ sym (path_joined kind c (p ∷ along (next_step p q) (f (next_step p q))) q (after q rest))

  pub after_rises : (p : Point) (ps : List Point) → IsRisingPath (p ∷ ps) → AreInsideSteps (p ∷ ps) → IsRisingPath (p ∷ after p ps)
  after_rises p [] rising inside = rising
  after_rises p (q ∷ rest) rising inside =
      let first = first_step p q rest rising in
      rising_joined (p ∷ along (next_step p q) (f (next_step p q))) q (after q rest)
      (path_rises (next_step p q) (ap is_lt first.forward) (f (next_step p q)) (inside (next_step p q) first))
      (after_rises q rest (AllPairs-tail (λ p q. point_order p q ≡ Less) p (q ∷ rest) rising) (λ u step. inside u (later_step p q rest rising u step)))

  -- a point of it is one of the path, or a mark in a step
  abbrev pub IsPointOrMark : List Point → Point → Type 0
  IsPointOrMark ps x = Contains ps x ⊎ ((u : Edge) × IsStep ps u × Contains (f u) x)

  pub after_tells : (p : Point) (ps : List Point) → IsRisingPath (p ∷ ps) → All (IsPointOrMark (p ∷ ps)) (p ∷ after p ps)
  after_tells p [] rising = All-cons (IsPointOrMark (p ∷ [])) p [] (inl (contains_head p [])) (All-nil (IsPointOrMark (p ∷ [])))
  after_tells p (q ∷ rest) rising =
      All-cons (IsPointOrMark (p ∷ q ∷ rest)) p (after p (q ∷ rest)) (inl (contains_head p (q ∷ rest)))
      (All-append (IsPointOrMark (p ∷ q ∷ rest)) (along (next_step p q) (f (next_step p q))) (q ∷ after q rest)
      (along_all (next_step p q) (IsPointOrMark (p ∷ q ∷ rest)) (f (next_step p q))
      (All-weaker (Contains (f (next_step p q))) (IsPointOrMark (p ∷ q ∷ rest)) (λ x at. inr (next_step p q, first_step p q rest rising, at)) (f (next_step p q)) (All-contains_itself (f (next_step p q)))))
      (All-weaker (IsPointOrMark (q ∷ rest)) (IsPointOrMark (p ∷ q ∷ rest)) later (q ∷ after q rest) (after_tells q rest (AllPairs-tail (λ p q. point_order p q ≡ Less) p (q ∷ rest) rising))))
    where
      later : (x : Point) → IsPointOrMark (q ∷ rest) x → IsPointOrMark (p ∷ q ∷ rest) x
      later x (inl at) = inl (contains_tail p (q ∷ rest) x at)
      later x (inr h) = inr (h.0, later_step p q rest rising h.0 h.1, h.2)

  pub after_points : (p : Point) (ps : List Point) → All (Contains (p ∷ after p ps)) (p ∷ ps)
  after_points p [] = All-contains_itself (p ∷ [])
  after_points p (q ∷ rest) =
      All-cons (Contains (p ∷ after p (q ∷ rest))) p (q ∷ rest) (contains_head p (after p (q ∷ rest)))
      (All-weaker (Contains (q ∷ after q rest)) (Contains (p ∷ after p (q ∷ rest)))
      (λ x at. contains_tail p (after p (q ∷ rest)) x (Contains-append_right (along (next_step p q) (f (next_step p q))) (q ∷ after q rest) x at)) (q ∷ rest) (after_points q rest))

  pub after_marks : (p : Point) (ps : List Point) (u : Edge) (x : Point) → IsRisingPath (p ∷ ps) → IsStep (p ∷ ps) u → Contains (f u) x → Contains (p ∷ after p ps) x
  after_marks p [] u x rising step at = absurd (alone p u step)
  after_marks p (q ∷ rest) u x rising step at = by (step_cases p q rest rising u step) (λ k. after_marks q rest u x (AllPairs-tail (λ p q. point_order p q ≡ Less) p (q ∷ rest) rising) k at)
    where
      by : (next_step p q ≡ u) ⊎ IsStep (q ∷ rest) u → (IsStep (q ∷ rest) u → Contains (q ∷ after q rest) x) → Contains (p ∷ after p (q ∷ rest)) x
      by (inl e) later =
          contains_tail p (after p (q ∷ rest)) x
          (Contains-append_left (along (next_step p q) (f (next_step p q))) (q ∷ after q rest) x
          (All-contains (Contains (along (next_step p q) (f (next_step p q)))) (f (next_step p q)) x (along_holds (next_step p q) (f (next_step p q))) (subst (λ v. Contains (f v) x) (sym e) at)))
      by (inr k) later = contains_tail p (after p (q ∷ rest)) x (Contains-append_right (along (next_step p q) (f (next_step p q))) (q ∷ after q rest) x (later k))

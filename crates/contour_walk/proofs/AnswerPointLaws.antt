-- The points of an answer are ends of links, and no more than there are links, whatever the options.
use Rattle.std.proofs.Common.{◌≡◌, ◌≤◌, ◌+◌, ℕ, not, filter, sum_by, ap, ◌++◌, Bool, true, false, cond, List, [], ◌∷◌, map, flat_map, length, All, Contains, inl, inr, IsPermutation, pos, refl, sym, ◌∙◌, subst, arith}
use Rattle.std.specs.Ordering.{int_eq}
use Rattle.std.proofs.lemmas.List.{length-map, length-append, map-append}
use Rattle.std.proofs.lemmas.List.Sums.{sum_by-append, sum_by-cons}
use Rattle.std.proofs.lemmas.List.Filters.{sum_by-filter_both}
use Rattle.std.proofs.lemmas.List.Concat.{length-flat_map}
use Rattle.std.proofs.lemmas.List.Elements.{All-nil, All-cons, All-head, All-tail, All-map, All-filter, All-weaker, All-contains_itself}
use Rattle.std.proofs.lemmas.List.Folds.{flat_map-map}
use Rattle.std.proofs.lemmas.List.Sorted.{All-permutation, length_permutation, sum_by-IsPermutation}
use Rattle.plane_base.specs.Plane.{Point, Edge, turn, is_before}
use Rattle.plane_base.specs.Counts.{Count, Entry}
use Rattle.plane_base.specs.Regions.{FillRule, OverlayRule}
use Rattle.plane_base.proofs.Facts.Lists.Cycles.{All-front, All-back}
use Rattle.segment_arrangement.specs.EdgeSides.{is_boundary, boundary}
use Rattle.segment_arrangement.specs.SideLaws.{IsArrangement}
use Rattle.contour_walk.specs.Walks.{Border, Contour, between, path_edges, contour_edges}
use Rattle.contour_walk.specs.Shapes.{corners_after, last_of, finished, shapes_from}
use Rattle.contour_walk.specs.Parted.{contours_for}
use Rattle.contour_walk.specs.Least.{reaches, outline_reaches, shape_reaching, holes_reaching, holes_left, behind_first, reaching}
use Rattle.contour_walk.specs.Answering.{Answering, answer_with}
use Rattle.contour_walk.specs.BinderOwners.{RunAlong}
use Rattle.contour_walk.specs.WalkLaws.{border_of, borders}
use Rattle.contour_walk.specs.BindingLaws.{all_contours}
use Rattle.contour_walk.specs.AnswerLaws.{IsEndIn, AnswersStandOnEnds, all_points, AnswersAreShort}
use Rattle.contour_walk.proofs.Binder.Laws.{runs_bind}
use Rattle.contour_walk.proofs.Binding.Answers.{same_contours}
use Rattle.contour_walk.proofs.Parting.Laws.{contours_run_along}
use Rattle.contour_walk.proofs.Parting.Regions.{all_front}
use Rattle.contour_walk.proofs.Reaching.{kept}

-- ---- points that stand on ends

module _ (Q : Point → Type 0) where
  abbrev BothEnds : Edge → Type 0
  BothEnds s = Q s.a × Q s.b

  first_end : (u v : Point) → BothEnds (between u v) → Q u
  first_end u v h = by (is_before v u) h
    where
      by : (b : Bool) → BothEnds (cond b (record { a = v; b = u }) (record { a = u; b = v })) → Q u
      by true h = h.1
      by false h = h.0

  path_stands : (first p : Point) (rest : List Point) → All BothEnds (path_edges first (p ∷ rest)) → All Q (p ∷ rest)
  path_stands first p [] h = All-cons Q p [] (first_end p first (All-head BothEnds (between p first) [] h)) (All-nil Q)
  path_stands first p (r ∷ rest) h =
      All-cons Q p (r ∷ rest) (first_end p r (All-head BothEnds (between p r) (path_edges first (r ∷ rest)) h))
      (path_stands first r rest (All-tail BothEnds (between p r) (path_edges first (r ∷ rest)) h))

  contour_stands : (points : List Point) → All BothEnds (contour_edges points) → All Q points
  contour_stands [] h = All-nil Q
  contour_stands (p ∷ rest) h = path_stands p p rest h

  pub corners_stand : (b f : Point) (ps : List Point) → All Q ps → All Q (corners_after b f ps)
  corners_stand b f [] h = h
  corners_stand b f (p ∷ []) h = by (int_eq (turn b p f) (pos 0))
    where
      by : (z : Bool) → All Q (cond z [] (p ∷ []))
      by true = All-nil Q
      by false = h
  corners_stand b f (p ∷ r ∷ ps) h = by (int_eq (turn b p r) (pos 0)) (corners_stand p f (r ∷ ps) (All-tail Q p (r ∷ ps) h))
    where
      by : (z : Bool) → All Q (corners_after p f (r ∷ ps)) → All Q (cond z (corners_after p f (r ∷ ps)) (p ∷ corners_after p f (r ∷ ps)))
      by true rest = rest
      by false rest = All-cons Q p (corners_after p f (r ∷ ps)) (All-head Q p (r ∷ ps) h) rest

  finished_stands : (keep_all : Bool) (points : List Point) → All Q points → All Q (finished keep_all points)
  finished_stands true points h = h
  finished_stands false [] h = h
  finished_stands false (p ∷ rest) h = corners_stand (last_of p rest) p (p ∷ rest) h

  all_stand : (keep_all : Bool) (contours : List (List Point)) → All BothEnds (flat_map contour_edges contours) → All (All Q) (map (finished keep_all) contours)
  all_stand keep_all [] h = All-nil (All Q)
  all_stand keep_all (c ∷ cs) h =
      All-cons (All Q) (finished keep_all c) (map (finished keep_all) cs)
      (finished_stands keep_all c (contour_stands c (All-front BothEnds (contour_edges c) (flat_map contour_edges cs) h)))
      (all_stand keep_all cs (All-back BothEnds (contour_edges c) (flat_map contour_edges cs) h))

-- ---- as many points as edges

path_length : (first p : Point) (rest : List Point) → length (path_edges first (p ∷ rest)) ≡ length (p ∷ rest)
path_length first p [] = refl
path_length first p (r ∷ rest) = let more = path_length first r rest in omega (arith, more)

contour_length : (points : List Point) → length (contour_edges points) ≡ length points
contour_length [] = refl
contour_length (p ∷ rest) = path_length p p rest

edges_and_points : (contours : List (List Point)) → length (flat_map contour_edges contours) ≡ length (all_points contours)
edges_and_points [] = refl
edges_and_points (c ∷ cs) =
    omega (arith, length-append (contour_edges c) (flat_map contour_edges cs), length-append c (all_points cs), contour_length c, edges_and_points cs)

corners_fewer : (b f : Point) (ps : List Point) → length (corners_after b f ps) ≤ length ps
corners_fewer b f [] = omega arith
corners_fewer b f (p ∷ []) = by (int_eq (turn b p f) (pos 0))
  where
    by : (z : Bool) → length (cond z [] (p ∷ [])) ≤ 1
    by true = omega arith
    by false = omega arith
corners_fewer b f (p ∷ r ∷ ps) = by (int_eq (turn b p r) (pos 0)) (corners_fewer p f (r ∷ ps))
  where
    by : (z : Bool) → length (corners_after p f (r ∷ ps)) ≤ length (r ∷ ps) → length (cond z (corners_after p f (r ∷ ps)) (p ∷ corners_after p f (r ∷ ps))) ≤ length (p ∷ r ∷ ps)
    by true l = omega (arith, l)
    by false l = omega (arith, l)

finished_fewer : (keep_all : Bool) (points : List Point) → length (finished keep_all points) ≤ length points
finished_fewer true points = omega arith
finished_fewer false [] = omega arith
finished_fewer false (p ∷ rest) = corners_fewer (last_of p rest) p (p ∷ rest)

all_fewer : (keep_all : Bool) (contours : List (List Point)) → length (all_points (map (finished keep_all) contours)) ≤ length (all_points contours)
all_fewer keep_all [] = omega arith
all_fewer keep_all (c ∷ cs) =
    omega (arith, length-append (finished keep_all c) (all_points (map (finished keep_all) cs)), length-append c (all_points cs), finished_fewer keep_all c, all_fewer keep_all cs)

as_many : (contours others : List (List Point)) → IsPermutation contours others → length (all_points others) ≡ length (all_points contours)
as_many contours others h =
    length-flat_map (λ (c : List Point). c) others
    ∙ (sum_by-IsPermutation (λ (c : List Point). length c) contours others h
    ∙ sym (length-flat_map (λ (c : List Point). c) contours))

-- ---- what a least area leaves

abbrev dropped : ℕ → List Point → Bool
dropped least points = not (reaches least points)

module _ (g : List Point → ℕ) (least : ℕ) where
  some_reach : (contours : List (List Point)) → sum_by g (filter (reaches least) contours) ≤ sum_by g contours
  some_reach contours = let both = sum_by-filter_both (reaches least) (dropped least) (λ c. refl) g contours in omega (arith, both)

  parts_weigh : (shapes : List (List (List Point))) → sum_by g (all_contours (kept least shapes)) + sum_by g (holes_left least shapes) ≤ sum_by g (all_contours shapes)
  parts_weigh [] = omega arith
  parts_weigh ([] ∷ ss) = parts_weigh ss
  parts_weigh ((outline ∷ holes) ∷ ss) = by (reaches least outline) (parts_weigh ss)
    where
      own : List (List Point)
      own = filter (reaches least) holes

      given : List (List Point)
      given = all_contours ss

      in_kept : List (List Point)
      in_kept = all_contours (kept least ss)

      in_left : List (List Point)
      in_left = holes_left least ss

      by : (b : Bool) → sum_by g in_kept + sum_by g in_left ≤ sum_by g given
          → sum_by g (all_contours (map (shape_reaching least) (cond b ((outline ∷ holes) ∷ filter (outline_reaches least) ss) (filter (outline_reaches least) ss))))
          + sum_by g (flat_map (holes_reaching least) (cond (not b) ((outline ∷ holes) ∷ filter (λ t. not (outline_reaches least t)) ss) (filter (λ t. not (outline_reaches least t)) ss)))
          ≤ sum_by g (outline ∷ (holes ++ given))
      by true rest =
          let less : sum_by g (outline ∷ (own ++ in_kept)) + sum_by g in_left ≤ sum_by g (outline ∷ (holes ++ given)) =
          omega (arith, rest, some_reach holes, sum_by-append g own in_kept, sum_by-append g holes given, sum_by-cons g outline (own ++ in_kept), sum_by-cons g outline (holes ++ given)) in
          less
      by false rest =
          let less : sum_by g in_kept + sum_by g (own ++ in_left) ≤ sum_by g (outline ∷ (holes ++ given)) =
          omega (arith, rest, some_reach holes, sum_by-append g own in_left, sum_by-append g holes given, sum_by-cons g outline (holes ++ given)) in
          less

  behind_weighs : (holes : List (List Point)) (shapes : List (List (List Point))) → sum_by g (all_contours (behind_first holes shapes)) ≤ sum_by g (all_contours shapes) + sum_by g holes
  behind_weighs holes [] = omega arith
  behind_weighs holes (s ∷ ss) =
      omega (arith, sum_by-append g (s ++ holes) (all_contours ss), sum_by-append g s holes, sum_by-append g s (all_contours ss))

  reaching_weighs : (shapes : List (List (List Point))) → sum_by g (all_contours (reaching least shapes)) ≤ sum_by g (all_contours shapes)
  reaching_weighs shapes = omega (arith, parts_weigh shapes, behind_weighs (holes_left least shapes) (kept least shapes))

module _ (P : List Point → Type 0) (least : ℕ) where
  kept_hold : (shapes : List (List (List Point))) → All P (all_contours shapes) → All P (all_contours (kept least shapes)) × All P (holes_left least shapes)
  kept_hold [] h = (All-nil P, All-nil P)
  kept_hold ([] ∷ ss) h = kept_hold ss h
  kept_hold ((outline ∷ holes) ∷ ss) h =
      by (reaches least outline) (kept_hold ss (All-back P holes (all_contours ss) (All-tail P outline (holes ++ all_contours ss) h)))
    where
      own : All P (filter (reaches least) holes)
      own = All-filter (reaches least) P holes (All-front P holes (all_contours ss) (All-tail P outline (holes ++ all_contours ss) h))

      by : (b : Bool) → All P (all_contours (kept least ss)) × All P (holes_left least ss)
          → All P (all_contours (map (shape_reaching least) (cond b ((outline ∷ holes) ∷ filter (outline_reaches least) ss) (filter (outline_reaches least) ss))))
          × All P (flat_map (holes_reaching least) (cond (not b) ((outline ∷ holes) ∷ filter (λ t. not (outline_reaches least t)) ss) (filter (λ t. not (outline_reaches least t)) ss)))
      by true rest = (
        All-cons P outline (filter (reaches least) holes ++ all_contours (kept least ss)) (All-head P outline (holes ++ all_contours ss) h)
            (all_front P (filter (reaches least) holes) (all_contours (kept least ss)) own rest.0),
        rest.1,
      )
      by false rest = (rest.0, all_front P (filter (reaches least) holes) (holes_left least ss) own rest.1)

  behind_hold : (holes : List (List Point)) (shapes : List (List (List Point))) → All P holes → All P (all_contours shapes) → All P (all_contours (behind_first holes shapes))
  behind_hold holes [] h k = All-nil P
  behind_hold holes (s ∷ ss) h k =
      all_front P (s ++ holes) (all_contours ss) (all_front P s holes (All-front P s (all_contours ss) k) h) (All-back P s (all_contours ss) k)

  reaching_holds : (shapes : List (List (List Point))) → All P (all_contours shapes) → All P (all_contours (reaching least shapes))
  reaching_holds shapes h = let parts = kept_hold shapes h in behind_hold (holes_left least shapes) (kept least shapes) parts.1 parts.0

-- what is done with each contour is done with those of all shapes
each_done : (f : List Point → List Point) (shapes : List (List (List Point))) → all_contours (map (map f) shapes) ≡ map f (all_contours shapes)
each_done f [] = refl
each_done f (s ∷ ss) = ap (λ cs. map f s ++ cs) (each_done f ss) ∙ sym (map-append f s (all_contours ss))

as_many_points : (f : List Point → List Point) (contours : List (List Point)) → length (all_points (map f contours)) ≡ sum_by (λ c. length (f c)) contours
as_many_points f [] = refl
as_many_points f (c ∷ cs) =
    length-append (f c) (all_points (map f cs))
    ∙ (ap (λ n. length (f c) + n) (as_many_points f cs) ∙ sym (sum_by-cons (λ d. length (f d)) c cs))

of_each : (P : List Point → Type 0) (f : List Point → List Point) (contours : List (List Point)) → All P (map f contours) → All (λ c. P (f c)) contours
of_each P f [] h = All-nil (λ (c : List Point). P (f c))
of_each P f (c ∷ cs) h = All-cons (λ (c : List Point). P (f c)) c cs (All-head P (f c) (map f cs) h) (of_each P f cs (All-tail P (f c) (map f cs) h))

-- ---- answers

module _ (o : Answering) (fill : FillRule) (rule : OverlayRule) (es : List (Entry Count)) (arranged : IsArrangement es) where
  abbrev links : List Border
  links = borders fill rule es

  abbrev cs : List Contour
  cs = contours_for o.parted o.clockwise links

  abbrev contours : List (List Point)
  contours = map (λ (c : Contour). c.points) cs

  abbrev whole : List (List (List Point))
  whole = shapes_from links cs 0 cs

  abbrev finish : List Point → List Point
  finish = finished o.keep_all

  run : RunAlong o.clockwise links cs
  run = contours_run_along o.parted o.clockwise links (fill, rule, es, arranged, refl)

  moved : IsPermutation (map finish contours) (map finish (all_contours whole))
  moved =
      subst (IsPermutation (map finish contours)) (each_done finish whole)
      (same_contours links cs o.keep_all (runs_bind o.clockwise links cs run).owned)

  edges_once : IsPermutation (map (λ (l : Border). l.edge) links) (flat_map contour_edges contours)
  edges_once = subst (IsPermutation (map (λ (l : Border). l.edge) links)) (sym (flat_map-map contour_edges (λ (c : Contour). c.points) cs)) (run.once).once

  links_end : All (λ l. IsEndIn es l.edge.a × IsEndIn es l.edge.b) links
  links_end =
      All-map (λ (l : Border). IsEndIn es l.edge.a × IsEndIn es l.edge.b) (border_of fill rule es) (boundary fill rule es)
      (All-filter (is_boundary fill rule es) (λ (e : Entry Count). IsEndIn es e.edge.a × IsEndIn es e.edge.b) es
      (All-weaker (Contains es) (λ (e : Entry Count). IsEndIn es e.edge.a × IsEndIn es e.edge.b) (λ e here. ((e, here, inl refl), (e, here, inr refl))) es (All-contains_itself es)))

  stand : All (All (IsEndIn es)) (all_contours (answer_with o links))
  stand =
      subst (All (All (IsEndIn es))) (sym (each_done finish (reaching o.least whole)))
      (All-map (All (IsEndIn es)) finish (all_contours (reaching o.least whole))
      (reaching_holds (λ c. All (IsEndIn es) (finish c)) o.least whole
      (of_each (All (IsEndIn es)) finish (all_contours whole)
      (All-permutation (All (IsEndIn es)) (map finish contours) (map finish (all_contours whole)) moved
      (all_stand (IsEndIn es) o.keep_all contours
      (All-permutation (BothEnds (IsEndIn es)) (map (λ (l : Border). l.edge) links) (flat_map contour_edges contours) edges_once
      (All-map (BothEnds (IsEndIn es)) (λ (l : Border). l.edge) links links_end)))))))

  short : length (all_points (all_contours (answer_with o links))) ≤ length links
  short =
      omega (
        arith,
        ap (λ ps. length (all_points ps)) (each_done finish (reaching o.least whole)),
        as_many_points finish (all_contours (reaching o.least whole)),
        reaching_weighs (λ c. length (finish c)) o.least whole,
        as_many_points finish (all_contours whole),
        as_many (map finish contours) (map finish (all_contours whole)) moved,
        all_fewer o.keep_all contours,
        edges_and_points contours,
        length_permutation (map (λ (l : Border). l.edge) links) (flat_map contour_edges contours) edges_once,
        length-map links (λ (l : Border). l.edge),
      )

pub answers_stand_on_ends : AnswersStandOnEnds
answers_stand_on_ends = stand

pub answers_are_short : AnswersAreShort
answers_are_short = short

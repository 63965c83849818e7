-- No contour of a parted answer comes to a point twice.
use Rattle.std.proofs.Common.{◌≡◌, ℕ, ◌-◌, Bool, true, false, cond, pos, List, [], ◌∷◌, ◌++◌, map, flat_map, length, take, drop, get_or, All, AllPairs, Option, Some, None}
use Rattle.std.proofs.Common.{sym, ◌∙◌, subst, append_assoc, append-nil}
use Rattle.std.specs.Ordering.{int_eq}
use Rattle.std.proofs.lemmas.List.{take-append-drop}
use Rattle.std.proofs.lemmas.List.Elements.{All-nil, All-append, All-map, All-weaker}
use Rattle.std.proofs.lemmas.List.Quantifiers.{all_pairs_push}
use Rattle.std.proofs.lemmas.List.Sorted.{All-permutation}
use Rattle.plane_base.specs.Plane.{Point, turn}
use Rattle.plane_base.proofs.Facts.Maps.Normal.{AllPairs-nil, AllPairs-cons, AllPairs-head, AllPairs-tail}
use Rattle.contour_walk.specs.Walks.{Border, Contour, is_same}
use Rattle.contour_walk.specs.Binding.{least_point}
use Rattle.contour_walk.specs.Shapes.{corners_after, last_of, finished, shapes_from}
use Rattle.contour_walk.specs.Loops.{place_of, loops}
use Rattle.contour_walk.specs.LoopLaws.{Apart}
use Rattle.contour_walk.specs.Least.{reaching}
use Rattle.contour_walk.specs.Parted.{is_hole, begun_at, begun_at_least, least_first, last_first, part_of, region_walks, by_least, parted_walks, contours_for}
use Rattle.contour_walk.specs.AnswerLaws.{PartedAnswersRepeatNoPoint}
use Rattle.contour_walk.proofs.AnswerPointLaws.{corners_stand}
use Rattle.contour_walk.proofs.Binder.OnceBound.{reaching_keeps}
use Rattle.contour_walk.proofs.Cutting.Places.{same_point_back}
use Rattle.contour_walk.proofs.Cutting.Points.{not_same, loops_repeat_no_point}
use Rattle.contour_walk.proofs.Parting.Order.{by_least_moves}
use Rattle.contour_walk.proofs.Reaching.{shapes_keep}

-- ---- begun elsewhere

module _ {X : Type 0} (R : X → X → Type 0) (back : (x y : X) → R x y → R y x) where
  one_behind : (x : X) (xs : List X) → AllPairs R (x ∷ xs) → AllPairs R (xs ++ x ∷ [])
  one_behind x xs h = all_pairs_push R xs x (AllPairs-tail R x xs h) (λ k d inside. back x (get_or xs k d) (AllPairs-head R x xs h k d inside))

  exchanged : (xs ys : List X) → AllPairs R (xs ++ ys) → AllPairs R (ys ++ xs)
  exchanged [] ys h = subst (AllPairs R) (sym (append-nil ys)) h
  exchanged (x ∷ xs) ys h =
      subst (AllPairs R) (append_assoc ys (x ∷ []) xs)
      (exchanged xs (ys ++ x ∷ []) (subst (AllPairs R) (append_assoc xs ys (x ∷ [])) (one_behind x (xs ++ ys) h)))

  -- of all pairs of a list R holds as well where the list begins elsewhere
  begun_pairs : (i : ℕ) (xs : List X) → AllPairs R xs → AllPairs R (drop i xs ++ take i xs)
  begun_pairs i xs h = exchanged (take i xs) (drop i xs) (subst (AllPairs R) (sym (take-append-drop i xs)) h)

apart_back : (p r : Point) → Apart p r → Apart r p
apart_back p r apart = not_same r p (λ same. let z : true ≡ false = sym (same_point_back r p same) ∙ apart in cc)

-- ---- parts

least_apart : (points : List Point) → AllPairs Apart points → AllPairs Apart (least_first points)
least_apart points apart = by (least_point points)
  where
    at : (o : Option ℕ) → AllPairs Apart (elim o [ None ↦ points | Some i ↦ begun_at i points ])
    at None = apart
    at (Some i) = begun_pairs Apart apart_back i points apart

    by : (o : Option Point) → AllPairs Apart (begun_at_least points o)
    by None = apart
    by (Some v) = at (place_of v points)

part_apart : (output : Bool) (links : List Border) (points : List Point) → AllPairs Apart points → AllPairs Apart (part_of output links points).points
part_apart output links points apart = by (is_same (is_hole links points) output)
  where
    least : AllPairs Apart (least_first points)
    least = least_apart points apart

    by : (b : Bool) → AllPairs Apart (cond b (last_first (least_first points)) (least_first points))
    by true = begun_pairs Apart apart_back (length (least_first points) - 1) (least_first points) least
    by false = least

loops_apart : (paths : List (List Point)) → All (AllPairs Apart) (flat_map loops paths)
loops_apart [] = All-nil (AllPairs Apart)
loops_apart (path ∷ paths) = All-append (AllPairs Apart) (loops path) (flat_map loops paths) (loops_repeat_no_point path) (loops_apart paths)

abbrev RepeatsNoPoint : Contour → Type 0
RepeatsNoPoint c = AllPairs Apart c.points

parted_apart : (output : Bool) (links : List Border) → All RepeatsNoPoint (parted_walks output links)
parted_apart output links =
    let all = flat_map loops (region_walks output links) in
    let parts : List Contour = map (part_of output links) all in
    All-permutation RepeatsNoPoint parts (by_least parts) (by_least_moves parts)
    (All-map RepeatsNoPoint (part_of output links) all
    (All-weaker (AllPairs Apart) (λ (l : List Point). AllPairs Apart (part_of output links l).points) (part_apart output links) all (loops_apart (region_walks output links))))

-- ---- corners

corners_apart : (b f : Point) (ps : List Point) → AllPairs Apart ps → AllPairs Apart (corners_after b f ps)
corners_apart b f [] h = h
corners_apart b f (p ∷ []) h = by (int_eq (turn b p f) (pos 0))
  where
    by : (z : Bool) → AllPairs Apart (cond z [] (p ∷ []))
    by true = AllPairs-nil Apart
    by false = h
corners_apart b f (p ∷ r ∷ ps) h = by (int_eq (turn b p r) (pos 0)) (corners_apart p f (r ∷ ps) (AllPairs-tail Apart p (r ∷ ps) h))
  where
    rest : List Point
    rest = corners_after p f (r ∷ ps)

    by : (z : Bool) → AllPairs Apart rest → AllPairs Apart (cond z rest (p ∷ rest))
    by true k = k
    by false k = AllPairs-cons Apart p rest (corners_stand (Apart p) p f (r ∷ ps) (AllPairs-head Apart p (r ∷ ps) h)) k

finished_apart : (keep_all : Bool) (points : List Point) → AllPairs Apart points → AllPairs Apart (finished keep_all points)
finished_apart true points h = h
finished_apart false [] h = h
finished_apart false (p ∷ rest) h = corners_apart (last_of p rest) p (p ∷ rest) h

-- ---- answers

pub parted_answers_repeat_no_point : PartedAnswersRepeatNoPoint
parted_answers_repeat_no_point o links parted =
    let cs = contours_for o.parted o.clockwise links in
    let whole = shapes_from links cs 0 cs in
    let apart : All RepeatsNoPoint cs = subst (λ b. All RepeatsNoPoint (contours_for b o.clockwise links)) (sym parted) (parted_apart o.clockwise links) in
    All-map (All (AllPairs Apart)) (map (finished o.keep_all)) (reaching o.least whole)
    (All-weaker (All (AllPairs Apart)) (λ (s : List (List Point)). All (AllPairs Apart) (map (finished o.keep_all) s))
    (λ s h. All-map (AllPairs Apart) (finished o.keep_all) s
    (All-weaker (AllPairs Apart) (λ (c : List Point). AllPairs Apart (finished o.keep_all c)) (finished_apart o.keep_all) s h))
    (reaching o.least whole) (reaching_keeps (AllPairs Apart) o.least whole (shapes_keep (AllPairs Apart) links cs 0 cs apart apart)))

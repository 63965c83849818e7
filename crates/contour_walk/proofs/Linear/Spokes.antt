-- Links at a point, by their places.
use Rattle.std.proofs.Common.{◌≡◌, ℕ, zero, suc, ◌+◌, ◌<◌, Bool, true, false, not, cond, ◌&&◌, ◌||◌, List, [], ◌∷◌, ◌++◌, length, get_or, map, filter, flat_map, Option, Some, None, ◌⊎◌, inl, inr, refl, sym, ap, ap₂, ◌∙◌, subst, append-nil, arith}
use Rattle.std.specs.declared.cmp.Ordering.TheVariants.{Less, Equal, Greater}
use Rattle.std.proofs.lemmas.Bool.{false≢true}
use Rattle.std.proofs.lemmas.List.{map-append}
use Rattle.plane_base.specs.Plane.{Point, Edge, edge_order, is_before, point_order}
use Rattle.plane_base.proofs.Facts.Points.Orders.{less_then, point_equal, point_total, before_is_less, less_apart, greater_from_less}
use Rattle.segment_arrangement.specs.Graphs.{places_from}
use Rattle.segment_arrangement.specs.declared.graph.VisitState.{VisitState}
use Rattle.segment_arrangement.specs.declared.graph.VisitState.TheVariants.{Skipped}
use Rattle.contour_walk.specs.Turning.{first_by_turn, met_first, is_met_before}
use Rattle.contour_walk.specs.Walks.{Border, same_point, touches, far_end, next_point}
use Rattle.contour_walk.specs.Nearest.{Numbered, nearer, nearest}
use Rattle.contour_walk.specs.LinearWalks.{is_left, left_of, near_end, other_end, spoke_of, spokes_from, spokes, spoke_at}
use Rattle.contour_walk.proofs.Linear.Left.{each_at}
use Rattle.std.proofs.lemmas.Grind.{flat_map-append}
use Rattle.contour_walk.proofs.Facts.Walks.Turns.{Has}
use Rattle.contour_walk.proofs.Facts.Walks.Rings.{Each, Pairs}
use Rattle.contour_walk.proofs.Walks.Links.{same_point_is, Directed, AreLinks}
use Rattle.contour_walk.proofs.Groups.Links.{same_some}

abbrev pub edges_of_links : List Border → List Edge
edges_of_links ls = map (λ l. l.edge) ls

abbrev pub points_seen : List Numbered → List Point
points_seen ns = map (λ n. n.point) ns

apart_ends : (l : Border) → Directed l → (v : Point) → same_point l.edge.a v ≡ true → same_point l.edge.b v ≡ false
apart_ends l d v e = by (same_point l.edge.b v) refl
  where
    by : (b : Bool) → same_point l.edge.b v ≡ b → b ≡ false
    by true f = absurd (less_apart point_total l.edge.a l.edge.b (before_is_less l.edge.a l.edge.b d) (same_point_is l.edge.a v e ∙ sym (same_point_is l.edge.b v f)))
    by false f = refl

-- no later link ends where one starts
not_later : (l m : Border) → edge_order l.edge m.edge ≡ Less → Directed m → (v : Point) → l.edge.a ≡ v → same_point m.edge.b v ≡ false
not_later l m rise d v e = by (same_point m.edge.b v) refl
  where
    before : point_order m.edge.a m.edge.b ≡ Less
    before = before_is_less m.edge.a m.edge.b d

    clash : m.edge.b ≡ l.edge.a → (point_order l.edge.a m.edge.a ≡ Less) ⊎ ((point_order l.edge.a m.edge.a ≡ Equal) × (point_order l.edge.b m.edge.b ≡ Less)) → ⊥
    clash same (inl less) =
        let greater : point_order l.edge.a m.edge.a ≡ Greater = greater_from_less point_total m.edge.a l.edge.a (ap (point_order m.edge.a) (sym same) ∙ before) in
        absurd (cc)
    clash same (inr k) = less_apart point_total m.edge.a m.edge.b before (sym (point_equal l.edge.a m.edge.a k.0) ∙ sym same)

    by : (b : Bool) → same_point m.edge.b v ≡ b → b ≡ false
    by true f = absurd (clash (same_point_is m.edge.b v f ∙ sym e) (less_then (point_order l.edge.a m.edge.a) (point_order l.edge.b m.edge.b) rise))
    by false f = refl

no_ends : (n : ℕ) (v : Point) (ls : List Border) (ss : List VisitState) → Each (λ m. same_point m.edge.b v ≡ false) ls → spokes_from n false v (edges_of_links ls) ss ≡ []
no_ends n v [] ss h = refl
no_ends n v (l ∷ ls) [] h = refl
no_ends n v (l ∷ ls) (s ∷ ss) h =
    ap (λ b. cond (is_left s && b) (record { point = l.edge.a; id = n } ∷ []) [] ++ spokes_from (n + 1) false v (edges_of_links ls) ss) h.0
    ∙ (ap (λ b. cond b (record { point = l.edge.a; id = n } ∷ []) [] ++ spokes_from (n + 1) false v (edges_of_links ls) ss) (never (is_left s)) ∙ no_ends (n + 1) v ls ss h.1)
  where
    never : (b : Bool) → b && false ≡ false
    never true = refl
    never false = refl

abbrev fars : Point → List Border → List Point
fars v ls = map (λ l. far_end v l.edge) (filter (λ l. touches v l.edge) ls)

abbrev ends : ℕ → Point → List Border → List VisitState → List Point
ends n v ls ss = points_seen (spokes_from n false v (edges_of_links ls) ss)

abbrev starts : ℕ → Point → List Border → List VisitState → List Point
starts n v ls ss = points_seen (spokes_from n true v (edges_of_links ls) ss)

none_ends : (l : Border) (v : Point) → l.edge.a ≡ v → (ms : List Border) → Each Directed ms → Each (λ m. edge_order l.edge m.edge ≡ Less) ms → Each (λ m. same_point m.edge.b v ≡ false) ms
none_ends l v e [] h k = tt
none_ends l v e (m ∷ ms) h k = (not_later l m k.0 h.0 v e, none_ends l v e ms h.1 k.1)

-- one link more
module _ (n : ℕ) (v : Point) (l : Border) (left : List Border) (more_ends more_starts : List Numbered) where
  with_link : (b t : Bool) → touches v l.edge ≡ t → fars v (cond b (l ∷ left) left) ≡ cond b (cond t (far_end v l.edge ∷ fars v left) (fars v left)) (fars v left)
  with_link false t e = refl
  with_link true t e = ap (λ t. map (λ l. far_end v l.edge) (cond t (l ∷ filter (λ l. touches v l.edge) left) (filter (λ l. touches v l.edge) left))) e ∙ split t
    where
      split : (t : Bool) → map (λ l. far_end v l.edge) (cond t (l ∷ filter (λ l. touches v l.edge) left) (filter (λ l. touches v l.edge) left)) ≡ cond t (far_end v l.edge ∷ fars v left) (fars v left)
      split true = refl
      split false = refl

  with_spoke : (b p q : Bool) → (p ≡ true → q ≡ false) → (p ≡ true → more_ends ≡ []) → fars v left ≡ points_seen more_ends ++ points_seen more_starts
      → cond b (cond (p || q) (cond p l.edge.b l.edge.a ∷ fars v left) (fars v left)) (fars v left)
      ≡ points_seen (cond (b && q) (record { point = l.edge.a; id = n } ∷ []) [] ++ more_ends) ++ points_seen (cond (b && p) (record { point = l.edge.b; id = n } ∷ []) [] ++ more_starts)
  with_spoke false p q f none k = k
  with_spoke true true true f none k = absurd (false≢true (sym (f refl)))
  with_spoke true true false f none k =
      ap (λ x. l.edge.b ∷ x) (k ∙ ap (λ z. points_seen z ++ points_seen more_starts) (none refl))
      ∙ sym (ap (λ z. points_seen z ++ l.edge.b ∷ points_seen more_starts) (none refl))
  with_spoke true false true f none k = ap (λ x. l.edge.a ∷ x) k
  with_spoke true false false f none k = k

-- The links at a point in order: those that end there, then those that start there.
pub fars_are : (n : ℕ) (v : Point) (ls : List Border) (ss : List VisitState) → Each Directed ls → Pairs (λ l m. edge_order l.edge m.edge ≡ Less) ls → fars v (left_of ls ss) ≡ ends n v ls ss ++ starts n v ls ss
fars_are n v [] ss d r = refl
fars_are n v (l ∷ ls) [] d r = refl
fars_are n v (l ∷ ls) (s ∷ ss) d r =
    let more_ends = spokes_from (n + 1) false v (edges_of_links ls) ss in
    let more_starts = spokes_from (n + 1) true v (edges_of_links ls) ss in
    with_link n v l (left_of ls ss) more_ends more_starts (is_left s) (touches v l.edge) refl
    ∙ with_spoke n v l (left_of ls ss) more_ends more_starts (is_left s) (same_point l.edge.a v) (same_point l.edge.b v) (apart_ends l d.0 v)
    (λ e. no_ends (n + 1) v ls ss (none_ends l v (same_point_is l.edge.a v e) ls d.1 r.0)) (fars_are (n + 1) v ls ss d.1 r.1)

-- ---- the one that is met first

abbrev pub point_seen : Option Numbered → Option Point
point_seen None = None
point_seen (Some n) = Some n.point

pub first_is_nearest : (c : Bool) (v from : Point) (ns : List Numbered) → first_by_turn c v from (points_seen ns) ≡ point_seen (nearest c v from ns)
first_is_nearest c v from [] = refl
first_is_nearest c v from (n ∷ ns) = ap (λ o. Some (met_first c v from n.point o)) (first_is_nearest c v from ns) ∙ ap Some (by (nearest c v from ns))
  where
    by : (o : Option Numbered) → met_first c v from n.point (point_seen o) ≡ (nearer c v from n o).point
    by None = refl
    by (Some m) = either (is_met_before c v from m.point n.point)
      where
        either : (b : Bool) → cond b m.point n.point ≡ (cond b m n).point
        either true = refl
        either false = refl

pub nearest_has : (c : Bool) (v from : Point) (ns : List Numbered) (m : Numbered) → nearest c v from ns ≡ Some m → Has ns m
nearest_has c v from [] m e = absurd (cc)
nearest_has c v from (n ∷ ns) m e = by (nearest c v from ns) refl (nearest_has c v from ns m) (same_some e)
  where
    by : (o : Option Numbered) → nearest c v from ns ≡ o → (nearest c v from ns ≡ Some m → Has ns m) → nearer c v from n o ≡ m → Has (n ∷ ns) m
    by None f behind g = inl g
    by (Some k) f behind g = either (is_met_before c v from k.point n.point) g
      where
        either : (b : Bool) → cond b k n ≡ m → Has (n ∷ ns) m
        either true h = inr (behind (f ∙ ap Some h))
        either false h = inl h

-- Where a walk goes on, by the links at the point that are left.
pub next_is_nearest : (c : Bool) (v from : Point) (ls : List Border) (ss : List VisitState) → AreLinks ls → next_point c (left_of ls ss) v from ≡ point_seen (nearest c v from (spokes v (edges_of_links ls) ss))
next_is_nearest c v from ls ss are =
    ap (first_by_turn c v from) (fars_are 0 v ls ss are.directed are.rising ∙ sym (map-append (λ (n : Numbered). n.point) (spokes_from 0 false v (edges_of_links ls) ss) (spokes_from 0 true v (edges_of_links ls) ss)))
    ∙ first_is_nearest c v from (spokes v (edges_of_links ls) ss)

-- ---- the places of a node

never_and : (b : Bool) → b && false ≡ false
never_and true = refl
never_and false = refl

-- the links at the places of those that are met by one end
pub of_places : (F : ℕ → List Numbered) (t : Bool) (v : Point) (n : ℕ) (es : List Edge) (ss : List VisitState) → length ss ≡ length es
    → ((i : ℕ) (d : Edge) → i < length es → F (n + i) ≡ spoke_of (n + i) t v (get_or es i d) (get_or ss i Skipped))
    → flat_map F (places_from n (λ s. same_point (near_end t s) v) es) ≡ spokes_from n t v es ss
of_places F t v n [] ss beside h = refl
of_places F t v n (e ∷ es) [] beside h = absurd (omega arith)
of_places F t v n (e ∷ es) (s ∷ ss) beside h = by (same_point (near_end t e) v) refl (of_places F t v (n + 1) es ss (omega arith) next)
  where
    next : (i : ℕ) (d : Edge) → i < length es → F (n + 1 + i) ≡ spoke_of (n + 1 + i) t v (get_or es i d) (get_or ss i Skipped)
    next i d l =
        let same : n + suc i ≡ n + 1 + i = omega arith in
        subst (λ k. F k ≡ spoke_of k t v (get_or es i d) (get_or ss i Skipped)) same (h (suc i) d (omega arith))

    here : F n ≡ spoke_of n t v e s
    here =
        let same : n + 0 ≡ n = omega arith in
        subst (λ k. F k ≡ spoke_of k t v e s) same (h zero e (omega arith))

    by : (b : Bool) → same_point (near_end t e) v ≡ b → flat_map F (places_from (n + 1) (λ s. same_point (near_end t s) v) es) ≡ spokes_from (n + 1) t v es ss
        → flat_map F (cond b (n ∷ places_from (n + 1) (λ s. same_point (near_end t s) v) es) (places_from (n + 1) (λ s. same_point (near_end t s) v) es)) ≡ spoke_of n t v e s ++ spokes_from (n + 1) t v es ss
    by true f k = ap (λ x. x ++ flat_map F (places_from (n + 1) (λ s. same_point (near_end t s) v) es)) here ∙ ap (λ y. spoke_of n t v e s ++ y) k
    by false f k =
        k
        ∙ sym
        (ap (λ b. cond (is_left s && b) (record { point = other_end t e; id = n } ∷ []) [] ++ spokes_from (n + 1) t v es ss) f
        ∙ ap (λ b. cond b (record { point = other_end t e; id = n } ∷ []) [] ++ spokes_from (n + 1) t v es ss) (never_and (is_left s)))

-- none at places of others
pub no_places : (F : ℕ → List Numbered) (q : Edge → Bool) (n : ℕ) (es : List Edge) → ((i : ℕ) (d : Edge) → i < length es → q (get_or es i d) ≡ true → F (n + i) ≡ []) → flat_map F (places_from n q es) ≡ []
no_places F q n [] h = refl
no_places F q n (e ∷ es) h = by (q e) refl (no_places F q (n + 1) es next)
  where
    next : (i : ℕ) (d : Edge) → i < length es → q (get_or es i d) ≡ true → F (n + 1 + i) ≡ []
    next i d l f =
        let same : n + suc i ≡ n + 1 + i = omega arith in
        subst (λ k. F k ≡ []) same (h (suc i) d (omega arith) f)

    here : q e ≡ true → F n ≡ []
    here f =
        let same : n + 0 ≡ n = omega arith in
        subst (λ k. F k ≡ []) same (h zero e (omega arith) f)

    by : (b : Bool) → q e ≡ b → flat_map F (places_from (n + 1) q es) ≡ [] → flat_map F (cond b (n ∷ places_from (n + 1) q es) (places_from (n + 1) q es)) ≡ []
    by true f k = ap (λ x. x ++ flat_map F (places_from (n + 1) q es)) (here f) ∙ k
    by false f k = k

pub any_default : {A : Type 0} (xs : List A) (i : ℕ) (d e : A) → i < length xs → get_or xs i d ≡ get_or xs i e
any_default [] i d e l = absurd (omega arith)
any_default (x ∷ xs) zero d e l = refl
any_default (x ∷ xs) (suc i) d e l = any_default xs i d e (omega arith)

-- All links of a node that are left and start there, or end there.
module _ (v : Point) (es : List Edge) (ss : List VisitState) (beside : length ss ≡ length es) (directed : Each (λ s. is_before s.a s.b ≡ true) es) where
  abbrev starting : List ℕ
  starting = places_from 0 (λ s. same_point (near_end true s) v) es

  abbrev ending : List ℕ
  ending = places_from 0 (λ s. same_point (near_end false s) v) es

  at : (t : Bool) (i : ℕ) (d : Edge) → i < length es → spoke_at t v es ss i ≡ spoke_of i t v (get_or es i d) (get_or ss i Skipped)
  at t i d l = ap (λ s. spoke_of i t v s (get_or ss i Skipped)) (any_default es i (record { a = v; b = v }) d l)

  both_ends : (s : Edge) → is_before s.a s.b ≡ true → same_point s.a v ≡ true → same_point s.b v ≡ true → ⊥
  both_ends s d e f = less_apart point_total s.a s.b (before_is_less s.a s.b d) (same_point_is s.a v e ∙ sym (same_point_is s.b v f))

  otherwise : (t : Bool) (i : ℕ) (d : Edge) → i < length es → same_point (near_end (not t) (get_or es i d)) v ≡ true → spoke_at t v es ss i ≡ []
  otherwise t i d l f = at t i d l ∙ by (same_point (near_end t (get_or es i d)) v) refl
    where
      clash : (t : Bool) → same_point (near_end (not t) (get_or es i d)) v ≡ true → same_point (near_end t (get_or es i d)) v ≡ true → ⊥
      clash true f e = both_ends (get_or es i d) (each_at (λ s. is_before s.a s.b ≡ true) es i d directed l) e f
      clash false f e = both_ends (get_or es i d) (each_at (λ s. is_before s.a s.b ≡ true) es i d directed l) f e

      by : (b : Bool) → same_point (near_end t (get_or es i d)) v ≡ b → cond {A = List Numbered} (is_left (get_or ss i Skipped) && b) (record { point = other_end t (get_or es i d); id = i } ∷ []) [] ≡ []
      by true e = absurd (clash t f e)
      by false e = ap (λ b. cond {A = List Numbered} b (record { point = other_end t (get_or es i d); id = i } ∷ []) []) (never_and (is_left (get_or ss i Skipped)))

  here : (t : Bool) (i : ℕ) (d : Edge) → i < length es → spoke_at t v es ss (0 + i) ≡ spoke_of (0 + i) t v (get_or es i d) (get_or ss i Skipped)
  here t i d l =
      let same : i ≡ 0 + i = omega arith in
      subst (λ k. spoke_at t v es ss k ≡ spoke_of k t v (get_or es i d) (get_or ss i Skipped)) same (at t i d l)

  none_ending : (i : ℕ) (d : Edge) → i < length es → same_point (near_end false (get_or es i d)) v ≡ true → spoke_at true v es ss (0 + i) ≡ []
  none_ending i d l f =
      let same : i ≡ 0 + i = omega arith in
      subst (λ k. spoke_at true v es ss k ≡ []) same (otherwise true i d l f)

  none_starting : (i : ℕ) (d : Edge) → i < length es → same_point (near_end true (get_or es i d)) v ≡ true → spoke_at false v es ss (0 + i) ≡ []
  none_starting i d l f =
      let same : i ≡ 0 + i = omega arith in
      subst (λ k. spoke_at false v es ss k ≡ []) same (otherwise false i d l f)

  pub node_spokes : (t : Bool) → flat_map (spoke_at t v es ss) (starting ++ ending) ≡ spokes_from 0 t v es ss
  node_spokes true =
      flat_map-append (spoke_at true v es ss) starting ending
      ∙ (ap (λ x. flat_map (spoke_at true v es ss) starting ++ x) (no_places (spoke_at true v es ss) (λ s. same_point (near_end false s) v) 0 es none_ending)
      ∙ (append-nil (flat_map (spoke_at true v es ss) starting) ∙ of_places (spoke_at true v es ss) true v 0 es ss beside (here true)))
  node_spokes false =
      flat_map-append (spoke_at false v es ss) starting ending
      ∙ (ap (λ x. x ++ flat_map (spoke_at false v es ss) ending) (no_places (spoke_at false v es ss) (λ s. same_point (near_end true s) v) 0 es none_starting)
      ∙ of_places (spoke_at false v es ss) false v 0 es ss beside (here false))

  pub start_spokes : (places : List ℕ) → places ≡ starting ++ ending → flat_map (spoke_at true v es ss) places ≡ spokes_from 0 true v es ss
  start_spokes places is = ap (flat_map (spoke_at true v es ss)) is ∙ node_spokes true

  -- all of them, those that end there first
  pub all_spokes : (places : List ℕ) → places ≡ starting ++ ending → flat_map (spoke_at false v es ss) places ++ (flat_map (spoke_at true v es ss) places ++ []) ≡ spokes v es ss
  all_spokes places is =
      ap₂ (λ x y. x ++ y) (ap (flat_map (spoke_at false v es ss)) is ∙ node_spokes false)
      (append-nil (flat_map (spoke_at true v es ss) places) ∙ start_spokes places is)

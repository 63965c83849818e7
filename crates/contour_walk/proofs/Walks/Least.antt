-- Each contour passes links that are left at its beginning, and begins at the least of their ends.
use Rattle.std.proofs.Common.{◌≡◌, Bool, true, false, not, cond, List, [], ◌∷◌, ◌++◌, map, length, get_or, Option, Some, None, ◌⊎◌, inl, inr, IsPermutation, Ordering, Less, Equal, Greater, refl, sym, ap, ◌∙◌, subst, arith}
use Rattle.std.specs.Ordering.{is_lt}
use Rattle.std.proofs.lemmas.Bool.{false≢true}
use Rattle.std.proofs.lemmas.List.{map-append}
use Rattle.std.proofs.lemmas.List.Sorted.{IsPermutation-map, IsPermutation-sym}
use Rattle.plane_base.specs.Plane.{Point, Edge, point_order, edge_order, is_before}
use Rattle.plane_base.proofs.Facts.Points.Orders.{less_then, point_equal, point_itself, point_total, before_is_less, less_from_greater, greater_from_less}
use Rattle.segment_arrangement.specs.Rings.{PointsHaveRings, NodeRing}
use Rattle.contour_walk.specs.Walks.{Border, Contour, between, is_same, contour_from, top_link, left_by, walks, path_edges, contour_edges, is_one_of}
use Rattle.contour_walk.specs.Binding.{lesser_point, least_point}
use Rattle.contour_walk.specs.WalkLaws.{step_along, steps_to, contour_steps, borders, PassInTurn, WalksPassInTurn, least_place, LeastPointsStand}
use Rattle.contour_walk.proofs.Facts.Walks.Turns.{Has}
use Rattle.contour_walk.proofs.Facts.Walks.Rings.{Each, Pairs, each_has, each_from_has, each_weaker, has_append_left, Alternates}
use Rattle.contour_walk.proofs.Walks.Links.{Directed, AreLinks, kept_links, filter_from, Along, joins_between, step_joins}
use Rattle.contour_walk.proofs.Walks.Members.{has_permutation, has_from_contains, has_map_from, all_pairs_from}
use Rattle.contour_walk.proofs.Walks.Nodes.{borders_are_links, borders_alternate}
use Rattle.contour_walk.proofs.Walks.Paths.{IsPassed, contour_passed, top_of_links, top_starts, all_walks, first_of, second_of}

-- ---- edges of steps

abbrev edge_along : Edge → Edge
edge_along s = between s.a s.b

edges_of_path : (first : Point) (points : List Point) → map edge_along (steps_to first points) ≡ path_edges first points
edges_of_path first [] = refl
edges_of_path first (p ∷ []) = refl
edges_of_path first (p ∷ r ∷ rest) = ap (λ l. between p r ∷ l) (edges_of_path first (r ∷ rest))

pub edges_of_contour : (points : List Point) → map edge_along (contour_steps points) ≡ contour_edges points
edges_of_contour [] = refl
edges_of_contour (p ∷ rest) = edges_of_path p (p ∷ rest)

module _ (output : Bool) where
  edges_of_links : (links : List Border) → Each Directed links → map edge_along (map (step_along output) links) ≡ map (λ l. l.edge) links
  edges_of_links [] h = refl
  edges_of_links (l ∷ ls) h =
      ap (λ e. e ∷ map edge_along (map (step_along output) ls)) (joins_between l (step_along output l).a (step_along output l).b h.0 (step_joins output l (step_along output l).a (step_along output l).b refl))
      ∙ ap (λ t. l.edge ∷ t) (edges_of_links ls h.1)

  pub edges_passed : (links left : List Border) (points : List Point) → Each Directed links → Each Directed left → IsPermutation (map (step_along output) links) (contour_steps points ++ map (step_along output) left)
      → IsPermutation (map (λ l. l.edge) links) (contour_edges points ++ map (λ l. l.edge) left)
  edges_passed links left points directed rest h =
      subst (λ ss. IsPermutation ss (contour_edges points ++ map (λ l. l.edge) left)) (edges_of_links links directed)
      (subst (IsPermutation (map edge_along (map (step_along output) links)))
      (map-append edge_along (contour_steps points) (map (step_along output) left) ∙ (λ i. edges_of_contour points i ++ edges_of_links left rest i))
      (IsPermutation-map edge_along (map (step_along output) links) (contour_steps points ++ map (step_along output) left) h))

  pub walks_pass_in_turn : (links : List Border) → AreLinks links → Alternates false (Along output links) (Along output links) → PassInTurn output links (walks output links)
  walks_pass_in_turn links are wheels = all_walks output (PassInTurn output) refl one_more (length links) links (omega arith) are wheels
    where
      one_more : (l : Border) (ls : List Border) (top : Border) (cs : List Contour) → AreLinks (l ∷ ls) → Alternates false (Along output (l ∷ ls)) (Along output (l ∷ ls)) → top_link l.edge.a (l ∷ ls) ≡ Some top
          → PassInTurn output (left_by (contour_from output (l ∷ ls) top).points (l ∷ ls)) cs → PassInTurn output (l ∷ ls) (contour_from output (l ∷ ls) top ∷ cs)
      one_more l ls top cs are wheels e behind =
          let points : List Point = (contour_from output (l ∷ ls) top).points in
          let p = contour_passed output (l ∷ ls) are wheels top (top_of_links l.edge.a (l ∷ ls) top e) in (
            p.passed,
            edges_passed (l ∷ ls) (left_by points (l ∷ ls)) points are.directed (kept_links (λ m. not (is_one_of (contour_edges points) m.edge)) (l ∷ ls) are).directed p.passed,
            behind,
          )

-- ---- least points

-- p is not after r
abbrev pub Upto : Point → Point → Type 0
Upto p r = is_before r p ≡ false

upto_itself : (p r : Point) → p ≡ r → Upto p r
upto_itself p r e = ap is_lt (ap (λ z. point_order z p) (sym e) ∙ point_itself p)

upto_of_before : (p r : Point) → is_before p r ≡ true → Upto p r
upto_of_before p r h = ap is_lt (greater_from_less point_total p r (before_is_less p r h))

both_upto : (p r : Point) → Upto p r → Upto r p → p ≡ r
both_upto p r h k = by (point_order p r) refl
  where
    by : (o : Ordering) → point_order p r ≡ o → p ≡ r
    by Less e = absurd (false≢true (sym k ∙ ap is_lt e))
    by Equal e = point_equal p r e
    by Greater e = absurd (false≢true (sym h ∙ ap is_lt (less_from_greater point_total p r e)))

least_is_one : (points : List Point) (p : Point) → least_point points ≡ Some p → Has points p
least_is_one [] p e = absurd (cc)
least_is_one (r ∷ rs) p e = by (least_point rs) (λ q f. least_is_one rs q f) e
  where
    some : {x y : Point} → Some x ≡ Some y → x ≡ y
    some f = cc

    by : (o : Option Point) → ((q : Point) → o ≡ Some q → Has rs q) → Some (lesser_point r o) ≡ Some p → Has (r ∷ rs) p
    by None behind f = inl (some f)
    by (Some q) behind f = either (is_before q r) (some f)
      where
        either : (b : Bool) → cond b q r ≡ p → Has (r ∷ rs) p
        either true g = inr (behind p (ap Some g))
        either false g = inl g

pub least_is : (points : List Point) (p : Point) → Has points p → Each (Upto p) points → least_point points ≡ Some p
least_is [] p h all = absurd h
least_is (r ∷ rs) p (inl e) all = by (least_point rs) (λ q f. each_has (Upto p) rs q all.1 (least_is_one rs q f))
  where
    by : (o : Option Point) → ((q : Point) → o ≡ Some q → Upto p q) → Some (lesser_point r o) ≡ Some p
    by None behind = ap Some e
    by (Some q) behind = ap (λ b. Some (cond b q r)) (ap (λ z. is_before q z) e ∙ behind q refl) ∙ ap Some e
least_is (r ∷ rs) p (inr k) all = ap (λ o. Some (lesser_point r o)) (least_is rs p k all.1) ∙ by (is_before p r) refl
  where
    by : (b : Bool) → is_before p r ≡ b → Some (cond b p r) ≡ Some p
    by true e = refl
    by false e = ap Some (sym (both_upto p r all.0 e))

-- each point of a path is the beginning of one of its steps
step_from : (first : Point) (points : List Point) (p : Point) → Has points p → (s : Edge) × Has (steps_to first points) s × (s.a ≡ p)
step_from first [] p h = absurd h
step_from first (v ∷ []) p (inl e) = (record { a = v; b = first }, inl refl, e)
step_from first (v ∷ []) p (inr k) = absurd k
step_from first (v ∷ w ∷ rest) p (inl e) = (record { a = v; b = w }, inl refl, e)
step_from first (v ∷ w ∷ rest) p (inr k) = let s = step_from first (w ∷ rest) p k in (s.0, inr s.1, s.2)

-- the first of rising links begins no later than any other ends or begins
pub first_is_least : (l : Border) (ls : List Border) → AreLinks (l ∷ ls) → (m : Border) → Has (l ∷ ls) m → Upto l.edge.a m.edge.a × Upto l.edge.a m.edge.b
first_is_least l ls are m here = (begins here, ends (begins here) (each_has Directed (l ∷ ls) m are.directed here))
  where
    after : (s t : Edge) → edge_order s t ≡ Less → Upto s.a t.a
    after s t e = by (less_then (point_order s.a t.a) (point_order s.b t.b) e)
      where
        by : (point_order s.a t.a ≡ Less) ⊎ ((point_order s.a t.a ≡ Equal) × (point_order s.b t.b ≡ Less)) → Upto s.a t.a
        by (inl h) = upto_of_before s.a t.a (ap is_lt h)
        by (inr h) = upto_itself s.a t.a (point_equal s.a t.a h.0)

    begins : Has (l ∷ ls) m → Upto l.edge.a m.edge.a
    begins (inl e) = upto_itself l.edge.a m.edge.a (ap (λ k. k.edge.a) e)
    begins (inr k) = after l.edge m.edge (each_has (λ k. edge_order l.edge k.edge ≡ Less) ls m (are.rising).0 k)

    ends : Upto l.edge.a m.edge.a → is_before m.edge.a m.edge.b ≡ true → Upto l.edge.a m.edge.b
    ends h k = by (is_before m.edge.b l.edge.a) refl
      where
        by : (b : Bool) → is_before m.edge.b l.edge.a ≡ b → b ≡ false
        by false e = refl
        by true e = absurd (false≢true (sym h ∙ ap is_lt (point_total.trans m.edge.a m.edge.b l.edge.a (before_is_less m.edge.a m.edge.b k) (before_is_less m.edge.b l.edge.a e))))

-- ---- where contours begin

module _ (output : Bool) where
  -- no point of a path along links that are left comes before the first of them
  all_upto : (l : Border) (ls : List Border) → AreLinks (l ∷ ls) → (points : List Point) (left : List Border) → IsPermutation (map (step_along output) (l ∷ ls)) (contour_steps points ++ map (step_along output) left) → Each (Upto l.edge.a) points
  all_upto l ls are [] left h = tt
  all_upto l ls are (p ∷ rest) left h = each_from_has (Upto l.edge.a) (p ∷ rest) (λ r here. by r (step_from p (p ∷ rest) r here))
    where
      end_of : (r : Point) (s : Edge) → s.a ≡ r → (m : Border) × Has (l ∷ ls) m × (step_along output m ≡ s) → Upto l.edge.a r
      end_of r s at (m, here, e) = either (is_same m.above output) e (first_is_least l ls are m here)
        where
          either : (b : Bool) → cond b (record { a = m.edge.b; b = m.edge.a }) m.edge ≡ s → Upto l.edge.a m.edge.a × Upto l.edge.a m.edge.b → Upto l.edge.a r
          either true f k = subst (Upto l.edge.a) (ap (λ (t : Edge). t.a) f ∙ at) k.1
          either false f k = subst (Upto l.edge.a) (ap (λ (t : Edge). t.a) f ∙ at) k.0

      by : (r : Point) → (s : Edge) × Has (steps_to p (p ∷ rest)) s × (s.a ≡ r) → Upto l.edge.a r
      by r (s, here, at) =
          end_of r s at
          (has_map_from (step_along output) (l ∷ ls) s
          (has_permutation (steps_to p (p ∷ rest) ++ map (step_along output) left) (map (step_along output) (l ∷ ls)) s (IsPermutation-sym (map (step_along output) (l ∷ ls)) (steps_to p (p ∷ rest) ++ map (step_along output) left) h)
          (has_append_left (steps_to p (p ∷ rest)) (map (step_along output) left) s here)))

  -- a contour begins at its least point, which is the first end of its first link
  abbrev pub BeginsAt : Point → Contour → Type 0
  BeginsAt p c = (least_point c.points ≡ Some p) × ((d : Point) → get_or c.points (least_place output c) d ≡ p)

  pub contour_begins : (l : Border) (ls : List Border) (top : Border) → AreLinks (l ∷ ls) → Alternates false (Along output (l ∷ ls)) (Along output (l ∷ ls)) → top_link l.edge.a (l ∷ ls) ≡ Some top → BeginsAt l.edge.a (contour_from output (l ∷ ls) top)
  contour_begins l ls top are wheels e = by (contour_passed output (l ∷ ls) are wheels top (top_of_links l.edge.a (l ∷ ls) top e)) (top_starts l.edge.a (l ∷ ls) top e)
    where
      at_place : (b : Bool) (points rest : List Point) → points ≡ (cond b (record { a = top.edge.b; b = top.edge.a }) top.edge).a ∷ (cond b (record { a = top.edge.b; b = top.edge.a }) top.edge).b ∷ rest
          → Has points top.edge.a × ((d : Point) → get_or points (cond b 1 0) d ≡ top.edge.a)
      at_place true points rest is = (subst (λ ps. Has ps top.edge.a) (sym is) (inr (inl refl)), (λ d. ap (λ ps. get_or ps 1 d) is))
      at_place false points rest is = (subst (λ ps. Has ps top.edge.a) (sym is) (inl refl), (λ d. ap (λ ps. get_or ps 0 d) is))

      by : IsPassed output (l ∷ ls) are wheels (is_same top.above output) (first_of output (l ∷ ls) are wheels top) (second_of output (l ∷ ls) are wheels top) (contour_from output (l ∷ ls) top).points → top.edge.a ≡ l.edge.a → BeginsAt l.edge.a (contour_from output (l ∷ ls) top)
      by p at =
          let k = at_place (is_same top.above output) (contour_from output (l ∷ ls) top).points p.rest p.is in (
            least_is (contour_from output (l ∷ ls) top).points l.edge.a (subst (Has (contour_from output (l ∷ ls) top).points) at k.0)
                (all_upto l ls are (contour_from output (l ∷ ls) top).points (left_by (contour_from output (l ∷ ls) top).points (l ∷ ls)) p.passed),
            (λ d. k.1 d ∙ at),
          )

  -- all contours begin at first ends of links, and so do those after each of them, at none before its own
  abbrev pub Stand : List Border → List Contour → Type 0
  Stand links cs = Each (λ c. (l : Border) × Has links l × BeginsAt l.edge.a c) cs × Pairs (λ c e. (p r : Point) → least_point c.points ≡ Some p → least_point e.points ≡ Some r → Upto p r) cs

  pub contours_stand : (links : List Border) → AreLinks links → Alternates false (Along output links) (Along output links) → Stand links (walks output links)
  contours_stand links are wheels = all_walks output Stand (tt, tt) one_more (length links) links (omega arith) are wheels
    where
      some : {x y : Point} → Some x ≡ Some y → x ≡ y
      some f = cc

      one_more : (l : Border) (ls : List Border) (top : Border) (cs : List Contour) → AreLinks (l ∷ ls) → Alternates false (Along output (l ∷ ls)) (Along output (l ∷ ls)) → top_link l.edge.a (l ∷ ls) ≡ Some top
          → Stand (left_by (contour_from output (l ∷ ls) top).points (l ∷ ls)) cs → Stand (l ∷ ls) (contour_from output (l ∷ ls) top ∷ cs)
      one_more l ls top cs are wheels e behind =
          let points : List Point = (contour_from output (l ∷ ls) top).points in
          let own = contour_begins l ls top are wheels e in
          let later : (m : Border) → Has (left_by points (l ∷ ls)) m → Has (l ∷ ls) m = λ m k. (filter_from (λ m. not (is_one_of (contour_edges points) m.edge)) (l ∷ ls) m k).0 in (
            ((l, inl refl, own), each_weaker (λ c. (m : Border) × Has (left_by points (l ∷ ls)) m × BeginsAt m.edge.a c) (λ c. (m : Border) × Has (l ∷ ls) m × BeginsAt m.edge.a c) (λ c k. (k.0, later k.0 k.1, k.2)) cs behind.0),
            (
              each_weaker (λ c. (m : Border) × Has (left_by points (l ∷ ls)) m × BeginsAt m.edge.a c) (λ c. (p r : Point) → least_point points ≡ Some p → least_point c.points ≡ Some r → Upto p r)
                  (λ c k p r f g. subst (λ q. Upto q r) (some (sym own.0 ∙ f)) (subst (Upto l.edge.a) (some (sym (k.2).0 ∙ g)) (first_is_least l ls are k.0 (later k.0 k.1)).0)) cs behind.0,
              behind.1,
            ),
          )

pub walks_pass : PointsHaveRings → NodeRing → WalksPassInTurn
walks_pass points rings fill rule es output arranged =
    walks_pass_in_turn output (borders fill rule es) (borders_are_links fill rule es output arranged) (borders_alternate fill rule es output arranged points rings)

pub least_points_stand : PointsHaveRings → NodeRing → LeastPointsStand
least_points_stand points rings = record {
  place = λ fill rule es output c d arranged here.
      of_contour (borders fill rule es) output c d
      (each_has (λ c. (l : Border) × Has (borders fill rule es) l × BeginsAt output l.edge.a c) (walks output (borders fill rule es)) c
      (contours_stand output (borders fill rule es) (borders_are_links fill rule es output arranged) (borders_alternate fill rule es output arranged points rings)).0 (has_from_contains (walks output (borders fill rule es)) c here));
  order = λ fill rule es output arranged.
      all_pairs_from (λ (c e : Contour). (p r : Point) → least_point c.points ≡ Some p → least_point e.points ≡ Some r → Upto p r) (walks output (borders fill rule es))
      (contours_stand output (borders fill rule es) (borders_are_links fill rule es output arranged) (borders_alternate fill rule es output arranged points rings)).1;
}
  where
    of_contour : (links : List Border) (output : Bool) (c : Contour) (d : Point) → (l : Border) × Has links l × BeginsAt output l.edge.a c → least_point c.points ≡ Some (get_or c.points (least_place output c) d)
    of_contour links output c d (l, here, begins) = begins.0 ∙ ap Some (sym (begins.1 d))

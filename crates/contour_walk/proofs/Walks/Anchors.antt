-- The lowest edge at a contour's least point is passed the other way than the topmost.
use Rattle.std.proofs.Common.{◌≡◌, zero, suc, Bool, true, false, not, cond, List, [], ◌∷◌, ◌++◌, map, length, Option, Some, None, ◌⊎◌, inl, inr, ℤ, pos, negsuc, neg_ℤ, ◌≤ℤ◌, ◌<ℤ◌, refl, sym, ap, ◌∙◌, subst, arith}
use Rattle.std.proofs.lemmas.Bool.{false≢true}
use Rattle.std.proofs.lemmas.Int.{ints}
use Rattle.std.proofs.lemmas.List.Sorted.{IsPermutation-sym}
use Rattle.plane_base.specs.Plane.{Point, Edge, turn, is_before}
use Rattle.plane_base.proofs.Facts.Points.Orders.{point_less, before_is_less}
use Rattle.plane_base.proofs.Facts.Points.Turns.{turn_swap_last}
use Rattle.segment_arrangement.specs.Rings.{PointsHaveRings, NodeRing}
use Rattle.contour_walk.specs.Walks.{Border, Contour, same_edge, between, is_same, contour_from, top_link, left_by, walks, contour_edges, is_one_of}
use Rattle.contour_walk.specs.Binding.{lowest_from, anchor, is_above}
use Rattle.contour_walk.specs.WalkLaws.{step_along, steps_to, contour_steps, borders, AnchorsAreSided}
use Rattle.contour_walk.proofs.Facts.Walks.Turns.{Bend, left, straight, right, bend, bend_right, bend_straight, left_tells, is_left, rank, first_of_two}
use Rattle.contour_walk.proofs.Facts.Walks.Turns.{met_is, Apart, apart_back, Turns, Has}
use Rattle.contour_walk.proofs.Facts.Walks.Rings.{Each, Pairs, each_has, each_from_has, each_weaker, has_append_left, Spoke, spoke, Lies, IsSpoke, ApartAt}
use Rattle.contour_walk.proofs.Facts.Walks.Rings.{IsWheel, Alternates, wheel_from, neighbour, wheels_either_way}
use Rattle.contour_walk.proofs.Walks.Members.{has_permutation, has_from_contains, has_map, has_map_from}
use Rattle.contour_walk.proofs.Walks.Links.{spoke_is, same_edge_is, same_edge_itself, Directed, AreLinks, filter_from, Joins, joins_between, step_joins, Along, along_apart, outward}
use Rattle.contour_walk.proofs.Walks.Steps.{step, same_or_not, near_of_has}
use Rattle.contour_walk.proofs.Walks.Bends.{Beyond, Bends, AreBounded}
use Rattle.contour_walk.proofs.Facts.Walks.Fans.{After, after_decided}
use Rattle.contour_walk.proofs.Walks.Lowest.{AllAfter, IsLowest, lowest_found, some_lowest, top_found}
use Rattle.contour_walk.proofs.Walks.Nodes.{borders_are_links, borders_alternate}
use Rattle.contour_walk.proofs.Walks.Paths.{IsPassed, contour_passed, top_of_links, top_starts, all_walks}
use Rattle.contour_walk.proofs.Walks.Least.{edges_of_contour, first_is_least, contour_begins}

never_both_signs : (y z : ℤ) → y ≡ neg_ℤ z → pos 0 <ℤ y → pos 0 ≤ℤ z → ⊥
never_both_signs y z e l m = absurd (omega (arith, ints))

-- ---- what follows a step, and what comes before it

follower : (c : Bool) (a first from v : Point) (rest : List Point) (s : Edge) → Bends c a first from (v ∷ rest) → Has (step from v ∷ steps_to first (v ∷ rest)) s → s.b ≡ a → (first ≡ a → ⊥)
    → (w : Point) × Has (steps_to first (v ∷ rest)) (step a w) × Beyond c a s.a w
follower c a first from v [] s bends (inl e) at other =
    let here : v ≡ a = ap (λ (t : Edge). t.b) e ∙ at in
    (first, inl (λ i. step (here i) first), subst (λ z. Beyond c a z first) (ap (λ (t : Edge). t.a) e) (bends here))
follower c a first from v [] s bends (inr (inl e)) at other = absurd (other (ap (λ (t : Edge). t.b) e ∙ at))
follower c a first from v [] s bends (inr (inr k)) at other = absurd k
follower c a first from v (w ∷ rest) s bends (inl e) at other =
    let here : v ≡ a = ap (λ (t : Edge). t.b) e ∙ at in
    (w, inl (λ i. step (here i) w), subst (λ z. Beyond c a z w) (ap (λ (t : Edge). t.a) e) (bends.0 here))
follower c a first from v (w ∷ rest) s bends (inr k) at other =
    let f = follower c a first v w rest s bends.1 k at other in
    (f.0, inr f.1, f.2)

predecessor : (c : Bool) (a first from v : Point) (rest : List Point) (s : Edge) → Bends c a first from (v ∷ rest) → Has (steps_to first (v ∷ rest)) s → s.a ≡ a
    → (u : Point) × Has (step from v ∷ steps_to first (v ∷ rest)) (step u a) × Beyond c a u s.b
predecessor c a first from v [] s bends (inl e) at =
    let here : v ≡ a = ap (λ (t : Edge). t.a) e ∙ at in
    (from, inl (λ i. step from (here i)), subst (Beyond c a from) (ap (λ (t : Edge). t.b) e) (bends here))
predecessor c a first from v [] s bends (inr k) at = absurd k
predecessor c a first from v (w ∷ rest) s bends (inl e) at =
    let here : v ≡ a = ap (λ (t : Edge). t.a) e ∙ at in
    (from, inl (λ i. step from (here i)), subst (Beyond c a from) (ap (λ (t : Edge). t.b) e) (bends.0 here))
predecessor c a first from v (w ∷ rest) s bends (inr k) at =
    let f = predecessor c a first v w rest s bends.1 k at in
    (f.0, inr f.1, f.2)

-- ---- the walk that begins with the topmost link at the least point

-- clockwise from p the topmost is met after all that are below p
turns_below : (v p q r : Point) → After v p → After v q → Turns true v p q r → pos 0 <ℤ turn v p r → pos 0 <ℤ turn v q r → Beyond true v p q
turns_below v p q r a b h l m =
    by (bend (turn v q p)) refl
    (sym (λ i. first_of_two (rank (bend (turn v q p))) (rank (falls p l i)) (is_left (falls q m i))) ∙ (sym (met_is true v p q r h.first (apart_back v r p h.third)) ∙ h.met))
  where
    negative : (y z : ℤ) → y ≡ neg_ℤ z → pos 0 <ℤ z → y <ℤ pos 0
    negative y z e k = omega (arith, ints)

    falls : (s : Point) → pos 0 <ℤ turn v s r → bend (turn v r s) ≡ right
    falls s k = bend_right (turn v r s) (negative (turn v r s) (turn v s r) (turn_swap_last v r s) k)

    by : (b : Bend) → bend (turn v q p) ≡ b → first_of_two (rank (bend (turn v q p))) 3 false ≡ true → Beyond true v p q
    by left e f = left_tells (turn v q p) e
    by straight e f = absurd (after_decided v q p b a (apart_back v p q h.first) (bend_straight (turn v q p) e))
    by right e f = absurd (false≢true (ap (λ b. first_of_two (rank b) 3 false) (sym e) ∙ f))

-- the lowest edge at the contour's least point is that of a link with the region above it for an outline, and below it for a hole
abbrev pub IsSided : List Border → Contour → Type 0
IsSided links c = (e : Edge) × (anchor c.points ≡ Some e) × (m : Border) × Has links m × (m.edge ≡ e) × (m.above ≡ not c.is_hole)

module _ (output : Bool) (l : Border) (ls : List Border) (top : Border) (are : AreLinks (l ∷ ls)) (wheels : Alternates false (Along output (l ∷ ls)) (Along output (l ∷ ls))) (found : top_link l.edge.a (l ∷ ls) ≡ Some top) where
  abbrev links : List Border
  links = l ∷ ls

  abbrev a : Point
  a = l.edge.a

  abbrev S : Edge → Type 0
  S = Along output links

  top_here : Has links top
  top_here = top_of_links a links top found

  top_at : top.edge.a ≡ a
  top_at = top_starts a links top found

  after_of : (m : Border) → Has links m → m.edge.a ≡ a → After a m.edge.b
  after_of m here at = by (point_less a m.edge.b (before_is_less a m.edge.b (ap (λ z. is_before z m.edge.b) (sym at) ∙ each_has Directed links m are.directed here)))
    where
      by : (a.x <ℤ m.edge.b.x) ⊎ ((a.x ≡ m.edge.b.x) × (a.y <ℤ m.edge.b.y)) → After a m.edge.b
      by (inl k) = inl (omega (arith, ints))
      by (inr k) = inr (omega (arith, ints, k.0), omega (arith, ints, k.1))

  tops : Each (λ m. m.edge.a ≡ a → pos 0 ≤ℤ turn a m.edge.b top.edge.b) links
  tops = top_found a links (each_from_has (λ m. m.edge.a ≡ a → After a m.edge.b) links after_of) top found

  -- all links at the least point start there
  starts_from : (far : Point) (out : Bool) → Lies S S a far out → (m : Border) × Has links m × (m.edge.a ≡ a) × (m.edge.b ≡ far)
  starts_from far out lies = by (spoke_is output links are a far out lies)
    where
      by : (m : Border) × Has links m × Joins m a far × (outward output a m ≡ out) → (m : Border) × Has links m × (m.edge.a ≡ a) × (m.edge.b ≡ far)
      by (m, here, inl h, e) = (m, here, h.0, h.1)
      by (m, here, inr h, e) =
          absurd (false≢true (sym (first_is_least l ls are m here).0 ∙ (ap (is_before m.edge.a) (sym h.0) ∙ each_has Directed links m are.directed here)))

  after_spoke : (far : Point) (out : Bool) → Lies S S a far out → After a far
  after_spoke far out lies = let m = starts_from far out lies in subst (After a) m.3 (after_of m.0 m.1 m.2)

  apart_spokes : (s t : Spoke) → IsSpoke S S a s → IsSpoke S S a t → (s ≡ t → ⊥) → Apart a s.far t.far
  apart_spokes s t is it other = by (wheels a)
    where
      among : (rest : List Spoke) → IsWheel false S S a (s ∷ rest) → Has (s ∷ rest) t → Apart a s.far t.far
      among rest wheel (inl e) = absurd (other e)
      among rest wheel (inr k) = each_has (ApartAt a s) rest t (wheel.apart).0 k

      by : (spokes : List Spoke) × IsWheel false S S a spokes → Apart a s.far t.far
      by (spokes, wheel) = let f = wheel_from spokes s wheel is in among f.0 f.1 ((f.1).complete t it)

  lies_top : (c : Bool) → is_same top.above output ≡ c → Lies S S a top.edge.b (not c)
  lies_top true e = (top, top_here, ap (λ b. cond b (step top.edge.b top.edge.a) top.edge) e ∙ (λ i. step top.edge.b (top_at i)))
  lies_top false e = (top, top_here, ap (λ b. cond b (step top.edge.b top.edge.a) top.edge) e ∙ (λ i. step (top_at i) top.edge.b))

  -- all others are to the right of the topmost
  below_top : (c : Bool) → is_same top.above output ≡ c → (far : Point) (out : Bool) → Lies S S a far out → (spoke far out ≡ spoke top.edge.b (not c) → ⊥) → pos 0 <ℤ turn a far top.edge.b
  below_top c e far out lies other =
      strict (turn a far top.edge.b) (by (starts_from far out lies))
      (after_decided a far top.edge.b (after_spoke far out lies) (after_of top top_here top_at) (apart_spokes (spoke far out) (spoke top.edge.b (not c)) lies (lies_top c e) other))
    where
      strict : (z : ℤ) → pos 0 ≤ℤ z → (z ≡ pos 0 → ⊥) → pos 0 <ℤ z
      strict (pos zero) k never = absurd (never refl)
      strict (pos (suc n)) k never = omega (arith, ints)
      strict (negsuc n) k never = absurd (omega (arith, ints))

      by : (m : Border) × Has links m × (m.edge.a ≡ a) × (m.edge.b ≡ far) → pos 0 ≤ℤ turn a far top.edge.b
      by (m, here, at, is) = subst (λ z. pos 0 ≤ℤ turn a z top.edge.b) is (each_has (λ m. m.edge.a ≡ a → pos 0 ≤ℤ turn a m.edge.b top.edge.b) links m tops here at)

  bounded : (c : Bool) → is_same top.above output ≡ c → AreBounded c S S a
  bounded false e far k = (top.edge.b, true, lies_top false e, below_top false e far false k (λ f. false≢true (ap (λ (s : Spoke). s.out) f)))
  bounded true e far k = by (wheels_either_way false true wheels a)
    where
      lower_than : (o : Point) → S (step a o) → pos 0 <ℤ turn a o top.edge.b
      lower_than o lies = below_top true e o true lies (λ f. false≢true (sym (ap (λ (s : Spoke). s.out) f)))

      beyond : (o : Point) (more : List Spoke) → IsWheel true S S a (spoke far false ∷ spoke o true ∷ more) → (far ≡ top.edge.b) ⊎ (far ≡ top.edge.b → ⊥) → Beyond true a far o
      beyond o more wheel (inl f) = subst (λ z. pos 0 <ℤ turn a o z) (sym f) (lower_than o (((wheel.sound).1).0))
      beyond o more wheel (inr other) = near (near_of_has (spoke far false) (spoke o true) more (spoke top.edge.b false) wheel.order (wheel.complete (spoke top.edge.b false) (lies_top true e)))
        where
          near : (spoke far false ≡ spoke top.edge.b false) ⊎ ((spoke o true ≡ spoke top.edge.b false) ⊎ Turns true a far o top.edge.b) → Beyond true a far o
          near (inl f) = absurd (other (ap (λ (s : Spoke). s.far) f))
          near (inr (inl f)) = absurd (false≢true (sym (ap (λ (s : Spoke). s.out) f)))
          near (inr (inr t)) =
              turns_below a far o top.edge.b (after_spoke far false k) (after_spoke o true (((wheel.sound).1).0)) t (below_top true e far false k (λ f. other (ap (λ (s : Spoke). s.far) f))) (lower_than o (((wheel.sound).1).0))

      by : (spokes : List Spoke) × IsWheel true S S a spokes → (x : Point) × (out : Bool) × Lies S S a x out × Beyond true a far x
      by (spokes, wheel) =
          let f = wheel_from spokes (spoke far false) wheel k in
          let n = neighbour (spoke far false) f.0 f.1 in
          (n.0, true, (((n.2).sound).1).0, beyond n.0 n.1 n.2 (same_or_not far top.edge.b))

  -- ---- its lowest edge

  abbrev points : List Point
  points = (contour_from output links top).points

  module _ (c : Bool) (hand : is_same top.above output ≡ c) (first second : Point) (begun : step_along output top ≡ step first second) (p : IsPassed output links are wheels c first second points) where
    step_of_links : (s : Edge) → Has (contour_steps points) s → S s
    step_of_links s here =
        let passed = p.passed in
        has_map_from (step_along output) links s
        (has_permutation (contour_steps points ++ map (step_along output) (left_by points links)) (map (step_along output) links) s
        (IsPermutation-sym (map (step_along output) links) (contour_steps points ++ map (step_along output) (left_by points links)) passed)
        (has_append_left (contour_steps points) (map (step_along output) (left_by points links)) s here))

    edge_of_step : (s : Edge) → Has (contour_steps points) s → Has (contour_edges points) (between s.a s.b)
    edge_of_step s here = subst (λ es. Has es (between s.a s.b)) (edges_of_contour points) (has_map (λ (s : Edge). between s.a s.b) (contour_steps points) s here)

    step_of_edge : (e : Edge) → Has (contour_edges points) e → (s : Edge) × Has (contour_steps points) s × (between s.a s.b ≡ e)
    step_of_edge e here = has_map_from (λ (s : Edge). between s.a s.b) (contour_steps points) e (subst (λ es. Has es e) (sym (edges_of_contour points)) here)

    link_edge : (s : Edge) → (k : S s) → between s.a s.b ≡ (k.0).edge
    link_edge s k = joins_between k.0 s.a s.b (each_has Directed links k.0 are.directed k.1) (step_joins output k.0 s.a s.b k.2)

    edges_after : AllAfter a (contour_edges points)
    edges_after = each_from_has (λ s. s.a ≡ a → After a s.b) (contour_edges points) (λ e here at. by e at (step_of_edge e here))
      where
        by : (e : Edge) → e.a ≡ a → (s : Edge) × Has (contour_steps points) s × (between s.a s.b ≡ e) → After a e.b
        by e at (s, here, is) =
            let k = step_of_links s here in
            let same : (k.0).edge ≡ e = sym (link_edge s k) ∙ is in
            subst (λ (t : Edge). After a t.b) same (after_of k.0 k.1 (ap (λ (t : Edge). t.a) same ∙ at))

    in_points : (s : Edge) → Has (steps_to first (first ∷ second ∷ p.rest)) s → Has (contour_steps points) s
    in_points s here = subst (λ ps. Has (contour_steps ps) s) (sym p.is) here

    from_points : (s : Edge) → Has (contour_steps points) s → Has (steps_to first (first ∷ second ∷ p.rest)) s
    from_points s here = subst (λ ps. Has (contour_steps ps) s) p.is here

    -- no step to or from a point lower than the lowest edge
    not_lower : (e : Edge) → IsLowest a (contour_edges points) e → (u : Point) (out : Bool) (s : Edge) → Has (contour_steps points) s → Lies S S a u out → (between s.a s.b ≡ between a u) ⊎ (between s.a s.b ≡ between u a) → pos 0 <ℤ turn a u e.b → ⊥
    not_lower e low u out s here lies same l = never_both_signs (turn a u e.b) (turn a e.b u) (turn_swap_last a u e.b) l (by (spoke_is output links are a u out lies) (starts_from u out lies))
      where
        edge_here : (m : Border) → Directed m → (m.edge.a ≡ a) → (m.edge.b ≡ u) → Has (contour_edges points) m.edge
        edge_here m d at is = subst (Has (contour_edges points)) (either same) (edge_of_step s here)
          where
            either : (between s.a s.b ≡ between a u) ⊎ (between s.a s.b ≡ between u a) → between s.a s.b ≡ m.edge
            either (inl f) = f ∙ joins_between m a u d (inl (at, is))
            either (inr f) = f ∙ joins_between m u a d (inr (is, at))

        by : (m : Border) × Has links m × Joins m a u × (outward output a m ≡ out) → (m : Border) × Has links m × (m.edge.a ≡ a) × (m.edge.b ≡ u) → pos 0 ≤ℤ turn a e.b u
        by k (m, has, at, is) =
            subst (λ z. pos 0 ≤ℤ turn a e.b z) is (each_has (λ s. s.a ≡ a → pos 0 ≤ℤ turn a e.b s.b) (contour_edges points) m.edge low.lowest (edge_here m (each_has Directed links m are.directed has) at is) at)

    never_same : (e : Edge) → IsLowest a (contour_edges points) e → (m : Border) → Has links m → m.edge ≡ e → (s : Edge) → step_along output m ≡ s → Has (contour_steps points) s → (b d : Bool) → is_same m.above output ≡ b → c ≡ d → b ≡ d → ⊥
    never_same e low m has is s along here true true f g h = by (follower true a first first second p.rest s (subst (λ z. Bends z a first first (second ∷ p.rest)) g (p.bends a (bounded c hand))) (from_points s here) at other)
      where
        goes : step m.edge.b m.edge.a ≡ s
        goes = sym (ap (λ b. cond b (step m.edge.b m.edge.a) m.edge) f) ∙ along

        starts : m.edge.a ≡ a
        starts = ap (λ (t : Edge). t.a) is ∙ low.starts

        at : s.b ≡ a
        at = sym (ap (λ (t : Edge). t.b) goes) ∙ starts

        turns_back : step top.edge.b top.edge.a ≡ step first second
        turns_back = sym (ap (λ b. cond b (step top.edge.b top.edge.a) top.edge) (hand ∙ g)) ∙ begun

        other : first ≡ a → ⊥
        other q = along_apart output links are first second (top, top_here, begun) (q ∙ (sym top_at ∙ ap (λ (t : Edge). t.b) turns_back))

        by : (w : Point) × Has (steps_to first (second ∷ p.rest)) (step a w) × Beyond true a s.a w → ⊥
        by (w, next, l) =
            not_lower e low w true (step a w) (in_points (step a w) (inr next)) (step_of_links (step a w) (in_points (step a w) (inr next))) (inl refl)
            (subst (λ z. pos 0 <ℤ turn a w z) (sym (ap (λ (t : Edge). t.a) goes) ∙ ap (λ (t : Edge). t.b) is) l)
    never_same e low m has is s along here false false f g h = by (from_points s here)
      where
        goes : m.edge ≡ s
        goes = sym (ap (λ b. cond b (step m.edge.b m.edge.a) m.edge) f) ∙ along

        end_is : e.b ≡ s.b
        end_is = sym (ap (λ (t : Edge). t.b) is) ∙ ap (λ (t : Edge). t.b) goes

        at : s.a ≡ a
        at = sym (ap (λ (t : Edge). t.a) goes) ∙ (ap (λ (t : Edge). t.a) is ∙ low.starts)

        goes_on : top.edge ≡ step first second
        goes_on = sym (ap (λ b. cond b (step top.edge.b top.edge.a) top.edge) (hand ∙ g)) ∙ begun

        first_is : first ≡ a
        first_is = sym (ap (λ (t : Edge). t.a) goes_on) ∙ top_at

        clash : (u : Point) → Has (contour_steps points) (step u a) → pos 0 <ℤ turn a u s.b → ⊥
        clash u came l = not_lower e low u false (step u a) came (step_of_links (step u a) came) (inr refl) (subst (λ z. pos 0 <ℤ turn a u z) (sym end_is) l)

        last_came : Has (contour_steps points) (step p.end a)
        last_came = subst (λ z. Has (contour_steps points) (step p.end z)) first_is (in_points (step p.end first) (inr p.ends))

        last_below : pos 0 <ℤ turn a p.end top.edge.b
        last_below = below_top false (hand ∙ g) p.end false (step_of_links (step p.end a) last_came) (λ q. false≢true (ap (λ (s : Spoke). s.out) q))

        by : Has (steps_to first (first ∷ second ∷ p.rest)) s → ⊥
        by (inl q) = clash p.end last_came (subst (λ z. pos 0 <ℤ turn a p.end z) (ap (λ (t : Edge). t.b) goes_on ∙ ap (λ (t : Edge). t.b) q) last_below)
        by (inr k) =
            let f = predecessor false a first first second p.rest s (subst (λ z. Bends z a first first (second ∷ p.rest)) g (p.bends a (bounded c hand))) k at in
            clash f.0 (in_points (step f.0 a) f.1) f.2
    never_same e low m has is s along here true false f g h = false≢true (sym h)
    never_same e low m has is s along here false true f g h = false≢true h

    -- the lowest edge has the region on the other side than the topmost
    lowest_sided : (e : Edge) × (lowest_from a (contour_edges points) ≡ Some e) × (m : Border) × Has links m × (m.edge ≡ e) × (m.above ≡ not top.above)
    lowest_sided = by (some_lowest a (contour_edges points) (between first second) (edge_of_step (step first second) (in_points (step first second) (inl refl))) (ap (λ (t : Edge). t.a) (link_edge (step first second) (top, top_here, begun)) ∙ top_at))
      where
        sides : (u t o : Bool) → (is_same u o ≡ is_same t o → ⊥) → u ≡ not t
        sides true true o h = absurd (h refl)
        sides true false o h = refl
        sides false true o h = refl
        sides false false o h = absurd (h refl)

        linked : (e : Edge) → lowest_from a (contour_edges points) ≡ Some e → IsLowest a (contour_edges points) e → (s : Edge) × Has (contour_steps points) s × (between s.a s.b ≡ e)
            → (m : Border) × Has links m × (m.edge ≡ e) × (m.above ≡ not top.above)
        linked e f low (s, here, is) =
            let k = step_of_links s here in
            let same : (k.0).edge ≡ e = sym (link_edge s k) ∙ is in
            (k.0, k.1, same, sides (k.0).above top.above output (λ q. never_same e low k.0 k.1 same s k.2 here (is_same (k.0).above output) c refl refl (q ∙ hand)))

        by : (e : Edge) × (lowest_from a (contour_edges points) ≡ Some e) → (e : Edge) × (lowest_from a (contour_edges points) ≡ Some e) × (m : Border) × Has links m × (m.edge ≡ e) × (m.above ≡ not top.above)
        by (e, f) =
            let low = lowest_found a (contour_edges points) edges_after e f in
            let k = linked e f low (step_of_edge e low.here) in
            (e, f, k.0, k.1, k.2, k.3)

  pub contour_sided : IsSided links (contour_from output links top)
  contour_sided =
      let k = lowest_sided (is_same top.above output) refl (step_along output top).a (step_along output top).b refl (contour_passed output links are wheels top top_here) in
      (k.0, at_least_point k.0 k.1, k.2, k.3, k.4, k.5)
    where
      at_least_point : (e : Edge) → lowest_from a (contour_edges points) ≡ Some e → anchor points ≡ Some e
      at_least_point e f =
          let lowest : Option Point → Option Edge =
          λ o. elim o [
            | None ↦ None
            | Some v ↦ lowest_from v (contour_edges points)
          ] in
          ap lowest (contour_begins output l ls top are wheels found).0 ∙ f

-- ---- all contours

-- whether the region is above a link's edge
above_of_link : (links : List Border) → AreLinks links → (m : Border) → Has links m → is_above links m.edge ≡ m.above
above_of_link links are m here = by links are.distinct here
  where
    by : (ls : List Border) → Pairs (λ l m. l.edge ≡ m.edge → ⊥) ls → Has ls m → is_above ls m.edge ≡ m.above
    by [] apart k = absurd k
    by (l ∷ ls) apart (inl e) = ap (λ b. cond b l.above (is_above ls m.edge)) (same_edge_itself l.edge m.edge (ap (λ k. k.edge) e)) ∙ ap (λ k. k.above) e
    by (l ∷ ls) apart (inr k) = either (same_edge l.edge m.edge) refl (by ls apart.1 k)
      where
        either : (b : Bool) → same_edge l.edge m.edge ≡ b → is_above ls m.edge ≡ m.above → cond b l.above (is_above ls m.edge) ≡ m.above
        either true e h = absurd (each_has (λ n. l.edge ≡ n.edge → ⊥) ls m apart.0 k (same_edge_is l.edge m.edge e))
        either false e h = h

all_sided : (output : Bool) (links : List Border) → AreLinks links → Alternates false (Along output links) (Along output links) → Each (IsSided links) (walks output links)
all_sided output links are wheels = all_walks output (λ links cs. Each (IsSided links) cs) tt one_more (length links) links (omega arith) are wheels
  where
    one_more : (l : Border) (ls : List Border) (top : Border) (cs : List Contour) → AreLinks (l ∷ ls) → Alternates false (Along output (l ∷ ls)) (Along output (l ∷ ls)) → top_link l.edge.a (l ∷ ls) ≡ Some top
        → Each (IsSided (left_by (contour_from output (l ∷ ls) top).points (l ∷ ls))) cs → Each (IsSided (l ∷ ls)) (contour_from output (l ∷ ls) top ∷ cs)
    one_more l ls top cs are wheels e behind = (
      contour_sided output l ls top are wheels e,
      each_weaker (IsSided (left_by (contour_from output (l ∷ ls) top).points (l ∷ ls))) (IsSided (l ∷ ls))
          (λ c k. (k.0, k.1, k.2, (filter_from (λ m. not (is_one_of (contour_edges (contour_from output (l ∷ ls) top).points) m.edge)) (l ∷ ls) k.2 k.3).0, k.4, k.5)) cs behind,
    )

pub anchors_are_sided : PointsHaveRings → NodeRing → AnchorsAreSided
anchors_are_sided points rings fill rule es output c arranged here =
    let are = borders_are_links fill rule es output arranged in
    let k = each_has (IsSided (borders fill rule es)) (walks output (borders fill rule es)) c (all_sided output (borders fill rule es) are (borders_alternate fill rule es output arranged points rings)) (has_from_contains (walks output (borders fill rule es)) c here) in
    (k.0, k.1, ap (is_above (borders fill rule es)) (sym k.4) ∙ (above_of_link (borders fill rule es) are k.2 k.3 ∙ k.5))

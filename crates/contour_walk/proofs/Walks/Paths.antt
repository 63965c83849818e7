-- All walks of links that alternate at each node pass each link once, with the region on one hand.
use Rattle.std.proofs.Common.{◌≡◌, ℕ, zero, suc, ◌<◌, ◌≤◌, Bool, true, false, not, cond, List, [], ◌∷◌, ◌++◌, map, flat_map, length, length-append, Option, Some, None, ◌⊎◌, inl, inr, IsPermutation, int_lt, pos, refl, sym, ap, ◌∙◌, subst, arith}
use Rattle.std.proofs.lemmas.Bool.{false≢true}
use Rattle.std.proofs.lemmas.List.{length-map}
use Rattle.std.proofs.lemmas.List.Sorted.{IsPermutation-refl, IsPermutation-trans, IsPermutation-cons, IsPermutation-append_right, IsPermutation-map, length_permutation}
use Rattle.plane_base.specs.Plane.{Point, Edge, turn}
use Rattle.contour_walk.specs.Walks.{Border, Contour, same_point, same_edge, between, without, next_point, walked, walk_from, is_same, contour_from, upper, top_link, left_by, walks_within, contour_edges, is_one_of}
use Rattle.contour_walk.specs.WalkLaws.{step_along, steps_to, contour_steps, contours_of, PassAll, walk_along, AnyWalks, none, one_more}
use Rattle.contour_walk.proofs.Facts.Walks.Laws.{walked_to_the_last, walked_on, walk_begun}
use Rattle.contour_walk.proofs.Facts.Walks.Turns.{Turns, turns_otherwise, Has}
use Rattle.contour_walk.proofs.Facts.Walks.Rings.{each_has, Spoke, spoke, Lies, IsSpoke, TurnsAt, IsWheel, Alternates, wheel_from, same_spokes, neighbour}
use Rattle.contour_walk.proofs.Facts.Walks.Rings.{wheels_either_way}
use Rattle.contour_walk.proofs.Walks.Members.{has_from_contains}
use Rattle.contour_walk.proofs.Walks.Links.{same_point_is, same_point_itself, same_edge_is, same_edge_itself, AreLinks, kept_links, Along, along_apart, next_is, left_or_gone, left_before, gone, one_edge, one_goes}
use Rattle.contour_walk.proofs.Walks.Bends.{Beyond, Bends, AreBounded, bends_here, bounded_after}
use Rattle.contour_walk.proofs.Walks.Steps.{step, not_passed, not_passed_more, not_passed_last, Outward, Inward, IsWalking, GoesOn, goes_on, still_walking, wheels_at_end}

module _ (output : Bool) (first : Point) where
  -- a path passes links once, and those that it leaves alternate again
  pub record Passes (c : Bool) (links : List Border) (points : List Point) : Type 0 where
    pub passed : IsPermutation (map (step_along output) links) (steps_to first points ++ map (step_along output) (not_passed first points links))
    pub wheels : Alternates c (Along output (not_passed first points links)) (Along output (not_passed first points links))

  stepped : (links : List Border) → AreLinks links → (v w : Point) → Along output links (step v w) → IsPermutation (map (step_along output) links) (step v w ∷ map (step_along output) (without (between v w) links))
  stepped links are v w here =
      subst (λ s. IsPermutation (map (step_along output) links) (s ∷ map (step_along output) (without (between v w) links))) here.2
      (IsPermutation-map (step_along output) links (here.0 ∷ without (between v w) links) (one_goes output links are v w here))

  passes_last : (c : Bool) (links : List Border) → AreLinks links → (v : Point) → Along output links (step v first)
      → Alternates c (Along output (without (between v first) links)) (Along output (without (between v first) links)) → Passes c links (v ∷ [])
  passes_last c links are v here wheels = record {
    passed = subst (λ l. IsPermutation (map (step_along output) links) (step v first ∷ map (step_along output) l)) (not_passed_last first v links) (stepped links are v first here);
    wheels = subst (λ l. Alternates c (Along output l) (Along output l)) (not_passed_last first v links) wheels;
  }

  pub passes_more : (c : Bool) (links : List Border) → AreLinks links → (v w : Point) (tail : List Point) → Along output links (step v w) → Passes c (without (between v w) links) (w ∷ tail) → Passes c links (v ∷ w ∷ tail)
  passes_more c links are v w tail here p = record {
    passed =
        IsPermutation-trans (map (step_along output) links) (step v w ∷ map (step_along output) (without (between v w) links)) (steps_to first (v ∷ w ∷ tail) ++ map (step_along output) (not_passed first (v ∷ w ∷ tail) links)) (stepped links are v w here)
        (IsPermutation-cons (step v w) (map (step_along output) (without (between v w) links)) (steps_to first (w ∷ tail) ++ map (step_along output) (not_passed first (v ∷ w ∷ tail) links))
        (subst (λ l. IsPermutation (map (step_along output) (without (between v w) links)) (steps_to first (w ∷ tail) ++ map (step_along output) l)) (not_passed_more first v w tail links) p.passed));
    wheels = subst (λ l. Alternates c (Along output l) (Along output l)) (not_passed_more first v w tail links) p.wheels;
  }

  module _ (c : Bool) (second end : Point) where
    -- what a walk gives from v on
    pub record Walked (links : List Border) (v from : Point) (points : List Point) : Type 0 where
      pub tail : List Point
      pub is : points ≡ v ∷ tail
      pub passes : Passes c links (v ∷ tail)
      pub ends : Has (steps_to first (v ∷ tail)) (step end first)
      pub bends : (a : Point) → AreBounded c (Outward output c first second end links) (Inward output c first second end links v from) a → Bends c a first from (v ∷ tail)

    -- one step, and what comes after it
    walk_on : (n : ℕ) (links : List Border) (v from w : Point) → IsWalking output c first second end links v from → GoesOn output c first second end links v from w
        → ((step v w ≡ step end first → ⊥) → Walked (without (between v w) links) w v (walked c (between end first) n (without (between v w) links) w v))
        → Walked links v from (walked c (between end first) (suc n) links v from)
    walk_on n links v from w h g behind = by (same_edge (between v w) (between end first)) refl
      where
        onward : Walked (without (between v w) links) w v (walked c (between end first) n (without (between v w) links) w v) → same_edge (between v w) (between end first) ≡ false
            → Walked links v from (walked c (between end first) (suc n) links v from)
        onward k e = record {
          tail = w ∷ k.tail;
          is = walked_on c (between end first) (suc n) n links v from refl [] w g.next e ∙ ap (λ l. v ∷ l) k.is;
          passes = passes_more c links h.are v w k.tail g.here k.passes;
          ends = inr k.ends;
          bends = λ a bounded.
              (bends_here output c first second end links v from h w g a bounded, k.bends a (bounded_after output c first second end links v from h w g a bounded));
        }

        ended : step v w ≡ step end first → same_edge (between v w) (between end first) ≡ true → Walked links v from (walked c (between end first) (suc n) links v from)
        ended at e = record {
          tail = [];
          is = walked_to_the_last c (between end first) (suc n) n links v from refl [] w g.next e;
          passes =
              passes_last c links h.are v (subst (λ z. Along output links (step v z)) w_is g.here)
              (subst (λ z. Alternates c (Along output (without (between v z) links)) (Along output (without (between v z) links))) w_is
              (wheels_at_end output c first second end (without (between v w) links)
              (subst (λ (s : Edge). Alternates c (Outward output c first second end (without (between v w) links)) (λ t. (s ≡ t) ⊎ Along output (without (between v w) links) t)) at g.wheels)
              (λ k. h.begun (left_before output links h.are v w g.here (step first second) k))
              (λ k. gone output links h.are v w g.here (subst (Along output (without (between v w) links)) (sym at) k))
              (λ far out k. h.enclosed far out (still far out k))));
          ends = inl (λ i. step (ap (λ (s : Edge). s.a) at i) first);
          bends = λ a bounded here. subst (Beyond c a from) w_is (bends_here output c first second end links v from h w g a bounded here);
        }
          where
            w_is : w ≡ first
            w_is = ap (λ (s : Edge). s.b) at

            still : (far : Point) (out : Bool) → Lies (Outward output c first second end (without (between v w) links)) (Inward output c first second end (without (between v w) links) first end) first far out
                → Lies (Outward output c first second end links) (Inward output c first second end links v from) first far out
            still far true (inl f) = inl f
            still far true (inr k) = inr (left_before output links h.are v w g.here (step first far) k)
            still far false (inl f) = inr (subst (Along output links) f h.last_left)
            still far false (inr k) = inr (left_before output links h.are v w g.here (step far first) k)

        by : (b : Bool) → same_edge (between v w) (between end first) ≡ b → Walked links v from (walked c (between end first) (suc n) links v from)
        by true e = ended (one_edge output links h.are v w g.here (step end first) h.last_left (sym (same_edge_is (between v w) (between end first) e))) e
        by false e = onward (behind (λ at. false≢true (sym e ∙ same_edge_itself (between v w) (between end first) (ap (λ (s : Edge). between s.a s.b) at)))) e

    shorter : (links : List Border) → AreLinks links → (v w : Point) → Along output links (step v w) → length links ≡ suc (length (without (between v w) links))
    shorter links are v w here = sym (length_permutation links (here.0 ∷ without (between v w) links) (one_goes output links are v w here))

    pub walked_right : (n : ℕ) (links : List Border) (v from : Point) → length links ≤ n → IsWalking output c first second end links v from → Walked links v from (walked c (between end first) n links v from)
    walked_right zero links v from short h = let e = shorter links h.are end first h.last_left in absurd (omega arith)
    walked_right (suc n) links v from short h =
        let g = goes_on output c first second end links v from h in
        let e : length links ≡ suc (length (without (between v g.0) links)) = shorter links h.are v g.0 (g.1).here in
        walk_on n links v from g.0 h g.1
        (λ other. walked_right n (without (between v g.0) links) g.0 v (omega arith) (still_walking output c first second end links v from h g.0 g.1 other))

-- ---- a whole walk

module _ (output : Bool) (links : List Border) (are : AreLinks links) (alternate : Alternates false (Along output links) (Along output links)) where
  -- what a whole walk gives
  record Begun (c : Bool) (first second : Point) (points : List Point) : Type 0 where
    rest : List Point
    is : points ≡ first ∷ second ∷ rest
    passes : Passes output first c links (first ∷ second ∷ rest)
    end : Point
    ends : Has (steps_to first (second ∷ rest)) (step end first)
    bends : (a : Point) → AreBounded c (Along output links) (Along output links) a → Bends c a first first (second ∷ rest)

  module _ (c : Bool) (first second : Point) (here : Along output links (step first second)) where
    abbrev left : List Border
    left = without (between first second) links

    to_outward : (end : Point) (s : Edge) → Along output links s → Outward output c first second end left s
    to_outward end s k = left_or_gone output links are first second here s k

    from_outward : (end : Point) (s : Edge) → Outward output c first second end left s → Along output links s
    from_outward end s (inl e) = subst (Along output links) e here
    from_outward end s (inr k) = left_before output links are first second here s k

    begun_wheels : (end : Point) → Alternates c (Outward output c first second end left) (Inward output c first second end left second first)
    begun_wheels end u =
        let k = wheels_either_way false c alternate u in
        (k.0, same_spokes (Outward output c first second end left) (Inward output c first second end left second first) k.0 k.1 (λ s. to s.far s.out) (λ s. from s.far s.out))
      where
        to : (far : Point) (out : Bool) → Lies (Along output links) (Along output links) u far out → Lies (Outward output c first second end left) (Inward output c first second end left second first) u far out
        to far true k = to_outward end (step u far) k
        to far false k = to_outward end (step far u) k

        from : (far : Point) (out : Bool) → Lies (Outward output c first second end left) (Inward output c first second end left second first) u far out → Lies (Along output links) (Along output links) u far out
        from far true k = from_outward end (step u far) k
        from far false k = from_outward end (step far u) k

    -- the last link
    module _ (end : Point) (more : List Spoke) (wheel : IsWheel (not c) (Along output links) (Along output links) first (spoke second true ∷ spoke end false ∷ more)) where
      last_left : Along output left (step end first)
      last_left = by (left_or_gone output links are first second here (step end first) ((wheel.sound).1).0)
        where
          by : (step first second ≡ step end first) ⊎ Along output left (step end first) → Along output left (step end first)
          by (inl e) = absurd (along_apart output links are first second here (sym (ap (λ (s : Edge). s.b) e)))
          by (inr k) = k

      among : (far : Point) (out : Bool) → Lies (Along output left) (Along output left) first far out → Has (spoke end false ∷ more) (spoke far out)
      among far out k = by (wheel.complete (spoke far out) (before far out k))
        where
          before : (far : Point) (out : Bool) → Lies (Along output left) (Along output left) first far out → Lies (Along output links) (Along output links) first far out
          before far true k = left_before output links are first second here (step first far) k
          before far false k = left_before output links are first second here (step far first) k

          by : Has (spoke second true ∷ spoke end false ∷ more) (spoke far out) → Has (spoke end false ∷ more) (spoke far out)
          by (inl e) = absurd (gone output links are first second here (subst (λ (s : Spoke). IsSpoke (Along output left) (Along output left) first s) (sym e) k))
          by (inr j) = j

      pub last_is : next_point (not c) left first second ≡ Some end
      last_is = next_is output (not c) first (spoke second true) (spoke end false) more left wheel.order (kept_links (λ l. not (same_edge l.edge (between first second))) links are) among last_left

      enclosed : (far : Point) (out : Bool) → Lies (Outward output c first second end left) (Inward output c first second end left second first) first far out → (far ≡ second) ⊎ ((far ≡ end) ⊎ Turns c first second far end)
      enclosed far out k = by (wheel.complete (spoke far out) (from far out k))
        where
          from : (far : Point) (out : Bool) → Lies (Outward output c first second end left) (Inward output c first second end left second first) first far out → Lies (Along output links) (Along output links) first far out
          from far true k = from_outward end (step first far) k
          from far false k = from_outward end (step far first) k

          twice : (b : Bool) → not (not b) ≡ b
          twice true = refl
          twice false = refl

          by : Has (spoke second true ∷ spoke end false ∷ more) (spoke far out) → (far ≡ second) ⊎ ((far ≡ end) ⊎ Turns c first second far end)
          by (inl e) = inl (sym (ap (λ s. s.far) e))
          by (inr (inl e)) = inr (inl (sym (ap (λ s. s.far) e)))
          by (inr (inr j)) =
              inr (inr (subst (λ b. Turns b first second far end) (twice c)
              (turns_otherwise (not c) first second end far (each_has (TurnsAt (not c) first (spoke second true) (spoke end false)) more (spoke far out) ((wheel.order).0).0 j))))

      pub walking : IsWalking output c first second end left second first
      walking = record {
        are = kept_links (λ l. not (same_edge l.edge (between first second))) links are;
        wheels = begun_wheels end;
        begun = gone output links are first second here;
        come = gone output links are first second here;
        last_left = last_left;
        enclosed = enclosed;
      }

    shorter_left : length links ≡ suc (length left)
    shorter_left = sym (length_permutation links (here.0 ∷ left) (one_goes output links are first second here))

    begun_bounded : (a end far : Point) → (x : Point) × (out : Bool) × Lies (Along output links) (Along output links) a x out × Beyond c a far x
        → (x : Point) × (out : Bool) × Lies (Outward output c first second end left) (Inward output c first second end left second first) a x out × Beyond c a far x
    begun_bounded a end far (x, true, lies, l) = (x, true, to_outward end (step a x) lies, l)
    begun_bounded a end far (x, false, lies, l) = (x, false, to_outward end (step x a) lies, l)

    -- the walk that begins with the link
    begun_right : Begun c first second (walk_from c links first second)
    begun_right = by (wheels_either_way false (not c) alternate first)
      where
        whole : (end : Point) (more : List Spoke) → IsWheel (not c) (Along output links) (Along output links) first (spoke second true ∷ spoke end false ∷ more)
            → Walked output first c second end left second first (walked c (between end first) (length links) left second first) → Begun c first second (walk_from c links first second)
        whole end more wheel k = record {
          rest = k.tail;
          is = sym (walk_begun c links left first second end (between end first) (length links) refl (last_is end more wheel) refl refl) ∙ ap (λ l. first ∷ l) k.is;
          passes = passes_more output first c links are first second k.tail here k.passes;
          end = end;
          ends = k.ends;
          bends = λ a bounded. k.bends a (λ far here. begun_bounded a end far (bounded far (from_outward end (step far a) here)));
        }

        found : (rest : List Spoke) → IsWheel (not c) (Along output links) (Along output links) first (spoke second true ∷ rest) → Begun c first second (walk_from c links first second)
        found rest wheel =
            let n = neighbour (spoke second true) rest wheel in
            whole n.0 n.1 n.2 (walked_right output first c second n.0 (length links) left second first (omega (arith, shorter_left)) (walking n.0 n.1 n.2))

        by : (spokes : List Spoke) × IsWheel (not c) (Along output links) (Along output links) first spokes → Begun c first second (walk_from c links first second)
        by (spokes, wheel) = let f = wheel_from spokes (spoke second true) wheel here in found f.0 f.1

  -- a contour's steps, and what it leaves
  pub record IsPassed (c : Bool) (first second : Point) (points : List Point) : Type 0 where
    pub rest : List Point
    pub is : points ≡ first ∷ second ∷ rest
    pub end : Point
    pub ends : Has (steps_to first (second ∷ rest)) (step end first)
    pub bends : (a : Point) → AreBounded c (Along output links) (Along output links) a → Bends c a first first (second ∷ rest)
    pub passed : IsPermutation (map (step_along output) links) (contour_steps points ++ map (step_along output) (left_by points links))
    pub wheels : Alternates false (Along output (left_by points links)) (Along output (left_by points links))
    pub some : length (left_by points links) < length links

  whole_passed : (c : Bool) (first second : Point) (points : List Point) → Begun c first second points → IsPassed c first second points
  whole_passed c first second points w = subst (IsPassed c first second) (sym w.is) (record {
    rest = w.rest;
    is = refl;
    end = w.end;
    ends = w.ends;
    bends = w.bends;
    passed = (w.passes).passed;
    wheels = wheels_either_way c false (w.passes).wheels;
    some =
        fewer (first ∷ second ∷ w.rest) (more w.rest)
        (sym (length_permutation (map (step_along output) links) (steps_to first (first ∷ second ∷ w.rest) ++ map (step_along output) (not_passed first (first ∷ second ∷ w.rest) links)) (w.passes).passed));
  })
    where
      more : (tail : List Point) → length (map (step_along output) (not_passed first (first ∷ second ∷ tail) links)) < length (steps_to first (first ∷ second ∷ tail) ++ map (step_along output) (not_passed first (first ∷ second ∷ tail) links))
      more tail = rw length-append (omega arith)

      fewer : (ps : List Point) → length (map (step_along output) (not_passed first ps links)) < length (steps_to first ps ++ map (step_along output) (not_passed first ps links))
          → length (map (step_along output) links) ≡ length (steps_to first ps ++ map (step_along output) (not_passed first ps links)) → length (not_passed first ps links) < length links
      fewer ps k e =
          let m : length (map (step_along output) links) ≡ length links = length-map links (step_along output) in
          let n : length (map (step_along output) (not_passed first ps links)) ≡ length (not_passed first ps links) = length-map (not_passed first ps links) (step_along output) in
          omega arith

  -- the ends of a link in the order in which a walk that begins with it passes them
  abbrev pub first_of : Border → Point
  first_of top = (step_along output top).a

  abbrev pub second_of : Border → Point
  second_of top = (step_along output top).b

  -- a walk that begins with any link, in either rotation
  pub walk_passed : (c : Bool) (l : Border) → Has links l → IsPassed c (first_of l) (second_of l) (walk_along c output links l)
  walk_passed c l here = whole_passed c (first_of l) (second_of l) (walk_along c output links l) (begun_right c (first_of l) (second_of l) (l, here, refl))

  pub contour_passed : (top : Border) → Has links top → IsPassed (is_same top.above output) (first_of top) (second_of top) (contour_from output links top).points
  contour_passed top here = by (is_same top.above output) refl
    where
      by : (c : Bool) → is_same top.above output ≡ c
          → IsPassed c (cond c (step top.edge.b top.edge.a) top.edge).a (cond c (step top.edge.b top.edge.a) top.edge).b (cond c (walk_from c links top.edge.b top.edge.a) (walk_from c links top.edge.a top.edge.b))
      by true e =
          whole_passed true top.edge.b top.edge.a (walk_from true links top.edge.b top.edge.a)
          (begun_right true top.edge.b top.edge.a (top, here, ap (λ t. cond t (step top.edge.b top.edge.a) top.edge) e))
      by false e =
          whole_passed false top.edge.a top.edge.b (walk_from false links top.edge.a top.edge.b)
          (begun_right false top.edge.a top.edge.b (top, here, ap (λ t. cond t (step top.edge.b top.edge.a) top.edge) e))

-- ---- all walks

some_border : {l m : Border} → Some l ≡ Some m → l ≡ m
some_border e = cc

-- the topmost of links is one of them
pub top_of_links : (v : Point) (links : List Border) (m : Border) → top_link v links ≡ Some m → Has links m
top_of_links v [] m e = absurd (cc)
top_of_links v (l ∷ ls) m e = by (same_point l.edge.a v) (top_link v ls) (λ k f. top_of_links v ls k f) e
  where
    by : (b : Bool) (o : Option Border) → ((k : Border) → o ≡ Some k → Has ls k) → cond b (Some (upper l o)) o ≡ Some m → Has (l ∷ ls) m
    by true None behind f = inl (some_border f)
    by true (Some k) behind f = either (int_lt (pos 0) (turn l.edge.a l.edge.b k.edge.b)) (some_border f)
      where
        either : (b : Bool) → cond b k l ≡ m → Has (l ∷ ls) m
        either true g = inr (behind m (ap Some g))
        either false g = inl g
    by false o behind f = inr (behind m f)

pub top_starts : (v : Point) (links : List Border) (m : Border) → top_link v links ≡ Some m → m.edge.a ≡ v
top_starts v [] m e = absurd (cc)
top_starts v (l ∷ ls) m e = by (same_point l.edge.a v) refl (top_link v ls) (λ k f. top_starts v ls k f) e
  where
    by : (b : Bool) → same_point l.edge.a v ≡ b → (o : Option Border) → ((k : Border) → o ≡ Some k → k.edge.a ≡ v) → cond b (Some (upper l o)) o ≡ Some m → m.edge.a ≡ v
    by true g None behind f = ap (λ k. k.edge.a) (sym (some_border f)) ∙ same_point_is l.edge.a v g
    by true g (Some k) behind f = either (int_lt (pos 0) (turn l.edge.a l.edge.b k.edge.b)) (some_border f)
      where
        either : (b : Bool) → cond b k l ≡ m → m.edge.a ≡ v
        either true h = behind m (ap Some h)
        either false h = ap (λ k. k.edge.a) (sym h) ∙ same_point_is l.edge.a v g
    by false g o behind f = behind m f

-- what holds of no walks, and of one more than those of what it leaves, holds of all
module _ (output : Bool) (P : List Border → List Contour → Type 0) (none : P [] [])
    (one_more : (l : Border) (ls : List Border) (top : Border) (cs : List Contour) → AreLinks (l ∷ ls) → Alternates false (Along output (l ∷ ls)) (Along output (l ∷ ls)) → top_link l.edge.a (l ∷ ls) ≡ Some top
    → P (left_by (contour_from output (l ∷ ls) top).points (l ∷ ls)) cs → P (l ∷ ls) (contour_from output (l ∷ ls) top ∷ cs)) where
  pub all_walks : (n : ℕ) (links : List Border) → length links ≤ n → AreLinks links → Alternates false (Along output links) (Along output links) → P links (walks_within n output links)
  all_walks zero [] short are wheels = none
  all_walks zero (l ∷ ls) short are wheels = absurd (omega arith)
  all_walks (suc n) [] short are wheels = none
  all_walks (suc n) (l ∷ ls) short are wheels = by (top_link l.edge.a (l ∷ ls)) refl (λ links fewer are wheels. all_walks n links fewer are wheels)
    where
      found : top_link l.edge.a (l ∷ ls) ≡ Some (upper l (top_link l.edge.a ls))
      found = ap (λ b. cond b (Some (upper l (top_link l.edge.a ls))) (top_link l.edge.a ls)) (same_point_itself l.edge.a l.edge.a refl)

      never : None ≡ Some (upper l (top_link l.edge.a ls)) → ⊥
      never e = absurd (cc)

      by : (o : Option Border) → top_link l.edge.a (l ∷ ls) ≡ o
          → ((links : List Border) → length links ≤ n → AreLinks links → Alternates false (Along output links) (Along output links) → P links (walks_within n output links))
          → P (l ∷ ls) (elim o [
            | None ↦ []
            | Some top ↦ contour_from output (l ∷ ls) top ∷ walks_within n output (left_by (contour_from output (l ∷ ls) top).points (l ∷ ls))
          ])
      by None e behind = absurd (never (sym e ∙ found))
      by (Some top) e behind =
          let points : List Point = (contour_from output (l ∷ ls) top).points in
          let p = contour_passed output (l ∷ ls) are wheels top (top_of_links l.edge.a (l ∷ ls) top e) in
          one_more l ls top (walks_within n output (left_by points (l ∷ ls))) are wheels e
          (behind (left_by points (l ∷ ls)) (omega (arith, p.some)) (kept_links (λ m. not (is_one_of (contour_edges points) m.edge)) (l ∷ ls) are) p.wheels)

pub walks_pass_all : (output : Bool) (links : List Border) → AreLinks links → Alternates false (Along output links) (Along output links)
    → IsPermutation (map (step_along output) links) (flat_map contour_steps (contours_of output links))
walks_pass_all output links are wheels =
    all_walks output (λ ls cs. IsPermutation (map (step_along output) ls) (flat_map contour_steps (map (λ (c : Contour). c.points) cs))) (IsPermutation-refl [])
    one_more (length links) links (omega arith) are wheels
  where
    one_more : (l : Border) (ls : List Border) (top : Border) (cs : List Contour) → AreLinks (l ∷ ls) → Alternates false (Along output (l ∷ ls)) (Along output (l ∷ ls)) → top_link l.edge.a (l ∷ ls) ≡ Some top
        → IsPermutation (map (step_along output) (left_by (contour_from output (l ∷ ls) top).points (l ∷ ls))) (flat_map contour_steps (map (λ (c : Contour). c.points) cs))
        → IsPermutation (map (step_along output) (l ∷ ls)) (flat_map contour_steps (map (λ (c : Contour). c.points) (contour_from output (l ∷ ls) top ∷ cs)))
    one_more l ls top cs are wheels e behind =
        let points : List Point = (contour_from output (l ∷ ls) top).points in
        IsPermutation-trans (map (step_along output) (l ∷ ls)) (contour_steps points ++ map (step_along output) (left_by points (l ∷ ls)))
        (contour_steps points ++ flat_map contour_steps (map (λ (c : Contour). c.points) cs)) (contour_passed output (l ∷ ls) are wheels top (top_of_links l.edge.a (l ∷ ls) top e)).passed
        (IsPermutation-append_right (contour_steps points) (map (step_along output) (left_by points (l ∷ ls))) (flat_map contour_steps (map (λ (c : Contour). c.points) cs)) behind)

pub any_walks_pass : (output : Bool) (links : List Border) (contours : List (List Point)) → AnyWalks output links contours → AreLinks links → Alternates false (Along output links) (Along output links) → PassAll output links contours
any_walks_pass output links contours none are wheels = IsPermutation-refl []
any_walks_pass output links contours (one_more ls l clockwise rest here behind) are wheels =
    let points : List Point = walk_along clockwise output ls l in
    let p = walk_passed output ls are wheels clockwise l (has_from_contains ls l here) in
    IsPermutation-trans (map (step_along output) ls) (contour_steps points ++ map (step_along output) (left_by points ls)) (contour_steps points ++ flat_map contour_steps rest) p.passed
    (IsPermutation-append_right (contour_steps points) (map (step_along output) (left_by points ls)) (flat_map contour_steps rest)
    (any_walks_pass output (left_by points ls) rest behind (kept_links (λ m. not (is_one_of (contour_edges points) m.edge)) ls are) p.wheels))

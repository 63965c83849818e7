-- Passes of walks never cross: the earlier one goes on by the link that is met first of all that are left, and the later one's are left.
use Rattle.std.proofs.Common.{◌≡◌, ℕ, zero, suc, ◌≤◌, Bool, true, false, not, cond, List, [], ◌∷◌, ◌++◌, flat_map, length, Some, ◌⊎◌, inl, inr, refl, sym, ap, ◌∙◌, subst, arith}
use Rattle.std.proofs.lemmas.Bool.{false≢true}
use Rattle.std.proofs.lemmas.List.Sorted.{length_permutation}
use Rattle.plane_base.specs.Plane.{Point, Edge}
use Rattle.plane_base.specs.Counts.{Count, Entry}
use Rattle.plane_base.specs.Regions.{FillRule, OverlayRule}
use Rattle.segment_arrangement.specs.Rings.{PointsHaveRings, NodeRing}
use Rattle.segment_arrangement.specs.SideLaws.{IsArrangement}
use Rattle.contour_walk.specs.Walks.{Border, Contour, same_edge, between, without, walked, walk_from, is_same, contour_from, top_link, left_by, path_edges, contour_edges, is_one_of, walks}
use Rattle.contour_walk.specs.WalkLaws.{borders}
use Rattle.contour_walk.proofs.Facts.Walks.Turns.{not_apart, Turns, turns_on, never_both_ways, Has}
use Rattle.contour_walk.proofs.Facts.Walks.Rings.{Each, Pairs, each_has, each_weaker, each_append, pairs_weaker, Spoke, spoke, Lies, TurnsAt, IsWheel, Alternates, wheel_from, neighbour, wheels_either_way}
use Rattle.contour_walk.proofs.Facts.Walks.Laws.{walked_to_the_last, walked_on, walk_begun}
use Rattle.contour_walk.proofs.Walks.Members.{all_pairs_from}
use Rattle.contour_walk.proofs.Walks.Links.{same_edge_is, same_edge_itself, AreLinks, Along, along_apart, left_before, gone, one_edge, one_goes, filter_from}
use Rattle.contour_walk.proofs.Walks.Nodes.{borders_are_links, borders_alternate}
use Rattle.contour_walk.proofs.Walks.Paths.{last_is, walking, top_of_links, all_walks}
use Rattle.contour_walk.proofs.Walks.Steps.{step, not_passed, not_passed_more, not_passed_last, IsNear, near_of_has, Outward, Inward, IsWalking, GoesOn, goes_on, still_walking, before_in, before, not_come}
use Rattle.polygon_overlay.proofs.Nesting.CrossLaws.{AreAside, itself, earlier, later}
use Rattle.polygon_overlay.specs.PassLaws.{Pass, passes_from, passes, DontCross, PassesNeverCross}

abbrev pass : Point → Point → Point → Pass
pass from at to = record { from = from; at = at; to = to }

-- turning from where the one comes from one meets where it goes before both points of the other
abbrev pub Uncrossed : Bool → Pass → Pass → Type 0
Uncrossed c one other = one.at ≡ other.at → Turns c one.at one.from one.to other.from × Turns c one.at one.from one.to other.to

-- and before all that links lead to
abbrev IsClear : Bool → Bool → List Border → Pass → Type 0
IsClear output c links one = (far : Point) (out : Bool) → Lies (Along output links) (Along output links) one.at far out → Turns c one.at one.from one.to far

module _ (output c : Bool) (first second end : Point) where
  -- a pass along what is left
  abbrev IsAmong : List Border → Point → Point → Pass → Type 0
  IsAmong links v from one = Inward output c first second end links v from (step one.from one.at) × Outward output c first second end links (step one.at one.to)

  -- what a walk gives from v on
  record Tame (links : List Border) (v from : Point) (points : List Point) : Type 0 where
    tail : List Point
    is : points ≡ v ∷ tail
    among : Each (IsAmong links v from) (passes_from first second from (v ∷ tail))
    pairs : Pairs (Uncrossed c) (passes_from first second from (v ∷ tail))
    clear : Each (IsClear output c (not_passed first (v ∷ tail) links)) (passes_from first second from (v ∷ tail))

  module _ (links : List Border) (v from : Point) (h : IsWalking output c first second end links v from) (w : Point) (g : GoesOn output c first second end links v from w) where
    abbrev rest : List Border
    rest = without (between v w) links

    abbrev O : Edge → Type 0
    O = Outward output c first second end rest

    abbrev I : Edge → Type 0
    I = Inward output c first second end rest w v

    not_left : O (step v w) → ⊥
    not_left (inl e) = h.begun (subst (Along output links) (sym e) g.here)
    not_left (inr k) = gone output links h.are v w g.here k

    -- the next link is met before all that are left
    met_first : (far : Point) (out : Bool) → Lies O I v far out → Turns c v from w far
    met_first far out k = by out k (g.near far out (before output c first second end links v from h w g.here v far out k))
      where
        by : (out : Bool) → Lies O I v far out → IsNear c v (spoke from false) (spoke w true) (spoke far out) → Turns c v from w far
        by true k (inl e) = absurd (false≢true (ap (λ (s : Spoke). s.out) e))
        by true k (inr (inl e)) = absurd (not_left (subst (λ z. O (step v z)) (sym (ap (λ (s : Spoke). s.far) e)) k))
        by true k (inr (inr t)) = t
        by false k (inl e) = absurd (not_come output c first second end links v from h w g.here (subst (λ z. I (step z v)) (sym (ap (λ (s : Spoke). s.far) e)) k))
        by false k (inr (inl e)) = absurd (false≢true (sym (ap (λ (s : Spoke). s.out) e)))
        by false k (inr (inr t)) = t

    -- before the points of a pass along what is left
    head_uncrossed : (other : Pass) → IsAmong rest w v other → Uncrossed c (pass from v w) other
    head_uncrossed other k same = (
      met_first other.from false (subst (λ z. I (step other.from z)) (sym same) k.0),
      met_first other.to true (subst (λ z. O (step z other.to)) (sym same) k.1),
    )

    head_clear : (left : List Border) → ((s : Edge) → Along output left s → Along output rest s) → IsClear output c left (pass from v w)
    head_clear left within far true k = met_first far true (inr (within (step v far) k))
    head_clear left within far false k = met_first far false (inr (within (step far v) k))

    -- what is among the rest was among the links
    was_among : (other : Pass) → IsAmong rest w v other → IsAmong links v from other
    was_among other k = (
      before_in output c first second end links v from h w g.here (step other.from other.at) k.0,
      before output c first second end links v from h w g.here other.at other.to true k.1,
    )

  -- the links that a path doesn't pass were there
  still_there : (points : List Point) (links : List Border) (s : Edge) → Along output (not_passed first points links) s → Along output links s
  still_there points links s (l, has, e) = (l, (filter_from (λ m. not (is_one_of (path_edges first points) m.edge)) links l has).0, e)

  module _ (n : ℕ) (links : List Border) (v from w : Point) (h : IsWalking output c first second end links v from) (g : GoesOn output c first second end links v from w) where
    onward : Tame (without (between v w) links) w v (walked c (between end first) n (without (between v w) links) w v) → same_edge (between v w) (between end first) ≡ false
        → Tame links v from (walked c (between end first) (suc n) links v from)
    onward k e = record {
      tail = w ∷ k.tail;
      is = walked_on c (between end first) (suc n) n links v from refl [] w g.next e ∙ ap (λ l. v ∷ l) k.is;
      among = (
        (inl refl, inr g.here),
        each_weaker (IsAmong (without (between v w) links) w v) (IsAmong links v from) (was_among links v from h w g) (passes_from first second v (w ∷ k.tail)) k.among,
      );
      pairs = (
        each_weaker (IsAmong (without (between v w) links) w v) (Uncrossed c (pass from v w)) (head_uncrossed links v from h w g) (passes_from first second v (w ∷ k.tail)) k.among,
        k.pairs,
      );
      clear =
          subst (λ l. Each (IsClear output c l) (pass from v w ∷ passes_from first second v (w ∷ k.tail))) (not_passed_more first v w k.tail links)
          (head_clear links v from h w g (not_passed first (w ∷ k.tail) (without (between v w) links)) (still_there (w ∷ k.tail) (without (between v w) links)), k.clear);
    }

    -- the last link: then the walk comes to its beginning
    module _ (at : step v w ≡ step end first) where
      v_is : v ≡ end
      v_is = ap (λ (s : Edge). s.a) at

      w_is : w ≡ first
      w_is = ap (λ (s : Edge). s.b) at

      abbrev left : List Border
      left = without (between v w) links

      abbrev Out : Edge → Type 0
      Out = Outward output c first second end left

      abbrev In : Edge → Type 0
      In = Inward output c first second end left first end

      wheels : Alternates c Out In
      wheels = subst (λ (s : Edge). Alternates c Out (λ t. (s ≡ t) ⊎ Along output left t)) at g.wheels

      -- what is left was met between the first link and the last
      enclosed : (far : Point) (out : Bool) → Lies Out In first far out → (far ≡ second) ⊎ ((far ≡ end) ⊎ Turns c first second far end)
      enclosed far out k = h.enclosed far out (still out k)
        where
          still : (out : Bool) → Lies Out In first far out → Lies (Outward output c first second end links) (Inward output c first second end links v from) first far out
          still true (inl f) = inl f
          still true (inr k) = inr (left_before output links h.are v w g.here (step first far) k)
          still false (inl f) = inr (subst (Along output links) f h.last_left)
          still false (inr k) = inr (left_before output links h.are v w g.here (step far first) k)

      closing_is : (o : Point) (more : List Spoke) → IsWheel c Out In first (spoke end false ∷ spoke o true ∷ more) → o ≡ second
      closing_is o more wheel = by (wheel.complete (spoke second true) (inl refl))
        where
          clash : Turns c first second end o → (o ≡ second) ⊎ ((o ≡ end) ⊎ Turns c first second o end) → ⊥
          clash t (inl f) = not_apart first o second t.third f
          clash t (inr (inl f)) = not_apart first end o t.second (sym f)
          clash t (inr (inr s)) = never_both_ways c first second end o t s

          by : Has (spoke end false ∷ spoke o true ∷ more) (spoke second true) → o ≡ second
          by (inl e) = absurd (false≢true (ap (λ (s : Spoke). s.out) e))
          by (inr (inl e)) = ap (λ (s : Spoke). s.far) e
          by (inr (inr k)) =
              absurd (clash
              (turns_on c first o second end (turns_on c first end o second (each_has (TurnsAt c first (spoke end false) (spoke o true)) more (spoke second true) ((wheel.order).0).0 k)))
              (enclosed o true (((wheel.sound).1).0)))

      closing_near : (far : Point) (out : Bool) → Lies Out In first far out → IsNear c first (spoke end false) (spoke second true) (spoke far out)
      closing_near far out k = by (wheels first)
        where
          found : (o : Point) (more : List Spoke) → IsWheel c Out In first (spoke end false ∷ spoke o true ∷ more) → IsNear c first (spoke end false) (spoke second true) (spoke far out)
          found o more wheel =
              subst (λ z. IsNear c first (spoke end false) (spoke z true) (spoke far out)) (closing_is o more wheel)
              (near_of_has (spoke end false) (spoke o true) more (spoke far out) wheel.order (wheel.complete (spoke far out) k))

          by : (spokes : List Spoke) × IsWheel c Out In first spokes → IsNear c first (spoke end false) (spoke second true) (spoke far out)
          by (spokes, wheel) =
              let f = wheel_from spokes (spoke end false) wheel (inl refl) in
              let o = neighbour (spoke end false) f.0 f.1 in
              found o.0 o.1 o.2

      closing_clear : (far : Point) (out : Bool) → Lies (Along output left) (Along output left) first far out → Turns c first end second far
      closing_clear far true k = by (closing_near far true (inr k))
        where
          by : IsNear c first (spoke end false) (spoke second true) (spoke far true) → Turns c first end second far
          by (inl e) = absurd (false≢true (ap (λ (s : Spoke). s.out) e))
          by (inr (inl e)) =
              absurd (h.begun (left_before output links h.are v w g.here (step first second) (subst (λ z. Along output left (step first z)) (sym (ap (λ (s : Spoke). s.far) e)) k)))
          by (inr (inr t)) = t
      closing_clear far false k = by (closing_near far false (inr k))
        where
          by : IsNear c first (spoke end false) (spoke second true) (spoke far false) → Turns c first end second far
          by (inl e) =
              absurd (gone output links h.are v w g.here (subst (Along output left) (sym at) (subst (λ z. Along output left (step z first)) (sym (ap (λ (s : Spoke). s.far) e)) k)))
          by (inr (inl e)) = absurd (false≢true (sym (ap (λ (s : Spoke). s.out) e)))
          by (inr (inr t)) = t

      never_there : v ≡ first → ⊥
      never_there e = along_apart output links h.are v w g.here (e ∙ sym w_is)

      ended : same_edge (between v w) (between end first) ≡ true → Tame links v from (walked c (between end first) (suc n) links v from)
      ended e = record {
        tail = [];
        is = walked_to_the_last c (between end first) (suc n) n links v from refl [] w g.next e;
        among = (
          (inl refl, inr (subst (λ z. Along output links (step v z)) w_is g.here)),
          ((inr (subst (λ z. Along output links (step v z)) w_is g.here), inl refl), tt),
        );
        pairs = (((λ same. absurd (never_there same)), tt), (tt, tt));
        clear =
            subst (λ l. Each (IsClear output c l) (pass from v first ∷ pass v first second ∷ [])) (ap (λ z. without (between v z) links) w_is ∙ not_passed_last first v links) (
              subst (λ z. IsClear output c left (pass from v z)) w_is (head_clear links v from h w g left (λ s k. k)),
              ((λ far out k. subst (λ z. Turns c first z second far) (sym v_is) (closing_clear far out k)), tt),
            );
      }

    tame_on : ((step v w ≡ step end first → ⊥) → Tame (without (between v w) links) w v (walked c (between end first) n (without (between v w) links) w v))
        → Tame links v from (walked c (between end first) (suc n) links v from)
    tame_on behind = by (same_edge (between v w) (between end first)) refl
      where
        by : (b : Bool) → same_edge (between v w) (between end first) ≡ b → Tame links v from (walked c (between end first) (suc n) links v from)
        by true e = ended (one_edge output links h.are v w g.here (step end first) h.last_left (sym (same_edge_is (between v w) (between end first) e))) e
        by false e = onward (behind (λ at. false≢true (sym e ∙ same_edge_itself (between v w) (between end first) (ap (λ (s : Edge). between s.a s.b) at)))) e

  shorter : (links : List Border) → AreLinks links → (v w : Point) → Along output links (step v w) → length links ≡ suc (length (without (between v w) links))
  shorter links are v w here = sym (length_permutation links (here.0 ∷ without (between v w) links) (one_goes output links are v w here))

  tame : (n : ℕ) (links : List Border) (v from : Point) → length links ≤ n → IsWalking output c first second end links v from → Tame links v from (walked c (between end first) n links v from)
  tame zero links v from short h = let e = shorter links h.are end first h.last_left in absurd (omega arith)
  tame (suc n) links v from short h =
      let g = goes_on output c first second end links v from h in
      let e : length links ≡ suc (length (without (between v g.0) links)) = shorter links h.are v g.0 (g.1).here in
      tame_on n links v from g.0 h g.1
      (λ other. tame n (without (between v g.0) links) g.0 v (omega arith) (still_walking output c first second end links v from h g.0 g.1 other))

-- ---- a whole walk

-- a pass along links
abbrev PassesLinks : Bool → List Border → Pass → Type 0
PassesLinks output links one = Along output links (step one.from one.at) × Along output links (step one.at one.to)

record IsTame (output : Bool) (links : List Border) (c : Bool) (points : List Point) : Type 0 where
  among : Each (PassesLinks output links) (passes points)
  pairs : Pairs (Uncrossed c) (passes points)
  clear : Each (IsClear output c (left_by points links)) (passes points)

module _ (output : Bool) (links : List Border) (are : AreLinks links) (alternate : Alternates false (Along output links) (Along output links)) where
  module _ (c : Bool) (first second : Point) (here : Along output links (step first second)) where
    abbrev others : List Border
    others = without (between first second) links

    module _ (end : Point) (more : List Spoke) (wheel : IsWheel (not c) (Along output links) (Along output links) first (spoke second true ∷ spoke end false ∷ more)) where
      was_along : (s : Edge) → (step first second ≡ s) ⊎ Along output others s → Along output links s
      was_along s (inl e) = subst (Along output links) e here
      was_along s (inr k) = left_before output links are first second here s k

      begun_tame : Tame output c first second end others second first (walked c (between end first) (length links) others second first) → IsTame output links c (walk_from c links first second)
      begun_tame k = subst (IsTame output links c) (sym is) (record {
        among =
            each_weaker (IsAmong output c first second end others second first) (PassesLinks output links)
            (λ one h. (was_along (step one.from one.at) h.0, was_along (step one.at one.to) h.1)) (passes_from first second first (second ∷ k.tail)) k.among;
        pairs = k.pairs;
        clear = subst (λ l. Each (IsClear output c l) (passes_from first second first (second ∷ k.tail))) (not_passed_more first first second k.tail links) k.clear;
      })
        where
          is : walk_from c links first second ≡ first ∷ second ∷ k.tail
          is =
              sym (walk_begun c links others first second end (between end first) (length links) refl (last_is output links are alternate c first second here end more wheel) refl refl)
              ∙ ap (λ l. first ∷ l) k.is

    walk_tame : IsTame output links c (walk_from c links first second)
    walk_tame = by (wheels_either_way false (not c) alternate first)
      where
        fewer : length others ≤ length links
        fewer = let e : length links ≡ suc (length others) = sym (length_permutation links (here.0 ∷ others) (one_goes output links are first second here)) in omega arith

        by : (spokes : List Spoke) × IsWheel (not c) (Along output links) (Along output links) first spokes → IsTame output links c (walk_from c links first second)
        by (spokes, wheel) =
            let f = wheel_from spokes (spoke second true) wheel here in
            let n = neighbour (spoke second true) f.0 f.1 in
            begun_tame n.0 n.1 n.2
            (tame output c first second n.0 (length links) others second first fewer (walking output links are alternate c first second here n.0 n.1 n.2))

  contour_tame : (top : Border) → Has links top → IsTame output links (is_same top.above output) (contour_from output links top).points
  contour_tame top here = by (is_same top.above output) refl
    where
      by : (c : Bool) → is_same top.above output ≡ c
          → IsTame output links c (cond c (walk_from c links top.edge.b top.edge.a) (walk_from c links top.edge.a top.edge.b))
      by true e = walk_tame true top.edge.b top.edge.a (top, here, ap (λ t. cond t (step top.edge.b top.edge.a) top.edge) e)
      by false e = walk_tame false top.edge.a top.edge.b (top, here, ap (λ t. cond t (step top.edge.b top.edge.a) top.edge) e)

-- ---- all walks

pairs_append : {A : Type 0} (R : A → A → Type 0) (xs ys : List A) → Pairs R xs → Pairs R ys → Each (λ x. Each (R x) ys) xs → Pairs R (xs ++ ys)
pairs_append R [] ys h k between = k
pairs_append R (x ∷ xs) ys h k between = (each_append (R x) xs ys h.0 between.0, pairs_append R xs ys h.1 k between.1)

-- turning one way or the other
abbrev pub Apart : Pass → Pass → Type 0
Apart one other = (c : Bool) × Uncrossed c one other

apart_dont_cross : (one other : Pass) → Apart one other → DontCross one other
apart_dont_cross one other (c, h) same = let t = h same in (c, t.0.met, t.1.met)

-- a pass along what is left is crossed by none that was clear of it
clear_of : (output c : Bool) (links : List Border) (one other : Pass) → IsClear output c links one → PassesLinks output links other → Uncrossed c one other
clear_of output c links one other clear along same = (
  clear other.from false (subst (λ z. Along output links (step other.from z)) (sym same) along.0),
  clear other.to true (subst (λ z. Along output links (step z other.to)) (sym same) along.1),
)

module _ (output : Bool) where
  abbrev pub all_passes : List Contour → List Pass
  all_passes cs = flat_map (λ c. passes c.points) cs

  abbrev pub NoneCross : List Border → List Contour → Type 0
  NoneCross links cs = Each (PassesLinks output links) (all_passes cs) × Pairs Apart (all_passes cs)

  one_contour_more : (l : Border) (ls : List Border) (top : Border) (cs : List Contour) → AreLinks (l ∷ ls) → Alternates false (Along output (l ∷ ls)) (Along output (l ∷ ls))
      → top_link l.edge.a (l ∷ ls) ≡ Some top → NoneCross (left_by (contour_from output (l ∷ ls) top).points (l ∷ ls)) cs → NoneCross (l ∷ ls) (contour_from output (l ∷ ls) top ∷ cs)
  one_contour_more l ls top cs are wheels e behind =
      let points : List Point = (contour_from output (l ∷ ls) top).points in
      let c = is_same top.above output in
      let left = left_by points (l ∷ ls) in
      let k : IsTame output (l ∷ ls) c points = contour_tame output (l ∷ ls) are wheels top (top_of_links l.edge.a (l ∷ ls) top e) in (
        each_append (PassesLinks output (l ∷ ls)) (passes points) (all_passes cs) k.among
            (each_weaker (PassesLinks output left) (PassesLinks output (l ∷ ls)) (λ one h. (before_left points (step one.from one.at) h.0, before_left points (step one.at one.to) h.1)) (all_passes cs) behind.0),
        pairs_append Apart (passes points) (all_passes cs) (pairs_weaker (Uncrossed c) Apart (λ one other h. (c, h)) (passes points) k.pairs) behind.1
            (each_weaker (IsClear output c left) (λ one. Each (Apart one) (all_passes cs))
            (λ one clear. each_weaker (PassesLinks output left) (Apart one) (λ other along. (c, clear_of output c left one other clear along)) (all_passes cs) behind.0)
            (passes points) k.clear),
      )
    where
      before_left : (points : List Point) (s : Edge) → Along output (left_by points (l ∷ ls)) s → Along output (l ∷ ls) s
      before_left points s (m, has, f) = (m, (filter_from (λ k. not (is_one_of (contour_edges points) k.edge)) (l ∷ ls) m has).0, f)

  pub none_cross : (links : List Border) → AreLinks links → Alternates false (Along output links) (Along output links) → NoneCross links (walks output links)
  none_cross links are wheels = all_walks output NoneCross (tt, tt) one_contour_more (length links) links (omega arith) are wheels

  pub walks_apart : PointsHaveRings → NodeRing → (fill : FillRule) (rule : OverlayRule) (es : List (Entry Count)) → IsArrangement es
      → Pairs Apart (all_passes (walks output (borders fill rule es)))
  walks_apart points rings fill rule es arranged =
      (none_cross (borders fill rule es) (borders_are_links fill rule es output arranged) (borders_alternate fill rule es output arranged points rings)).1

-- ---- beside one another

pairs_any : {A : Type 0} (R : A → A → Type 0) (xs : List A) (x y : A) → Pairs R xs → Has xs x → Has xs y → (x ≡ y) ⊎ (R x y ⊎ R y x)
pairs_any R [] x y h k m = absurd k
pairs_any R (z ∷ zs) x y h (inl e) (inl f) = inl (sym e ∙ f)
pairs_any R (z ∷ zs) x y h (inl e) (inr m) = inr (inl (subst (λ z. R z y) e (each_has (R z) zs y h.0 m)))
pairs_any R (z ∷ zs) x y h (inr k) (inl f) = inr (inr (subst (λ z. R z x) f (each_has (R z) zs x h.0 k)))
pairs_any R (z ∷ zs) x y h (inr k) (inr m) = pairs_any R zs x y h.1 k m

-- where two passes of walks meet, one has the other on one side
pub passes_aside : PointsHaveRings → NodeRing → (fill : FillRule) (rule : OverlayRule) (es : List (Entry Count)) (output : Bool) → IsArrangement es → (one other : Pass)
    → Has (all_passes output (walks output (borders fill rule es))) one → Has (all_passes output (walks output (borders fill rule es))) other → other.at ≡ one.at
    → AreAside one.at one.from one.to other.from other.to
passes_aside points rings fill rule es output arranged one other here there same =
    by (pairs_any Apart (all_passes output (walks output (borders fill rule es))) one other (walks_apart output points rings fill rule es arranged) here there)
  where
    by : (one ≡ other) ⊎ (Apart one other ⊎ Apart other one) → AreAside one.at one.from one.to other.from other.to
    by (inl e) = itself (sym (ap (λ (p : Pass). p.from) e)) (sym (ap (λ (p : Pass). p.to) e))
    by (inr (inl (c, h))) = let t = h (sym same) in later c t.0 t.1
    by (inr (inr (c, h))) =
        let t = h same in
        earlier c (subst (λ v. Turns c v other.from other.to one.from) same t.0) (subst (λ v. Turns c v other.from other.to one.to) same t.1)

pub passes_never_cross : PointsHaveRings → NodeRing → PassesNeverCross
passes_never_cross points rings fill rule es output arranged =
    all_pairs_from DontCross (all_passes output (walks output (borders fill rule es)))
    (pairs_weaker Apart DontCross apart_dont_cross (all_passes output (walks output (borders fill rule es))) (walks_apart output points rings fill rule es arranged))

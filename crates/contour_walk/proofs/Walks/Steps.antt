-- A walk passes links with the region on one hand: at each node it goes on by a neighbour of the link that it came on.
use Rattle.std.proofs.Common.{◌≡◌, Bool, true, false, not, cond, ◌||◌, List, [], ◌∷◌, filter, Some, ◌⊎◌, inl, inr, refl, sym, ap, ◌∙◌, subst}
use Rattle.std.proofs.lemmas.Bool.{false≢true}
use Rattle.std.proofs.lemmas.List.Elements.{filter_agree}
use Rattle.plane_base.specs.Plane.{Point, Edge}
use Rattle.contour_walk.specs.Walks.{Border, same_point, same_edge, between, without, next_point, path_edges, is_one_of}
use Rattle.contour_walk.proofs.Facts.Walks.Turns.{not_apart, Turns, turns_on, never_both_ways, Has}
use Rattle.contour_walk.proofs.Facts.Walks.Rings.{each_has, Triples, Spoke, spoke, Lies, IsSpoke, TurnsAt, IsWheel, Alternates, wheel_from}
use Rattle.contour_walk.proofs.Facts.Walks.Rings.{without_neighbours, same_spokes, neighbour}
use Rattle.contour_walk.proofs.Walks.Links.{same_point_is, same_point_itself, same_edge_back, AreLinks, kept_links, Along, along_apart, next_is, left_or_gone, left_before, gone}

abbrev pub step : Point → Point → Edge
step v w = record { a = v; b = w }

-- the points are the same or they are not
pub same_or_not : (u v : Point) → (u ≡ v) ⊎ (u ≡ v → ⊥)
same_or_not u v = by (same_point u v) refl
  where
    by : (b : Bool) → same_point u v ≡ b → (u ≡ v) ⊎ (u ≡ v → ⊥)
    by true e = inl (same_point_is u v e)
    by false e = inr (λ f. false≢true (sym e ∙ same_point_itself u v f))

-- the links that a path doesn't pass
abbrev pub not_passed : Point → List Point → List Border → List Border
not_passed first points links = filter (λ l. not (is_one_of (path_edges first points) l.edge)) links

filter_twice : {A : Type 0} (p q r : A → Bool) → ((x : A) → r x ≡ cond (q x) (p x) false) → (xs : List A) → filter p (filter q xs) ≡ filter r xs
filter_twice p q r e [] = refl
filter_twice p q r e (x ∷ xs) = by (q x) (p x) (r x) (e x) refl (filter_twice p q r e xs)
  where
    by : (b c d : Bool) → d ≡ cond b c false → p x ≡ c → filter p (filter q xs) ≡ filter r xs → filter p (cond b (x ∷ filter q xs) (filter q xs)) ≡ cond d (x ∷ filter r xs) (filter r xs)
    by true true true f g h = ap (λ t. cond t (x ∷ filter p (filter q xs)) (filter p (filter q xs))) g ∙ ap (λ l. x ∷ l) h
    by true false false f g h = ap (λ t. cond t (x ∷ filter p (filter q xs)) (filter p (filter q xs))) g ∙ h
    by true true false f g h = absurd (false≢true f)
    by true false true f g h = absurd (false≢true (sym f))
    by false c true f g h = absurd (false≢true (sym f))
    by false c false f g h = h

pub not_passed_more : (first v w : Point) (tail : List Point) (links : List Border) → not_passed first (w ∷ tail) (without (between v w) links) ≡ not_passed first (v ∷ w ∷ tail) links
not_passed_more first v w tail links =
    filter_twice (λ l. not (is_one_of (path_edges first (w ∷ tail)) l.edge)) (λ l. not (same_edge l.edge (between v w))) (λ l. not (is_one_of (path_edges first (v ∷ w ∷ tail)) l.edge))
    (λ l. ap (λ b. not (b || is_one_of (path_edges first (w ∷ tail)) l.edge)) (same_edge_back (between v w) l.edge) ∙ by (same_edge l.edge (between v w)) (is_one_of (path_edges first (w ∷ tail)) l.edge)) links
  where
    by : (b c : Bool) → not (b || c) ≡ cond (not b) (not c) false
    by true c = refl
    by false c = refl

pub not_passed_last : (first v : Point) (links : List Border) → without (between v first) links ≡ not_passed first (v ∷ []) links
not_passed_last first v links =
    filter_agree (λ l. not (same_edge l.edge (between v first))) (λ l. not (is_one_of (path_edges first (v ∷ [])) l.edge))
    (λ l. ap not (same_edge_back l.edge (between v first)) ∙ by (same_edge (between v first) l.edge)) links
  where
    by : (b : Bool) → not b ≡ not (b || not true)
    by true = refl
    by false = refl

-- a spoke, its neighbour, or one that is met after the neighbour
abbrev pub IsNear : Bool → Point → Spoke → Spoke → Spoke → Type 0
IsNear c v x y s = (x ≡ s) ⊎ ((y ≡ s) ⊎ TurnsAt c v x y s)

pub near_of_has : {c : Bool} {v : Point} (x y : Spoke) (more : List Spoke) (s : Spoke) → Triples (TurnsAt c v) (x ∷ y ∷ more) → Has (x ∷ y ∷ more) s → IsNear c v x y s
near_of_has x y more s order (inl e) = inl e
near_of_has x y more s order (inr (inl e)) = inr (inl e)
near_of_has {c} {v} x y more s order (inr (inr k)) = inr (inr (each_has (TurnsAt c v x y) more s ((order.0).0) k))

module _ (output c : Bool) (first second end : Point) where
  -- the links that are left, and the one with which the walk began
  abbrev pub Outward : List Border → Edge → Type 0
  Outward links s = (step first second ≡ s) ⊎ Along output links s

  -- the links that are left, and the one on which the walk came
  abbrev pub Inward : List Border → Point → Point → Edge → Type 0
  Inward links v from s = (step from v ≡ s) ⊎ Along output links s

  -- all that lead to the first point or from it are met between the first link of the walk and the last
  abbrev pub Between : List Border → Point → Point → Type 0
  Between links v from = (far : Point) (out : Bool) → Lies (Outward links) (Inward links v from) first far out → (far ≡ second) ⊎ ((far ≡ end) ⊎ Turns c first second far end)

  -- the walk stands at v, and came there from a point
  pub record IsWalking (links : List Border) (v from : Point) : Type 0 where
    pub are : AreLinks links
    pub wheels : Alternates c (Outward links) (Inward links v from)
    pub begun : Along output links (step first second) → ⊥
    pub come : Along output links (step from v) → ⊥
    pub last_left : Along output links (step end first)
    pub enclosed : Between links v from

  -- it goes on to w
  pub record GoesOn (links : List Border) (v from w : Point) : Type 0 where
    pub next : next_point c links v from ≡ Some w
    pub here : Along output links (step v w)
    pub wheels : Alternates c (Outward (without (between v w) links)) (Inward (without (between v w) links) w v)
    pub near : (far : Point) (out : Bool) → Lies (Outward links) (Inward links v from) v far out → IsNear c v (spoke from false) (spoke w true) (spoke far out)

  lies_left : (links : List Border) (v from u far : Point) (out : Bool) → Lies (Along output links) (Along output links) u far out → Lies (Outward links) (Inward links v from) u far out
  lies_left links v from u far true h = inr h
  lies_left links v from u far false h = inr h

  module _ (links : List Border) (v from : Point) (h : IsWalking links v from) where
    -- the neighbour of the link on which the walk came is not that with which it began
    not_begun : (w : Point) (more : List Spoke) → IsWheel c (Outward links) (Inward links v from) v ((spoke from false) ∷ (spoke w true) ∷ more)
        → step first second ≡ step v w → ⊥
    not_begun w more wheel e = by (wheel.complete (spoke end false) (inr last_here))
      where
        last_here : Along output links (step end v)
        last_here = subst (λ (s : Edge). Along output links (step end s.a)) e h.last_left

        enclosed_from : (from ≡ second) ⊎ ((from ≡ end) ⊎ Turns c first second from end)
        enclosed_from = h.enclosed from false (inl (ap (λ (s : Edge). step from s.a) (sym e)))

        clash : Turns c first second end from → (from ≡ second) ⊎ ((from ≡ end) ⊎ Turns c first second from end) → ⊥
        clash t (inl f) = not_apart first from second t.third f
        clash t (inr (inl f)) = not_apart first end from t.second (sym f)
        clash t (inr (inr s)) = never_both_ways c first second end from t s

        by : Has ((spoke from false) ∷ (spoke w true) ∷ more) (spoke end false) → ⊥
        by (inl f) = h.come (subst (λ (s : Spoke). Along output links (step s.far v)) (sym f) last_here)
        by (inr (inl f)) = false≢true (sym (ap (λ s. s.out) f))
        by (inr (inr k)) =
            clash
            (subst (λ (s : Edge). Turns c s.a s.b end from) (sym e)
            (turns_on c v from w end (each_has (TurnsAt c v (spoke from false) (spoke w true)) more (spoke end false) ((wheel.order).0).0 k)))
            enclosed_from

    module _ (w : Point) (here : Along output links (step v w)) where
      abbrev rest : List Border
      rest = without (between v w) links

      before_out : (s : Edge) → Outward rest s → Outward links s
      before_out s (inl e) = inl e
      before_out s (inr k) = inr (left_before output links h.are v w here s k)

      pub before_in : (s : Edge) → Inward rest w v s → Inward links v from s
      before_in s (inl e) = inr (subst (Along output links) e here)
      before_in s (inr k) = inr (left_before output links h.are v w here s k)

      pub before : (u far : Point) (out : Bool) → Lies (Outward rest) (Inward rest w v) u far out → Lies (Outward links) (Inward links v from) u far out
      before u far true k = before_out (step u far) k
      before u far false k = before_in (step far u) k

      pub still_out : (s : Edge) → (step v w ≡ s → ⊥) → Outward links s → Outward rest s
      still_out s other (inl e) = inl e
      still_out s other (inr k) = by (left_or_gone output links h.are v w here s k)
        where
          by : (step v w ≡ s) ⊎ Along output rest s → Outward rest s
          by (inl e) = absurd (other e)
          by (inr l) = inr l

      still_in : (s : Edge) → (step from v ≡ s → ⊥) → Inward links v from s → Inward rest w v s
      still_in s other (inl e) = absurd (other e)
      still_in s other (inr k) = left_or_gone output links h.are v w here s k

      pub kept_here : (far : Point) (out : Bool) → Lies (Outward links) (Inward links v from) v far out → (spoke far out ≡ spoke from false → ⊥) → (spoke far out ≡ spoke w true → ⊥) → Lies (Outward rest) (Inward rest w v) v far out
      kept_here far true k not_x not_y = still_out (step v far) (λ e. not_y (λ i. spoke (sym (ap (λ (s : Edge). s.b) e) i) true)) k
      kept_here far false k not_x not_y = still_in (step far v) (λ e. not_x (λ i. spoke (sym (ap (λ (s : Edge). s.a) e) i) false)) k

      pub kept_elsewhere : (u : Point) → (u ≡ v → ⊥) → (far : Point) (out : Bool) → Lies (Outward links) (Inward links v from) u far out → Lies (Outward rest) (Inward rest w v) u far out
      kept_elsewhere u other far true k = still_out (step u far) (λ e. other (sym (ap (λ (s : Edge). s.a) e))) k
      kept_elsewhere u other far false k = still_in (step far u) (λ e. other (sym (ap (λ (s : Edge). s.b) e))) k

      pub not_come : Inward rest w v (step from v) → ⊥
      not_come (inl e) = along_apart output links h.are v w here (sym (ap (λ (s : Edge). s.b) e))
      not_come (inr k) = h.come (left_before output links h.are v w here (step from v) k)

      not_left : Outward rest (step v w) → ⊥
      not_left (inl e) = h.begun (subst (Along output links) (sym e) here)
      not_left (inr k) = gone output links h.are v w here k

      here_wheel : (more : List Spoke) → IsWheel c (Outward links) (Inward links v from) v ((spoke from false) ∷ (spoke w true) ∷ more) → IsWheel c (Outward rest) (Inward rest w v) v more
      here_wheel more wheel =
          without_neighbours (Outward rest) (Inward rest w v) (spoke from false) (spoke w true) more wheel (λ s. kept_here s.far s.out) (λ s. before v s.far s.out) not_come not_left

      other_wheel : (u : Point) → (u ≡ v → ⊥) → (spokes : List Spoke) → IsWheel c (Outward links) (Inward links v from) u spokes → IsWheel c (Outward rest) (Inward rest w v) u spokes
      other_wheel u other spokes wheel = same_spokes (Outward rest) (Inward rest w v) spokes wheel (λ s. kept_elsewhere u other s.far s.out) (λ s. before u s.far s.out)

      wheels_after : (more : List Spoke) → IsWheel c (Outward links) (Inward links v from) v ((spoke from false) ∷ (spoke w true) ∷ more) → Alternates c (Outward rest) (Inward rest w v)
      wheels_after more wheel u = by (same_or_not u v)
        where
          by : (u ≡ v) ⊎ (u ≡ v → ⊥) → (spokes : List Spoke) × IsWheel c (Outward rest) (Inward rest w v) u spokes
          by (inl e) = (more, subst (λ z. IsWheel c (Outward rest) (Inward rest w v) z more) (sym e) (here_wheel more wheel))
          by (inr other) = let k = h.wheels u in (k.0, other_wheel u other k.0 k.1)

    pub goes_on : (w : Point) × GoesOn links v from w
    goes_on = by (h.wheels v)
      where
        linked : (w : Point) (more : List Spoke) → IsWheel c (Outward links) (Inward links v from) v ((spoke from false) ∷ (spoke w true) ∷ more)
            → Outward links (step v w) → GoesOn links v from w
        linked w more wheel (inl e) = absurd (not_begun w more wheel e)
        linked w more wheel (inr here) = record {
          next = next_is output c v (spoke from false) (spoke w true) more links wheel.order h.are among here;
          here = here;
          wheels = wheels_after w here more wheel;
          near = λ far out k. near_of_has (spoke from false) (spoke w true) more (spoke far out) wheel.order (wheel.complete (spoke far out) k);
        }
          where
            among : (far : Point) (out : Bool) → Lies (Along output links) (Along output links) v far out → Has ((spoke w true) ∷ more) (spoke far out)
            among far out k = by (wheel.complete (spoke far out) (lies_left links v from v far out k))
              where
                by : Has ((spoke from false) ∷ (spoke w true) ∷ more) (spoke far out) → Has ((spoke w true) ∷ more) (spoke far out)
                by (inl e) = absurd (h.come (subst (λ (s : Spoke). IsSpoke (Along output links) (Along output links) v s) (sym e) k))
                by (inr j) = j

        found : (rest : List Spoke) → IsWheel c (Outward links) (Inward links v from) v ((spoke from false) ∷ rest) → (w : Point) × GoesOn links v from w
        found rest wheel =
            let n = neighbour (spoke from false) rest wheel in
            (n.0, linked n.0 n.1 n.2 ((((n.2).sound).1).0))

        by : (spokes : List Spoke) × IsWheel c (Outward links) (Inward links v from) v spokes → (w : Point) × GoesOn links v from w
        by (spokes, wheel) = let f = wheel_from spokes (spoke from false) wheel (inl refl) in found f.0 f.1

    -- what stays where the walk goes on by another link than the last
    pub still_walking : (w : Point) → GoesOn links v from w → (step v w ≡ step end first → ⊥) → IsWalking (without (between v w) links) w v
    still_walking w g other = record {
      are = kept_links (λ l. not (same_edge l.edge (between v w))) links h.are;
      wheels = g.wheels;
      begun = λ k. h.begun (left_before output links h.are v w g.here (step first second) k);
      come = gone output links h.are v w g.here;
      last_left = by (left_or_gone output links h.are v w g.here (step end first) h.last_left);
      enclosed = λ far out k. h.enclosed far out (before w g.here first far out k);
    }
      where
        by : (step v w ≡ step end first) ⊎ Along output (without (between v w) links) (step end first) → Along output (without (between v w) links) (step end first)
        by (inl e) = absurd (other e)
        by (inr k) = k

  -- ---- the end of a walk

  module _ (links : List Border) (wheels : Alternates c (Outward links) (Inward links first end)) (begun : Along output links (step first second) → ⊥) (ended : Along output links (step end first) → ⊥) (enclosed : Between links first end) where
    -- the last link is the neighbour of the one with which the walk began
    last_neighbour : (w : Point) (more : List Spoke) → IsWheel c (Outward links) (Inward links first end) first ((spoke end false) ∷ (spoke w true) ∷ more) → w ≡ second
    last_neighbour w more wheel = by (wheel.complete (spoke second true) (inl refl))
      where
        clash : Turns c first second end w → (w ≡ second) ⊎ ((w ≡ end) ⊎ Turns c first second w end) → ⊥
        clash t (inl f) = not_apart first w second t.third f
        clash t (inr (inl f)) = not_apart first end w t.second (sym f)
        clash t (inr (inr s)) = never_both_ways c first second end w t s

        by : Has ((spoke end false) ∷ (spoke w true) ∷ more) (spoke second true) → w ≡ second
        by (inl e) = absurd (false≢true (ap (λ s. s.out) e))
        by (inr (inl e)) = ap (λ s. s.far) e
        by (inr (inr k)) =
            absurd
            (clash
            (turns_on c first w second end (turns_on c first end w second (each_has (TurnsAt c first (spoke end false) (spoke w true)) more (spoke second true) ((wheel.order).0).0 k)))
            (enclosed w true ((((wheel.sound).1).0))))

    end_wheel : (more : List Spoke) → IsWheel c (Outward links) (Inward links first end) first ((spoke end false) ∷ (spoke second true) ∷ more) → IsWheel c (Along output links) (Along output links) first more
    end_wheel more wheel =
        without_neighbours (Along output links) (Along output links) (spoke end false) (spoke second true) more wheel (λ s. kept s.far s.out)
        (λ s. lies_left links first end first s.far s.out) ended begun
      where
        kept : (far : Point) (out : Bool) → Lies (Outward links) (Inward links first end) first far out
            → ((spoke far out) ≡ (spoke end false) → ⊥) → ((spoke far out) ≡ (spoke second true) → ⊥)
            → Lies (Along output links) (Along output links) first far out
        kept far true (inl e) not_x not_y = absurd (not_y (λ i. (spoke (sym (ap (λ (s : Edge). s.b) e) i) true)))
        kept far true (inr k) not_x not_y = k
        kept far false (inl e) not_x not_y = absurd (not_x (λ i. (spoke (sym (ap (λ (s : Edge). s.a) e) i) false)))
        kept far false (inr k) not_x not_y = k

    pub wheels_at_end : Alternates c (Along output links) (Along output links)
    wheels_at_end u = by (same_or_not u first)
      where
        kept : (u ≡ first → ⊥) → (far : Point) (out : Bool) → Lies (Outward links) (Inward links first end) u far out → Lies (Along output links) (Along output links) u far out
        kept other far true (inl e) = absurd (other (sym (ap (λ (s : Edge). s.a) e)))
        kept other far true (inr k) = k
        kept other far false (inl e) = absurd (other (sym (ap (λ (s : Edge). s.b) e)))
        kept other far false (inr k) = k

        here : (rest : List Spoke) → IsWheel c (Outward links) (Inward links first end) first ((spoke end false) ∷ rest) → (spokes : List Spoke) × IsWheel c (Along output links) (Along output links) first spokes
        here rest wheel =
            let n = neighbour (spoke end false) rest wheel in
            (n.1, end_wheel n.1 (subst (λ z. IsWheel c (Outward links) (Inward links first end) first ((spoke end false) ∷ (spoke z true) ∷ n.1)) (last_neighbour n.0 n.1 n.2) n.2))

        by : (u ≡ first) ⊎ (u ≡ first → ⊥) → (spokes : List Spoke) × IsWheel c (Along output links) (Along output links) u spokes
        by (inl e) =
            let k = wheels first in
            let f = wheel_from k.0 (spoke end false) k.1 (inl refl) in
            subst (λ z. (spokes : List Spoke) × IsWheel c (Along output links) (Along output links) z spokes) (sym e) (here f.0 f.1)
        by (inr other) =
            let k = wheels u in
            (k.0, same_spokes (Along output links) (Along output links) k.0 k.1 (λ s. kept other s.far s.out) (λ s. lies_left links first end u s.far s.out))

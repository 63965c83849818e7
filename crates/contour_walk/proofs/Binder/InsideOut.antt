-- With inside and outside exchanged the hole in which an outline lies is the outline in which a hole lies.
use Rattle.std.proofs.Common.{◌≡◌, inl, inr, ℕ, zero, suc, Bool, true, false, not, ◌&&◌, cond, List, [], ◌∷◌, ◌++◌, map, filter, AllPairs, refl, sym, ap, ap₂, ◌∙◌, subst}
use Rattle.std.specs.Prelude.{Option, Some, None}
use Rattle.std.proofs.lemmas.List.{map-append}
use Rattle.std.proofs.lemmas.List.Elements.{All-map, All-weaker}
use Rattle.plane_base.specs.Plane.{Edge, is_before}
use Rattle.plane_base.specs.Segments.{precedes}
use Rattle.plane_base.proofs.Facts.Maps.Normal.{AllPairs-nil, AllPairs-cons, AllPairs-head, AllPairs-tail}
use Rattle.contour_walk.specs.Walks.{Contour, between}
use Rattle.contour_walk.specs.WalkLaws.{contour_steps}
use Rattle.contour_walk.specs.Binding.{Owned, anchor, is_under, higher, highest, way_down, contour_at}
use Rattle.contour_walk.specs.ShapeViews.{met_below}
use Rattle.contour_walk.specs.BinderOwners.{owner_below}
use Rattle.contour_walk.specs.BinderSweep.{owned_step, stepped_from}
use Rattle.contour_walk.specs.JoinedHoles.{MeetOrOppose, CanBeBound}
use Rattle.contour_walk.specs.Hierarchy.{parent_below}
use Rattle.contour_walk.specs.HierarchyViews.{inside_out}

-- the region on the other side
abbrev pub other_side : Owned → Owned
other_side o = record { edge = o.edge; above = not o.above; contour = o.contour }

-- ---- edges

step_turns : (output : Bool) (n : ℕ) (s : Edge) → owned_step (not output) n s ≡ other_side (owned_step output n s)
step_turns output n s = ap (λ b. record { edge = between s.a s.b; above = b; contour = n }) (by output (is_before s.a s.b))
  where
    by : (output before : Bool) → cond (not output) (not before) before ≡ not (cond output (not before) before)
    by true true = refl
    by true false = refl
    by false true = refl
    by false false = refl

steps_turn : (output : Bool) (n : ℕ) (ss : List Edge) → map (owned_step (not output) n) ss ≡ map other_side (map (owned_step output n) ss)
steps_turn output n [] = refl
steps_turn output n (s ∷ ss) = ap₂ (λ o os. o ∷ os) (step_turns output n s) (steps_turn output n ss)

pub edges_turn : (output : Bool) (n : ℕ) (cs : List Contour) → stepped_from (not output) n (map inside_out cs) ≡ map other_side (stepped_from output n cs)
edges_turn output n [] = refl
edges_turn output n (c ∷ cs) =
    ap₂ (λ os ps. os ++ ps) (steps_turn output n (contour_steps c.points)) (edges_turn output (suc n) cs)
    ∙ sym (map-append other_side (map (owned_step output n) (contour_steps c.points)) (stepped_from output (suc n) cs))

-- ---- the way down

abbrev side_of : Option Owned → Option Owned
side_of None = None
side_of (Some o) = Some (other_side o)

highest_turns : (os : List Owned) → highest (map other_side os) ≡ side_of (highest os)
highest_turns [] = refl
highest_turns (o ∷ os) = ap (λ r. Some (higher (other_side o) r)) (highest_turns os) ∙ by (highest os)
  where
    of_two : (p : Owned) (b : Bool) → Some (cond b (other_side p) (other_side o)) ≡ Some (other_side (cond b p o))
    of_two p true = refl
    of_two p false = refl

    by : (r : Option Owned) → Some (higher (other_side o) (side_of r)) ≡ side_of (Some (higher o r))
    by None = refl
    by (Some p) = of_two p (precedes o.edge p.edge)

abbrev wanted : Bool → Edge → Owned → Bool
wanted above e o = cond above o.above (not o.above) && is_under e o.edge

wanted_turn : (e : Edge) (os : List Owned) → filter (wanted true e) (map other_side os) ≡ map other_side (filter (wanted false e) os)
wanted_turn e [] = refl
wanted_turn e (o ∷ os) = ap (λ ps. cond (wanted false e o) (other_side o ∷ ps) ps) (wanted_turn e os) ∙ by (wanted false e o)
  where
    by : (b : Bool) → cond b (other_side o ∷ map other_side (filter (wanted false e) os)) (map other_side (filter (wanted false e) os)) ≡ map other_side (cond b (o ∷ filter (wanted false e) os) (filter (wanted false e) os))
    by true = refl
    by false = refl

way_turns : (e : Edge) (os : List Owned) → way_down (map other_side os) true e ≡ side_of (way_down os false e)
way_turns e os = ap highest (wanted_turn e os) ∙ highest_turns (filter (wanted false e) os)

-- ---- contours

abbrev contour_inside_out : Option Contour → Option Contour
contour_inside_out None = None
contour_inside_out (Some c) = Some (inside_out c)

pub contour_turns : (cs : List Contour) (n : ℕ) → contour_at (map inside_out cs) n ≡ contour_inside_out (contour_at cs n)
contour_turns [] n = refl
contour_turns (c ∷ cs) zero = refl
contour_turns (c ∷ cs) (suc n) = contour_turns cs n

module _ (edges : List Owned) (cs : List Contour) where
  abbrev by_way : Option Owned → Option ℕ
  by_way r = elim r [ None ↦ None | Some o ↦ Some o.contour ]

  abbrev by_anchor : Bool → List Owned → Option Edge → Option ℕ
  by_anchor above os r = elim r [ None ↦ None | Some e ↦ by_way (way_down os above e) ]

  abbrev by_contour : Bool → List Owned → Option Contour → Option ℕ
  by_contour above os r = elim r [ None ↦ None | Some c ↦ by_anchor above os (anchor c.points) ]

  met_turns : (n : ℕ) → met_below true (map other_side edges) (map inside_out cs) n ≡ met_below false edges cs n
  met_turns n = ap (by_contour true (map other_side edges)) (contour_turns cs n) ∙ of_contour (contour_at cs n)
    where
      of_way : (r : Option Owned) → by_way (side_of r) ≡ by_way r
      of_way None = refl
      of_way (Some o) = refl

      of_anchor : (r : Option Edge) → by_anchor true (map other_side edges) r ≡ by_anchor false edges r
      of_anchor None = refl
      of_anchor (Some e) = ap by_way (way_turns e edges) ∙ of_way (way_down edges false e)

      of_contour : (r : Option Contour) → by_contour true (map other_side edges) (contour_inside_out r) ≡ by_contour false edges r
      of_contour None = refl
      of_contour (Some c) = of_anchor (anchor c.points)

  abbrev owner_at : ℕ → ℕ → Option Contour → Option ℕ
  owner_at k m r = elim r [ None ↦ None | Some d ↦ cond d.is_hole (owner_below (map other_side edges) (map inside_out cs) k m) (Some m) ]

  abbrev parent_at : ℕ → ℕ → Option Contour → Option ℕ
  parent_at k m r = elim r [ None ↦ None | Some d ↦ cond d.is_hole (Some m) (parent_below edges cs k m) ]

  abbrev owner_by : ℕ → Option ℕ → Option ℕ
  owner_by k r = elim r [ None ↦ None | Some m ↦ owner_at k m (contour_at (map inside_out cs) m) ]

  abbrev parent_by : ℕ → Option ℕ → Option ℕ
  parent_by k r = elim r [ None ↦ None | Some m ↦ parent_at k m (contour_at cs m) ]

  pub owner_turns : (k n : ℕ) → owner_below (map other_side edges) (map inside_out cs) k n ≡ parent_below edges cs k n
  owner_turns zero n = refl
  owner_turns (suc k) n = ap (owner_by k) (met_turns n) ∙ of_met (met_below false edges cs n) (owner_turns k)
    where
      of_hole : (m : ℕ) (b : Bool) → owner_below (map other_side edges) (map inside_out cs) k m ≡ parent_below edges cs k m
          → cond (not b) (owner_below (map other_side edges) (map inside_out cs) k m) (Some m) ≡ cond b (Some m) (parent_below edges cs k m)
      of_hole m true same = refl
      of_hole m false same = same

      of_contour : (m : ℕ) (r : Option Contour) → owner_below (map other_side edges) (map inside_out cs) k m ≡ parent_below edges cs k m
          → owner_at k m (contour_inside_out r) ≡ parent_at k m r
      of_contour m None same = refl
      of_contour m (Some d) same = of_hole m d.is_hole same

      of_met : (r : Option ℕ) → ((m : ℕ) → owner_below (map other_side edges) (map inside_out cs) k m ≡ parent_below edges cs k m) → owner_by k r ≡ parent_by k r
      of_met None same = refl
      of_met (Some m) same =
          ap (owner_at k m) (contour_turns cs m)
          ∙ of_contour m (contour_at cs m) (same m)

-- ---- what can be bound

meet_turned : (o p : Owned) → MeetOrOppose o p → MeetOrOppose (other_side o) (other_side p)
meet_turned o p (inl h) = inl h
meet_turned o p (inr h) = inr (h.0, λ same. h.1 (twice o.above ∙ (ap not same ∙ sym (twice p.above))))
  where
    twice : (b : Bool) → b ≡ not (not b)
    twice true = refl
    twice false = refl

pairs_turned : (os : List Owned) → AllPairs MeetOrOppose os → AllPairs MeetOrOppose (map other_side os)
pairs_turned [] h = AllPairs-nil MeetOrOppose
pairs_turned (o ∷ os) h =
    AllPairs-cons MeetOrOppose (other_side o) (map other_side os)
    (All-map (MeetOrOppose (other_side o)) other_side os (All-weaker (MeetOrOppose o) (λ p. MeetOrOppose (other_side o) (other_side p)) (meet_turned o) os (AllPairs-head MeetOrOppose o os h)))
    (pairs_turned os (AllPairs-tail MeetOrOppose o os h))

pub bound_turned : (output : Bool) (cs : List Contour) → CanBeBound output cs → CanBeBound (not output) (map inside_out cs)
bound_turned output cs bound = record { meet = subst (AllPairs MeetOrOppose) (sym (edges_turn output zero cs)) (pairs_turned (stepped_from output zero cs) bound.meet) }

-- Edges with their contours, and the way down.
use Rattle.std.proofs.Common.{◌≡◌, refl, sym, ap, ◌∙◌, ℕ, zero, suc, ◌+◌, ◌<◌, ◌≤◌, ℤ, Bool, true, false, not, ◌&&◌, cond, List, [], ◌∷◌, ◌++◌, map, filter, drop, length, get_or, Some, None, All, arith}
use Rattle.std.proofs.Math.ListN.{drop_of_length-le}
use Rattle.std.specs.Prelude.{Option}
use Rattle.std.proofs.lemmas.List.{length-map}
use Rattle.std.proofs.lemmas.List.Elements.{All-nil, All-cons, All-head, All-tail, All-append}
use Rattle.plane_base.specs.Plane.{Point, Edge, IsWithin, is_before}
use Rattle.plane_base.specs.Segments.{IsEdgeWithin}
use Rattle.plane_base.proofs.Facts.Lists.Views.{drop-mapped}
use Rattle.contour_walk.specs.Walks.{Border, Contour, same_edge, between, path_edges, contour_edges}
use Rattle.contour_walk.specs.Binding.{Owned, anchor, is_above, is_under, higher, highest, way_down, owned_from, contour_at, hole_owner}
use Rattle.contour_walk.specs.ShapeViews.{ContoursAreWithin, OwnedAreWithin, owned, highest_beside, contour_below, owners_from}

-- ---- the side of an edge

module _ {X : Type 0} (f : X → Border) (xs : List X) (i : ℕ) (x : X) (s : Edge) (inside : i < length xs) (at : x ≡ get_or xs i x) where
  pub side_is_found : same_edge (f x).edge s ≡ true → is_above (drop i (map f xs)) s ≡ (f x).above
  side_is_found same = ap (λ ls. is_above ls s) (drop-mapped f xs i x inside at) ∙ ap (λ b. cond b (f x).above (is_above (drop (i + 1) (map f xs)) s)) same

  pub side_is_passed : same_edge (f x).edge s ≡ false → is_above (drop i (map f xs)) s ≡ is_above (drop (i + 1) (map f xs)) s
  side_is_passed other = ap (λ ls. is_above ls s) (drop-mapped f xs i x inside at) ∙ ap (λ b. cond b (f x).above (is_above (drop (i + 1) (map f xs)) s)) other

pub no_side_is_found : {X : Type 0} (f : X → Border) (xs : List X) (i : ℕ) (s : Edge) → length xs ≤ i → is_above (drop i (map f xs)) s ≡ false
no_side_is_found f xs i s h =
    let long : length (map f xs) ≤ i = omega (arith, length-map xs f) in
    ap (λ ls. is_above ls s) (drop_of_length-le (map f xs) long)

-- ---- all edges with their contours

-- the edges of one contour more
pub owned_from_more : {X : Type 0} (f : X → Contour) (xs : List X) (links : List Border) (i : ℕ) (x : X) → i < length xs → x ≡ get_or xs i x
    → owned_from links i (drop i (map f xs)) ≡ map (owned links i) (contour_edges (f x).points) ++ owned_from links (i + 1) (drop (i + 1) (map f xs))
owned_from_more f xs links i x inside at =
    let up : suc i ≡ i + 1 = omega arith in
    ap (owned_from links i) (drop-mapped f xs i x inside at)
    ∙ ap (λ n. map (owned links i) (contour_edges (f x).points) ++ owned_from links n (drop (i + 1) (map f xs))) up

-- ---- all in range

module _ (least greatest : ℤ) where
  between_within : (u v : Point) → IsWithin least greatest u → IsWithin least greatest v → IsEdgeWithin least greatest (between u v)
  between_within u v h k =
      elim (is_before v u) as (λ b. IsEdgeWithin least greatest (cond b (record { a = v; b = u }) (record { a = u; b = v }))) [
        | true ↦ (k, h)
        | false ↦ (h, k)
      ]

  path_within : (first : Point) (ps : List Point) → IsWithin least greatest first → All (IsWithin least greatest) ps → All (IsEdgeWithin least greatest) (path_edges first ps)
  path_within first [] h all = All-nil (IsEdgeWithin least greatest)
  path_within first (p ∷ []) h all =
      All-cons (IsEdgeWithin least greatest) (between p first) [] (between_within p first (All-head (IsWithin least greatest) p [] all) h) (All-nil (IsEdgeWithin least greatest))
  path_within first (p ∷ r ∷ rest) h all =
      let later : All (IsWithin least greatest) (r ∷ rest) = All-tail (IsWithin least greatest) p (r ∷ rest) all in
      All-cons (IsEdgeWithin least greatest) (between p r) (path_edges first (r ∷ rest))
      (between_within p r (All-head (IsWithin least greatest) p (r ∷ rest) all) (All-head (IsWithin least greatest) r rest later))
      (path_within first (r ∷ rest) h later)

  pub contour_within : (ps : List Point) → All (IsWithin least greatest) ps → All (IsEdgeWithin least greatest) (contour_edges ps)
  contour_within [] all = All-nil (IsEdgeWithin least greatest)
  contour_within (p ∷ rest) all = path_within p (p ∷ rest) (All-head (IsWithin least greatest) p rest all) all

  owned_within : (links : List Border) (n : ℕ) (ss : List Edge) → All (IsEdgeWithin least greatest) ss → OwnedAreWithin least greatest (map (owned links n) ss)
  owned_within links n [] all = All-nil (λ (o : Owned). IsEdgeWithin least greatest o.edge)
  owned_within links n (s ∷ ss) all =
      All-cons (λ (o : Owned). IsEdgeWithin least greatest o.edge) (owned links n s) (map (owned links n) ss)
      (All-head (IsEdgeWithin least greatest) s ss all)
      (owned_within links n ss (All-tail (IsEdgeWithin least greatest) s ss all))

  pub all_owned_within : (links : List Border) (n : ℕ) (cs : List Contour) → ContoursAreWithin least greatest cs → OwnedAreWithin least greatest (owned_from links n cs)
  all_owned_within links n [] all = All-nil (λ (o : Owned). IsEdgeWithin least greatest o.edge)
  all_owned_within links n (c ∷ cs) all =
      let here : All (IsWithin least greatest) c.points = All-head (λ (c : Contour). All (IsWithin least greatest) c.points) c cs all in
      let later : ContoursAreWithin least greatest cs = All-tail (λ (c : Contour). All (IsWithin least greatest) c.points) c cs all in
      All-append (λ (o : Owned). IsEdgeWithin least greatest o.edge) (map (owned links n) (contour_edges c.points)) (owned_from links (suc n) cs)
      (owned_within links n (contour_edges c.points) (contour_within c.points here))
      (all_owned_within links (suc n) cs later)

-- ---- the way down

pub way_down_of_more : (o : Owned) (os : List Owned) (above : Bool) (e : Edge) → way_down (o ∷ os) above e ≡ highest_beside above e o (way_down os above e)
way_down_of_more o os above e =
    elim (cond above o.above (not o.above) && is_under e o.edge) as (λ b. highest (cond b (o ∷ filter (λ o. cond above o.above (not o.above) && is_under e o.edge) os) (filter (λ o. cond above o.above (not o.above) && is_under e o.edge) os)) ≡ cond b (Some (higher o (way_down os above e))) (way_down os above e)) [
      | true ↦ refl
      | false ↦ refl
    ]

-- ---- contours by number

pub no_contour : {X : Type 0} (f : X → Contour) (xs : List X) (n : ℕ) → length xs ≤ n → contour_at (map f xs) n ≡ None
no_contour f [] n h = refl
no_contour f (x ∷ xs) zero h = absurd (omega arith)
no_contour f (x ∷ xs) (suc n) h = no_contour f xs n (omega arith)

pub contour_is : {X : Type 0} (f : X → Contour) (xs : List X) (n : ℕ) (x : X) → n < length xs → x ≡ get_or xs n x → contour_at (map f xs) n ≡ Some (f x)
contour_is f [] n x h at = absurd (omega arith)
contour_is f (y ∷ ys) zero x h at = ap (λ z. Some (f z)) (sym at)
contour_is f (y ∷ ys) (suc n) x h at = contour_is f ys n x (omega arith) at

-- ---- the contour below

module _ (edges : List Owned) where
  abbrev met : Option Owned → Option ℕ
  met o =
      elim o [
        | None ↦ None
        | Some o ↦ Some o.contour
      ]

  abbrev met_from : Option Edge → Option ℕ
  met_from e =
      elim e [
        | None ↦ None
        | Some e ↦ met (way_down edges true e)
      ]

  abbrev below_from : Option Contour → Option ℕ
  below_from c =
      elim c [
        | None ↦ None
        | Some c ↦ met_from (anchor c.points)
      ]

  module _ (contours : List Contour) (n : ℕ) where
    pub below_none : contour_at contours n ≡ None → contour_below edges contours n ≡ None
    below_none none = ap below_from none

    module _ (c : Contour) (at : contour_at contours n ≡ Some c) where
      pub below_no_anchor : anchor c.points ≡ None → contour_below edges contours n ≡ None
      below_no_anchor none = ap below_from at ∙ ap met_from none

      pub below_nothing : (e : Edge) → anchor c.points ≡ Some e → way_down edges true e ≡ None → contour_below edges contours n ≡ None
      below_nothing e there down = ap below_from at ∙ (ap met_from there ∙ ap met down)

      pub below_met : (e : Edge) (o : Owned) → anchor c.points ≡ Some e → way_down edges true e ≡ Some o → contour_below edges contours n ≡ Some o.contour
      below_met e o there down = ap below_from at ∙ (ap met_from there ∙ ap met down)

-- ---- the owner

module _ (links : List Border) (contours : List Contour) (k : ℕ) where
  -- the owner by the contour that is met
  abbrev owner_of : ℕ → Option Contour → Option ℕ
  owner_of n c =
      elim c [
        | None ↦ None
        | Some d ↦ cond d.is_hole (hole_owner links contours k n) (Some n)
      ]

  abbrev owner_by : Option ℕ → Option ℕ
  owner_by n =
      elim n [
        | None ↦ None
        | Some n ↦ owner_of n (contour_at contours n)
      ]

  abbrev owner_met : Option Owned → Option ℕ
  owner_met o =
      elim o [
        | None ↦ None
        | Some o ↦ owner_of o.contour (contour_at contours o.contour)
      ]

  abbrev owner_anchored : Option Edge → Option ℕ
  owner_anchored e =
      elim e [
        | None ↦ None
        | Some e ↦ owner_met (way_down (owned_from links zero contours) true e)
      ]

  abbrev owner_numbered : Option Contour → Option ℕ
  owner_numbered c =
      elim c [
        | None ↦ None
        | Some c ↦ owner_anchored (anchor c.points)
      ]

  by_met : (o : Option Owned) → owner_met o ≡ owner_by (met (owned_from links zero contours) o)
  by_met None = refl
  by_met (Some o) = refl

  by_anchored : (e : Option Edge) → owner_anchored e ≡ owner_by (met_from (owned_from links zero contours) e)
  by_anchored None = refl
  by_anchored (Some e) = by_met (way_down (owned_from links zero contours) true e)

  by_numbered : (c : Option Contour) → owner_numbered c ≡ owner_by (below_from (owned_from links zero contours) c)
  by_numbered None = refl
  by_numbered (Some c) = by_anchored (anchor c.points)

  module _ (m hole : ℕ) (more : m ≡ suc k) where
    owner_step : hole_owner links contours m hole ≡ owner_by (contour_below (owned_from links zero contours) contours hole)
    owner_step = ap (λ j. hole_owner links contours j hole) more ∙ by_numbered (contour_at contours hole)

    -- nothing is met
    pub no_owner : contour_below (owned_from links zero contours) contours hole ≡ None → hole_owner links contours m hole ≡ None
    no_owner none = owner_step ∙ ap owner_by none

    module _ (n : ℕ) (below : contour_below (owned_from links zero contours) contours hole ≡ Some n) where
      pub owner_lost : contour_at contours n ≡ None → hole_owner links contours m hole ≡ None
      owner_lost none = owner_step ∙ (ap owner_by below ∙ ap (owner_of n) none)

      -- an outline is met
      pub owner_found : (d : Contour) → contour_at contours n ≡ Some d → d.is_hole ≡ false → hole_owner links contours m hole ≡ Some n
      owner_found d at outline = owner_step ∙ (ap owner_by below ∙ (ap (owner_of n) at ∙ ap (λ b. cond b (hole_owner links contours k n) (Some n)) outline))

      -- another hole is met
      pub owner_passed : (d : Contour) → contour_at contours n ≡ Some d → d.is_hole ≡ true → hole_owner links contours m hole ≡ hole_owner links contours k n
      owner_passed d at hole_met = owner_step ∙ (ap owner_by below ∙ (ap (owner_of n) at ∙ ap (λ b. cond b (hole_owner links contours k n) (Some n)) hole_met))

-- ---- all owners

-- an element that is not named
pub an_element : {X : Type 0} (xs : List X) (i : ℕ) → i < length xs → (x : X) × (x ≡ get_or xs i x)
an_element [] i h = absurd (omega arith)
an_element (x ∷ xs) zero h = (x, refl)
an_element (x ∷ xs) (suc i) h = an_element xs i (omega arith)

module _ {X : Type 0} (f : X → Contour) (xs : List X) (links : List Border) where
  -- one owner more
  pub owners_more : (i : ℕ) → i < length xs
      → owners_from links (map f xs) i (drop i (map f xs)) ≡ hole_owner links (map f xs) (length (map f xs)) i ∷ owners_from links (map f xs) (i + 1) (drop (i + 1) (map f xs))
  owners_more i h =
      let found : (x : X) × (x ≡ get_or xs i x) = an_element xs i h in
      let up : suc i ≡ i + 1 = omega arith in
      ap (owners_from links (map f xs) i) (drop-mapped f xs i found.0 h found.1)
      ∙ ap (λ n. hole_owner links (map f xs) (length (map f xs)) i ∷ owners_from links (map f xs) n (drop (i + 1) (map f xs))) up

  pub no_owners_left : (i : ℕ) → length xs ≤ i → owners_from links (map f xs) i (drop i (map f xs)) ≡ []
  no_owners_left i h =
      let long : length (map f xs) ≤ i = omega (arith, length-map xs f) in
      ap (owners_from links (map f xs) i) (drop_of_length-le (map f xs) long)

pub many_owners : (links : List Border) (all : List Contour) (n : ℕ) (cs : List Contour) → length (owners_from links all n cs) ≡ length cs
many_owners links all n [] = refl
many_owners links all n (c ∷ cs) = ap suc (many_owners links all (suc n) cs)

pub owner_at : (links : List Border) (all : List Contour) (n i m : ℕ) (cs : List Contour) (d : Option ℕ) → i < length cs → n + i ≡ m → get_or (owners_from links all n cs) i d ≡ hole_owner links all (length all) m
owner_at links all n i m [] d h e = absurd (omega arith)
owner_at links all n zero m (c ∷ cs) d h e =
    let same : n ≡ m = omega (arith, e) in
    ap (hole_owner links all (length all)) same
owner_at links all n (suc i) m (c ∷ cs) d h e = owner_at links all (suc n) i m cs d (omega arith) (omega (arith, e))

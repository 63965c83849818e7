-- Each shape is a child once at most: its parent tells the contour, and each contour's children rise.
use Rattle.std.proofs.Common.{◌≡◌, ◌≢◌, ◌⊎◌, inl, inr, ℕ, zero, suc, ◌+◌, ◌<◌, ◌≤◌, Bool, true, false, cond, List, [], ◌∷◌, ◌++◌, map, get_or, AllPairs, Contains, refl, sym, ap, ◌∙◌, subst, arith}
use Rattle.std.specs.Prelude.{Option, Some, None}
use Rattle.std.proofs.lemmas.Bool.{eqb-true, false≢true}
use Rattle.std.proofs.lemmas.List.Elements.{Contains-append_cases}
use Rattle.plane_base.proofs.Facts.Maps.Normal.{AllPairs-nil, AllPairs-cons, AllPairs-head, AllPairs-tail}
use Rattle.segment_arrangement.proofs.Facts.GreatestEntry.{Contains-head, Contains-later, Contains-cases}
use Rattle.contour_walk.specs.Shapes.{is_owned_by}
use Rattle.contour_walk.specs.JoinedHoles.{shape_numbers}
use Rattle.contour_walk.specs.Hierarchy.{parents_in, children_of, link_to, links_from}
use Rattle.contour_walk.specs.HierarchyLaws.{EachShapeIsAChildOnce}
use Rattle.contour_walk.specs.declared.hierarchy.ChildLink.{ChildLink}
use Rattle.contour_walk.proofs.Binder.Sweeps.{All-from}
use Rattle.contour_walk.proofs.Facts.Binding.Lists.{map_tells}

-- ---- the children of a contour

owned_tells : (hole : ℕ) (p : Option ℕ) → is_owned_by hole p ≡ true → p ≡ Some hole
owned_tells hole None e = absurd (false≢true e)
owned_tells hole (Some m) e = ap (λ n. Some n) (eqb-true m hole e)

-- a child's parent is the contour
children_hold : (hole n : ℕ) (ps : List (Option ℕ)) (k : ℕ) → Contains (children_of hole n ps) k → (j : ℕ) × (k ≡ n + j) × (get_or ps j None ≡ Some hole)
children_hold hole n [] k here = absurd (omega (arith, here.1))
children_hold hole n (p ∷ ps) k here = by (is_owned_by hole p) refl here (children_hold hole (suc n) ps k)
  where
    later : ((j : ℕ) × (k ≡ suc n + j) × (get_or ps j None ≡ Some hole)) → (j : ℕ) × (k ≡ n + j) × (get_or (p ∷ ps) j None ≡ Some hole)
    later (j, e, h) = (suc j, omega (arith, e), h)

    by : (b : Bool) → is_owned_by hole p ≡ b → Contains (cond b (n ∷ children_of hole (suc n) ps) (children_of hole (suc n) ps)) k
        → (Contains (children_of hole (suc n) ps) k → (j : ℕ) × (k ≡ suc n + j) × (get_or ps j None ≡ Some hole))
        → (j : ℕ) × (k ≡ n + j) × (get_or (p ∷ ps) j None ≡ Some hole)
    by false e there rest = later (rest there)
    by true e there rest = of_either (Contains-cases n (children_of hole (suc n) ps) k there)
      where
        of_either : (n ≡ k) ⊎ Contains (children_of hole (suc n) ps) k → (j : ℕ) × (k ≡ n + j) × (get_or (p ∷ ps) j None ≡ Some hole)
        of_either (inl same) = (zero, omega (arith, same), owned_tells hole p e)
        of_either (inr behind) = later (rest behind)

children_rise : (hole n : ℕ) (ps : List (Option ℕ)) → AllPairs (λ a b. a < b) (children_of hole n ps)
children_rise hole n [] = AllPairs-nil (λ (a b : ℕ). a < b)
children_rise hole n (p ∷ ps) = by (is_owned_by hole p) (children_rise hole (suc n) ps)
  where
    above : (k : ℕ) → Contains (children_of hole (suc n) ps) k → n < k
    above k there = let h = children_hold hole (suc n) ps k there in omega (arith, h.1)

    by : (b : Bool) → AllPairs (λ a b. a < b) (children_of hole (suc n) ps) → AllPairs (λ a b. a < b) (cond b (n ∷ children_of hole (suc n) ps) (children_of hole (suc n) ps))
    by true rest = AllPairs-cons (λ (a b : ℕ). a < b) n (children_of hole (suc n) ps) (All-from (λ k. n < k) (children_of hole (suc n) ps) above) rest
    by false rest = rest

-- ---- links

abbrev Differ : ChildLink → ChildLink → Type 0
Differ k l = k.child_shape_index ≢ l.child_shape_index

links_differ : (shape contour : ℕ) (ks : List ℕ) → AllPairs (λ a b. a < b) ks → AllPairs Differ (map (link_to shape contour) ks)
links_differ shape contour [] h = AllPairs-nil Differ
links_differ shape contour (k ∷ ks) h =
    AllPairs-cons Differ (link_to shape contour k) (map (link_to shape contour) ks) (All-from (Differ (link_to shape contour k)) (map (link_to shape contour) ks) other)
    (links_differ shape contour ks (AllPairs-tail (λ (a b : ℕ). a < b) k ks h))
  where
    more : (j : ℕ) → Contains ks j → k < j
    more j (i, l, e) = subst (λ m. k < m) e (AllPairs-head (λ (a b : ℕ). a < b) k ks h i j l)

    other : (l : ChildLink) → Contains (map (link_to shape contour) ks) l → Differ (link_to shape contour k) l
    other l here same =
        let j = map_tells (link_to shape contour) ks l here in
        let less : k < j.0 = more j.0 j.1 in
        let child : j.0 ≡ l.child_shape_index = ap (λ (x : ChildLink). x.child_shape_index) j.2 in
        omega (arith, less, child, same)

-- a link's contour is the parent of its child
links_hold : (ps : List (Option ℕ)) (m : ℕ) (ns : List ℕ) (l : ChildLink) → Contains (links_from ps m ns) l
    → (m ≤ l.parent_contour_index) × (get_or ps l.child_shape_index None ≡ Some l.parent_contour_index)
links_hold ps m [] l here = absurd (omega (arith, here.1))
links_hold ps m (n ∷ ns) l here = by (Contains-append_cases (map (link_to n m) (children_of m 0 ps)) (links_from ps (suc m) ns) l here) (links_hold ps (suc m) ns l)
  where
    first : (k : ℕ) → Contains (children_of m 0 ps) k → link_to n m k ≡ l → (m ≤ l.parent_contour_index) × (get_or ps l.child_shape_index None ≡ Some l.parent_contour_index)
    first k there same =
        let h = children_hold m 0 ps k there in
        let at : h.0 ≡ k = omega (arith, h.1) in
        subst (λ (x : ChildLink). (m ≤ x.parent_contour_index) × (get_or ps x.child_shape_index None ≡ Some x.parent_contour_index)) same
        (omega arith, ap (λ j. get_or ps j None) (sym at) ∙ h.2)

    by : Contains (map (link_to n m) (children_of m 0 ps)) l ⊎ Contains (links_from ps (suc m) ns) l
        → (Contains (links_from ps (suc m) ns) l → (suc m ≤ l.parent_contour_index) × (get_or ps l.child_shape_index None ≡ Some l.parent_contour_index))
        → (m ≤ l.parent_contour_index) × (get_or ps l.child_shape_index None ≡ Some l.parent_contour_index)
    by (inl there) rest = let k = map_tells (link_to n m) (children_of m 0 ps) l there in first k.0 k.1 k.2
    by (inr there) rest = let h = rest there in (omega (arith, h.0), h.1)

pairs_joined : {X : Type 0} (R : X → X → Type 0) (xs ys : List X) → AllPairs R xs → AllPairs R ys → ((x y : X) → Contains xs x → Contains ys y → R x y) → AllPairs R (xs ++ ys)
pairs_joined R [] ys h k cross = k
pairs_joined R (x ∷ xs) ys h k cross =
    AllPairs-cons R x (xs ++ ys) (All-from (R x) (xs ++ ys) (λ y there. by y (Contains-append_cases xs ys y there)))
    (pairs_joined R xs ys (AllPairs-tail R x xs h) k (λ z y here there. cross z y (Contains-later x xs z here) there))
  where
    by : (y : _) → Contains xs y ⊎ Contains ys y → R x y
    by y (inl (i, l, e)) = subst (R x) e (AllPairs-head R x xs h i y l)
    by y (inr there) = cross x y (Contains-head x xs) there

child_once : (ps : List (Option ℕ)) (m : ℕ) (ns : List ℕ) → AllPairs Differ (links_from ps m ns)
child_once ps m [] = AllPairs-nil Differ
child_once ps m (n ∷ ns) =
    pairs_joined Differ (map (link_to n m) (children_of m 0 ps)) (links_from ps (suc m) ns) (links_differ n m (children_of m 0 ps) (children_rise m 0 ps)) (child_once ps (suc m) ns) cross
  where
    inside : (a b : ℕ) → Some a ≡ Some b → a ≡ b
    inside a b e = cc

    cross : (k l : ChildLink) → Contains (map (link_to n m) (children_of m 0 ps)) k → Contains (links_from ps (suc m) ns) l → Differ k l
    cross k l here there same =
        let j = map_tells (link_to n m) (children_of m 0 ps) k here in
        let h = children_hold m 0 ps j.0 j.1 in
        let at : h.0 ≡ j.0 = omega (arith, h.1) in
        let child : j.0 ≡ k.child_shape_index = ap (λ (x : ChildLink). x.child_shape_index) j.2 in
        let behind = links_hold ps (suc m) ns l there in
        let parents = inside m l.parent_contour_index (sym h.2 ∙ (ap (λ i. get_or ps i None) (at ∙ (child ∙ same)) ∙ behind.1)) in
        omega (arith, behind.0, parents)

pub each_shape_is_a_child_once : EachShapeIsAChildOnce
each_shape_is_a_child_once clockwise shapes = child_once (parents_in clockwise shapes) 0 (shape_numbers 0 shapes)

-- The shapes that lie in holes, and the links to them, one after another.
use Rattle.std.proofs.Common.{◌≡◌, ◌≢◌, ℕ, suc, ◌+◌, ◌<◌, ◌==◌, Bool, true, false, not, cond, List, [], ◌∷◌, ◌++◌, map, length, take, drop, min, get_or, All, append_assoc, append-nil, refl, sym, ap, ap₂, ◌∙◌, arith}
use Rattle.std.specs.Prelude.{Option, Some, None}
use Rattle.std.proofs.lemmas.Bool.{eqb-true, eq-eqb}
use Rattle.std.proofs.lemmas.List.{map-append, length-map, length-take-le, take_more}
use Rattle.std.proofs.lemmas.List.Elements.{All-map, All-append, All-cons, All-head, All-tail, All-nil}
use Rattle.plane_base.specs.Plane.{Point, IsWithin}
use Rattle.std.specs.Prelude.{ℤ}
use Rattle.contour_walk.specs.Walks.{Contour}
use Rattle.contour_walk.specs.BindingLaws.{all_contours}
use Rattle.contour_walk.specs.Shapes.{is_owned_by}
use Rattle.contour_walk.specs.ShapeViews.{ContoursAreWithin, ShapesAreWithin}
use Rattle.contour_walk.specs.JoinedHoles.{as_bound, as_hole, shape_numbers}
use Rattle.contour_walk.specs.Hierarchy.{contours_of_shape, contours_in, outlines_from, children_of, link_to, links_from}
use Rattle.contour_walk.specs.HierarchyViews.{inside_out, hole_numbers}
use Rattle.contour_walk.proofs.Binder.Joining.{taken_more, many_numbers}

-- ---- the contours of shapes

points_of_holes : (holes : List (List Point)) → map (λ c. c.points) (map as_hole holes) ≡ holes
points_of_holes [] = refl
points_of_holes (h ∷ hs) = ap (λ rest. h ∷ rest) (points_of_holes hs)

pub points_of_shape : (shape : List (List Point)) → map (λ c. c.points) (contours_of_shape shape) ≡ shape
points_of_shape [] = refl
points_of_shape (outline ∷ holes) = ap (λ rest. outline ∷ rest) (points_of_holes holes)

pub points_in : (shapes : List (List (List Point))) → map (λ c. c.points) (contours_in shapes) ≡ all_contours shapes
points_in [] = refl
points_in (s ∷ ss) = map-append (λ (c : Contour). c.points) (contours_of_shape s) (contours_in ss) ∙ ap₂ (λ xs ys. xs ++ ys) (points_of_shape s) (points_in ss)

pub many_contours : (shapes : List (List (List Point))) → length (contours_in shapes) ≡ length (shape_numbers 0 shapes)
many_contours shapes = sym (length-map (contours_in shapes) (λ (c : Contour). c.points)) ∙ (ap length (points_in shapes) ∙ sym (many_numbers 0 shapes))

module _ (least greatest : ℤ) where
  abbrev here : List Point → Type 0
  here points = All (IsWithin least greatest) points

  within_shape : (shape : List (List Point)) → All here shape → ContoursAreWithin least greatest (map inside_out (contours_of_shape shape))
  within_shape [] h = All-nil (λ (c : Contour). here c.points)
  within_shape (outline ∷ holes) h =
      All-cons (λ (c : Contour). here c.points) (inside_out (record { points = outline; is_hole = false })) (map inside_out (map as_hole holes)) (All-head here outline holes h)
      (All-map (λ (c : Contour). here c.points) inside_out (map as_hole holes) (All-map (λ (c : Contour). here c.points) as_hole holes (All-tail here outline holes h)))

  -- what lies in range lies there with inside and outside exchanged
  pub within_turned : (shapes : List (List (List Point))) → ShapesAreWithin least greatest shapes → ContoursAreWithin least greatest (map inside_out (contours_in shapes))
  within_turned [] h = All-nil (λ (c : Contour). here c.points)
  within_turned (s ∷ ss) h =
      rw (map-append inside_out (contours_of_shape s) (contours_in ss))
      (All-append (λ (c : Contour). here c.points) (map inside_out (contours_of_shape s)) (map inside_out (contours_in ss))
      (within_shape s (All-head (All here) s ss h)) (within_turned ss (All-tail (All here) s ss h)))

-- the contours of one shape more
pub turned_more : {X : Type 0} (f : X → List (List Point)) (xs : List X) (i : ℕ) (x : X) → i < length xs → x ≡ get_or xs i x
    → map inside_out (contours_in (take (i + 1) (map f xs))) ≡ map inside_out (contours_in (take i (map f xs))) ++ map inside_out (contours_of_shape (f x))
turned_more f xs i x l at =
    ap (λ ss. map inside_out (contours_in ss)) (taken_more f xs i x l at)
    ∙ (ap (map inside_out) (more (take i (map f xs))) ∙ map-append inside_out (contours_in (take i (map f xs))) (contours_of_shape (f x)))
  where
    more : (ss : List (List (List Point))) → contours_in (ss ++ f x ∷ []) ≡ contours_in ss ++ contours_of_shape (f x)
    more [] = append-nil (contours_of_shape (f x))
    more (s ∷ ss) = ap (λ cs. contours_of_shape s ++ cs) (more ss) ∙ sym (append_assoc (contours_of_shape s) (contours_in ss) (contours_of_shape (f x)))

-- the first contour, and then the others
pub first_and_rest : {X : Type 0} (f : X → List Point) (xs : List X) (k : ℕ) → k ≡ min (length xs) 1
    → map as_hole (map f (take k xs)) ++ map as_bound (map f (drop k xs)) ≡ map inside_out (contours_of_shape (map f xs))
first_and_rest {X} f [] k e = let none : k ≡ 0 = omega (arith, e) in ap (λ n. map as_hole (map f (take n (the_empty X))) ++ map as_bound (map f (drop n (the_empty X)))) none
  where
    the_empty : (X : Type 0) → List X
    the_empty X = []
first_and_rest {X} f (x ∷ xs) k e =
    let one : k ≡ 1 = omega (arith, e) in
    ap (λ n. map as_hole (map f (take n (x ∷ xs))) ++ map as_bound (map f (drop n (x ∷ xs)))) one ∙ ap (λ cs. as_hole (f x) ∷ cs) (rest (map f xs))
  where
    rest : (ps : List (List Point)) → map as_bound ps ≡ map inside_out (map as_hole ps)
    rest [] = refl
    rest (p ∷ ps) = ap (λ cs. as_bound p ∷ cs) (rest ps)

-- ---- the numbers of holes

numbers_with : (n : ℕ) (cs : List Contour) (c : Contour) → hole_numbers n (cs ++ c ∷ []) ≡ hole_numbers n cs ++ cond c.is_hole ((n + length cs) ∷ []) []
numbers_with n [] c = let same : n ≡ n + 0 = omega arith in ap (λ k. cond c.is_hole (k ∷ []) []) same
numbers_with n (b ∷ cs) c =
    by b.is_hole (hole_numbers (suc n) (cs ++ c ∷ [])) (hole_numbers (suc n) cs) (cond c.is_hole ((n + length (b ∷ cs)) ∷ []) [])
    (numbers_with (suc n) cs c ∙ ap (λ k. hole_numbers (suc n) cs ++ cond c.is_hole (k ∷ []) []) up)
  where
    up : suc n + length cs ≡ n + length (b ∷ cs)
    up = omega arith

    by : (b : Bool) (new old more : List ℕ) → new ≡ old ++ more → cond b (n ∷ new) new ≡ cond b (n ∷ old) old ++ more
    by true new old more e = ap (λ ns. n ∷ ns) e
    by false new old more e = e

pub numbers_more : {X : Type 0} (f : X → Contour) (xs : List X) (i : ℕ) (x : X) → i < length xs → x ≡ get_or xs i x
    → hole_numbers 0 (take (i + 1) (map f xs)) ≡ hole_numbers 0 (take i (map f xs)) ++ cond (f x).is_hole (i ∷ []) []
numbers_more f xs i x l at =
    ap (hole_numbers 0) (taken_more f xs i x l at)
    ∙ (numbers_with 0 (take i (map f xs)) (f x)
    ∙ ap (λ k. hole_numbers 0 (take i (map f xs)) ++ cond (f x).is_hole (k ∷ []) []) (omega (arith, length-take-le i (map f xs) (omega (arith, l, length-map xs f)))))

-- the holes are the outlines that were turned
pub outlines_turn : (n : ℕ) (cs : List Contour) → hole_numbers n (map inside_out cs) ≡ outlines_from n cs
outlines_turn n [] = refl
outlines_turn n (c ∷ cs) = by c.is_hole (hole_numbers (suc n) (map inside_out cs)) (outlines_from (suc n) cs) (outlines_turn (suc n) cs)
  where
    by : (b : Bool) (new old : List ℕ) → new ≡ old → cond (not b) (n ∷ new) new ≡ cond b old (n ∷ old)
    by true new old e = e
    by false new old e = ap (λ ns. n ∷ ns) e

-- ---- children

-- one shape more
pub children_with : (hole n : ℕ) (ps : List (Option ℕ)) (p : Option ℕ) → children_of hole n (ps ++ p ∷ []) ≡ children_of hole n ps ++ cond (is_owned_by hole p) ((n + length ps) ∷ []) []
children_with hole n [] p = let same : n ≡ n + 0 = omega arith in ap (λ k. cond (is_owned_by hole p) (k ∷ []) []) same
children_with hole n (q ∷ ps) p =
    by (is_owned_by hole q) (children_of hole (suc n) (ps ++ p ∷ [])) (children_of hole (suc n) ps) (cond (is_owned_by hole p) ((n + length (q ∷ ps)) ∷ []) [])
    (children_with hole (suc n) ps p ∙ ap (λ k. children_of hole (suc n) ps ++ cond (is_owned_by hole p) (k ∷ []) []) up)
  where
    up : suc n + length ps ≡ n + length (q ∷ ps)
    up = omega arith

    by : (b : Bool) (new old more : List ℕ) → new ≡ old ++ more → cond b (n ∷ new) new ≡ cond b (n ∷ old) old ++ more
    by true new old more e = ap (λ ns. n ∷ ns) e
    by false new old more e = e

module _ (ps : List (Option ℕ)) (n : ℕ) (all : length ps ≡ n) where
  more : (hole : ℕ) (p : Option ℕ) → children_of hole 0 (ps ++ p ∷ []) ≡ children_of hole 0 ps ++ cond (is_owned_by hole p) (n ∷ []) []
  more hole p = children_with hole 0 ps p ∙ ap (λ k. children_of hole 0 ps ++ cond (is_owned_by hole p) (k ∷ []) []) (omega (arith, all))

  pub lies_there : (hole m : ℕ) → m ≡ hole → children_of m 0 (ps ++ Some hole ∷ []) ≡ children_of m 0 ps ++ n ∷ []
  lies_there hole m same = more m (Some hole) ∙ ap (λ b. children_of m 0 ps ++ cond b (n ∷ []) []) (eq-eqb hole m (sym same))

  pub lies_elsewhere : (hole m : ℕ) → m ≢ hole → children_of m 0 (ps ++ Some hole ∷ []) ≡ children_of m 0 ps
  lies_elsewhere hole m other = more m (Some hole) ∙ (ap (λ b. children_of m 0 ps ++ cond b (n ∷ []) []) (by (hole == m) refl) ∙ append-nil (children_of m 0 ps))
    where
      by : (b : Bool) → hole == m ≡ b → hole == m ≡ false
      by true e = absurd (other (sym (eqb-true hole m e)))
      by false e = e

  pub lies_nowhere : (m : ℕ) → children_of m 0 (ps ++ None ∷ []) ≡ children_of m 0 ps
  lies_nowhere m = more m None ∙ append-nil (children_of m 0 ps)

-- ---- links

links_with : (parents : List (Option ℕ)) (m : ℕ) (ns : List ℕ) (n : ℕ)
    → links_from parents m (ns ++ n ∷ []) ≡ links_from parents m ns ++ map (link_to n (m + length ns)) (children_of (m + length ns) 0 parents)
links_with parents m [] n =
    let same : m ≡ m + 0 = omega arith in
    append-nil (map (link_to n m) (children_of m 0 parents)) ∙ ap (λ k. map (link_to n k) (children_of k 0 parents)) same
links_with parents m (s ∷ ns) n =
    let up : suc m + length ns ≡ m + length (s ∷ ns) = omega arith in
    ap (λ ls. map (link_to s m) (children_of m 0 parents) ++ ls)
    (links_with parents (suc m) ns n ∙ ap (λ k. links_from parents (suc m) ns ++ map (link_to n k) (children_of k 0 parents)) up)
    ∙ sym (append_assoc (map (link_to s m) (children_of m 0 parents)) (links_from parents (suc m) ns) (map (link_to n (m + length (s ∷ ns))) (children_of (m + length (s ∷ ns)) 0 parents)))

pub links_more : (parents : List (Option ℕ)) (ns : List ℕ) (i : ℕ) → i < length ns
    → links_from parents 0 (take (i + 1) ns) ≡ links_from parents 0 (take i ns) ++ map (link_to (get_or ns i 0) i) (children_of i 0 parents)
links_more parents ns i l =
    ap (links_from parents 0) (take_more ns i 0 l)
    ∙ (links_with parents 0 (take i ns) (get_or ns i 0)
    ∙ ap (λ k. links_from parents 0 (take i ns) ++ map (link_to (get_or ns i 0) k) (children_of k 0 parents)) (omega (arith, length-take-le i ns (omega (arith, l)))))

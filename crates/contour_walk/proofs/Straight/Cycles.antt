-- Where a contour begins doesn't matter to which of its points it passes straight. So each has its corners.
use Rattle.std.proofs.Common.{◌≡◌, ◌≢◌, ℕ, suc, ◌≤◌, inl, Bool, true, false, cond, List, [], ◌∷◌, ◌++◌, length, Contains, pos, get_or, refl, sym, ap, ◌∙◌, subst, append-nil, arith}
use Rattle.std.specs.Ordering.{int_eq}
use Rattle.std.proofs.lemmas.List.Elements.{All-head, All-tail, All-contains, All-contains_itself}
use Rattle.std.proofs.lemmas.List.Sorted.{IsPermutation-append_comm}
use Rattle.plane_base.specs.Plane.{Point, turn, is_before}
use Rattle.plane_base.specs.Cycles.{SameCycle}
use Rattle.plane_base.specs.Thinning.{Reaches, IsBare, bare}
use Rattle.plane_base.proofs.Facts.Points.Turns.{turn_start_twice}
use Rattle.contour_walk.proofs.Straight.Thin.{reaches_from, reaches_to, thinned_from}
use Rattle.contour_walk.proofs.Straight.Laws.{steps_on}
use Rattle.plane_base.proofs.Facts.Lists.Cycles.{cycle_length, cycle_refl, cycle_sym, cycle_rotated}
use Rattle.contour_walk.specs.Walks.{Contour, between, path_edges, contour_edges}
use Rattle.contour_walk.specs.Shapes.{last_of, corners_after, without_straight}
use Rattle.contour_walk.specs.BindingLaws.{PassOnce, CornersStay}
use Rattle.contour_walk.specs.WalkLaws.{borders}
use Rattle.segment_arrangement.specs.SideLaws.{IsArrangement}
use Rattle.plane_base.specs.Counts.{Count, Entry}
use Rattle.plane_base.specs.Regions.{FillRule, OverlayRule}
use Rattle.contour_walk.proofs.Binding.Walks.{contours_are_long}
use Rattle.contour_walk.proofs.Straight.Corners.{straight_case, clean_permuted, ends_elsewhere, corners_are, none_straight, three_corners, all_kept}
use Rattle.contour_walk.proofs.Facts.Binding.Anchors.{IsClean}
use Rattle.contour_walk.proofs.Binding.Passed.{clean}

-- ---- a path in two parts

last_append : (a : Point) (xs : List Point) (y : Point) (ys : List Point) → last_of a (xs ++ y ∷ ys) ≡ last_of y ys
last_append a [] y ys = refl
last_append a (x ∷ xs) y ys = last_append x xs y ys

corners_append :
    (b f : Point) (xs : List Point) (y : Point) (ys : List Point) →
    corners_after b f (xs ++ y ∷ ys) ≡ corners_after b y xs ++ corners_after (last_of b xs) f (y ∷ ys)
corners_append b f [] y ys = refl
corners_append b f (x ∷ []) y ys = by (int_eq (turn b x y) (pos 0))
  where
    by : (z : Bool) → cond z (corners_after x f (y ∷ ys)) (x ∷ corners_after x f (y ∷ ys)) ≡ cond z [] (x ∷ []) ++ corners_after x f (y ∷ ys)
    by true = refl
    by false = refl
corners_append b f (x ∷ r ∷ xs) y ys = by (int_eq (turn b x r) (pos 0)) (corners_append x f (r ∷ xs) y ys)
  where
    rest : List Point
    rest = corners_after (last_of r xs) f (y ∷ ys)

    by : (z : Bool) → corners_after x f (r ∷ xs ++ y ∷ ys) ≡ corners_after x y (r ∷ xs) ++ rest
        → cond z (corners_after x f (r ∷ xs ++ y ∷ ys)) (x ∷ corners_after x f (r ∷ xs ++ y ∷ ys)) ≡ cond z (corners_after x y (r ∷ xs)) (x ∷ corners_after x y (r ∷ xs)) ++ rest
    by true e = e
    by false e = ap (λ ps. x ∷ ps) e

straight_parts :
    (x : Point) (xs : List Point) (y : Point) (ys : List Point) →
    without_straight (x ∷ xs ++ y ∷ ys) ≡ corners_after (last_of y ys) y (x ∷ xs) ++ corners_after (last_of x xs) x (y ∷ ys)
straight_parts x xs y ys = ap (λ b. corners_after b x (x ∷ xs ++ y ∷ ys)) (last_append x xs y ys) ∙ corners_append (last_of y ys) x (x ∷ xs) y ys

straight_rotated : (front back : List Point) → SameCycle (without_straight (front ++ back)) (without_straight (back ++ front))
straight_rotated [] back = subst (λ d. SameCycle (without_straight back) (without_straight d)) (sym (append-nil back)) (cycle_refl (without_straight back))
straight_rotated (x ∷ xs) [] = subst (λ c. SameCycle (without_straight c) (without_straight (x ∷ xs))) (sym (append-nil (x ∷ xs))) (cycle_refl (without_straight (x ∷ xs)))
straight_rotated (x ∷ xs) (y ∷ ys) = record {
  front = corners_after (last_of y ys) y (x ∷ xs);
  back = corners_after (last_of x xs) x (y ∷ ys);
  first = straight_parts x xs y ys;
  second = straight_parts y ys x xs;
}

-- where a cycle begins doesn't matter
straight_cycle : {c d : List Point} → SameCycle c d → SameCycle (without_straight c) (without_straight d)
straight_cycle {c} {d} s =
    subst (λ c. SameCycle (without_straight c) (without_straight d)) (sym s.first)
    (subst (λ d. SameCycle (without_straight (s.front ++ s.back)) (without_straight d)) (sym s.second) (straight_rotated s.front s.back))

-- ---- as many as there were

no_more : (b f : Point) (ps : List Point) → length (corners_after b f ps) ≤ length ps
no_more b f [] = omega arith
no_more b f (p ∷ []) = by (int_eq (turn b p f) (pos 0))
  where
    by : (z : Bool) → length (cond z [] (p ∷ [])) ≤ 1
    by true = omega arith
    by false = omega arith
no_more b f (p ∷ r ∷ ps) = by (int_eq (turn b p r) (pos 0)) (no_more p f (r ∷ ps))
  where
    by : (z : Bool) → length (corners_after p f (r ∷ ps)) ≤ length (r ∷ ps) → length (cond z (corners_after p f (r ∷ ps)) (p ∷ corners_after p f (r ∷ ps))) ≤ length (p ∷ r ∷ ps)
    by true l = omega (arith, l)
    by false l = omega (arith, l)

all_there : (b f : Point) (ps : List Point) → length (corners_after b f ps) ≡ length ps → corners_after b f ps ≡ ps
all_there b f [] e = refl
all_there b f (p ∷ []) e = by (int_eq (turn b p f) (pos 0)) e
  where
    by : (z : Bool) → length (cond z [] (p ∷ [])) ≡ 1 → cond z [] (p ∷ []) ≡ p ∷ []
    by true e = absurd (omega (arith, e))
    by false e = refl
all_there b f (p ∷ r ∷ ps) e = by (int_eq (turn b p r) (pos 0)) e (no_more p f (r ∷ ps)) (all_there p f (r ∷ ps))
  where
    rest : List Point
    rest = corners_after p f (r ∷ ps)

    by : (z : Bool) → length (cond z (corners_after p f (r ∷ ps)) (p ∷ corners_after p f (r ∷ ps))) ≡ length (p ∷ r ∷ ps) → length (corners_after p f (r ∷ ps)) ≤ length (r ∷ ps)
        → (length (corners_after p f (r ∷ ps)) ≡ length (r ∷ ps) → corners_after p f (r ∷ ps) ≡ r ∷ ps)
        → cond z (corners_after p f (r ∷ ps)) (p ∷ corners_after p f (r ∷ ps)) ≡ p ∷ r ∷ ps
    by true e l same = absurd (omega (arith, e, l))
    by false e l same = ap (λ ps. p ∷ ps) (same (omega (arith, e)))

same_if_as_many : (c : List Point) → length (without_straight c) ≡ length c → without_straight c ≡ c
same_if_as_many [] e = refl
same_if_as_many (p ∷ rest) e = all_there (last_of p rest) p (p ∷ rest) e

-- ---- a corner is found

next_of : Point → List Point → Point
next_of f [] = f
next_of f (y ∷ ys) = y

-- a corner among the points of a path
record HasCorner (b f : Point) (ps : List Point) : Type 0 where
  before : List Point
  corner : Point
  after : List Point
  is : ps ≡ before ++ corner ∷ after
  turns : turn (last_of b before) corner (next_of f after) ≢ pos 0

found : (b f p : Point) (rest : List Point) → (corners_after b f (p ∷ rest) ≡ [] → ⊥) → HasCorner b f (p ∷ rest)
unfolding next_of
found b f p [] some =
    straight_case (turn b p f) (λ z. (cond z [] (p ∷ []) ≡ [] → ⊥) → HasCorner b f (p ∷ [])) (λ z some. absurd (some refl))
    (λ z some. record { before = []; corner = p; after = []; is = refl; turns = z }) some
found b f p (r ∷ rest) some =
    straight_case (turn b p r) (λ z. (cond z (corners_after p f (r ∷ rest)) (p ∷ corners_after p f (r ∷ rest)) ≡ [] → ⊥) → HasCorner b f (p ∷ r ∷ rest))
    (λ z some. let h = found p f r rest some in record { before = p ∷ h.before; corner = h.corner; after = h.after; is = ap (λ ps. p ∷ ps) h.is; turns = h.turns })
    (λ z some. record { before = []; corner = p; after = r ∷ rest; is = refl; turns = z }) some

-- ---- edges of a contour begun elsewhere

edges_append : (f : Point) (x : Point) (xs : List Point) (y : Point) (ys : List Point) → path_edges f (x ∷ xs ++ y ∷ ys) ≡ path_edges y (x ∷ xs) ++ path_edges f (y ∷ ys)
edges_append f x [] y ys = refl
edges_append f x (r ∷ xs) y ys = ap (λ ss. between x r ∷ ss) (edges_append f r xs y ys)

clean_rotated : (x : Point) (xs : List Point) (y : Point) (ys : List Point) → IsClean (contour_edges (x ∷ xs ++ y ∷ ys)) → IsClean (contour_edges (y ∷ ys ++ x ∷ xs))
clean_rotated x xs y ys h =
    subst IsClean (sym (edges_append y y ys x xs))
    (clean_permuted (path_edges y (x ∷ xs) ++ path_edges x (y ∷ ys)) (path_edges x (y ∷ ys) ++ path_edges y (x ∷ xs)) (IsPermutation-append_comm (path_edges y (x ∷ xs)) (path_edges x (y ∷ ys)))
    (subst IsClean (edges_append x x xs y ys) h))

-- ---- corners

record HasCorners (c : List Point) : Type 0 where
  long : 3 ≤ length (without_straight c)
  once : without_straight (without_straight c) ≡ without_straight c
  reached : Reaches c (without_straight c)

from_corner : (k q : Point) (rest : List Point) → IsClean (contour_edges (k ∷ q ∷ rest)) → turn (last_of q rest) k q ≢ pos 0 → HasCorners (k ∷ q ∷ rest)
from_corner k q rest h corner =
    let is : without_straight (k ∷ q ∷ rest) ≡ k ∷ corners_after k k (q ∷ rest) = corners_are k q rest h corner in
    record {
      long = subst (λ c. 3 ≤ length c) (sym is) (three_corners k q rest h corner);
      reached =
          subst (Reaches (k ∷ q ∷ rest)) (sym is)
          (thinned_from k [] k k q rest (steps_on k q (All-head (λ s. is_before s.a s.b ≡ true) (between k q) (path_edges k (q ∷ rest)) h.directed)) (turn_start_twice k q)
          (All-tail (λ s. is_before s.a s.b ≡ true) (between k q) (path_edges k (q ∷ rest)) h.directed) ([], refl) (inl (λ e. ends_elsewhere k q rest h (ap (last_of k) e))));
      once = ap without_straight is ∙ (all_kept (last_of k (corners_after k k (q ∷ rest))) k k (corners_after k k (q ∷ rest)) (none_straight k q rest h corner) ∙ sym is);
    }

rotated_corners : {c d : List Point} → SameCycle c d → HasCorners d → HasCorners c
rotated_corners {c} {d} s h =
    let one : SameCycle (without_straight c) (without_straight d) = straight_cycle s in
    let two : SameCycle (without_straight (without_straight c)) (without_straight (without_straight d)) = straight_cycle one in
    record {
      long = subst (λ n. 3 ≤ n) (sym (cycle_length one)) h.long;
      reached = reaches_to (reaches_from s h.reached) (cycle_sym one);
      once = same_if_as_many (without_straight c) (cycle_length two ∙ (ap length h.once ∙ sym (cycle_length one)));
    }

-- a contour of clean edges has corners
corners_of : (c : List Point) → 3 ≤ length c → IsClean (contour_edges c) → HasCorners c
unfolding next_of
corners_of [] l h = absurd (omega (arith, l))
corners_of (a ∷ []) l h = absurd (omega (arith, l))
corners_of (a ∷ q ∷ rest) l h = by (found a a q rest none)
  where
    none : corners_after a a (q ∷ rest) ≡ [] → ⊥
    none e = ends_elsewhere a q rest h (ap (last_of a) e)

    begun : (xs : List Point) (k : Point) (ys : List Point) → IsClean (contour_edges (k ∷ ys ++ a ∷ xs)) → turn (last_of a xs) k (next_of a ys) ≢ pos 0 → HasCorners (k ∷ ys ++ a ∷ xs)
    begun xs k [] edges turns = from_corner k a xs edges turns
    begun xs k (y ∷ ys) edges turns = from_corner k y (ys ++ a ∷ xs) edges (subst (λ z. turn z k y ≢ pos 0) (sym (last_append y ys a xs)) turns)

    by : HasCorner a a (q ∷ rest) → HasCorners (a ∷ q ∷ rest)
    by k =
        let edges : IsClean (contour_edges (a ∷ k.before ++ k.corner ∷ k.after)) = subst (λ ps. IsClean (contour_edges (a ∷ ps))) k.is h in
        subst (λ ps. HasCorners (a ∷ ps)) (sym k.is)
        (rotated_corners (cycle_rotated (a ∷ k.before) (k.corner ∷ k.after)) (begun k.before k.corner k.after (clean_rotated a k.before k.corner k.after edges) k.turns))

-- what is its own corners can't be thinned
bare_if_kept : (c : List Point) → without_straight c ≡ c → IsBare c
bare_if_kept c kept d t =
    fewer (length (without_straight row)) (length row) (length behind) (sym (cycle_length (straight_cycle t.was)) ∙ (ap length kept ∙ cycle_length t.was)) short refl
  where
    behind : List Point
    behind = t.after ∷ t.others

    row : List Point
    row = t.before ∷ t.p ∷ t.after ∷ t.others

    taken : corners_after t.before t.before (t.p ∷ t.after ∷ t.others) ≡ corners_after t.p t.before (t.after ∷ t.others)
    taken = ap (λ z. cond (int_eq z (pos 0)) (corners_after t.p t.before (t.after ∷ t.others)) (t.p ∷ corners_after t.p t.before (t.after ∷ t.others))) t.straight

    at_most : (b : Bool) (xs : List Point) → length xs ≤ length (t.after ∷ t.others) → length (cond b xs (t.before ∷ xs)) ≤ suc (length (t.after ∷ t.others))
    at_most true xs l = omega (arith, l)
    at_most false xs l = omega (arith, l)

    short : length (without_straight (t.before ∷ t.p ∷ t.after ∷ t.others)) ≤ suc (length (t.after ∷ t.others))
    short =
        at_most (int_eq (turn (last_of t.after t.others) t.before t.p) (pos 0)) (corners_after t.before t.before (t.p ∷ t.after ∷ t.others))
        (subst (λ xs. length xs ≤ length (t.after ∷ t.others)) (sym taken) (no_more t.p t.before (t.after ∷ t.others)))

    fewer : (n m k : ℕ) → n ≡ m → n ≤ suc k → m ≡ suc (suc k) → ⊥
    fewer n m k e l f = omega (arith, e, l, f)

pub corners_stay : CornersStay
corners_stay = record {
  long = λ fill rule es cs arranged passed i d l. (corners fill rule es cs arranged passed (get_or cs i d) (All-contains_itself cs i d l)).long;
  once = λ fill rule es cs arranged passed i d l. (corners fill rule es cs arranged passed (get_or cs i d) (All-contains_itself cs i d l)).once;
  thinned = λ fill rule es cs arranged passed i d l.
      let h = corners fill rule es cs arranged passed (get_or cs i d) (All-contains_itself cs i d l) in
      bare h.reached h.long (bare_if_kept (without_straight (get_or cs i d).points) h.once);
}
  where
    corners : (fill : FillRule) (rule : OverlayRule) (es : List (Entry Count)) (cs : List Contour) → IsArrangement es → PassOnce (borders fill rule es) cs → (c : Contour) → Contains cs c → HasCorners c.points
    corners fill rule es cs arranged passed c here =
        corners_of c.points
        (All-contains (λ (c : Contour). 3 ≤ length c.points) cs c (contours_are_long fill rule es cs arranged passed) here)
        (clean fill rule es arranged cs passed c here)

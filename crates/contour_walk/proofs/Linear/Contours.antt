-- A walk that marks its links is the walk of the links that are left, and leaves those that it doesn't pass.
use Rattle.std.proofs.Common.{◌≡◌, ℕ, zero, suc, ◌<◌, ◌≤◌, Bool, true, false, not, cond, List, [], ◌∷◌, ◌++◌, length, Option, Some, None, refl, sym, ap, ◌∙◌, subst, append_assoc, append-nil, arith}
use Rattle.std.proofs.lemmas.List.Sorted.{length_permutation}
use Rattle.plane_base.specs.Plane.{Point, Edge}
use Rattle.contour_walk.specs.Walks.{Border, Contour, between, without, next_point, walked, walk_from, is_same, top_link, is_one_of, contour_edges, left_by}
use Rattle.contour_walk.specs.LinearWalks.{left_after, walk_within, left_within, contour_by, walks_by_within, contour_within, left_by_within}
use Rattle.contour_walk.specs.WalkLaws.{step_along}
use Rattle.contour_walk.specs.declared.walk.course.Course.{Course}
use Rattle.contour_walk.proofs.Facts.Walks.Turns.{Has}
use Rattle.contour_walk.proofs.Facts.Walks.Rings.{Spoke, spoke, IsWheel, Alternates, wheel_from, neighbour, wheels_either_way}
use Rattle.contour_walk.proofs.Walks.Links.{AreLinks, kept_links, Along, one_goes}
use Rattle.contour_walk.proofs.Walks.Steps.{step, not_passed_more}
use Rattle.contour_walk.proofs.Walks.Paths.{last_is, walking, walk_passed, top_of_links}
use Rattle.contour_walk.proofs.Linear.Paths.{Leaves, leaves_not_passed}

-- ---- one walk

module _ (output : Bool) (links : List Border) (are : AreLinks links) (wheels : Alternates false (Along output links) (Along output links)) (n : ℕ) (enough : length links ≤ n) where
  -- the points of a walk, and what it leaves
  pub record IsWalk (c : Bool) (first second : Point) : Type 0 where
    pub points : walk_within n c links first second ≡ walk_from c links first second
    pub leaves : left_within n c links first second ≡ left_by (walk_from c links first second) links

  module _ (c : Bool) (first second : Point) (here : Along output links (step first second)) where
    abbrev left : List Border
    left = without (between first second) links

    walk_by : ℕ → Option Point → List Point
    walk_by m o =
        elim o [
          | None ↦ first ∷ second ∷ []
          | Some end ↦ first ∷ walked c (between end first) m left second first
        ]

    left_by_end : Option Point → List Border
    left_by_end o =
        elim o [
          | None ↦ left
          | Some end ↦ left_after c (between end first) n left second first
        ]

    whole : (end : Point) → next_point (not c) left first second ≡ Some end → Leaves output c first second end n (length links) left second first → IsWalk c first second
    unfolding walk_by left_by_end
    whole end next h =
        let full : walk_from c links first second ≡ first ∷ second ∷ h.tail = ap (walk_by (length links)) next ∙ ap (λ ps. first ∷ ps) h.same in
        record {
          points = ap (walk_by n) next ∙ (ap (λ ps. first ∷ ps) h.is ∙ sym full);
          leaves = ap left_by_end next ∙ (h.left ∙ (not_passed_more first first second h.tail links ∙ ap (λ ps. left_by ps links) (sym full)));
        }

    pub is_walk : IsWalk c first second
    is_walk = by (wheels_either_way false (not c) wheels first)
      where
        shorter : length links ≡ suc (length left)
        shorter = sym (length_permutation links (here.0 ∷ left) (one_goes output links are first second here))

        found : (rest : List Spoke) → IsWheel (not c) (Along output links) (Along output links) first (spoke second true ∷ rest) → IsWalk c first second
        found rest wheel =
            let m = neighbour (spoke second true) rest wheel in
            whole m.0 (last_is output links are wheels c first second here m.0 m.1 m.2)
            (leaves_not_passed output c first second m.0 n (length links) left second first (omega (arith, shorter)) (omega (arith, shorter)) (walking output links are wheels c first second here m.0 m.1 m.2))

        by : (spokes : List Spoke) × IsWheel (not c) (Along output links) (Along output links) first spokes → IsWalk c first second
        by (spokes, wheel) = let f = wheel_from spokes (spoke second true) wheel here in found f.0 f.1

-- ---- one contour

-- what a walk leaves are fewer links, which alternate
pub record IsLeft (output : Bool) (links : List Border) (points : List Point) : Type 0 where
  pub wheels : Alternates false (Along output (left_by points links)) (Along output (left_by points links))
  pub fewer : length (left_by points links) < length links

module _ (course : Course) (links : List Border) (are : AreLinks links) (wheels : Alternates false (Along course.output links) (Along course.output links)) (n : ℕ) (enough : length links ≤ n) where
  -- the contour that begins with a link, and what it leaves
  pub record IsContour (l : Border) : Type 0 where
    pub is : contour_within n course links l ≡ contour_by course links l
    pub leaves : left_by_within n course links l ≡ left_by (contour_by course links l).points links
    pub alternate : Alternates false (Along course.output (left_by (contour_by course links l).points links)) (Along course.output (left_by (contour_by course links l).points links))
    pub fewer : length (left_by (contour_by course links l).points links) < length links

  pub is_contour : (l : Border) → Has links l → IsContour l
  is_contour l here = by (is_same l.above course.output) refl
    where
      made : (c : Bool) → is_same l.above course.output ≡ c
          → cond c (walk_within n course.back links l.edge.b l.edge.a) (walk_within n course.forth links l.edge.a l.edge.b) ≡ cond c (walk_from course.back links l.edge.b l.edge.a) (walk_from course.forth links l.edge.a l.edge.b)
          → cond c (left_within n course.back links l.edge.b l.edge.a) (left_within n course.forth links l.edge.a l.edge.b)
          ≡ left_by (cond c (walk_from course.back links l.edge.b l.edge.a) (walk_from course.forth links l.edge.a l.edge.b)) links
          → IsLeft course.output links (cond c (walk_from course.back links l.edge.b l.edge.a) (walk_from course.forth links l.edge.a l.edge.b)) → IsContour l
      made c e points leaves left =
          let full : (contour_by course links l).points ≡ cond c (walk_from course.back links l.edge.b l.edge.a) (walk_from course.forth links l.edge.a l.edge.b) =
          ap (λ c. cond c (walk_from course.back links l.edge.b l.edge.a) (walk_from course.forth links l.edge.a l.edge.b)) e in
          let told = subst (IsLeft course.output links) (sym full) left in
          record {
            is =
                ap (λ ps. record { points = ps; is_hole = l.above })
                (ap (λ c. cond c (walk_within n course.back links l.edge.b l.edge.a) (walk_within n course.forth links l.edge.a l.edge.b)) e ∙ (points ∙ sym full));
            leaves =
                ap (λ c. cond c (left_within n course.back links l.edge.b l.edge.a) (left_within n course.forth links l.edge.a l.edge.b)) e
                ∙ (leaves ∙ ap (λ ps. left_by ps links) (sym full));
            alternate = told.wheels;
            fewer = told.fewer;
          }

      left_is : (c : Bool) → Has links l → (s : Edge) → step_along course.output l ≡ s → IsLeft course.output links (walk_from c links s.a s.b)
      left_is c here s e =
          let p = walk_passed course.output links are wheels c l here in
          subst (λ t. IsLeft course.output links (walk_from c links t.a t.b)) e (record { wheels = p.wheels; fewer = p.some })

      by : (c : Bool) → is_same l.above course.output ≡ c → IsContour l
      by true e =
          let along : step_along course.output l ≡ step l.edge.b l.edge.a = ap (λ t. cond t (step l.edge.b l.edge.a) l.edge) e in
          let w = is_walk course.output links are wheels n enough course.back l.edge.b l.edge.a (l, here, along) in
          made true e w.points w.leaves (left_is course.back here (step l.edge.b l.edge.a) along)
      by false e =
          let along : step_along course.output l ≡ l.edge = ap (λ t. cond t (step l.edge.b l.edge.a) l.edge) e in
          let w = is_walk course.output links are wheels n enough course.forth l.edge.a l.edge.b (l, here, along) in
          made false e w.points w.leaves (left_is course.forth here l.edge along)

-- what a walk gives and leaves is the contour of its first link and what that leaves
pub record IsMade (n : ℕ) (course : Course) (links : List Border) (l : Border) (contour : Contour) (rest : List Border) : Type 0 where
  pub is : contour ≡ contour_within n course links l
  pub leaves : rest ≡ left_by_within n course links l

pub made_contour :
    (n : ℕ) (course : Course) (links : List Border) (l : Border) (c : Bool) → is_same l.above course.output ≡ c → (points : List Point) (is_hole : Bool) (rest : List Border) → is_hole ≡ l.above
    → points ≡ cond c (walk_within n course.back links l.edge.b l.edge.a) (walk_within n course.forth links l.edge.a l.edge.b)
    → rest ≡ cond c (left_within n course.back links l.edge.b l.edge.a) (left_within n course.forth links l.edge.a l.edge.b)
    → IsMade n course links l (record { points = points; is_hole = is_hole }) rest
made_contour n course links l c same points is_hole rest hole points_are rest_is = record {
  is = λ i. record {
    points = (points_are ∙ ap (λ c. cond c (walk_within n course.back links l.edge.b l.edge.a) (walk_within n course.forth links l.edge.a l.edge.b)) (sym same)) i;
    is_hole = hole i;
  };
  leaves = rest_is ∙ ap (λ c. cond c (left_within n course.back links l.edge.b l.edge.a) (left_within n course.forth links l.edge.a l.edge.b)) (sym same);
}

-- ---- all walks

-- the contours so far and those of the links that are left are all
pub record GoOn (course : Course) (n : ℕ) (all contours : List Contour) (links : List Border) : Type 0 where
  pub steps : ℕ
  pub enough : length links ≤ steps
  pub is : contours ++ walks_by_within steps course links ≡ all
  pub are : AreLinks links
  pub few : length links ≤ n
  pub wheels : Alternates false (Along course.output links) (Along course.output links)

module _ (course : Course) (n : ℕ) (all contours : List Contour) (links : List Border) (h : GoOn course n all contours links) where
  pub all_walked : links ≡ [] → contours ≡ all
  all_walked none = sym (append-nil contours) ∙ (ap (λ cs. contours ++ cs) (sym (over h.steps)) ∙ (ap (λ ls. contours ++ walks_by_within h.steps course ls) (sym none) ∙ h.is))
    where
      over : (k : ℕ) → walks_by_within k course [] ≡ []
      over zero = refl
      over (suc k) = refl

  -- one contour more
  pub record OneMore (contour : Contour) (rest : List Border) : Type 0 where
    pub on : GoOn course n all (contours ++ contour ∷ []) rest
    pub fewer : length rest < length links

  module _ (l : Border) (ls : List Border) (begin : links ≡ l ∷ ls) (top : Border) (topmost : top_link l.edge.a links ≡ Some top) where
    abbrev chosen : ℕ → Option Border → List Contour
    chosen k o =
        elim o [
          | None ↦ []
          | Some top ↦ contour_by course (l ∷ ls) top ∷ walks_by_within k course (left_by (contour_by course (l ∷ ls) top).points (l ∷ ls))
        ]

    first_of_all : (k : ℕ) → walks_by_within (suc k) course links ≡ contour_by course links top ∷ walks_by_within k course (left_by (contour_by course links top).points links)
    first_of_all k =
        ap (walks_by_within (suc k) course) begin
        ∙ (ap (chosen k) (ap (top_link l.edge.a) (sym begin) ∙ topmost)
        ∙ ap (λ xs. contour_by course xs top ∷ walks_by_within k course (left_by (contour_by course xs top).points xs)) (sym begin))

    pub one_more : (contour : Contour) (rest : List Border) → contour ≡ contour_within n course links top → rest ≡ left_by_within n course links top → OneMore contour rest
    one_more contour rest contour_is rest_is = by h.steps h.enough h.is
      where
        here : Has links top
        here = top_of_links l.edge.a links top topmost

        walk : IsContour course links h.are h.wheels n h.few top
        walk = is_contour course links h.are h.wheels n h.few top here

        some : 0 < length links
        some = let e = ap length begin in omega arith

        by : (k : ℕ) → length links ≤ k → contours ++ walks_by_within k course links ≡ all → OneMore contour rest
        by zero short is = absurd (omega (arith, some))
        by (suc k) short is =
            let points = (contour_by course links top).points in
            let left_is : left_by points links ≡ rest = sym (rest_is ∙ walk.leaves) in
            let long : length rest < length links = subst (λ ls. length ls < length links) left_is walk.fewer in
            record {
              on = record {
                steps = k;
                enough = omega arith;
                is =
                    append_assoc contours (contour ∷ []) (walks_by_within k course rest)
                    ∙ (ap (λ c. contours ++ c ∷ walks_by_within k course rest) (contour_is ∙ walk.is)
                    ∙ (ap (λ ls. contours ++ contour_by course links top ∷ walks_by_within k course ls) (sym left_is)
                    ∙ (ap (λ cs. contours ++ cs) (sym (first_of_all k)) ∙ is)));
                are = subst AreLinks left_is (kept_links (λ m. not (is_one_of (contour_edges points) m.edge)) links h.are);
                few = let few = h.few in omega arith;
                wheels = subst (λ ls. Alternates false (Along course.output ls) (Along course.output ls)) left_is walk.alternate;
              };
              fewer = long;
            }

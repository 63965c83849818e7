-- No contour is lost on the way from walks to shapes, and the shapes wind as the walks do.
use Rattle.std.proofs.Common.{◌≡◌, ℕ, zero, suc, ◌+◌, ◌<◌, ◌==◌, Bool, true, false, cond, not, List, [], ◌∷◌, ◌++◌, map, filter, flat_map, length, All, IsPermutation, refl, sym, ap, ◌∙◌, subst, append_assoc, arith}
use Rattle.std.specs.Prelude.{Option, Some}
use Rattle.std.proofs.lemmas.Bool.{eq-eqb, eqb-true}
use Rattle.std.proofs.lemmas.List.{map-append}
use Rattle.std.proofs.lemmas.List.Elements.{All-nil, All-cons, All-head, All-tail, All-weaker}
use Rattle.std.proofs.lemmas.List.Sorted.{IsPermutation-refl, IsPermutation-sym, IsPermutation-trans, IsPermutation-cons, IsPermutation-middle, IsPermutation-map, IsPermutation-append_left, IsPermutation-append_right, IsPermutation-append_comm, IsPermutation-filter_both}
use Rattle.std.proofs.lemmas.Grind.{flat_map-append}
use Rattle.plane_base.specs.Plane.{Point, RationalPoint}
use Rattle.plane_base.specs.Windings.{contour_winding, cycle_winding}
use Rattle.plane_base.proofs.Facts.Lists.Totals.{total_map, total_pointwise_on}
use Rattle.plane_base.proofs.Facts.Windings.Sums.{contour_winding_is}
use Rattle.contour_walk.specs.Walks.{Border, Contour}
use Rattle.contour_walk.specs.Binding.{contour_at, hole_owner}
use Rattle.contour_walk.specs.Shapes.{finished, is_owned_by, holes_from, shapes_from}
use Rattle.contour_walk.specs.BindingLaws.{NeverStays, HolesAreOwned, all_contours, NothingIsLost}
use Rattle.contour_walk.proofs.Straight.Laws.{straight_points_dont_wind}

-- ---- one among numbers

-- the number stands in the list once
record IsOnce (k : ℕ) (ms : List ℕ) : Type 0 where
  front : List ℕ
  back : List ℕ
  is : ms ≡ front ++ k ∷ back
  not_before : All (λ m. k == m ≡ false) front
  not_after : All (λ m. k == m ≡ false) back

other_number : (k m : ℕ) → (k ≡ m → ⊥) → k == m ≡ false
other_number k m h = by (k == m) refl
  where
    by : (b : Bool) → k == m ≡ b → b ≡ false
    by true e = absurd (h (eqb-true k m e))
    by false e = refl

-- the numbers of outlines, from the contour n on
numbers : ℕ → List Contour → List ℕ
numbers n [] = []
numbers n (c ∷ cs) = cond c.is_hole (numbers (suc n) cs) (n ∷ numbers (suc n) cs)

later_numbers : (k n : ℕ) (cs : List Contour) → k < n → All (λ m. k == m ≡ false) (numbers n cs)
unfolding numbers
later_numbers k n [] l = All-nil (λ m. k == m ≡ false)
later_numbers k n (c ∷ cs) l = by c.is_hole (later_numbers k (suc n) cs (omega arith))
  where
    by : (b : Bool) → All (λ m. k == m ≡ false) (numbers (suc n) cs) → All (λ m. k == m ≡ false) (cond b (numbers (suc n) cs) (n ∷ numbers (suc n) cs))
    by true rest = rest
    by false rest = All-cons (λ m. k == m ≡ false) n (numbers (suc n) cs) (other_number k n (λ e. omega (arith, l, e))) rest

outline_once : (k n j : ℕ) (cs : List Contour) (d : Contour) → k ≡ n + j → contour_at cs j ≡ Some d → d.is_hole ≡ false → IsOnce k (numbers n cs)
unfolding numbers
outline_once k n j [] d e at outline = absurd (cc)
outline_once k n zero (c ∷ cs) d e at outline =
    let same : c ≡ d = cc in
    let solid : c.is_hole ≡ false = ap (λ (c : Contour). c.is_hole) same ∙ outline in
    let here : k ≡ n = omega (arith, e) in
    record {
      front = [];
      back = numbers (suc n) cs;
      is = ap (λ b. cond b (numbers (suc n) cs) (n ∷ numbers (suc n) cs)) solid ∙ ap (λ m. m ∷ numbers (suc n) cs) (sym here);
      not_before = All-nil (λ m. k == m ≡ false);
      not_after = later_numbers k (suc n) cs (omega (arith, here));
    }
outline_once k n (suc j) (c ∷ cs) d e at outline = by c.is_hole (outline_once k (suc n) j cs d (omega (arith, e)) at outline)
  where
    by : (b : Bool) → IsOnce k (numbers (suc n) cs) → IsOnce k (cond b (numbers (suc n) cs) (n ∷ numbers (suc n) cs))
    by true h = h
    by false h = record {
      front = n ∷ h.front;
      back = h.back;
      is = ap (λ ms. n ∷ ms) h.is;
      not_before = All-cons (λ m. k == m ≡ false) n h.front (other_number k n (λ f. omega (arith, e, f))) h.not_before;
      not_after = h.not_after;
    }

-- ---- one element more at one number

module _ {A : Type 0} where
  flat_agree : (f g : ℕ → List A) (ms : List ℕ) → All (λ m. f m ≡ g m) ms → flat_map f ms ≡ flat_map g ms
  flat_agree f g [] all = refl
  flat_agree f g (m ∷ ms) all = ap (λ xs. xs ++ flat_map f ms) (All-head (λ m. f m ≡ g m) m ms all) ∙ ap (λ xs. g m ++ xs) (flat_agree f g ms (All-tail (λ m. f m ≡ g m) m ms all))

  abbrev nothing : ℕ → List A
  nothing m = []

  flat_nothing : (ms : List ℕ) → flat_map nothing ms ≡ []
  flat_nothing [] = refl
  flat_nothing (m ∷ ms) = flat_nothing ms

  flat_flat : {B : Type 0} (f : A → B) (xss : List (List A)) → flat_map (λ xs. xs) (map (map f) xss) ≡ map f (flat_map (λ xs. xs) xss)
  flat_flat f [] = refl
  flat_flat f (xs ∷ xss) = ap (λ ys. map f xs ++ ys) (flat_flat f xss) ∙ sym (map-append f xs (flat_map (λ xs. xs) xss))

  module _ (k : ℕ) (x : A) (g : ℕ → List A) where
    abbrev with_one : ℕ → List A
    with_one m = cond (k == m) (x ∷ g m) (g m)

    unchanged : (ms : List ℕ) → All (λ m. k == m ≡ false) ms → flat_map with_one ms ≡ flat_map g ms
    unchanged ms all = flat_agree with_one g ms (All-weaker (λ m. k == m ≡ false) (λ m. with_one m ≡ g m) (λ m e. ap (λ b. cond b (x ∷ g m) (g m)) e) ms all)

    one_more : (ms : List ℕ) → IsOnce k ms → IsPermutation (x ∷ flat_map g ms) (flat_map with_one ms)
    one_more ms h =
        subst (λ ms. IsPermutation (x ∷ flat_map g ms) (flat_map with_one ms)) (sym h.is)
        (subst (λ xs. IsPermutation (x ∷ xs) (flat_map with_one (h.front ++ k ∷ h.back))) (sym (flat_map-append g h.front (k ∷ h.back)))
        (subst (λ xs. IsPermutation (x ∷ flat_map g h.front ++ (g k ++ flat_map g h.back)) xs) (sym parts)
        (IsPermutation-sym (flat_map g h.front ++ x ∷ (g k ++ flat_map g h.back)) (x ∷ flat_map g h.front ++ (g k ++ flat_map g h.back)) (IsPermutation-middle (flat_map g h.front) x (g k ++ flat_map g h.back)))))
      where
        parts : flat_map with_one (h.front ++ k ∷ h.back) ≡ flat_map g h.front ++ x ∷ (g k ++ flat_map g h.back)
        parts =
            flat_map-append with_one h.front (k ∷ h.back)
            ∙ (ap (λ xs. xs ++ (with_one k ++ flat_map with_one h.back)) (unchanged h.front h.not_before)
            ∙ (ap (λ xs. flat_map g h.front ++ (with_one k ++ xs)) (unchanged h.back h.not_after)
            ∙ ap (λ b. flat_map g h.front ++ (cond b (x ∷ g k) (g k) ++ flat_map g h.back)) (eq-eqb k k refl)))

-- ---- shapes

abbrev points_of : List Contour → List (List Point)
points_of cs = map (λ c. c.points) cs

abbrev is_outline : Contour → Bool
is_outline c = not c.is_hole

abbrev is_a_hole : Contour → Bool
is_a_hole c = c.is_hole

module _ (links : List Border) (contours : List Contour) where
  abbrev owner : ℕ → Option ℕ
  owner n = hole_owner links contours (length contours) n

  -- the outlines, and then the holes of each
  outlines_then_holes :
      (n : ℕ) (cs : List Contour) →
      IsPermutation (points_of (filter is_outline cs) ++ flat_map (λ m. holes_from links contours m zero contours) (numbers n cs)) (all_contours (shapes_from links contours n cs))
  unfolding numbers
  outlines_then_holes n [] = IsPermutation-refl []
  outlines_then_holes n (c ∷ cs) = by c.is_hole (outlines_then_holes (suc n) cs)
    where
      outlines : List (List Point)
      outlines = points_of (filter is_outline cs)

      got : ℕ → List (List Point)
      got m = holes_from links contours m zero contours

      rest : List (List Point)
      rest = flat_map got (numbers (suc n) cs)

      shapes : List (List (List Point))
      shapes = shapes_from links contours (suc n) cs

      by : (b : Bool) → IsPermutation (outlines ++ rest) (all_contours shapes)
          → IsPermutation (points_of (cond (not b) (c ∷ filter is_outline cs) (filter is_outline cs)) ++ flat_map got (cond b (numbers (suc n) cs) (n ∷ numbers (suc n) cs))) (all_contours (cond b shapes ((c.points ∷ got n) ∷ shapes)))
      by true h = h
      by false h =
          IsPermutation-cons c.points (outlines ++ (got n ++ rest)) (got n ++ all_contours shapes)
          (subst (λ xs. IsPermutation xs (got n ++ all_contours shapes)) (append_assoc outlines (got n) rest)
          (IsPermutation-trans ((outlines ++ got n) ++ rest) ((got n ++ outlines) ++ rest) (got n ++ all_contours shapes) (IsPermutation-append_left rest (outlines ++ got n) (got n ++ outlines) (IsPermutation-append_comm outlines (got n)))
          (subst (λ xs. IsPermutation xs (got n ++ all_contours shapes)) (sym (append_assoc (got n) outlines rest)) (IsPermutation-append_right (got n) (outlines ++ rest) (all_contours shapes) h))))

  -- each hole is had by one of the numbers
  holes_had :
      (n : ℕ) (cs : List Contour) (ms : List ℕ) → ((j : ℕ) (c : Contour) → contour_at cs j ≡ Some c → c.is_hole ≡ true → (k : ℕ) × (owner (n + j) ≡ Some k) × IsOnce k ms) →
      IsPermutation (points_of (filter is_a_hole cs)) (flat_map (λ m. holes_from links contours m n cs) ms)
  holes_had n [] ms had = subst (IsPermutation []) (sym (flat_nothing ms)) (IsPermutation-refl [])
  holes_had n (c ∷ cs) ms had = by c.is_hole refl (holes_had (suc n) cs ms (λ j d at hole. next j d at hole))
    where
      next : (j : ℕ) (d : Contour) → contour_at cs j ≡ Some d → d.is_hole ≡ true → (k : ℕ) × (owner (suc n + j) ≡ Some k) × IsOnce k ms
      next j d at hole =
          let h = had (suc j) d at hole in
          let shifted : suc n + j ≡ n + suc j = omega arith in
          (h.0, ap owner shifted ∙ h.1, h.2)

      others : ℕ → List (List Point)
      others m = holes_from links contours m (suc n) cs

      by : (b : Bool) → c.is_hole ≡ b → IsPermutation (points_of (filter is_a_hole cs)) (flat_map others ms)
          → IsPermutation (points_of (cond b (c ∷ filter is_a_hole cs) (filter is_a_hole cs))) (flat_map (λ m. cond b (cond (is_owned_by m (owner n)) (c.points ∷ others m) (others m)) (others m)) ms)
      by false e h = h
      by true e h = owned (had zero c refl e)
        where
          owned : (k : ℕ) × (owner (n + 0) ≡ Some k) × IsOnce k ms
              → IsPermutation (c.points ∷ points_of (filter is_a_hole cs)) (flat_map (λ m. cond (is_owned_by m (owner n)) (c.points ∷ others m) (others m)) ms)
          owned (k, is, once) =
              let here : n + 0 ≡ n = omega arith in
              subst (λ o. IsPermutation (c.points ∷ points_of (filter is_a_hole cs)) (flat_map (λ m. cond (is_owned_by m o) (c.points ∷ others m) (others m)) ms)) (sym (ap owner (sym here) ∙ is))
              (IsPermutation-trans (c.points ∷ points_of (filter is_a_hole cs)) (c.points ∷ flat_map others ms) (flat_map (with_one k c.points others) ms)
              (IsPermutation-cons c.points (points_of (filter is_a_hole cs)) (flat_map others ms) h)
              (one_more k c.points others ms once))

pub nothing_is_lost : NothingIsLost
nothing_is_lost links cs owned =
    IsPermutation-trans (points_of cs) (points_of outlines ++ points_of holes) (all_contours (shapes_from links cs zero cs)) apart
    (IsPermutation-trans (points_of outlines ++ points_of holes) (points_of outlines ++ flat_map (λ m. holes_from links cs m zero cs) (numbers zero cs)) (all_contours (shapes_from links cs zero cs))
    (IsPermutation-append_right (points_of outlines) (points_of holes) (flat_map (λ m. holes_from links cs m zero cs) (numbers zero cs)) (holes_had links cs zero cs (numbers zero cs) had))
    (outlines_then_holes links cs zero cs))
  where
    outlines : List Contour
    outlines = filter is_outline cs

    holes : List Contour
    holes = filter is_a_hole cs

    twice : (b : Bool) → b ≡ not (not b)
    twice true = refl
    twice false = refl

    apart : IsPermutation (points_of cs) (points_of outlines ++ points_of holes)
    apart =
        subst (IsPermutation (points_of cs)) (map-append (λ (c : Contour). c.points) outlines holes)
        (IsPermutation-map (λ (c : Contour). c.points) cs (outlines ++ holes) (IsPermutation-filter_both is_outline is_a_hole (λ c. twice c.is_hole) cs))

    had : (j : ℕ) (c : Contour) → contour_at cs j ≡ Some c → c.is_hole ≡ true → (k : ℕ) × (hole_owner links cs (length cs) (0 + j) ≡ Some k) × IsOnce k (numbers zero cs)
    had j c at hole =
        let h = owned j c at hole in
        let here : 0 + j ≡ j = omega arith in
        let there : h.0 ≡ 0 + h.0 = omega arith in
        (h.0, ap (hole_owner links cs (length cs)) here ∙ h.2, outline_once h.0 zero h.0 cs h.1 there h.3 h.4)

-- ---- the answer

pub same_contours :
    (links : List Border) (cs : List Contour) (keep_all : Bool) → HolesAreOwned links cs →
    IsPermutation (map (finished keep_all) (points_of cs)) (all_contours (map (map (finished keep_all)) (shapes_from links cs zero cs)))
same_contours links cs keep_all owned =
    subst (IsPermutation (map (finished keep_all) (points_of cs))) (sym (flat_flat (finished keep_all) (shapes_from links cs zero cs)))
    (IsPermutation-map (finished keep_all) (points_of cs) (all_contours (shapes_from links cs zero cs)) (nothing_is_lost links cs owned))

finished_winds : (keep_all : Bool) (points : List Point) (p : RationalPoint) → NeverStays points → cycle_winding (finished keep_all points) p ≡ cycle_winding points p
finished_winds true points p steps = refl
finished_winds false points p steps = straight_points_dont_wind points p steps

pub finished_contours_wind :
    (contours : List (List Point)) (keep_all : Bool) (p : RationalPoint) → All NeverStays contours →
    contour_winding (map (finished keep_all) contours) p ≡ contour_winding contours p
finished_contours_wind contours keep_all p steps =
    contour_winding_is (map (finished keep_all) contours) p
    ∙ (total_map (λ c. cycle_winding c p) (finished keep_all) contours
    ∙ (total_pointwise_on (λ c. cycle_winding (finished keep_all c) p) (λ c. cycle_winding c p) contours
    (All-weaker NeverStays (λ c. cycle_winding (finished keep_all c) p ≡ cycle_winding c p) (λ c h. finished_winds keep_all c p h) contours steps)
    ∙ sym (contour_winding_is contours p)))

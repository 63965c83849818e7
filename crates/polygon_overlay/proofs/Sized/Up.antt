-- What horizontal and vertical contours wind in a column, seen with x and y exchanged: as often as steps ran right under a place, less as often as
-- steps ran left. So do moved ones.
use Rattle.std.proofs.Common.{◌≡◌, ◌⊎◌, inl, inr, Bool, true, false, not, cond, ◌&&◌, List, [], ◌∷◌, map, flat_map, ℤ, pos, negsuc, neg_ℤ, ◌+ℤ◌, ◌-ℤ◌, ◌*ℤ◌, ◌≤ℤ◌, int_lt, int_le, int_eq, refl, sym, ap, ◌∙◌, arith}
use Rattle.std.proofs.lemmas.Int.{ints}
use Rattle.std.proofs.lemmas.Bool.{false≢true}
use Rattle.std.proofs.lemmas.Bool.Decides.{Decides-int_eq}
use Rattle.plane_base.specs.Plane.{Point, Edge, RationalPoint, step_winding}
use Rattle.plane_base.specs.Totals.{total}
use Rattle.plane_base.specs.Windings.{contour_winding}
use Rattle.plane_base.proofs.Facts.Lists.Totals.{total_difference}
use Rattle.plane_base.proofs.Facts.Numbers.Products.{product_of_sum, product_of_negation}
use Rattle.plane_base.proofs.Facts.Points.OneLine.{contribution, at_or_before, is_above, step_winding_is}
use Rattle.segment_split.specs.LineLaws.{is_rectilinear}
use Rattle.contour_walk.specs.WalkLaws.{contour_steps}
use Rattle.polygon_overlay.specs.Tiles.{AreRectilinear}
use Rattle.polygon_overlay.specs.Sizing.{exchanged, moved_up, moved}
use Rattle.polygon_overlay.proofs.Sized.Terms.{at, up_to, right_past, left_past, row_over, IsMoved, still, moves, UpHasPlaces}
use Rattle.segment_arrangement.proofs.Facts.ColumnPlaces.{le_holds, le_tells, lt_tells, lt_tells_not}
use Rattle.polygon_overlay.proofs.Tiles.Steps.{at_most, times_le, weak, rectilinear, is_horizontal, is_vertical, passes_horizontal}
use Rattle.polygon_overlay.proofs.Sized.Across.{vertical_winds}
use Rattle.polygon_overlay.proofs.Sized.Moves.{contours_sum, moved_contours_sum}
use Rattle.polygon_overlay.proofs.Sized.Places.{counts_rise, counts_part}

-- ---- numbers moved

le_one_less : (a b x : ℤ) → int_lt (a +ℤ b) x ≡ int_le (a +ℤ pos 1) (x -ℤ b)
le_one_less a b x = by (int_lt (a +ℤ b) x) (int_le (a +ℤ pos 1) (x -ℤ b)) refl refl
  where
    by : (m n : Bool) → int_lt (a +ℤ b) x ≡ m → int_le (a +ℤ pos 1) (x -ℤ b) ≡ n → m ≡ n
    by true true e f = refl
    by false false e f = refl
    by true false e f = absurd (omega (arith, ints))
    by false true e f = absurd (omega (arith, ints))

le_one_more : (a b x : ℤ) → int_lt (a +ℤ neg_ℤ b) x ≡ int_le (a +ℤ pos 1) (x +ℤ b)
le_one_more a b x = by (int_lt (a +ℤ neg_ℤ b) x) (int_le (a +ℤ pos 1) (x +ℤ b)) refl refl
  where
    by : (m n : Bool) → int_lt (a +ℤ neg_ℤ b) x ≡ m → int_le (a +ℤ pos 1) (x +ℤ b) ≡ n → m ≡ n
    by true true e f = refl
    by false false e f = refl
    by true false e f = absurd (omega (arith, ints))
    by false true e f = absurd (omega (arith, ints))

le_one : (a x : ℤ) → int_lt a x ≡ int_le (a +ℤ pos 1) x
le_one a x = by (int_lt a x) (int_le (a +ℤ pos 1) x) refl refl
  where
    by : (m n : Bool) → int_lt a x ≡ m → int_le (a +ℤ pos 1) x ≡ n → m ≡ n
    by true true e f = refl
    by false false e f = refl
    by true false e f = absurd (omega (arith, ints))
    by false true e f = absurd (omega (arith, ints))

no_fall : (x : ℤ) → x ≡ (pos 0 -ℤ pos 0) +ℤ x
no_fall x = omega (arith, ints)

-- ---- steps

module _ (v : RationalPoint) where
  abbrev p : RationalPoint
  p = exchanged v

  abbrev none : Point → ℤ
  none u = pos 0

  -- what a horizontal step adds: over the place, and over it after it was moved
  abbrev adds : Bool → Bool → Bool → Bool → ℤ
  adds l m a b = cond (l && (a && not b)) (pos 1) (pos 0) -ℤ cond (m && (not a && b)) (pos 1) (pos 0)

  abbrev under : Point → Bool
  under u = int_lt (pos p.q *ℤ u.y) p.y

  horizontal_adds : (s t : Point) → s.y ≡ t.y → step_winding s t p ≡ adds (under s) (under s) (at_or_before s p) (at_or_before t p)
  horizontal_adds s t level = step_winding_is s t p ∙ by (at_or_before s p) (at_or_before t p) refl refl
    where
      one : (l : Bool) → cond l (pos 1) (pos 0) ≡ adds l l true false
      one true = refl
      one false = refl

      back : (l : Bool) → cond l (negsuc 0) (pos 0) ≡ adds l l false true
      back true = refl
      back false = refl

      nothing : (l a : Bool) → pos 0 ≡ adds l l a a
      nothing true true = refl
      nothing true false = refl
      nothing false true = refl
      nothing false false = refl

      by : (a b : Bool) → at_or_before s p ≡ a → at_or_before t p ≡ b → contribution a b (is_above s t p) (is_above t s p) ≡ adds (under s) (under s) a b
      by true true e f = nothing (under s) true
      by false false e f = nothing (under s) false
      by true false e f = ap (λ l. cond l (pos 1) (pos 0)) (passes_horizontal s t p e f level) ∙ one (under s)
      by false true e f =
          ap (λ l. cond l (negsuc 0) (pos 0)) (passes_horizontal t s p f e (sym level) ∙ ap (λ y. int_lt (pos p.q *ℤ y) p.y) (sym level)) ∙ back (under s)

  vertical_adds : (l m a b : Bool) → a ≡ b → pos 0 ≡ adds l m a b
  vertical_adds true true true true e = refl
  vertical_adds true true false false e = refl
  vertical_adds true false true true e = refl
  vertical_adds true false false false e = refl
  vertical_adds false true true true e = refl
  vertical_adds false true false false e = refl
  vertical_adds false false true true e = refl
  vertical_adds false false false false e = refl
  vertical_adds l m true false e = absurd (false≢true (sym e))
  vertical_adds l m false true e = absurd (false≢true e)

  -- to the right, nothing ends, and to the left, nothing begins
  right_adds : (l m a b : Bool) → (b ≡ true → a ≡ true) → adds l l a b ≡ adds l m a b
  right_adds l m false true h = absurd (false≢true (h refl))
  right_adds true true a b h = refl
  right_adds false false a b h = refl
  right_adds true false true true h = refl
  right_adds true false true false h = refl
  right_adds true false false false h = refl
  right_adds false true true true h = refl
  right_adds false true true false h = refl
  right_adds false true false false h = refl

  left_adds : (l m a b : Bool) → (a ≡ true → b ≡ true) → adds m m a b ≡ adds l m a b
  left_adds l m true false h = absurd (false≢true (h refl))
  left_adds true true a b h = refl
  left_adds false false a b h = refl
  left_adds true false true true h = refl
  left_adds true false false true h = refl
  left_adds true false false false h = refl
  left_adds false true true true h = refl
  left_adds false true false true h = refl
  left_adds false true false false h = refl

  begun_alike : (s : Edge) → s.a.x ≡ s.b.x → at_or_before s.a p ≡ at_or_before s.b p
  begun_alike s e = ap (λ x. int_le (pos p.q *ℤ x) p.x) e

  step_adds : (s : Edge) → is_rectilinear s ≡ true
      → step_winding s.a s.b p ≡ (none s.a -ℤ none s.b) +ℤ (up_to (row_over v) (right_past v) v.x s -ℤ up_to (row_over v) (left_past v) v.x s)
  step_adds s straight = by (rectilinear s.a s.b straight) ∙ no_fall (up_to (row_over v) (right_past v) v.x s -ℤ up_to (row_over v) (left_past v) v.x s)
    where
      by : (s.a.y ≡ s.b.y) ⊎ (s.a.x ≡ s.b.x) → step_winding s.a s.b p ≡ up_to (row_over v) (right_past v) v.x s -ℤ up_to (row_over v) (left_past v) v.x s
      by (inl e) = horizontal_adds s.a s.b e ∙ ap (λ l. adds l l (at_or_before s.a p) (at_or_before s.b p)) (le_one (pos v.q *ℤ s.a.y) v.x)
      by (inr e) =
          vertical_winds p s.a s.b e
          ∙ vertical_adds (int_le (row_over v s) v.x) (int_le (row_over v s) v.x) (at_or_before s.a p) (at_or_before s.b p) (begun_alike s e)

  -- ---- moved

  module _ (bottom top : ℤ) where
    abbrev moved_adds : Edge → ℤ
    moved_adds s = up_to (row_over v) (right_past v) (v.x +ℤ (pos v.q *ℤ bottom)) s -ℤ up_to (row_over v) (left_past v) (v.x -ℤ (pos v.q *ℤ top)) s

    step_moves : (s : Edge) → is_rectilinear s ≡ true → IsMoved p none (λ u. u.x) (moved_up bottom top) moved_adds s
    step_moves s straight = by (int_eq s.a.x s.b.x) refl (rectilinear s.a s.b straight)
      where
        amount : ℤ
        amount = cond (int_lt s.b.x s.a.x) top (neg_ℤ bottom)

        first : Point
        first = record { x = s.a.x; y = s.a.y +ℤ amount }

        second : Point
        second = record { x = s.b.x; y = s.b.y +ℤ amount }

        begun : Bool
        begun = int_le (row_over v s) (v.x +ℤ (pos v.q *ℤ bottom))

        ended : Bool
        ended = int_le (row_over v s) (v.x -ℤ (pos v.q *ℤ top))

        earlier_too : (a b : ℤ) → a ≤ℤ b → int_le (pos p.q *ℤ b) p.x ≡ true → int_le (pos p.q *ℤ a) p.x ≡ true
        earlier_too a b l h = le_holds (pos p.q *ℤ a) p.x (at_most (pos p.q *ℤ a) (pos p.q *ℤ b) p.x (times_le p.q a b l) (le_tells (pos p.q *ℤ b) p.x h))

        adds_so : (u : Bool) → int_lt s.b.x s.a.x ≡ u → adds (under first) (under first) (at_or_before s.a p) (at_or_before s.b p) ≡ moved_adds s
        adds_so true h =
            ap (λ l. adds l l (at_or_before s.a p) (at_or_before s.b p)) is_ended
            ∙ left_adds begun ended (at_or_before s.a p) (at_or_before s.b p) (earlier_too s.b.x s.a.x (weak s.b.x s.a.x (lt_tells s.b.x s.a.x h)))
          where
            is_ended : under first ≡ ended
            is_ended =
                ap (λ b. int_lt (pos p.q *ℤ (s.a.y +ℤ cond b top (neg_ℤ bottom))) p.y) h
                ∙ (ap (λ z. int_lt z p.y) (product_of_sum (pos p.q) s.a.y top) ∙ le_one_less (pos p.q *ℤ s.a.y) (pos p.q *ℤ top) p.y)
        adds_so false h =
            ap (λ l. adds l l (at_or_before s.a p) (at_or_before s.b p)) is_begun
            ∙ right_adds begun ended (at_or_before s.a p) (at_or_before s.b p) (earlier_too s.a.x s.b.x (lt_tells_not s.b.x s.a.x h))
          where
            is_begun : under first ≡ begun
            is_begun =
                ap (λ b. int_lt (pos p.q *ℤ (s.a.y +ℤ cond b top (neg_ℤ bottom))) p.y) h
                ∙ (ap (λ z. int_lt z p.y)
                (product_of_sum (pos p.q) s.a.y (neg_ℤ bottom) ∙ ap (λ z. (pos p.q *ℤ s.a.y) +ℤ z) (product_of_negation (pos p.q) bottom))
                ∙ le_one_more (pos p.q *ℤ s.a.y) (pos p.q *ℤ bottom) p.y)

        by : (e : Bool) → int_eq s.a.x s.b.x ≡ e → (s.a.y ≡ s.b.y) ⊎ (s.a.x ≡ s.b.x) → IsMoved p none (λ u. u.x) (moved_up bottom top) moved_adds s
        by true e straight =
            let vertical = (Decides-int_eq s.a.x s.b.x).0 e in
            still (ap (λ b. cond b [] (first ∷ second ∷ [])) e) vertical
            (sym (vertical_adds begun ended (at_or_before s.a p) (at_or_before s.b p) (begun_alike s vertical)))
        by false e (inr vertical) = absurd (false≢true (sym e ∙ (Decides-int_eq s.a.x s.b.x).1 vertical))
        by false e (inl level) =
            moves first second (ap (λ b. cond b [] (first ∷ second ∷ [])) e) refl refl
            (horizontal_adds first second (ap (λ y. y +ℤ amount) level) ∙ (adds_so (int_lt s.b.x s.a.x) refl ∙ no_fall (moved_adds s)))
            (is_horizontal first second (ap (λ y. y +ℤ amount) level))

pub up_has_places : UpHasPlaces
up_has_places cs bottom top v all apart = (
  record {
    begun = λ k. total (up_to (row_over v) (right_past v) k) steps;
    ended = λ k. total (up_to (row_over v) (left_past v) k) steps;
    begun_rises = counts_rise (row_over v) steps (right_past v);
    ended_rises = counts_rise (row_over v) steps (left_past v);
    apart = λ k. counts_part (row_over v) steps (right_past v) (left_past v) k (apart (k +ℤ pos 1));
    is = λ k.
        contours_sum (exchanged (at k v)) (none v) (λ s. up_to (row_over v) (right_past v) k s -ℤ up_to (row_over v) (left_past v) k s) cs all (step_adds (at k v))
        ∙ total_difference (up_to (row_over v) (right_past v) k) (up_to (row_over v) (left_past v) k) steps;
    after =
        after.0
        ∙ total_difference (up_to (row_over v) (right_past v) (v.x +ℤ (pos v.q *ℤ bottom))) (up_to (row_over v) (left_past v) (v.x -ℤ (pos v.q *ℤ top))) steps;
  },
  after.1,
)
  where
    steps : List Edge
    steps = flat_map contour_steps cs

    after : (contour_winding (map (moved (moved_up bottom top)) cs) (exchanged v) ≡ total (moved_adds v bottom top) (flat_map contour_steps cs)) × AreRectilinear (map (moved (moved_up bottom top)) cs)
    after =
        moved_contours_sum (exchanged v) (none v) (λ u. u.x) (moved_up bottom top) (moved_adds v bottom top) cs all
        (λ s t vertical. (vertical_winds (exchanged v) s t vertical, is_vertical s t vertical)) (step_moves v bottom top)

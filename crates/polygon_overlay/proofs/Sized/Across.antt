-- What horizontal and vertical contours wind in a row: as often as steps ran down past it, less as often as steps ran up. So do moved ones.
use Rattle.std.proofs.Common.{◌≡◌, ◌⊎◌, inl, inr, Bool, true, false, not, cond, ◌&&◌, List, [], ◌∷◌, map, flat_map, ℤ, pos, negsuc, neg_ℤ, ◌+ℤ◌, ◌-ℤ◌, ◌*ℤ◌, ◌≤ℤ◌, int_lt, int_le, int_eq, refl, sym, ap, ap₂, ◌∙◌, arith}
use Rattle.std.proofs.lemmas.Int.{ints}
use Rattle.std.proofs.lemmas.Bool.{false≢true}
use Rattle.std.proofs.lemmas.Bool.Decides.{Decides-int_eq}
use Rattle.plane_base.specs.Plane.{Point, Edge, RationalPoint, step_winding}
use Rattle.plane_base.specs.Totals.{total}
use Rattle.plane_base.specs.Windings.{contour_winding}
use Rattle.plane_base.proofs.Facts.Lists.Totals.{total_difference}
use Rattle.plane_base.proofs.Facts.Numbers.Products.{product_of_sum, product_of_negation}
use Rattle.plane_base.proofs.Facts.Points.OneLine.{contribution, at_or_before, is_above, step_winding_is}
use Rattle.segment_split.specs.LineLaws.{is_rectilinear}
use Rattle.contour_walk.specs.WalkLaws.{contour_steps}
use Rattle.polygon_overlay.specs.Tiles.{AreRectilinear}
use Rattle.polygon_overlay.specs.Sizing.{moved_across, moved}
use Rattle.polygon_overlay.proofs.Sized.Terms.{at, up_to, is_under, falls_past, climbs_past, column_of, IsMoved, still, moves, AcrossHasPlaces}
use Rattle.segment_arrangement.proofs.Facts.ColumnPlaces.{lt_tells, lt_tells_not, lt_holds}
use Rattle.polygon_overlay.proofs.Tiles.Steps.{at_most_below, times_le, weak, rectilinear, is_horizontal, is_vertical, passes_horizontal}
use Rattle.polygon_overlay.proofs.Sized.Moves.{contours_sum, moved_contours_sum}
use Rattle.polygon_overlay.proofs.Sized.Places.{counts_rise, counts_part}

-- ---- numbers moved

pub le_less : (a b x : ℤ) → int_le (a +ℤ b) x ≡ int_le a (x -ℤ b)
le_less a b x = by (int_le (a +ℤ b) x) (int_le a (x -ℤ b)) refl refl
  where
    by : (m n : Bool) → int_le (a +ℤ b) x ≡ m → int_le a (x -ℤ b) ≡ n → m ≡ n
    by true true e f = refl
    by false false e f = refl
    by true false e f = absurd (omega (arith, ints))
    by false true e f = absurd (omega (arith, ints))

pub le_more : (a b x : ℤ) → int_le (a +ℤ neg_ℤ b) x ≡ int_le a (x +ℤ b)
le_more a b x = by (int_le (a +ℤ neg_ℤ b) x) (int_le a (x +ℤ b)) refl refl
  where
    by : (m n : Bool) → int_le (a +ℤ neg_ℤ b) x ≡ m → int_le a (x +ℤ b) ≡ n → m ≡ n
    by true true e f = refl
    by false false e f = refl
    by true false e f = absurd (omega (arith, ints))
    by false true e f = absurd (omega (arith, ints))

pub no_difference : (x y : ℤ) → x ≡ y → pos 0 ≡ x -ℤ y
no_difference x y e = omega (arith, ints)

pub nothing_taken : (x : ℤ) → x ≡ x -ℤ pos 0
nothing_taken x = omega (arith, ints)

pub nothing_added : (x y : ℤ) → y ≡ pos 0 → x ≡ x +ℤ y
nothing_added x y e = omega (arith, ints)

-- ---- steps

module _ (p : RationalPoint) where
  -- 1 where the point lies left of p and under it
  abbrev pub corner : Point → ℤ
  corner u = cond (at_or_before u p) (cond (is_under p u) (pos 1) (pos 0)) (pos 0)

  pub horizontal_winds : (u v : Point) → u.y ≡ v.y → step_winding u v p ≡ corner u -ℤ corner v
  horizontal_winds u v level = step_winding_is u v p ∙ by (at_or_before u p) (at_or_before v p) refl refl
    where
      same : is_under p u ≡ is_under p v
      same = ap (λ y. int_lt (pos p.q *ℤ y) p.y) level

      back : (s : Bool) → cond s (negsuc 0) (pos 0) ≡ pos 0 -ℤ cond s (pos 1) (pos 0)
      back true = refl
      back false = refl

      by : (a b : Bool) → at_or_before u p ≡ a → at_or_before v p ≡ b
          → contribution a b (is_above u v p) (is_above v u p) ≡ cond a (cond (is_under p u) (pos 1) (pos 0)) (pos 0) -ℤ cond b (cond (is_under p v) (pos 1) (pos 0)) (pos 0)
      by true true e f = no_difference (cond (is_under p u) (pos 1) (pos 0)) (cond (is_under p v) (pos 1) (pos 0)) (ap (λ s. cond s (pos 1) (pos 0)) same)
      by false false e f = refl
      by true false e f = ap (λ s. cond s (pos 1) (pos 0)) (passes_horizontal u v p e f level) ∙ nothing_taken (cond (is_under p u) (pos 1) (pos 0))
      by false true e f = ap (λ s. cond s (negsuc 0) (pos 0)) (passes_horizontal v u p f e (sym level)) ∙ back (is_under p v)

  pub vertical_winds : (u v : Point) → u.x ≡ v.x → step_winding u v p ≡ pos 0
  vertical_winds u v vertical = step_winding_is u v p ∙ by (at_or_before u p) (at_or_before v p) (ap (λ x. int_le (pos p.q *ℤ x) p.x) vertical)
    where
      by : (a b : Bool) → a ≡ b → contribution a b (is_above u v p) (is_above v u p) ≡ pos 0
      by true true e = refl
      by false false e = refl
      by true false e = absurd (false≢true (sym e))
      by false true e = absurd (false≢true e)

  -- what a vertical step adds
  abbrev adds : Bool → Bool → Bool → Bool → ℤ
  adds l m a b = cond (l && (not a && b)) (pos 1) (pos 0) -ℤ cond (m && (a && not b)) (pos 1) (pos 0)

  horizontal_adds : (l m a b : Bool) → a ≡ b → adds l m a b ≡ pos 0
  horizontal_adds true true true true e = refl
  horizontal_adds true true false false e = refl
  horizontal_adds true false true true e = refl
  horizontal_adds true false false false e = refl
  horizontal_adds false true true true e = refl
  horizontal_adds false true false false e = refl
  horizontal_adds false false true true e = refl
  horizontal_adds false false false false e = refl
  horizontal_adds l m true false e = absurd (false≢true (sym e))
  horizontal_adds l m false true e = absurd (false≢true e)

  abbrev falls : Bool → Bool → Bool → ℤ
  falls l a b = cond l (cond a (pos 1) (pos 0)) (pos 0) -ℤ cond l (cond b (pos 1) (pos 0)) (pos 0)

  vertical_adds : (l a b : Bool) → pos 0 ≡ falls l a b +ℤ adds l l a b
  vertical_adds true true true = refl
  vertical_adds true true false = refl
  vertical_adds true false true = refl
  vertical_adds true false false = refl
  vertical_adds false true true = refl
  vertical_adds false true false = refl
  vertical_adds false false true = refl
  vertical_adds false false false = refl

  -- upward
  climbing_adds : (l m a b : Bool) → (b ≡ true → a ≡ true) → pos 0 ≡ falls m a b +ℤ adds l m a b
  climbing_adds l m false true h = absurd (false≢true (h refl))
  climbing_adds true true true true h = refl
  climbing_adds true true true false h = refl
  climbing_adds true true false false h = refl
  climbing_adds true false true true h = refl
  climbing_adds true false true false h = refl
  climbing_adds true false false false h = refl
  climbing_adds false true true true h = refl
  climbing_adds false true true false h = refl
  climbing_adds false true false false h = refl
  climbing_adds false false true true h = refl
  climbing_adds false false true false h = refl
  climbing_adds false false false false h = refl

  -- downward
  falling_adds : (l m a b : Bool) → (a ≡ true → b ≡ true) → pos 0 ≡ falls l a b +ℤ adds l m a b
  falling_adds l m true false h = absurd (false≢true (h refl))
  falling_adds true true true true h = refl
  falling_adds true true false true h = refl
  falling_adds true true false false h = refl
  falling_adds true false true true h = refl
  falling_adds true false false true h = refl
  falling_adds true false false false h = refl
  falling_adds false true true true h = refl
  falling_adds false true false true h = refl
  falling_adds false true false false h = refl
  falling_adds false false true true h = refl
  falling_adds false false false true h = refl
  falling_adds false false false false h = refl

  step_adds : (s : Edge) → is_rectilinear s ≡ true
      → step_winding s.a s.b p ≡ (corner s.a -ℤ corner s.b) +ℤ (up_to (column_of p) (falls_past p) p.x s -ℤ up_to (column_of p) (climbs_past p) p.x s)
  step_adds s straight = by (rectilinear s.a s.b straight)
    where
      under_alike : s.a.y ≡ s.b.y → is_under p s.a ≡ is_under p s.b
      under_alike e = ap (λ y. int_lt (pos p.q *ℤ y) p.y) e

      by : (s.a.y ≡ s.b.y) ⊎ (s.a.x ≡ s.b.x)
          → step_winding s.a s.b p ≡ (corner s.a -ℤ corner s.b) +ℤ (up_to (column_of p) (falls_past p) p.x s -ℤ up_to (column_of p) (climbs_past p) p.x s)
      by (inl e) =
          horizontal_winds s.a s.b e
          ∙ nothing_added (corner s.a -ℤ corner s.b) (adds (at_or_before s.a p) (at_or_before s.a p) (is_under p s.a) (is_under p s.b))
          (horizontal_adds (at_or_before s.a p) (at_or_before s.a p) (is_under p s.a) (is_under p s.b) (under_alike e))
      by (inr e) =
          vertical_winds s.a s.b e
          ∙ (vertical_adds (at_or_before s.a p) (is_under p s.a) (is_under p s.b)
          ∙ ap (λ l. (corner s.a -ℤ cond l (cond (is_under p s.b) (pos 1) (pos 0)) (pos 0)) +ℤ adds (at_or_before s.a p) (at_or_before s.a p) (is_under p s.a) (is_under p s.b))
          (ap (λ x. int_le (pos p.q *ℤ x) p.x) e))

  -- ---- moved

  module _ (left right : ℤ) where
    abbrev moved_adds : Edge → ℤ
    moved_adds s = up_to (column_of p) (falls_past p) (p.x +ℤ (pos p.q *ℤ left)) s -ℤ up_to (column_of p) (climbs_past p) (p.x -ℤ (pos p.q *ℤ right)) s

    step_moves : (s : Edge) → is_rectilinear s ≡ true → IsMoved p corner (λ u. u.y) (moved_across left right) moved_adds s
    step_moves s straight = by (int_eq s.a.y s.b.y) refl (rectilinear s.a s.b straight)
      where
        amount : ℤ
        amount = cond (int_lt s.a.y s.b.y) right (neg_ℤ left)

        first : Point
        first = record { x = s.a.x +ℤ amount; y = s.a.y }

        second : Point
        second = record { x = s.b.x +ℤ amount; y = s.b.y }

        begun : Bool
        begun = int_le (pos p.q *ℤ s.a.x) (p.x +ℤ (pos p.q *ℤ left))

        ended : Bool
        ended = int_le (pos p.q *ℤ s.a.x) (p.x -ℤ (pos p.q *ℤ right))

        ends_alike : s.a.x ≡ s.b.x → at_or_before first p ≡ at_or_before second p
        ends_alike e = ap (λ x. int_le (pos p.q *ℤ (x +ℤ amount)) p.x) e

        with_ends : (l : Bool) → at_or_before first p ≡ l → at_or_before second p ≡ l → falls l (is_under p s.a) (is_under p s.b) ≡ corner first -ℤ corner second
        with_ends l e f =
            ap₂ (λ m n. cond m (cond (is_under p s.a) (pos 1) (pos 0)) (pos 0) -ℤ cond n (cond (is_under p s.b) (pos 1) (pos 0)) (pos 0)) (sym e) (sym f)

        lower_too : (a b : ℤ) → a ≤ℤ b → int_lt (pos p.q *ℤ b) p.y ≡ true → int_lt (pos p.q *ℤ a) p.y ≡ true
        lower_too a b l h =
            lt_holds (pos p.q *ℤ a) p.y (at_most_below (pos p.q *ℤ a) (pos p.q *ℤ b) p.y (times_le p.q a b l) (lt_tells (pos p.q *ℤ b) p.y h))

        adds_so : s.a.x ≡ s.b.x → (u : Bool) → int_lt s.a.y s.b.y ≡ u → pos 0 ≡ (corner first -ℤ corner second) +ℤ moved_adds s
        adds_so vertical true h =
            climbing_adds begun ended (is_under p s.a) (is_under p s.b) (lower_too s.a.y s.b.y (weak s.a.y s.b.y (lt_tells s.a.y s.b.y h)))
            ∙ ap (λ n. n +ℤ moved_adds s) (with_ends ended is_ended (sym (ends_alike vertical) ∙ is_ended))
          where
            is_ended : at_or_before first p ≡ ended
            is_ended =
                ap (λ b. int_le (pos p.q *ℤ (s.a.x +ℤ cond b right (neg_ℤ left))) p.x) h
                ∙ (ap (λ z. int_le z p.x) (product_of_sum (pos p.q) s.a.x right) ∙ le_less (pos p.q *ℤ s.a.x) (pos p.q *ℤ right) p.x)
        adds_so vertical false h =
            falling_adds begun ended (is_under p s.a) (is_under p s.b) (lower_too s.b.y s.a.y (lt_tells_not s.a.y s.b.y h))
            ∙ ap (λ n. n +ℤ moved_adds s) (with_ends begun is_begun (sym (ends_alike vertical) ∙ is_begun))
          where
            is_begun : at_or_before first p ≡ begun
            is_begun =
                ap (λ b. int_le (pos p.q *ℤ (s.a.x +ℤ cond b right (neg_ℤ left))) p.x) h
                ∙ (ap (λ z. int_le z p.x)
                (product_of_sum (pos p.q) s.a.x (neg_ℤ left) ∙ ap (λ z. (pos p.q *ℤ s.a.x) +ℤ z) (product_of_negation (pos p.q) left))
                ∙ le_more (pos p.q *ℤ s.a.x) (pos p.q *ℤ left) p.x)

        by : (e : Bool) → int_eq s.a.y s.b.y ≡ e → (s.a.y ≡ s.b.y) ⊎ (s.a.x ≡ s.b.x) → IsMoved p corner (λ u. u.y) (moved_across left right) moved_adds s
        by true e straight =
            let level = (Decides-int_eq s.a.y s.b.y).0 e in
            still (ap (λ b. cond b [] (first ∷ second ∷ [])) e) level
            (horizontal_adds begun ended (is_under p s.a) (is_under p s.b) (ap (λ y. int_lt (pos p.q *ℤ y) p.y) level))
        by false e (inl level) = absurd (false≢true (sym e ∙ (Decides-int_eq s.a.y s.b.y).1 level))
        by false e (inr vertical) =
            moves first second (ap (λ b. cond b [] (first ∷ second ∷ [])) e) refl refl
            (vertical_winds first second (ap (λ x. x +ℤ amount) vertical) ∙ adds_so vertical (int_lt s.a.y s.b.y) refl)
            (is_vertical first second (ap (λ x. x +ℤ amount) vertical))

pub across_has_places : AcrossHasPlaces
across_has_places cs left right p all apart = (
  record {
    begun = λ k. total (up_to (column_of p) (falls_past p) k) steps;
    ended = λ k. total (up_to (column_of p) (climbs_past p) k) steps;
    begun_rises = counts_rise (column_of p) steps (falls_past p);
    ended_rises = counts_rise (column_of p) steps (climbs_past p);
    apart = λ k. counts_part (column_of p) steps (falls_past p) (climbs_past p) k (apart (k +ℤ pos 1));
    is = λ k.
        contours_sum (at k p) (corner (at k p)) (λ s. up_to (column_of p) (falls_past p) k s -ℤ up_to (column_of p) (climbs_past p) k s) cs all (step_adds (at k p))
        ∙ total_difference (up_to (column_of p) (falls_past p) k) (up_to (column_of p) (climbs_past p) k) steps;
    after =
        after.0
        ∙ total_difference (up_to (column_of p) (falls_past p) (p.x +ℤ (pos p.q *ℤ left))) (up_to (column_of p) (climbs_past p) (p.x -ℤ (pos p.q *ℤ right))) steps;
  },
  after.1,
)
  where
    steps : List Edge
    steps = flat_map contour_steps cs

    after : (contour_winding (map (moved (moved_across left right)) cs) p ≡ total (moved_adds p left right) (flat_map contour_steps cs)) × AreRectilinear (map (moved (moved_across left right)) cs)
    after =
        moved_contours_sum p (corner p) (λ u. u.y) (moved_across left right) (moved_adds p left right) cs all
        (λ u v level. (horizontal_winds p u v level, is_horizontal u v level)) (step_moves p left right)

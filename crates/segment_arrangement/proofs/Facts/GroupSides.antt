-- Groups have the sides, fills and boundaries that they have in the whole map.
use Rattle.std.specs.declared.ops.ControlFlow.TheVariants.{Continue, Break}
use Rattle.std.proofs.Common.{◌+◌, inl, inr, subst, ◌≡◌, ℕ, Bool, true, false, cond, List, [], ◌∷◌, map, filter, All, Contains, ℤ, pos, ◌+ℤ◌, ◌*ℤ◌, ◌≤ℤ◌, refl, sym, ap, ap₂, ◌∙◌, arith}
use Rattle.std.proofs.lemmas.Int.{ints}
use Rattle.std.proofs.lemmas.List.Elements.{All-head, All-tail, All-weaker, filter_passes}
use Rattle.i_tree.proofs.Trees.Lists.{filter_map_like}
use Rattle.plane_base.specs.Plane.{Edge}
use Rattle.plane_base.specs.Counts.{Count, Entry, boolean}
use Rattle.plane_base.specs.Regions.{FillRule, OverlayRule, region}
use Rattle.segment_split.specs.Groups.{Bounds, LiesWithin, in_box, AreGroups, part}
use Rattle.segment_split.proofs.Passes.Laws.{EndsAre}
use Rattle.segment_split.proofs.Facts.Groups.Boxes.{in_box_told}
use Rattle.segment_arrangement.specs.EdgeSides.{middle, lower_side, upper_side, fill_bits, fill_of, differ, is_boundary, boundary}
use Rattle.segment_arrangement.specs.Graphs.{Link, link_of}
use Rattle.segment_arrangement.specs.SideLaws.{IsArrangement}
use Rattle.segment_arrangement.specs.GroupSides.{IsPlaceIn, GroupsFillAlone, IsHandledAlone}
use Rattle.segment_arrangement.specs.Sweeps.{Handling, IsHandled}
use Rattle.segment_arrangement.proofs.Facts.GroupWindings.{winding_alone}
use Rattle.segment_arrangement.proofs.Facts.GroupParts.{part_arranged}

-- ---- lists

filter_same_on : {X : Type 0} (p q : X → Bool) (xs : List X) → All (λ x. p x ≡ q x) xs → filter p xs ≡ filter q xs
filter_same_on p q [] h = refl
filter_same_on p q (x ∷ xs) h =
    ap₂ (λ b ys. cond b (x ∷ ys) ys) (All-head (λ x. p x ≡ q x) x xs h) (filter_same_on p q xs (All-tail (λ x. p x ≡ q x) x xs h))

map_same_on : {X Y : Type 0} (f g : X → Y) (xs : List X) → All (λ x. f x ≡ g x) xs → map f xs ≡ map g xs
map_same_on f g [] h = refl
map_same_on f g (x ∷ xs) h = ap₂ (λ y ys. y ∷ ys) (All-head (λ x. f x ≡ g x) x xs h) (map_same_on f g xs (All-tail (λ x. f x ≡ g x) x xs h))

filter_exchange : {X : Type 0} (p q : X → Bool) (xs : List X) → filter p (filter q xs) ≡ filter q (filter p xs)
filter_exchange p q [] = refl
filter_exchange {X} p q (x ∷ xs) = by (p x) (q x) refl refl (filter_exchange p q xs)
  where
    by : (b c : Bool) → p x ≡ b → q x ≡ c → filter p (filter q xs) ≡ filter q (filter p xs)
        → filter p (cond c (x ∷ filter q xs) (filter q xs)) ≡ filter q (cond b (x ∷ filter p xs) (filter p xs))
    by true true e f rest =
        ap (λ b. cond b (x ∷ filter p (filter q xs)) (filter p (filter q xs))) e
        ∙ (ap (λ ys. x ∷ ys) rest ∙ sym (ap (λ c. cond c (x ∷ filter q (filter p xs)) (filter q (filter p xs))) f))
    by true false e f rest = rest ∙ sym (ap (λ c. cond c (x ∷ filter q (filter p xs)) (filter q (filter p xs))) f)
    by false true e f rest = ap (λ b. cond b (x ∷ filter p (filter q xs)) (filter p (filter q xs))) e ∙ rest
    by false false e f rest = rest

-- ---- the middle of an edge lies in its box

middle_in : (box : Bounds) (s : Edge) → EndsAre (LiesWithin box) s → IsPlaceIn box (middle s)
middle_in box s h = record {
  left = least box.left s.a.x s.b.x h.0.left h.1.left;
  right = most box.right s.a.x s.b.x h.0.right h.1.right;
  bottom = least box.bottom s.a.y s.b.y h.0.bottom h.1.bottom;
  top = most box.top s.a.y s.b.y h.0.top h.1.top;
}
  where
    least : (l x y : ℤ) → l ≤ℤ x → l ≤ℤ y → (pos 2 *ℤ l) ≤ℤ (x +ℤ y)
    least l x y m n = omega (arith, ints)

    most : (r x y : ℤ) → x ≤ℤ r → y ≤ℤ r → (x +ℤ y) ≤ℤ (pos 2 *ℤ r)
    most r x y m n = omega (arith, ints)

-- ---- groups

module _ (boxes : List Bounds) (box : Bounds) (at : Contains boxes box) (es : List (Entry Count)) (arranged : IsArrangement es) (groups : AreGroups boxes es) where
  lower_alone : (s : Edge) → in_box box s ≡ true → lower_side (part box es) s ≡ lower_side es s
  lower_alone s h = winding_alone boxes box at es groups arranged.directed (middle s) (omega arith) (middle_in box s (in_box_told box s h)) arranged.balanced

  upper_alone : (e : Entry Count) → in_box box e.edge ≡ true → upper_side (part box es) e ≡ upper_side es e
  upper_alone e h = ap (λ c. boolean.join c e.count) (lower_alone e.edge h)

  fill_alone : (fill : FillRule) (e : Entry Count) → in_box box e.edge ≡ true → fill_of fill (part box es) e ≡ fill_of fill es e
  fill_alone fill e h = ap₂ (fill_bits fill) (lower_alone e.edge h) (upper_alone e h)

  bounds_alone : (fill : FillRule) (rule : OverlayRule) (e : Entry Count) → in_box box e.edge ≡ true → is_boundary fill rule (part box es) e ≡ is_boundary fill rule es e
  bounds_alone fill rule e h = ap₂ (λ c d. differ (region fill rule c) (region fill rule d)) (lower_alone e.edge h) (upper_alone e h)

  -- ---- lists of them

  all_in : (fs : List (Entry Count)) → All (λ e. in_box box e.edge ≡ true) (part box fs)
  all_in fs = filter_passes (λ e. in_box box e.edge) fs

  boundary_alone : (fill : FillRule) (rule : OverlayRule) → boundary fill rule (part box es) ≡ part box (boundary fill rule es)
  boundary_alone fill rule =
      filter_same_on (is_boundary fill rule (part box es)) (is_boundary fill rule es) (part box es)
      (All-weaker (λ e. in_box box e.edge ≡ true) (λ e. is_boundary fill rule (part box es) e ≡ is_boundary fill rule es e) (bounds_alone fill rule) (part box es) (all_in es))
      ∙ filter_exchange (is_boundary fill rule es) (λ e. in_box box e.edge) es

  links_alone : (fill : FillRule) (fs : List (Entry Count)) → map (link_of fill (part box es)) (part box fs) ≡ filter (λ l. in_box box l.edge) (map (link_of fill es) fs)
  links_alone fill fs =
      map_same_on (link_of fill (part box es)) (link_of fill es) (part box fs)
      (All-weaker (λ e. in_box box e.edge ≡ true) (λ e. link_of fill (part box es) e ≡ link_of fill es e) same (part box fs) (all_in fs))
      ∙ sym (filter_map_like (λ l. in_box box l.edge) (link_of fill es) fs)
    where
      same : (e : Entry Count) → in_box box e.edge ≡ true → link_of fill (part box es) e ≡ link_of fill es e
      same e h = let with_fill : ℕ → Link = λ n. record { edge = e.edge; fill = n } in ap with_fill (fill_alone fill e h)

pub groups_fill_alone : GroupsFillAlone
groups_fill_alone boxes box es arranged groups at = record {
  arrangement = part_arranged boxes box at es groups arranged;
  winding_in = λ p some inside. winding_alone boxes box at es groups arranged.directed p some inside arranged.balanced;
  lower = lower_alone boxes box at es arranged groups;
  upper = upper_alone boxes box at es arranged groups;
  fill = fill_alone boxes box at es arranged groups;
  bounds = bounds_alone boxes box at es arranged groups;
  boundary_in = boundary_alone boxes box at es arranged groups;
  links = λ fill. links_alone boxes box at es arranged groups fill es;
  links_of_boundary = λ fill rule.
      ap (map (link_of fill (part box es))) (boundary_alone boxes box at es arranged groups fill rule)
      ∙ links_alone boxes box at es arranged groups fill (boundary fill rule es);
}

-- ---- what a handler is told

module _ {H S O : Type 0} (handles : Handling H S O) (finishes : H → O → Type 0) (fill other : S → ℕ) where
  handled_same : (n : ℕ) (segments : List S) (handler : H) (output : O) → All (λ s. fill s ≡ other s) segments
      → IsHandled handles finishes fill n segments handler output → IsHandled handles finishes other n segments handler output
  handled_same n [] handler output same h = h
  handled_same n (s ∷ rest) handler output same (inl (after, h)) =
      inl (after, subst (λ f. handles handler n s f (Break output) after) (All-head (λ s. fill s ≡ other s) s rest same) h)
  handled_same n (s ∷ rest) handler output same (inr (after, h, more)) =
      inr
      (after, subst (λ f. handles handler n s f (Continue tt) after) (All-head (λ s. fill s ≡ other s) s rest same) h, handled_same (n + 1) rest after output (All-tail (λ s. fill s ≡ other s) s rest same) more)

-- a fill that looks at the lower side alone
pub handled_alone : {H S O : Type 0} (handles : Handling H S O) (finishes : H → O → Type 0) (edge : S → Edge) (told : Count → S → ℕ) (es : List (Entry Count)) (segments : List S) (handler : H) (output : O)
    → IsArrangement es → IsHandled handles finishes (λ s. told (lower_side es (edge s)) s) 0 segments handler output
    → IsHandledAlone handles finishes edge (λ fs s. told (lower_side fs (edge s)) s) es segments handler output
handled_alone {S = S} handles finishes edge told es segments handler output arranged h = λ boxes own groups each.
    let same : (s : S) → Contains boxes (own s) × (in_box (own s) (edge s) ≡ true) → told (lower_side es (edge s)) s ≡ told (lower_side (part (own s) es) (edge s)) s =
    λ s k. ap (λ c. told c s) (sym ((groups_fill_alone boxes (own s) es arranged groups k.0).lower (edge s) k.1)) in
    handled_same handles finishes (λ s. told (lower_side es (edge s)) s) (λ s. told (lower_side (part (own s) es) (edge s)) s) 0 segments handler output
    (All-weaker (λ s. Contains boxes (own s) × (in_box (own s) (edge s) ≡ true)) (λ s. told (lower_side es (edge s)) s ≡ told (lower_side (part (own s) es) (edge s)) s) same segments each) h

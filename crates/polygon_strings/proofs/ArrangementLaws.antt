-- What a string builder holds, redrawn: an arrangement by its subject, which it may hold again.
use Rattle.std.specs.Prelude.{◌≡◌, ◌<◌, ℤ, pos, ◌+ℤ◌, ◌*ℤ◌, ◌-ℤ◌, true, List, ◌∷◌, [], map, length, AllPairs}
use Rattle.std.specs.declared.cmp.Ordering.TheVariants.{Less}
use Rattle.std.proofs.Common.{refl, sym, ap, ◌∙◌, subst, get_or, arith}
use Rattle.std.proofs.lemmas.Int.{ints}
use Rattle.std.proofs.lemmas.List.{get_or-map, length-map}
use Rattle.std.proofs.lemmas.List.Elements.{All-nil, All-cons, All-head, All-tail, All-map}
use Rattle.plane_base.specs.Plane.{Point, is_before, edge_order}
use Rattle.plane_base.specs.Segments.{IsEdgeWithin, MeetsInEnds}
use Rattle.plane_base.specs.Counts.{Count, Entry, normal, IsNormal}
use Rattle.plane_base.specs.Balance.{mark, fall, IsBalanced}
use Rattle.plane_base.proofs.Facts.Maps.Balance.{fall_normal}
use Rattle.plane_base.proofs.Facts.Maps.Normal.{normal_is_normal, normal_edges}
use Rattle.segment_split.specs.Passes.{edges_of}
use Rattle.segment_split.specs.Redrawing.{redrawn}
use Rattle.segment_split.specs.RedrawLaws.{Bounds, LiesWithin, EndsLieWithin, Rearranges, RedrawsToTheEnd}
use Rattle.segment_split.specs.SegmentViews.{AreWithin}
use Rattle.segment_split.specs.Strings.{StringCount, stringed}
use Rattle.segment_split.specs.StringLaws.{subject_additive}
use Rattle.segment_split.specs.declared.solver.Precision.{Precision}
use Rattle.segment_arrangement.specs.SideLaws.{IsArrangement}
use Rattle.segment_arrangement.specs.Strings.{subject_alone, subject_of}
use Rattle.polygon_strings.specs.Builders.{IsStringHeld, string_map}

module _ (least greatest : ℤ) where
  abbrev range : Bounds
  range = record { left = least; right = greatest; bottom = least; top = greatest }

  to_box : {C : Type 0} (es : List (Entry C)) → AreWithin least greatest es → EndsLieWithin range es
  to_box [] h = All-nil (λ e. LiesWithin range e.edge.a × LiesWithin range e.edge.b)
  to_box (e ∷ es) h =
      let first = All-head (λ e. IsEdgeWithin least greatest e.edge) e es h in
      All-cons (λ e. LiesWithin range e.edge.a × LiesWithin range e.edge.b) e es (
        record { left = first.0.0; right = first.0.1; bottom = first.0.2; top = first.0.3 },
        record { left = first.1.0; right = first.1.1; bottom = first.1.2; top = first.1.3 },
      ) (to_box es (All-tail (λ e. IsEdgeWithin least greatest e.edge) e es h))

  from_box : {C : Type 0} (es : List (Entry C)) → EndsLieWithin range es → AreWithin least greatest es
  from_box [] h = All-nil (λ e. IsEdgeWithin least greatest e.edge)
  from_box (e ∷ es) h =
      let first = All-head (λ e. LiesWithin range e.edge.a × LiesWithin range e.edge.b) e es h in
      All-cons (λ e. IsEdgeWithin least greatest e.edge) e es (
        (first.0.left, first.0.right, first.0.bottom, first.0.top),
        (first.1.left, first.1.right, first.1.bottom, first.1.top),
      ) (from_box es (All-tail (λ e. LiesWithin range e.edge.a × LiesWithin range e.edge.b) e es h))

-- ---- a string map read by its subject

pub subject_edges : (es : List (Entry StringCount)) → map (λ e. e.edge) (subject_of es) ≡ edges_of es
subject_edges [] = refl
subject_edges (e ∷ es) = ap (λ l. e.edge ∷ l) (subject_edges es)

pub subject_within : (least greatest : ℤ) (es : List (Entry StringCount)) → AreWithin least greatest es → AreWithin least greatest (subject_of es)
subject_within least greatest es h =
    All-map (λ e. IsEdgeWithin least greatest e.edge) (λ (e : Entry StringCount). record { edge = e.edge; count = subject_alone e.count }) es h

pub pairs_map : {X Y : Type 0} (R : Y → Y → Type 0) (f : X → Y) (xs : List X) → AllPairs (λ x y. R (f x) (f y)) xs → AllPairs R (map f xs)
pairs_map R f [] h = λ i j d low inside. absurd (omega (arith, inside))
pairs_map R f (x ∷ xs) h = λ i j d low inside.
    let long : length (map f (x ∷ xs)) ≡ length (x ∷ xs) = length-map (x ∷ xs) f in
    let second : j < length (x ∷ xs) = omega (arith, inside, long) in
    let first : i < length (x ∷ xs) = omega (arith, low, second) in
    subst (λ y. R y (get_or (map f (x ∷ xs)) j d)) (sym (get_or-map f (x ∷ xs) i x d first))
    (subst (R (f (get_or (x ∷ xs) i x))) (sym (get_or-map f (x ∷ xs) j x d second)) (h i j x low second))

fall_subject : (f : Point → ℤ) (es : List (Entry StringCount)) → fall (λ (c : Count). c.subject) f (subject_of es) ≡ fall (λ (c : StringCount). c.subject) f es
fall_subject f [] = refl
fall_subject f (e ∷ es) = ap (λ x. (e.count.subject *ℤ (f e.edge.a -ℤ f e.edge.b)) +ℤ x) (fall_subject f es)

fall_clip : (f : Point → ℤ) (es : List (Entry StringCount)) → fall (λ (c : Count). c.clip) f (subject_of es) ≡ pos 0
fall_clip f [] = refl
fall_clip f (e ∷ es) = ap (λ x. (pos 0 *ℤ (f e.edge.a -ℤ f e.edge.b)) +ℤ x) (fall_clip f es) ∙ none (f e.edge.a -ℤ f e.edge.b)
  where
    none : (x : ℤ) → (pos 0 *ℤ x) +ℤ pos 0 ≡ pos 0
    none x = omega (arith, ints)

-- ---- redrawn

module _ (least greatest : ℤ) (precision : Precision) (rearranges : Rearranges stringed (redrawn stringed precision)) (ends : RedrawsToTheEnd stringed precision)
    (es : List (Entry StringCount)) (held : IsStringHeld least greatest es) where
  map_normal : IsNormal stringed (normal stringed es)
  map_normal = normal_is_normal stringed es held.directed

  pub is_normal : IsNormal stringed (string_map precision es)
  is_normal = rearranges.is_normal (normal stringed es) map_normal

  balanced : IsBalanced (λ (c : StringCount). c.subject) (string_map precision es)
  balanced =
      rearranges.balanced (λ c. c.subject) subject_additive (normal stringed es)
      (λ v. fall_normal subject_additive (mark v) es ∙ held.balanced v)

  pub redrawn_arrangement : IsArrangement (subject_of (string_map precision es))
  redrawn_arrangement = record {
    directed =
        All-map (λ e. is_before e.edge.a e.edge.b ≡ true) (λ (e : Entry StringCount). record { edge = e.edge; count = subject_alone e.count })
        (string_map precision es) is_normal.directed;
    rising =
        pairs_map (λ e f. edge_order e.edge f.edge ≡ Less) (λ (e : Entry StringCount). record { edge = e.edge; count = subject_alone e.count })
        (string_map precision es) is_normal.rising;
    in_ends = subst MeetsInEnds (sym (subject_edges (string_map precision es))) (ends (normal stringed es) map_normal).meets;
    balanced = record {
      subject = λ v. fall_subject (mark v) (string_map precision es) ∙ balanced v;
      clip = λ v. fall_clip (mark v) (string_map precision es);
    };
  }

  pub redrawn_within : AreWithin least greatest (string_map precision es)
  redrawn_within =
      from_box least greatest (string_map precision es)
      (rearranges.bounded (range least greatest) (normal stringed es)
      (to_box least greatest (normal stringed es) (normal_edges stringed (IsEdgeWithin least greatest) es held.within)))

  pub redrawn_held : IsStringHeld least greatest (string_map precision es)
  redrawn_held = record { within = redrawn_within; directed = is_normal.directed; counted = is_normal.counted; balanced = balanced }

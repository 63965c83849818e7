-- A contour without the points that it passes straight is its thinned cycle.
use Rattle.std.proofs.Common.{◌≡◌, ◌≢◌, true, cond, List, [], ◌∷◌, ◌++◌, All, ◌⊎◌, inl, inr, pos, refl, sym, ap, subst, append_assoc}
use Rattle.std.proofs.lemmas.List.Elements.{All-head, All-tail}
use Rattle.plane_base.specs.Plane.{Point, turn, is_before}
use Rattle.plane_base.specs.Cycles.{SameCycle}
use Rattle.plane_base.specs.Thinning.{Reaches, same, step}
use Rattle.plane_base.proofs.Facts.Lists.Cycles.{cycle_refl, cycle_trans, cycle_rotated}
use Rattle.plane_base.proofs.Facts.Points.Turns.{turn_start_twice}
use Rattle.contour_walk.specs.Walks.{between, path_edges}
use Rattle.contour_walk.specs.Shapes.{corners_after}
use Rattle.contour_walk.proofs.Straight.Laws.{line_goes_on, steps_on}
use Rattle.contour_walk.proofs.Straight.Corners.{straight_case}

pub reaches_from : {c c' d : List Point} → SameCycle c c' → Reaches c' d → Reaches c d
reaches_from s (same r) = same (cycle_trans s r)
reaches_from s (step t r) = step (record { before = t.before; p = t.p; after = t.after; others = t.others; was = cycle_trans s t.was; straight = t.straight; is = t.is }) r

pub reaches_to : {c d d' : List Point} → Reaches c d → SameCycle d d' → Reaches c d'
reaches_to (same r) s = same (cycle_trans r s)
reaches_to (step t r) s = step t (reaches_to r s)

-- a list that begins with the point
abbrev pub Begins : Point → List Point → Type 0
Begins f done = (more : List Point) × (done ≡ f ∷ more)

abbrev pub IsSome : List Point → Type 0
IsSome xs = xs ≡ [] → ⊥

-- the points passed straight are taken out one by one; u is the last corner that is kept, and those kept before it begin with f
pub thinned_from :
    (f : Point) (done : List Point) (u b p : Point) (rest : List Point) → b ≢ p → turn u b p ≡ pos 0 → All (λ s. is_before s.a s.b ≡ true) (path_edges f (p ∷ rest)) →
    Begins f (done ++ u ∷ []) → IsSome (corners_after b f (p ∷ rest)) ⊎ Begins f done → Reaches (done ++ u ∷ p ∷ rest) (done ++ u ∷ corners_after b f (p ∷ rest))
thinned_from f done u b p [] differ line steps begins some =
    straight_case (turn b p f) (λ z. IsSome (cond z [] (p ∷ [])) ⊎ Begins f done → Reaches (done ++ u ∷ p ∷ []) (done ++ u ∷ cond z [] (p ∷ []))) last (λ z some. same (cycle_refl (done ++ u ∷ p ∷ []))) some
  where
    last : turn b p f ≡ pos 0 → IsSome [] ⊎ Begins f done → Reaches (done ++ u ∷ p ∷ []) (done ++ u ∷ [])
    last z (inl h) = absurd (h refl)
    last z (inr (more, is)) =
        subst (λ (front : List Point). Reaches (front ++ u ∷ p ∷ []) (front ++ u ∷ [])) (sym is)
        (step
        (record {
          before = u;
          p = p;
          after = f;
          others = more;
          was = cycle_rotated (f ∷ more) (u ∷ p ∷ []);
          straight = line_goes_on u b p f differ line z;
          is = cycle_rotated (f ∷ more) (u ∷ []);
        })
        (same (cycle_refl (f ∷ more ++ u ∷ []))))
thinned_from f done u b p (r ∷ rest) differ line steps begins some =
    straight_case (turn b p r)
    (λ z.
    IsSome (cond z (corners_after p f (r ∷ rest)) (p ∷ corners_after p f (r ∷ rest))) ⊎ Begins f done →
    Reaches (done ++ u ∷ p ∷ r ∷ rest) (done ++ u ∷ cond z (corners_after p f (r ∷ rest)) (p ∷ corners_after p f (r ∷ rest))))
    (λ z some.
    step
    (record {
      before = u;
      p = p;
      after = r;
      others = rest ++ done;
      was = cycle_rotated done (u ∷ p ∷ r ∷ rest);
      straight = line_goes_on u b p r differ line z;
      is = cycle_rotated done (u ∷ r ∷ rest);
    })
    (thinned_from f done u p r rest on (line_goes_on u b p r differ line z) later begins some))
    (λ z some.
    subst (λ xs. Reaches xs (done ++ u ∷ p ∷ corners_after p f (r ∷ rest))) (append_assoc done (u ∷ []) (p ∷ r ∷ rest))
    (subst (Reaches ((done ++ u ∷ []) ++ p ∷ r ∷ rest)) (append_assoc done (u ∷ []) (p ∷ corners_after p f (r ∷ rest)))
    (thinned_from f (done ++ u ∷ []) p p r rest on (turn_start_twice p r) later (begins.0 ++ p ∷ [], ap (λ xs. xs ++ p ∷ []) begins.1) (inr begins))))
    some
  where
    later : All (λ s. is_before s.a s.b ≡ true) (path_edges f (r ∷ rest))
    later = All-tail (λ s. is_before s.a s.b ≡ true) (between p r) (path_edges f (r ∷ rest)) steps

    on : p ≢ r
    on = steps_on p r (All-head (λ s. is_before s.a s.b ≡ true) (between p r) (path_edges f (r ∷ rest)) steps)

-- What holds of each step of a contour holds of each step of the thinned one, where of two steps along one line it holds of both as one.
use Rattle.std.proofs.Common.{◌≡◌, List, [], ◌∷◌, ◌++◌, All, pos, sym, ap, subst, refl}
use Rattle.std.proofs.lemmas.List.{append-nil}
use Rattle.std.proofs.lemmas.List.Elements.{All-nil, All-cons, All-head, All-tail, All-append}
use Rattle.plane_base.specs.Plane.{Point, Edge, turn}
use Rattle.plane_base.specs.Cycles.{SameCycle}
use Rattle.plane_base.specs.Thinning.{TakesOut, Reaches, same, step, IsThinned, bare, empty}
use Rattle.plane_base.proofs.Facts.Lists.Cycles.{All-front, All-back, cycle_sym}
use Rattle.contour_walk.specs.WalkLaws.{steps_to, contour_steps}

pub steps_append : (f x y : Point) (xs ys : List Point) → steps_to f (x ∷ xs ++ y ∷ ys) ≡ steps_to y (x ∷ xs) ++ steps_to f (y ∷ ys)
steps_append f x y [] ys = refl
steps_append f x y (z ∷ xs) ys = ap (λ ss. record { a = x; b = z } ∷ ss) (steps_append f z y xs ys)

module _ (S : Point → Point → Type 0) (joined : (u v w : Point) → turn u v w ≡ pos 0 → S u v → S v w → S u w) where
  abbrev P : Edge → Type 0
  P s = S s.a s.b

  turned_round : (front rest : List Point) → All P (contour_steps (front ++ rest)) → All P (contour_steps (rest ++ front))
  turned_round [] rest h = subst (λ c. All P (contour_steps c)) (sym (append-nil rest)) h
  turned_round (x ∷ xs) [] h = subst (λ c. All P (contour_steps c)) (append-nil (x ∷ xs)) h
  turned_round (x ∷ xs) (y ∷ ys) h =
      let all = subst (All P) (steps_append x x y xs ys) h in
      subst (All P) (sym (steps_append y y x ys xs))
      (All-append P (steps_to x (y ∷ ys)) (steps_to y (x ∷ xs)) (All-back P (steps_to y (x ∷ xs)) (steps_to x (y ∷ ys)) all)
      (All-front P (steps_to y (x ∷ xs)) (steps_to x (y ∷ ys)) all))

  pub same_cycle : (c d : List Point) → SameCycle c d → All P (contour_steps c) → All P (contour_steps d)
  same_cycle c d h all =
      subst (λ z. All P (contour_steps z)) (sym h.second) (turned_round h.front h.back (subst (λ z. All P (contour_steps z)) h.first all))

  pub taken_out : (c d : List Point) → TakesOut c d → All P (contour_steps c) → All P (contour_steps d)
  taken_out c d t all =
      let step_in : Edge = record { a = t.before; b = t.p } in
      let step_out : Edge = record { a = t.p; b = t.after } in
      let more = steps_to t.before (t.after ∷ t.others) in
      let begun : All P (step_in ∷ step_out ∷ more) = same_cycle c (t.before ∷ t.p ∷ t.after ∷ t.others) t.was all in
      let rest = All-tail P step_in (step_out ∷ more) begun in
      same_cycle (t.before ∷ t.after ∷ t.others) d (cycle_sym t.is)
      (All-cons P (record { a = t.before; b = t.after }) more
      (joined t.before t.p t.after t.straight (All-head P step_in (step_out ∷ more) begun) (All-head P step_out more rest))
      (All-tail P step_out more rest))

  reached : (c d : List Point) → Reaches c d → All P (contour_steps c) → All P (contour_steps d)
  reached c d (same h) all = same_cycle c d h all
  reached c d (step {d = e} t more) all = reached e d more (taken_out c e t all)

  pub thinned_steps : (c d : List Point) → IsThinned c d → All P (contour_steps c) → All P (contour_steps d)
  thinned_steps c d (bare more long none) all = reached c d more all
  thinned_steps c d (empty more short) all = All-nil P

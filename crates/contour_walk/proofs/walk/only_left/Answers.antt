use Rattle.std.proofs.Common.{◌≡◌, ℕ, ◌<◌, [], ◌∷◌, length, get_or, take, Option, Some, None, sym, ap, ◌∙◌, arith}
use Rattle.std.specs.Prelude.{IfSome}
use Rattle.std.proofs.lemmas.List.{take_all, get_or_default}
use Rattle.std.proofs.lemmas.List.Elements.{All-get_or}
use Rattle.segment_arrangement.specs.declared.graph.VisitState.TheVariants.{Skipped}
use Rattle.contour_walk.specs.LinearWalks.{is_left, left_places}
use Rattle.contour_walk.proofs.Linear.Alone.{place_found, found_first, found_no_more}
use Rattle.contour_walk.proofs.walk.only_left.Goals as goal
use Rattle.contour_walk.proofs.walk.only_left.Goals.{then-is_left+else-is_some, else-is_left}

pub loop-i-preserved : goal.loop-i-preserved
loop-i-preserved c =
    let states = c.args.states.now in
    let places = c.args.places.now in
    let here = get_or places c.loop-i.i 0 in
    let inside : here < length states = All-get_or (λ p. p < length states) places c.loop-i.i 0 c.loop-i-test.true c.requires in
    let state : is_left (get_or states here Skipped) ≡ c.is_left.result = ap is_left (get_or_default states here _ _ inside) ∙ sym c.is_left.ensures in
    elim c.if-is_left.branch [
      | then-is_left+else-is_some w ↦ rw w.found-is (found_first states places c.loop-i.i c.loop-i.found c.loop-i-test.true c.loop-i.invariant (sym w.is_some.ensures ∙ w.if-is_some.false) (state ∙ w.if-is_left.true))
      | else-is_left w ↦ rw w.found-is (found_no_more states places c.loop-i.i c.loop-i.found c.loop-i-test.true c.loop-i.invariant (state ∙ w.if-is_left.false))
    ]

pub returns : goal.returns
returns c = by c.loop-i.found c.loop-i.invariant
  where
    by : (found : Option ℕ) → left_places c.args.states.now (take c.loop-i.i c.args.places.now) ≡ place_found found → IfSome found (λ place. left_places c.args.states.now c.args.places.now ≡ place ∷ [])
    by None h = tt
    by (Some i) h = ap (left_places c.args.states.now) (sym (take_all c.loop-i.i c.args.places.now (omega (arith, c.loop-i-test.false)))) ∙ h

use Rattle.std.proofs.Common.{◌≡◌, ◌∷◌, ◌≤◌, length, map, ap, sym, refl, ◌∙◌, rules}
use Rattle.std.proofs.lemmas.Bool.{ltb-true, ltb-false}
use Rattle.std.proofs.lemmas.Option.{slice_get_read, slice_get_past}
use Rattle.i_tree.proofs.Ranges.Walks.{first_picked, first_missing, none_picked}
use Rattle.i_tree.proofs.seg.iter.first_taken.Goals as goal

pub returns-then-slot-query : goal.returns-then-slot-query
returns-then-slot-query g c =
    let here = slice_get_read c.args.pool.now (length c.args.pool.now) c.in-Some.at.now c.in-Some-get.slot.now refl (ltb-true _ _ (sym c.in-Some-get.ensures.lookup.0)) c.in-Some-get.ensures.lookup.1 in
    let first : c.loop-at.rest.now ≡ c.in-Some.at.now ∷ c.in-Some.later.now = search rules in
    ap (map (λ e. e.value)) (c.loop-at.invariant ∙ first_picked (λ e. e.named) c.args.pool.now c.args.query c.args.node c.in-Some.at.now c.loop-at.rest.now c.in-Some.later.now first c.in-Some-get.slot.now here c.if-slot-query.true)

pub loop-at-preserved : goal.loop-at-preserved
loop-at-preserved g c =
    let first : c.loop-at.rest.now ≡ c.in-Some.at.now ∷ c.in-Some.later.now = search rules in
    let past : length c.args.pool.now ≤ c.in-Some.at.now = ltb-false _ _ (sym c.in_default-get.ensures.lookup.0) in
    c.loop-at.invariant ∙ first_missing (λ e. e.named) c.args.pool.now c.args.query c.args.node c.in-Some.at.now c.loop-at.rest.now c.in-Some.later.now first (slice_get_past c.args.pool.now c.in-Some.at.now past)

pub returns : goal.returns
returns g c = c.loop-at.invariant ∙ none_picked c.args.pool.now _ c.loop-at.rest.now c.in_default.ensures.cases

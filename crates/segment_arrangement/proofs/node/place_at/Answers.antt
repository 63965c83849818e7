use Rattle.std.proofs.Common.{◌≡◌, ◌+◌, ◌-◌, ◌<◌, ◌++◌, length, map, ℕ, slice_index_or, sym, ap, ◌∙◌, arith}
use Rattle.std.proofs.lemmas.List.{get_or_append_left, get_or-append-add, get_or-map}
use Rattle.std.proofs.lemmas.List.FromFn.{get_or-range_with_len, length-range_with_len}
use Rattle.std.specs.List.{range_with_len}
use Rattle.segment_arrangement.specs.LinkEndViews.{end_of}
use Rattle.segment_arrangement.proofs.node.place_at.Goals as goal

pub returns-then-at-to : goal.returns-then-at-to
returns-then-at-to g c = λ d.
    let xs = range_with_len c.args.from (c.args.to - c.args.from) in
    let ys = map (λ n. (end_of g.N.EndNumber.half g.N.EndNumber.room g.N.EndNumber.number n).place) c.args.run.now in
    get_or_append_left xs ys d c.args.at (rw (length-range_with_len c.args.from (c.args.to - c.args.from)) c.if-at-to.true)
    ∙ get_or-range_with_len c.args.from (c.args.to - c.args.from) c.args.at d c.if-at-to.true

pub returns-else-at-to : goal.returns-else-at-to
returns-else-at-to g c = λ d.
    let k = c.args.to - c.args.from in
    let f : g.row.N.Denot → ℕ = λ n. (end_of g.N.EndNumber.half g.N.EndNumber.room g.N.EndNumber.number n).place in
    let xs = range_with_len c.args.from k in
    let i = c.args.at - k in
    let inside : i < length c.args.run.now = omega (arith, c.requires.inside, c.if-at-to.false) in
    let plus : c.args.at ≡ length xs + i = omega (arith, c.if-at-to.false, length-range_with_len c.args.from k) in
    ap (λ j. slice_index_or (xs ++ map f c.args.run.now) j d) plus
    ∙ (get_or-append-add xs (map f c.args.run.now) i d
    ∙ (get_or-map f c.args.run.now i c.index-run-at.result d inside
    ∙ (ap f (sym c.index-run-at.is) ∙ sym c.place.ensures)))

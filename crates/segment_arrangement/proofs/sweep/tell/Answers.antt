use Rattle.std.proofs.Common.{rules, ◌<◌, length, get_or}
use Rattle.std.proofs.lemmas.Result.{err_from_is_err_and}
use Rattle.segment_arrangement.specs.Sweeps.{refusing, never}
use Rattle.segment_arrangement.proofs.Fans.Handlers.{led_start, led_break, led_next, led_all, fill_at}
use Rattle.segment_arrangement.proofs.sweep.tell.Goals as goal

pub loop-i-init : goal.loop-i-init
loop-i-init g c = record {
  led = λ fill same. led_start (λ h n s. g.H.FillHandler.handles h n s.x_segment s.count s.datum) g.H.FillHandler.finishes fill c.args.from c.args.segments.now c.args.handler.now;
  so_far = λ fill same. led_start (refusing (λ h n s. g.H.FillHandler.handles h n s.x_segment s.count s.datum) (λ h n s. g.H.FillHandler.refuses h n s.x_segment s.count s.datum)) never fill c.args.from c.args.segments.now c.args.handler.now;
}

pub returns-in-Break-clause-ok : goal.returns-in-Break-clause-ok
returns-in-Break-clause-ok g c = λ fill same rest.
    let within : c.loop-i.i < length c.args.segments.now = search rules in
    let call = c.in_ok-output.ensures in
    led_break (λ h n s. g.H.FillHandler.handles h n s.x_segment s.count s.datum) g.H.FillHandler.finishes fill c.args.from c.loop-i.i c.args.segments.now c.args.handler.now c.loop-i.handler c.handle.new.self c.index-segments-i.result (get_or c.args.sides.now c.loop-i.i c.index-sides-i.result).fill c.in-Break.output
    (c.loop-i.invariant.led fill same) within (search rules)
    (fill_at fill (λ s. s.fill) c.args.segments.now c.args.sides.now c.loop-i.i c.index-segments-i.result c.index-sides-i.result same c.requires.one_each within (search rules))
    (rw c.in-Break.is at call) rest

pub returns-in-Break-clause-goes_on : goal.returns-in-Break-clause-goes_on
returns-in-Break-clause-goes_on g c = λ none. absurd (cc)

pub returns-in_err-output-clause-err : goal.returns-in_err-output-clause-err
returns-in_err-output-clause-err g c =
    let p = err_from_is_err_and c.from_residual.result c.from_residual.ensures.1 in
    rw (p.1, p.2)
    (λ fill same rest.
    let within : c.loop-i.i < length c.args.segments.now = search rules in
    led_break (refusing (λ h n s. g.H.FillHandler.handles h n s.x_segment s.count s.datum) (λ h n s. g.H.FillHandler.refuses h n s.x_segment s.count s.datum)) never fill c.args.from c.loop-i.i c.args.segments.now c.args.handler.now c.loop-i.handler c.handle.new.self c.index-segments-i.result (get_or c.args.sides.now c.loop-i.i c.index-sides-i.result).fill _
    (c.loop-i.invariant.so_far fill same) within (search rules)
    (fill_at fill (λ s. s.fill) c.args.segments.now c.args.sides.now c.loop-i.i c.index-segments-i.result c.index-sides-i.result same c.requires.one_each within (search rules))
    c.in_err-output.ensures rest)

pub loop-i-preserved : goal.loop-i-preserved
loop-i-preserved g c = record {
  led = λ fill same.
      let within : c.loop-i.i < length c.args.segments.now = search rules in
      let call = c.in_ok-output.ensures in
      led_next (λ h n s. g.H.FillHandler.handles h n s.x_segment s.count s.datum) g.H.FillHandler.finishes fill c.args.from c.loop-i.i c.args.segments.now c.args.handler.now c.loop-i.handler c.handle.new.self c.index-segments-i.result (get_or c.args.sides.now c.loop-i.i c.index-sides-i.result).fill
      (c.loop-i.invariant.led fill same) within (search rules)
      (fill_at fill (λ s. s.fill) c.args.segments.now c.args.sides.now c.loop-i.i c.index-segments-i.result c.index-sides-i.result same c.requires.one_each within (search rules))
      (rw c.in_default.is at call);
  so_far = λ fill same.
      let within : c.loop-i.i < length c.args.segments.now = search rules in
      let call = c.in_ok-output.ensures in
      led_next (refusing (λ h n s. g.H.FillHandler.handles h n s.x_segment s.count s.datum) (λ h n s. g.H.FillHandler.refuses h n s.x_segment s.count s.datum)) never fill c.args.from c.loop-i.i c.args.segments.now c.args.handler.now c.loop-i.handler c.handle.new.self c.index-segments-i.result (get_or c.args.sides.now c.loop-i.i c.index-sides-i.result).fill
      (c.loop-i.invariant.so_far fill same) within (search rules)
      (fill_at fill (λ s. s.fill) c.args.segments.now c.args.sides.now c.loop-i.i c.index-segments-i.result c.index-sides-i.result same c.requires.one_each within (search rules))
      (rw c.in_default.is at call);
}

pub returns-clause-ok : goal.returns-clause-ok
returns-clause-ok g c = λ fill same rest. led_all (λ h n s. g.H.FillHandler.handles h n s.x_segment s.count s.datum) g.H.FillHandler.finishes fill c.args.from c.loop-i.i c.args.segments.now c.args.handler.now c.loop-i.handler (c.loop-i.invariant.led fill same) (search rules) (search rules) rest

pub returns-clause-goes_on : goal.returns-clause-goes_on
returns-clause-goes_on g c = λ none fill same rest. led_all (refusing (λ h n s. g.H.FillHandler.handles h n s.x_segment s.count s.datum) (λ h n s. g.H.FillHandler.refuses h n s.x_segment s.count s.datum)) never fill c.args.from c.loop-i.i c.args.segments.now c.args.handler.now c.loop-i.handler (c.loop-i.invariant.so_far fill same) (search rules) (search rules) rest

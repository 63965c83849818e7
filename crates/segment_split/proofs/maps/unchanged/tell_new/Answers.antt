use Rattle.std.proofs.Common.{◌≡◌, ◌∙◌, ◌+◌, subst, ap, length, arith}
use Rattle.segment_split.specs.MarkLists.{SkipsTo}
use Rattle.segment_split.proofs.Passes.Skips.{length_pushed, skips_new}
use Rattle.segment_split.proofs.maps.unchanged.tell_new.Goals as goal

pub loop-number-init : goal.loop-number-init
loop-number-init c = λ es old h. (c.in_ok-fill.ensures.filled es old h, c.in_ok-fill.ensures.len h.short)

pub loop-number-preserved : goal.loop-number-preserved
loop-number-preserved c = λ es old h.
    let before = c.loop-number.invariant es old h in (
      skips_new es old c.loop-number.next_new.items c.loop-number.number before.1 c.push.new.self.items c.in_ok-push.ensures.items before.0,
      ap length c.in_ok-push.ensures.items ∙ (length_pushed c.loop-number.next_new.items c.loop-number.number ∙ ap (λ n. n + 1) before.1),
    )

pub returns-clause-told : goal.returns-clause-told
returns-clause-told c = λ es old h.
    let end : c.loop-number.number ≡ c.args.to = omega (arith, c.requires, c.loop-number-test.false, c.loop-number.auto.number-end) in
    subst (SkipsTo es old c.loop-number.next_new.items) end (c.loop-number.invariant es old h).0

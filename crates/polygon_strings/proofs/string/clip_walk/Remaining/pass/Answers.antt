use Rattle.std.proofs.Common.{◌≡◌, false, get_or, set, sym, ap, ◌∙◌, subst}
use Rattle.std.proofs.lemmas.List.{get_or_default, length-set}
use Rattle.polygon_strings.specs.ClipWalks.{is_left, without, none_left, StayPassed, AreRemaining}
use Rattle.polygon_strings.proofs.Clips.Left.{stays_passed, now_passed}
use Rattle.polygon_strings.proofs.Clips.Begins.{still_remain}
use Rattle.polygon_strings.proofs.string.clip_walk.Remaining.pass.Goals as goal

pub returns-clause-steps : goal.returns-clause-steps
returns-clause-steps c =
    let left = c.args.self.now.steps.items in
    let there = c.index_mut.ensures.value ∙ get_or_default left c.args.place c.index_mut.result.now none_left c.requires.inside in
    ap (set left c.args.place) (c.pass.ensures ∙ ap (without c.args.from_a) there)

pub returns-clause-stay : goal.returns-clause-stay
returns-clause-stay c =
    let left = c.args.self.now.steps.items in
    subst (StayPassed left) (sym (returns-clause-steps c)) (stays_passed c.args.from_a left c.args.place c.requires.inside)

pub returns-clause-used : goal.returns-clause-used
returns-clause-used c =
    let left = c.args.self.now.steps.items in
    subst (λ l. is_left c.args.from_a (get_or l c.args.place none_left) ≡ false) (sym (returns-clause-steps c))
    (now_passed c.args.from_a left c.args.place c.requires.inside)

pub returns-clause-remaining : goal.returns-clause-remaining
returns-clause-remaining c = λ edges lists is.
    let left = c.args.self.now.steps.items in
    let step = without c.args.from_a (get_or left c.args.place none_left) in
    subst (λ l. AreRemaining edges lists l c.args.self.now.begins.items) (sym (returns-clause-steps c))
    (still_remain edges lists left (set left c.args.place step) c.args.self.now.begins.items is
    (stays_passed c.args.from_a left c.args.place c.requires.inside) (length-set left c.args.place step))

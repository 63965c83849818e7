use mathlib.Core.Bool.{beq}
use Rattle.std.proofs.Common.{◌≡◌, ◌∙◌, ◌/◌, Bool, true, false, nat_lt, set, refl, sym, ap, arith}
use Rattle.std.proofs.lemmas.Bool.{false≢true}
use Rattle.std.proofs.lemmas.List.{get_or_default}
use Rattle.segment_split.specs.PlaceSet.{members_of}
use Rattle.segment_split.proofs.PlaceSet.{place_below, items_written, members_of-changed, IsSound-changed, IsSound-word}
use Rattle.segment_split.proofs.lines.place_set.PlaceSet.change.Goals as goal

same_bool : (a b : Bool) → beq a b ≡ true → a ≡ b
same_bool true true e = refl
same_bool true false e = absurd (false≢true e)
same_bool false true e = absurd (false≢true e)
same_bool false false e = refl

pub mark-has_word-requires : goal.mark-has_word-requires
mark-has_word-requires c =
    let within = place_below c.self.inside.places c.self.inside.words.items c.args.self.now c.self.view_is c.args.place c.requires.within in
    rw c.deref_mut.ensures.value (omega (arith, c.self.invariant.words_reach))

pub mark-has_group-requires : goal.mark-has_group-requires
mark-has_group-requires c =
    let within = place_below c.self.inside.places c.self.inside.words.items c.args.self.now c.self.view_is c.args.place c.requires.within in
    rw c.deref_mut-2.ensures.value (omega (arith, c.self.invariant.groups_reach))

pub mark-requires : goal.mark-requires
mark-requires c =
    let within = place_below c.self.inside.places c.self.inside.words.items c.args.self.now c.self.view_is c.args.place c.requires.within in
    rw c.deref_mut-3.ensures.value (omega (arith, c.self.invariant.tops_reach))

pub index-requires : goal.index-requires
index-requires c =
    let within = place_below c.self.inside.places c.self.inside.words.items c.args.self.now c.self.view_is c.args.place c.requires.within in
    omega (arith, c.self.invariant.words_reach)

pub invariant_of-self : goal.invariant_of-self
invariant_of-self c =
    let old = c.self.inside in
    let place = c.args.place in
    let within = place_below old.places old.words.items c.args.self.now c.self.view_is place c.requires.within in
    let words = rw c.deref_mut.ensures.value at c.mark-has_word.ensures.changed in
    let here = c.index.ensures ∙ get_or_default old.words.items (place / 64) c.index.result.now 0 (omega (arith, c.self.invariant.words_reach)) in
    rw (items_written old.words c.mark-has_word.new.words place c.args.is_in words)
    (IsSound-word old.words.items c.mark-has_word.new.words place c.args.is_in words old.places within old.groups.items old.tops.items c.self.invariant
    (sym c.mark-has_word.ensures.some ∙ (same_bool c.mark-has_word.result _ c.if-has_word-had_word.true ∙ ap (nat_lt 0) here)))

pub returns-then-has_word-had_word : goal.returns-then-has_word-had_word
returns-then-has_word-had_word c =
    let old = c.self.inside in
    let place = c.args.place in
    let within = place_below old.places old.words.items c.args.self.now c.self.view_is place c.requires.within in
    let words = rw c.deref_mut.ensures.value at c.mark-has_word.ensures.changed in
    ap (members_of old.places) (items_written old.words c.mark-has_word.new.words place c.args.is_in words)
    ∙ members_of-changed old.words.items c.mark-has_word.new.words place c.args.is_in words old.places within
    ∙ ap (λ members. set members place c.args.is_in) c.self.view_is

pub invariant_of-self-2 : goal.invariant_of-self-2
invariant_of-self-2 c =
    let old = c.self.inside in
    let place = c.args.place in
    let within = place_below old.places old.words.items c.args.self.now c.self.view_is place c.requires.within in
    let words = rw c.deref_mut.ensures.value at c.mark-has_word.ensures.changed in
    let groups = rw c.deref_mut-2.ensures.value at c.mark-has_group.ensures.changed in
    let tops = rw c.deref_mut-3.ensures.value at c.mark.ensures.changed in
    rw (items_written old.words c.mark-has_word.new.words place c.args.is_in words, items_written old.groups c.mark-has_group.new.words (place / 64) c.mark-has_word.result groups, items_written old.tops c.mark.new.words (place / 64 / 64) c.mark-has_group.result tops)
    (IsSound-changed old.words.items c.mark-has_word.new.words place c.args.is_in words old.places within old.groups.items c.mark-has_group.new.words old.tops.items c.mark.new.words c.mark-has_word.result c.mark-has_group.result c.self.invariant c.mark-has_word.ensures.some groups c.mark-has_group.ensures.some tops)

pub returns : goal.returns
returns c =
    let old = c.self.inside in
    let place = c.args.place in
    let within = place_below old.places old.words.items c.args.self.now c.self.view_is place c.requires.within in
    let words = rw c.deref_mut.ensures.value at c.mark-has_word.ensures.changed in
    ap (members_of old.places) (items_written old.words c.mark-has_word.new.words place c.args.is_in words)
    ∙ members_of-changed old.words.items c.mark-has_word.new.words place c.args.is_in words old.places within
    ∙ ap (λ members. set members place c.args.is_in) c.self.view_is

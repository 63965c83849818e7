use Rattle.std.proofs.Common.{◌≡◌, ◌≢◌, ◌⊎◌, ◌+◌, [], ◌∷◌, drop, slice_get, codes, None, Err, sym, ap, ◌∙◌, inl, inr}
use Rattle.std.proofs.lemmas.Slice.Eq.{bytes_eq-Decides}
use Rattle.std.specs.declared.env.FillError.TheVariants.{TooLong}
use Rattle.polybool.specs.Calls.{IsRead, IsUnreadable, Ask}
use Rattle.polybool.specs.declared.call.Call.TheVariants.{File}
use Rattle.polybool.proofs.CallLaws.{none_left, some_left, one_left, two_left, left_none, unread, astray}
use Rattle.polybool.proofs.call.read_from.Goals as goal
use Rattle.polybool.proofs.call.read_from.Goals.{else-eq-via-then-eq+else-is_absent, else-eq-via-else-eq}

pub returns-in-Err-NotPresent : goal.returns-in-Err-NotPresent
returns-in-Err-NotPresent g c = λ all is. inl (none_left all c.args.number ((rw c.in-Err-NotPresent.field-0-is at c.in-Err-NotPresent.ensures) all is))

pub returns-in-Err-TooLong : goal.returns-in-Err-TooLong
returns-in-Err-TooLong g c = λ all is.
    let found : IsRead (slice_get all c.args.number) (Err TooLong) = (rw c.in-Err-TooLong.field-0-is at c.in-Err-TooLong.ensures) all is in
    rw (some_left all c.args.number found.0 found.1) (unread found.0 _ found.2)

pub returns-in-Err-NotPresent-argument : goal.returns-in-Err-NotPresent-argument
returns-in-Err-NotPresent-argument g c = λ all is.
    let here = c.in-Ok.ensures all is in
    let none = (rw c.in-Err-NotPresent-argument.field-0-is at c.in-Err-NotPresent-argument.ensures) all is in
    rw (one_left all c.args.number c.in-Ok.word.now here.0 none) (c.alone.ensures here.1)

pub returns-in-Err-TooLong-argument : goal.returns-in-Err-TooLong-argument
returns-in-Err-TooLong-argument g c = λ all is.
    let here = c.in-Ok.ensures all is in
    let found : IsRead (slice_get all (c.args.number + 1)) (Err TooLong) =
    (rw c.in-Err-TooLong-argument.field-0-is at c.in-Err-TooLong-argument.ensures) all is in
    rw (two_left all c.args.number c.in-Ok.word.now found.0 here.0 found.1) (astray c.in-Ok.word.now found.0 _ (inr (inl found.2)))

pub returns-then-is_absent : goal.returns-then-is_absent
returns-then-is_absent g c = λ all is.
    let n = c.args.number in
    let word = c.in-Ok.word.now in
    let path = c.in-Ok-argument.path.now in
    let here = c.in-Ok.ensures all is in
    let there = c.in-Ok-argument.ensures all is in
    let mark : word ≡ codes "--" = (bytes_eq-Decides word (codes "--")).0 (sym c.eq.ensures ∙ c.if-eq.true) in
    let none : slice_get all (n + 2) ≡ None = (c.is_absent.ensures all is).0 c.if-is_absent.true in
    let left : drop n all ≡ word ∷ path ∷ drop (n + 2) all = two_left all n word path here.0 there.0 in
    let asked : Ask (drop n all) (File c.in-Ok-argument.path) =
    (there.1, inl (left ∙ ap (λ more. word ∷ path ∷ more) (none_left all (n + 2) none) ∙ ap (λ w. w ∷ path ∷ []) mark)) in
    asked

pub returns-else-eq : goal.returns-else-eq
returns-else-eq g c = λ all is.
    let n = c.args.number in
    let word = c.in-Ok.word.now in
    let path = c.in-Ok-argument.path.now in
    let here = c.in-Ok.ensures all is in
    let there = c.in-Ok-argument.ensures all is in
    let left : drop n all ≡ word ∷ path ∷ drop (n + 2) all = two_left all n word path here.0 there.0 in
    let wrong : (word ≢ codes "--") ⊎ IsUnreadable path ⊎ (drop (n + 2) all ≢ []) = elim c.else-eq.branch [
      | else-eq-via-then-eq+else-is_absent w ↦ inr (inr (λ none.
          let yes = (w.is_absent.ensures all is).1 (left_none all (n + 2) none) in let no = w.if-is_absent.false in cc))
      | else-eq-via-else-eq w ↦ inl (λ mark.
          let yes = (bytes_eq-Decides word (codes "--")).1 mark in let same = c.eq.ensures in let no = w.if-eq.false in cc)
    ] in
    rw left (astray word path (drop (n + 2) all) wrong)

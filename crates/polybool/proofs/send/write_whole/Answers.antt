use Rattle.std.proofs.Common.{◌++◌, take, ap, sym, ◌∙◌, append_assoc, take-append-drop}
use Rattle.std.proofs.KnownBytes.{Appends-trans}
use Rattle.std.proofs.lemmas.List.{take_rest}
use Rattle.polybool.proofs.send.write_whole.Goals as goal

pub loop-rest-preserved : goal.loop-rest-preserved
loop-rest-preserved g c =
    let inv = c.loop-rest.invariant in
    let now = take c.in-Ok.count c.loop-rest.rest.now in (
      inv.0 ++ now,
      inv.1 ∙ ap (λ r. inv.0 ++ r) (sym (take-append-drop c.in-Ok.count c.loop-rest.rest.now)
          ∙ ap (λ r. now ++ r) (sym (take_rest c.loop-rest.rest.now c.in-Ok.count)))
          ∙ sym (append_assoc inv.0 now _),
      Appends-trans _ _ _ inv.0 now inv.2 c.in-Ok.ensures.bytes,
    )

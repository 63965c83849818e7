use Rattle.polygon_overlay.proofs.overlay.Overlay.simplify_shapes.Goals as goal

pub returns-in-Ok : goal.returns-in-Ok
returns-in-Ok g c = record { finds = c.in-Ok.ensures; failed = tt }

pub returns-in-Err : goal.returns-in-Err
returns-in-Err g c =
    let h = c.in-Err.ensures in record {
      finds = record { answered = tt; ready = tt; refused = h.refused; options = h.options; solver = h.solver; buffer = h.buffer };
      failed = c.fail.ensures.is;
    }

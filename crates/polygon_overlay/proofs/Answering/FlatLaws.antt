-- What an emptied flat buffer keeps to.
use Rattle.std.specs.Prelude.{◌≡◌, length, IfOk, OnOk, OnErr}
use Rattle.std.specs.declared.result.Result.{Result}
use Rattle.std.specs.declared.result.Result.TheVariants.{Ok, Err}
use Rattle.std.proofs.Common.{sym, subst}
use Rattle.std.proofs.lemmas.List.Elements.{All-nil}
use Rattle.plane_base.specs.Flat.{IsRangeOf, AreRangesOf}
use Rattle.plane_base.specs.declared.fault.Fault.{Fault}
use Rattle.plane_base.specs.declared.flat.FlatContoursBuffer.{FlatContoursBuffer}
use Rattle.contour_walk.specs.ShapeViews.{IsFlat}
use Rattle.polygon_overlay.specs.FlatCalls.{IsEmptied}

-- each of its ranges lies in its list, as it has none
pub emptied_flat : {I : Type 0} (buffer : FlatContoursBuffer I) → IsEmptied buffer → IsFlat buffer
emptied_flat buffer none = subst (AreRangesOf (length buffer.points.items)) (sym none.1) (All-nil (IsRangeOf (length buffer.points.items)))

-- a call fills a buffer or leaves it as it was
pub flat_either : {I T : Type 0} (old new : FlatContoursBuffer I) (r : Result T Fault) → OnOk r (IsFlat new) → OnErr r (new ≡ old) → IsFlat old → IsFlat new
flat_either old new (Ok t) filled same was = filled
flat_either old new (Err f) filled same was = subst IsFlat (sym same) was

-- what an answered call ensures says so of its answer
pub on_as_if : {T : Type 0} {P : Type 0} {Q : T → Type 0} (r : Result T Fault) → ((t : T) → P → Q t) → OnOk r P → IfOk r Q
on_as_if (Ok t) f h = f t h
on_as_if (Err e) f h = tt

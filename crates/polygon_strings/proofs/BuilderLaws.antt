-- What builders made of sources hold, and why one is refused.
use Rattle.std.specs.Prelude.{◌≡◌, Bool, false, List, []}
use Rattle.std.proofs.Common.{subst}
use Rattle.plane_base.specs.Plane.{Point}
use Rattle.plane_base.specs.Counts.{Entry}
use Rattle.plane_base.specs.declared.fault.Fault.{Fault}
use Rattle.segment_split.specs.Adding.{AddsAll, AddsUntil}
use Rattle.segment_split.specs.Holdings.{IsRefusedBy}
use Rattle.segment_split.specs.Strings.{StringCount, stringed}
use Rattle.polygon_strings.specs.Builders.{one_shape}

-- a builder that has not failed refuses for the reason alone
pub for_the_reason : (is_failed : Bool) (P : Fault → Type 0) (fault : Fault) → is_failed ≡ false → IsRefusedBy is_failed P fault → P fault
for_the_reason is_failed P fault ready why = subst (λ b. IsRefusedBy b P fault) ready why

-- to a builder that held nothing
pub all_added : (shape : List (List Point)) (old new : List (Entry StringCount)) → old ≡ [] → AddsAll stringed one_shape false shape old new
    → AddsAll stringed one_shape false shape [] new
all_added shape old new none adds = subst (λ l. AddsAll stringed one_shape false shape l new) none adds

pub part_added : (shape : List (List Point)) (old new : List (Entry StringCount)) (is_failed : Bool) (fault : Fault) → old ≡ [] → is_failed ≡ false
    → IsRefusedBy is_failed (AddsUntil stringed one_shape false shape old new) fault → AddsUntil stringed one_shape false shape [] new fault
part_added shape old new is_failed fault none ready why =
    subst (λ l. AddsUntil stringed one_shape false shape l new fault) none
    (for_the_reason is_failed (AddsUntil stringed one_shape false shape old new) fault ready why)

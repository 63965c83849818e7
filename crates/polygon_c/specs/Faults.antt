-- The refusals of the engine.
use Rattle.plane_base.specs.declared.fault.Fault.{Fault}
use Rattle.plane_base.specs.declared.fault.Fault.TheVariants as fault
use Rattle.polygon_c.specs.declared.refusal.Refusal.{Refusal}
use Rattle.polygon_c.specs.declared.refusal.Refusal.TheVariants.{Memory, Count, Edges}

-- why a call is refused where the engine refuses for this (`Failed` never comes: no builder is asked again after a refusal)
abbrev pub refusal_of : Fault → Refusal
refusal_of fault.Memory = Memory
refusal_of fault.Count = Count
refusal_of fault.Edges = Edges
refusal_of fault.Failed = Memory

-- The numbers of faults.
use Rattle.std.specs.Prelude.{ℕ}
use Rattle.plane_base.specs.declared.fault.Fault.{Fault}
use Rattle.plane_base.specs.declared.fault.Fault.TheVariants.{Memory, Count, Edges, Failed}

abbrev pub number_of : Fault → ℕ
number_of Memory = 1
number_of Count = 2
number_of Edges = 3
number_of Failed = 4

-- One step of a sweep: the first segment is put in at the column where it starts.
use Rattle.std.proofs.Common.{◌≡◌, ℤ, List, ◌∷◌}
use Rattle.std.specs.Prelude.{Option, Some}
use Rattle.std.specs.declared.cmp.Ordering.{Ordering}
use Rattle.i_tree.specs.LiveList.{live_with}
use Rattle.plane_base.specs.Plane.{Edge}
use Rattle.plane_base_test.specs.Columns.{swept, CanSweep}

module _ {K E V : Type 0} (cmp : E → E → Ordering) (expires : K → E) (order : K → K → Ordering) (start : K → E) (edge : K → Edge) (value : E → ℤ) where
  module _ (e : K × V) (rest later live new : List (K × V)) (column : E) (first : rest ≡ e ∷ later) (from : column ≡ start e.0) (added : new ≡ live_with cmp expires order e column live) where
    pub can_sweep_on : (latest last : Option E) → last ≡ Some column → CanSweep cmp expires order start edge value latest rest live → CanSweep cmp expires order start edge value last later new
    can_sweep_on latest last is can =
        let opened : CanSweep cmp expires order start edge value latest (e ∷ later) live = rw first at can in
        rw (is, added, from) (opened.1.1)

    pub swept_on : (all : List (K × V)) → swept cmp expires order start rest live ≡ all → swept cmp expires order start later new ≡ all
    swept_on all same =
        let opened : swept cmp expires order start (e ∷ later) live ≡ all = rw first at same in
        rw (added, from) opened

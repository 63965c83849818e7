-- An order that is total among all keys is lawful among any.
use Rattle.std.proofs.Common.{List}
use Rattle.std.specs.Cmp.{IsTotalOrder}
use Rattle.std.specs.declared.cmp.Ordering.{Ordering}
use Rattle.i_tree.specs.LiveList.{IsLawful}

pub IsLawful-total : {K V : Type 0} (order : K → K → Ordering) → IsTotalOrder order → (key : K) (entries : List (K × V)) → IsLawful order key entries
IsLawful-total order total key entries = record {
  reversed = λ j k _ _. total.antisymm j k;
  through = λ i j k _ _ _ below above. total.trans i j k below above;
}

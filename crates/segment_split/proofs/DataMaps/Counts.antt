-- Counts that carry data obey the laws of counts.
use Rattle.std.proofs.Common.{false, refl}
use Rattle.plane_base.specs.Counts.{Counting}
use Rattle.plane_base.proofs.Facts.Maps.Normal.{IsCounting}
use Rattle.segment_split.specs.Data.{IsJoin, carried}

module _ {C D : Type 0} {kind : Counting C} {join : D → D → D} where
  pub carried_counting : IsCounting kind → IsJoin join → IsCounting (carried kind join)
  carried_counting laws joins = record {
    join_comm = λ c d i. (laws.join_comm c.0 d.0 i, joins.commutes c.1 d.1 i);
    join_assoc = λ c d e i. (laws.join_assoc c.0 d.0 e.0 i, joins.regroups c.1 d.1 e.1 i);
    join_empty = λ c d h. absurd (cc);
    turned_join = λ c d i. (laws.turned_join c.0 d.0 i, join c.1 d.1);
    turned_twice = λ c i. (laws.turned_twice c.0 i, c.1);
    turned_empty = λ c. refl;
  }

-- data alone, as counts that are never empty
abbrev pub of_data : {D : Type 0} → (D → D → D) → Counting D
of_data join = record { join = join; turned = λ d. d; is_empty = λ d. false }

module _ {D : Type 0} {join : D → D → D} where
  pub data_counting : IsJoin join → IsCounting (of_data join)
  data_counting joins = record {
    join_comm = joins.commutes;
    join_assoc = joins.regroups;
    join_empty = λ c d h. absurd (cc);
    turned_join = λ c d. refl;
    turned_twice = λ c. refl;
    turned_empty = λ c. refl;
  }

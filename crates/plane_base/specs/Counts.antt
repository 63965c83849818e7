-- Finite maps from edges to counts, as lists: what is laid on an edge, and the normal list that joins it.
use Rattle.std.specs.Prelude.{◌≡◌, ℤ, pos, ◌+ℤ◌, neg_ℤ, Bool, true, false, cond, ◌&&◌, List, [], ◌∷◌, Option, Some, None, AllPairs, All}
use Rattle.std.specs.declared.cmp.Ordering.TheVariants.{Less, Equal, Greater}
use Rattle.std.specs.Ordering.{int_eq, is_eq}
use Rattle.plane_base.specs.Plane.{Point, Edge, point_order, is_before, edge_order}

-- How often subject and clip edges run from an edge's a to its b, less how often from its b to its a.
pub record Count : Type 0 where
  pub subject : ℤ
  pub clip : ℤ

-- What a kind of counts can do: join two of one edge, stand for the turned edge, and count for nothing.
pub record Counting (C : Type 0) : Type 0 where
  pub join : C → C → C
  pub turned : C → C
  pub is_empty : C → Bool

-- counts are added, and a turned edge's count is negated
abbrev pub boolean : Counting Count
boolean = record {
  join = λ c d. record { subject = c.subject +ℤ d.subject; clip = c.clip +ℤ d.clip };
  turned = λ c. record { subject = neg_ℤ c.subject; clip = neg_ℤ c.clip };
  is_empty = λ c. int_eq c.subject (pos 0) && int_eq c.clip (pos 0);
}

abbrev pub one_subject : Count
one_subject = record { subject = pos 1; clip = pos 0 }

abbrev pub one_clip : Count
one_clip = record { subject = pos 0; clip = pos 1 }

-- a count on an edge
pub record Entry (C : Type 0) : Type 0 where
  pub edge : Edge
  pub count : C

-- the entry, unless its count is empty
abbrev pub unless_empty : {C : Type 0} → Counting C → Entry C → List (Entry C) → List (Entry C)
unless_empty kind e rest = cond (kind.is_empty e.count) rest (e ∷ rest)

-- Joins one entry to a sorted list, in its place.
abbrev pub joined : {C : Type 0} → Counting C → Entry C → List (Entry C) → List (Entry C)
joined kind e [] = unless_empty kind e []
joined kind e (f ∷ rest) =
    elim (edge_order e.edge f.edge) [
      | Less ↦ unless_empty kind e (f ∷ rest)
      | Equal ↦ unless_empty kind (record { edge = f.edge; count = kind.join e.count f.count }) rest
      | Greater ↦ f ∷ joined kind e rest
    ]

-- The finite map that the entries stand for: the counts of each edge joined, empty ones dropped, by rising edge.
abbrev pub normal : {C : Type 0} → Counting C → List (Entry C) → List (Entry C)
normal kind [] = []
normal kind (e ∷ es) = joined kind e (normal kind es)

-- A step from one point to another lays its count on the edge of the two, turned where it runs from
-- the greater to the lesser. A step of no length lays nothing.
abbrev pub lay : {C : Type 0} → Counting C → Point → Point → C → List (Entry C)
lay kind u v c =
    elim (point_order u v) [
      | Less ↦ record { edge = record { a = u; b = v }; count = c } ∷ []
      | Equal ↦ []
      | Greater ↦ record { edge = record { a = v; b = u }; count = kind.turned c } ∷ []
    ]

-- the count that a list of entries has for an edge, if it has one
abbrev pub count_at : {C : Type 0} → List (Entry C) → Edge → Option C
count_at [] s = None
count_at (e ∷ es) s = cond (is_eq (edge_order e.edge s)) (Some e.count) (count_at es s)

-- A finite map from edges to counts: edges with a before b, strictly rising, none of them with an empty count.
pub record IsNormal {C : Type 0} (kind : Counting C) (es : List (Entry C)) : Type 0 where
  pub directed : All (λ e. is_before e.edge.a e.edge.b ≡ true) es
  pub rising : AllPairs (λ e f. edge_order e.edge f.edge ≡ Less) es
  pub counted : All (λ e. kind.is_empty e.count ≡ false) es

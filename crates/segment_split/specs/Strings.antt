-- Counts of strings: how often the subject runs along an edge, and which ways lines run along it.
use Rattle.std.specs.Prelude.{ℤ, pos, ◌+ℤ◌, neg_ℤ, int_lt, ℕ, ◌+◌, ◌%◌, ◌==◌, nat_le, Bool, true, false, cond, ◌&&◌, ◌||◌, not}
use Rattle.std.specs.Ordering.{int_eq}
use Rattle.plane_base.specs.Counts.{Counting}
use Rattle.segment_split.specs.Kinds.{number_fits}

-- How often the subject runs along an edge, whether a line runs forward, from its b to its a, and whether one runs back.
pub record StringCount : Type 0 where
  pub subject : ℤ
  pub forward : Bool
  pub back : Bool

-- Subjects are added, and a line that runs along either of two joined edges runs along the edge. A turned edge's subject
-- is negated, and its lines run the other ways.
abbrev pub stringed : Counting StringCount
stringed = record {
  join = λ c d. record { subject = c.subject +ℤ d.subject; forward = c.forward || d.forward; back = c.back || d.back };
  turned = λ c. record { subject = neg_ℤ c.subject; forward = c.back; back = c.forward };
  is_empty = λ c. int_eq c.subject (pos 0) && (not c.forward && not c.back);
}

-- a line that runs from an edge's lesser end to the greater
abbrev pub one_line : StringCount
one_line = record { subject = pos 0; forward = false; back = true }

-- the count of so many subject edges, and of lines: they run back where their number is above 0, forward where it is below
abbrev pub string_of : ℤ → ℤ → StringCount
string_of subject lines = record { subject = subject; forward = int_lt lines (pos 0); back = int_lt (pos 0) lines }

-- ---- masks: 1 for a line that runs forward, 2 for one that runs back

abbrev pub mask_of : StringCount → ℕ
mask_of c = cond c.forward 1 0 + cond c.back 2 0

-- the count with a subject and a mask
abbrev pub masked : ℤ → ℕ → StringCount
masked subject mask = record { subject = subject; forward = mask % 2 == 1; back = nat_le 2 mask }

-- The subject's number lies from -2147483647 to 2147483647.
abbrev pub string_fits : StringCount → Bool
string_fits c = number_fits c.subject

-- What a sweep by rows compares, with the rows that may be live as comparisons to come.
use Rattle.std.proofs.Common.{◌≡◌, ℕ, ◌+◌, ◌-◌, ◌*◌, ◌^◌, ◌≤◌, Bool, Option, Some, None, List, [], refl, ap, ◌∙◌, arith}
use Rattle.std.proofs.Math.Nat.{mul-le-mul_left, mul-le-mul_right}
use Rattle.i_tree.specs.Steps.{Counts, CountsAtMost}
use Rattle.i_tree.specs.TreeBound.{greatest_power, most_comparisons}
use Rattle.i_tree.proofs.Trees.Powers.{power-half}
use Rattle.segment_split.specs.PlaceSet.{members}
use Rattle.segment_arrangement.specs.HorizontalRows.{TakesOut, CountsWithMembers, finding}
use Rattle.segment_arrangement.proofs.RectilinearSides.Halves.{halves_fit}

pub nothing_counted : (a : Counts) (live : List Bool) (m n : ℕ) → m ≤ n → CountsWithMembers a a live live m n
nothing_counted a live m n l = record { never_falls = omega arith; bound = omega (arith, l); pairs = refl }

pub nothing_yet : (a : Counts) (live : List Bool) (n : ℕ) → members live ≡ 0 → CountsWithMembers a a [] live 0 n
nothing_yet a live n none = record { never_falls = omega arith; bound = omega (arith, none); pairs = refl }

pub and_then : (a b c : Counts) (live live' live'' : List Bool) (m n o : ℕ) → CountsWithMembers a b live live' m n → CountsWithMembers b c live' live'' n o → CountsWithMembers a c live live'' m o
and_then a b c live live' live'' m n o first second = record {
  never_falls = omega (arith, first.never_falls, second.never_falls);
  bound = omega (arith, first.bound, second.bound);
  pairs = second.pairs ∙ first.pairs;
}

-- in all, from an empty set on
pub in_all : (a b : Counts) (live : List Bool) (m n most : ℕ) → CountsWithMembers a b [] live 0 (m * most) → m ≤ n → CountsAtMost a b (n * most)
in_all a b live m n most made l =
    let more : m * most ≤ n * most = mul-le-mul_right most l in
    record { never_falls = made.never_falls; bound = omega (arith, made.bound, more); pairs = made.pairs }

-- a search takes no more than one comparison, but for those of the members that go
pub searched : (a b : Counts) (live live' : List Bool) (found : Option ℕ) → TakesOut a b live live' found → CountsWithMembers a b live live' 0 1
searched a b live live' found takes = record {
  never_falls = omega (arith, takes.counted.comparisons);
  bound = omega (arith, takes.counted.comparisons, takes.members, one found);
  pairs = takes.counted.pairs;
}
  where
    one : (found : Option ℕ) → finding found ≤ 1
    one None = omega arith
    one (Some place) = omega arith

-- Those of a fan: a place by halves, a search, and the rows that were put in. So many calls on a tree may take more.
module _ (n heights halves : ℕ) (many : 64 ≤ n) (fewer : heights ≤ n) (few : 2 ^ halves ≤ 2 * heights + 1) where
  enough : halves + 3 ≤ most_comparisons n
  enough =
      let least : 6 ≤ greatest_power n (n + 1) = power-half 6 n (omega (arith, many)) in
      let fits = halves_fit n heights halves fewer few in
      omega (arith, least, fits)

  pub fan_counted :
      (a b c : Counts) (live live' live'' : List Bool) (starts rows rows' : ℕ) → CountsAtMost a b (halves + 2) → CountsWithMembers b c live live' 0 1 → members live'' + rows ≤ members live' + rows' → rows ≤ rows'
      → CountsWithMembers a c live live'' ((starts + rows) * most_comparisons n) ((starts + 1 + rows') * most_comparisons n)
  fan_counted a b c live live' live'' starts rows rows' placed searched put more =
      let most = most_comparisons n in
      let one : 1 ≤ most = omega (arith, enough) in
      let new : (rows' - rows) * 1 ≤ (rows' - rows) * most = mul-le-mul_left (rows' - rows) one in
      let sum : starts + 1 + rows' ≡ (starts + rows) + 1 + (rows' - rows) = omega (arith, more) in
      let whole : (starts + 1 + rows') * most ≡ (starts + rows) * most + most + (rows' - rows) * most = ap (λ k. k * most) sum ∙ apart (starts + rows) (rows' - rows) most in
      record {
        never_falls = omega (arith, placed.never_falls, searched.never_falls);
        bound = omega (arith, placed.bound, searched.bound, put, more, new, whole, enough);
        pairs = searched.pairs ∙ placed.pairs;
      }
    where
      apart : (x y m : ℕ) → (x + 1 + y) * m ≡ x * m + m + y * m
      apart x y m = omega arith

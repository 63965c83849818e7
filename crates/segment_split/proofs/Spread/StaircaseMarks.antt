-- Marks along an edge stand one beyond the other, where any two of them are in order along it.
use Rattle.std.proofs.Common.{◌≡◌, ◌≢◌, Bool, true, false, cond, List, [], ◌∷◌, ◌++◌, All, ◌⊎◌, inl, inr, ℤ, ◌≤ℤ◌, ◌<ℤ◌, int_lt, int_cmp, Ordering, Less, Equal, Greater, refl, arith}
use Rattle.std.specs.Cmp.{IsTotalOrder}
use Rattle.std.specs.Ordering.{ordering_then}
use Rattle.std.proofs.lemmas.Int.{ints}
use Rattle.std.proofs.lemmas.Cmp.{int_cmp_total, on_total, then_total, back_total}
use Rattle.std.proofs.lemmas.List.Elements.{All-nil, All-cons, All-head, All-tail, All-push, All-weaker}
use Rattle.std.proofs.lemmas.List.Quantifiers.{all_pairs_push}
use Rattle.plane_base.specs.Plane.{Point, Edge, is_before}
use Rattle.plane_base.specs.RoundingLaws.{IsAlong}
use Rattle.plane_base.proofs.Facts.Maps.Normal.{AllPairs-nil, AllPairs-cons, AllPairs-head, AllPairs-tail}
use Rattle.plane_base.proofs.Facts.Points.Orders.{less_then, int_less, int_equal, less_from_greater, less_apart, before_is_less, point_less_x, point_total}
use Rattle.segment_split.specs.AlongLaws.{RisesAlong, IsBeyond, IsStaircase}
use Rattle.segment_split.specs.Paths.{mark_order, with_mark, along, path}

-- ---- the order of marks

pub mark_total : (s : Edge) → IsTotalOrder (mark_order s)
mark_total s = by (int_lt s.b.y s.a.y)
  where
    by : (falls : Bool) → IsTotalOrder (λ (p r : Point). ordering_then (int_cmp p.x r.x) (cond falls (int_cmp r.y p.y) (int_cmp p.y r.y)))
    by true = then_total (on_total (λ p. p.x) int_cmp_total) (on_total (λ p. p.y) (back_total int_cmp_total))
    by false = then_total (on_total (λ p. p.x) int_cmp_total) (on_total (λ p. p.y) int_cmp_total)

-- of two points in order along the edge the lesser mark stands first
less_is_beyond : (s : Edge) (u v : Point) → mark_order s u v ≡ Less → IsAlong s u v ⊎ IsAlong s v u → IsBeyond s u v
less_is_beyond s u v l ordered = record { along = by ordered; differ = less_apart (mark_total s) u v l }
  where
    level : (x y : ℤ) → x ≡ y → x ≤ℤ y
    level x y e = omega (arith, ints)

    rising : (falls : Bool) → int_lt s.b.y s.a.y ≡ falls → cond falls (int_cmp v.y u.y) (int_cmp u.y v.y) ≡ Less → s.a.y ≤ℤ s.b.y → u.y ≤ℤ v.y
    rising true e h rises = absurd (omega (arith, ints))
    rising false e h rises = let k = int_less u.y v.y h in omega (arith, ints)

    falling : (falls : Bool) → int_lt s.b.y s.a.y ≡ falls → cond falls (int_cmp v.y u.y) (int_cmp u.y v.y) ≡ Less → s.b.y <ℤ s.a.y → v.y ≤ℤ u.y
    falling true e h falls = let k = int_less v.y u.y h in omega (arith, ints)
    falling false e h falls = absurd (omega (arith, ints))

    turned : IsAlong s v u → (int_cmp u.x v.x ≡ Less) ⊎ ((int_cmp u.x v.x ≡ Equal) × (cond (int_lt s.b.y s.a.y) (int_cmp v.y u.y) (int_cmp u.y v.y) ≡ Less)) → IsAlong s u v
    turned h (inl k) = let m = int_less u.x v.x k in let n = h.right in absurd (omega (arith, ints))
    turned h (inr k) = record {
      right = level u.x v.x (int_equal u.x v.x k.0);
      up = rising (int_lt s.b.y s.a.y) refl k.1;
      down = falling (int_lt s.b.y s.a.y) refl k.1;
    }

    by : IsAlong s u v ⊎ IsAlong s v u → IsAlong s u v
    by (inl h) = h
    by (inr h) = turned h (less_then (int_cmp u.x v.x) (cond (int_lt s.b.y s.a.y) (int_cmp v.y u.y) (int_cmp u.y v.y)) l)

-- ---- marks in their places

module _ (s : Edge) where
  -- `with_mark` at a mark r, by how p and r stand
  abbrev pub with_mark_by : Ordering → Point → Point → List Point → List Point
  with_mark_by o p r rest =
      elim o [
        | Less ↦ p ∷ r ∷ rest
        | Equal ↦ r ∷ rest
        | Greater ↦ r ∷ with_mark s p rest
      ]

  with_mark_all : (P : Point → Type 0) (p : Point) (ps : List Point) → P p → All P ps → All P (with_mark s p ps)
  with_mark_all P p [] h all = All-cons P p [] h all
  with_mark_all P p (r ∷ rest) h all = by (mark_order s p r) (with_mark_all P p rest h (All-tail P r rest all))
    where
      by : (o : Ordering) → All P (with_mark s p rest) → All P (with_mark_by o p r rest)
      by Less k = All-cons P p (r ∷ rest) h all
      by Equal k = all
      by Greater k = All-cons P r (with_mark s p rest) (All-head P r rest all) k

  -- what holds of the marks holds of them along the edge
  pub along_all : (P : Point → Type 0) (ps : List Point) → All P ps → All P (along s ps)
  along_all P [] all = all
  along_all P (p ∷ ps) all = with_mark_all P p (along s ps) (All-head P p ps all) (along_all P ps (All-tail P p ps all))

  with_mark_rising : (p : Point) (ps : List Point) → RisesAlong s ps → RisesAlong s (with_mark s p ps)
  with_mark_rising p [] rising = AllPairs-cons (λ p r. mark_order s p r ≡ Less) p [] (All-nil (λ r. mark_order s p r ≡ Less)) rising
  with_mark_rising p (r ∷ rest) rising = by (mark_order s p r) refl (with_mark_rising p rest (AllPairs-tail (λ p r. mark_order s p r ≡ Less) r rest rising))
    where
      first : All (λ v. mark_order s r v ≡ Less) rest
      first = AllPairs-head (λ p r. mark_order s p r ≡ Less) r rest rising

      by : (o : Ordering) → mark_order s p r ≡ o → RisesAlong s (with_mark s p rest) → RisesAlong s (with_mark_by o p r rest)
      by Less h k =
          AllPairs-cons (λ p r. mark_order s p r ≡ Less) p (r ∷ rest)
          (All-cons (λ v. mark_order s p v ≡ Less) r rest h (All-weaker (λ v. mark_order s r v ≡ Less) (λ v. mark_order s p v ≡ Less) (λ v l. (mark_total s).trans p r v h l) rest first))
          rising
      by Equal h k = rising
      by Greater h k =
          AllPairs-cons (λ p r. mark_order s p r ≡ Less) r (with_mark s p rest)
          (with_mark_all (λ v. mark_order s r v ≡ Less) p rest (less_from_greater (mark_total s) p r h) first)
          k

  -- the marks along the edge rise
  pub along_rising : (ps : List Point) → RisesAlong s (along s ps)
  along_rising [] = AllPairs-nil (λ p r. mark_order s p r ≡ Less)
  along_rising (p ∷ ps) = with_mark_rising p (along s ps) (along_rising ps)

  with_mark_some : (p : Point) (ps : List Point) → with_mark s p ps ≢ []
  with_mark_some p [] e = absurd (cc)
  with_mark_some p (r ∷ rest) e = by (mark_order s p r) e
    where
      by : (o : Ordering) → with_mark_by o p r rest ≢ []
      by Less e = absurd (cc)
      by Equal e = absurd (cc)
      by Greater e = absurd (cc)

  pub along_some : (p : Point) (ps : List Point) → along s (p ∷ ps) ≢ []
  along_some p ps = with_mark_some p (along s ps)

-- ---- the path

-- A mark between the ends, and none of them.
pub record IsBetween (s : Edge) (m : Point) : Type 0 where
  pub beyond_first : IsBeyond s s.a m
  pub before_second : IsBeyond s m s.b

-- the marks are some of a kind that are in order along the edge
module _ (s : Edge) (Q : Point → Type 0) (ordered : (u v : Point) → Q u → Q v → IsAlong s u v ⊎ IsAlong s v u) where
  rising_staircase : (ps : List Point) → All Q ps → RisesAlong s ps → IsStaircase s ps
  rising_staircase [] all rising = AllPairs-nil (IsBeyond s)
  rising_staircase (p ∷ ps) all rising =
      AllPairs-cons (IsBeyond s) p ps
      (λ k d l. less_is_beyond s p _ (AllPairs-head (λ p r. mark_order s p r ≡ Less) p ps rising k d l) (ordered p _ (All-head Q p ps all) (All-tail Q p ps all k d l)))
      (rising_staircase ps (All-tail Q p ps all) (AllPairs-tail (λ p r. mark_order s p r ≡ Less) p ps rising))

  pub path_staircase : (ps : List Point) → is_before s.a s.b ≡ true → All Q ps → All (IsBetween s) ps → IsStaircase s (path s ps)
  path_staircase ps directed all between =
      AllPairs-cons (IsBeyond s) s.a (along s ps ++ (s.b ∷ []))
      (All-push (IsBeyond s s.a) (along s ps) s.b (All-weaker (IsBetween s) (IsBeyond s s.a) (λ m h. h.beyond_first) (along s ps) inside) whole)
      (all_pairs_push (IsBeyond s) (along s ps) s.b (rising_staircase (along s ps) (along_all s Q ps all) (along_rising s ps)) (All-weaker (IsBetween s) (λ m. IsBeyond s m s.b) (λ m h. h.before_second) (along s ps) inside))
    where
      inside : All (IsBetween s) (along s ps)
      inside = along_all s (IsBetween s) ps between

      weak : (x y : ℤ) → x <ℤ y → x ≤ℤ y
      weak x y h = omega (arith, ints)

      whole : IsBeyond s s.a s.b
      whole = record {
        along = record { right = point_less_x s.a s.b (before_is_less s.a s.b directed); up = λ h. h; down = λ h. weak s.b.y s.a.y h };
        differ = less_apart point_total s.a s.b (before_is_less s.a s.b directed);
      }

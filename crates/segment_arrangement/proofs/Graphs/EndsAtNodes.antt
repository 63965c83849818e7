-- The ends of edges in order, and the nodes at which they lie.
use Rattle.std.proofs.Common.{◌≡◌, ◌⊎◌, inl, inr, ℕ, ◌+◌, ◌<◌, ◌≤◌, List, [], ◌∷◌, length, get_or, map, Bool, true, false, cond, Ordering, Less, Equal, Greater, refl, sym, ap, ◌∙◌, subst, arith}
use Rattle.std.specs.Cmp.{IsTotalOrder, bool_cmp_total}
use Rattle.std.specs.Ordering.{MatchOrdering, ordering_then, bool_cmp, nat_cmp, is_lt, is_eq, eq_by_cmp}
use Rattle.std.specs.List.Sorted.{IsSortedBy}
use Rattle.std.proofs.lemmas.Cmp.{nat_cmp_total, ranked, on_total, then_total, tied_itself}
use Rattle.std.proofs.lemmas.List.{length-map, get_or-map}
use Rattle.plane_base.specs.Plane.{Point, Edge, point_order}
use Rattle.plane_base.proofs.Facts.Points.Orders.{point_total, point_equal, point_itself, is_equal, less_from_greater}
use Rattle.segment_arrangement.specs.Graphs.{places_from, with_point, ends_of}
use Rattle.segment_arrangement.specs.LinkEnds.{End, end_order, ends_from, end_point, ends_on, places_at}
use Rattle.segment_arrangement.proofs.Graphs.EndOrder.{Member, Below, Rises}

-- ---- the order of ends

pub end_total : IsTotalOrder end_order
end_total = then_total (on_total (λ e. e.point) point_total) (then_total (on_total (λ e. e.is_last) bool_cmp_total) (on_total (λ e. e.place) nat_cmp_total))

pub nat_less : (m n : ℕ) → m < n → nat_cmp m n ≡ Less
nat_less m n l = by (nat_cmp m n) (ranked m n (nat_cmp m n) refl)
  where
    by : (o : Ordering) → MatchOrdering o (m < n) (m ≡ n) (n < m) → o ≡ Less
    by Less h = refl
    by Equal h = absurd (omega (arith, h, l))
    by Greater h = absurd (omega (arith, h, l))

-- ---- places

abbrev AllFrom : ℕ → List ℕ → Type 0
AllFrom n [] = Unit {0}
AllFrom n (i ∷ is) = (n ≤ i) × AllFrom n is

from_less : (n m : ℕ) (is : List ℕ) → m ≤ n → AllFrom n is → AllFrom m is
from_less n m [] l h = tt
from_less n m (i ∷ is) l h = (omega (arith, h.0, l), from_less n m is l h.1)

module _ {A : Type 0} (test : A → Bool) where
  places_above : (n : ℕ) (xs : List A) → AllFrom n (places_from n test xs)
  places_above n [] = tt
  places_above n (x ∷ xs) = by (test x) (from_less (n + 1) n (places_from (n + 1) test xs) (omega arith) (places_above (n + 1) xs))
    where
      by : (b : Bool) → AllFrom n (places_from (n + 1) test xs) → AllFrom n (cond b (n ∷ places_from (n + 1) test xs) (places_from (n + 1) test xs))
      by true h = (omega arith, h)
      by false h = h

-- ---- the ends at one point

pub ends_on_member : (is_last : Bool) (v : Point) (e : End) (is : List ℕ) → Member e (ends_on is_last v is) → (e.point ≡ v) × (e.is_last ≡ is_last) × Member e.place is
ends_on_member is_last v e [] m = absurd m
ends_on_member is_last v e (i ∷ is) (inl h) = (ap (λ f. f.point) h, ap (λ f. f.is_last) h, inl (ap (λ f. f.place) h))
ends_on_member is_last v e (i ∷ is) (inr m) = let h = ends_on_member is_last v e is m in (h.0, h.1, inr h.2)

pub member_ends_on : (is_last : Bool) (v : Point) (i : ℕ) (is : List ℕ) → Member i is → Member {X = End} (record { point = v; is_last = is_last; place = i }) (ends_on is_last v is)
member_ends_on is_last v i [] m = absurd m
member_ends_on is_last v i (j ∷ is) (inl e) = inl (ap (λ k. record { point = v; is_last = is_last; place = k }) e)
member_ends_on is_last v i (j ∷ is) (inr m) = inr (member_ends_on is_last v i is m)

-- places that rise, and so the ends
abbrev PlacesRise : List ℕ → Type 0
PlacesRise [] = Unit {0}
PlacesRise (i ∷ is) = AllFrom (i + 1) is × PlacesRise is

pub places_rise : {A : Type 0} (test : A → Bool) (n : ℕ) (xs : List A) → PlacesRise (places_from n test xs)
places_rise test n [] = tt
places_rise test n (x ∷ xs) = by (test x) (places_rise test (n + 1) xs)
  where
    by : (b : Bool) → PlacesRise (places_from (n + 1) test xs) → PlacesRise (cond b (n ∷ places_from (n + 1) test xs) (places_from (n + 1) test xs))
    by true h = (places_above test (n + 1) xs, h)
    by false h = h

less_by_place : (is_last : Bool) (v : Point) (i j : ℕ) → i < j → end_order (record { point = v; is_last = is_last; place = i }) (record { point = v; is_last = is_last; place = j }) ≡ Less
less_by_place is_last v i j l = rw (point_itself v, tied_itself bool_cmp_total is_last) (nat_less i j l)

pub ends_on_rise : (is_last : Bool) (v : Point) (is : List ℕ) → PlacesRise is → Rises end_order (ends_on is_last v is)
ends_on_rise is_last v [] h = tt
ends_on_rise is_last v (i ∷ is) h = (below is h.0, ends_on_rise is_last v is h.1)
  where
    below : (js : List ℕ) → AllFrom (i + 1) js → Below end_order (record { point = v; is_last = is_last; place = i }) (ends_on is_last v js)
    below [] k = tt
    below (j ∷ js) k = (less_by_place is_last v i j (omega (arith, k.0)), below js k.1)

pub less_by_point : (e f : End) → point_order e.point f.point ≡ Less → end_order e f ≡ Less
less_by_point e f l = rw l refl

-- ---- the distinct ends

module _ (p : Point) where
  with_below : (x : Point) (vs : List Point) → point_order x p ≡ Less → Below point_order x vs → Below point_order x (with_point p vs)
  with_below x [] l h = (l, tt)
  with_below x (v ∷ vs) l h = by (point_order p v) (with_below x vs l h.1)
    where
      by : (o : Ordering) → Below point_order x (with_point p vs) → Below point_order x (elim o [ Less ↦ p ∷ v ∷ vs | Equal ↦ v ∷ vs | Greater ↦ v ∷ with_point p vs ])
      by Less k = (l, h)
      by Equal k = h
      by Greater k = (h.0, k)

  below_further : (v : Point) (vs : List Point) → point_order p v ≡ Less → Below point_order v vs → Below point_order p vs
  below_further v [] l h = tt
  below_further v (w ∷ vs) l h = (point_total.trans p v w l h.0, below_further v vs l h.1)

  with_rises : (vs : List Point) → Rises point_order vs → Rises point_order (with_point p vs)
  with_rises [] h = (tt, tt)
  with_rises (v ∷ vs) h = by (point_order p v) refl (with_rises vs h.1)
    where
      by : (o : Ordering) → point_order p v ≡ o → Rises point_order (with_point p vs) → Rises point_order (elim o [ Less ↦ p ∷ v ∷ vs | Equal ↦ v ∷ vs | Greater ↦ v ∷ with_point p vs ])
      by Less e k = ((e, below_further v vs e h.0), h)
      by Equal e k = h
      by Greater e k = (with_below v vs (less_from_greater point_total p v e) h.0, k)

  with_has : (vs : List Point) → Member p (with_point p vs)
  with_has [] = inl refl
  with_has (v ∷ vs) = by (point_order p v) refl (with_has vs)
    where
      by : (o : Ordering) → point_order p v ≡ o → Member p (with_point p vs) → Member p (elim o [ Less ↦ p ∷ v ∷ vs | Equal ↦ v ∷ vs | Greater ↦ v ∷ with_point p vs ])
      by Less e k = inl refl
      by Equal e k = inl (point_equal p v e)
      by Greater e k = inr k

  with_keeps : (q : Point) (vs : List Point) → Member q vs → Member q (with_point p vs)
  with_keeps q [] m = absurd m
  with_keeps q (v ∷ vs) m = by (point_order p v) (with_keeps q vs) m
    where
      by : (o : Ordering) → (Member q vs → Member q (with_point p vs)) → Member q (v ∷ vs) → Member q (elim o [ Less ↦ p ∷ v ∷ vs | Equal ↦ v ∷ vs | Greater ↦ v ∷ with_point p vs ])
      by Less f k = inr k
      by Equal f k = k
      by Greater f (inl e) = inl e
      by Greater f (inr k) = inr (f k)

  with_from : (q : Point) (vs : List Point) → Member q (with_point p vs) → (q ≡ p) ⊎ Member q vs
  with_from q [] m = m
  with_from q (v ∷ vs) m = by (point_order p v) (with_from q vs) m
    where
      back : (q ≡ p) ⊎ Member q vs → (q ≡ p) ⊎ Member q (v ∷ vs)
      back (inl e) = inl e
      back (inr l) = inr (inr l)

      by : (o : Ordering) → (Member q (with_point p vs) → (q ≡ p) ⊎ Member q vs) → Member q (elim o [ Less ↦ p ∷ v ∷ vs | Equal ↦ v ∷ vs | Greater ↦ v ∷ with_point p vs ]) → (q ≡ p) ⊎ Member q (v ∷ vs)
      by Less f k = k
      by Equal f k = inr k
      by Greater f (inl e) = inr (inl e)
      by Greater f (inr k) = back (f k)

pub ends_rise : (edges : List Edge) → Rises point_order (ends_of edges)
ends_rise [] = tt
ends_rise (s ∷ rest) = with_rises s.a (with_point s.b (ends_of rest)) (with_rises s.b (ends_of rest) (ends_rise rest))

pub end_is_among : (n : ℕ) (edges : List Edge) (e : End) → Member e (ends_from n edges) → Member e.point (ends_of edges)
end_is_among n [] e m = absurd m
end_is_among n (s ∷ rest) e (inl h) = subst (λ f. Member f.point (ends_of (s ∷ rest))) (sym h) (with_has s.a (with_point s.b (ends_of rest)))
end_is_among n (s ∷ rest) e (inr (inl h)) = subst (λ f. Member f.point (ends_of (s ∷ rest))) (sym h) (with_keeps s.a s.b (with_point s.b (ends_of rest)) (with_has s.b (ends_of rest)))
end_is_among n (s ∷ rest) e (inr (inr m)) = with_keeps s.a e.point (with_point s.b (ends_of rest)) (with_keeps s.b e.point (ends_of rest) (end_is_among (n + 1) rest e m))

abbrev EndThere : ℕ → List Edge → Point → Type 0
EndThere n edges v = (e : End) × Member e (ends_from n edges) × (e.point ≡ v)

pub point_has_end : (n : ℕ) (edges : List Edge) (v : Point) → Member v (ends_of edges) → (e : End) × Member e (ends_from n edges) × (e.point ≡ v)
point_has_end n [] v m = absurd m
point_has_end n (s ∷ rest) v m = first (point_has_end (n + 1) rest v) (with_from s.a v (with_point s.b (ends_of rest)) m)
  where
    third : EndThere (n + 1) rest v → EndThere n (s ∷ rest) v
    third (e, k, p) = (e, inr (inr k), p)

    second : (Member v (ends_of rest) → EndThere (n + 1) rest v) → (v ≡ s.b) ⊎ Member v (ends_of rest) → EndThere n (s ∷ rest) v
    second f (inl h) = (record { point = s.b; is_last = true; place = n }, inr (inl refl), sym h)
    second f (inr k) = third (f k)

    first : (Member v (ends_of rest) → EndThere (n + 1) rest v) → (v ≡ s.a) ⊎ Member v (with_point s.b (ends_of rest)) → EndThere n (s ∷ rest) v
    first f (inl h) = (record { point = s.a; is_last = false; place = n }, inl refl, sym h)
    first f (inr k) = second f (with_from s.b v (ends_of rest) k)

-- ---- an end lies at its node, and what lies at a node is an end

place_here : (n i : ℕ) (b : Bool) (is : List ℕ) → Member i (cond b (n ∷ is) is) → ((b ≡ true) × (i ≡ n)) ⊎ Member i is
place_here n i true is (inl e) = inl (refl, e)
place_here n i true is (inr m) = inr m
place_here n i false is m = inr m

place_there : (n i : ℕ) (b : Bool) (is : List ℕ) → Member i is → Member i (cond b (n ∷ is) is)
place_there n i true is m = inr m
place_there n i false is m = m

pub place_is_end : (is_last : Bool) (n : ℕ) (edges : List Edge) (v : Point) (i : ℕ) → Member i (places_at is_last n edges v) → Member {X = End} (record { point = v; is_last = is_last; place = i }) (ends_from n edges)
place_is_end is_last n [] v i m = absurd m
place_is_end is_last n (s ∷ rest) v i m = by is_last (place_is_end is_last (n + 1) rest v i) (place_here n i (is_eq (point_order (end_point is_last s) v)) (places_at is_last (n + 1) rest v) m)
  where
    here : (k : Bool) → (is_eq (point_order (end_point k s) v) ≡ true) × (i ≡ n) → ◌≡◌ {A = End} (record { point = v; is_last = k; place = i }) (record { point = end_point k s; is_last = k; place = n })
    here k h = λ j. record { point = sym (point_equal (end_point k s) v (is_equal (point_order (end_point k s) v) h.0)) j; is_last = k; place = h.1 j }

    by : (k : Bool) → (Member i (places_at k (n + 1) rest v) → Member {X = End} (record { point = v; is_last = k; place = i }) (ends_from (n + 1) rest))
        → ((is_eq (point_order (end_point k s) v) ≡ true) × (i ≡ n)) ⊎ Member i (places_at k (n + 1) rest v) → Member {X = End} (record { point = v; is_last = k; place = i }) (ends_from n (s ∷ rest))
    by false f (inl h) = inl (here false h)
    by true f (inl h) = inr (inl (here true h))
    by k f (inr m) = inr (inr (f m))

pub end_is_placed : (n : ℕ) (edges : List Edge) (e : End) → Member e (ends_from n edges) → Member e.place (places_at e.is_last n edges e.point)
end_is_placed n [] e m = absurd m
end_is_placed n (s ∷ rest) e (inl h) = rw h (rw (point_itself s.a) (inl refl))
end_is_placed n (s ∷ rest) e (inr (inl h)) = rw h (rw (point_itself s.b) (inl refl))
end_is_placed n (s ∷ rest) e (inr (inr m)) = place_there n e.place (is_eq (point_order (end_point e.is_last s) e.point)) (places_at e.is_last (n + 1) rest e.point) (end_is_placed (n + 1) rest e m)

-- ---- the ends of edges differ

later : (o p q : Ordering) → q ≡ Less → is_eq (ordering_then o (ordering_then p q)) ≡ false
later Less p q e = refl
later Greater p q e = refl
later Equal Less q e = refl
later Equal Greater q e = refl
later Equal Equal q e = ap is_eq e

pub further_place : (e f : End) → e.place < f.place → eq_by_cmp end_order e f ≡ false
further_place e f l = later (point_order e.point f.point) (bool_cmp e.is_last f.is_last) (nat_cmp e.place f.place) (nat_less e.place f.place l)

-- in the order of what it is mapped from
pub mapped_sorted : {X : Type 0} (f : X → End) (cmp : X → X → Ordering) → ((x y : X) → cmp x y ≡ end_order (f x) (f y)) → (xs : List X) → IsSortedBy (λ x y. is_lt (cmp x y)) xs → IsSortedBy (λ e f. is_lt (end_order e f)) (map f xs)
mapped_sorted f cmp same [] sorted k d l m = absurd (omega (arith, m))
mapped_sorted f cmp same (x ∷ xs) sorted k d l m =
    let above : k + 1 < length (x ∷ xs) = rw (length-map (x ∷ xs) f) at m in
    rw (get_or-map f (x ∷ xs) (k + 1) x d above, get_or-map f (x ∷ xs) k x d (omega (arith, above)))
    (ap is_lt (sym (same (get_or (x ∷ xs) (k + 1) x) (get_or (x ∷ xs) k x))) ∙ sorted k x l above)

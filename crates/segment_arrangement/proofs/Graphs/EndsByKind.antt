-- The first ends of edges alone, and the second ones alone: in order they too stand node by node.
use Rattle.std.proofs.Common.{◌≡◌, ◌≢◌, ◌⊎◌, inl, inr, ℕ, zero, suc, ◌+◌, ◌<◌, List, [], ◌∷◌, length, get_or, map, filter, Bool, true, false, cond, Ordering, Less, Equal, Greater, All, AllPairs, IsPermutation, refl, sym, ap, ◌∙◌, subst, arith}
use Rattle.std.specs.Ordering.{ordering_then, is_lt, is_eq, eq_by_cmp}
use Rattle.std.specs.List.{flat_map, IsDistinct}
use Rattle.std.specs.List.Sorted.{IsSortedBy}
use Rattle.std.proofs.lemmas.List.Elements.{All-cons, All-nil, All-head, All-tail, recursion_from_All}
use Rattle.std.proofs.lemmas.List.Sorted.{IsPermutation-sym, Contains-permutation}
use Rattle.plane_base.specs.Plane.{Point, Edge, point_order, edge_order}
use Rattle.plane_base.proofs.Facts.Maps.Normal.{AllPairs-nil, AllPairs-cons, AllPairs-head, AllPairs-tail}
use Rattle.segment_arrangement.specs.Graphs.{ends_of}
use Rattle.segment_arrangement.specs.LinkEnds.{End, end_order, ends_from, end_point, ends_on, places_at, ends_of_kind}
use Rattle.segment_arrangement.proofs.Graphs.EndOrder.{Member, member_left, member_right, member_either, member_from_contains, contains_from_member, Below, Rises, below_member, rises_append, same_members, rises_sorted}
use Rattle.segment_arrangement.proofs.Graphs.EndsAtNodes.{end_total, nat_less, ends_on_member, member_ends_on, places_rise, ends_on_rise, less_by_point, ends_rise, end_is_among, point_has_end, place_is_end, end_is_placed, further_place}

-- ---- members

module _ {X Y : Type 0} (f : X → List Y) where
  pub flat_member : (y : Y) (xs : List X) → Member y (flat_map f xs) → (x : X) × Member x xs × Member y (f x)
  flat_member y [] m = absurd m
  flat_member y (x ∷ xs) m = by (flat_member y xs) (member_either y (f x) (flat_map f xs) m)
    where
      by : (Member y (flat_map f xs) → (z : X) × Member z xs × Member y (f z)) → Member y (f x) ⊎ Member y (flat_map f xs) → (z : X) × Member z (x ∷ xs) × Member y (f z)
      by g (inl k) = (x, inl refl, k)
      by g (inr k) = let h = g k in (h.0, inr h.1, h.2)

  member_flat : (y : Y) (x : X) (xs : List X) → Member x xs → Member y (f x) → Member y (flat_map f xs)
  member_flat y x [] m k = absurd m
  member_flat y x (z ∷ xs) (inl e) k = member_left y (f z) (flat_map f xs) (subst (λ w. Member y (f w)) e k)
  member_flat y x (z ∷ xs) (inr m) k = member_right y (f z) (flat_map f xs) (member_flat y x xs m k)

pub kind_sound : (b : Bool) (n : ℕ) (edges : List Edge) (e : End) → Member e (ends_of_kind b n edges) → Member e (ends_from n edges) × (e.is_last ≡ b)
kind_sound b n [] e m = absurd m
kind_sound false n (s ∷ rest) e (inl h) = (inl h, ap (λ f. f.is_last) h)
kind_sound true n (s ∷ rest) e (inl h) = (inr (inl h), ap (λ f. f.is_last) h)
kind_sound b n (s ∷ rest) e (inr m) = let k = kind_sound b (n + 1) rest e m in (inr (inr k.0), k.1)

pub kind_complete : (b : Bool) (n : ℕ) (edges : List Edge) (e : End) → Member e (ends_from n edges) → e.is_last ≡ b → Member e (ends_of_kind b n edges)
kind_complete b n [] e m q = absurd m
kind_complete false n (s ∷ rest) e (inl h) q = inl h
kind_complete true n (s ∷ rest) e (inl h) q = let k : e.is_last ≡ false = ap (λ f. f.is_last) h in absurd (cc)
kind_complete false n (s ∷ rest) e (inr (inl h)) q = let k : e.is_last ≡ true = ap (λ f. f.is_last) h in absurd (cc)
kind_complete true n (s ∷ rest) e (inr (inl h)) q = inl h
kind_complete b n (s ∷ rest) e (inr (inr m)) q = inr (kind_complete b (n + 1) rest e m q)

-- ---- the ends of one kind at a point

abbrev pub of_kind : Bool → List Edge → Point → List End
of_kind b edges v = ends_on b v (places_at b 0 edges v)

module _ (b : Bool) (edges : List Edge) where
  pub kind_point : (v : Point) (e : End) → Member e (of_kind b edges v) → e.point ≡ v
  kind_point v e m = (ends_on_member b v e (places_at b 0 edges v) m).0

  kind_here : (e : End) → Member e (ends_of_kind b 0 edges) → Member e (flat_map (of_kind b edges) (ends_of edges))
  kind_here e m =
      let k = kind_sound b 0 edges e m in
      member_flat (of_kind b edges) e e.point (ends_of edges) (end_is_among 0 edges e k.0)
      (subst (λ c. Member e (ends_on c e.point (places_at c 0 edges e.point))) k.1 (member_ends_on e.is_last e.point e.place (places_at e.is_last 0 edges e.point) (end_is_placed 0 edges e k.0)))

  kind_there : (e : End) → Member e (flat_map (of_kind b edges) (ends_of edges)) → Member e (ends_of_kind b 0 edges)
  kind_there e m = by (flat_member (of_kind b edges) e (ends_of edges) m)
    where
      by : (v : Point) × Member v (ends_of edges) × Member e (of_kind b edges v) → Member e (ends_of_kind b 0 edges)
      by (v, l, k) =
          let h = ends_on_member b v e (places_at b 0 edges v) k in
          let same : ◌≡◌ {A = End} (record { point = v; is_last = b; place = e.place }) e = λ i. record { point = sym h.0 i; is_last = sym h.1 i; place = e.place } in
          kind_complete b 0 edges e (subst (λ f. Member f (ends_from 0 edges)) same (place_is_end b 0 edges v e.place h.2)) h.1

  kinds_rise : (vs : List Point) → Rises point_order vs → Rises end_order (flat_map (of_kind b edges) vs)
  kinds_rise [] h = tt
  kinds_rise (v ∷ vs) h =
      rises_append end_order (of_kind b edges v) (flat_map (of_kind b edges) vs)
      (ends_on_rise b v (places_at b 0 edges v) (places_rise (λ s. is_eq (point_order (end_point b s) v)) 0 edges)) (kinds_rise vs h.1)
      (λ e f m k. across e f m (flat_member (of_kind b edges) f vs k))
    where
      across : (e f : End) → Member e (of_kind b edges v) → (w : Point) × Member w vs × Member f (of_kind b edges w) → end_order e f ≡ Less
      across e f m (w, l, k) = less_by_point e f ((λ i. point_order (kind_point v e m i) (kind_point w f k i)) ∙ below_member point_order v w vs h.0 l)

  -- ends that rise strictly, and are those of one kind, stand point by point
  pub kinds_are :
      (es : List End) → Rises end_order es → ((e : End) → Member e es → Member e (ends_of_kind b 0 edges)) → ((e : End) → Member e (ends_of_kind b 0 edges) → Member e es)
      → es ≡ flat_map (of_kind b edges) (ends_of edges)
  kinds_are es rises sound complete =
      same_members end_order end_total es (flat_map (of_kind b edges) (ends_of edges)) rises (kinds_rise (ends_of edges) (ends_rise edges))
      (λ e m. kind_here e (sound e m)) (λ e m. complete e (kind_there e m))

-- some end lies at each point
pub some_kind : (edges : List Edge) (v : Point) → Member v (ends_of edges) → (b : Bool) × (e : End) × Member e (of_kind b edges v)
some_kind edges v m = by (point_has_end 0 edges v m)
  where
    by : (e : End) × Member e (ends_from 0 edges) × (e.point ≡ v) → (b : Bool) × (e : End) × Member e (of_kind b edges v)
    by (e, k, p) = (e.is_last, e, subst (λ w. Member e (of_kind e.is_last edges w)) p (member_ends_on e.is_last e.point e.place (places_at e.is_last 0 edges e.point) (end_is_placed 0 edges e k)))

-- ---- starts, which are in order

abbrev pub AreByStart : List Edge → Type 0
AreByStart edges = AllPairs (λ s t. point_order s.a t.a ≢ Greater) edges

starts_below : (e : End) (n : ℕ) (edges : List Edge) → e.is_last ≡ false → e.place < n → All (λ t. point_order e.point t.a ≢ Greater) edges → Below end_order e (ends_of_kind false n edges)
starts_below e n [] q l h = tt
starts_below e n (t ∷ rest) q l h = (by (point_order e.point t.a) refl (All-head (λ t. point_order e.point t.a ≢ Greater) t rest h), starts_below e (n + 1) rest q (omega (arith, l)) (All-tail (λ t. point_order e.point t.a ≢ Greater) t rest h))
  where
    f : End
    f = record { point = t.a; is_last = false; place = n }

    by : (o : Ordering) → point_order e.point t.a ≡ o → point_order e.point t.a ≢ Greater → end_order e f ≡ Less
    by Less p k = rw p refl
    by Equal p k = rw (p, q) (nat_less e.place n l)
    by Greater p k = absurd (k p)

starts_rise : (n : ℕ) (edges : List Edge) → AreByStart edges → Rises end_order (ends_of_kind false n edges)
starts_rise n [] h = tt
starts_rise n (s ∷ rest) h = (
  starts_below (record { point = s.a; is_last = false; place = n }) (n + 1) rest refl (omega arith) (AllPairs-head (λ s t. point_order s.a t.a ≢ Greater) s rest h),
  starts_rise (n + 1) rest (AllPairs-tail (λ s t. point_order s.a t.a ≢ Greater) s rest h),
)

pub starts_are : (edges : List Edge) → AreByStart edges → ends_of_kind false 0 edges ≡ flat_map (of_kind false edges) (ends_of edges)
starts_are edges h = kinds_are false edges (ends_of_kind false 0 edges) (starts_rise 0 edges h) (λ e m. m) (λ e m. m)

-- ---- ends of one kind, sorted

kind_further : (b : Bool) (n m : ℕ) (edges : List Edge) → m < n → (e : End) → e.place ≡ m → All (λ f. eq_by_cmp end_order e f ≡ false) (ends_of_kind b n edges)
kind_further b n m [] l e h = All-nil (λ f. eq_by_cmp end_order e f ≡ false)
kind_further b n m (s ∷ rest) l e h =
    All-cons (λ f. eq_by_cmp end_order e f ≡ false) this (ends_of_kind b (n + 1) rest) (further_place e this (omega (arith, l, h))) (kind_further b (n + 1) m rest (omega (arith, l)) e h)
  where
    this : End
    this = record { point = end_point b s; is_last = b; place = n }

kind_distinct : (b : Bool) (n : ℕ) (edges : List Edge) → IsDistinct (eq_by_cmp end_order) (ends_of_kind b n edges)
unfolding IsDistinct
kind_distinct b n [] = tt
kind_distinct b n (s ∷ rest) = (recursion_from_All (λ f. eq_by_cmp end_order this f ≡ false) (ends_of_kind b (n + 1) rest) (kind_further b (n + 1) n rest (omega arith) this refl), kind_distinct b (n + 1) rest)
  where
    this : End
    this = record { point = end_point b s; is_last = b; place = n }

module _ (b : Bool) (edges : List Edge) (xs ys : List End) (same : xs ≡ ends_of_kind b 0 edges) (moved : IsPermutation xs ys) where
  pub sorted_sound : (e : End) → Member e ys → Member e (ends_of_kind b 0 edges)
  sorted_sound e m = subst (Member e) same (member_from_contains xs e (Contains-permutation ys xs e (IsPermutation-sym xs ys moved) (contains_from_member ys e m)))

  pub sorted_complete : (e : End) → Member e (ends_of_kind b 0 edges) → Member e ys
  sorted_complete e m = member_from_contains ys e (Contains-permutation xs ys e moved (contains_from_member xs e (subst (Member e) (sym same) m)))

  pub sorted_are : IsSortedBy (λ e f. is_lt (end_order e f)) ys → ys ≡ flat_map (of_kind b edges) (ends_of edges)
  sorted_are sorted = kinds_are b edges ys (rises_sorted end_order end_total xs ys (rw same (kind_distinct b 0 edges)) moved sorted) sorted_sound sorted_complete

-- ---- one of them

pub kind_length : (b : Bool) (n : ℕ) (edges : List Edge) → length (ends_of_kind b n edges) ≡ length edges
kind_length b n [] = refl
kind_length b n (s ∷ rest) = ap suc (kind_length b (n + 1) rest)

pub kind_get : (b : Bool) (n : ℕ) (edges : List Edge) (i : ℕ) (d : End) (t : Edge) → i < length edges → get_or (ends_of_kind b n edges) i d ≡ record { point = end_point b (get_or edges i t); is_last = b; place = n + i }
kind_get b n [] i d t l = absurd (omega (arith, l))
kind_get b n (s ∷ rest) zero d t l = ap (λ j. record { point = end_point b s; is_last = b; place = j }) plus
  where
    plus : n ≡ n + 0
    plus = omega arith
kind_get b n (s ∷ rest) (suc i) d t l = kind_get b (n + 1) rest i d t (omega (arith, l)) ∙ ap (λ j. record { point = end_point b (get_or rest i t); is_last = b; place = j }) plus
  where
    plus : (n + 1) + i ≡ n + suc i
    plus = omega arith

-- ---- links of some segments of a rising list stand by their starts

less_not_greater : (s t : Edge) → edge_order s t ≡ Less → point_order s.a t.a ≢ Greater
less_not_greater s t l g = by (point_order s.a t.a) g l
  where
    by : (o : Ordering) → o ≡ Greater → ordering_then o (point_order s.b t.b) ≡ Less → ⊥
    by Less p q = cc
    by Equal p q = cc
    by Greater p q = cc

module _ {S : Type 0} (edge : S → Edge) (test : S → Bool) where
  kept_after : (s : Edge) (ss : List S) → All (λ x. edge_order s (edge x) ≡ Less) ss → All (λ t. point_order s.a t.a ≢ Greater) (map edge (filter test ss))
  kept_after s [] h = All-nil (λ t. point_order s.a t.a ≢ Greater)
  kept_after s (x ∷ ss) h = by (test x) (kept_after s ss (All-tail (λ x. edge_order s (edge x) ≡ Less) x ss h))
    where
      by : (b : Bool) → All (λ t. point_order s.a t.a ≢ Greater) (map edge (filter test ss)) → All (λ t. point_order s.a t.a ≢ Greater) (map edge (cond b (x ∷ filter test ss) (filter test ss)))
      by true k = All-cons (λ t. point_order s.a t.a ≢ Greater) (edge x) (map edge (filter test ss)) (less_not_greater s (edge x) (All-head (λ x. edge_order s (edge x) ≡ Less) x ss h)) k
      by false k = k

  pub kept_by_start : (ss : List S) → AllPairs (λ x y. edge_order (edge x) (edge y) ≡ Less) ss → AreByStart (map edge (filter test ss))
  kept_by_start [] h = AllPairs-nil (λ s t. point_order s.a t.a ≢ Greater)
  kept_by_start (x ∷ ss) h = by (test x) (kept_by_start ss (AllPairs-tail (λ x y. edge_order (edge x) (edge y) ≡ Less) x ss h))
    where
      by : (b : Bool) → AreByStart (map edge (filter test ss)) → AreByStart (map edge (cond b (x ∷ filter test ss) (filter test ss)))
      by true k = AllPairs-cons (λ s t. point_order s.a t.a ≢ Greater) (edge x) (map edge (filter test ss)) (kept_after (edge x) ss (AllPairs-head (λ x y. edge_order (edge x) (edge y) ≡ Less) x ss h)) k
      by false k = k

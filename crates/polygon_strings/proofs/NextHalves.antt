-- On each half of a string map follows a half: the one that is met first on turning through its filled side.
use Rattle.std.proofs.Common.{◌≡◌, ◌≢◌, ◌⊎◌, inl, inr, ℕ, zero, suc, ◌+◌, ◌*◌, ◌<◌, nat_lt, ◌==◌, int_lt, ℤ, ◌+ℤ◌, ◌-ℤ◌, neg_ℤ, ◌≤ℤ◌, Bool, true, false, not, cond, ◌&&◌, ◌||◌, List, [], ◌∷◌, ◌++◌, map, filter, Option, Some, None, pos, ◌<ℤ◌, append_assoc, append-nil, refl, sym, ap, ◌∙◌, subst, Less, arith}
use Rattle.std.specs.List.{flat_map}
use Rattle.std.proofs.lemmas.Bool.{false≢true}
use Rattle.std.proofs.lemmas.Int.{ints}
use Rattle.std.proofs.lemmas.List.Sorted.{IsPermutation-sym}
use Rattle.std.specs.Ordering.{is_eq}
use Rattle.plane_base.specs.Plane.{Point, Edge, turn, is_before, point_order, edge_order}
use Rattle.plane_base.specs.Counts.{Count, Entry}
use Rattle.plane_base.specs.Segments.{angle_order}
use Rattle.plane_base.specs.Windings.{winding}
use Rattle.plane_base.specs.Regions.{FillRule, Subject, region}
use Rattle.plane_base.proofs.Facts.Numbers.Products.{square_not_negative}
use Rattle.plane_base.proofs.Facts.Points.Turns.{turn_swap_last, turn_end_twice}
use Rattle.plane_base.proofs.Facts.Points.Orders.{point_less, before_is_less, int_less, less_apart, edge_total}
use Rattle.segment_split.specs.Strings.{StringCount}
use Rattle.segment_arrangement.specs.EdgeSides.{bit, lower_side, upper_side, differ, is_boundary}
use Rattle.segment_arrangement.specs.Fills.{has}
use Rattle.segment_arrangement.specs.FanLaws.{whole, starts_at}
use Rattle.segment_arrangement.specs.Graphs.{Link}
use Rattle.segment_arrangement.specs.Rings.{ends_at, right_side, left_side, Leads, IsRing, PointsHaveRings, SectorsAreWhole}
use Rattle.segment_arrangement.specs.SideLaws.{IsArrangement}
use Rattle.segment_arrangement.specs.Strings.{subject_alone, subject_of, string_fill, string_link_of, all_string_links, has_line}
use Rattle.segment_arrangement.proofs.Facts.ColumnPlaces.{lt_holds, lt_fails, lt_tells_not}
use Rattle.contour_walk.specs.Walks.{Border, same_point, same_edge, touches, far_end, is_same, next_point}
use Rattle.contour_walk.specs.WalkLaws.{step_along}
use Rattle.contour_walk.specs.Turning.{first_by_turn, met_first, half_turns, is_met_before, turned, reach}
use Rattle.contour_walk.proofs.Facts.Walks.Turns.{Apart, apart_back, Turns, turns_on, turns_otherwise, not_met, Has}
use Rattle.contour_walk.proofs.Facts.Walks.Rings.{Each, Pairs, Triples, each_weaker, each_append, each_from_has, each_has, pairs_weaker, has_append_left, has_append_right}
use Rattle.contour_walk.proofs.Facts.Walks.Fans.{pairs_with, triples_filter, After, Before, ToLeft, apart_round, turns_round}
use Rattle.contour_walk.proofs.Walks.Members.{each_from_all, pairs_from_all, contains_from_has, has_from_contains, has_permutation, has_append_cases, has_map, has_map_from}
use Rattle.contour_walk.proofs.Walks.Links.{same_point_is, same_point_itself, same_edge_is, same_edge_itself, filter_has, filter_from, pairs_filter, joins_far}
use Rattle.polygon_strings.specs.Slices.{is_parting, has_half, halves_of_link, halves}
use Rattle.polygon_strings.specs.SliceLaws.{IsFollowedBy, HalvesGoOn}

-- ---- lists

pub has_flat_map : {A B : Type 0} (f : A → List B) (xs : List A) (x : A) (y : B) → Has xs x → Has (f x) y → Has (flat_map f xs) y
has_flat_map f [] x y h k = absurd h
has_flat_map f (z ∷ xs) x y (inl e) k = has_append_left (f z) (flat_map f xs) y (subst (λ w. Has (f w) y) (sym e) k)
has_flat_map f (z ∷ xs) x y (inr h) k = has_append_right (f z) (flat_map f xs) y (has_flat_map f xs x y h k)

pub has_flat_map_from : {A B : Type 0} (f : A → List B) (xs : List A) (y : B) → Has (flat_map f xs) y → (x : A) × Has xs x × Has (f x) y
has_flat_map_from f [] y h = absurd h
has_flat_map_from f (x ∷ xs) y h = by (has_flat_map_from f xs y) (has_append_cases (f x) (flat_map f xs) y h)
  where
    by : (Has (flat_map f xs) y → (z : _) × Has xs z × Has (f z) y) → Has (f x) y ⊎ Has (flat_map f xs) y → (z : _) × Has (x ∷ xs) z × Has (f z) y
    by more (inl k) = (x, inl refl, k)
    by more (inr k) = let r = more k in (r.0, inr r.1, r.2)

pairs_push : {A : Type 0} (R : A → A → Type 0) (xs : List A) (x : A) → Pairs R xs → Each (λ y. R y x) xs → Pairs R (xs ++ x ∷ [])
pairs_push R [] x h k = (tt, tt)
pairs_push R (y ∷ ys) x h k = (each_append (R y) ys (x ∷ []) h.0 (k.0, tt), pairs_push R ys x h.1 k.1)

triples_push : {A : Type 0} (R : A → A → A → Type 0) (xs : List A) (x : A) → Triples R xs → Pairs (λ y z. R y z x) xs → Triples R (xs ++ x ∷ [])
triples_push R [] x h k = (tt, tt)
triples_push R (y ∷ ys) x h k = (pairs_push (R y) ys x h.0 k.0, triples_push R ys x h.1 k.1)

leads_append : {A W : Type 0} (right left : A → W) (from mid to : W) (xs ys : List A) → Leads right left from mid xs → Leads right left mid to ys → Leads right left from to (xs ++ ys)
leads_append right left from mid to [] ys h k = subst (λ z. Leads right left z to ys) (sym h) k
leads_append right left from mid to (x ∷ xs) ys h k = (h.0, leads_append right left (left x) mid to xs ys h.1 k)

each_of_map : {A B : Type 0} (f : A → B) (P : B → Type 0) (xs : List A) → Each P (map f xs) → Each (λ x. P (f x)) xs
each_of_map f P [] h = tt
each_of_map f P (x ∷ xs) h = (h.0, each_of_map f P xs h.1)

pairs_of_map : {A B : Type 0} (f : A → B) (R : B → B → Type 0) (xs : List A) → Pairs R (map f xs) → Pairs (λ x y. R (f x) (f y)) xs
pairs_of_map f R [] h = tt
pairs_of_map f R (x ∷ xs) h = (each_of_map f (R (f x)) xs h.0, pairs_of_map f R xs h.1)

pairs_two : {A : Type 0} (R : A → A → Type 0) → ((x y : A) → R x y → R y x) → (xs : List A) → Pairs R xs → (x y : A) → Has xs x → Has xs y → (x ≡ y) ⊎ R x y
pairs_two R back [] h x y k l = absurd k
pairs_two R back (z ∷ zs) h x y (inl e) (inl f) = inl (sym e ∙ f)
pairs_two R back (z ∷ zs) h x y (inl e) (inr l) = inr (subst (λ w. R w y) e (each_has (R z) zs y h.0 l))
pairs_two R back (z ∷ zs) h x y (inr k) (inl f) = inr (back y x (subst (λ w. R w x) f (each_has (R z) zs x h.0 k)))
pairs_two R back (z ∷ zs) h x y (inr k) (inr l) = pairs_two R back zs h.1 x y k l

-- where keys differ, those of one key are one
one_of_key : {A K : Type 0} (key : A → K) (xs : List A) → Pairs (λ x y. key x ≢ key y) xs → (x y : A) → Has xs x → Has xs y → key x ≡ key y → x ≡ y
one_of_key key [] h x y k l e = absurd k
one_of_key key (z ∷ xs) h x y (inl k) (inl l) e = sym k ∙ l
one_of_key key (z ∷ xs) h x y (inl k) (inr l) e = absurd (each_has (λ w. key z ≢ key w) xs y h.0 l (ap key k ∙ e))
one_of_key key (z ∷ xs) h x y (inr k) (inl l) e = absurd (each_has (λ w. key z ≢ key w) xs x h.0 k (ap key l ∙ sym e))
one_of_key key (z ∷ xs) h x y (inr k) (inr l) e = one_of_key key xs h.1 x y k l e

split_at : {A : Type 0} (xs : List A) (x : A) → Has xs x → (front : List A) × (back : List A) × (xs ≡ front ++ x ∷ back)
split_at [] x h = absurd h
split_at (y ∷ ys) x (inl e) = ([], ys, ap (λ z. z ∷ ys) e)
split_at (y ∷ ys) x (inr k) = let p = split_at ys x k in (y ∷ p.0, p.1, ap (λ l. y ∷ l) p.2)

-- the last of a list, if it has any
last_of : {A : Type 0} (xs : List A) → (xs ≡ []) ⊎ ((init : List A) × (x : A) × (xs ≡ init ++ x ∷ []))
last_of [] = inl refl
last_of (x ∷ xs) = by (last_of xs)
  where
    by : (xs ≡ []) ⊎ ((init : List _) × (y : _) × (xs ≡ init ++ y ∷ [])) → (x ∷ xs ≡ []) ⊎ ((init : List _) × (y : _) × (x ∷ xs ≡ init ++ y ∷ []))
    by (inl e) = inr ([], x, ap (λ l. x ∷ l) e)
    by (inr (init, y, e)) = inr (x ∷ init, y, ap (λ l. x ∷ l) e)

leads_split : {A W : Type 0} (right left : A → W) (from to : W) (xs ys : List A) → Leads right left from to (xs ++ ys) → (mid : W) × Leads right left from mid xs × Leads right left mid to ys
leads_split right left from to [] ys h = (from, refl, h)
leads_split right left from to (x ∷ xs) ys h = let r = leads_split right left (left x) to xs ys h.1 in (r.0, (h.0, r.1), r.2)

pairs_last : {A : Type 0} (R : A → A → Type 0) (xs : List A) (x : A) → Pairs R (xs ++ x ∷ []) → Each (λ y. R y x) xs
pairs_last R [] x h = tt
pairs_last R (y ∷ ys) x h = (each_has (R y) (ys ++ x ∷ []) x h.0 (has_append_right ys (x ∷ []) x (inl refl)), pairs_last R ys x h.1)

leads_last : {A W : Type 0} (right left : A → W) (from to : W) (xs : List A) (x : A) → Leads right left from to (xs ++ x ∷ []) → left x ≡ to
leads_last right left from to [] x h = h.1
leads_last right left from to (y ∷ xs) x h = leads_last right left (left y) to xs x h.1

-- ---- the first of a list that is met, where it may come again

module _ (c : Bool) (v a : Point) where
  abbrev pub IsMetFirst : Point → Point → Type 0
  IsMetFirst w r = (is_met_before c v a w r ≡ true) × (is_met_before c v a r w ≡ false)

  one_of_list : (ps : List Point) (r : Point) → first_by_turn c v a ps ≡ Some r → Has ps r
  one_of_list [] r e = absurd (cc)
  one_of_list (p ∷ ps) r e = by (λ q. one_of_list ps q) (first_by_turn c v a ps) refl e
    where
      some : {x y : Point} → Some x ≡ Some y → x ≡ y
      some h = cc

      by : ((q : Point) → first_by_turn c v a ps ≡ Some q → Has ps q) → (o : Option Point) → first_by_turn c v a ps ≡ o → Some (met_first c v a p o) ≡ Some r → Has (p ∷ ps) r
      by within None f g = inl (some g)
      by within (Some q) f g = either (is_met_before c v a q p) (some g)
        where
          either : (b : Bool) → cond b q p ≡ r → Has (p ∷ ps) r
          either true h = inr (within r (f ∙ ap Some h))
          either false h = inl h

  pub met_first_is : (w : Point) (ps : List Point) → Has ps w → ((r : Point) → Has ps r → (r ≡ w) ⊎ IsMetFirst w r) → first_by_turn c v a ps ≡ Some w
  met_first_is w [] here others = absurd here
  met_first_is w (p ∷ ps) (inl e) others = by (first_by_turn c v a ps) refl
    where
      by : (o : Option Point) → first_by_turn c v a ps ≡ o → Some (met_first c v a p o) ≡ Some w
      by None f = ap Some e
      by (Some q) f = found (others q (inr (one_of_list ps q f)))
        where
          found : (q ≡ w) ⊎ IsMetFirst w q → Some (cond (is_met_before c v a q p) q p) ≡ Some w
          found (inl g) = either (is_met_before c v a q p)
            where
              either : (b : Bool) → Some (cond b q p) ≡ Some w
              either true = ap Some g
              either false = ap Some e
          found (inr h) = ap (λ b. Some (cond b q p)) (ap (λ z. is_met_before c v a q z) e ∙ h.1) ∙ ap Some e
  met_first_is w (p ∷ ps) (inr here) others = ap (λ o. Some (met_first c v a p o)) (met_first_is w ps here (λ r k. others r (inr k))) ∙ found (others p (inl refl))
    where
      found : (p ≡ w) ⊎ IsMetFirst w p → Some (cond (is_met_before c v a w p) w p) ≡ Some w
      found (inl e) = either (is_met_before c v a w p)
        where
          either : (b : Bool) → Some (cond b w p) ≡ Some w
          either true = refl
          either false = ap Some e
      found (inr h) = ap (λ b. Some (cond b w p)) h.0

  turns_met : (w r : Point) → Turns c v a w r → IsMetFirst w r
  turns_met w r h = (h.met, not_met c v a w r h)

  -- where one turns from is met last
  half_less : (w : Point) → Apart v a w → half_turns c v a w < 4
  half_less w h = by (turned c v a w) (reach v a w) (λ e. h (level c e))
    where
      level : (c : Bool) → turned c v a w ≡ pos 0 → turn v a w ≡ pos 0
      level true e = negated _ _ (turn_swap_last v a w) e
        where
          negated : (y z : ℤ) → y ≡ neg_ℤ z → z ≡ pos 0 → y ≡ pos 0
          negated y z e f = omega (arith, ints)
      level false e = e

      by : (t d : ℤ) → (t ≡ pos 0 → d <ℤ pos 0) → cond (int_lt (pos 0) t) 1 (cond (int_lt t (pos 0)) 3 (cond (int_lt d (pos 0)) 2 4)) < 4
      by t d k = cases (int_lt (pos 0) t) (int_lt t (pos 0)) refl refl
        where
          cases : (b g : Bool) → int_lt (pos 0) t ≡ b → int_lt t (pos 0) ≡ g → cond b 1 (cond g 3 (cond (int_lt d (pos 0)) 2 4)) < 4
          cases true g e f = omega arith
          cases false true e f = omega arith
          cases false false e f = rw (lt_holds d (pos 0) (k (between (lt_tells_not (pos 0) t e) (lt_tells_not t (pos 0) f)))) (omega arith)
            where
              between : t ≤ℤ pos 0 → pos 0 ≤ℤ t → t ≡ pos 0
              between l m = omega (arith, ints)

  half_all : half_turns c v a a ≡ 4
  half_all = by (turned c v a a) (reach v a a) (level c) (sum _ _ (square_not_negative (a.x -ℤ v.x)) (square_not_negative (a.y -ℤ v.y)))
    where
      level : (c : Bool) → turned c v a a ≡ pos 0
      level true = turn_end_twice v a
      level false = turn_end_twice v a

      sum : (y z : ℤ) → pos 0 ≤ℤ y → pos 0 ≤ℤ z → pos 0 ≤ℤ (y +ℤ z)
      sum y z k l = omega (arith, ints)

      by : (t d : ℤ) → t ≡ pos 0 → pos 0 ≤ℤ d → ◌≡◌ {A = ℕ} (cond (int_lt (pos 0) t) 1 (cond (int_lt t (pos 0)) 3 (cond (int_lt d (pos 0)) 2 4))) 4
      by t d e l =
          let turned_half : ℤ → ℕ = λ z. cond (int_lt (pos 0) z) 1 (cond (int_lt z (pos 0)) 3 (cond (int_lt d (pos 0)) 2 4)) in
          let last_half : Bool → ℕ = λ b. cond b 2 4 in
          ap turned_half e ∙ ap last_half (lt_fails d (pos 0) l)

  rank_four : (k : ℕ) → k < 4 → (x y : Bool) → (nat_lt k 4 || ((k == 4) && x) ≡ true) × (nat_lt 4 k || ((4 == k) && y) ≡ false)
  rank_four zero l x y = (refl, refl)
  rank_four (suc zero) l x y = (refl, refl)
  rank_four (suc (suc zero)) l x y = (refl, refl)
  rank_four (suc (suc (suc zero))) l x y = (refl, refl)
  rank_four (suc (suc (suc (suc k)))) l x y = absurd (omega (arith, l))

  itself_last : (w : Point) → Apart v a w → IsMetFirst w a
  itself_last w h =
      let r = rank_four (half_turns c v a w) (half_less w h) (int_lt (pos 0) (turned c v w a)) (int_lt (pos 0) (turned c v a w)) in (
        ap (λ n. nat_lt (half_turns c v a w) n || ((half_turns c v a w == n) && int_lt (pos 0) (turned c v w a))) half_all ∙ r.0,
        ap (λ n. nat_lt n (half_turns c v a w) || ((n == half_turns c v a w) && int_lt (pos 0) (turned c v a w))) half_all ∙ r.1,
      )

  never_first : (b g d : Bool) → nat_lt 4 (cond b 1 (cond g 3 (cond d 2 4))) || ((4 == cond b 1 (cond g 3 (cond d 2 4))) && b) ≡ false
  never_first true g d = refl
  never_first false true d = refl
  never_first false false true = refl
  never_first false false false = refl

  pub itself_not_first : (w : Point) → is_met_before c v a a w ≡ false
  itself_not_first w =
      ap (λ n. nat_lt n (half_turns c v a w) || ((n == half_turns c v a w) && int_lt (pos 0) (turned c v a w))) half_all
      ∙ never_first (int_lt (pos 0) (turned c v a w)) (int_lt (turned c v a w) (pos 0)) (int_lt (reach v a w) (pos 0))

-- ---- fills

bits_tell : (upper lower forward back : Bool) → let fill : ℕ = (bit upper 1 + bit lower 2) + 4 * (cond forward 1 0 + cond back 2 0) in
    (has 1 fill ≡ upper) × (has 2 fill ≡ lower)
bits_tell true true true true = (refl, refl)
bits_tell true true true false = (refl, refl)
bits_tell true true false true = (refl, refl)
bits_tell true true false false = (refl, refl)
bits_tell true false true true = (refl, refl)
bits_tell true false true false = (refl, refl)
bits_tell true false false true = (refl, refl)
bits_tell true false false false = (refl, refl)
bits_tell false true true true = (refl, refl)
bits_tell false true true false = (refl, refl)
bits_tell false true false true = (refl, refl)
bits_tell false true false false = (refl, refl)
bits_tell false false true true = (refl, refl)
bits_tell false false true false = (refl, refl)
bits_tell false false false true = (refl, refl)
bits_tell false false false false = (refl, refl)

-- a link has the halves that its fill has
pub half_of_link : (l : Link) (above : Bool) → has_half above l.fill ≡ true → Has (halves_of_link l) (record { edge = l.edge; above = above })
half_of_link l above h = by above (has_half true l.fill) (has_half false l.fill) refl refl h
  where
    by : (above first second : Bool) → has_half true l.fill ≡ first → has_half false l.fill ≡ second → has_half above l.fill ≡ true
        → Has {A = Border} (cond first (record { edge = l.edge; above = true } ∷ []) [] ++ cond second (record { edge = l.edge; above = false } ∷ []) []) (record { edge = l.edge; above = above })
    by true true second e f h = inl refl
    by true false second e f h = absurd (false≢true (sym e ∙ h))
    by false true true e f h = inr (inl refl)
    by false false true e f h = inl refl
    by false first false e f h = absurd (false≢true (sym f ∙ h))

pub half_from_link : (l : Link) (b : Border) → Has (halves_of_link l) b → (b.edge ≡ l.edge) × (has_half b.above l.fill ≡ true)
half_from_link l b h = by (has_half true l.fill) (has_half false l.fill) refl refl h
  where
    first_is_it : ◌≡◌ {A = Border} (record { edge = l.edge; above = true }) b → has_half true l.fill ≡ true → (b.edge ≡ l.edge) × (has_half b.above l.fill ≡ true)
    first_is_it is f = (ap (λ (x : Border). x.edge) (sym is), subst (λ (x : Border). has_half x.above l.fill ≡ true) is f)

    second_is_it : ◌≡◌ {A = Border} (record { edge = l.edge; above = false }) b → has_half false l.fill ≡ true → (b.edge ≡ l.edge) × (has_half b.above l.fill ≡ true)
    second_is_it is f = (ap (λ (x : Border). x.edge) (sym is), subst (λ (x : Border). has_half x.above l.fill ≡ true) is f)

    by : (first second : Bool) → has_half true l.fill ≡ first → has_half false l.fill ≡ second
        → Has {A = Border} (cond first (record { edge = l.edge; above = true } ∷ []) [] ++ cond second (record { edge = l.edge; above = false } ∷ []) []) b → (b.edge ≡ l.edge) × (has_half b.above l.fill ≡ true)
    by true true e f (inl is) = first_is_it is e
    by true true e f (inr (inl is)) = second_is_it is f
    by true true e f (inr (inr h)) = absurd h
    by true false e f (inl is) = first_is_it is e
    by true false e f (inr h) = absurd h
    by false true e f (inl is) = second_is_it is f
    by false true e f (inr h) = absurd h
    by false false e f h = absurd h

-- ---- the halves of a string map

module _ (fill : FillRule) (es : List (Entry StringCount)) (arranged : IsArrangement (subject_of es)) where
  abbrev pub subject : List (Entry Count)
  subject = subject_of es

  abbrev pub seen : Entry StringCount → Entry Count
  seen e = record { edge = e.edge; count = subject_alone e.count }

  abbrev pub fill_at : Entry StringCount → ℕ
  fill_at e = string_fill fill (lower_side subject e.edge) e.count

  -- the subject is on the side above an edge, or on that below it
  abbrev pub is_on : Bool → Entry Count → Bool
  is_on above s = region fill Subject (cond above (upper_side subject s) (lower_side subject s.edge))

  pub fill_tells : (above : Bool) (e : Entry StringCount) → has (cond above 1 2) (fill_at e) ≡ is_on above (seen e)
  fill_tells true e = (bits_tell (is_on true (seen e)) (is_on false (seen e)) e.count.forward e.count.back).0
  fill_tells false e = (bits_tell (is_on true (seen e)) (is_on false (seen e)) e.count.forward e.count.back).1

  both : (b c : Bool) → b && c ≡ true → (b ≡ true) × (c ≡ true)
  both true c h = (refl, h)
  both false c h = absurd (false≢true h)

  and_true : (b c : Bool) → b ≡ true → c ≡ true → b && c ≡ true
  and_true true c e f = f
  and_true false c e f = absurd (false≢true e)

  pub half_has : (e : Entry StringCount) (above : Bool) → Has es e → is_parting (fill_at e) ≡ true → is_on above (seen e) ≡ true → Has (halves fill es) (record { edge = e.edge; above = above })
  half_has e above here parting filled =
      has_flat_map halves_of_link (all_string_links fill es) (string_link_of fill es e) (record { edge = e.edge; above = above }) (has_map (string_link_of fill es) es e here)
      (half_of_link (string_link_of fill es e) above (and_true (is_parting (fill_at e)) (has (cond above 1 2) (fill_at e)) parting (fill_tells above e ∙ filled)))

  pub half_from : (b : Border) → Has (halves fill es) b → (e : Entry StringCount) × Has es e × (b.edge ≡ e.edge) × (is_parting (fill_at e) ≡ true) × (is_on b.above (seen e) ≡ true)
  half_from b h = by (has_flat_map_from halves_of_link (all_string_links fill es) b h)
    where
      by : (l : Link) × Has (all_string_links fill es) l × Has (halves_of_link l) b → (e : Entry StringCount) × Has es e × (b.edge ≡ e.edge) × (is_parting (fill_at e) ≡ true) × (is_on b.above (seen e) ≡ true)
      by (l, here, there) = of_entry (has_map_from (string_link_of fill es) es l here)
        where
          of_entry : (e : Entry StringCount) × Has es e × (string_link_of fill es e ≡ l) → (e : Entry StringCount) × Has es e × (b.edge ≡ e.edge) × (is_parting (fill_at e) ≡ true) × (is_on b.above (seen e) ≡ true)
          of_entry (e, is_in, is) =
              let told = half_from_link (string_link_of fill es e) b (subst (λ m. Has (halves_of_link m) b) (sym is) there) in
              let parts = both (is_parting (fill_at e)) (has (cond b.above 1 2) (fill_at e)) told.1 in
              (e, is_in, told.0, parts.0, sym (fill_tells b.above e) ∙ parts.1)

  -- ---- which edges part, seen from the subject

  abbrev pub has_edge : List Border → Edge → Bool
  has_edge [] s = false
  has_edge (b ∷ bs) s = same_edge b.edge s || has_edge bs s

  edge_has : (bs : List Border) (b : Border) → Has bs b → has_edge bs b.edge ≡ true
  edge_has [] b h = absurd h
  edge_has (c ∷ bs) b (inl e) = ap (λ t. t || has_edge bs b.edge) (same_edge_itself c.edge b.edge (ap (λ (x : Border). x.edge) e))
  edge_has (c ∷ bs) b (inr h) = or_second (same_edge c.edge b.edge) (has_edge bs b.edge) (edge_has bs b h)
    where
      or_second : (x y : Bool) → y ≡ true → x || y ≡ true
      or_second true y e = refl
      or_second false y e = e

  edge_from : (bs : List Border) (s : Edge) → has_edge bs s ≡ true → (b : Border) × Has bs b × (b.edge ≡ s)
  edge_from [] s h = absurd (false≢true h)
  edge_from (c ∷ bs) s h = by (edge_from bs s) (same_edge c.edge s) refl h
    where
      by : (has_edge bs s ≡ true → (b : Border) × Has bs b × (b.edge ≡ s)) → (t : Bool) → same_edge c.edge s ≡ t → t || has_edge bs s ≡ true → (b : Border) × Has (c ∷ bs) b × (b.edge ≡ s)
      by more true e h = (c, inl refl, same_edge_is c.edge s e)
      by more false e h = let r = more h in (r.0, inr r.1, r.2)

  abbrev pub parts : Entry Count → Bool
  parts s = has_edge (halves fill es) s.edge

  -- an edge of the subject is one of the string map's
  subject_has : (s : Entry Count) → Has subject s → (e : Entry StringCount) × Has es e × (seen e ≡ s)
  subject_has s h = has_map_from seen es s h

  one_edge : (e f : Entry StringCount) → Has es e → Has es f → e.edge ≡ f.edge → e ≡ f
  one_edge e f h k same = one_of_key (λ (x : Entry StringCount). x.edge) es distinct e f h k same
    where
      distinct : Pairs (λ (x y : Entry StringCount). x.edge ≢ y.edge) es
      distinct =
          pairs_weaker (λ x y. edge_order x.edge y.edge ≡ Less) (λ x y. x.edge ≢ y.edge) (λ x y l. less_apart edge_total x.edge y.edge l) es
          (pairs_of_map seen (λ (s t : Entry Count). edge_order s.edge t.edge ≡ Less) es (pairs_from_all (λ (s t : Entry Count). edge_order s.edge t.edge ≡ Less) subject arranged.rising))

  -- the half on a filled side of an edge that parts
  pub half_of_part : (s : Entry Count) (above : Bool) → Has subject s → parts s ≡ true → is_on above s ≡ true → Has (halves fill es) (record { edge = s.edge; above = above })
  half_of_part s above here part filled = by (subject_has s here) (edge_from (halves fill es) s.edge part)
    where
      by : (e : Entry StringCount) × Has es e × (seen e ≡ s) → (b : Border) × Has (halves fill es) b × (b.edge ≡ s.edge) → Has (halves fill es) (record { edge = s.edge; above = above })
      by (e, is_in, is) (b, there, same) = of_half (half_from b there)
        where
          of_half : (f : Entry StringCount) × Has es f × (b.edge ≡ f.edge) × (is_parting (fill_at f) ≡ true) × (is_on b.above (seen f) ≡ true) → Has (halves fill es) (record { edge = s.edge; above = above })
          of_half (f, f_in, f_edge, parting, side) =
              let same_entry : f ≡ e = one_edge f e f_in is_in (sym f_edge ∙ (same ∙ ap (λ (t : Entry Count). t.edge) (sym is))) in
              subst (λ (t : Entry Count). Has (halves fill es) (record { edge = t.edge; above = above })) is
              (half_has e above is_in (subst (λ g. is_parting (fill_at g) ≡ true) same_entry parting) (ap (is_on above) is ∙ filled))

  -- what bounds the subject parts
  pub bounds_part : (s : Entry Count) → Has subject s → is_boundary fill Subject subject s ≡ true → parts s ≡ true
  bounds_part s here bounds = by (subject_has s here)
    where
      by : (e : Entry StringCount) × Has es e × (seen e ≡ s) → parts s ≡ true
      by (e, is_in, is) = side (is_on false s) (is_on true s) refl refl bounds
        where
          parting : is_parting (fill_at e) ≡ true
          parting = ap₂_differ ∙ or_first
            where
              ap₂_differ : is_parting (fill_at e) ≡ differ (is_on false (seen e)) (is_on true (seen e)) || has_line (fill_at e)
              ap₂_differ = λ i. differ (fill_tells false e i) (fill_tells true e i) || has_line (fill_at e)

              or_first : differ (is_on false (seen e)) (is_on true (seen e)) || has_line (fill_at e) ≡ true
              or_first = ap (λ b. b || has_line (fill_at e)) (ap (λ t. differ (is_on false t) (is_on true t)) is ∙ bounds)

          found : (above : Bool) → is_on above s ≡ true → parts s ≡ true
          found above filled =
              subst (λ (t : Entry Count). parts t ≡ true) is
              (edge_has (halves fill es) (record { edge = e.edge; above = above }) (half_has e above is_in parting (ap (is_on above) is ∙ filled)))

          side : (lower upper : Bool) → is_on false s ≡ lower → is_on true s ≡ upper → differ lower upper ≡ true → parts s ≡ true
          side true upper e f h = found false e
          side false true e f h = found true f
          side false false e f h = absurd (false≢true h)

  -- ---- round a node

  module _ (v : Point) (starts ends : List (Entry Count)) (ring : IsRing subject v starts ends) (whole_sectors : SectorsAreWhole) where
    abbrev far : Entry Count → Point
    far s = far_end v s.edge

    abbrev IsStart : Entry Count → Type 0
    IsStart s = (s.edge.a ≡ v) × (is_before s.edge.a s.edge.b ≡ true) × (far s ≡ s.edge.b)

    abbrev IsEnd : Entry Count → Type 0
    IsEnd s = (s.edge.b ≡ v) × (is_before s.edge.a s.edge.b ≡ true) × (far s ≡ s.edge.a)

    directed_of : (s : Entry Count) → Has subject s → is_before s.edge.a s.edge.b ≡ true
    directed_of s here = each_has (λ (t : Entry Count). is_before t.edge.a t.edge.b ≡ true) subject s (each_from_all (λ (t : Entry Count). is_before t.edge.a t.edge.b ≡ true) subject arranged.directed) here

    start_from : (s : Entry Count) → Has starts s → Has subject s × (starts_at v s ≡ true)
    start_from s h = filter_from (starts_at v) subject s (has_permutation starts (filter (starts_at v) subject) s (IsPermutation-sym (filter (starts_at v) subject) starts ring.starts_in_order.all) h)

    end_from : (s : Entry Count) → Has ends s → Has subject s × (ends_at v s ≡ true)
    end_from s h = filter_from (ends_at v) subject s (has_permutation ends (filter (ends_at v) subject) s (IsPermutation-sym (filter (ends_at v) subject) ends ring.all_ends) h)

    abbrev border : Entry Count → Border
    border s = record { edge = s.edge; above = true }

    each_start : Each IsStart starts
    each_start = each_from_has IsStart starts (λ s h. by s (start_from s h))
      where
        by : (s : Entry Count) → Has subject s × (starts_at v s ≡ true) → IsStart s
        by s k =
            let at : s.edge.a ≡ v = same_point_is s.edge.a v k.1 in
            (at, directed_of s k.0, (joins_far (border s) v s.edge.b (directed_of s k.0) (inl (at, refl))).1)

    each_end : Each IsEnd ends
    each_end = each_from_has IsEnd ends (λ s h. by s (end_from s h))
      where
        by : (s : Entry Count) → Has subject s × (ends_at v s ≡ true) → IsEnd s
        by s k =
            let at : s.edge.b ≡ v = same_point_is s.edge.b v k.1 in
            (at, directed_of s k.0, (joins_far (border s) v s.edge.a (directed_of s k.0) (inr (at, refl))).1)

    after_start : (s : Entry Count) → IsStart s → After v (far s)
    after_start s (at, directed, is) = by (point_less v (far s) (before_is_less v (far s) (ap (λ (t : Edge). is_before t.a t.b) (λ i. record { a = sym at i; b = is i }) ∙ directed)))
      where
        by : {p : Point} → (v.x <ℤ p.x) ⊎ ((v.x ≡ p.x) × (v.y <ℤ p.y)) → After v p
        by (inl l) = inl (omega (arith, ints))
        by (inr l) = inr (omega (arith, ints, l.0), omega (arith, ints, l.1))

    before_end : (s : Entry Count) → IsEnd s → Before v (far s)
    before_end s (at, directed, is) = by (point_less (far s) v (before_is_less (far s) v (ap (λ (t : Edge). is_before t.a t.b) (λ i. record { a = is i; b = sym at i }) ∙ directed)))
      where
        by : {p : Point} → (p.x <ℤ v.x) ⊎ ((p.x ≡ v.x) × (p.y <ℤ v.y)) → Before v p
        by (inl l) = inl (omega (arith, ints))
        by (inr l) = inr (omega (arith, ints, l.0), omega (arith, ints, l.1))

    starts_rise : Pairs (λ s t. ToLeft v (far s) (far t)) starts
    starts_rise =
        pairs_weaker (λ s t. IsStart s × IsStart t × (angle_order s.edge t.edge ≡ Less)) (λ s t. ToLeft v (far s) (far t))
        (λ s t h. subst (λ z. pos 0 <ℤ z) (moved s t h.0 h.1) (int_less (pos 0) (turn s.edge.a s.edge.b t.edge.b) h.2)) starts
        (pairs_with IsStart (λ s t. angle_order s.edge t.edge ≡ Less) starts each_start (pairs_from_all (λ s t. angle_order s.edge t.edge ≡ Less) starts ring.starts_in_order.rising))
      where
        moved : (s t : Entry Count) → IsStart s → IsStart t → turn s.edge.a s.edge.b t.edge.b ≡ turn v (far s) (far t)
        moved s t h k = λ i. turn (h.0 i) (sym h.2 i) (sym k.2 i)

    ends_rise : Pairs (λ s t. ToLeft v (far s) (far t)) ends
    ends_rise =
        pairs_weaker (λ s t. IsEnd s × IsEnd t × (pos 0 <ℤ turn v s.edge.a t.edge.a)) (λ s t. ToLeft v (far s) (far t))
        (λ s t h. subst (λ z. pos 0 <ℤ z) (moved s t h.0 h.1) h.2) ends
        (pairs_with IsEnd (λ s t. pos 0 <ℤ turn v s.edge.a t.edge.a) ends each_end (pairs_from_all (λ s t. pos 0 <ℤ turn v s.edge.a t.edge.a) ends ring.ends_in_order))
      where
        moved : (s t : Entry Count) → IsEnd s → IsEnd t → turn v s.edge.a t.edge.a ≡ turn v (far s) (far t)
        moved s t h k = λ i. turn v (sym h.2 i) (sym k.2 i)

    -- the edges at v that part, counterclockwise
    abbrev parting : List (Entry Count)
    parting = filter parts (starts ++ ends)

    parting_turn : Triples (λ r s t. Turns false v (far r) (far s) (far t)) parting
    parting_turn =
        triples_filter parts (λ r s t. Turns false v (far r) (far s) (far t)) (pairs_filter parts) (starts ++ ends)
        (turns_round v far starts ends (each_weaker IsStart (λ s. After v (far s)) after_start starts each_start) (each_weaker IsEnd (λ s. Before v (far s)) before_end ends each_end) starts_rise ends_rise)

    abbrev on_right : Entry Count → Bool
    on_right s = region fill Subject (right_side subject v s)

    abbrev on_left : Entry Count → Bool
    on_left s = region fill Subject (left_side subject v s)

    abbrev round : Bool
    round = region fill Subject (winding subject (whole v))

    leads : Leads on_right on_left round round parting
    leads = whole_sectors fill Subject subject starts ends v parts arranged ring (λ s here bounds. bounds_part s (has_from_contains subject s here) bounds)

    parting_apart : Pairs (λ s t. Apart v (far s) (far t)) parting
    parting_apart =
        pairs_filter parts (λ s t. Apart v (far s) (far t)) (starts ++ ends)
        (apart_round v far starts ends (each_weaker IsStart (λ s. After v (far s)) after_start starts each_start) (each_weaker IsEnd (λ s. Before v (far s)) before_end ends each_end) starts_rise ends_rise)

    -- ---- the same from one of them on

    record IsRound (mid : Bool) (list : List (Entry Count)) : Type 0 where
      turn_on : Triples (λ r s t. Turns false v (far r) (far s) (far t)) list
      apart : Pairs (λ s t. Apart v (far s) (far t)) list
      lead : Leads on_right on_left mid mid list
      all : (s : Entry Count) → Has parting s → Has list s
      none : (s : Entry Count) → Has list s → Has parting s

    rotated : (front : List (Entry Count)) (s : Entry Count) (back : List (Entry Count)) (mid : Bool) → IsRound mid (front ++ s ∷ back) → (mid' : Bool) × IsRound mid' (s ∷ back ++ front)
    rotated [] s back mid h = (mid, subst (IsRound mid) (ap (λ l. s ∷ l) (sym (append-nil back))) h)
    rotated (x ∷ front) s back mid h = by (rotated front s (back ++ x ∷ []) (on_left x) (subst (IsRound (on_left x)) (append_assoc front (s ∷ back) (x ∷ [])) once))
      where
        moved : (t : Entry Count) → Has (x ∷ front ++ s ∷ back) t → Has ((front ++ s ∷ back) ++ x ∷ []) t
        moved t (inl e) = has_append_right (front ++ s ∷ back) (x ∷ []) t (inl e)
        moved t (inr k) = has_append_left (front ++ s ∷ back) (x ∷ []) t k

        back_moved : (t : Entry Count) → Has (front ++ s ∷ back) t ⊎ Has (x ∷ []) t → Has (x ∷ front ++ s ∷ back) t
        back_moved t (inl k) = inr k
        back_moved t (inr (inl e)) = inl e
        back_moved t (inr (inr k)) = absurd k

        once : IsRound (on_left x) ((front ++ s ∷ back) ++ x ∷ [])
        once = record {
          turn_on =
              triples_push (λ r s t. Turns false v (far r) (far s) (far t)) (front ++ s ∷ back) x (h.turn_on).1
              (pairs_weaker (λ s t. Turns false v (far x) (far s) (far t)) (λ s t. Turns false v (far s) (far t) (far x)) (λ s t. turns_on false v (far x) (far s) (far t)) (front ++ s ∷ back) (h.turn_on).0);
          apart =
              pairs_push (λ s t. Apart v (far s) (far t)) (front ++ s ∷ back) x (h.apart).1
              (each_weaker (λ t. Apart v (far x) (far t)) (λ t. Apart v (far t) (far x)) (λ t. apart_back v (far x) (far t)) (front ++ s ∷ back) (h.apart).0);
          lead = leads_append on_right on_left (on_left x) mid (on_left x) (front ++ s ∷ back) (x ∷ []) (h.lead).1 ((h.lead).0, refl);
          all = λ t k. moved t (h.all t k);
          none = λ t k. h.none t (back_moved t (has_append_cases (front ++ s ∷ back) (x ∷ []) t k));
        }

        by : (mid' : Bool) × IsRound mid' (s ∷ (back ++ x ∷ []) ++ front) → (mid' : Bool) × IsRound mid' (s ∷ back ++ x ∷ front)
        by (mid', k) = (mid', subst (λ l. IsRound mid' (s ∷ l)) (append_assoc back (x ∷ []) front) k)

    round_from : (s : Entry Count) → Has parting s → (mid : Bool) × (rest : List (Entry Count)) × IsRound mid (s ∷ rest)
    round_from s here = by (split_at parting s here)
      where
        whole_round : IsRound round parting
        whole_round = record { turn_on = parting_turn; apart = parting_apart; lead = leads; all = λ t k. k; none = λ t k. k }

        by : (front : List (Entry Count)) × (back : List (Entry Count)) × (parting ≡ front ++ s ∷ back) → (mid : Bool) × (rest : List (Entry Count)) × IsRound mid (s ∷ rest)
        by (front, back, is) = let r = rotated front s back round (subst (IsRound round) is whole_round) in (r.0, back ++ front, r.1)

    -- the side through which one turns from an edge, and that at which one comes to the next
    abbrev turned_side : Bool → Entry Count → Bool
    turned_side clockwise s = cond clockwise (on_right s) (on_left s)

    abbrev met_side : Bool → Entry Count → Bool
    met_side clockwise s = cond clockwise (on_left s) (on_right s)

    -- the edge that is met first on turning from s
    record IsNext (clockwise : Bool) (s n : Entry Count) : Type 0 where
      here : Has parting n
      side : met_side clockwise n ≡ turned_side clockwise s
      first : (t : Entry Count) → Has parting t → (far t ≡ far n) ⊎ IsMetFirst clockwise v (far s) (far n) (far t)

    next_of : (clockwise : Bool) (s : Entry Count) → Has parting s → (n : Entry Count) × IsNext clockwise s n
    next_of true s here = by (round_from s here)
      where
        by : (mid : Bool) × (rest : List (Entry Count)) × IsRound mid (s ∷ rest) → (n : Entry Count) × IsNext true s n
        by (mid, rest, r) = either (last_of rest)
          where
            either : (rest ≡ []) ⊎ ((init : List (Entry Count)) × (x : Entry Count) × (rest ≡ init ++ x ∷ [])) → (n : Entry Count) × IsNext true s n
            either (inl alone) =
                let r' : IsRound mid (s ∷ []) = subst (λ l. IsRound mid (s ∷ l)) alone r in (
                  s,
                  record {
                    here = here;
                    side = (r'.lead).1 ∙ sym (r'.lead).0;
                    first = λ t k. only t (r'.all t k);
                  },
                )
              where
                only : (t : Entry Count) → Has (s ∷ []) t → (far t ≡ far s) ⊎ IsMetFirst true v (far s) (far s) (far t)
                only t (inl e) = inl (ap far (sym e))
                only t (inr k) = absurd k
            either (inr (init, x, is)) =
                let r' : IsRound mid (s ∷ init ++ x ∷ []) = subst (λ l. IsRound mid (s ∷ l)) is r in (
                  x,
                  record {
                    here = r'.none x (inr (has_append_right init (x ∷ []) x (inl refl)));
                    side = leads_last on_right on_left (on_left s) mid init x (r'.lead).1 ∙ sym (r'.lead).0;
                    first = λ t k. found r' t (r'.all t k);
                  },
                )
              where
                found : IsRound mid (s ∷ init ++ x ∷ []) → (t : Entry Count) → Has (s ∷ init ++ x ∷ []) t → (far t ≡ far x) ⊎ IsMetFirst true v (far s) (far x) (far t)
                found r' t (inl e) = inr (subst (λ z. IsMetFirst true v (far s) (far x) (far z)) e (itself_last true v (far s) (far x) (each_has (λ z. Apart v (far s) (far z)) (init ++ x ∷ []) x (r'.apart).0 (has_append_right init (x ∷ []) x (inl refl)))))
                found r' t (inr k) = among (has_append_cases init (x ∷ []) t k)
                  where
                    among : Has init t ⊎ Has (x ∷ []) t → (far t ≡ far x) ⊎ IsMetFirst true v (far s) (far x) (far t)
                    among (inl h) =
                        inr (turns_met true v (far s) (far x) (far t)
                        (turns_otherwise false v (far s) (far t) (far x) (each_has (λ z. Turns false v (far s) (far z) (far x)) init t (pairs_last (λ y z. Turns false v (far s) (far y) (far z)) init x (r'.turn_on).0) h)))
                    among (inr (inl e)) = inl (ap far (sym e))
                    among (inr (inr h)) = absurd h
    next_of false s here = by (round_from s here)
      where
        by : (mid : Bool) × (rest : List (Entry Count)) × IsRound mid (s ∷ rest) → (n : Entry Count) × IsNext false s n
        by (mid, [], r) = (
          s,
          record {
            here = here;
            side = (r.lead).0 ∙ sym (r.lead).1;
            first = λ t k. only t (r.all t k);
          },
        )
          where
            only : (t : Entry Count) → Has (s ∷ []) t → (far t ≡ far s) ⊎ IsMetFirst false v (far s) (far s) (far t)
            only t (inl e) = inl (ap far (sym e))
            only t (inr k) = absurd k
        by (mid, y ∷ rest, r) = (
          y,
          record {
            here = r.none y (inr (inl refl));
            side = ((r.lead).1).0;
            first = λ t k. found t (r.all t k);
          },
        )
          where
            found : (t : Entry Count) → Has (s ∷ y ∷ rest) t → (far t ≡ far y) ⊎ IsMetFirst false v (far s) (far y) (far t)
            found t (inl e) = inr (subst (λ z. IsMetFirst false v (far s) (far y) (far z)) e (itself_last false v (far s) (far y) ((r.apart).0).0))
            found t (inr (inl e)) = inl (ap far (sym e))
            found t (inr (inr k)) = inr (turns_met false v (far s) (far y) (far t) (each_has (λ z. Turns false v (far s) (far y) (far z)) rest t ((r.turn_on).0).0 k))

    -- ---- halves at v

    in_starts : (s : Entry Count) → Has subject s → s.edge.a ≡ v → Has starts s
    in_starts s here at = has_permutation (filter (starts_at v) subject) starts s ring.starts_in_order.all (filter_has (starts_at v) subject s here (same_point_itself s.edge.a v at))

    in_ends : (s : Entry Count) → Has subject s → s.edge.b ≡ v → Has ends s
    in_ends s here at = has_permutation (filter (ends_at v) subject) ends s ring.all_ends (filter_has (ends_at v) subject s here (same_point_itself s.edge.b v at))

    not_starting : (s : Entry Count) → Has subject s → s.edge.b ≡ v → starts_at v s ≡ false
    not_starting s here at = ap is_eq (ap (λ p. point_order s.edge.a p) (sym at) ∙ before_is_less s.edge.a s.edge.b (directed_of s here))

    part_has : (s : Entry Count) → Has subject s → parts s ≡ true → (s.edge.a ≡ v) ⊎ (s.edge.b ≡ v) → Has parting s
    part_has s here part (inl at) = filter_has parts (starts ++ ends) s (has_append_left starts ends s (in_starts s here at)) part
    part_has s here part (inr at) = filter_has parts (starts ++ ends) s (has_append_right starts ends s (in_ends s here at)) part

    touching : (s : Edge) → touches v s ≡ true → (s.a ≡ v) ⊎ (s.b ≡ v)
    touching s h = by (same_point s.a v) refl h
      where
        by : (t : Bool) → same_point s.a v ≡ t → t || same_point s.b v ≡ true → (s.a ≡ v) ⊎ (s.b ≡ v)
        by true e h = inl (same_point_is s.a v e)
        by false e h = inr (same_point_is s.b v h)

    -- an edge that parts and the sides of the subject at it
    half_part : (b : Border) → Has (halves fill es) b → (s : Entry Count) × Has subject s × (b.edge ≡ s.edge) × (parts s ≡ true) × (is_on b.above s ≡ true)
    half_part b h = by (half_from b h)
      where
        by : (e : Entry StringCount) × Has es e × (b.edge ≡ e.edge) × (is_parting (fill_at e) ≡ true) × (is_on b.above (seen e) ≡ true)
            → (s : Entry Count) × Has subject s × (b.edge ≡ s.edge) × (parts s ≡ true) × (is_on b.above s ≡ true)
        by (e, is_in, same, parts_it, filled) = (seen e, has_map seen es e is_in, same, ap (has_edge (halves fill es)) (sym same) ∙ edge_has (halves fill es) b h, filled)

    -- what is on the side through which one turns, from the side of the half by which one came
    came : (output : Bool) (s : Entry Count) (above starting : Bool) → starts_at v s ≡ starting → above ≡ cond starting output (not output) → is_on above s ≡ true → turned_side (not output) s ≡ true
    came false s above true e f h = ap (λ b. region fill Subject (cond b (lower_side subject s.edge) (upper_side subject s))) e ∙ (ap (λ b. is_on b s) (sym f) ∙ h)
    came false s above false e f h = ap (λ b. region fill Subject (cond b (lower_side subject s.edge) (upper_side subject s))) e ∙ (ap (λ b. is_on b s) (sym f) ∙ h)
    came true s above true e f h = ap (λ b. region fill Subject (cond b (upper_side subject s) (lower_side subject s.edge))) e ∙ (ap (λ b. is_on b s) (sym f) ∙ h)
    came true s above false e f h = ap (λ b. region fill Subject (cond b (upper_side subject s) (lower_side subject s.edge))) e ∙ (ap (λ b. is_on b s) (sym f) ∙ h)

    -- the side of the half by which one leaves
    leaves : (output : Bool) (n : Entry Count) (starting : Bool) → starts_at v n ≡ starting → met_side (not output) n ≡ true → is_on (cond starting (not output) output) n ≡ true
    leaves false n true e h = ap (λ b. region fill Subject (cond b (upper_side subject n) (lower_side subject n.edge))) (sym e) ∙ h
    leaves false n false e h = ap (λ b. region fill Subject (cond b (upper_side subject n) (lower_side subject n.edge))) (sym e) ∙ h
    leaves true n true e h = ap (λ b. region fill Subject (cond b (lower_side subject n.edge) (upper_side subject n))) (sym e) ∙ h
    leaves true n false e h = ap (λ b. region fill Subject (cond b (lower_side subject n.edge) (upper_side subject n))) (sym e) ∙ h

    -- the other ends of the halves at v
    abbrev pub far_points : List Point
    far_points = map (λ (l : Border). far_end v l.edge) (filter (λ (l : Border). touches v l.edge) (halves fill es))

    pub record IsNextHalf (output : Bool) (u : Point) (w : Point) (k : Border) : Type 0 where
      pub here : Has (halves fill es) k
      pub step : step_along output k ≡ record { a = v; b = w }
      pub met : next_point (not output) (halves fill es) v u ≡ Some w
      pub first : (r : Point) → Has far_points r → (r ≡ w) ⊎ IsMetFirst (not output) v u w r

    -- the half along an edge that was met
    leaving_half : (output : Bool) (n : Entry Count) → Has subject n → parts n ≡ true → (starting : Bool) → starts_at v n ≡ starting → far n ≡ cond starting n.edge.b n.edge.a → cond starting n.edge.a n.edge.b ≡ v
        → met_side (not output) n ≡ true → (k : Border) × Has (halves fill es) k × (k.edge ≡ n.edge) × (step_along output k ≡ record { a = v; b = far n })
    leaving_half output n here part starting e is at met = (
      record { edge = n.edge; above = cond starting (not output) output },
      half_of_part n (cond starting (not output) output) here part (leaves output n starting e met),
      refl,
      along starting output is at,
    )
      where
        along : (starting output : Bool) → far n ≡ cond starting n.edge.b n.edge.a → cond starting n.edge.a n.edge.b ≡ v
            → cond (is_same (cond starting (not output) output) output) (record { a = n.edge.b; b = n.edge.a }) n.edge ≡ record { a = v; b = far n }
        along true true is at = λ i. record { a = at i; b = sym is i }
        along true false is at = λ i. record { a = at i; b = sym is i }
        along false true is at = λ i. record { a = at i; b = sym is i }
        along false false is at = λ i. record { a = at i; b = sym is i }

    far_point_of : (r : Point) → Has far_points r → (t : Entry Count) × Has parting t × (far t ≡ r)
    far_point_of r h = by (has_map_from (λ (l : Border). far_end v l.edge) (filter (λ (l : Border). touches v l.edge) (halves fill es)) r h)
      where
        by : (l : Border) × Has (filter (λ (l : Border). touches v l.edge) (halves fill es)) l × (far_end v l.edge ≡ r) → (t : Entry Count) × Has parting t × (far t ≡ r)
        by (l, here, is) = of_half (filter_from (λ (l : Border). touches v l.edge) (halves fill es) l here)
          where
            of_half : Has (halves fill es) l × (touches v l.edge ≡ true) → (t : Entry Count) × Has parting t × (far t ≡ r)
            of_half (l_in, touch) = of_part (half_part l l_in)
              where
                of_part : (s : Entry Count) × Has subject s × (l.edge ≡ s.edge) × (parts s ≡ true) × (is_on l.above s ≡ true) → (t : Entry Count) × Has parting t × (far t ≡ r)
                of_part (s, s_in, same, part, filled) = (s, part_has s s_in part (touching s.edge (ap (touches v) (sym same) ∙ touch)), ap (far_end v) (sym same) ∙ is)

    touched : (n : Entry Count) (starting : Bool) → cond starting n.edge.a n.edge.b ≡ v → touches v n.edge ≡ true
    touched n true at = ap (λ b. b || same_point n.edge.b v) (same_point_itself n.edge.a v at)
    touched n false at = or_second (same_point n.edge.a v) (same_point n.edge.b v) (same_point_itself n.edge.b v at)
      where
        or_second : (x y : Bool) → y ≡ true → x || y ≡ true
        or_second true y e = refl
        or_second false y e = e

    abbrev pub GoesOn : Bool → Point → Type 0
    GoesOn output u = (w : Point) × (k : Border) × IsNextHalf output u w k

    -- from an edge that was met
    by_next : (output : Bool) (s n : Entry Count) → IsNext (not output) s n → turned_side (not output) s ≡ true → Has subject n → parts n ≡ true → (starting : Bool) → starts_at v n ≡ starting
        → far n ≡ cond starting n.edge.b n.edge.a → cond starting n.edge.a n.edge.b ≡ v → GoesOn output (far s)
    by_next output s n next filled n_in part starting e is at = by (leaving_half output n n_in part starting e is at (next.side ∙ filled))
      where
        by : (k : Border) × Has (halves fill es) k × (k.edge ≡ n.edge) × (step_along output k ≡ record { a = v; b = far n }) → GoesOn output (far s)
        by (k, k_in, k_edge, k_step) = (
          far n,
          k,
          record {
            here = k_in;
            step = k_step;
            met =
                met_first_is (not output) v (far s) (far n) far_points
                (subst (Has far_points) (ap (far_end v) k_edge)
                (has_map (λ (l : Border). far_end v l.edge) (filter (λ (l : Border). touches v l.edge) (halves fill es)) k (filter_has (λ (l : Border). touches v l.edge) (halves fill es) k k_in (ap (touches v) k_edge ∙ touched n starting at))))
                (λ r h. others r (far_point_of r h));
            first = λ r h. others r (far_point_of r h);
          },
        )
          where
            others : (r : Point) → (t : Entry Count) × Has parting t × (far t ≡ r) → (r ≡ far n) ⊎ IsMetFirst (not output) v (far s) (far n) r
            others r (t, here, is) = either (next.first t here)
              where
                either : (far t ≡ far n) ⊎ IsMetFirst (not output) v (far s) (far n) (far t) → (r ≡ far n) ⊎ IsMetFirst (not output) v (far s) (far n) r
                either (inl e) = inl (sym is ∙ e)
                either (inr h) = inr (subst (IsMetFirst (not output) v (far s) (far n)) is h)

    goes_on : (output : Bool) (s : Entry Count) → Has parting s → turned_side (not output) s ≡ true → GoesOn output (far s)
    goes_on output s here filled = by (next_of (not output) s here)
      where
        by : (n : Entry Count) × IsNext (not output) s n → GoesOn output (far s)
        by (n, next) = placed (filter_from parts (starts ++ ends) n next.here)
          where
            placed : Has (starts ++ ends) n × (parts n ≡ true) → GoesOn output (far s)
            placed (in_ring, part) = either (has_append_cases starts ends n in_ring)
              where
                either : Has starts n ⊎ Has ends n → GoesOn output (far s)
                either (inl h) =
                    let f = start_from n h in
                    let is : IsStart n = each_has IsStart starts n each_start h in
                    by_next output s n next filled f.0 part true f.1 is.2 is.0
                either (inr h) =
                    let f = end_from n h in
                    let is : IsEnd n = each_has IsEnd ends n each_end h in
                    by_next output s n next filled f.0 part false (not_starting n f.0 is.0) is.2 is.0

    -- On each half that comes to v follows one that leaves it.
    pub next_half : (output : Bool) (b : Border) (u : Point) → Has (halves fill es) b → step_along output b ≡ record { a = u; b = v } → GoesOn output u
    next_half output b u h step = by (half_part b h)
      where
        by : (s : Entry Count) × Has subject s × (b.edge ≡ s.edge) × (parts s ≡ true) × (is_on b.above s ≡ true) → GoesOn output u
        by (s, s_in, same, part, filled) = placed (is_same b.above output) refl step
          where
            at_start : s.edge.a ≡ v → s.edge.b ≡ u → b.above ≡ output → GoesOn output u
            at_start at other above =
                let here : Has starts s = in_starts s s_in at in
                let is : IsStart s = each_has IsStart starts s each_start here in
                subst (GoesOn output) (is.2 ∙ other) (goes_on output s (part_has s s_in part (inl at)) (came output s b.above true (same_point_itself s.edge.a v at) above filled))

            at_end : s.edge.b ≡ v → s.edge.a ≡ u → b.above ≡ not output → GoesOn output u
            at_end at other above =
                let here : Has ends s = in_ends s s_in at in
                let is : IsEnd s = each_has IsEnd ends s each_end here in
                subst (GoesOn output) (is.2 ∙ other) (goes_on output s (part_has s s_in part (inr at)) (came output s b.above false (not_starting s s_in at) above filled))

            same_tells : (x y : Bool) → is_same x y ≡ true → x ≡ y
            same_tells true y e = sym e
            same_tells false true e = absurd (false≢true e)
            same_tells false false e = refl

            other_tells : (x y : Bool) → is_same x y ≡ false → x ≡ not y
            other_tells true true e = absurd (false≢true (sym e))
            other_tells true false e = refl
            other_tells false true e = refl
            other_tells false false e = absurd (false≢true (sym e))

            placed : (t : Bool) → is_same b.above output ≡ t → cond t (record { a = b.edge.b; b = b.edge.a }) b.edge ≡ record { a = u; b = v } → GoesOn output u
            placed true e f = at_start (ap (λ (z : Edge). z.a) (sym same) ∙ ap (λ (z : Edge). z.b) f) (ap (λ (z : Edge). z.b) (sym same) ∙ ap (λ (z : Edge). z.a) f) (same_tells b.above output e)
            placed false e f = at_end (ap (λ (z : Edge). z.b) (sym same) ∙ ap (λ (z : Edge). z.b) f) (ap (λ (z : Edge). z.a) (sym same) ∙ ap (λ (z : Edge). z.a) f) (other_tells b.above output e)

    -- ---- from which half one comes

    -- an edge between v and u
    abbrev pub Joins : Edge → Point → Type 0
    Joins s u = ((s.a ≡ v) × (s.b ≡ u)) ⊎ ((s.a ≡ u) × (s.b ≡ v))

    -- a half between v and u lies along an edge that parts
    joined_at : (b : Border) (u : Point) → Has (halves fill es) b → Joins b.edge u → (s : Entry Count) × Has parting s × (far s ≡ u) × Has far_points u
    joined_at b u h j = by (half_part b h)
      where
        by : (s : Entry Count) × Has subject s × (b.edge ≡ s.edge) × (parts s ≡ true) × (is_on b.above s ≡ true) → (s : Entry Count) × Has parting s × (far s ≡ u) × Has far_points u
        by (s, s_in, same, part, filled) = placed (subst (λ t. Joins t u) same j)
          where
            round : far s ≡ u → touches v s.edge ≡ true → Has far_points u
            round is touch =
                subst (Has far_points) (ap (far_end v) same ∙ is)
                (has_map (λ (l : Border). far_end v l.edge) (filter (λ (l : Border). touches v l.edge) (halves fill es)) b
                (filter_has (λ (l : Border). touches v l.edge) (halves fill es) b h (ap (touches v) same ∙ touch)))

            placed : Joins s.edge u → (s : Entry Count) × Has parting s × (far s ≡ u) × Has far_points u
            placed (inl (at, other)) =
                let is : IsStart s = each_has IsStart starts s each_start (in_starts s s_in at) in
                (s, part_has s s_in part (inl at), is.2 ∙ other, round (is.2 ∙ other) (touched s true at))
            placed (inr (other, at)) =
                let is : IsEnd s = each_has IsEnd ends s each_end (in_ends s s_in at) in
                (s, part_has s s_in part (inr at), is.2 ∙ other, round (is.2 ∙ other) (touched s false at))

    apart_or_same : (s t : Entry Count) → Has parting s → Has parting t → (s ≡ t) ⊎ Apart v (far s) (far t)
    apart_or_same s t k l = pairs_two (λ s t. Apart v (far s) (far t)) (λ s t. apart_back v (far s) (far t)) parting parting_apart s t k l

    -- from no two edges one meets the same first
    one_came : (c : Bool) (s r t : Entry Count) → Has parting s → Has parting r → Has parting t → (far s ≡ far t) ⊎ IsMetFirst c v (far r) (far t) (far s)
        → (far r ≡ far t) ⊎ IsMetFirst c v (far s) (far t) (far r) → far s ≡ far r
    one_came c s r t s_in r_in t_in one other = by (apart_or_same s r s_in r_in)
      where
        -- it is not met first from itself where there is another
        last_itself : (x y : Point) → Apart v x y → x ≡ far t → IsMetFirst c v x (far t) y → ⊥
        last_itself x y apart e h = false≢true (sym (itself_last c v x y apart).1 ∙ (ap (λ z. is_met_before c v x z y) e ∙ h.0))

        both_ways : (x y : Point) → x ≡ far t → IsMetFirst c v y (far t) x → ⊥
        both_ways x y e h = false≢true (sym h.1 ∙ (ap (λ z. is_met_before c v y z (far t)) e ∙ (ap (λ z. is_met_before c v y (far t) z) (sym e) ∙ h.0)))

        round : Apart v (far s) (far r) → Apart v (far s) (far t) → Apart v (far r) (far t) → IsMetFirst c v (far r) (far t) (far s) → IsMetFirst c v (far s) (far t) (far r) → ⊥
        round apart first second h k =
            let turns : Turns c v (far s) (far t) (far r) = record { first = first; second = apart_back v (far r) (far t) second; third = apart_back v (far s) (far r) apart; met = k.0 } in
            let on : Turns c v (far r) (far s) (far t) = turns_on c v (far t) (far r) (far s) (turns_on c v (far s) (far t) (far r) turns) in
            false≢true (sym h.1 ∙ on.met)

        third : Apart v (far s) (far r) → IsMetFirst c v (far r) (far t) (far s) → IsMetFirst c v (far s) (far t) (far r) → (s ≡ t) ⊎ Apart v (far s) (far t) → (r ≡ t) ⊎ Apart v (far r) (far t) → ⊥
        third apart h k (inl e) q = both_ways (far s) (far r) (ap far e) h
        third apart h k (inr first) (inl e) = both_ways (far r) (far s) (ap far e) k
        third apart h k (inr first) (inr second) = round apart first second h k

        cases : Apart v (far s) (far r) → (far s ≡ far t) ⊎ IsMetFirst c v (far r) (far t) (far s) → (far r ≡ far t) ⊎ IsMetFirst c v (far s) (far t) (far r) → far s ≡ far r
        cases apart (inl e) (inl f) = e ∙ sym f
        cases apart (inl e) (inr k) = absurd (last_itself (far s) (far r) apart e k)
        cases apart (inr h) (inl f) = absurd (last_itself (far r) (far s) (apart_back v (far s) (far r) apart) f h)
        cases apart (inr h) (inr k) = absurd (third apart h k (apart_or_same s t s_in t_in) (apart_or_same r t r_in t_in))

        by : (s ≡ r) ⊎ Apart v (far s) (far r) → far s ≡ far r
        by (inl e) = ap far e
        by (inr apart) = cases apart one other

    -- Of two halves that come to v, on both of which one goes on by a third, the other ends are one.
    pub came_once : (c : Bool) (b d k : Border) (u x w : Point) → Has (halves fill es) b → Has (halves fill es) d → Has (halves fill es) k → Joins b.edge u → Joins d.edge x → Joins k.edge w
        → ((p : Point) → Has far_points p → (p ≡ w) ⊎ IsMetFirst c v u w p) → ((p : Point) → Has far_points p → (p ≡ w) ⊎ IsMetFirst c v x w p) → u ≡ x
    came_once c b d k u x w b_in d_in k_in b_joins d_joins k_joins first second = by (joined_at b u b_in b_joins) (joined_at d x d_in d_joins) (joined_at k w k_in k_joins)
      where
        by : (s : Entry Count) × Has parting s × (far s ≡ u) × Has far_points u → (s : Entry Count) × Has parting s × (far s ≡ x) × Has far_points x
            → (s : Entry Count) × Has parting s × (far s ≡ w) × Has far_points w → u ≡ x
        by (s, s_in, s_far, u_in) (r, r_in, r_far, x_in) (t, t_in, t_far, w_in) =
            sym s_far
            ∙ (one_came c s r t s_in r_in t_in
            (subst (λ z. (z ≡ far t) ⊎ IsMetFirst c v (far r) (far t) z) (sym s_far) (subst (λ z. (u ≡ far t) ⊎ IsMetFirst c v z (far t) u) (sym r_far) (subst (λ z. (u ≡ z) ⊎ IsMetFirst c v x z u) (sym t_far) (second u u_in))))
            (subst (λ z. (z ≡ far t) ⊎ IsMetFirst c v (far s) (far t) z) (sym r_far) (subst (λ z. (x ≡ far t) ⊎ IsMetFirst c v z (far t) x) (sym s_far) (subst (λ z. (x ≡ z) ⊎ IsMetFirst c v u z x) (sym t_far) (first x x_in))))
            ∙ r_far)

pub halves_go_on : PointsHaveRings → SectorsAreWhole → HalvesGoOn
halves_go_on points sectors fill es output b arranged here = by (points (subject_of es) (step_along output b).b arranged)
  where
    by : (starts : List (Entry Count)) × (ends : List (Entry Count)) × IsRing (subject_of es) (step_along output b).b starts ends → (k : Border) × IsFollowedBy output (halves fill es) b k
    by (starts, ends, ring) =
        followed (next_half fill es arranged (step_along output b).b starts ends ring sectors output b (step_along output b).a (has_from_contains (halves fill es) b here) refl)
      where
        followed : GoesOn fill es arranged (step_along output b).b starts ends ring sectors output (step_along output b).a → (k : Border) × IsFollowedBy output (halves fill es) b k
        followed (w, k, next) = (
          k,
          record {
            here = contains_from_has (halves fill es) k next.here;
            leaves = ap (λ (s : Edge). s.a) next.step;
            met = next.met ∙ ap Some (sym (ap (λ (s : Edge). s.b) next.step));
          },
        )

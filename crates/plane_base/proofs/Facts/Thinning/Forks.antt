-- Two points taken out of one cycle: what is left of both meets again.
use Rattle.std.proofs.Common.{◌≡◌, suc, ◌+◌, ◌<◌, List, [], ◌∷◌, ◌++◌, length, pos, ◌⊎◌, inl, inr, refl, sym, ap, ◌∙◌, subst, append_assoc, length-append, arith}
use Rattle.std.proofs.lemmas.List.{same_from_push}
use Rattle.plane_base.specs.Plane.{Point, turn}
use Rattle.plane_base.specs.Cycles.{SameCycle}
use Rattle.plane_base.specs.Thinning.{TakesOut}
use Rattle.plane_base.proofs.Facts.Lists.Cycles.{cycle_refl, cycle_sym, cycle_trans, cycle_same, cycle_rotated, cycle_first_last, cycle_length, IsElsewhere, cycle_places}
use Rattle.plane_base.proofs.Facts.Thinning.Steps.{takes_out_rotated}
use Rattle.plane_base.proofs.Facts.Thinning.Rows.{row_straight}

-- ---- a point and the rest of its cycle

-- in the cycle p ∷ rest the point p lies on one line with its neighbours
record IsStraightAt (p : Point) (rest : List Point) : Type 0 where
  after : Point
  between : List Point
  before : Point
  row : rest ≡ after ∷ (between ++ before ∷ [])
  straight : turn before p after ≡ pos 0

-- a step begun at the point that is taken out
record IsTaken (c d : List Point) : Type 0 where
  p : Point
  rest : List Point
  was : SameCycle c (p ∷ rest)
  at : IsStraightAt p rest
  is : SameCycle d rest

taken : {c d : List Point} → TakesOut c d → IsTaken c d
taken t = record {
  p = t.p;
  rest = t.after ∷ (t.others ++ t.before ∷ []);
  was = cycle_trans t.was (cycle_first_last t.before (t.p ∷ t.after ∷ t.others));
  at = record { after = t.after; between = t.others; before = t.before; row = refl; straight = t.straight };
  is = cycle_trans t.is (cycle_first_last t.before (t.after ∷ t.others));
}

takes_out : (p : Point) (rest : List Point) → IsStraightAt p rest → TakesOut (p ∷ rest) rest
takes_out p rest h = record {
  before = h.before;
  p = p;
  after = h.after;
  others = h.between;
  was = cycle_trans (cycle_same (ap (λ x. p ∷ x) h.row)) (cycle_sym (cycle_first_last h.before (p ∷ h.after ∷ h.between)));
  straight = h.straight;
  is = cycle_trans (cycle_same h.row) (cycle_sym (cycle_first_last h.before (h.after ∷ h.between)));
}

-- p is taken out from the middle
takes_out_middle : (xs : List Point) (p : Point) (ys : List Point) → IsStraightAt p (ys ++ xs) → TakesOut (xs ++ p ∷ ys) (ys ++ xs)
takes_out_middle xs p ys h = takes_out_rotated (cycle_rotated (p ∷ ys) xs) (takes_out p (ys ++ xs) h) (cycle_refl (ys ++ xs))

straight_ends : (p after : Point) (between : List Point) (before : Point) → IsStraightAt p (after ∷ (between ++ before ∷ [])) → turn before p after ≡ pos 0
straight_ends p after between before h =
    let first : after ≡ h.after = cc in
    let row : between ++ before ∷ [] ≡ h.between ++ h.before ∷ [] = cc in
    let last : before ≡ h.before = (same_from_push between h.between before h.before row).1 in
    rw (first, last) h.straight

straight_short : (p q : Point) → IsStraightAt p (q ∷ []) → ⊥
straight_short p q h = by (ap length h.row)
  where
    by : 1 ≡ suc (length (h.between ++ h.before ∷ [])) → ⊥
    by e =
        let l : length (h.between ++ h.before ∷ []) ≡ length h.between + 1 = length-append h.between (h.before ∷ []) in
        omega arith

-- a list that is not empty, from its end
record HasLast (xs : List Point) : Type 0 where
  front : List Point
  last : Point
  is : xs ≡ front ++ last ∷ []

has_last : (x : Point) (xs : List Point) → HasLast (x ∷ xs)
has_last x [] = record { front = []; last = x; is = refl }
has_last x (y ∷ xs) = by (has_last y xs)
  where
    by : HasLast (y ∷ xs) → HasLast (x ∷ y ∷ xs)
    by h = record { front = x ∷ h.front; last = h.last; is = ap (λ l. x ∷ l) h.is }

-- what stands between the first and the last has no part in it
straight_over : (p first : Point) (xs middle : List Point) (y : Point) (ys : List Point) → IsStraightAt p (first ∷ (xs ++ (middle ++ y ∷ ys))) → IsStraightAt p (first ∷ (xs ++ y ∷ ys))
straight_over p first xs middle y ys h = by (has_last y ys)
  where
    by : HasLast (y ∷ ys) → IsStraightAt p (first ∷ (xs ++ y ∷ ys))
    by l =
        let long : xs ++ (middle ++ y ∷ ys) ≡ (xs ++ (middle ++ l.front)) ++ l.last ∷ [] =
        ap (λ z. xs ++ (middle ++ z)) l.is ∙ (ap (λ z. xs ++ z) (sym (append_assoc middle l.front (l.last ∷ []))) ∙ sym (append_assoc xs (middle ++ l.front) (l.last ∷ []))) in
        record {
          after = first;
          between = xs ++ l.front;
          before = l.last;
          row = ap (λ z. first ∷ (xs ++ z)) l.is ∙ ap (λ z. first ∷ z) (sym (append_assoc xs l.front (l.last ∷ [])));
          straight = straight_ends p first (xs ++ (middle ++ l.front)) l.last (subst (λ z. IsStraightAt p (first ∷ z)) long h);
        }

-- ---- two steps from one cycle

-- Two cycles are one, or become one by a step of each, or are both too short for a step.
pub data Meets (d e : List Point) : Type 0 where
  at_once : SameCycle d e → Meets d e
  in_one : {f : List Point} → TakesOut d f → TakesOut e f → Meets d e
  both_short : length d < 3 → length e < 3 → Meets d e

meets_sym : {d e : List Point} → Meets d e → Meets e d
meets_sym (at_once s) = at_once (cycle_sym s)
meets_sym (in_one t u) = in_one u t
meets_sym (both_short h k) = both_short k h

meets_rotated : {c d e f : List Point} → SameCycle c d → SameCycle e f → Meets d f → Meets c e
meets_rotated s t (at_once u) = at_once (cycle_trans s (cycle_trans u (cycle_sym t)))
meets_rotated s t (in_one {f = g} u v) = in_one (takes_out_rotated (cycle_sym s) u (cycle_refl g)) (takes_out_rotated (cycle_sym t) v (cycle_refl g))
meets_rotated s t (both_short h k) =
    let m = cycle_length s in
    let n = cycle_length t in
    both_short (omega arith) (omega arith)

-- p stands just before q
neighbours_meet : (p q w : Point) (ws : List Point) → IsStraightAt p (q ∷ w ∷ ws) → IsStraightAt q ((w ∷ ws) ++ p ∷ []) → Meets (q ∷ w ∷ ws) ((w ∷ ws) ++ p ∷ [])
neighbours_meet p q w [] h k = both_short (omega arith) (omega arith)
neighbours_meet p q w (x ∷ xs) h k = by (has_last x xs)
  where
    by : HasLast (x ∷ xs) → Meets (q ∷ w ∷ x ∷ xs) (w ∷ x ∷ (xs ++ p ∷ []))
    by l = together (row_straight l.last p q w first second)
      where
        first : turn l.last p q ≡ pos 0
        first = straight_ends p q (w ∷ l.front) l.last (subst (λ z. IsStraightAt p (q ∷ w ∷ z)) l.is h)

        second : turn p q w ≡ pos 0
        second = straight_ends q w (x ∷ xs) p k

        together : (p ≡ q) ⊎ ((turn l.last p w ≡ pos 0) × (turn l.last q w ≡ pos 0)) → Meets (q ∷ w ∷ x ∷ xs) (w ∷ x ∷ (xs ++ p ∷ []))
        together (inl e) = at_once (cycle_trans (cycle_same (ap (λ z. z ∷ w ∷ x ∷ xs) (sym e))) (cycle_first_last p (w ∷ x ∷ xs)))
        together (inr g) = in_one {f = w ∷ x ∷ xs}
            (takes_out q (w ∷ x ∷ xs) (record { after = w; between = l.front; before = l.last; row = ap (λ z. w ∷ z) l.is; straight = g.1 }))
            (takes_out_rotated (cycle_first_last p (w ∷ x ∷ xs)) (takes_out p (w ∷ x ∷ xs) (record { after = w; between = l.front; before = l.last; row = ap (λ z. w ∷ z) l.is; straight = g.0 })) (cycle_refl (w ∷ x ∷ xs)))

places_meet : (p q : Point) (us vs : List Point) → IsStraightAt p (us ++ q ∷ vs) → IsStraightAt q (vs ++ p ∷ us) → Meets (us ++ q ∷ vs) (vs ++ p ∷ us)
places_meet p q [] [] h k = absurd (straight_short p q h)
places_meet p q [] (v ∷ vs) h k = neighbours_meet p q v vs h k
places_meet p q (u ∷ us) [] h k = meets_sym (neighbours_meet q p u us k h)
places_meet p q (u ∷ us) (v ∷ vs) h k =
    in_one {f = (v ∷ vs) ++ u ∷ us}
    (takes_out_middle (u ∷ us) q (v ∷ vs) (straight_over q v vs (p ∷ []) u us k))
    (takes_out_rotated (cycle_refl ((v ∷ vs) ++ p ∷ u ∷ us)) (takes_out_middle (v ∷ vs) p (u ∷ us) (straight_over p u us (q ∷ []) v vs h)) (cycle_rotated (u ∷ us) (v ∷ vs)))

pub fork_meets : {c d e : List Point} → TakesOut c d → TakesOut c e → Meets d e
fork_meets {c = c} {d = d} {e = e} t u = by (taken t) (taken u)
  where
    by : IsTaken c d → IsTaken c e → Meets d e
    by g h = meets_rotated g.is h.is (at_places (cycle_places (cycle_trans (cycle_sym g.was) h.was)))
      where
        at_places : ((g.p ≡ h.p) × (g.rest ≡ h.rest)) ⊎ IsElsewhere g.p g.rest h.p h.rest → Meets g.rest h.rest
        at_places (inl e) = at_once (cycle_same e.1)
        at_places (inr l) = rw (l.first, l.second) (places_meet g.p h.p l.to l.from (subst (IsStraightAt g.p) l.first g.at) (subst (IsStraightAt h.p) l.second h.at))

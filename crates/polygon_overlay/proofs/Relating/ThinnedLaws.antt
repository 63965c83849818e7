-- Each contour has a thinned one: as long as three points in a row lie on one line, the middle one can be taken out.
use Rattle.std.proofs.Common.{◌≡◌, ◌⊎◌, inl, inr, ℕ, zero, suc, ◌<◌, ◌≤◌, ℤ, pos, negsuc, false, List, [], ◌∷◌, ◌++◌, length, refl, sym, ap, ◌∙◌, subst, append_assoc, arith}
use Rattle.std.proofs.lemmas.Int.{ints}
use Rattle.std.specs.List.{AllZip}
use Rattle.plane_base.specs.Plane.{Point, turn}
use Rattle.plane_base.specs.Thinning.{TakesOut, step, IsBare, NoneStraight, IsThinned, bare, empty}
use Rattle.plane_base.proofs.Facts.Thinning.Laws.{takes_out_length}
use Rattle.plane_base.proofs.Facts.Thinning.Steps.{reaches_refl, inner_taken, last_taken, first_taken, bare_from_corners}
use Rattle.segment_split.specs.Adding.{IsTaken}

-- ---- three points in a row

cases_zero : (z : ℤ) → (z ≡ pos 0) ⊎ (z ≡ pos 0 → ⊥)
cases_zero (pos zero) = inl refl
cases_zero (pos (suc n)) = inr (λ e. omega (arith, ints))
cases_zero (negsuc n) = inr (λ e. omega (arith, ints))

-- three points in a row of the list lie on one line
record HasStraight (c : List Point) : Type 0 where
  front : List Point
  before : Point
  p : Point
  after : Point
  back : List Point
  is : c ≡ front ++ before ∷ p ∷ after ∷ back
  straight : turn before p after ≡ pos 0

straight_or_none : (c : List Point) → HasStraight c ⊎ NoneStraight c
straight_or_none [] = inr tt
straight_or_none (a ∷ []) = inr tt
straight_or_none (a ∷ p ∷ []) = inr tt
straight_or_none (a ∷ p ∷ b ∷ rest) = by (cases_zero (turn a p b)) (straight_or_none (p ∷ b ∷ rest))
  where
    by : (turn a p b ≡ pos 0) ⊎ (turn a p b ≡ pos 0 → ⊥) → HasStraight (p ∷ b ∷ rest) ⊎ NoneStraight (p ∷ b ∷ rest)
        → HasStraight (a ∷ p ∷ b ∷ rest) ⊎ NoneStraight (a ∷ p ∷ b ∷ rest)
    by (inl e) later = inl (record { front = []; before = a; p = p; after = b; back = rest; is = refl; straight = e })
    by (inr n) (inl h) = inl (record {
      front = a ∷ h.front;
      before = h.before;
      p = h.p;
      after = h.after;
      back = h.back;
      is = ap (λ l. a ∷ l) h.is;
      straight = h.straight;
    })
    by (inr n) (inr none) = inr (n, none)

-- ---- one point more is taken out

-- a list that isn't empty, by its last element
record EndsIn (c : List Point) : Type 0 where
  front : List Point
  last : Point
  is : c ≡ front ++ last ∷ []

ends_in : (a : Point) (rest : List Point) → EndsIn (a ∷ rest)
ends_in a [] = record { front = []; last = a; is = refl }
ends_in a (b ∷ rest) = let e = ends_in b rest in record { front = a ∷ e.front; last = e.last; is = ap (λ l. a ∷ l) e.is }

-- a point can be taken out of the cycle
record CanBeThinned (c : List Point) : Type 0 where
  fewer : List Point
  takes : TakesOut c fewer

taken_of_same : {c d : List Point} (e : List Point) → c ≡ d → TakesOut d e → CanBeThinned c
taken_of_same e same takes = record { fewer = e; takes = subst (λ l. TakesOut l e) (sym same) takes }

thinner_or_bare : (f s t : Point) (rest : List Point) → CanBeThinned (f ∷ s ∷ t ∷ rest) ⊎ IsBare (f ∷ s ∷ t ∷ rest)
thinner_or_bare f s t rest =
    by (straight_or_none (f ∷ s ∷ t ∷ rest)) (cases_zero (turn tail.last end.last f)) (cases_zero (turn end.last f s))
  where
    end : EndsIn (t ∷ rest)
    end = ends_in t rest

    tail : EndsIn (s ∷ end.front)
    tail = ends_in s end.front

    by_last : f ∷ s ∷ t ∷ rest ≡ f ∷ s ∷ (end.front ++ end.last ∷ [])
    by_last = ap (λ l. f ∷ s ∷ l) end.is

    by_two : f ∷ s ∷ t ∷ rest ≡ f ∷ (tail.front ++ tail.last ∷ end.last ∷ [])
    by_two =
        by_last
        ∙ (ap (λ l. f ∷ (l ++ end.last ∷ [])) tail.is ∙ ap (λ l. f ∷ l) (append_assoc tail.front (tail.last ∷ []) (end.last ∷ [])))

    by : HasStraight (f ∷ s ∷ t ∷ rest) ⊎ NoneStraight (f ∷ s ∷ t ∷ rest)
        → (turn tail.last end.last f ≡ pos 0) ⊎ (turn tail.last end.last f ≡ pos 0 → ⊥)
        → (turn end.last f s ≡ pos 0) ⊎ (turn end.last f s ≡ pos 0 → ⊥)
        → CanBeThinned (f ∷ s ∷ t ∷ rest) ⊎ IsBare (f ∷ s ∷ t ∷ rest)
    by (inl h) at_last at_first =
        inl (taken_of_same (h.front ++ h.before ∷ h.after ∷ h.back) h.is (inner_taken h.front h.before h.p h.after h.back h.straight))
    by (inr none) (inl e) at_first =
        inl (taken_of_same (f ∷ (tail.front ++ tail.last ∷ [])) by_two (last_taken f tail.front tail.last end.last e))
    by (inr none) (inr n) (inl e) =
        inl (taken_of_same (s ∷ (end.front ++ end.last ∷ [])) by_last (first_taken f s end.front end.last e))
    by (inr none) (inr n) (inr m) =
        inr (bare_from_corners f s (t ∷ rest) (f ∷ tail.front) tail.last end.last refl by_two none n m)

-- ---- all points that can be

record HasThinned (c : List Point) : Type 0 where
  thinned : List Point
  is : IsThinned c thinned

thinned_before : {c d e : List Point} → TakesOut c d → IsThinned d e → IsThinned c e
thinned_before t (bare r h b) = bare (step t r) h b
thinned_before t (empty r h) = empty (step t r) h

short_has : (c : List Point) → length c < 3 → HasThinned c
short_has c h = record { thinned = []; is = empty (reaches_refl c) h }

has_within : (n : ℕ) (c : List Point) → length c ≤ n → HasThinned c
has_within n [] h = short_has [] (omega arith)
has_within n (a ∷ []) h = short_has (a ∷ []) (omega arith)
has_within n (a ∷ b ∷ []) h = short_has (a ∷ b ∷ []) (omega arith)
has_within zero (f ∷ s ∷ t ∷ rest) h = absurd (omega (arith, h))
has_within (suc n) (f ∷ s ∷ t ∷ rest) h =
    by (thinner_or_bare f s t rest) (λ d takes. has_within n d (let long = takes_out_length takes in omega (arith, h, long)))
  where
    by : CanBeThinned (f ∷ s ∷ t ∷ rest) ⊎ IsBare (f ∷ s ∷ t ∷ rest)
        → ((d : List Point) → TakesOut (f ∷ s ∷ t ∷ rest) d → HasThinned d) → HasThinned (f ∷ s ∷ t ∷ rest)
    by (inl c) go = let k = go c.fewer c.takes in record { thinned = k.thinned; is = thinned_before c.takes k.is }
    by (inr b) go = record { thinned = f ∷ s ∷ t ∷ rest; is = bare (reaches_refl (f ∷ s ∷ t ∷ rest)) (omega arith) b }

-- all contours are taken, each thinned
pub all_thinned : (contours : List (List Point)) → (taken : List (List Point)) × AllZip (IsTaken false) contours taken
all_thinned [] = ([], tt)
all_thinned (c ∷ cs) =
    let one = has_within (length c) c (omega arith) in
    let rest = all_thinned cs in
    (one.thinned ∷ rest.0, (one.is, rest.1))

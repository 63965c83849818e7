-- Where something lies beyond each link that leads to a point, on the hand to which a walk turns, it turns to that hand there.
use Rattle.std.proofs.Common.{◌≡◌, Bool, true, false, List, [], ◌∷◌, ◌⊎◌, inl, inr, ℤ, pos, ◌<ℤ◌, refl, sym, ap, ◌∙◌, subst, arith}
use Rattle.std.proofs.lemmas.Bool.{false≢true}
use Rattle.std.proofs.lemmas.Int.{ints}
use Rattle.plane_base.specs.Plane.{Point, Edge, turn}
use Rattle.plane_base.proofs.Facts.Points.Turns.{turn_end_twice}
use Rattle.contour_walk.specs.Turning.{turned}
use Rattle.contour_walk.specs.Walks.{Border, between, without}
use Rattle.contour_walk.proofs.Facts.Walks.Turns.{Bend, left, straight, right, bend, bend_left, left_tells, is_left, rank, first_of_two, met_is, apart_back}
use Rattle.contour_walk.proofs.Facts.Walks.Turns.{Turns, turns_on, never_both_ways}
use Rattle.contour_walk.proofs.Facts.Walks.Rings.{Spoke, spoke, Lies, IsWheel, wheel_from, neighbour}
use Rattle.contour_walk.proofs.Walks.Steps.{step, same_or_not, IsNear, near_of_has, Outward, Inward, IsWalking, GoesOn, before_in, still_out, kept_here, kept_elsewhere, not_come}

-- r lies on the hand to which one turns round v from p
abbrev pub Beyond : Bool → Point → Point → Point → Type 0
Beyond c v p r = pos 0 <ℤ turned c v p r

-- what is met before something beyond is beyond
pub beyond_before : (c : Bool) (v p q r : Point) → Turns c v p q r → Beyond c v p r → Beyond c v p q
beyond_before c v p q r h l =
    by (bend (turned c v p q)) refl
    (ap (λ b. first_of_two (rank (bend (turned c v p q))) (rank b) (is_left (bend (turned c v q r)))) (sym (bend_left (turned c v p r) l))
    ∙ (sym (met_is c v p q r h.first (apart_back v r p h.third)) ∙ h.met))
  where
    by : (b : Bend) → bend (turned c v p q) ≡ b → first_of_two (rank (bend (turned c v p q))) 1 (is_left (bend (turned c v q r))) ≡ true → Beyond c v p q
    by left e f = left_tells (turned c v p q) e
    by straight e f = absurd (false≢true (ap (λ b. first_of_two (rank b) 1 (is_left (bend (turned c v q r)))) (sym e) ∙ f))
    by right e f = absurd (false≢true (ap (λ b. first_of_two (rank b) 1 (is_left (bend (turned c v q r)))) (sym e) ∙ f))

never_beyond : (c : Bool) (v p : Point) → Beyond c v p p → ⊥
never_beyond c v p l = by c l
  where
    zero_is : (z : ℤ) → z ≡ pos 0 → pos 0 <ℤ z → ⊥
    zero_is z e k = absurd (omega (arith, ints))

    by : (b : Bool) → Beyond b v p p → ⊥
    by true k = zero_is (turn v p p) (turn_end_twice v p) k
    by false k = zero_is (turn v p p) (turn_end_twice v p) k

-- a neighbour is beyond where anything is
near_beyond : (c : Bool) (v p q r : Point) (out : Bool) → IsNear c v (spoke p false) (spoke q true) (spoke r out) → Beyond c v p r → Beyond c v p q
near_beyond c v p q r out (inl e) l = absurd (never_beyond c v p (subst (Beyond c v p) (sym (ap (λ (s : Spoke). s.far) e)) l))
near_beyond c v p q r out (inr (inl e)) l = subst (Beyond c v p) (sym (ap (λ (s : Spoke). s.far) e)) l
near_beyond c v p q r out (inr (inr h)) l = beyond_before c v p q r h l

-- the bends of a path at a point, from each point to the next and from the last to a first one
abbrev pub Bends : Bool → Point → Point → Point → List Point → Type 0
Bends c a first from [] = Unit {0}
Bends c a first from (v ∷ []) = v ≡ a → Beyond c a from first
Bends c a first from (v ∷ w ∷ rest) = (v ≡ a → Beyond c a from w) × Bends c a first v (w ∷ rest)

-- something lies beyond each that leads to a
abbrev pub AreBounded : Bool → (Edge → Type 0) → (Edge → Type 0) → Point → Type 0
AreBounded c O I a = (far : Point) → I (step far a) → (x : Point) × (out : Bool) × Lies O I a x out × Beyond c a far x

module _ (output c : Bool) (first second end : Point) (links : List Border) (v from : Point) (h : IsWalking output c first second end links v from) (w : Point) (g : GoesOn output c first second end links v from w) where
  abbrev rest : List Border
  rest = without (between v w) links

  abbrev O : Edge → Type 0
  O = Outward output c first second end links

  abbrev I : Edge → Type 0
  I = Inward output c first second end links v from

  abbrev O' : Edge → Type 0
  O' = Outward output c first second end rest

  abbrev I' : Edge → Type 0
  I' = Inward output c first second end rest w v

  pub bends_here : (a : Point) → AreBounded c O I a → v ≡ a → Beyond c a from w
  bends_here a bounded at = subst (λ z. Beyond c z from w) at (by (subst (AreBounded c O I) (sym at) bounded from (inl refl)))
    where
      by : (x : Point) × (out : Bool) × Lies O I v x out × Beyond c v from x → Beyond c v from w
      by (x, out, lies, l) = near_beyond c v from w x out (g.near x out lies) l

  -- another that leads to v keeps something beyond it
  module _ (far : Point) (k : I' (step far v)) where
    not_from : far ≡ from → ⊥
    not_from e = not_come output c first second end links v from h w g.here (subst (λ z. I' (step z v)) e k)

    -- its own neighbour is not that of the other
    not_taken : (o : Point) (more : List Spoke) → IsWheel c O I v (spoke far false ∷ spoke o true ∷ more) → o ≡ w → ⊥
    not_taken o more wheel e =
        by (near_of_has (spoke far false) (spoke o true) more (spoke from false) wheel.order (wheel.complete (spoke from false) (inl refl)))
        (g.near far false (before_in output c first second end links v from h w g.here (step far v) k))
      where
        by : IsNear c v (spoke far false) (spoke o true) (spoke from false) → IsNear c v (spoke from false) (spoke w true) (spoke far false) → ⊥
        by (inl f) n = not_from (ap (λ (s : Spoke). s.far) f)
        by (inr (inl f)) n = false≢true (sym (ap (λ (s : Spoke). s.out) f))
        by (inr (inr t)) (inl f) = not_from (sym (ap (λ (s : Spoke). s.far) f))
        by (inr (inr t)) (inr (inl f)) = false≢true (sym (ap (λ (s : Spoke). s.out) f))
        by (inr (inr t)) (inr (inr n)) = never_both_ways c v w from far (turns_on c v far w from (subst (λ z. Turns c v far z from) e t)) (turns_on c v from w far n)

    by_neighbour : (x : Point) (out : Bool) → Lies O I v x out → Beyond c v far x → (y : Point) × (out : Bool) × Lies O' I' v y out × Beyond c v far y
    by_neighbour x out lies l = by (h.wheels v)
      where
        found : (o : Point) (more : List Spoke) → IsWheel c O I v (spoke far false ∷ spoke o true ∷ more) → (y : Point) × (out : Bool) × Lies O' I' v y out × Beyond c v far y
        found o more wheel = (
          o,
          true,
          still_out output c first second end links v from h w g.here (step v o) (λ e. not_taken o more wheel (sym (ap (λ (s : Edge). s.b) e))) (((wheel.sound).1).0),
          near_beyond c v far o x out (near_of_has (spoke far false) (spoke o true) more (spoke x out) wheel.order (wheel.complete (spoke x out) lies)) l,
        )

        by : (spokes : List Spoke) × IsWheel c O I v spokes → (y : Point) × (out : Bool) × Lies O' I' v y out × Beyond c v far y
        by (spokes, wheel) =
            let f = wheel_from spokes (spoke far false) wheel (before_in output c first second end links v from h w g.here (step far v) k) in
            let n = neighbour (spoke far false) f.0 f.1 in
            found n.0 n.1 n.2

    bounded_here : (x : Point) × (out : Bool) × Lies O I v x out × Beyond c v far x → (y : Point) × (out : Bool) × Lies O' I' v y out × Beyond c v far y
    bounded_here (x, out, lies, l) = by (same_or_not x from) (same_or_not x w)
      where
        by : (x ≡ from) ⊎ (x ≡ from → ⊥) → (x ≡ w) ⊎ (x ≡ w → ⊥) → (y : Point) × (out : Bool) × Lies O' I' v y out × Beyond c v far y
        by (inl e) d = by_neighbour x out lies l
        by (inr other) (inl e) = by_neighbour x out lies l
        by (inr other) (inr apart) =
            (x, out, kept_here output c first second end links v from h w g.here x out lies (λ e. other (ap (λ (s : Spoke). s.far) e)) (λ e. apart (ap (λ (s : Spoke). s.far) e)), l)

  pub bounded_after : (a : Point) → AreBounded c O I a → AreBounded c O' I' a
  bounded_after a bounded = by (same_or_not a v)
    where
      elsewhere : (a ≡ v → ⊥) → (far : Point) → (x : Point) × (out : Bool) × Lies O I a x out × Beyond c a far x → (x : Point) × (out : Bool) × Lies O' I' a x out × Beyond c a far x
      elsewhere other far (x, out, lies, l) = (x, out, kept_elsewhere output c first second end links v from h w g.here a other x out lies, l)

      by : (a ≡ v) ⊎ (a ≡ v → ⊥) → AreBounded c O' I' a
      by (inl e) = subst (AreBounded c O' I') (sym e) (λ far k. bounded_here far k (subst (AreBounded c O I) e bounded far (before_in output c first second end links v from h w g.here (step far v) k)))
      by (inr other) = λ far k. elsewhere other far (bounded far (before_in output c first second end links v from h w g.here (step far a) k))

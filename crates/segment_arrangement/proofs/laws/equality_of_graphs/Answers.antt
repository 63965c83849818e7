use Rattle.std.proofs.Common.{◌≡◌, ℕ, Bool, true, false, ◌&&◌, List, [], ◌∷◌, nat_eq, refl, ap, eqb-true, eq-eqb}
use Rattle.std.specs.Cmp.Lexicographic.{pointwise}
use Rattle.segment_arrangement.specs.declared.node.OverlayNode.TheVariants.{Bridge, Cross}
use Rattle.segment_arrangement.proofs.laws.equality_of_graphs.Goals as goal

both_true : (s t : Bool) → (s && t) ≡ true → (s ≡ true) × (t ≡ true)
both_true true t e = (refl, e)
both_true false t e = absurd (cc)

true_both : (s t : Bool) → s ≡ true → t ≡ true → (s && t) ≡ true
true_both s t e f = rw e f

places_equal : (xs ys : List ℕ) → pointwise nat_eq xs ys ≡ true → xs ≡ ys
places_equal [] [] e = refl
places_equal [] (y ∷ ys) e = absurd (cc)
places_equal (x ∷ xs) [] e = absurd (cc)
places_equal (x ∷ xs) (y ∷ ys) e =
    let both = both_true (nat_eq x y) (pointwise nat_eq xs ys) e in
    rw (eqb-true x y both.0, places_equal xs ys both.1) refl

equal_places : (xs : List ℕ) → pointwise nat_eq xs xs ≡ true
equal_places [] = refl
equal_places (x ∷ xs) = true_both (nat_eq x x) (pointwise nat_eq xs xs) (eq-eqb x x refl) (equal_places xs)

pub returns-clause-of_links : goal.returns-clause-of_links
returns-clause-of_links g c = λ tells a b. (
  λ e.
      let first = both_true _ _ e in
      let second = both_true _ _ first.1 in
      let third = both_true _ _ second.1 in
      let start = (c.equality_of_segments.ensures.of_numbered_points a.a b.a).0 first.0 in
      let end = (c.equality_of_segments.ensures.of_numbered_points a.b b.b).0 second.0 in
      let fill : a.fill ≡ b.fill = eqb-true a.fill b.fill third.0 in
      let carried = (tells a.datum b.datum).0 third.1 in
      λ i. record { a = start i; b = end i; fill = fill i; datum = carried i },
  λ e.
      true_both _ _ ((c.equality_of_segments.ensures.of_numbered_points a.a b.a).1 (ap (λ l. l.a) e))
      (true_both _ _ ((c.equality_of_segments.ensures.of_numbered_points a.b b.b).1 (ap (λ l. l.b) e))
      (true_both _ _ (eq-eqb a.fill b.fill (ap (λ l. l.fill) e)) ((tells a.datum b.datum).1 (ap (λ l. l.datum) e)))),
)

pub returns-clause-of_nodes : goal.returns-clause-of_nodes
returns-clause-of_nodes g c (Bridge xs) (Bridge ys) = (λ e. (refl, places_equal xs ys e), λ h. rw h.1 (equal_places ys))
returns-clause-of_nodes g c (Bridge xs) (Cross ys) = (λ e. absurd (cc), λ h. absurd (cc))
returns-clause-of_nodes g c (Cross xs) (Bridge ys) = (λ e. absurd (cc), λ h. absurd (cc))
returns-clause-of_nodes g c (Cross xs) (Cross ys) = (λ e. (refl, places_equal xs.items ys.items e), λ h. rw h.1 (equal_places ys.items))

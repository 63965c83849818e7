-- The sector from one edge at a point to another: what changes there, from edge to edge.
use Rattle.std.proofs.Common.{◌≡◌, ◌⊎◌, inl, inr, Bool, true, false, cond, not, ◌&&◌, ◌||◌, List, [], ◌∷◌, ◌++◌, append_assoc, ℤ, pos, ◌+ℤ◌, ◌-ℤ◌, refl, sym, ap, ◌∙◌, subst, arith}
use Rattle.std.proofs.lemmas.Int.{ints}
use Rattle.plane_base.specs.Plane.{Point}
use Rattle.plane_base.specs.Totals.{total}
use Rattle.plane_base.proofs.Facts.Lists.Totals.{total_append}
use Rattle.segment_arrangement.specs.Rings.{Leads}
use Rattle.contour_walk.specs.Turning.{is_met_before}
use Rattle.contour_walk.specs.Walks.{same_point}
use Rattle.contour_walk.proofs.Facts.Walks.Turns.{not_apart, Turns, turns_on, not_met, Has}
use Rattle.contour_walk.proofs.Facts.Walks.Rings.{Each, Pairs, Triples, each_weaker}
use Rattle.contour_walk.proofs.Walks.Links.{same_point_is, same_point_itself}
use Rattle.polygon_overlay.proofs.Nesting.SwingLaws.{change, leads_parts, leads_whole}

-- ---- three of a list

module _ {A : Type 0} where
  each_behind : (P : A → Type 0) (xs : List A) (y : A) (ys : List A) → Each P (xs ++ y ∷ ys) → Each P xs × P y × Each P ys
  each_behind P [] y ys h = (tt, h.0, h.1)
  each_behind P (x ∷ xs) y ys h = let k = each_behind P xs y ys h.1 in ((h.0, k.0), k.1, k.2)

  pairs_about : (R : A → A → Type 0) (xs : List A) (y : A) (ys : List A) → Pairs R (xs ++ y ∷ ys) → Each (λ x. R x y) xs × Each (R y) ys
  pairs_about R [] y ys h = (tt, h.0)
  pairs_about R (x ∷ xs) y ys h = let k = pairs_about R xs y ys h.1 in (((each_behind (R x) xs y ys h.0).1, k.0), k.1)

  one_pair : (R : A → A → Type 0) (xs : List A) (p : A) (ys : List A) (q : A) (zs : List A) → Pairs R (xs ++ p ∷ (ys ++ q ∷ zs)) → R p q
  one_pair R [] p ys q zs h = (each_behind (R p) ys q zs h.0).1
  one_pair R (x ∷ xs) p ys q zs h = one_pair R xs p ys q zs h.1

  three_of : (R : A → A → A → Type 0) (xs : List A) (p : A) (ys : List A) (q : A) (zs : List A) → Triples R (xs ++ p ∷ (ys ++ q ∷ zs))
      → Each (λ x. R x p q) xs × Each (λ x. R p x q) ys × Each (λ x. R p q x) zs
  three_of R [] p ys q zs h = let k = pairs_about (R p) ys q zs h.0 in (tt, k.0, k.1)
  three_of R (x ∷ xs) p ys q zs h = let k = three_of R xs p ys q zs h.1 in ((one_pair (R x) xs p ys q zs h.0, k.0), k.1, k.2)

  -- a list about one of its elements
  record About (xs : List A) (x : A) : Type 0 where
    front : List A
    back : List A
    is : xs ≡ front ++ x ∷ back

  about : (xs : List A) (x : A) → Has xs x → About xs x
  about [] x h = absurd h
  about (y ∷ ys) x (inl e) = record { front = []; back = ys; is = ap (λ z. z ∷ ys) e }
  about (y ∷ ys) x (inr k) = let p = about ys x k in record { front = y ∷ p.front; back = p.back; is = ap (λ l. y ∷ l) p.is }

  in_parts : (xs : List A) (y : A) (ys : List A) (x : A) → Has (xs ++ y ∷ ys) x → Has xs x ⊎ ((y ≡ x) ⊎ Has ys x)
  in_parts [] y ys x (inl e) = inr (inl e)
  in_parts [] y ys x (inr k) = inr (inr k)
  in_parts (z ∷ xs) y ys x (inl e) = inl (inl e)
  in_parts (z ∷ xs) y ys x (inr k) = by (in_parts xs y ys x k)
    where
      by : Has xs x ⊎ ((y ≡ x) ⊎ Has ys x) → Has (z ∷ xs) x ⊎ ((y ≡ x) ⊎ Has ys x)
      by (inl h) = inl (inr h)
      by (inr h) = inr h

  -- ---- sums over those that pass

  module _ (inside : A → Bool) (f : A → ℤ) where
    abbrev pub part : A → ℤ
    part x = cond (inside x) (f x) (pos 0)

    all_inside : (xs : List A) → Each (λ x. inside x ≡ true) xs → total part xs ≡ total f xs
    all_inside [] h = refl
    all_inside (x ∷ xs) h = ap (λ b. cond b (f x) (pos 0) +ℤ total part xs) h.0 ∙ ap (λ t. f x +ℤ t) (all_inside xs h.1)

    none_inside : (xs : List A) → Each (λ x. inside x ≡ false) xs → total part xs ≡ pos 0
    none_inside [] h = refl
    none_inside (x ∷ xs) h = ap (λ b. cond b (f x) (pos 0) +ℤ total part xs) h.0 ∙ none (total part xs) (none_inside xs h.1)
      where
        none : (t : ℤ) → t ≡ pos 0 → pos 0 +ℤ t ≡ pos 0
        none t e = omega (arith, ints)

    total_about : (xs : List A) (p : A) (ys : List A) (q : A) (zs : List A)
        → total part (xs ++ p ∷ (ys ++ q ∷ zs)) ≡ total part xs +ℤ (part p +ℤ (total part ys +ℤ (part q +ℤ total part zs)))
    total_about xs p ys q zs = total_append part xs (p ∷ (ys ++ q ∷ zs)) ∙ ap (λ t. total part xs +ℤ (part p +ℤ t)) (total_append part ys (q ∷ zs))

-- ---- the sector from p to q, turning counterclockwise round v

-- strictly between the directions of p and q
abbrev pub is_between : Point → Point → Point → Point → Bool
is_between v p q x = not (same_point x p || same_point x q) && is_met_before false v p x q

apart_points : (x p : Point) → (x ≡ p → ⊥) → same_point x p ≡ false
apart_points x p differ = by (same_point x p) refl
  where
    by : (b : Bool) → same_point x p ≡ b → b ≡ false
    by true e = absurd (differ (same_point_is x p e))
    by false e = refl

pub between_is : (v p q x : Point) → Turns false v p x q → is_between v p q x ≡ true
between_is v p q x h =
    by (same_point x p) (same_point x q) (is_met_before false v p x q) (apart_points x p (λ e. not_apart v p x h.first (sym e))) (apart_points x q (λ e. not_apart v x q h.second e)) h.met
  where
    by : (b c d : Bool) → b ≡ false → c ≡ false → d ≡ true → not (b || c) && d ≡ true
    by b c d e f g = rw (e, f, g) refl

pub not_between : (v p q x : Point) → Turns false v p q x → is_between v p q x ≡ false
not_between v p q x h = by (same_point x p || same_point x q) (is_met_before false v p x q) (not_met false v p q x h)
  where
    by : (b d : Bool) → d ≡ false → not b && d ≡ false
    by true d e = refl
    by false d e = e

pub first_not_between : (v p q : Point) → is_between v p q p ≡ false
first_not_between v p q = ap (λ b. not (b || same_point p q) && is_met_before false v p p q) (same_point_itself p p refl)

pub second_not_between : (v p q : Point) → is_between v p q q ≡ false
second_not_between v p q = ap (λ b. not b && is_met_before false v p q q) (second (same_point q p) (same_point q q) (same_point_itself q q refl))
  where
    second : (b c : Bool) → c ≡ true → b || c ≡ true
    second true c e = refl
    second false c e = e

module _ {A : Type 0} (far : A → Point) (right left : A → ℤ) (v : Point) where
  abbrev TurnsFar : A → A → A → Type 0
  TurnsFar x y z = Turns false v (far x) (far y) (far z)

  module _ (p q : A) where
    abbrev inside : A → Bool
    inside x = is_between v (far p) (far q) (far x)

    abbrev changed : A → ℤ
    changed = part inside (change right left)

    nothing : (x : A) → inside x ≡ false → changed x ≡ pos 0
    nothing x e = ap (λ b. cond b (change right left x) (pos 0)) e

    -- p comes first in the list
    forward : (w : ℤ) (xs ys zs : List A) → Triples TurnsFar (xs ++ p ∷ (ys ++ q ∷ zs)) → Leads right left w w (xs ++ p ∷ (ys ++ q ∷ zs))
        → total changed (xs ++ p ∷ (ys ++ q ∷ zs)) ≡ right q -ℤ left p
    forward w xs ys zs order leads =
        let t = three_of TurnsFar xs p ys q zs order in
        let k = leads_parts right left w w xs p (ys ++ q ∷ zs) leads in
        total_about inside (change right left) xs p ys q zs
        ∙ sum (total changed xs) (changed p) (total changed ys) (changed q) (total changed zs) (total (change right left) ys) (right q) (left p)
        (none_inside inside (change right left) xs
        (each_weaker (λ x. TurnsFar x p q) (λ x. inside x ≡ false) (λ x h. not_between v (far p) (far q) (far x) (turns_on false v (far x) (far p) (far q) h)) xs t.0))
        (nothing p (first_not_between v (far p) (far q)))
        (all_inside inside (change right left) ys (each_weaker (λ x. TurnsFar p x q) (λ x. inside x ≡ true) (λ x h. between_is v (far p) (far q) (far x) h) ys t.1))
        (nothing q (second_not_between v (far p) (far q)))
        (none_inside inside (change right left) zs (each_weaker (λ x. TurnsFar p q x) (λ x. inside x ≡ false) (λ x h. not_between v (far p) (far q) (far x) h) zs t.2))
        (leads_parts right left (left p) w ys q zs k.1).0
      where
        sum : (a b c d e f r l : ℤ) → a ≡ pos 0 → b ≡ pos 0 → c ≡ f → d ≡ pos 0 → e ≡ pos 0 → f ≡ r -ℤ l → a +ℤ (b +ℤ (c +ℤ (d +ℤ e))) ≡ r -ℤ l
        sum a b c d e f r l g h i j k m = omega (arith, ints)

    -- q comes first
    backward : (w : ℤ) (xs ys zs : List A) → Triples TurnsFar (xs ++ q ∷ (ys ++ p ∷ zs)) → Leads right left w w (xs ++ q ∷ (ys ++ p ∷ zs))
        → total changed (xs ++ q ∷ (ys ++ p ∷ zs)) ≡ right q -ℤ left p
    backward w xs ys zs order leads =
        let t = three_of TurnsFar xs q ys p zs order in
        let k = leads_parts right left w w xs q (ys ++ p ∷ zs) leads in
        let m = leads_parts right left (left q) w ys p zs k.1 in
        total_about inside (change right left) xs q ys p zs
        ∙ sum (total changed xs) (changed q) (total changed ys) (changed p) (total changed zs) (total (change right left) xs) (total (change right left) zs) (right q) (left p) w
        (all_inside inside (change right left) xs
        (each_weaker (λ x. TurnsFar x q p) (λ x. inside x ≡ true) (λ x h. between_is v (far p) (far q) (far x) (turns_on false v (far q) (far p) (far x) (turns_on false v (far x) (far q) (far p) h))) xs t.0))
        (nothing q (second_not_between v (far p) (far q)))
        (none_inside inside (change right left) ys
        (each_weaker (λ x. TurnsFar q x p) (λ x. inside x ≡ false) (λ x h. not_between v (far p) (far q) (far x) (turns_on false v (far x) (far p) (far q) (turns_on false v (far q) (far x) (far p) h))) ys t.1))
        (nothing p (first_not_between v (far p) (far q)))
        (all_inside inside (change right left) zs (each_weaker (λ x. TurnsFar q p x) (λ x. inside x ≡ true) (λ x h. between_is v (far p) (far q) (far x) (turns_on false v (far q) (far p) (far x) h)) zs t.2))
        k.0
        (leads_whole right left (left p) w zs m.1)
      where
        sum : (a b c d e f g r l w : ℤ) → a ≡ f → b ≡ pos 0 → c ≡ pos 0 → d ≡ pos 0 → e ≡ g → f ≡ r -ℤ w → g ≡ w -ℤ l → a +ℤ (b +ℤ (c +ℤ (d +ℤ e))) ≡ r -ℤ l
        sum a b c d e f g r l w h i j k m n o = omega (arith, ints)

    -- what changes in the sector leads from what is left of p to what is right of q
    pub sector : (w : ℤ) (xs : List A) → Has xs p → Has xs q → (p ≡ q → ⊥) → Triples TurnsFar xs → Leads right left w w xs → total changed xs ≡ right q -ℤ left p
    sector w xs here there differ order leads = by (about xs p here)
      where
        at : (zs : List A) → xs ≡ zs → (Triples TurnsFar zs → Leads right left w w zs → total changed zs ≡ right q -ℤ left p) → total changed xs ≡ right q -ℤ left p
        at zs is told = ap (total changed) is ∙ told (subst (Triples TurnsFar) is order) (subst (Leads right left w w) is leads)

        by : About xs p → total changed xs ≡ right q -ℤ left p
        by a = found (in_parts a.front p a.back q (subst (λ l. Has l q) a.is there))
          where
            found : Has a.front q ⊎ ((p ≡ q) ⊎ Has a.back q) → total changed xs ≡ right q -ℤ left p
            found (inl h) =
                let b = about a.front q h in
                at (b.front ++ q ∷ (b.back ++ p ∷ a.back)) (a.is ∙ (ap (λ l. l ++ p ∷ a.back) b.is ∙ append_assoc b.front (q ∷ b.back) (p ∷ a.back)))
                (backward w b.front b.back a.back)
            found (inr (inl e)) = absurd (differ e)
            found (inr (inr h)) =
                let b = about a.back q h in
                at (a.front ++ p ∷ (b.front ++ q ∷ b.back)) (a.is ∙ ap (λ l. a.front ++ p ∷ l) b.is) (forward w a.front b.front b.back)

-- The steps of a loop that comes to no point twice: one to each of its points and one from each, and none back along another.
use Rattle.std.proofs.Common.{◌≡◌, ◌≢◌, ◌⊎◌, inl, inr, ◌≤◌, List, [], ◌∷◌, length, refl, sym, ap, ◌∙◌, arith}
use Rattle.plane_base.specs.Plane.{Point, Edge}
use Rattle.contour_walk.specs.WalkLaws.{steps_to, contour_steps}
use Rattle.contour_walk.proofs.Facts.Walks.Turns.{Has}
use Rattle.contour_walk.proofs.Facts.Walks.Rings.{Pairs, each_has}

-- ---- the points of steps

start_in : (first : Point) (points : List Point) (s : Edge) → Has (steps_to first points) s → Has points s.a
start_in first [] s h = absurd h
start_in first (p ∷ []) s (inl e) = inl (ap (λ (t : Edge). t.a) e)
start_in first (p ∷ []) s (inr h) = absurd h
start_in first (p ∷ q ∷ rest) s (inl e) = inl (ap (λ (t : Edge). t.a) e)
start_in first (p ∷ q ∷ rest) s (inr h) = inr (start_in first (q ∷ rest) s h)

end_in : (first p : Point) (rest : List Point) (s : Edge) → Has (steps_to first (p ∷ rest)) s → (first ≡ s.b) ⊎ Has rest s.b
end_in first p [] s (inl e) = inl (ap (λ (t : Edge). t.b) e)
end_in first p [] s (inr h) = absurd h
end_in first p (q ∷ rest) s (inl e) = inr (inl (ap (λ (t : Edge). t.b) e))
end_in first p (q ∷ rest) s (inr h) = by (end_in first q rest s h)
  where
    by : (first ≡ s.b) ⊎ Has rest s.b → (first ≡ s.b) ⊎ Has (q ∷ rest) s.b
    by (inl e) = inl e
    by (inr k) = inr (inr k)

step_from : (first : Point) (points : List Point) (p : Point) → Has points p → (s : Edge) × Has (steps_to first points) s × (s.a ≡ p)
step_from first [] p h = absurd h
step_from first (q ∷ []) p (inl e) = (record { a = q; b = first }, inl refl, e)
step_from first (q ∷ []) p (inr h) = absurd h
step_from first (q ∷ r ∷ rest) p (inl e) = (record { a = q; b = r }, inl refl, e)
step_from first (q ∷ r ∷ rest) p (inr h) = let t = step_from first (r ∷ rest) p h in (t.0, inr t.1, t.2)

-- the last step leads to the first point
step_home : (first p : Point) (rest : List Point) → (s : Edge) × Has (steps_to first (p ∷ rest)) s × (s.b ≡ first)
step_home first p [] = (record { a = p; b = first }, inl refl, refl)
step_home first p (q ∷ rest) = let t = step_home first q rest in (t.0, inr t.1, t.2)

step_on : (first p : Point) (rest : List Point) (q : Point) → Has rest q → (s : Edge) × Has (steps_to first (p ∷ rest)) s × (s.b ≡ q)
step_on first p [] q h = absurd h
step_on first p (r ∷ rest) q (inl e) = (record { a = p; b = r }, inl refl, e)
step_on first p (r ∷ rest) q (inr h) = let t = step_on first r rest q h in (t.0, inr t.1, t.2)

pub contour_start_in : (points : List Point) (s : Edge) → Has (contour_steps points) s → Has points s.a
contour_start_in [] s h = absurd h
contour_start_in (p ∷ rest) s h = start_in p (p ∷ rest) s h

pub contour_end_in : (points : List Point) (s : Edge) → Has (contour_steps points) s → Has points s.b
contour_end_in [] s h = absurd h
contour_end_in (p ∷ rest) s h = end_in p p rest s h

pub contour_step_from : (points : List Point) (p : Point) → Has points p → (s : Edge) × Has (contour_steps points) s × (s.a ≡ p)
contour_step_from [] p h = absurd h
contour_step_from (q ∷ rest) p h = step_from q (q ∷ rest) p h

pub contour_step_to : (points : List Point) (p : Point) → Has points p → (s : Edge) × Has (contour_steps points) s × (s.b ≡ p)
contour_step_to [] p h = absurd h
contour_step_to (q ∷ rest) p (inl e) = let t = step_home q q rest in (t.0, t.1, t.2 ∙ e)
contour_step_to (q ∷ rest) p (inr h) = step_on q q rest p h

-- ---- points that differ

abbrev pub AreOnce : List Point → Type 0
AreOnce points = Pairs (λ p r. p ≢ r) points

module _ (first : Point) where
  abbrev IsOutside : List Point → Type 0
  IsOutside points = (p : Point) → Has points p → first ≢ p

  one_start : (points : List Point) → AreOnce points → (s t : Edge) → Has (steps_to first points) s → Has (steps_to first points) t → s.a ≡ t.a → s ≡ t
  one_start [] once s t h k same = absurd h
  one_start (p ∷ []) once s t (inl e) (inl f) same = sym e ∙ f
  one_start (p ∷ []) once s t (inl e) (inr k) same = absurd k
  one_start (p ∷ []) once s t (inr h) k same = absurd h
  one_start (p ∷ q ∷ rest) once s t (inl e) (inl f) same = sym e ∙ f
  one_start (p ∷ q ∷ rest) once s t (inl e) (inr k) same = absurd (each_has (λ r. p ≢ r) (q ∷ rest) t.a once.0 (start_in first (q ∷ rest) t k) (ap (λ (x : Edge). x.a) e ∙ same))
  one_start (p ∷ q ∷ rest) once s t (inr h) (inl f) same = absurd (each_has (λ r. p ≢ r) (q ∷ rest) s.a once.0 (start_in first (q ∷ rest) s h) (ap (λ (x : Edge). x.a) f ∙ sym same))
  one_start (p ∷ q ∷ rest) once s t (inr h) (inr k) same = one_start (q ∷ rest) once.1 s t h k same

  one_end : (p : Point) (rest : List Point) → AreOnce rest → IsOutside rest → (s t : Edge) → Has (steps_to first (p ∷ rest)) s → Has (steps_to first (p ∷ rest)) t → s.b ≡ t.b → s ≡ t
  one_end p [] once outside s t (inl e) (inl f) same = sym e ∙ f
  one_end p [] once outside s t (inl e) (inr k) same = absurd k
  one_end p [] once outside s t (inr h) k same = absurd h
  one_end p (q ∷ rest) once outside s t (inl e) (inl f) same = sym e ∙ f
  one_end p (q ∷ rest) once outside s t (inl e) (inr k) same = absurd (other_end (end_in first q rest t k))
    where
      end_is : q ≡ t.b
      end_is = ap (λ (x : Edge). x.b) e ∙ same

      other_end : (first ≡ t.b) ⊎ Has rest t.b → ⊥
      other_end (inl h) = outside q (inl refl) (h ∙ sym end_is)
      other_end (inr h) = each_has (λ r. q ≢ r) rest t.b once.0 h end_is
  one_end p (q ∷ rest) once outside s t (inr h) (inl f) same = absurd (other_end (end_in first q rest s h))
    where
      end_is : q ≡ s.b
      end_is = ap (λ (x : Edge). x.b) f ∙ sym same

      other_end : (first ≡ s.b) ⊎ Has rest s.b → ⊥
      other_end (inl k) = outside q (inl refl) (k ∙ sym end_is)
      other_end (inr k) = each_has (λ r. q ≢ r) rest s.b once.0 k end_is
  one_end p (q ∷ rest) once outside s t (inr h) (inr k) same = one_end q rest once.1 (λ r r_in. outside r (inr r_in)) s t h k same

  -- on the way to a point outside none goes back along another
  no_way_back : (points : List Point) → AreOnce points → IsOutside points → (s t : Edge) → Has (steps_to first points) s → Has (steps_to first points) t → s.a ≡ t.b → s.b ≡ t.a → ⊥
  no_way_back [] once outside s t h k here there = absurd h
  no_way_back (p ∷ []) once outside s t (inl e) (inl f) here there = outside p (inl refl) (sym (ap (λ (x : Edge). x.a) e ∙ (here ∙ sym (ap (λ (x : Edge). x.b) f))))
  no_way_back (p ∷ []) once outside s t (inl e) (inr k) here there = absurd k
  no_way_back (p ∷ []) once outside s t (inr h) k here there = absurd h
  no_way_back (p ∷ q ∷ rest) once outside s t (inl e) (inl f) here there = each_has (λ r. p ≢ r) (q ∷ rest) q once.0 (inl refl) (ap (λ (x : Edge). x.a) e ∙ (here ∙ sym (ap (λ (x : Edge). x.b) f)))
  no_way_back (p ∷ q ∷ rest) once outside s t (inl e) (inr k) here there = by (end_in first q rest t k)
    where
      start_is : p ≡ t.b
      start_is = ap (λ (x : Edge). x.a) e ∙ here

      by : (first ≡ t.b) ⊎ Has rest t.b → ⊥
      by (inl h) = outside p (inl refl) (h ∙ sym start_is)
      by (inr h) = each_has (λ r. p ≢ r) (q ∷ rest) t.b once.0 (inr h) start_is
  no_way_back (p ∷ q ∷ rest) once outside s t (inr h) (inl f) here there = by (end_in first q rest s h)
    where
      start_is : p ≡ s.b
      start_is = ap (λ (x : Edge). x.a) f ∙ sym there

      by : (first ≡ s.b) ⊎ Has rest s.b → ⊥
      by (inl k) = outside p (inl refl) (k ∙ sym start_is)
      by (inr k) = each_has (λ r. p ≢ r) (q ∷ rest) s.b once.0 (inr k) start_is
  no_way_back (p ∷ q ∷ rest) once outside s t (inr h) (inr k) here there = no_way_back (q ∷ rest) once.1 (λ r r_in. outside r (inr r_in)) s t h k here there

-- ---- loops

pub one_from : (points : List Point) → AreOnce points → (s t : Edge) → Has (contour_steps points) s → Has (contour_steps points) t → s.a ≡ t.a → s ≡ t
one_from [] once s t h k same = absurd h
one_from (p ∷ rest) once s t h k same = one_start p (p ∷ rest) once s t h k same

pub one_to : (points : List Point) → AreOnce points → (s t : Edge) → Has (contour_steps points) s → Has (contour_steps points) t → s.b ≡ t.b → s ≡ t
one_to [] once s t h k same = absurd h
one_to (p ∷ rest) once s t h k same = one_end p p rest once.1 (λ r r_in. each_has (λ q. p ≢ q) rest r once.0 r_in) s t h k same

pub none_back : (points : List Point) → AreOnce points → 3 ≤ length points → (s t : Edge) → Has (contour_steps points) s → Has (contour_steps points) t → s.a ≡ t.b → s.b ≡ t.a → ⊥
none_back [] once long s t h k here there = absurd h
none_back (p ∷ []) once long s t h k here there = absurd (omega (arith, long))
none_back (p ∷ q ∷ []) once long s t h k here there = absurd (omega (arith, long))
none_back (p ∷ q ∷ r ∷ rest) once long s t h k here there = by h k
  where
    outside : (x : Point) → Has (q ∷ r ∷ rest) x → p ≢ x
    outside x x_in = each_has (λ y. p ≢ y) (q ∷ r ∷ rest) x once.0 x_in

    -- a step from the second point leads to the third, and not to the first
    second : (x : Edge) → Has (steps_to p (q ∷ r ∷ rest)) x → q ≡ x.a → p ≡ x.b → ⊥
    second x x_in start end =
        let is : record { a = q; b = r } ≡ x = one_start p (q ∷ r ∷ rest) once.1 (record { a = q; b = r }) x (inl refl) x_in start in
        outside r (inr (inl refl)) (end ∙ sym (ap (λ (y : Edge). y.b) is))

    by : Has (contour_steps (p ∷ q ∷ r ∷ rest)) s → Has (contour_steps (p ∷ q ∷ r ∷ rest)) t → ⊥
    by (inl e) (inl f) = outside q (inl refl) (ap (λ (x : Edge). x.a) e ∙ (here ∙ sym (ap (λ (x : Edge). x.b) f)))
    by (inl e) (inr l) = second t l (ap (λ (x : Edge). x.b) e ∙ there) (ap (λ (x : Edge). x.a) e ∙ here)
    by (inr l) (inl f) = second s l (ap (λ (x : Edge). x.b) f ∙ sym here) (ap (λ (x : Edge). x.a) f ∙ sym there)
    by (inr l) (inr m) = no_way_back p (q ∷ r ∷ rest) once.1 outside s t l m here there

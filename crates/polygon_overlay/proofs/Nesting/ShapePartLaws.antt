-- Of which contours the shapes consist: each of an outline and of the holes that it owns.
use Rattle.std.proofs.Common.{◌≡◌, ℕ, zero, suc, ◌+◌, Bool, true, false, cond, List, [], ◌∷◌, length, Contains, ◌⊎◌, inl, inr, refl, sym, ap, ◌∙◌, subst, arith}
use Rattle.std.specs.Prelude.{Option, Some, None}
use Rattle.std.proofs.lemmas.Bool.{false≢true, eq-eqb, eqb-true}
use Rattle.plane_base.specs.Plane.{Point}
use Rattle.segment_arrangement.proofs.Facts.GreatestEntry.{Contains-head, Contains-later, Contains-cases}
use Rattle.contour_walk.specs.Walks.{Border, Contour}
use Rattle.contour_walk.specs.Binding.{contour_at, hole_owner}
use Rattle.contour_walk.specs.Shapes.{is_owned_by, holes_from, shapes_from}

owned_tells : (n : ℕ) (r : Option ℕ) → is_owned_by n r ≡ true → r ≡ Some n
owned_tells n None e = absurd (false≢true e)
owned_tells n (Some m) e = ap Some (eqb-true m n e)

owned_holds : (n : ℕ) (r : Option ℕ) → r ≡ Some n → is_owned_by n r ≡ true
owned_holds n r e = ap (is_owned_by n) e ∙ eq-eqb n n refl

module _ (links : List Border) (all : List Contour) where
  abbrev owner : ℕ → Option ℕ
  owner k = hole_owner links all (length all) k

  module _ (outline : ℕ) where
    -- a hole that stands at a place of the list, and that the outline owns
    record IsHoleAt (n : ℕ) (cs : List Contour) (d : List Point) : Type 0 where
      place : ℕ
      contour : Contour
      at : contour_at cs place ≡ Some contour
      hole : contour.is_hole ≡ true
      owned : is_owned_by outline (owner (n + place)) ≡ true
      is : contour.points ≡ d

    holes_tell : (n : ℕ) (cs : List Contour) (d : List Point) → Contains (holes_from links all outline n cs) d → IsHoleAt n cs d
    holes_tell n [] d here = absurd (omega (arith, here.1))
    holes_tell n (c ∷ cs) d here = by c.is_hole refl (is_owned_by outline (owner n)) refl here (holes_tell (suc n) cs d)
      where
        rest : List (List Point)
        rest = holes_from links all outline (suc n) cs

        later : IsHoleAt (suc n) cs d → IsHoleAt n (c ∷ cs) d
        later h = record {
          place = suc h.place;
          contour = h.contour;
          at = h.at;
          hole = h.hole;
          owned = let same : n + suc h.place ≡ suc n + h.place = omega arith in ap (λ k. is_owned_by outline (owner k)) same ∙ h.owned;
          is = h.is;
        }

        first : c.is_hole ≡ true → is_owned_by outline (owner n) ≡ true → (c.points ≡ d) ⊎ Contains rest d → (Contains rest d → IsHoleAt (suc n) cs d) → IsHoleAt n (c ∷ cs) d
        first hole owned (inl e) more = record {
          place = zero;
          contour = c;
          at = refl;
          hole = hole;
          owned = let same : n + zero ≡ n = omega arith in ap (λ k. is_owned_by outline (owner k)) same ∙ owned;
          is = e;
        }
        first hole owned (inr k) more = later (more k)

        by : (b : Bool) → c.is_hole ≡ b → (o : Bool) → is_owned_by outline (owner n) ≡ o → Contains (cond b (cond o (c.points ∷ rest) rest) rest) d
            → (Contains rest d → IsHoleAt (suc n) cs d) → IsHoleAt n (c ∷ cs) d
        by true e true f k more = first e f (Contains-cases c.points rest d k) more
        by true e false f k more = later (more k)
        by false e o f k more = later (more k)

    holes_hold : (n : ℕ) (cs : List Contour) (m : ℕ) (c : Contour) → contour_at cs m ≡ Some c → c.is_hole ≡ true → owner (n + m) ≡ Some outline
        → Contains (holes_from links all outline n cs) c.points
    holes_hold n [] m c at hole owned = absurd (cc)
    holes_hold n (d ∷ cs) zero c at hole owned =
        let same : d ≡ c = cc in
        subst (λ b. Contains (cond b (cond (is_owned_by outline (owner n)) (d.points ∷ rest) rest) rest) c.points) (sym (ap (λ (c : Contour). c.is_hole) same ∙ hole))
        (subst (λ b. Contains (cond b (d.points ∷ rest) rest) c.points) (sym (owned_holds outline (owner n) (ap owner here ∙ owned)))
        (subst (λ (z : Contour). Contains (d.points ∷ rest) z.points) same (Contains-head d.points rest)))
      where
        rest : List (List Point)
        rest = holes_from links all outline (suc n) cs

        here : n ≡ n + zero
        here = omega arith
    holes_hold n (d ∷ cs) (suc m) c at hole owned =
        by d.is_hole (is_owned_by outline (owner n)) (holes_hold (suc n) cs m c at hole (let same : suc n + m ≡ n + suc m = omega arith in ap owner same ∙ owned))
      where
        rest : List (List Point)
        rest = holes_from links all outline (suc n) cs

        by : (b o : Bool) → Contains rest c.points → Contains (cond b (cond o (d.points ∷ rest) rest) rest) c.points
        by true true k = Contains-later d.points rest c.points k
        by true false k = k
        by false o k = k

  -- ---- a shape

  abbrev pub shape_of : ℕ → Contour → List (List Point)
  shape_of n c = c.points ∷ holes_from links all n zero all

  -- the contour is the outline itself, or one of its holes
  abbrev pub IsPart : ℕ → ℕ → Contour → Type 0
  IsPart outline m c = (contour_at all m ≡ Some c) × ((m ≡ outline) ⊎ ((c.is_hole ≡ true) × (hole_owner links all (length all) m ≡ Some outline)))

  pub parts_in : (outline : ℕ) (o : Contour) → contour_at all outline ≡ Some o → (m : ℕ) (c : Contour) → IsPart outline m c → Contains (shape_of outline o) c.points
  parts_in outline o stands m c (at, inl same) =
      let is : o ≡ c = inside o c (sym stands ∙ (ap (contour_at all) (sym same) ∙ at)) in
      subst (λ (z : Contour). Contains (shape_of outline o) z.points) is (Contains-head o.points (holes_from links all outline zero all))
    where
      inside : (s t : Contour) → Some s ≡ Some t → s ≡ t
      inside s t e = cc
  parts_in outline o stands m c (at, inr (hole, owned)) =
      Contains-later o.points (holes_from links all outline zero all) c.points
      (holes_hold outline zero all m c at hole (let same : 0 + m ≡ m = omega arith in ap owner same ∙ owned))

  pub in_parts : (outline : ℕ) (o : Contour) → contour_at all outline ≡ Some o → (d : List Point) → Contains (shape_of outline o) d
      → (m : ℕ) × (c : Contour) × IsPart outline m c × (c.points ≡ d)
  in_parts outline o stands d here = by (Contains-cases o.points (holes_from links all outline zero all) d here)
    where
      found : IsHoleAt outline zero all d → (m : ℕ) × (c : Contour) × IsPart outline m c × (c.points ≡ d)
      found h =
          let same : 0 + h.place ≡ h.place = omega arith in
          (h.place, h.contour, (h.at, inr (h.hole, ap owner (sym same) ∙ owned_tells outline (owner (0 + h.place)) h.owned)), h.is)

      by : (o.points ≡ d) ⊎ Contains (holes_from links all outline zero all) d → (m : ℕ) × (c : Contour) × IsPart outline m c × (c.points ≡ d)
      by (inl e) = (outline, o, (stands, inl refl), e)
      by (inr k) = found (holes_tell outline zero all d k)

  -- each of the shapes is an outline's
  pub shapes_tell : (n : ℕ) (cs : List Contour) (s : List (List Point)) → Contains (shapes_from links all n cs) s
      → (m : ℕ) × (c : Contour) × (contour_at cs m ≡ Some c) × (c.is_hole ≡ false) × (s ≡ shape_of (n + m) c)
  shapes_tell n [] s here = absurd (omega (arith, here.1))
  shapes_tell n (c ∷ cs) s here = by c.is_hole refl here (shapes_tell (suc n) cs s)
    where
      rest : List (List (List Point))
      rest = shapes_from links all (suc n) cs

      Later : Type 0
      Later = (m : ℕ) × (d : Contour) × (contour_at cs m ≡ Some d) × (d.is_hole ≡ false) × (s ≡ shape_of (suc n + m) d)

      Found : Type 0
      Found = (m : ℕ) × (d : Contour) × (contour_at (c ∷ cs) m ≡ Some d) × (d.is_hole ≡ false) × (s ≡ shape_of (n + m) d)

      later : Later → Found
      later (m, d, at, solid, is) = (suc m, d, at, solid, is ∙ (let same : suc n + m ≡ n + suc m = omega arith in ap (λ k. shape_of k d) same))

      first : c.is_hole ≡ false → (shape_of n c ≡ s) ⊎ Contains rest s → (Contains rest s → Later) → Found
      first solid (inl e) more = (zero, c, refl, solid, sym e ∙ (let same : n ≡ n + zero = omega arith in ap (λ k. shape_of k c) same))
      first solid (inr k) more = later (more k)

      by : (b : Bool) → c.is_hole ≡ b → Contains (cond b rest (shape_of n c ∷ rest)) s → (Contains rest s → Later) → Found
      by true e k more = later (more k)
      by false e k more = first e (Contains-cases (shape_of n c) rest s k) more

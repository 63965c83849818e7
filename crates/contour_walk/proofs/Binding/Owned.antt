-- The edges of contours with their numbers, and the way down along them.
use Rattle.std.proofs.Common.{◌≡◌, ℕ, zero, suc, ◌+◌, Bool, true, false, cond, List, [], ◌∷◌, map, filter, Contains, ◌⊎◌, inl, inr, refl, sym, ap, ◌∙◌, subst, arith}
use Rattle.std.specs.Prelude.{Option, Some, None}
use Rattle.std.proofs.lemmas.List.Elements.{Contains-append_left, Contains-append_right, Contains-append_cases}
use Rattle.plane_base.specs.Plane.{Edge}
use Rattle.plane_base.specs.Segments.{precedes}
use Rattle.segment_arrangement.proofs.Facts.ConstantSides.{Contains-map}
use Rattle.segment_arrangement.proofs.Facts.GreatestEntry.{Contains-head, Contains-later}
use Rattle.contour_walk.specs.Walks.{Border, Contour, contour_edges}
use Rattle.contour_walk.specs.Binding.{Owned, is_above, owned_from, higher, highest, way_down, contour_at}
use Rattle.contour_walk.specs.BindingLaws.{is_wanted}
use Rattle.contour_walk.proofs.Facts.Binding.Lists.{map_tells, filter_holds, filter_tells}

-- ---- contours by number

pub contour_there : (cs : List Contour) (n : ℕ) (c : Contour) → contour_at cs n ≡ Some c → Contains cs c
contour_there [] n c e = absurd (cc)
contour_there (d ∷ cs) zero c e = subst (Contains (d ∷ cs)) (cc) (Contains-head d cs)
contour_there (d ∷ cs) (suc n) c e = Contains-later d cs c (contour_there cs n c e)

module _ (links : List Border) where
  abbrev owned : ℕ → Edge → Owned
  owned n s = record { edge = s; above = is_above links s; contour = n }

  pub record IsOwned (cs : List Contour) (n : ℕ) (o : Owned) : Type 0 where
    pub place : ℕ
    pub number : o.contour ≡ n + place
    pub contour : Contour
    pub at : contour_at cs place ≡ Some contour
    pub here : Contains (contour_edges contour.points) o.edge
    pub above : o.above ≡ is_above links o.edge

  pub owned_tells : (n : ℕ) (cs : List Contour) (o : Owned) → Contains (owned_from links n cs) o → IsOwned cs n o
  owned_tells n [] o here = absurd (omega (arith, here.1))
  owned_tells n (c ∷ cs) o here = by (Contains-append_cases (map (owned n) (contour_edges c.points)) (owned_from links (suc n) cs) o here) (owned_tells (suc n) cs o)
    where
      later : IsOwned cs (suc n) o → IsOwned (c ∷ cs) n o
      later h = record {
        place = suc h.place;
        number = h.number ∙ omega arith;
        contour = h.contour;
        at = h.at;
        here = h.here;
        above = h.above;
      }

      first : (s : Edge) → Contains (contour_edges c.points) s → owned n s ≡ o → IsOwned (c ∷ cs) n o
      first s there same = record {
        place = zero;
        number = ap (λ (x : Owned). x.contour) (sym same) ∙ omega arith;
        contour = c;
        at = refl;
        here = subst (λ (x : Owned). Contains (contour_edges c.points) x.edge) same there;
        above = subst (λ (x : Owned). x.above ≡ is_above links x.edge) same refl;
      }

      by : Contains (map (owned n) (contour_edges c.points)) o ⊎ Contains (owned_from links (suc n) cs) o → (Contains (owned_from links (suc n) cs) o → IsOwned cs (suc n) o) → IsOwned (c ∷ cs) n o
      by (inl h) rest = let m = map_tells (owned n) (contour_edges c.points) o h in first m.0 m.1 m.2
      by (inr h) rest = later (rest h)

  pub owned_holds : (n : ℕ) (cs : List Contour) (c : Contour) (s : Edge) → Contains cs c → Contains (contour_edges c.points) s → (m : ℕ) × Contains (owned_from links n cs) (owned m s)
  owned_holds n [] c s here there = absurd (omega (arith, here.1))
  owned_holds n (d ∷ cs) c s (zero, l, e) there =
      (n, Contains-append_left (map (owned n) (contour_edges d.points)) (owned_from links (suc n) cs) (owned n s) (Contains-map (owned n) (contour_edges d.points) s (subst (λ (z : Contour). Contains (contour_edges z.points) s) (sym e) there)))
  owned_holds n (d ∷ cs) c s (suc k, l, e) there =
      let h = owned_holds (suc n) cs c s (k, omega (arith, l), e) there in
      (h.0, Contains-append_right (map (owned n) (contour_edges d.points)) (owned_from links (suc n) cs) (owned h.0 s) h.1)

-- ---- the way down

highest_there : (os : List Owned) (o : Owned) → highest os ≡ Some o → Contains os o
highest_there [] o e = absurd (cc)
highest_there (p ∷ os) o e = by (highest os) refl e (highest_there os)
  where
    held : (q : Owned) → Contains os q → (b : Bool) → cond b q p ≡ o → Contains (p ∷ os) o
    held q there true same = Contains-later p os o (subst (Contains os) same there)
    held q there false same = subst (Contains (p ∷ os)) same (Contains-head p os)

    by : (r : Option Owned) → highest os ≡ r → Some (higher p r) ≡ Some o → ((q : Owned) → highest os ≡ Some q → Contains os q) → Contains (p ∷ os) o
    by None f e rest = subst (Contains (p ∷ os)) (cc) (Contains-head p os)
    by (Some q) f e rest = held q (rest q f) (precedes p.edge q.edge) (cc)

has_highest : (os : List Owned) (o : Owned) → Contains os o → (p : Owned) × (highest os ≡ Some p)
has_highest [] o here = absurd (omega (arith, here.1))
has_highest (p ∷ os) o here = (higher p (highest os), refl)

pub way_down_tells : (os : List Owned) (above : Bool) (e : Edge) (o : Owned) → way_down os above e ≡ Some o → Contains os o × (is_wanted above e o ≡ true)
way_down_tells os above e o found = filter_tells (is_wanted above e) os o (highest_there (filter (is_wanted above e) os) o found)

pub way_down_holds : (os : List Owned) (above : Bool) (e : Edge) (o : Owned) → Contains os o → is_wanted above e o ≡ true → (p : Owned) × (way_down os above e ≡ Some p)
way_down_holds os above e o here passes = has_highest (filter (is_wanted above e) os) o (filter_holds (is_wanted above e) os o here passes)

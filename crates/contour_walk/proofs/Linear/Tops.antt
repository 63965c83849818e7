-- The topmost link that is left where a link starts, by its place.
use Rattle.std.proofs.Common.{◌≡◌, ℕ, zero, suc, ◌+◌, ◌<◌, Bool, true, false, cond, ◌&&◌, pos, int_lt, List, [], ◌∷◌, ◌++◌, length, get_or, Option, Some, None, refl, ap, ◌∙◌, arith}
use Rattle.std.proofs.lemmas.Bool.{and_from}
use Rattle.plane_base.specs.Plane.{Point, turn}
use Rattle.segment_arrangement.specs.declared.graph.VisitState.{VisitState}
use Rattle.segment_arrangement.specs.declared.graph.VisitState.TheVariants.{Skipped}
use Rattle.contour_walk.specs.Walks.{Border, same_point, upper, top_link}
use Rattle.contour_walk.specs.Nearest.{Numbered}
use Rattle.contour_walk.specs.LinearWalks.{is_left, left_of, spokes_from, upper_of, top_of}
use Rattle.contour_walk.proofs.Walks.Links.{same_point_is, same_point_itself}
use Rattle.contour_walk.proofs.Linear.Spokes.{edges_of_links}

-- the topmost of the links that are left, by its place
pub record IsTop (v : Point) (ls : List Border) (ss : List VisitState) (i : ℕ) (m : Numbered) : Type 0 where
  pub inside : i < length ls
  pub left : is_left (get_or ss i Skipped) ≡ true
  pub starts : (d : Border) → (get_or ls i d).edge.a ≡ v
  pub ends : (d : Border) → (get_or ls i d).edge.b ≡ m.point
  pub top : (d : Border) → top_link v (left_of ls ss) ≡ Some (get_or ls i d)

-- what is found at the places from n on is the topmost, or there is none
abbrev pub Tops : ℕ → Point → List Border → List VisitState → Option Numbered → Type 0
Tops n v ls ss None = top_link v (left_of ls ss) ≡ None
Tops n v ls ss (Some m) = (i : ℕ) × (m.id ≡ n + i) × IsTop v ls ss i m

-- one link more
module _ (n : ℕ) (v : Point) (l : Border) (ls : List Border) (s : VisitState) (ss : List VisitState) where
  skipped : top_link v (left_of (l ∷ ls) (s ∷ ss)) ≡ top_link v (left_of ls ss) → (o : Option Numbered) → Tops (n + 1) v ls ss o → Tops n v (l ∷ ls) (s ∷ ss) o
  skipped e None h = e ∙ h
  skipped e (Some m) h = (
    suc h.0,
    omega (arith, h.1),
    record { inside = omega (arith, (h.2).inside); left = (h.2).left; starts = (h.2).starts; ends = (h.2).ends; top = λ d. e ∙ (h.2).top d },
  )

  abbrev here : Numbered
  here = record { point = l.edge.b; id = n }

  beside : is_left s ≡ true → l.edge.a ≡ v → top_link v (left_of (l ∷ ls) (s ∷ ss)) ≡ Some (upper l (top_link v (left_of ls ss))) → (o : Option Numbered) → Tops (n + 1) v ls ss o
      → Tops n v (l ∷ ls) (s ∷ ss) (Some (upper_of v here o))
  beside left at e None h =
      (zero, omega arith, record { inside = omega arith; left = left; starts = λ d. at; ends = λ d. refl; top = λ d. e ∙ ap (λ o. Some (upper l o)) h })
  beside left at e (Some m) h = by (int_lt (pos 0) (turn v l.edge.b m.point)) refl
    where
      joined : (b : Bool) → int_lt (pos 0) (turn v l.edge.b m.point) ≡ b → (d : Border) → top_link v (left_of (l ∷ ls) (s ∷ ss)) ≡ Some (cond b (get_or ls h.0 d) l)
      joined b f d =
          let same : int_lt (pos 0) (turn l.edge.a l.edge.b (get_or ls h.0 d).edge.b) ≡ b = (λ i. int_lt (pos 0) (turn (at i) l.edge.b ((h.2).ends d i))) ∙ f in
          e ∙ (ap (λ o. Some (upper l o)) ((h.2).top d) ∙ ap (λ b. Some (cond b (get_or ls h.0 d) l)) same)

      by : (b : Bool) → int_lt (pos 0) (turn v l.edge.b m.point) ≡ b → Tops n v (l ∷ ls) (s ∷ ss) (Some (cond b m here))
      by true f = (
        suc h.0,
        omega (arith, h.1),
        record { inside = omega (arith, (h.2).inside); left = (h.2).left; starts = (h.2).starts; ends = (h.2).ends; top = joined true f },
      )
      by false f = (zero, omega arith, record { inside = omega arith; left = left; starts = λ d. at; ends = λ d. refl; top = joined false f })

pub tops : (n : ℕ) (v : Point) (ls : List Border) (ss : List VisitState) → Tops n v ls ss (top_of v (spokes_from n true v (edges_of_links ls) ss))
tops n v [] ss = refl
tops n v (l ∷ ls) [] = refl
tops n v (l ∷ ls) (s ∷ ss) = by (is_left s) (same_point l.edge.a v) refl refl (tops (n + 1) v ls ss)
  where
    kept : (b : Bool) → is_left s ≡ b → top_link v (left_of (l ∷ ls) (s ∷ ss)) ≡ top_link v (cond b (l ∷ (left_of ls ss)) (left_of ls ss))
    kept b e = ap (λ b. top_link v (cond b (l ∷ (left_of ls ss)) (left_of ls ss))) e

    by : (b c : Bool) → is_left s ≡ b → same_point l.edge.a v ≡ c → Tops (n + 1) v ls ss (top_of v (spokes_from (n + 1) true v (edges_of_links ls) ss))
        → Tops n v (l ∷ ls) (s ∷ ss) (top_of v (cond (b && c) (record { point = l.edge.b; id = n } ∷ []) [] ++ spokes_from (n + 1) true v (edges_of_links ls) ss))
    by true true e f h = beside n v l ls s ss e (same_point_is l.edge.a v f) (kept true e ∙ ap (λ c. cond c (Some (upper l (top_link v (left_of ls ss)))) (top_link v (left_of ls ss))) f) (top_of v (spokes_from (n + 1) true v (edges_of_links ls) ss)) h
    by true false e f h = skipped n v l ls s ss (kept true e ∙ ap (λ c. cond c (Some (upper l (top_link v (left_of ls ss)))) (top_link v (left_of ls ss))) f) (top_of v (spokes_from (n + 1) true v (edges_of_links ls) ss)) h
    by false c e f h = skipped n v l ls s ss (kept false e) (top_of v (spokes_from (n + 1) true v (edges_of_links ls) ss)) h

-- there is one where a link starts that is left
pub some_top :
    (n : ℕ) (v : Point) (ls : List Border) (ss : List VisitState) (i : ℕ) → i < length ls → length ss ≡ length ls → is_left (get_or ss i Skipped) ≡ true → ((d : Border) → (get_or ls i d).edge.a ≡ v)
    → (m : Numbered) × (top_of v (spokes_from n true v (edges_of_links ls) ss) ≡ Some m)
some_top n v [] ss i inside as_many left at = absurd (omega arith)
some_top n v (l ∷ ls) [] i inside as_many left at = absurd (omega arith)
some_top n v (l ∷ ls) (s ∷ ss) zero inside as_many left at =
    let met : is_left s && same_point l.edge.a v ≡ true = and_from (is_left s) (same_point l.edge.a v) left (same_point_itself l.edge.a v (at l)) in (
      upper_of v (record { point = l.edge.b; id = n }) (top_of v (spokes_from (n + 1) true v (edges_of_links ls) ss)),
      ap (λ b. top_of v (cond b (record { point = l.edge.b; id = n } ∷ []) [] ++ spokes_from (n + 1) true v (edges_of_links ls) ss)) met,
    )
some_top n v (l ∷ ls) (s ∷ ss) (suc i) inside as_many left at = by (is_left s && same_point l.edge.a v) (some_top (n + 1) v ls ss i (omega arith) (omega arith) left at)
  where
    by : (b : Bool) → (m : Numbered) × (top_of v (spokes_from (n + 1) true v (edges_of_links ls) ss) ≡ Some m)
        → (m : Numbered) × (top_of v (cond b (record { point = l.edge.b; id = n } ∷ []) [] ++ spokes_from (n + 1) true v (edges_of_links ls) ss) ≡ Some m)
    by true h = (upper_of v (record { point = l.edge.b; id = n }) (top_of v (spokes_from (n + 1) true v (edges_of_links ls) ss)), refl)
    by false h = h

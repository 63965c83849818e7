-- A walk that marks its links leaves those that its contour doesn't pass, however many steps it may take.
use Rattle.std.proofs.Common.{◌≡◌, ℕ, zero, suc, ◌≤◌, Bool, true, false, cond, List, [], ◌∷◌, length, Option, Some, None, refl, sym, ap, ◌∙◌, arith}
use Rattle.std.proofs.lemmas.Bool.{false≢true}
use Rattle.std.proofs.lemmas.List.Sorted.{length_permutation}
use Rattle.plane_base.specs.Plane.{Point, Edge}
use Rattle.contour_walk.specs.Walks.{Border, same_edge, between, without, next_point, walked}
use Rattle.contour_walk.specs.LinearWalks.{left_after}
use Rattle.contour_walk.proofs.Facts.Walks.Laws.{walked_to_the_last, walked_on}
use Rattle.contour_walk.proofs.Walks.Links.{same_edge_is, same_edge_itself, AreLinks, Along, one_edge, one_goes}
use Rattle.contour_walk.proofs.Walks.Steps.{step, not_passed, not_passed_more, not_passed_last, IsWalking, GoesOn, goes_on, still_walking}

module _ (c : Bool) (last : Edge) (n : ℕ) (links : List Border) (v from w : Point) (next : next_point c links v from ≡ Some w) where
  abbrev after : Option Point → List Border
  after o =
      elim o [
        | None ↦ links
        | Some w ↦ cond (same_edge (between v w) last) (without (between v w) links) (left_after c last n (without (between v w) links) w v)
      ]

  pub left_at_last : same_edge (between v w) last ≡ true → left_after c last (suc n) links v from ≡ without (between v w) links
  left_at_last held = ap after next ∙ ap (λ b. cond b (without (between v w) links) (left_after c last n (without (between v w) links) w v)) held

  pub left_on : same_edge (between v w) last ≡ false → left_after c last (suc n) links v from ≡ left_after c last n (without (between v w) links) w v
  left_on other = ap after next ∙ ap (λ b. cond b (without (between v w) links) (left_after c last n (without (between v w) links) w v)) other

module _ (output c : Bool) (first second end : Point) where
  -- what so many steps give, and as many as there are links
  pub record Leaves (n m : ℕ) (links : List Border) (v from : Point) : Type 0 where
    pub tail : List Point
    pub is : walked c (between end first) n links v from ≡ v ∷ tail
    pub same : walked c (between end first) m links v from ≡ v ∷ tail
    pub left : left_after c (between end first) n links v from ≡ not_passed first (v ∷ tail) links

  fewer : (links : List Border) → AreLinks links → (v w : Point) → Along output links (step v w) → length links ≡ suc (length (without (between v w) links))
  fewer links are v w here = sym (length_permutation links (here.0 ∷ without (between v w) links) (one_goes output links are v w here))

  -- one step, and what comes after it
  leave_on : (n m : ℕ) (links : List Border) (v from w : Point) → IsWalking output c first second end links v from → GoesOn output c first second end links v from w
      → ((step v w ≡ step end first → ⊥) → Leaves n m (without (between v w) links) w v) → Leaves (suc n) (suc m) links v from
  leave_on n m links v from w h g behind = by (same_edge (between v w) (between end first)) refl
    where
      ended : step v w ≡ step end first → same_edge (between v w) (between end first) ≡ true → Leaves (suc n) (suc m) links v from
      ended at e = record {
        tail = [];
        is = walked_to_the_last c (between end first) (suc n) n links v from refl [] w g.next e;
        same = walked_to_the_last c (between end first) (suc m) m links v from refl [] w g.next e;
        left = left_at_last c (between end first) n links v from w g.next e ∙ (ap (λ (z : Point). without (between v z) links) (ap (λ (s : Edge). s.b) at) ∙ not_passed_last first v links);
      }

      onward : Leaves n m (without (between v w) links) w v → same_edge (between v w) (between end first) ≡ false → Leaves (suc n) (suc m) links v from
      onward k e = record {
        tail = w ∷ k.tail;
        is = walked_on c (between end first) (suc n) n links v from refl [] w g.next e ∙ ap (λ l. v ∷ l) k.is;
        same = walked_on c (between end first) (suc m) m links v from refl [] w g.next e ∙ ap (λ l. v ∷ l) k.same;
        left = left_on c (between end first) n links v from w g.next e ∙ (k.left ∙ not_passed_more first v w k.tail links);
      }

      by : (b : Bool) → same_edge (between v w) (between end first) ≡ b → Leaves (suc n) (suc m) links v from
      by true e = ended (one_edge output links h.are v w g.here (step end first) h.last_left (sym (same_edge_is (between v w) (between end first) e))) e
      by false e = onward (behind (λ at. false≢true (sym e ∙ same_edge_itself (between v w) (between end first) (ap (λ (s : Edge). between s.a s.b) at)))) e

  -- The links that a walk leaves are those that it doesn't pass, and as many steps as there are links are enough.
  pub leaves_not_passed : (n m : ℕ) (links : List Border) (v from : Point) → length links ≤ n → length links ≤ m → IsWalking output c first second end links v from → Leaves n m links v from
  leaves_not_passed zero m links v from short enough h = let e = fewer links h.are end first h.last_left in absurd (omega arith)
  leaves_not_passed (suc n) zero links v from short enough h = let e = fewer links h.are end first h.last_left in absurd (omega arith)
  leaves_not_passed (suc n) (suc m) links v from short enough h =
      let g = goes_on output c first second end links v from h in
      let e : length links ≡ suc (length (without (between v g.0) links)) = fewer links h.are v g.0 (g.1).here in
      leave_on n m links v from g.0 h g.1
      (λ other. leaves_not_passed n m (without (between v g.0) links) g.0 v (omega arith) (omega arith) (still_walking output c first second end links v from h g.0 g.1 other))

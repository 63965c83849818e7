-- Links that are left, by the states that stand beside them.
use Rattle.std.proofs.Common.{◌≡◌, ℕ, zero, suc, ◌<◌, Bool, true, false, not, cond, List, [], ◌∷◌, length, get_or, set, refl, sym, ap, ◌∙◌, subst, arith}
use Rattle.plane_base.specs.Plane.{Edge}
use Rattle.segment_arrangement.specs.declared.graph.VisitState.{VisitState}
use Rattle.segment_arrangement.specs.declared.graph.VisitState.TheVariants.{Skipped}
use Rattle.contour_walk.specs.Walks.{Border, same_edge, without}
use Rattle.contour_walk.specs.LinearWalks.{is_left, left_of, StayPassed}
use Rattle.contour_walk.proofs.Facts.Walks.Rings.{Each, Pairs}
use Rattle.contour_walk.proofs.Walks.Links.{same_edge_is, same_edge_itself}

pub each_at : {A : Type 0} (P : A → Type 0) (xs : List A) (i : ℕ) (d : A) → Each P xs → i < length xs → P (get_or xs i d)
each_at P [] i d h l = absurd (omega arith)
each_at P (x ∷ xs) zero d h l = h.0
each_at P (x ∷ xs) (suc i) d h l = each_at P xs i d h.1 (omega arith)

pub each_left : (P : Border → Type 0) (ls : List Border) (ss : List VisitState) → Each P ls → Each P (left_of ls ss)
each_left P [] ss h = tt
each_left P (l ∷ ls) [] h = tt
each_left P (l ∷ ls) (s ∷ ss) h = by (is_left s) (each_left P ls ss h.1)
  where
    by : (b : Bool) → Each P (left_of ls ss) → Each P (cond b (l ∷ left_of ls ss) (left_of ls ss))
    by true k = (h.0, k)
    by false k = k

pub pairs_left : (R : Border → Border → Type 0) (ls : List Border) (ss : List VisitState) → Pairs R ls → Pairs R (left_of ls ss)
pairs_left R [] ss h = tt
pairs_left R (l ∷ ls) [] h = tt
pairs_left R (l ∷ ls) (s ∷ ss) h = by (is_left s) (pairs_left R ls ss h.1)
  where
    by : (b : Bool) → Pairs R (left_of ls ss) → Pairs R (cond b (l ∷ left_of ls ss) (left_of ls ss))
    by true k = (each_left (R l) ls ss h.0, k)
    by false k = k

-- none goes where none has the edge
none_goes : (t : Edge) (links : List Border) → Each (λ m. t ≡ m.edge → ⊥) links → without t links ≡ links
none_goes t [] h = refl
none_goes t (m ∷ ms) h = by (same_edge m.edge t) refl (none_goes t ms h.1)
  where
    by : (b : Bool) → same_edge m.edge t ≡ b → without t ms ≡ ms → cond (not b) (m ∷ without t ms) (without t ms) ≡ m ∷ ms
    by true e k = absurd (h.0 (sym (same_edge_is m.edge t e)))
    by false e k = ap (λ l. m ∷ l) k

-- a link that is marked is no longer left, and the others are as they were
pub left_set :
    (ls : List Border) (ss : List VisitState) (i : ℕ) (passed : VisitState) (t : Edge) → is_left passed ≡ false → Pairs (λ l m. l.edge ≡ m.edge → ⊥) ls → i < length ls → length ss ≡ length ls
    → is_left (get_or ss i Skipped) ≡ true → ((d : Border) → (get_or ls i d).edge ≡ t) → left_of ls (set ss i passed) ≡ without t (left_of ls ss)
left_set [] ss i passed t gone h l beside left here = absurd (omega arith)
left_set (x ∷ xs) [] i passed t gone h l beside left here = absurd (omega arith)
left_set (x ∷ xs) (s ∷ ss) zero passed t gone h l beside left here =
    ap (λ b. cond b (x ∷ left_of xs ss) (left_of xs ss)) gone
    ∙ sym
    (ap (λ b. without t (cond b (x ∷ left_of xs ss) (left_of xs ss))) left
    ∙ (ap (λ b. cond (not b) (x ∷ without t (left_of xs ss)) (without t (left_of xs ss))) (same_edge_itself x.edge t (here x))
    ∙ none_goes t (left_of xs ss) (each_left (λ m. t ≡ m.edge → ⊥) xs ss (subst (λ z. Each (λ m. z ≡ m.edge → ⊥) xs) (here x) h.0))))
left_set (x ∷ xs) (s ∷ ss) (suc i) passed t gone h l beside left here = by (is_left s) (same_edge x.edge t) refl (left_set xs ss i passed t gone h.1 (omega arith) (omega arith) left here)
  where
    other : x.edge ≡ t → ⊥
    other e = each_at (λ m. x.edge ≡ m.edge → ⊥) xs i x h.0 (omega arith) (e ∙ sym (here x))

    by : (b c : Bool) → same_edge x.edge t ≡ c → left_of xs (set ss i passed) ≡ without t (left_of xs ss)
        → cond b (x ∷ left_of xs (set ss i passed)) (left_of xs (set ss i passed)) ≡ without t (cond b (x ∷ left_of xs ss) (left_of xs ss))
    by false c e k = k
    by true true e k = absurd (other (same_edge_is x.edge t e))
    by true false e k = ap (λ ys. x ∷ ys) k ∙ sym (ap (λ c. cond (not c) (x ∷ without t (left_of xs ss)) (without t (left_of xs ss))) e)

-- a mark is never taken away
pub set_stays : (ss : List VisitState) (i : ℕ) (passed : VisitState) → is_left passed ≡ false → StayPassed ss (set ss i passed)
set_stays [] i passed gone j h = h
set_stays (s ∷ ss) zero passed gone zero h = gone
set_stays (s ∷ ss) zero passed gone (suc j) h = h
set_stays (s ∷ ss) (suc i) passed gone zero h = h
set_stays (s ∷ ss) (suc i) passed gone (suc j) h = set_stays ss i passed gone j h

-- links of two places have two edges
pub same_place : (ls : List Border) (i j : ℕ) (d : Border) → Pairs (λ l m. l.edge ≡ m.edge → ⊥) ls → i < length ls → j < length ls → (get_or ls i d).edge ≡ (get_or ls j d).edge → i ≡ j
same_place [] i j d h k l e = absurd (omega arith)
same_place (x ∷ xs) zero zero d h k l e = refl
same_place (x ∷ xs) zero (suc j) d h k l e = absurd (each_at (λ m. x.edge ≡ m.edge → ⊥) xs j d h.0 (omega arith) e)
same_place (x ∷ xs) (suc i) zero d h k l e = absurd (each_at (λ m. x.edge ≡ m.edge → ⊥) xs i d h.0 (omega arith) (sym e))
same_place (x ∷ xs) (suc i) (suc j) d h k l e = ap suc (same_place xs i j d h.1 (omega arith) (omega arith) e)

-- what stands first of those that are left, where all before it are passed
pub first_left :
    (ls : List Border) (ss : List VisitState) (i : ℕ) (d : Border) → i < length ls → length ss ≡ length ls → is_left (get_or ss i Skipped) ≡ true
    → ((j : ℕ) → j < i → is_left (get_or ss j Skipped) ≡ false) → (rest : List Border) × (left_of ls ss ≡ get_or ls i d ∷ rest)
first_left [] ss i d l beside left passed = absurd (omega arith)
first_left (x ∷ xs) [] i d l beside left passed = absurd (omega arith)
first_left (x ∷ xs) (s ∷ ss) zero d l beside left passed = (left_of xs ss, ap (λ b. cond b (x ∷ left_of xs ss) (left_of xs ss)) left)
first_left (x ∷ xs) (s ∷ ss) (suc i) d l beside left passed =
    let k = first_left xs ss i d (omega arith) (omega arith) left (λ j m. passed (suc j) (omega arith)) in
    (k.0, ap (λ b. cond b (x ∷ left_of xs ss) (left_of xs ss)) (passed zero (omega arith)) ∙ k.1)

pub none_left : (ls : List Border) (ss : List VisitState) → ((j : ℕ) → j < length ls → is_left (get_or ss j Skipped) ≡ false) → left_of ls ss ≡ []
none_left [] ss passed = refl
none_left (x ∷ xs) [] passed = refl
none_left (x ∷ xs) (s ∷ ss) passed = ap (λ b. cond b (x ∷ left_of xs ss) (left_of xs ss)) (passed zero (omega arith)) ∙ none_left xs ss (λ j m. passed (suc j) (omega arith))

use Rattle.std.proofs.Common.{◌≡◌, Bool, true, false, ◌&&◌, ◌↔◌, List, [], ◌∷◌, refl, subst}
use Rattle.std.specs.Cmp.Lexicographic.{pointwise}
use Rattle.contour_walk.proofs.hierarchy.equality_of_hierarchies.Goals as goal

both_true : (s t : Bool) → (s && t) ≡ true → (s ≡ true) × (t ≡ true)
both_true true t e = (refl, e)
both_true false t e = absurd (cc)

true_both : (s t : Bool) → s ≡ true → t ≡ true → (s && t) ≡ true
true_both s t e f = rw e f

module _ {X : Type 0} (eq : X → X → Bool) (tells : (x y : X) → (eq x y ≡ true) ↔ (x ≡ y)) where
  equal_lists : (xs ys : List X) → pointwise eq xs ys ≡ true → xs ≡ ys
  equal_lists [] [] e = refl
  equal_lists [] (y ∷ ys) e = absurd (cc)
  equal_lists (x ∷ xs) [] e = absurd (cc)
  equal_lists (x ∷ xs) (y ∷ ys) e =
      let both = both_true (eq x y) (pointwise eq xs ys) e in
      rw ((tells x y).0 both.0, equal_lists xs ys both.1) refl

  list_itself : (xs : List X) → pointwise eq xs xs ≡ true
  list_itself [] = refl
  list_itself (x ∷ xs) = true_both (eq x x) (pointwise eq xs xs) ((tells x x).1 refl) (list_itself xs)

  lists_tell : (xs ys : List X) → (pointwise eq xs ys ≡ true) ↔ (xs ≡ ys)
  lists_tell xs ys = (equal_lists xs ys, λ e. subst (λ zs. pointwise eq xs zs ≡ true) e (list_itself xs))

pub returns : goal.returns
returns g c = λ a b.
    let shapes = c.equality_of_flat_buffers.ensures.of_flat_shapes a.shapes b.shapes in
    let links = lists_tell _ c.equality_of_child_links.ensures.equal a.links.items b.links.items in (
      λ e. let both = both_true _ _ e in (links.0 both.1, shapes.0 both.0),
      λ h. true_both _ _ (shapes.1 h.1) (links.1 h.0),
    )

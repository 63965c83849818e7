use Rattle.std.proofs.Common.{◌≡◌, ◌≢◌, ◌∙◌, refl, sym, ap, ℕ, ◌<◌, ◌==◌, Bool, true, false, [], ◌∷◌, ◌++◌, length, get_or, set, arith}
use Rattle.std.specs.Prelude.{Some}
use Rattle.std.proofs.lemmas.Bool.{eqb-true, eq-eqb, false≢true}
use Rattle.std.proofs.lemmas.List.{get_or-set_other}
use Rattle.std.proofs.lemmas.Grind.{get_or-set_at}
use Rattle.contour_walk.specs.Hierarchy.{children_of}
use Rattle.contour_walk.proofs.Binder.Children.{lies_there, lies_elsewhere, lies_nowhere}
use Rattle.contour_walk.proofs.bind.child_links.add_child.Goals as goal

other : (m n : ℕ) → m == n ≡ false → m ≢ n
other m n e same = false≢true (sym e ∙ eq-eqb m n same)

pub returns-in_ok-push-in-Some-clause-is : goal.returns-in_ok-push-in-Some-clause-is
returns-in_ok-push-in-Some-clause-is c = λ parents many told m d l.
    let old = c.args.children.now in
    let hole = c.in-Some.contour in
    let new = c.push.new.self in
    let x = c.index-children-contour.result in
    let inside : hole < length old = c.if-contour-children.true in
    let by : (b : Bool) → m == hole ≡ b → (get_or (set old hole new) m d).items ≡ children_of m 0 (parents ++ Some hole ∷ []) =
    λ b. elim b as (λ b. m == hole ≡ b → (get_or (set old hole new) m d).items ≡ children_of m 0 (parents ++ Some hole ∷ [])) [
      | true ↦ λ e.
          let same = eqb-true m hole e in
          ap (λ v. v.items) (get_or-set_at old hole m new d same inside)
          ∙ (c.in_ok-push-in-Some.ensures.items
          ∙ (ap (λ ns. ns ++ c.args.child ∷ []) (told hole x inside ∙ ap (λ k. children_of k 0 parents) (sym same)) ∙ sym (lies_there parents c.args.child many hole m same)))
      | false ↦ λ e.
          let differ = other m hole e in
          ap (λ v. v.items) (get_or-set_other old hole m new d differ) ∙ (told m d l ∙ sym (lies_elsewhere parents c.args.child many hole m differ))
    ] in
    by (m == hole) refl ∙ ap (λ p. children_of m 0 (parents ++ p ∷ [])) (sym c.in-Some.is)

pub returns-in_default-clause-is : goal.returns-in_default-clause-is
returns-in_default-clause-is c = λ parents many told m d l.
    let differ : m ≢ c.in-Some.contour = λ same. omega (arith, l, same, c.if-contour-children.false) in
    told m d l ∙ (sym (lies_elsewhere parents c.args.child many c.in-Some.contour m differ) ∙ ap (λ p. children_of m 0 (parents ++ p ∷ [])) (sym c.in-Some.is))

pub returns-in_default-2-clause-is : goal.returns-in_default-2-clause-is
returns-in_default-2-clause-is c = λ parents many told m d l.
    told m d l ∙ (sym (lies_nowhere parents c.args.child many m) ∙ ap (λ p. children_of m 0 (parents ++ p ∷ [])) (sym c.in_default.is))

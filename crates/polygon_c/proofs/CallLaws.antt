-- What a call answers that passed all tests, and why it is refused.
use Rattle.std.proofs.Common.{◌≡◌, ℕ, ℤ, List, [], ◌++◌, length, drop, sym, subst, ap, inl, inr}
use Rattle.plane_base.specs.Plane.{Point}
use Rattle.plane_base.specs.declared.fault.Fault.{Fault}
use Rattle.polygon_c.specs.Answers.{Passes, IsRefused}
use Rattle.polygon_c.specs.Faults.{refusal_of}
use Rattle.polygon_c.specs.Flat.{Arrays, arrays, HandsOut}
use Rattle.polygon_c.specs.Given.{Given, subjects_of, clips_of}
use Rattle.polygon_c.specs.declared.query.Request.{Request}
use Rattle.polygon_c.specs.declared.refusal.Refusal.{Refusal}

module _ {T P : Type 0} (Is : Request → List (List Point) → List (List Point) → T → Type 0) (plane : P → Point) (g : Given P) (r : Request) (subjects clips : List (List Point)) where
  -- What is so of contours is so of those that the arrays cut.
  pub of_given : (t : T) → subjects ≡ subjects_of plane g → clips ≡ clips_of plane g → Is r subjects clips t → Is r (subjects_of plane g) (clips_of plane g) t
  of_given t e f is = subst (λ cs. Is r (subjects_of plane g) cs t) f (subst (λ ss. Is r ss clips t) e is)

-- The engine refuses for a fault, which is told so.
pub refused_by :
    {P : Type 0} (plane : P → Point) (least greatest : ℤ) (IsNotTold : Request → List (List Point) → List (List Point) → Fault → Type 0) (q : List ℕ) (g : Given P) (r : Request)
    (subjects clips : List (List Point)) (fault : Fault) (why : Refusal) → Passes plane least greatest q g r → subjects ≡ subjects_of plane g → clips ≡ clips_of plane g → IsNotTold r subjects clips fault → why ≡ refusal_of fault
    → IsRefused plane least greatest IsNotTold q g why
refused_by plane least greatest IsNotTold q g r subjects clips fault why passes e f is told = inr (record {
  request = r;
  fault_is = fault;
  passes = passes;
  refused = of_given IsNotTold plane g r subjects clips fault e f is;
  told = told;
})

-- An answer without shapes leaves an empty array of them empty.
pub handed_paths :
    {P : Type 0} (answer : Arrays P) (points points' : List P) (contours contours' shapes' : List ℕ) (status : ℕ) → answer.shapes ≡ []
    → HandsOut answer (arrays points contours []) (arrays points' contours' shapes') status
    → HandsOut answer (arrays points contours []) (arrays points' contours' []) status
handed_paths answer points points' contours contours' shapes' status none (inl (well, written)) = inl (
  well,
  record {
    points = written.points;
    contours = written.contours;
    shapes = sym (ap (λ (xs : List ℕ). xs ++ drop (length xs) []) none);
  },
)
handed_paths answer points points' contours contours' shapes' status none (inr lacks) = inr lacks

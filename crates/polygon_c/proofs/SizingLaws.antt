-- What a call about a mask answers, and why it is refused.
use Rattle.std.proofs.Common.{◌≡◌, ℕ, ℤ, List, sym, subst, refl, inl, inr, ap₂, ◌∙◌}
use Rattle.plane_base.specs.Plane.{Point}
use Rattle.plane_base.specs.declared.fault.Fault.{Fault}
use Rattle.polygon_overlay.specs.Sizing.{Amounts}
use Rattle.polygon_overlay.specs.Tiles.{AreRectilinear}
use Rattle.polygon_c.specs.Answers.{Passes}
use Rattle.polygon_c.specs.Faults.{refusal_of}
use Rattle.polygon_c.specs.Flat.{Arrays, flat}
use Rattle.polygon_c.specs.Given.{Given, subjects_of}
use Rattle.polygon_c.specs.Sizings.{amounts, PassesFitting, AnswersOfMask, IsUntoldOfMask}
use Rattle.polygon_c.specs.declared.query.Request.{Request}
use Rattle.polygon_c.specs.declared.refusal.Refusal.{Refusal}
use Rattle.polygon_c.specs.declared.refusal.Refusal.TheVariants.{Slant, Range}

pub amounts_are :
    (left left' right right' bottom bottom' top top' : ℤ) → left ≡ left' → right ≡ right' → bottom ≡ bottom' → top ≡ top'
    → amounts left right bottom top ≡ amounts left' right' bottom' top'
amounts_are left left' right right' bottom bottom' top top' e f g h =
    ap₂ (λ l r. amounts l r bottom top) e f ∙ ap₂ (λ b t. amounts left' right' b t) g h

pub of_both : (C : Amounts → Amounts → Type 0) {a b c d : Amounts} → a ≡ b → c ≡ d → C a c → C b d
of_both C {a} {b} {c} {d} e f is = subst (λ y. C b y) f (subst (λ x. C x c) e is)

module _ {P : Type 0} (plane : P → Point) (least greatest : ℤ) (Fit : List (List Point) → Type 0)
    (IsRefusedFor : Request → List (List Point) → Fault → Type 0) (q : List ℕ) (g : Given P) (r : Request) (contours : List (List Point))
    (passes : Passes plane least greatest q g r) (are : contours ≡ subjects_of plane g) where
  -- What is so of the contours is so of those that the arrays cut: here that a test is failed,
  pub is_slanted : (AreRectilinear contours → ⊥) → IsUntoldOfMask plane least greatest Fit IsRefusedFor q g Slant
  is_slanted is_not = inr (inl (r, passes, (λ straight. is_not (subst AreRectilinear (sym are) straight)), refl))

  pub fits_not : AreRectilinear contours → (Fit contours → ⊥) → IsUntoldOfMask plane least greatest Fit IsRefusedFor q g Range
  fits_not straight is_not = inr (inr (inl (
    r,
    passes,
    subst AreRectilinear are straight,
    (λ fits. is_not (subst Fit (sym are) fits)),
    refl,
  )))

  -- that all are,
  pub passes_fitting : AreRectilinear contours → Fit contours → PassesFitting plane least greatest Fit q g r
  passes_fitting straight fits = record { passes = passes; straight = subst AreRectilinear are straight; fitting = subst Fit are fits }

  -- why the engine refuses,
  pub untold : AreRectilinear contours → Fit contours → (fault : Fault) (why : Refusal) → IsRefusedFor r contours fault → why ≡ refusal_of fault
      → IsUntoldOfMask plane least greatest Fit IsRefusedFor q g why
  untold straight fits fault why refused told =
      inr (inr (inr (r, fault, passes_fitting straight fits, subst (λ cs. IsRefusedFor r cs fault) are refused, told)))

  -- and what it answers.
  pub told : (at : Point → P) (Is : Request → List (List Point) → List (List (List Point)) → Type 0) → AreRectilinear contours → Fit contours
      → (shapes : List (List (List Point))) → Is r contours shapes → (answer : Arrays P) → answer ≡ flat at shapes
      → AnswersOfMask plane at least greatest Fit Is q g answer
  told at Is straight fits shapes is answer laid = (r, passes_fitting straight fits, (shapes, subst (λ cs. Is r cs shapes) are is, laid))

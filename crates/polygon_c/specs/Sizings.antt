-- What a call that sizes a region says and leaves: in a form that checks of masks share.
use Rattle.std.specs.Prelude.{◌≡◌, ◌⊎◌, ℕ, ℤ, pos, negsuc, List}
use Rattle.plane_base.specs.Plane.{Point}
use Rattle.plane_base.specs.declared.fault.Fault.{Fault}
use Rattle.segment_arrangement.specs.RuleViews.{fill_rule_of}
use Rattle.polygon_overlay.specs.Sizing.{Amounts}
use Rattle.polygon_overlay.specs.SizingCalls.{Fits, FitsInTurn, AreSized, AreSizedInTurn, IsNotSized, IsNotSizedInTurn}
use Rattle.polygon_overlay.specs.Tiles.{AreRectilinear}
use Rattle.polygon_c.specs.Answers.{Passes, IsUnasked}
use Rattle.polygon_c.specs.Faults.{refusal_of}
use Rattle.polygon_c.specs.Flat.{Arrays, flat, sizes_of, HandsOut}
use Rattle.polygon_c.specs.Given.{Given, subjects_of, plane_point, c_point, wide_plane_point, wide_c_point}
use Rattle.polygon_c.specs.Refusals.{status_of, wide_status_of}
use Rattle.polygon_c.specs.declared.given.CPoint.{CPoint}
use Rattle.polygon_c.specs.declared.given.CPoint64.{CPoint64}
use Rattle.polygon_c.specs.declared.overlay.Sizes.{Sizes}
use Rattle.polygon_c.specs.declared.query.Request.{Request}
use Rattle.polygon_c.specs.declared.refusal.Refusal.{Refusal}
use Rattle.polygon_c.specs.declared.refusal.Refusal.TheVariants as refusal

-- ---- the engine

-- by how much left sides move, right ones, bottoms and tops
abbrev pub amounts : ℤ → ℤ → ℤ → ℤ → Amounts
amounts left right bottom top = record { left = left; right = right; bottom = bottom; top = top }

-- The shapes are the region of the contours, sized, with all that the engine promises of it.
abbrev pub IsSizingOf : ℤ → ℤ → Amounts → Request → List (List Point) → List (List (List Point)) → Type 0
IsSizingOf least greatest by r contours shapes =
    AreSized least greatest by r.options (fill_rule_of r.fill_rule) r.solver.precision contours shapes

-- why the engine tells no sized region
abbrev pub IsSizingRefused : ℤ → ℤ → Amounts → Request → List (List Point) → Fault → Type 0
IsSizingRefused least greatest by r contours fault =
    IsNotSized least greatest by r.options (fill_rule_of r.fill_rule) r.solver.precision contours fault

-- The same of a region that is sized twice.
abbrev pub IsSizingInTurnOf : ℤ → ℤ → Amounts → Amounts → Request → List (List Point) → List (List (List Point)) → Type 0
IsSizingInTurnOf least greatest first second r contours shapes =
    AreSizedInTurn least greatest first second r.options (fill_rule_of r.fill_rule) r.solver.precision contours shapes

abbrev pub IsSizingInTurnRefused : ℤ → ℤ → Amounts → Amounts → Request → List (List Point) → Fault → Type 0
IsSizingInTurnRefused least greatest first second r contours fault =
    IsNotSizedInTurn least greatest first second r.options (fill_rule_of r.fill_rule) r.solver.precision contours fault

-- ---- calls about a mask: `Fit` is what its contours are tested for at last, `Is` what the engine answers, and `IsRefusedFor` why it doesn't

-- All tests are passed: each step is horizontal or vertical, and the contours fit.
pub record PassesFitting {P : Type 0} (plane : P → Point) (least greatest : ℤ) (Fit : List (List Point) → Type 0) (q : List ℕ) (g : Given P)
    (r : Request) : Type 0 where
  pub passes : Passes plane least greatest q g r
  pub straight : AreRectilinear (subjects_of plane g)
  pub fitting : Fit (subjects_of plane g)

-- All tests are passed, and the lists are the flat form of what the engine answers.
abbrev pub AnswersOfMask : {P : Type 0} → (P → Point) → (Point → P) → ℤ → ℤ → (List (List Point) → Type 0)
    → (Request → List (List Point) → List (List (List Point)) → Type 0) → List ℕ → Given P → Arrays P → Type 0
AnswersOfMask plane at least greatest Fit Is q g answer =
    (r : Request) × PassesFitting plane least greatest Fit q g r
    × ((shapes : List (List (List Point))) × Is r (subjects_of plane g) shapes × (answer ≡ flat at shapes))

-- Why nothing is answered: a test fails that overlays make too; or none does, and a step is neither horizontal nor vertical; or all are, and the contours
-- don't fit; or all tests are passed, and the engine refuses for a fault that is told so.
abbrev pub IsUntoldOfMask : {P : Type 0} → (P → Point) → ℤ → ℤ → (List (List Point) → Type 0) → (Request → List (List Point) → Fault → Type 0)
    → List ℕ → Given P → Refusal → Type 0
IsUntoldOfMask plane least greatest Fit IsRefusedFor q g why =
    IsUnasked plane least greatest q g why
    ⊎ ((r : Request) × Passes plane least greatest q g r × (AreRectilinear (subjects_of plane g) → ⊥) × (why ≡ refusal.Slant))
    ⊎ ((r : Request) × Passes plane least greatest q g r × AreRectilinear (subjects_of plane g) × (Fit (subjects_of plane g) → ⊥) × (why ≡ refusal.Range))
    ⊎ ((r : Request) × (fault : Fault) × PassesFitting plane least greatest Fit q g r × IsRefusedFor r (subjects_of plane g) fault × (why ≡ refusal_of fault))

-- Either there is an answer: its sizes are told, and it is handed out, or finds no room. Or there is none for the reason that the
-- status tells, and the sizes stay as they were.
abbrev pub IsCallIn : {P : Type 0} → (Refusal → ℕ) → (Arrays P → Type 0) → (Refusal → Type 0) → Arrays P → Arrays P → Sizes → Sizes → ℕ → Type 0
IsCallIn {P} number Answers IsUntold old new sizes sizes' status =
    ((answer : Arrays P) × Answers answer × (sizes' ≡ sizes_of answer) × HandsOut answer old new status)
    ⊎ ((why : Refusal) × (status ≡ number why) × IsUntold why × (sizes' ≡ sizes))

-- ---- calls that size

abbrev pub PassesSizing : {P : Type 0} → (P → Point) → ℤ → ℤ → Amounts → List ℕ → Given P → Request → Type 0
PassesSizing plane least greatest by q g r = PassesFitting plane least greatest (Fits least greatest by) q g r

-- no point leaves the range, and the lists are the flat form of the sized region
abbrev pub AnswersSizing : {P : Type 0} → (P → Point) → (Point → P) → ℤ → ℤ → Amounts → List ℕ → Given P → Arrays P → Type 0
AnswersSizing plane at least greatest by q g answer =
    AnswersOfMask plane at least greatest (Fits least greatest by) (IsSizingOf least greatest by) q g answer

abbrev pub IsNotResized : {P : Type 0} → (P → Point) → ℤ → ℤ → Amounts → List ℕ → Given P → Refusal → Type 0
IsNotResized plane least greatest by q g why = IsUntoldOfMask plane least greatest (Fits least greatest by) (IsSizingRefused least greatest by) q g why

abbrev pub IsSizingCallIn : {P : Type 0} → (Refusal → ℕ) → (P → Point) → (Point → P) → ℤ → ℤ → Amounts → List ℕ → Given P → Arrays P → Arrays P
    → Sizes → Sizes → ℕ → Type 0
IsSizingCallIn number plane at least greatest by q g old new sizes sizes' status =
    IsCallIn number (AnswersSizing plane at least greatest by q g) (IsNotResized plane least greatest by q g) old new sizes sizes' status

abbrev pub IsSizingCall : Amounts → List ℕ → Given CPoint → Arrays CPoint → Arrays CPoint → Sizes → Sizes → ℕ → Type 0
IsSizingCall = IsSizingCallIn status_of plane_point c_point (negsuc 524287) (pos 524287)

abbrev pub IsWideSizingCall : Amounts → List ℕ → Given CPoint64 → Arrays CPoint64 → Arrays CPoint64 → Sizes → Sizes → ℕ → Type 0
IsWideSizingCall = IsSizingCallIn wide_status_of wide_plane_point wide_c_point (negsuc 68719476735) (pos 68719476735)

-- ---- calls that size twice

abbrev pub AnswersInTurn : {P : Type 0} → (P → Point) → (Point → P) → ℤ → ℤ → Amounts → Amounts → List ℕ → Given P → Arrays P → Type 0
AnswersInTurn plane at least greatest first second q g answer =
    AnswersOfMask plane at least greatest (FitsInTurn least greatest first second) (IsSizingInTurnOf least greatest first second) q g answer

abbrev pub IsNotResizedInTurn : {P : Type 0} → (P → Point) → ℤ → ℤ → Amounts → Amounts → List ℕ → Given P → Refusal → Type 0
IsNotResizedInTurn plane least greatest first second q g why =
    IsUntoldOfMask plane least greatest (FitsInTurn least greatest first second) (IsSizingInTurnRefused least greatest first second) q g why

abbrev pub IsInTurnCall : Amounts → Amounts → List ℕ → Given CPoint → Arrays CPoint → Arrays CPoint → Sizes → Sizes → ℕ → Type 0
IsInTurnCall first second q g =
    IsCallIn status_of (AnswersInTurn plane_point c_point (negsuc 524287) (pos 524287) first second q g)
    (IsNotResizedInTurn plane_point (negsuc 524287) (pos 524287) first second q g)

abbrev pub IsWideInTurnCall : Amounts → Amounts → List ℕ → Given CPoint64 → Arrays CPoint64 → Arrays CPoint64 → Sizes → Sizes → ℕ → Type 0
IsWideInTurnCall first second q g =
    IsCallIn wide_status_of (AnswersInTurn wide_plane_point wide_c_point (negsuc 68719476735) (pos 68719476735) first second q g)
    (IsNotResizedInTurn wide_plane_point (negsuc 68719476735) (pos 68719476735) first second q g)

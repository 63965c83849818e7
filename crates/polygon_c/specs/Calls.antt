-- What calls from C that answer by three arrays say and leave.
use Rattle.std.specs.Prelude.{◌≡◌, ◌⊎◌, ℕ, ℤ, pos, negsuc, List}
use Rattle.plane_base.specs.Plane.{Point}
use Rattle.plane_base.specs.declared.fault.Fault.{Fault}
use Rattle.segment_arrangement.specs.RuleViews.{fill_rule_of}
use Rattle.polygon_overlay.specs.ClipCalls.{IsClipOf, IsClipRefused}
use Rattle.polygon_overlay.specs.SliceCalls.{IsSliceOf, IsSliceRefused}
use Rattle.polygon_c.specs.Answers.{Passes, IsOverlayOf, IsRefused}
use Rattle.polygon_c.specs.Flat.{Arrays, flat, flat_paths, sizes_of, HandsOut}
use Rattle.polygon_c.specs.Given.{Given, subjects_of, clips_of, plane_point, c_point, wide_plane_point, wide_c_point}
use Rattle.polygon_c.specs.Refusals.{status_of, wide_status_of}
use Rattle.polygon_c.specs.declared.given.CPoint.{CPoint}
use Rattle.polygon_c.specs.declared.given.CPoint64.{CPoint64}
use Rattle.polygon_c.specs.declared.overlay.Sizes.{Sizes}
use Rattle.polygon_c.specs.declared.query.Request.{Request}
use Rattle.polygon_c.specs.declared.refusal.Refusal.{Refusal}

-- ---- answers that lie flat

abbrev pub IsFlatOverlayIn : {P : Type 0} → (Point → P) → ℤ → ℤ → Request → List (List Point) → List (List Point) → Arrays P → Type 0
IsFlatOverlayIn at least greatest r subjects clips answer =
    (shapes : List (List (List Point))) × IsOverlayOf least greatest r subjects clips shapes × (answer ≡ flat at shapes)

abbrev pub IsFlatSliceIn : {P : Type 0} → (Point → P) → ℤ → ℤ → Request → List (List Point) → List (List Point) → Arrays P → Type 0
IsFlatSliceIn at least greatest r shape lines answer =
    (shapes : List (List (List Point))) × IsSliceOf least greatest (fill_rule_of r.fill_rule) shape lines shapes × (answer ≡ flat at shapes)

abbrev pub IsFlatClipIn : {P : Type 0} → (Point → P) → ℤ → ℤ → Request → List (List Point) → List (List Point) → Arrays P → Type 0
IsFlatClipIn at least greatest r shape lines answer =
    (paths : List (List Point)) × IsClipOf least greatest (fill_rule_of r.fill_rule) r.clip_rule shape lines paths × (answer ≡ flat_paths at paths)

-- why the engine tells no slice, and no clip
abbrev pub IsNotSliced : Request → List (List Point) → List (List Point) → Fault → Type 0
IsNotSliced r = IsSliceRefused

abbrev pub IsNotClipped : Request → List (List Point) → List (List Point) → Fault → Type 0
IsNotClipped r = IsClipRefused

-- ---- calls

-- All tests are passed, and this is an answer.
abbrev pub Answers : {P : Type 0} → (P → Point) → ℤ → ℤ → (Request → List (List Point) → List (List Point) → Arrays P → Type 0) → List ℕ → Given P → Arrays P → Type 0
Answers plane least greatest IsAnswer q g answer = (r : Request) × Passes plane least greatest q g r × IsAnswer r (subjects_of plane g) (clips_of plane g) answer

-- Either there is an answer: its sizes are told, and it is handed out, or finds no room. Or there is none for the reason that the
-- status tells, by the number of refusals, and the sizes stay as they were.
abbrev pub IsCallIn : {P : Type 0} → (Refusal → ℕ) → (P → Point) → ℤ → ℤ → (Request → List (List Point) → List (List Point) → Arrays P → Type 0)
    → (Request → List (List Point) → List (List Point) → Fault → Type 0) → List ℕ → Given P → Arrays P → Arrays P → Sizes → Sizes → ℕ → Type 0
IsCallIn {P} number plane least greatest IsAnswer IsNotTold q g old new sizes sizes' status =
    ((answer : Arrays P) × Answers plane least greatest IsAnswer q g answer × (sizes' ≡ sizes_of answer) × HandsOut answer old new status)
    ⊎ ((why : Refusal) × (status ≡ number why) × IsRefused plane least greatest IsNotTold q g why × (sizes' ≡ sizes))

-- ---- by coordinates of 32 bits, and of 64

abbrev pub IsFlatOverlay : Request → List (List Point) → List (List Point) → Arrays CPoint → Type 0
IsFlatOverlay = IsFlatOverlayIn c_point (negsuc 524287) (pos 524287)

abbrev pub IsFlatSlice : Request → List (List Point) → List (List Point) → Arrays CPoint → Type 0
IsFlatSlice = IsFlatSliceIn c_point (negsuc 524287) (pos 524287)

abbrev pub IsFlatClip : Request → List (List Point) → List (List Point) → Arrays CPoint → Type 0
IsFlatClip = IsFlatClipIn c_point (negsuc 524287) (pos 524287)

abbrev pub IsCall : (Request → List (List Point) → List (List Point) → Arrays CPoint → Type 0)
    → (Request → List (List Point) → List (List Point) → Fault → Type 0) → List ℕ → Given CPoint → Arrays CPoint → Arrays CPoint → Sizes → Sizes → ℕ → Type 0
IsCall = IsCallIn status_of plane_point (negsuc 524287) (pos 524287)

abbrev pub IsWideFlatOverlay : Request → List (List Point) → List (List Point) → Arrays CPoint64 → Type 0
IsWideFlatOverlay = IsFlatOverlayIn wide_c_point (negsuc 68719476735) (pos 68719476735)

abbrev pub IsWideFlatSlice : Request → List (List Point) → List (List Point) → Arrays CPoint64 → Type 0
IsWideFlatSlice = IsFlatSliceIn wide_c_point (negsuc 68719476735) (pos 68719476735)

abbrev pub IsWideFlatClip : Request → List (List Point) → List (List Point) → Arrays CPoint64 → Type 0
IsWideFlatClip = IsFlatClipIn wide_c_point (negsuc 68719476735) (pos 68719476735)

abbrev pub IsWideCall : (Request → List (List Point) → List (List Point) → Arrays CPoint64 → Type 0)
    → (Request → List (List Point) → List (List Point) → Fault → Type 0) → List ℕ → Given CPoint64 → Arrays CPoint64 → Arrays CPoint64 → Sizes → Sizes → ℕ → Type 0
IsWideCall = IsCallIn wide_status_of wide_plane_point (negsuc 68719476735) (pos 68719476735)

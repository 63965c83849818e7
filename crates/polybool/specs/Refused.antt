-- Why a line's words are refused.
use Rattle.std.specs.Prelude.{◌≡◌, ◌≢◌, ℕ, ℤ, List, [], ◌∷◌, Some, None}
use Rattle.plane_base.specs.Plane.{Point, IsWithin}
use Rattle.polybool.specs.Names.{request_word}
use Rattle.polybool.specs.Numerals.{points_spelled}
use Rattle.polybool.specs.Refusals.{Refusals, IsOneOf}
use Rattle.polybool.specs.Requests.{SpellOverlay, SpellRelate, SpellPoint, point_refusals}
use Rattle.polybool.specs.Stores.{Store, KeepsCorners, KeepsPoints}
use Rattle.polybool.specs.Answers.{IsOverlayRefused}
use Rattle.plane_base.specs.declared.fault.Fault.TheVariants as fault
use Rattle.polybool.specs.declared.words.Name.{Name}
use Rattle.polybool.specs.declared.words.Name.TheVariants as name
use Rattle.polybool.specs.declared.request.Overlay.{Overlay}
use Rattle.polybool.specs.declared.request.Relate.{Relate}
use Rattle.polybool.specs.declared.refusal.Refusal.{Refusal}
use Rattle.polybool.specs.declared.refusal.Refusal.TheVariants.{UnknownWord, Arguments, Range, NoAnswer, NoPoints, Count, Edges, Memory}

-- Why a request is refused, by what its first word names and the words after it, where this is kept. Points go onto a list that has
-- no room at first.
abbrev pub refusals : ℤ → ℤ → Store → Name → List (List ℕ) → Refusals
refusals least greatest kept name.Subject ws = point_refusals least greatest 0 ws
refusals least greatest kept name.Clip ws = point_refusals least greatest 0 ws
refusals least greatest kept name.Overlay ws =
    (Arguments, (o : Overlay) → SpellOverlay ws o → ⊥)
    ∷ (Count, (o : Overlay) × SpellOverlay ws o × IsOverlayRefused kept fault.Count)
    ∷ (Edges, (o : Overlay) × SpellOverlay ws o × IsOverlayRefused kept fault.Edges)
    ∷ (Memory, (o : Overlay) × SpellOverlay ws o)
    ∷ []
refusals least greatest kept name.Relate ws =
    (Arguments, (r : Relate) → SpellRelate ws r → ⊥)
    ∷ (Count, (r : Relate) × SpellRelate ws r × IsOverlayRefused kept fault.Count)
    ∷ (Edges, (r : Relate) × SpellRelate ws r × IsOverlayRefused kept fault.Edges)
    ∷ (Memory, (r : Relate) × SpellRelate ws r)
    ∷ []
refusals least greatest kept name.Locate ws =
    (Arguments, (p : Point) → points_spelled ws ≡ Some (p ∷ []) → ⊥)
    ∷ (Range, (p : Point) × (points_spelled ws ≡ Some (p ∷ [])) × (IsWithin least greatest p → ⊥))
    ∷ (NoAnswer, (p : Point) × SpellPoint least greatest ws p × (kept.answer ≡ None))
    ∷ (NoPoints, (p : Point) × SpellPoint least greatest ws p × KeepsCorners kept)
    ∷ (Memory, (p : Point) × SpellPoint least greatest ws p × KeepsPoints kept)
    ∷ []
refusals least greatest kept name.Area ws = (Arguments, ws ≢ []) ∷ (NoAnswer, (ws ≡ []) × (kept.answer ≡ None)) ∷ []
refusals least greatest kept name.Reset ws = (Arguments, ws ≢ []) ∷ []

-- The first word is none that names a request.
abbrev pub IsUnknown : List (List ℕ) → Type 0
IsUnknown ws = (name : Name) (arguments : List (List ℕ)) → ws ≢ request_word name ∷ arguments

-- The words are refused for this, where this is kept.
pub data AreRefused : ℤ → ℤ → Store → List (List ℕ) → Refusal → Type 0 where
  unknown : {least greatest : ℤ} {kept : Store} {ws : List (List ℕ)} → IsUnknown ws → AreRefused least greatest kept ws UnknownWord
  named : {least greatest : ℤ} {kept : Store} {ws : List (List ℕ)} {e : Refusal} (name : Name) (arguments : List (List ℕ))
      → ws ≡ request_word name ∷ arguments → IsOneOf (refusals least greatest kept name arguments) e → AreRefused least greatest kept ws e

-- What a string builder holds stays in range, counted and balanced with each contour and each path.
use Rattle.std.specs.Prelude.{◌≡◌, ℤ, pos, ◌+ℤ◌, ◌*ℤ◌, ◌-ℤ◌, Bool, true, false, List, [], ◌∷◌, ◌++◌, All, OnOk, OnErr, IfErr}
use Rattle.std.specs.declared.result.Result.{Result}
use Rattle.std.specs.declared.result.Result.TheVariants.{Ok, Err}
use Rattle.std.proofs.Common.{refl, sym, ap₂, ◌∙◌, subst, append_assoc, arith}
use Rattle.std.proofs.lemmas.Int.{ints}
use Rattle.plane_base.specs.Plane.{Point, IsWithin}
use Rattle.plane_base.specs.Counts.{Entry, lay}
use Rattle.plane_base.specs.Given.{laid_path, laid}
use Rattle.plane_base.specs.Balance.{mark, fall}
use Rattle.plane_base.proofs.Facts.Maps.Balance.{fall_append, fall_lay}
use Rattle.plane_base.proofs.Facts.Lists.Cycles.{All-front}
use Rattle.plane_base.specs.declared.fault.Fault.{Fault}
use Rattle.segment_split.specs.Adding.{AddsStepsUntil, Adds, AddsUntil}
use Rattle.segment_split.specs.Holdings.{HeldEdges, IsRefusedBy, TakesSource, TakesPath}
use Rattle.segment_split.specs.Strings.{StringCount, stringed, one_line}
use Rattle.segment_split.specs.StringLaws.{subject_additive}
use Rattle.segment_split.proofs.Facts.Adding.Held.{AreHeld, CountsForSome, none_held, held_with_contour, held_with_path}
use Rattle.segment_split.proofs.Facts.Adding.Held.{balanced_with_contour, stays_after_contour, stays_after_source}
use Rattle.polygon_strings.specs.Builders.{IsStringHeld, one_shape}

-- the counts of edges of shapes and of lines
pub shapes_count : CountsForSome stringed one_shape
shapes_count = record { some = refl; turned_some = refl }

lines_count : CountsForSome stringed one_line
lines_count = record { some = refl; turned_some = refl }

-- lines are no edges of the subject
fall_lines : (f : Point → ℤ) (path : List Point) → fall (λ c. c.subject) f (laid_path stringed one_line path) ≡ pos 0
fall_lines f [] = refl
fall_lines f (p ∷ []) = refl
fall_lines f (p ∷ q ∷ rest) =
    fall_append (λ (c : StringCount). c.subject) f (lay stringed p q one_line) (laid_path stringed one_line (q ∷ rest))
    ∙ ap₂ (λ x y. x +ℤ y) (fall_lay subject_additive f p q one_line) (fall_lines f (q ∷ rest))
    ∙ none (f p -ℤ f q)
  where
    none : (x : ℤ) → (pos 0 *ℤ x) +ℤ pos 0 ≡ pos 0
    none x = omega (arith, ints)

-- nothing is held at first
pub nothing_held : (least greatest : ℤ) → IsStringHeld least greatest []
nothing_held least greatest =
    let none = none_held stringed least greatest in
    record { within = none.within; directed = none.directed; counted = none.counted; balanced = λ v. refl }

module _ (least greatest : ℤ) where
  abbrev Within : Point → Type 0
  Within = IsWithin least greatest

  abbrev Held : List (Entry StringCount) → Type 0
  Held = IsStringHeld least greatest

  abbrev parts : (es : List (Entry StringCount)) → Held es → AreHeld stringed least greatest es
  parts es held = record { within = held.within; directed = held.directed; counted = held.counted }

  module _ (c : StringCount) (some : CountsForSome stringed c) where
    with_contour : (es : List (Entry StringCount)) (contour : List Point) → All Within contour → Held es → Held (es ++ laid stringed c contour)
    with_contour es contour inside held =
        let all = held_with_contour stringed least greatest c some es contour inside (parts es held) in
        record {
          within = all.within;
          directed = all.directed;
          counted = all.counted;
          balanced = balanced_with_contour subject_additive c es contour held.balanced;
        }

    pub held_after_contour : (keep_all : Bool) (old new : List (Entry StringCount)) → Held old → (r : Result (Unit {0}) Fault) (points : List Point) → All Within points
        → OnOk r (Adds stringed c keep_all points old new) → OnErr r (new ≡ old) → Held new
    held_after_contour keep_all old new held r points inside ok err =
        stays_after_contour stringed c keep_all Within Held with_contour r points old new inside held ok err

    -- of a builder that may have failed
    pub held_after_contours : {D S : Type 0} (keep_all : Bool) (old new : HeldEdges StringCount D S) → Held old.edges → (r : Result (Unit {0}) Fault)
        (contours : List (List Point)) → All (All Within) contours → TakesSource stringed c keep_all contours old new r → Held new.edges
    held_after_contours keep_all old new held r contours inside takes = by old.has_failed refl
      where
        by : (b : Bool) → old.has_failed ≡ b → Held new.edges
        by true failed = subst Held (sym (takes.unchanged failed)) held
        by false ready =
            stays_after_source stringed c keep_all Within Held with_contour r contours old.edges new.edges inside held takes.added
            (subst (λ b. IfErr r (IsRefusedBy b (AddsUntil stringed c keep_all contours old.edges new.edges))) ready takes.refused)

  with_path : (es : List (Entry StringCount)) (path : List Point) → All Within path → Held es → Held (es ++ laid_path stringed one_line path)
  with_path es path inside held =
      let all = held_with_path stringed least greatest one_line lines_count es path inside (parts es held) in
      record {
        within = all.within;
        directed = all.directed;
        counted = all.counted;
        balanced = λ v.
            fall_append (λ (c : StringCount). c.subject) (mark v) es (laid_path stringed one_line path) ∙ ap₂ (λ x y. x +ℤ y) (held.balanced v) (fall_lines (mark v) path);
      }

  pub held_after_path : {D S : Type 0} (old new : HeldEdges StringCount D S) → Held old.edges → (r : Result (Unit {0}) Fault) (points : List Point) → All Within points
      → TakesPath stringed one_line points old new r → Held new.edges
  held_after_path old new held r points inside takes = by old.has_failed refl
    where
      after : (r : Result (Unit {0}) Fault) → OnOk r (new.edges ≡ old.edges ++ laid_path stringed one_line points)
          → IfErr r (AddsStepsUntil stringed one_line points new.room old.edges new.edges) → Held new.edges
      after (Ok u) ok err = subst Held (sym ok) (with_path old.edges points inside held)
      after (Err e) ok err =
          let front : All Within (err.before ++ err.from ∷ []) =
          All-front Within (err.before ++ err.from ∷ []) (err.to ∷ err.after)
          (subst (All Within) (err.all ∙ sym (append_assoc err.before (err.from ∷ []) (err.to ∷ err.after))) inside) in
          subst Held (sym err.adds) (with_path old.edges (err.before ++ err.from ∷ []) front held)

      by : (b : Bool) → old.has_failed ≡ b → Held new.edges
      by true failed = subst Held (sym (takes.unchanged failed)) held
      by false ready =
          after r takes.added
          (subst (λ b. IfErr r (IsRefusedBy b (AddsStepsUntil stringed one_line points new.room old.edges new.edges))) ready takes.refused)

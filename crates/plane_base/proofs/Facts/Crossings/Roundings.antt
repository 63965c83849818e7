-- What pairs lay on each other, and what they have in common, whatever the rounding.
--
-- Above, cite `unless_parted`, `apart_parted`, `unmarked_apart` and `marks_turned`.
use Rattle.std.proofs.Common.{◌≡◌, ◌≢◌, ◌↔◌, pos, Bool, true, false, cond, ◌&&◌, List, [], ◌∷◌, ◌++◌, Option, refl, sym, ap₂, ◌∙◌}
use Rattle.std.specs.Ordering.{int_eq}
use Rattle.std.proofs.lemmas.Bool.{false≢true}
use Rattle.std.proofs.lemmas.Bool.Decides.{Decides-int_eq}
use Rattle.plane_base.specs.Plane.{Point, Edge, turn}
use Rattle.plane_base.specs.Segments.{parted, on_one_line, ends_inside}
use Rattle.plane_base.specs.Crossing.{overlay, least_of, overlaid, at_end, touching, meeting_by, no_marks, exchanged, marks_by}
use Rattle.plane_base.specs.CrossingLaws.{BoxesMeet}
use Rattle.plane_base.specs.declared.rounding.Rounding.{Rounding}
use Rattle.plane_base.specs.declared.rounding.Rounding.TheVariants.{Near, Nearest}
use Rattle.plane_base.proofs.Facts.Crossings.Tests.{both_true}
use Rattle.plane_base.proofs.Facts.Crossings.Marks.{crossed_by}
use Rattle.plane_base.proofs.Facts.Crossings.MarkLaws.{early_by, late_by, marks_agree}
use Rattle.plane_base.proofs.Facts.Crossings.Parted.{mark_unless_parted, unparted_meet}

pub unless_parted : (rounding : Rounding) (s t : Edge) → (marks_by rounding s t ≡ no_marks) ↔ (parted s t ≡ true)
unless_parted (Near radius) s t = mark_unless_parted.early s t radius
unless_parted Nearest s t = mark_unless_parted.late s t

pub apart_parted : (s t : Edge) → (BoxesMeet s t → ⊥) → parted s t ≡ true
apart_parted s t apart = by (parted s t) refl
  where
    by : (b : Bool) → parted s t ≡ b → b ≡ true
    by true e = refl
    by false e = absurd (apart (unparted_meet s t (λ f. false≢true (sym e ∙ f))))

pub unmarked_apart : (rounding : Rounding) (s t : Edge) → (BoxesMeet s t → ⊥) → marks_by rounding s t ≡ no_marks
unmarked_apart rounding s t apart = (unless_parted rounding s t).1 (apart_parted s t apart)

-- whoever finds the pair
pub marks_turned : (rounding : Rounding) (s t : Edge) → s ≢ t → marks_by rounding t s ≡ exchanged (marks_by rounding s t)
marks_turned (Near radius) s t differ = marks_agree.early s t radius differ
marks_turned Nearest s t differ = marks_agree.late s t differ

-- ---- one line

overlaid_on_line : (s t : Edge) (p : Point) → touching s t ≡ overlay p → on_one_line s t ≡ true
overlaid_on_line s t p = by (on_one_line s t) (least_of (ends_inside s t ++ ends_inside t s)) (ends_inside s t) (ends_inside t s)
  where
    by : (b : Bool) (o : Option Point) (xs ys : List Point) → cond b (overlaid o) (at_end xs ys) ≡ overlay p → b ≡ true
    by true o xs ys e = refl
    by false o [] [] e = absurd (cc)
    by false o [] (y ∷ ys) e = absurd (cc)
    by false o (x ∷ xs) ys e = absurd (cc)

-- a pair that is marked as an overlay runs on one line
pub overlay_on_line : (rounding : Rounding) (s t : Edge) (p : Point) → meeting_by rounding s t ≡ overlay p → on_one_line s t ≡ true
overlay_on_line (Near radius) s t p =
    early_by (λ m. m ≡ overlay p → on_one_line s t ≡ true) s t radius
    (λ h. crossed_by (λ m. m ≡ overlay p → on_one_line s t ≡ true) s t radius (λ e. absurd (cc)) (λ e. absurd (cc)) (λ q k e. absurd (cc)) (λ q k e. absurd (cc)))
    (λ h. overlaid_on_line s t p)
overlay_on_line Nearest s t p = late_by (λ m. m ≡ overlay p → on_one_line s t ≡ true) s t (λ h e. absurd (cc)) (λ h. overlaid_on_line s t p)

-- segments that run on one line
pub record AreFlat (s t : Edge) : Type 0 where
  pub first : pos 0 ≡ turn s.a s.b t.a
  pub second : pos 0 ≡ turn s.a s.b t.b
  pub swapped : on_one_line t s ≡ true

pub line_flat : (s t : Edge) → on_one_line s t ≡ true → AreFlat s t
line_flat s t e =
    let h = both_true (flat s t) (flat t s) e in
    let k = both_true (int_eq (turn s.a s.b t.a) (pos 0)) (int_eq (turn s.a s.b t.b) (pos 0)) h.0 in
    record {
      first = sym ((Decides-int_eq (turn s.a s.b t.a) (pos 0)).0 k.0);
      second = sym ((Decides-int_eq (turn s.a s.b t.b) (pos 0)).0 k.1);
      swapped = ap₂ (λ b c. b && c) h.1 h.0;
    }
  where
    flat : Edge → Edge → Bool
    flat s t = int_eq (turn s.a s.b t.a) (pos 0) && int_eq (turn s.a s.b t.b) (pos 0)

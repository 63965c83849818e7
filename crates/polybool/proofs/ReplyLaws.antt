-- Laws of replies.
use Rattle.std.proofs.Common.{◌≡◌, ℕ, zero, suc, ◌<◌, ◌≤◌, List, length, eqb, false, arith, ap, subst, sym, refl, ℤ, Option, Some, None}
use Rattle.std.specs.Option.{option_map}
use Rattle.plane_base.specs.Plane.{Point}
use Rattle.polybool.specs.Requests.{AskFor, area, locate, overlay}
use Rattle.polybool.specs.Answers.{IsAnswer}
use Rattle.polybool.specs.AnswerAreas.{shapes_area}
use Rattle.polybool.specs.Lines.{longest, text_of}
use Rattle.polybool.specs.Words.{words_of}
use Rattle.polybool.specs.Places.{IsPlaced}
use Rattle.polybool.specs.Stores.{Store, LastAnswer, with_answer}
use Rattle.polybool.specs.Held.{IsUnheld}
use Rattle.polybool.specs.Texts.{error_text, area_text, place_text, shapes_text}
use Rattle.polybool.specs.Replies.{IsReplyTo, IsReplyBy, long, no_memory, to_words, to_area, to_locate, to_overlay}
use Rattle.polybool.specs.declared.line.State.{State}
use Rattle.polybool.specs.declared.line.State.TheVariants.{Whole, Dropped, Unheld}
use Rattle.polybool.specs.declared.request.Overlay.{Overlay}
use Rattle.polybool.specs.declared.place.Place.{Place}
use Rattle.polybool.specs.declared.refusal.Refusal.{Refusal}
use Rattle.polybool.specs.declared.words.Keep.{Keep}

module _ (least greatest : ℤ) where
  -- the reply with the area of the last answer
  pub reply_area : (number : ℕ) (kept : Store) (ws : List (List ℕ)) (n : ℤ) → AskFor least greatest ws area → Some n ≡ option_map (λ a. shapes_area a.shapes) kept.answer
      → IsReplyTo least greatest number kept ws (area_text n) kept
  reply_area number kept ws n asked e = by kept.answer refl e
    where
      by : (answer : Option LastAnswer) → kept.answer ≡ answer → Some n ≡ option_map (λ a. shapes_area a.shapes) answer → IsReplyTo least greatest number kept ws (area_text n) kept
      by None is e = absurd (cc)
      by (Some answer) is e = let same : shapes_area answer.shapes ≡ n = cc in subst (λ m. IsReplyTo least greatest number kept ws (area_text m) kept) same (to_area asked is)

  -- the reply with the shapes of an overlay, which are kept
  pub reply_overlay : (number : ℕ) (kept after : Store) (ws : List (List ℕ)) (o : Overlay) (shapes : List (List (List Point))) → AskFor least greatest ws (overlay o)
      → IsAnswer kept o shapes → after ≡ kept → (keep : Keep) → keep ≡ o.keep → IsReplyTo least greatest number kept ws (shapes_text shapes) (with_answer after (record { shapes = shapes; keep = keep }))
  reply_overlay number kept after ws o shapes asked answer e keep same =
      subst (λ w. IsReplyTo least greatest number kept ws (shapes_text shapes) (with_answer after (record { shapes = shapes; keep = w }))) (sym same)
      (subst (λ k. IsReplyTo least greatest number kept ws (shapes_text shapes) (with_answer k (record { shapes = shapes; keep = o.keep }))) (sym e) (to_overlay asked answer))

  -- the reply with a place
  pub reply_place : (number : ℕ) (kept : Store) (ws : List (List ℕ)) (p : Point) (place : Place) → AskFor least greatest ws (locate p) → IsPlaced kept p place
      → IsReplyTo least greatest number kept ws (place_text place) kept
  reply_place number kept ws p place asked (answer, is, keeps, same) = subst (λ q. IsReplyTo least greatest number kept ws (place_text q) kept) (sym same) (to_locate asked is keeps)

  -- the reply to a line that isn't held
  pub reply_unheld : (number : ℕ) (kept : Store) (state : State) (line : List ℕ) (e : Refusal) → IsUnheld state line e
      → IsReplyBy least greatest state number kept line (error_text number e) kept
  reply_unheld number kept Whole line e h = absurd h
  reply_unheld number kept Dropped line e h = rw (h.0) (long h.1)
  reply_unheld number kept Unheld line e h = rw (h.0) (no_memory h.1)

  -- the reply to the text of a line that is held
  pub reply_held : (number : ℕ) (kept after : Store) (line text reply : List ℕ) → length line ≤ longest → text ≡ text_of line → eqb (length text) 0 ≡ false
      → IsReplyTo least greatest number kept (words_of text) reply after → IsReplyBy least greatest Whole number kept line reply after
  reply_held number kept after line text reply short is some h =
      to_words (record { short = short; some = subst (λ t. 0 < length t) is (above_zero (length text) some); words = ap words_of is }) h
    where
      above_zero : (n : ℕ) → eqb n 0 ≡ false → 0 < n
      above_zero zero e = absurd (cc)
      above_zero (suc n) e = omega arith

-- Relations where subject and clip are exchanged.
use Rattle.std.proofs.Common.{◌≡◌, ℕ, ◌+◌, Bool, true, false, ◌&&◌, ◌||◌, List, [], ◌∷◌, map, refl, sym, ap, ap₂, ◌∙◌}
use Rattle.plane_base.specs.Counts.{Count, Entry, boolean, normal}
use Rattle.plane_base.specs.Regions.{FillRule, is_filled}
use Rattle.segment_split.specs.RedrawLaws.{with_counts, roles_exchanged, RedrawsAnyCounts}
use Rattle.segment_split.specs.Redrawing.{redrawn}
use Rattle.segment_split.specs.declared.solver.Precision.{Precision}
use Rattle.segment_arrangement.specs.EdgeSides.{bit, middle, lower_side, upper_side, fill_bits, fill_of}
use Rattle.segment_arrangement.specs.Fills.{has}
use Rattle.segment_arrangement.specs.Graphs.{link_of, all_links}
use Rattle.polygon_overlay.specs.Overlays.{redrawn_of}
use Rattle.polygon_overlay.specs.Predicates.{is_inside, is_covered, some, each, within, covers}
use Rattle.polygon_overlay.specs.RelationLaws.{CoversIsWithinExchanged}
use Rattle.polygon_overlay.proofs.Exchanging.ExchangeLaws.{exchanged_held}
use Rattle.polygon_overlay.proofs.Exchanging.OtherCountLaws.{exchanged_winds}

-- a is the subject's bit of the top and b that of the bottom, c and d are those of the clip
abbrev pub bits : Bool → Bool → Bool → Bool → ℕ
bits a b c d = (bit a 1 + bit b 2) + (bit c 4 + bit d 8)

bits_exchanged : (a b c d : Bool) → (has 3 (bits c d a b) ≡ has 12 (bits a b c d)) × (is_inside (bits c d a b) ≡ is_covered (bits a b c d))
bits_exchanged true true true true = (refl, refl)
bits_exchanged true true true false = (refl, refl)
bits_exchanged true true false true = (refl, refl)
bits_exchanged true true false false = (refl, refl)
bits_exchanged true false true true = (refl, refl)
bits_exchanged true false true false = (refl, refl)
bits_exchanged true false false true = (refl, refl)
bits_exchanged true false false false = (refl, refl)
bits_exchanged false true true true = (refl, refl)
bits_exchanged false true true false = (refl, refl)
bits_exchanged false true false true = (refl, refl)
bits_exchanged false true false false = (refl, refl)
bits_exchanged false false true true = (refl, refl)
bits_exchanged false false true false = (refl, refl)
bits_exchanged false false false true = (refl, refl)
bits_exchanged false false false false = (refl, refl)

module _ (fill : FillRule) (es : List (Entry Count)) where
  abbrev there : List (Entry Count)
  there = with_counts roles_exchanged es

  abbrev read : Entry Count → Entry Count
  read e = record { edge = e.edge; count = roles_exchanged e.count }

  -- the fill of an edge with subject and clip exchanged
  fill_read : (e : Entry Count) → fill_of fill there (read e)
      ≡ bits (is_filled fill (upper_side es e).clip) (is_filled fill (lower_side es e.edge).clip)
      (is_filled fill (upper_side es e).subject) (is_filled fill (lower_side es e.edge).subject)
  fill_read e = ap (λ l. fill_bits fill l (boolean.join l (roles_exchanged e.count))) (exchanged_winds es (middle e.edge))

  told : (e : Entry Count) → (has 3 (fill_of fill there (read e)) ≡ has 12 (fill_of fill es e)) × (is_inside (fill_of fill there (read e)) ≡ is_covered (fill_of fill es e))
  told e =
      let same = bits_exchanged (is_filled fill (upper_side es e).subject) (is_filled fill (lower_side es e.edge).subject)
      (is_filled fill (upper_side es e).clip) (is_filled fill (lower_side es e.edge).clip) in
      (ap (has 3) (fill_read e) ∙ same.0, ap is_inside (fill_read e) ∙ same.1)

  some_among : (fs : List (Entry Count)) → some (has 3) (map (link_of fill there) (with_counts roles_exchanged fs)) ≡ some (has 12) (map (link_of fill es) fs)
  some_among [] = refl
  some_among (e ∷ fs) = ap₂ (λ b c. b || c) (told e).0 (some_among fs)

  each_among : (fs : List (Entry Count)) → each is_inside (map (link_of fill there) (with_counts roles_exchanged fs)) ≡ each is_covered (map (link_of fill es) fs)
  each_among [] = refl
  each_among (e ∷ fs) = ap₂ (λ b c. b && c) (told e).1 (each_among fs)

  within_exchanged : within (all_links fill there) ≡ covers (all_links fill es)
  within_exchanged = ap₂ (λ b c. b && c) (some_among es) (each_among es)

pub covers_is_within_exchanged : ((precision : Precision) → RedrawsAnyCounts boolean boolean roles_exchanged precision) → CoversIsWithinExchanged
covers_is_within_exchanged law keep_all subjects clips held held' h h' fill precision =
    ap (λ es. within (all_links fill (redrawn boolean precision es))) (exchanged_held law precision keep_all subjects clips held held' h h')
    ∙ (ap (λ es. within (all_links fill es)) (sym ((law precision).of_redrawn (normal boolean held))) ∙ within_exchanged fill (redrawn_of precision held))

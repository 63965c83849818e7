-- The fill of a string count, from the bits of its subject and its mask.
use Rattle.std.proofs.Common.{◌≡◌, ℕ, ◌+◌, ◌*◌, Bool, sym, ap, ap₂, ◌∙◌}
use Rattle.plane_base.specs.Counts.{Count, boolean}
use Rattle.plane_base.specs.Regions.{FillRule, is_filled}
use Rattle.segment_split.specs.Strings.{StringCount, mask_of}
use Rattle.segment_arrangement.specs.EdgeSides.{bit}
use Rattle.segment_arrangement.specs.Strings.{subject_alone, string_fill}

pub filled_by_parts :
    (rule : FillRule) (bottom top : Count) (c : StringCount) (upper lower : Bool) (bits mask : ℕ) → bits ≡ bit upper 1 + bit lower 2 → upper ≡ is_filled rule top.subject → lower ≡ is_filled rule bottom.subject
    → top ≡ boolean.join bottom (subject_alone c) → mask_of c ≡ mask → bits + 4 * mask ≡ string_fill rule bottom c
filled_by_parts rule bottom top c upper lower bits mask are above below sum masked =
    ap₂ (λ n m. n + 4 * m) (are ∙ ap₂ (λ a b. bit a 1 + bit b 2) (above ∙ ap (λ t. is_filled rule t.subject) sum) below) (sym masked)

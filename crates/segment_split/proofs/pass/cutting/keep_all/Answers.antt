use contract.BorrowLft.{⊑_static}
use Rattle.segment_split.proofs.Lives.{within_segment}
use Rattle.std.proofs.Common.{◌∙◌, length, sym, ap, refl, ◌++◌}
use Rattle.std.proofs.lemmas.List.{append-nil}
use Rattle.segment_split.proofs.Passes.MarkLists.{no_items}
use Rattle.segment_split.proofs.Rows.Extents.{is_zero}
use Rattle.segment_split.proofs.pass.cutting.keep_all.Goals as goal

pub returns-then-is_empty-clause-kept : goal.returns-then-is_empty-clause-kept
returns-then-is_empty-clause-kept g c =
    let kept = c.args.kept.now.items in
    let bare = c.args.bare.now in
    sym (ap (λ l. kept ++ l) (no_items bare (length bare) refl (is_zero (length bare) (sym c.is_empty.ensures ∙ c.if-is_empty.true))) ∙ append-nil kept)

pub extend_from_slice-requires : goal.extend_from_slice-requires
extend_from_slice-requires g c κs = λ h. (within_segment κs.1.1.0 g.row.C.lives g.row.I.lives g.row.D.lives h.0 h.1.0 h.1.1, ⊑_static κs.1.1.1.0)

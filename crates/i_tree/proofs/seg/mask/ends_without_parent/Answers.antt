use Rattle.std.proofs.Common.{◌≡◌, ℕ, ◌+◌, ◌%◌, ◌&&◌, ◌==◌, arith}
use Rattle.std.specs.Int.{bit_at}
use Rattle.i_tree.proofs.Ranges.Masks.{bit_of, bits_first_end, bits_no_end, bits_both_ends, bits_left_end}
use Rattle.i_tree.proofs.seg.mask.ends_without_parent.Goals as goal
use Rattle.i_tree.proofs.seg.mask.ends_without_parent.Goals.{then-left-eq1, else-left-eq1}

pub returns-then-right-eq1 : goal.returns-then-right-eq1
returns-then-right-eq1 c =
    let first : (i : ℕ) → bit_at c.if-left-eq1.mask i ≡ bit_of (i + 1 == c.args.left && c.args.left % 2 == 1) =
    elim c.if-left-eq1.branch [
      | then-left-eq1 w ↦ rw w.mask-is (λ i. bits_first_end c.args.left i (omega arith) (omega arith) w.if-left-eq1.true)
      | else-left-eq1 w ↦ rw w.mask-is (λ i. bits_no_end c.args.left c.args.left i w.if-left-eq1.false)
    ] in
    λ i. bits_both_ends c.args.left c.args.right _ i (omega arith) (omega arith) c.if-right-eq1.true (first i)

pub returns-else-right-eq1 : goal.returns-else-right-eq1
returns-else-right-eq1 c =
    let first : (i : ℕ) → bit_at c.if-left-eq1.mask i ≡ bit_of (i + 1 == c.args.left && c.args.left % 2 == 1) =
    elim c.if-left-eq1.branch [
      | then-left-eq1 w ↦ rw w.mask-is (λ i. bits_first_end c.args.left i (omega arith) (omega arith) w.if-left-eq1.true)
      | else-left-eq1 w ↦ rw w.mask-is (λ i. bits_no_end c.args.left c.args.left i w.if-left-eq1.false)
    ] in
    λ i. bits_left_end c.args.left c.args.right _ i c.if-right-eq1.false (first i)

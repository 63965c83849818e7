-- Why redrawing is refused, from pass to pass.
use Rattle.std.specs.Prelude.{◌≡◌, ℕ, ◌^◌, ◌≤◌, Bool, List, length, flat_map, Result, Ok, Err, IfErr, IsOkUnless}
use Rattle.std.proofs.Common.{refl, sym, ap, ◌∙◌, subst}
use Rattle.plane_base.specs.Counts.{Counting, Entry}
use Rattle.plane_base.specs.declared.fault.Fault.{Fault}
use Rattle.plane_base.specs.declared.fault.Fault.TheVariants.{Memory, Count, Edges, Failed}
use Rattle.segment_split.specs.Passes.{early_passes, edges_of, cut}
use Rattle.segment_split.specs.Redrawing.{iterate}
use Rattle.segment_split.specs.Refusals.{steps_in, IsOverfull, PassesTooMuch, LaysTooMany, IsRefusal}
use Rattle.segment_split.specs.declared.solver.Precision.{Precision}
use Rattle.segment_split.proofs.Redrawing.Loops.{late_alike}

-- a refusal that is handed on, for wider reasons
pub handed_on : {M P N Q : Type 0} (fault handed : Fault) → handed ≡ fault → (M → N) → (P → Q) → IsRefusal M P fault → IsRefusal N Q handed
handed_on {M} {P} {N} {Q} fault handed same more wider refused = subst (IsRefusal N Q) (sym same) (by fault refused)
  where
    by : (f : Fault) → IsRefusal M P f → IsRefusal N Q f
    by Memory k = tt
    by Count k = more k
    by Edges k = wider k
    by Failed k = k

pub memory_refused : {T : Type 0} (M P : Type 0) (r : Result T Fault) → IsOkUnless r Memory → IfErr r (IsRefusal M P)
memory_refused M P (Ok x) h = tt
memory_refused M P (Err fault) h = subst (IsRefusal M P) (sym h) tt

pub refused_wider : {T M P N Q : Type 0} (r : Result T Fault) → (M → N) → (P → Q) → IfErr r (IsRefusal M P) → IfErr r (IsRefusal N Q)
refused_wider (Ok x) more wider h = tt
refused_wider (Err fault) more wider h = handed_on fault fault refl more wider h

module _ {C : Type 0} (kind : Counting C) (precision : Precision) (es now : List (Entry C)) (n : ℕ) (late : early_passes ≤ n) (here : now ≡ iterate kind precision es n) where
  -- late passes lay the same steps
  steps_late : steps_in kind precision now early_passes ≡ steps_in kind precision (iterate kind precision es n) n
  steps_late =
      ap (λ m. flat_map (cut kind m (edges_of now)) now) (sym (late_alike kind precision n late))
      ∙ ap (λ l. steps_in kind precision l n) here

  pub too_many_late : 2 ^ 31 ≤ length (steps_in kind precision now early_passes) → LaysTooMany kind precision es
  too_many_late many = (n, subst (λ l. 2 ^ 31 ≤ length l) steps_late many)

  pub too_much_late : (fits : C → Bool) → IsOverfull kind fits (steps_in kind precision now early_passes) → PassesTooMuch kind fits precision es
  too_much_late fits over = (n, subst (IsOverfull kind fits) steps_late over)

module _ {C : Type 0} (kind : Counting C) (precision : Precision) (es now : List (Entry C)) (n : ℕ) (here : now ≡ iterate kind precision es n) where
  pub too_many_early : 2 ^ 31 ≤ length (steps_in kind precision now n) → LaysTooMany kind precision es
  too_many_early many = (n, subst (λ l. 2 ^ 31 ≤ length (steps_in kind precision l n)) here many)

  pub too_much_early : (fits : C → Bool) → IsOverfull kind fits (steps_in kind precision now n) → PassesTooMuch kind fits precision es
  too_much_early fits over = (n, subst (λ l. IsOverfull kind fits (steps_in kind precision l n)) here over)

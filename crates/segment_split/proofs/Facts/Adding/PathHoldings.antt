-- What calls that add paths make of a holding.
use Rattle.std.specs.Prelude.{◌≡◌, ◌≤◌, ℕ, false, List, ◌++◌, OnOk, IfErr}
use Rattle.std.specs.declared.result.Result.{Result}
use Rattle.std.proofs.Common.{sym, ◌∙◌, subst}
use Rattle.std.proofs.lemmas.Bool.{false≢true}
use Rattle.plane_base.specs.Plane.{Point}
use Rattle.plane_base.specs.Counts.{Counting, Entry}
use Rattle.plane_base.specs.Given.{laid_path}
use Rattle.plane_base.specs.declared.fault.Fault.{Fault}
use Rattle.segment_split.specs.Adding.{AddsStepsUntil}
use Rattle.segment_split.specs.Holdings.{HeldEdges, TakesPath}
use Rattle.segment_split.proofs.Facts.Adding.Laws.{answered}
use Rattle.segment_split.proofs.Facts.Adding.Holdings.{refused_if_ready}

module _ {C D S : Type 0} (kind : Counting C) (c : C) (inside old : HeldEdges C D S) (now : List (Entry C)) (with_data : List (Entry (C × D)))
    (store : S) (room : ℕ) (r : Result (Unit {0}) Fault) (same : inside ≡ old) (ready : inside.has_failed ≡ false) (grows : inside.room ≤ room) where
  abbrev left : HeldEdges C D S
  left = record { edges = now; has_failed = inside.has_failed; with_data = with_data; store = store; room = room }

  pub takes_path : (points : List Point) → OnOk r (now ≡ inside.edges ++ laid_path kind c points)
      → IfErr r (AddsStepsUntil kind c points room inside.edges now) → TakesPath kind c points old left r
  takes_path points adds until =
      subst (λ o. TakesPath kind c points o left r) same
      (record {
        added = adds;
        refused = refused_if_ready inside.has_failed (AddsStepsUntil kind c points room inside.edges now) r ready until;
        unchanged = λ failed. absurd (false≢true (sym ready ∙ failed));
        ready = answered r ready;
        stays = λ i. inside.has_failed;
        room = grows;
      })

-- What is known of the edges of a pass, as it is seen.
use Rattle.std.specs.Prelude.{◌≡◌, ◌<◌, ◌^◌, ℕ, ℤ, true, List, length, map, All, AllPairs}
use Rattle.std.specs.declared.cmp.Ordering.TheVariants.{Less}
use Rattle.std.proofs.Common.{refl, sym, ◌∙◌, subst, get_or, arith}
use Rattle.std.proofs.lemmas.List.{length-map}
use Rattle.std.proofs.lemmas.List.Elements.{All-map}
use Rattle.plane_base.specs.Plane.{Edge, is_before, edge_order}
use Rattle.plane_base.specs.Counts.{Counting, Entry}
use Rattle.plane_base.specs.Segments.{IsEdgeWithin}
use Rattle.plane_base.specs.declared.rounding.Rounding.{Rounding}
use Rattle.segment_split.specs.MarkLists.{IsAt}
use Rattle.segment_split.specs.Passes.{edges_of}
use Rattle.segment_split.specs.SeenPasses.{SeenPass, seen_pass, CanBePassed}
use Rattle.segment_split.proofs.Passes.MarkLists.{edges_rising, edges_directed, edge_read}

-- The pass is seen so, over these entries.
pub record IsSeen (least greatest : ℤ) {C : Type 0} (entries : List (Entry C)) (next_new : List ℕ) (rounding : Rounding) (pass : SeenPass) : Type 0 where
  pub edges : edges_of entries ≡ pass.edges
  pub told : next_new ≡ pass.next_new
  pub rounds : rounding ≡ pass.rounding
  pub long : length pass.edges ≡ length entries
  pub few : length pass.edges < 2 ^ 31
  pub within : All (IsEdgeWithin least greatest) pass.edges
  pub rising : AllPairs (λ s t. edge_order s t ≡ Less) pass.edges
  pub directed : All (λ s. is_before s.a s.b ≡ true) pass.edges

pub pass_seen : {C : Type 0} {kind : Counting C} {least greatest : ℤ} {entries : List (Entry C)} {next_new : List ℕ} {rounding : Rounding} {pass : SeenPass}
    → CanBePassed least greatest kind entries → seen_pass entries next_new rounding ≡ pass → IsSeen least greatest entries next_new rounding pass
pass_seen {C} {kind} {least} {greatest} {entries} {next_new} {rounding} {pass} h is = subst (IsSeen least greatest entries next_new rounding) is (record {
  edges = refl;
  told = refl;
  rounds = refl;
  long = length-map entries (λ e. e.edge);
  few = omega (arith, h.few, length-map entries (λ e. e.edge));
  within = All-map (IsEdgeWithin least greatest) (λ e. e.edge) entries h.within;
  rising = edges_rising entries h.normal;
  directed = edges_directed entries h.normal;
})

-- ---- as its segments are read

module _ {C X : Type 0} {least greatest : ℤ} {next_new : List ℕ} {rounding : Rounding} {pass : SeenPass} (f : X → Entry C) (xs : List X)
    (h : IsSeen least greatest (map f xs) next_new rounding pass) where
  pub seen_long : length pass.edges ≡ length xs
  seen_long = h.long ∙ length-map xs f

  -- what holds of them holds of what is seen
  pub as_seen : (P : List Edge → List ℕ → ℕ → Type 0) → P (edges_of (map f xs)) next_new (length xs) → P pass.edges pass.next_new (length pass.edges)
  as_seen P p =
      subst (P pass.edges pass.next_new) (sym seen_long)
      (subst (λ es. P es pass.next_new (length xs)) h.edges (subst (λ told. P (edges_of (map f xs)) told (length xs)) h.told p))

  pub seen_at : (i : ℕ) (x : X) → i < length pass.edges → x ≡ get_or xs i x → IsAt pass.edges i (f (get_or xs i x)).edge
  seen_at i x l e = as_seen (λ es _ _. IsAt es i (f (get_or xs i x)).edge) (edge_read f xs i x (omega (arith, l, seen_long)) e)

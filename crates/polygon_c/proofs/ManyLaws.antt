-- Overlays of one subject with groups of clips, one group more at a time.
use Rattle.std.proofs.Common.{◌≡◌, ℕ, ℤ, ◌+◌, ◌<◌, List, [], ◌∷◌, ◌++◌, map, length, take, get_or, refl, sym, ap, subst, inl, inr, ◌∙◌}
use Rattle.std.specs.Prelude.{◌⊎◌, Contains, flat_map}
use Rattle.std.proofs.lemmas.List.{take_more, map-append}
use Rattle.std.proofs.lemmas.List.Concat.{flat_map-append}
use Rattle.plane_base.specs.Plane.{Point}
use Rattle.plane_base.specs.declared.fault.Fault.{Fault}
use Rattle.plane_base.specs.declared.fault.Fault.TheVariants as fault
use Rattle.polygon_c.specs.Answers.{IsOverlayOf, IsNotOverlaid}
use Rattle.polygon_c.specs.Faults.{refusal_of}
use Rattle.polygon_c.specs.Given.{Given, subjects_of}
use Rattle.polygon_c.specs.Many.{AreOverlaysOf, PassesMany, IsManyRefused, groups_of}
use Rattle.polygon_c.specs.declared.refusal.Refusal.{Refusal}
use Rattle.polygon_c.specs.declared.query.Request.{Request}

module _ (least greatest : ℤ) (r : Request) (subjects : List (List Point)) where
  pub push_overlay : (groups : List (List (List Point))) (all : List (List (List (List Point)))) (group : List (List Point)) (shapes : List (List (List Point)))
      → AreOverlaysOf least greatest r subjects groups all → IsOverlayOf least greatest r subjects group shapes → AreOverlaysOf least greatest r subjects (groups ++ group ∷ []) (all ++ shapes ∷ [])
  push_overlay [] [] group shapes before is = (is, tt)
  push_overlay [] (one ∷ all) group shapes before is = absurd before
  push_overlay (first ∷ groups) [] group shapes before is = absurd before
  push_overlay (first ∷ groups) (one ∷ all) group shapes before is = (before.0, push_overlay groups all group shapes before.1 is)

  pub more_overlays : {X : Type 0} (view : X → List (List Point)) (groups : List X) (i : ℕ) (d : X) (all : List (List (List (List Point)))) (shapes : List (List (List Point)))
      → i < length groups → AreOverlaysOf least greatest r subjects (map view (take i groups)) all → IsOverlayOf least greatest r subjects (view (get_or groups i d)) shapes
      → AreOverlaysOf least greatest r subjects (map view (take (i + 1) groups)) (all ++ shapes ∷ [])
  more_overlays view groups i d all shapes h before is =
      let more : map view (take (i + 1) groups) ≡ map view (take i groups) ++ view (get_or groups i d) ∷ [] =
      ap (map view) (take_more groups i d h) ∙ map-append view (take i groups) (get_or groups i d ∷ []) in
      subst (λ gs. AreOverlaysOf least greatest r subjects gs (all ++ shapes ∷ [])) (sym more)
      (push_overlay (map view (take i groups)) all (view (get_or groups i d)) shapes before is)

pub joined_more : {A : Type 0} (all : List (List A)) (shapes : List A) → flat_map (λ xs. xs) (all ++ shapes ∷ []) ≡ flat_map (λ xs. xs) all ++ shapes
joined_more all shapes = flat_map-append (λ xs. xs) all (shapes ∷ []) ∙ ap (λ rest. flat_map (λ xs. xs) all ++ rest) (append_nil shapes)
  where
    append_nil : {A : Type 0} (xs : List A) → xs ++ [] ≡ xs
    append_nil [] = refl
    append_nil (x ∷ xs) = ap (λ rest. x ∷ rest) (append_nil xs)

-- Memory is refused, or the engine refuses one of the overlays; and that is told.
pub many_refused_by :
    {P : Type 0} (plane : P → Point) (least greatest : ℤ) (q : List ℕ) (g : Given P) (lengths : List ℕ) (r : Request) (subjects : List (List Point)) (groups : List (List (List Point))) (why_engine : Fault) (why : Refusal)
    → PassesMany plane least greatest q g lengths r → subjects ≡ subjects_of plane g → groups ≡ groups_of plane g lengths
    → (why_engine ≡ fault.Memory) ⊎ ((group : List (List Point)) × Contains groups group × IsNotOverlaid r subjects group why_engine) → why ≡ refusal_of why_engine
    → IsManyRefused plane least greatest q g lengths why
many_refused_by plane least greatest q g lengths r subjects groups why_engine why passes e f (inl memory) told =
    subst (IsManyRefused plane least greatest q g lengths) (sym (told ∙ ap refusal_of memory)) (inl (r, passes))
many_refused_by plane least greatest q g lengths r subjects groups why_engine why passes e f (inr (group, among, is)) told = inr (record {
  request = r;
  fault_is = why_engine;
  group = group;
  passes = passes;
  among = subst (λ gs. Contains gs group) f among;
  refused = subst (λ ss. IsNotOverlaid r ss group why_engine) e is;
  told = told;
})

-- Parts of lists, in any order.
use Rattle.std.specs.Prelude.{◌≡◌, ℕ, List, [], ◌∷◌, ◌++◌, IsPermutation}
use Rattle.std.proofs.Common.{sym, ap, ◌∙◌, subst, inl, inr}
use Rattle.std.proofs.lemmas.List.{append-nil, append_assoc}
use Rattle.std.proofs.lemmas.List.Sorted.{IsPermutation-refl, IsPermutation-trans, IsPermutation-append, IsPermutation-append_comm, IsPermutation-append_left, IsPermutation-append_right}
use Rattle.segment_split.specs.Rows.{IsPartOf, AddsPart, AddsNear}

-- all of it
pub part_whole : (xs : List ℕ) → IsPartOf xs xs
part_whole xs = ([], subst (IsPermutation xs) (sym (append-nil xs)) (IsPermutation-refl xs))

-- nothing of it
pub part_none : (xs : List ℕ) → IsPartOf xs []
part_none xs = (xs, IsPermutation-refl xs)

pub part_permuted : (xs ys zs : List ℕ) → IsPartOf xs ys → IsPermutation ys zs → IsPartOf xs zs
part_permuted xs ys zs (rest, is) h = (rest, IsPermutation-trans xs (ys ++ rest) (zs ++ rest) is (IsPermutation-append_left rest ys zs h))

pub part_both : (xs ys us vs : List ℕ) → IsPartOf xs us → IsPartOf ys vs → IsPartOf (xs ++ ys) (us ++ vs)
part_both xs ys us vs (rest, is) (more, are) =
    let apart : (us ++ rest) ++ (vs ++ more) ≡ us ++ ((rest ++ vs) ++ more) = append_assoc us rest (vs ++ more) ∙ ap (λ l. us ++ l) (sym (append_assoc rest vs more)) in
    let together : us ++ ((vs ++ rest) ++ more) ≡ (us ++ vs) ++ (rest ++ more) = ap (λ l. us ++ l) (append_assoc vs rest more) ∙ sym (append_assoc us vs (rest ++ more)) in
    let turned : IsPermutation (us ++ ((rest ++ vs) ++ more)) (us ++ ((vs ++ rest) ++ more)) =
    IsPermutation-append_right us ((rest ++ vs) ++ more) ((vs ++ rest) ++ more) (IsPermutation-append_left more (rest ++ vs) (vs ++ rest) (IsPermutation-append_comm rest vs)) in (
      rest ++ more,
      IsPermutation-trans (xs ++ ys) ((us ++ rest) ++ (vs ++ more)) ((us ++ vs) ++ (rest ++ more)) (IsPermutation-append xs (us ++ rest) ys (vs ++ more) is are)
          (subst (λ l. IsPermutation l ((us ++ vs) ++ (rest ++ more))) (sym apart) (subst (IsPermutation (us ++ ((rest ++ vs) ++ more))) together turned)),
    )

pub adds_none : (places xs : List ℕ) → AddsPart places xs xs
adds_none places xs = ([], sym (append-nil xs), part_none places)

pub adds_near : (near : Type 0) (p : ℕ) (old new : List ℕ) → AddsNear near p old new → AddsPart (p ∷ []) old new
adds_near near p old new (inl (e, far)) = ([], e ∙ sym (append-nil old), part_none (p ∷ []))
adds_near near p old new (inr e) = (p ∷ [], e, part_whole (p ∷ []))

pub adds_both : (xs ys old now new : List ℕ) → AddsPart xs old now → AddsPart ys now new → AddsPart (xs ++ ys) old new
adds_both xs ys old now new (us, e, h) (vs, f, k) = (us ++ vs, f ∙ (ap (λ l. l ++ vs) e ∙ append_assoc old us vs), part_both xs ys us vs h k)

-- what comes to a part
pub part_added : (whole part places more : List ℕ) → IsPartOf whole part → AddsPart places part more → IsPartOf (whole ++ places) more
part_added whole part places more h (added, e, k) = subst (IsPartOf (whole ++ places)) (sym e) (part_both whole places part added h k)

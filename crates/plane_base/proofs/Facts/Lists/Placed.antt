-- Lists laid one after another: where an element of one of them stands among all.
use Rattle.std.proofs.Common.{◌≡◌, sym, ap, subst, ◌∙◌, ℕ, ◌+◌, ◌<◌, ◌≤◌, List, [], ◌∷◌, length, take, get_or, append-nil, arith}
use Rattle.std.specs.Prelude.{flat_map}
use Rattle.std.proofs.lemmas.List.{take_all, take_more, length-append}
use Rattle.std.proofs.lemmas.Grind.{flat_map-append}
use Rattle.std.proofs.lemmas.List.Concat.{flat_map-cons, get_or-flat_map}
use Rattle.std.proofs.lemmas.List.Folds.{length-flat_map-take}

-- how many elements come before a list
abbrev pub before : {X : Type 0} → List (List X) → ℕ → ℕ
before lists s = length (flat_map (λ list. list) (take s lists))

module _ {X : Type 0} (lists : List (List X)) (all : List X) (together : all ≡ flat_map (λ list. list) lists) (s : ℕ) where
  pub all_before : length lists ≤ s → before lists s ≡ length all
  all_before h = ap (λ ls. length (flat_map (λ list. list) ls)) (take_all s lists h) ∙ ap length (sym together)

  pub list_more : s < length lists → before lists (s + 1) ≡ before lists s + length (get_or lists s [])
  list_more h =
      let here = get_or lists s [] in
      ap (λ ls. length (flat_map (λ list. list) ls)) (take_more lists s [] h)
      ∙ ap length (flat_map-append (λ list. list) (take s lists) (here ∷ []))
      ∙ length-append (flat_map (λ list. list) (take s lists)) (flat_map (λ list. list) (here ∷ []))
      ∙ ap (λ l. before lists s + length l) (flat_map-cons (λ list. list) here [] ∙ append-nil here)

  -- the element x at place i of list s
  pub placed :
      (i : ℕ) (d x : X) → s < length lists → i < length (get_or lists s []) → x ≡ get_or (get_or lists s []) i d
      → (before lists s + i < length all) × (x ≡ get_or all (before lists s + i) d)
  placed i d x h k is = (
    subst (λ l. before lists s + i < length l) (sym together) (omega (arith, length-flat_map-take (λ list. list) lists s [] h, k)),
    is ∙ sym (ap (λ l. get_or l (before lists s + i) d) together ∙ get_or-flat_map (λ list. list) lists s i [] d h k),
  )

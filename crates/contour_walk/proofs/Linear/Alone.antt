-- The link that is left alone at a node.
use Rattle.std.proofs.Common.{◌≡◌, ℕ, ◌+◌, ◌<◌, Bool, true, false, not, cond, ◌&&◌, ◌||◌, List, [], ◌∷◌, ◌++◌, length, take, get_or, filter, flat_map, Option, Some, None, refl, sym, ap, ap₂, ◌∙◌, subst, append-nil, arith}
use Rattle.std.specs.Option.{is_some}
use Rattle.std.proofs.lemmas.Bool.{false≢true}
use Rattle.std.proofs.lemmas.Grind.{flat_map-append}
use Rattle.std.proofs.lemmas.List.Elements.{filter_more}
use Rattle.plane_base.specs.Plane.{Point, Edge, is_before}
use Rattle.segment_arrangement.specs.Graphs.{places_from}
use Rattle.segment_arrangement.specs.declared.graph.VisitState.{VisitState}
use Rattle.segment_arrangement.specs.declared.graph.VisitState.TheVariants.{Skipped}
use Rattle.contour_walk.specs.Turning.{is_met_before}
use Rattle.contour_walk.specs.Walks.{same_point}
use Rattle.contour_walk.specs.Nearest.{Numbered, nearest}
use Rattle.contour_walk.specs.LinearViews.{id_if_any}
use Rattle.contour_walk.specs.LinearWalks.{is_left, left_places, near_end, other_end, spokes, spoke_at}
use Rattle.contour_walk.proofs.Facts.Walks.Rings.{Each}
use Rattle.contour_walk.proofs.Linear.Spokes.{any_default, no_places, all_spokes}

-- the place, if there is one
abbrev pub place_found : Option ℕ → List ℕ
place_found None = []
place_found (Some i) = i ∷ []

-- one place more
module _ (states : List VisitState) (places : List ℕ) (i : ℕ) (found : Option ℕ) (inside : i < length places) (so_far : left_places states (take i places) ≡ place_found found) where
  abbrev here : ℕ
  here = get_or places i 0

  next_place : (b : Bool) → is_left (get_or states here Skipped) ≡ b → left_places states (take (i + 1) places) ≡ place_found found ++ cond b (here ∷ []) []
  next_place b e =
      filter_more (λ p. is_left (get_or states p Skipped)) places i 0 inside
      ∙ ap₂ (λ x t. x ++ cond t (here ∷ []) []) so_far e

  pub found_first : is_some found ≡ false → is_left (get_or states here Skipped) ≡ true → left_places states (take (i + 1) places) ≡ place_found (Some here)
  found_first none e = next_place true e ∙ by found none
    where
      by : (o : Option ℕ) → is_some o ≡ false → place_found o ++ here ∷ [] ≡ here ∷ []
      by None f = refl
      by (Some j) f = absurd (false≢true (sym f))

  pub found_no_more : is_left (get_or states here Skipped) ≡ false → left_places states (take (i + 1) places) ≡ place_found found
  found_no_more e = next_place false e ∙ append-nil (place_found found)

-- ---- what is kept

module _ (keep : ℕ → Bool) where
  -- what is nothing for the others comes from those that are kept
  from_kept : {A : Type 0} (F : ℕ → List A) → ((i : ℕ) → keep i ≡ false → F i ≡ []) → (xs : List ℕ) → flat_map F xs ≡ flat_map F (filter keep xs)
  from_kept F h [] = refl
  from_kept F h (x ∷ xs) = by (keep x) refl (from_kept F h xs)
    where
      by : (b : Bool) → keep x ≡ b → flat_map F xs ≡ flat_map F (filter keep xs) → F x ++ flat_map F xs ≡ flat_map F (cond b (x ∷ filter keep xs) (filter keep xs))
      by true e k = ap (λ l. F x ++ l) k
      by false e k = ap (λ l. l ++ flat_map F xs) (h x e) ∙ k

  first_kept : (xs : List ℕ) (p : ℕ) (rest : List ℕ) → filter keep xs ≡ p ∷ rest → keep p ≡ true
  first_kept [] p rest e = absurd (cc)
  first_kept (x ∷ xs) p rest e = by (keep x) refl e (first_kept xs p rest)
    where
      by : (b : Bool) → keep x ≡ b → cond b (x ∷ filter keep xs) (filter keep xs) ≡ p ∷ rest → (filter keep xs ≡ p ∷ rest → keep p ≡ true) → keep p ≡ true
      by true f g k = let same : x ≡ p = cc in subst (λ i. keep i ≡ true) same f
      by false f g k = k g

never_and : (b : Bool) → b && false ≡ false
never_and true = refl
never_and false = refl

or_true : (b : Bool) → b || true ≡ true
or_true true = refl
or_true false = refl

-- ---- the one that is left

module _ (v : Point) (es : List Edge) (ss : List VisitState) where
  abbrev edge : ℕ → Edge
  edge i = get_or es i (record { a = v; b = v })

  abbrev left : ℕ → Bool
  left i = is_left (get_or ss i Skipped)

  abbrev at_point : ℕ → Bool
  at_point i = same_point (edge i).a v || same_point (edge i).b v

  abbrev found : ℕ → Bool → List Numbered
  found i b = cond b (record { point = v; id = i } ∷ []) []

  -- something for those that are left and have no end at the point
  abbrev astray : ℕ → List Numbered
  astray i = found i (left i && not (at_point i))

  none_astray : (i : ℕ) → at_point i ≡ true → astray (0 + i) ≡ []
  none_astray i e =
      let same : i ≡ 0 + i = omega arith in
      subst (λ k. astray k ≡ []) same (ap (λ b. found i (left i && not b)) e ∙ ap (found i) (never_and (left i)))

  started : (i : ℕ) (d : Edge) → i < length es → same_point (near_end true (get_or es i d)) v ≡ true → astray (0 + i) ≡ []
  started i d l e =
      none_astray i (ap (λ b. b || same_point (edge i).b v) (ap (λ (s : Edge). same_point s.a v) (any_default es i (record { a = v; b = v }) d l) ∙ e))

  ended : (i : ℕ) (d : Edge) → i < length es → same_point (near_end false (get_or es i d)) v ≡ true → astray (0 + i) ≡ []
  ended i d l e =
      none_astray i
      (ap (λ b. same_point (edge i).a v || b) (ap (λ (s : Edge). same_point s.b v) (any_default es i (record { a = v; b = v }) d l) ∙ e)
      ∙ or_true (same_point (edge i).a v))

  abbrev starting : List ℕ
  starting = places_from 0 (λ s. same_point (near_end true s) v) es

  abbrev ending : List ℕ
  ending = places_from 0 (λ s. same_point (near_end false s) v) es

  module _ (places : List ℕ) (is : places ≡ starting ++ ending) (p : ℕ) (alone : left_places ss places ≡ p ∷ []) where
    none_at_all : flat_map astray places ≡ []
    none_at_all =
        ap (flat_map astray) is
        ∙ (flat_map-append astray starting ending
        ∙ ap₂ (λ x y. x ++ y) (no_places astray (λ s. same_point (near_end true s) v) 0 es started) (no_places astray (λ s. same_point (near_end false s) v) 0 es ended))

    is_left_there : left p ≡ true
    is_left_there = first_kept left places p [] alone

    -- it has an end at the point
    is_there : at_point p ≡ true
    is_there = by (at_point p) refl
      where
        gone : astray p ++ [] ≡ []
        gone = sym (from_kept left astray (λ i e. ap (λ b. found i (b && not (at_point i))) e) places ∙ ap (flat_map astray) alone) ∙ none_at_all

        by : (b : Bool) → at_point p ≡ b → b ≡ true
        by true e = refl
        by false e =
            let one : astray p ≡ found p true = ap₂ (λ b t. found p (b && not t)) is_left_there e in
            absurd (let none : found p true ++ [] ≡ [] = ap (λ l. l ++ []) (sym one) ∙ gone in cc)

    abbrev seen_by : Bool → Point → List Numbered
    seen_by b far = cond b (record { point = far; id = p } ∷ []) []

    seen : (t : Bool) → flat_map (spoke_at t v es ss) places ≡ seen_by (same_point (near_end t (edge p)) v) (other_end t (edge p))
    seen t =
        from_kept left (spoke_at t v es ss) (λ i e. ap (λ b. cond {A = List Numbered} (b && same_point (near_end t (edge i)) v) (record { point = other_end t (edge i); id = i } ∷ []) []) e) places
        ∙ (ap (flat_map (spoke_at t v es ss)) alone
        ∙ (append-nil (spoke_at t v es ss p)
        ∙ ap (λ b. seen_by (b && same_point (near_end t (edge p)) v) (other_end t (edge p))) is_left_there))

    -- the link that is left alone is met first
    pub alone_is_next : length ss ≡ length es → Each (λ s. is_before s.a s.b ≡ true) es → (c : Bool) (from : Point) → Some p ≡ id_if_any (nearest c v from (spokes v es ss))
    alone_is_next beside directed c from =
        by (same_point (edge p).a v) (same_point (edge p).b v) is_there
        ∙ ap (λ ns. id_if_any (nearest c v from ns)) (sym (ap₂ (λ x y. x ++ (y ++ [])) (seen false) (seen true)) ∙ all_spokes v es ss beside directed places is)
      where
        either : (a b : Point) (t : Bool) → Some p ≡ Some (cond {A = Numbered} t (record { point = b; id = p }) (record { point = a; id = p })).id
        either a b true = refl
        either a b false = refl

        by : (s e : Bool) → s || e ≡ true → Some p ≡ id_if_any (nearest c v from (seen_by e (edge p).a ++ (seen_by s (edge p).b ++ [])))
        by true true h = either (edge p).a (edge p).b (is_met_before c v from (edge p).b (edge p).a)
        by true false h = refl
        by false true h = refl
        by false false h = absurd (cc)

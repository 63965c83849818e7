-- Stretches: one more, two joined, and what a list of them tells from its end.
use Rattle.std.proofs.Common.{◌≡◌, ◌⊎◌, inl, inr, ℕ, zero, suc, ◌<◌, ◌≤◌, ℤ, Bool, false, List, [], ◌∷◌, ◌++◌, length, map, get_or, All, refl, sym, ap, ◌∙◌, subst, arith}
use Rattle.std.proofs.lemmas.List.{length-append, length-map, map-append, get_or-map, get_or_append_left, get_or_push}
use Rattle.std.proofs.lemmas.List.Elements.{All-weaker}
use Rattle.plane_base.specs.Plane.{Point}
use Rattle.segment_split.specs.Groups.{LiesWithin}
use Rattle.polygon_overlay.specs.PointBoxes.{bounds_of}
use Rattle.polygon_overlay.specs.Stretches.{end_of, end_before, IsStretch, AreStretches, JoinsOn, LooksPast}
use Rattle.polygon_overlay.specs.declared.point_location.stretches.Look.{Look}
use Rattle.polygon_overlay.specs.declared.point_location.stretches.Stretch.{Stretch}
use Rattle.polygon_overlay.proofs.Locating.LocationLaws.{lt_or_ge}

-- ---- where stretches end

module _ {I : Type 0} where
  -- those before a stretch and it end where it does
  pub end_at : (all : List (Stretch I)) (n : ℕ) (d : Stretch I) → n < length all → end_before all (suc n) ≡ (get_or all n d).end
  end_at all n d l = get_or-map end_of all n d 0 l

  pub end_at_last : (all : List (Stretch I)) (s : Stretch I) → end_before (all ++ s ∷ []) (length (all ++ s ∷ [])) ≡ s.end
  end_at_last all s =
      let long : length (all ++ s ∷ []) ≡ suc (length all) = length-append all (s ∷ []) ∙ omega arith in
      ap (end_before (all ++ s ∷ [])) long
      ∙ (end_at (all ++ s ∷ []) (length all) s (omega (arith, long)) ∙ ap (λ (x : Stretch I). x.end) (get_or_push all s s (length all) refl))

  -- one stretch more leaves what stands before it
  pub end_stays : (all : List (Stretch I)) (s : Stretch I) (n : ℕ) → n ≤ length all → end_before (all ++ s ∷ []) n ≡ end_before all n
  end_stays all s zero l = refl
  end_stays all s (suc n) l =
      ap (λ ends. get_or ends n 0) (map-append end_of all (s ∷ []))
      ∙ get_or_append_left (map end_of all) (end_of s ∷ []) 0 n (omega (arith, l, length-map all end_of))

  module _ (value : I → ℤ) (items : List (List Point)) where
    stretch_stays : (all : List (Stretch I)) (more : Stretch I) (n : ℕ) (s : Stretch I) → n ≤ length all → IsStretch value items all n s
        → IsStretch value items (all ++ more ∷ []) n s
    stretch_stays all more n s l h = record {
      some = h.some;
      within = h.within;
      boxed = h.boxed;
      earlier = h.earlier;
      parts = λ m. end_stays all more n l ∙ h.parts m;
      goes_on = end_stays all more s.from (omega (arith, l, h.earlier)) ∙ h.goes_on;
    }

    pub none_yet : AreStretches value items []
    none_yet n d l = absurd (omega (arith, l))

    -- one stretch more
    pub stretches_push : (all : List (Stretch I)) (s : Stretch I) → AreStretches value items all → IsStretch value items all (length all) s
        → AreStretches value items (all ++ s ∷ [])
    stretches_push all s are is n d l = by (lt_or_ge n (length all))
      where
        by : (n < length all) ⊎ (length all ≤ n) → IsStretch value items (all ++ s ∷ []) n (get_or (all ++ s ∷ []) n d)
        by (inl m) =
            subst (IsStretch value items (all ++ s ∷ []) n) (sym (get_or_append_left all (s ∷ []) d n m))
            (stretch_stays all s n (get_or all n d) (omega (arith, m)) (are n d m))
        by (inr m) =
            let same : n ≡ length all = let long = length-append all (s ∷ []) in omega (arith, l, m, long) in
            subst (λ k. IsStretch value items (all ++ s ∷ []) k (get_or (all ++ s ∷ []) k d)) (sym same)
            (subst (IsStretch value items (all ++ s ∷ []) (length all)) (sym (get_or_push all s d (length all) refl))
            (stretch_stays all s (length all) s (omega arith) is))

    -- a stretch without parts
    pub run_is_stretch : (all : List (Stretch I)) (s : Stretch I) → s.from ≡ length all → end_before all (length all) ≡ s.first → s.first < s.end
        → s.end ≤ length items
        → ((k : ℕ) (d : List Point) → s.first ≤ k → k < s.end → All (LiesWithin (bounds_of value s.bounds)) (get_or items k d))
        → IsStretch value items all (length all) s
    run_is_stretch all s own behind some within boxed = record {
      some = some;
      within = within;
      boxed = boxed;
      earlier = omega (arith, own);
      parts = λ l. absurd (omega (arith, l, own));
      goes_on = ap (end_before all) own ∙ behind;
    }

    -- the last of them ends within the items
    pub end_within : (all : List (Stretch I)) → AreStretches value items all → (n : ℕ) → n ≤ length all → end_before all n ≤ length items
    end_within all are zero l = omega arith
    end_within [] are (suc n) l = absurd (omega (arith, l))
    end_within (s ∷ all) are (suc n) l =
        let here : n < length (s ∷ all) = omega (arith, l) in
        let is : end_before (s ∷ all) (suc n) ≡ (get_or (s ∷ all) n s).end = end_at (s ∷ all) n s here in
        let within : (get_or (s ∷ all) n s).end ≤ length items = (are n s here).within in
        omega (arith, is, within)

  -- ---- joining

  module _ (value : I → ℤ) where
    pub joins_itself : (all : List (Stretch I)) → JoinsOn value all all
    joins_itself all = record { stretches = λ items h. h; end = refl }

    pub joins_through : (old now new : List (Stretch I)) → JoinsOn value old now → JoinsOn value now new → JoinsOn value old new
    joins_through old now new h k = record {
      stretches = λ items are. k.stretches items (h.stretches items are);
      end = k.end ∙ h.end;
    }

    -- Two stretches that follow each other, under a box that has all that theirs have: the last one, and the one before its parts.
    pub joins_two : (all : List (Stretch I)) (n m : ℕ) (last before joined : Stretch I) → suc n ≡ length all → last ≡ get_or all n last → suc m ≡ last.from
        → m < length all → before ≡ get_or all m before → joined.first ≡ before.first → joined.end ≡ last.end → joined.from ≡ before.from
        → ((p : Point) → LiesWithin (bounds_of value before.bounds) p → LiesWithin (bounds_of value joined.bounds) p)
        → ((p : Point) → LiesWithin (bounds_of value last.bounds) p → LiesWithin (bounds_of value joined.bounds) p)
        → JoinsOn value all (all ++ joined ∷ [])
    joins_two all n m last before joined long at from within before_at first end own of_before of_last = record {
      stretches = λ items are. stretches_push value items all joined are (is_stretch items are);
      end = end_at_last all joined ∙ (end ∙ sym ends);
    }
      where
        n_within : n < length all
        n_within = omega (arith, long)

        ends : end_before all (length all) ≡ last.end
        ends = ap (end_before all) (sym long) ∙ (end_at all n last n_within ∙ ap (λ (x : Stretch I). x.end) (sym at))

        meet : end_before all last.from ≡ before.end
        meet = ap (end_before all) (sym from) ∙ (end_at all m before within ∙ ap (λ (x : Stretch I). x.end) (sym before_at))

        is_stretch : (items : List (List Point)) → AreStretches value items all → IsStretch value items all (length all) joined
        is_stretch items are =
            let l : IsStretch value items all n last = subst (IsStretch value items all n) (sym at) (are n last n_within) in
            let b : IsStretch value items all m before = subst (IsStretch value items all m) (sym before_at) (are m before within) in
            let touch : before.end ≡ last.first = sym meet ∙ l.goes_on in record {
              some = let x = b.some in let y = l.some in omega (arith, first, end, touch, x, y);
              within = let y = l.within in omega (arith, end, y);
              boxed = λ k d h i. box items l b touch k d h i (lt_or_ge k before.end);
              earlier = let x = b.earlier in omega (arith, own, x, within);
              parts = λ _. ends ∙ sym end;
              goes_on = ap (end_before all) own ∙ (b.goes_on ∙ sym first);
            }
          where
            box : (items : List (List Point)) → IsStretch value items all n last → IsStretch value items all m before → before.end ≡ last.first
                → (k : ℕ) (d : List Point) → joined.first ≤ k → k < joined.end → (k < before.end) ⊎ (before.end ≤ k)
                → All (LiesWithin (bounds_of value joined.bounds)) (get_or items k d)
            box items l b touch k d h i (inl j) =
                All-weaker (LiesWithin (bounds_of value before.bounds)) (LiesWithin (bounds_of value joined.bounds)) of_before (get_or items k d)
                (b.boxed k d (omega (arith, first, h)) j)
            box items l b touch k d h i (inr j) =
                All-weaker (LiesWithin (bounds_of value last.bounds)) (LiesWithin (bounds_of value joined.bounds)) of_last (get_or items k d)
                (l.boxed k d (omega (arith, touch, j)) (omega (arith, end, i)))

  -- ---- from the end of a list

  module _ (value : I → ℤ) (items : List (List Point)) (all : List (Stretch I)) (are : AreStretches value items all) (n : ℕ) (s : Stretch I)
      (within : n < length all) (at : s ≡ get_or all n s) where
    pub own_stretch : IsStretch value items all n s
    own_stretch = subst (IsStretch value items all n) (sym at) (are n s within)

    own_end : end_before all (suc n) ≡ s.end
    own_end = end_at all n s within ∙ ap (λ (x : Stretch I). x.end) (sym at)

    -- A look at the stretch before a number leads where something is known of all that lies behind: it holds there too, where what the look
    -- tells of the stretch goes together with it.
    pub looked_past : (Holds : ℕ → Bool → Type 0) (Tells : Bool → Type 0) (odd : Bool) (join : Bool → Bool) → join false ≡ odd
        → ((told : Bool) → Tells told → Holds s.end odd → Holds s.first (join told)) → (look : Look) → LooksPast n s Tells look
        → Holds (end_before all (suc n)) odd → Holds (end_before all look.left) (join look.is_so)
    looked_past Holds Tells odd join none more look (inl (to, opened, not_so)) holds =
        let same : end_before all look.left ≡ s.end = ap (end_before all) to ∙ own_stretch.parts opened in
        subst (λ e. Holds e (join look.is_so)) (sym same)
        (subst (Holds s.end) (sym (ap join not_so ∙ none)) (subst (λ e. Holds e odd) own_end holds))
    looked_past Holds Tells odd join none more look (inr (to, tells)) holds =
        let same : end_before all look.left ≡ s.first = ap (end_before all) to ∙ own_stretch.goes_on in
        subst (λ e. Holds e (join look.is_so)) (sym same) (more look.is_so tells (subst (λ e. Holds e odd) own_end holds))

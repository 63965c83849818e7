-- What contours lay does not depend on their order, nor on where each starts.
use Rattle.std.proofs.Common.{◌≡◌, ℕ, zero, suc, ◌<◌, Bool, true, false, List, [], ◌∷◌, ◌++◌, flat_map, length, get_or, set, IsPermutation, refl, sym, ap, ◌∙◌, subst, append_assoc, append-nil}
use Rattle.std.specs.List.{AllZip, swap}
use Rattle.std.proofs.lemmas.List.Elements.{AllZip-get_or, length_all_zip}
use Rattle.std.proofs.lemmas.List.Sorted.{IsPermutation-refl, IsPermutation-trans, IsPermutation-append_comm, IsPermutation-append_left, IsPermutation-append_right, IsPermutation-keeps}
use Rattle.std.proofs.lemmas.Grind.{flat_map-append}
use Rattle.std.proofs.lemmas.List.Concat.{flat_map-cons}
use Rattle.plane_base.specs.Plane.{Point}
use Rattle.plane_base.specs.Cycles.{SameCycle}
use Rattle.plane_base.specs.Counts.{Count, Counting, Entry, boolean, one_subject, one_clip, lay, normal}
use Rattle.plane_base.specs.Given.{laid_path, laid}
use Rattle.plane_base.proofs.Facts.Maps.Normal.{IsCounting, normal_permutation, normal_append_comm, normal_append_same, normal_append_normal}
use Rattle.plane_base.proofs.Facts.Maps.Laying.{boolean_counting}
use Rattle.plane_base.proofs.Facts.Lists.Rearrangements.{fold_of_permutation}
use Rattle.plane_base.proofs.Facts.Thinning.Laws.{thinned_rotated, thinned_unique}
use Rattle.segment_split.specs.Redrawing.{redrawn}
use Rattle.contour_walk.specs.Answering.{answer_with}
use Rattle.contour_walk.specs.WalkLaws.{borders}
use Rattle.segment_split.specs.Adding.{IsTaken, Adds, AddsAll}
use Rattle.polygon_overlay.specs.Builders.{HoldsBoth}
use Rattle.polygon_overlay.specs.OverlayLaws.{HoldsContours, HoldingGoesOn, AreSameContours, OrderDoesNotMatter}

-- ---- two lists, place by place

AllZip-set : {X : Type 0} (R : X → X → Type 0) (xs ys : List X) (i : ℕ) (x y : X) → AllZip R xs ys → R x y → AllZip R (set xs i x) (set ys i y)
AllZip-set R [] [] i x y h r = tt
AllZip-set R [] (b ∷ ys) i x y h r = absurd h
AllZip-set R (a ∷ xs) [] i x y h r = absurd h
AllZip-set R (a ∷ xs) (b ∷ ys) zero x y h r = (r, h.1)
AllZip-set R (a ∷ xs) (b ∷ ys) (suc i) x y h r = (h.0, AllZip-set R xs ys i x y h.1 r)

AllZip-swap : {X : Type 0} (R : X → X → Type 0) (xs ys : List X) (i j : ℕ) → i < length xs → j < length xs → AllZip R xs ys → AllZip R (swap xs i j) (swap ys i j)
AllZip-swap R [] [] i j h k z = tt
AllZip-swap R [] (b ∷ ys) i j h k z = absurd z
AllZip-swap R (a ∷ xs) [] i j h k z = absurd z
AllZip-swap R (a ∷ xs) (b ∷ ys) i j h k z =
    AllZip-set R (set (a ∷ xs) i (get_or (a ∷ xs) j a)) (set (b ∷ ys) i (get_or (b ∷ ys) j b)) j (get_or (a ∷ xs) i a) (get_or (b ∷ ys) i b)
    (AllZip-set R (a ∷ xs) (b ∷ ys) i (get_or (a ∷ xs) j a) (get_or (b ∷ ys) j b) z (AllZip-get_or R (a ∷ xs) (b ∷ ys) j a b z k))
    (AllZip-get_or R (a ∷ xs) (b ∷ ys) i a b z h)

AllZip-append : {X : Type 0} (R : X → X → Type 0) (xs ys xs' ys' : List X) → AllZip R xs ys → AllZip R xs' ys' → AllZip R (xs ++ xs') (ys ++ ys')
AllZip-append R [] [] xs' ys' h k = k
AllZip-append R [] (y ∷ ys) xs' ys' h k = absurd h
AllZip-append R (x ∷ xs) [] xs' ys' h k = absurd h
AllZip-append R (x ∷ xs) (y ∷ ys) xs' ys' h k = (h.0, AllZip-append R xs ys xs' ys' h.1 k)

-- the second list in the order of another
record IsReordered {X : Type 0} (R : X → X → Type 0) (ys xs' : List X) : Type 0 where
  list : List X
  all : AllZip R xs' list
  order : IsPermutation ys list

reordered : {X : Type 0} (R : X → X → Type 0) (xs ys xs' : List X) → AllZip R xs ys → IsPermutation xs xs' → IsReordered R ys xs'
reordered {X} R xs ys xs' h order =
    IsPermutation-keeps xs (λ l. IsReordered R ys l)
    (record { list = ys; all = h; order = IsPermutation-refl ys })
    (λ l i j below within r. record {
      list = swap r.list i j;
      all = AllZip-swap R l r.list i j below within r.all;
      order =
          IsPermutation-trans ys r.list (swap r.list i j) r.order
          (one_swap r.list i j (subst (λ n. i < n) (length_all_zip R l r.list r.all) below) (subst (λ n. j < n) (length_all_zip R l r.list r.all) within));
    })
    xs' order
  where
    one_swap : (l : List X) (i j : ℕ) → i < length l → j < length l → IsPermutation l (swap l i j)
    one_swap l i j below within = record { moves = (i, j) ∷ []; below = (below, within, tt); is = refl }

-- ---- what a contour lays

module _ {C : Type 0} (kind : Counting C) (laws : IsCounting kind) (c : C) where
  -- a path may be cut at any of its points
  pub path_parts : (front : List Point) (p : Point) (back : List Point)
      → laid_path kind c (front ++ p ∷ back) ≡ laid_path kind c (front ++ p ∷ []) ++ laid_path kind c (p ∷ back)
  path_parts [] p back = refl
  path_parts (q ∷ []) p back = sym (append_assoc (lay kind q p c) [] (laid_path kind c (p ∷ back)))
  path_parts (q ∷ r ∷ front) p back =
      ap (λ l. lay kind q r c ++ l) (path_parts (r ∷ front) p back)
      ∙ sym (append_assoc (lay kind q r c) (laid_path kind c (r ∷ front ++ p ∷ [])) (laid_path kind c (p ∷ back)))

  pub closed_parts : (p : Point) (front : List Point) (q : Point) (back : List Point)
      → laid kind c ((p ∷ front) ++ q ∷ back) ≡ laid_path kind c ((p ∷ front) ++ q ∷ []) ++ laid_path kind c ((q ∷ back) ++ p ∷ [])
  closed_parts p front q back =
      ap (laid_path kind c) (append_assoc (p ∷ front) (q ∷ back) (p ∷ [])) ∙ path_parts (p ∷ front) q (back ++ p ∷ [])

  -- a contour lays the same from whatever point it starts
  pub laid_same : (ps qs : List Point) → SameCycle ps qs → normal kind (laid kind c ps) ≡ normal kind (laid kind c qs)
  laid_same ps qs s = ap (λ l. normal kind (laid kind c l)) s.first ∙ (by s.front s.back ∙ ap (λ l. normal kind (laid kind c l)) (sym s.second))
    where
      no_more : (l : List Point) → l ++ [] ≡ l
      no_more [] = refl
      no_more (x ∷ l) = ap (λ r. x ∷ r) (no_more l)

      by : (front back : List Point) → normal kind (laid kind c (front ++ back)) ≡ normal kind (laid kind c (back ++ front))
      by [] back = ap (λ l. normal kind (laid kind c l)) (sym (no_more back))
      by (p ∷ front) [] = ap (λ l. normal kind (laid kind c l)) (no_more (p ∷ front))
      by (p ∷ front) (q ∷ back) =
          ap (normal kind) (closed_parts p front q back)
          ∙ (normal_append_comm laws (laid_path kind c ((p ∷ front) ++ q ∷ [])) (laid_path kind c ((q ∷ back) ++ p ∷ []))
          ∙ ap (normal kind) (sym (closed_parts q back p front)))

  -- ---- what contours lay

  abbrev all_laid : List (List Point) → List (Entry C)
  all_laid cs = flat_map (laid kind c) cs

  pub laid_reordered : (cs ds : List (List Point)) → IsPermutation cs ds → normal kind (all_laid ds) ≡ normal kind (all_laid cs)
  laid_reordered cs ds order =
      fold_of_permutation (λ l. normal kind (all_laid l)) (λ x b. normal kind (laid kind c x ++ b))
      (λ x xs. sym (normal_append_normal kind (laid kind c x) (all_laid xs)))
      (λ x y b. exchange (laid kind c x) (laid kind c y) b) cs ds order
    where
      exchange : (f g b : List (Entry C)) → normal kind (f ++ normal kind (g ++ b)) ≡ normal kind (g ++ normal kind (f ++ b))
      exchange f g b =
          normal_append_normal kind f (g ++ b)
          ∙ (ap (normal kind) (sym (append_assoc f g b))
          ∙ (normal_append_same laws (f ++ g) (g ++ f) b b (normal_append_comm laws f g) refl
          ∙ (ap (normal kind) (append_assoc g f b) ∙ sym (normal_append_normal kind g (f ++ b)))))

  -- t stands for what is taken of d
  abbrev StandsFor : Bool → List Point → List Point → Type 0
  StandsFor keep_all d t = (u : List Point) → IsTaken keep_all d u → normal kind (laid kind c t) ≡ normal kind (laid kind c u)

  stands_for : (keep_all : Bool) (p d t : List Point) → SameCycle p d → IsTaken keep_all p t → StandsFor keep_all d t
  stands_for true p d t s h u k = ap (λ l. normal kind (laid kind c l)) h ∙ (laid_same p d s ∙ ap (λ l. normal kind (laid kind c l)) (sym k))
  stands_for false p d t s h u k = laid_same t u (thinned_unique (thinned_rotated s h) k)

  all_stand : (keep_all : Bool) (ps ds ts : List (List Point)) → AllZip SameCycle ps ds → AllZip (IsTaken keep_all) ps ts → AllZip (StandsFor keep_all) ds ts
  all_stand keep_all [] [] [] s h = tt
  all_stand keep_all [] [] (t ∷ ts) s h = absurd h
  all_stand keep_all [] (d ∷ ds) ts s h = absurd s
  all_stand keep_all (p ∷ ps) [] ts s h = absurd s
  all_stand keep_all (p ∷ ps) (d ∷ ds) [] s h = absurd h
  all_stand keep_all (p ∷ ps) (d ∷ ds) (t ∷ ts) s h = (stands_for keep_all p d t s.0 h.0, all_stand keep_all ps ds ts s.1 h.1)

  standing_laid : (keep_all : Bool) (ds ts us : List (List Point)) → AllZip (StandsFor keep_all) ds ts → AllZip (IsTaken keep_all) ds us
      → normal kind (all_laid ts) ≡ normal kind (all_laid us)
  standing_laid keep_all [] [] [] s h = refl
  standing_laid keep_all [] [] (u ∷ us) s h = absurd h
  standing_laid keep_all [] (t ∷ ts) us s h = absurd s
  standing_laid keep_all (d ∷ ds) [] us s h = absurd s
  standing_laid keep_all (d ∷ ds) (t ∷ ts) [] s h = absurd h
  standing_laid keep_all (d ∷ ds) (t ∷ ts) (u ∷ us) s h =
      normal_append_same laws (laid kind c t) (laid kind c u) (all_laid ts) (all_laid us) (s.0 u h.0) (standing_laid keep_all ds ts us s.1 h.1)

  -- the same contours lay the same, all their points taken or thinned
  pub same_contours : (keep_all : Bool) (cs ds ts us : List (List Point)) → AreSameContours cs ds → AllZip (IsTaken keep_all) cs ts → AllZip (IsTaken keep_all) ds us
      → normal kind (all_laid ts) ≡ normal kind (all_laid us)
  same_contours keep_all cs ds ts us same h k =
      let r = reordered (StandsFor keep_all) same.between ts ds (all_stand keep_all cs same.between ts same.starts h) same.order in
      sym (laid_reordered ts r.list r.order) ∙ standing_laid keep_all ds r.list us r.all k

-- ---- what is held

abbrev pub laid_of : List (List Point) → List (List Point) → List (Entry Count)
laid_of subjects clips = flat_map (laid boolean one_subject) subjects ++ flat_map (laid boolean one_clip) clips

pub normal_held : (keep_all : Bool) (subjects clips : List (List Point)) (held : List (Entry Count)) (h : HoldsContours keep_all subjects clips held)
    → normal boolean held ≡ normal boolean (laid_of h.taken_subjects h.taken_clips)
normal_held keep_all subjects clips held h = normal_permutation boolean_counting (laid_of h.taken_subjects h.taken_clips) held h.is

pub order_does_not_matter : OrderDoesNotMatter
order_does_not_matter input subjects clips subjects' clips' held held' h h' same_subjects same_clips o fill rule precision =
    ap (λ es. answer_with o (borders fill rule (redrawn boolean precision es)))
    (normal_held input subjects clips held h ∙ (same ∙ sym (normal_held input subjects' clips' held' h')))
  where
    same : normal boolean (laid_of h.taken_subjects h.taken_clips) ≡ normal boolean (laid_of h'.taken_subjects h'.taken_clips)
    same =
        normal_append_same boolean_counting
        (flat_map (laid boolean one_subject) h.taken_subjects) (flat_map (laid boolean one_subject) h'.taken_subjects)
        (flat_map (laid boolean one_clip) h.taken_clips) (flat_map (laid boolean one_clip) h'.taken_clips)
        (same_contours boolean boolean_counting one_subject input subjects subjects' h.taken_subjects h'.taken_subjects same_subjects h.are_subjects h'.are_subjects)
        (same_contours boolean boolean_counting one_clip input clips clips' h.taken_clips h'.taken_clips same_clips h.are_clips h'.are_clips)

-- ---- holding

added_behind : {A : Type 0} (xs ys ms held : List A) → IsPermutation (xs ++ ys) held → IsPermutation (xs ++ (ys ++ ms)) (held ++ ms)
added_behind xs ys ms held h = subst (λ l. IsPermutation l (held ++ ms)) (append_assoc xs ys ms) (IsPermutation-append_left ms (xs ++ ys) held h)

added_between : {A : Type 0} (xs ys ms held : List A) → IsPermutation (xs ++ ys) held → IsPermutation ((xs ++ ms) ++ ys) (held ++ ms)
added_between xs ys ms held h =
    subst (λ l. IsPermutation l (held ++ ms)) (sym (append_assoc xs ms ys))
    (IsPermutation-trans (xs ++ (ms ++ ys)) (xs ++ (ys ++ ms)) (held ++ ms)
    (IsPermutation-append_right xs (ms ++ ys) (ys ++ ms) (IsPermutation-append_comm ms ys))
    (added_behind xs ys ms held h))

module _ (keep_all : Bool) where
  of_both : (subjects clips : List (List Point)) (held : List (Entry Count)) → HoldsBoth keep_all subjects clips held → HoldsContours keep_all subjects clips held
  of_both subjects clips held (between, (ss, all_ss, is_between), (cs, all_cs, is)) = record {
    taken_subjects = ss;
    taken_clips = cs;
    are_subjects = all_ss;
    are_clips = all_cs;
    is = subst (IsPermutation (laid_of ss cs)) (sym (is ∙ ap (λ l. l ++ flat_map (laid boolean one_clip) cs) is_between)) (IsPermutation-refl (laid_of ss cs));
  }

  of_subjects : (subjects clips more : List (List Point)) (held after : List (Entry Count)) → HoldsContours keep_all subjects clips held
      → AddsAll boolean one_subject keep_all more held after → HoldsContours keep_all (subjects ++ more) clips after
  of_subjects subjects clips more held after h (ms, all_ms, is) = record {
    taken_subjects = h.taken_subjects ++ ms;
    taken_clips = h.taken_clips;
    are_subjects = AllZip-append (IsTaken keep_all) subjects h.taken_subjects more ms h.are_subjects all_ms;
    are_clips = h.are_clips;
    is =
        subst (IsPermutation (laid_of (h.taken_subjects ++ ms) h.taken_clips)) (sym is)
        (subst (λ l. IsPermutation (l ++ flat_map (laid boolean one_clip) h.taken_clips) (held ++ flat_map (laid boolean one_subject) ms))
        (sym (flat_map-append (laid boolean one_subject) h.taken_subjects ms))
        (added_between (flat_map (laid boolean one_subject) h.taken_subjects) (flat_map (laid boolean one_clip) h.taken_clips)
        (flat_map (laid boolean one_subject) ms) held h.is));
  }

  of_clips : (subjects clips more : List (List Point)) (held after : List (Entry Count)) → HoldsContours keep_all subjects clips held
      → AddsAll boolean one_clip keep_all more held after → HoldsContours keep_all subjects (clips ++ more) after
  of_clips subjects clips more held after h (ms, all_ms, is) = record {
    taken_subjects = h.taken_subjects;
    taken_clips = h.taken_clips ++ ms;
    are_subjects = h.are_subjects;
    are_clips = AllZip-append (IsTaken keep_all) clips h.taken_clips more ms h.are_clips all_ms;
    is =
        subst (IsPermutation (laid_of h.taken_subjects (h.taken_clips ++ ms))) (sym is)
        (subst (λ l. IsPermutation (flat_map (laid boolean one_subject) h.taken_subjects ++ l) (held ++ flat_map (laid boolean one_clip) ms))
        (sym (flat_map-append (laid boolean one_clip) h.taken_clips ms))
        (added_behind (flat_map (laid boolean one_subject) h.taken_subjects) (flat_map (laid boolean one_clip) h.taken_clips)
        (flat_map (laid boolean one_clip) ms) held h.is));
  }

  of_none : HoldsContours keep_all [] [] []
  of_none = record { taken_subjects = []; taken_clips = []; are_subjects = tt; are_clips = tt; is = IsPermutation-refl [] }

  -- one contour is added as those of a source of one
  pub one_as_all : (c : Count) (contour : List Point) (held after : List (Entry Count)) → Adds boolean c keep_all contour held after
      → AddsAll boolean c keep_all (contour ∷ []) held after
  one_as_all c contour held after (taken, is_taken, is) =
      (taken ∷ [], (is_taken, tt), is ∙ ap (λ l. held ++ l) (sym (flat_map-cons (laid boolean c) taken [] ∙ append-nil (laid boolean c taken))))

pub holding_goes_on : HoldingGoesOn
holding_goes_on = record {
  of_none = of_none;
  of_both = of_both;
  of_subjects = of_subjects;
  of_clips = of_clips;
  of_subject = λ keep_all subjects clips contour held after h adds.
      of_subjects keep_all subjects clips (contour ∷ []) held after h (one_as_all keep_all one_subject contour held after adds);
  of_clip = λ keep_all subjects clips contour held after h adds.
      of_clips keep_all subjects clips (contour ∷ []) held after h (one_as_all keep_all one_clip contour held after adds);
}

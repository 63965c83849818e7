-- A stable sort by an order: insertion of each in turn, and no other.
use Rattle.std.proofs.Common.{◌≡◌, Bool, true, false, not, ◌&&◌, cond, List, [], ◌∷◌, filter, All, AllPairs}
use Rattle.std.proofs.Common.{IsPermutation, refl, sym, ap, ap₂, ◌∙◌, arith}
use Rattle.std.proofs.lemmas.List.Elements.{All-nil, All-cons, All-head, All-tail, All-weaker}
use Rattle.std.proofs.lemmas.List.Kept.{AllPairs-cons, AllPairs-filter}
use Rattle.std.proofs.lemmas.List.Sorted.{All-permutation, sorted_far, IsPermutation-refl, IsPermutation-cons, IsPermutation-trans, IsPermutation-append_left, IsPermutation-append_comm}
use Rattle.std.specs.Cmp.{IsStrictWeakOrder}
use Rattle.std.specs.List.Sorted.{IsSortedBy, IsStableBy, ties}
use Rattle.plane_base.proofs.Facts.Maps.Normal.{AllPairs-nil, AllPairs-head, AllPairs-tail}
use Rattle.contour_walk.proofs.Groups.Lists.{filter_swap}

module _ {X : Type 0} (lt : X → X → Bool) where
  -- one behind those that come first
  abbrev pub put : X → List X → List X
  put c [] = c ∷ []
  put c (d ∷ ds) = cond (lt d c) (d ∷ put c ds) (c ∷ d ∷ ds)

  abbrev pub sort : List X → List X
  sort [] = []
  sort (c ∷ cs) = put c (sort cs)

  put_moves : (c : X) (ds : List X) → IsPermutation (c ∷ ds) (put c ds)
  put_moves c [] = IsPermutation-refl (c ∷ [])
  put_moves c (d ∷ ds) = by (lt d c) (put_moves c ds)
    where
      by : (b : Bool) → IsPermutation (c ∷ ds) (put c ds) → IsPermutation (c ∷ d ∷ ds) (cond b (d ∷ put c ds) (c ∷ d ∷ ds))
      by false rest = IsPermutation-refl (c ∷ d ∷ ds)
      by true rest =
          IsPermutation-trans (c ∷ d ∷ ds) (d ∷ c ∷ ds) (d ∷ put c ds)
          (IsPermutation-append_left ds (c ∷ d ∷ []) (d ∷ c ∷ []) (IsPermutation-append_comm (c ∷ []) (d ∷ [])))
          (IsPermutation-cons d (c ∷ ds) (put c ds) rest)

  pub sort_moves : (cs : List X) → IsPermutation cs (sort cs)
  sort_moves [] = IsPermutation-refl []
  sort_moves (c ∷ cs) = IsPermutation-trans (c ∷ cs) (c ∷ sort cs) (put c (sort cs)) (IsPermutation-cons c cs (sort cs) (sort_moves cs)) (put_moves c (sort cs))

module _ {X : Type 0} (lt : X → X → Bool) (laws : IsStrictWeakOrder lt) where
  -- the second doesn't come first
  abbrev pub InOrder : X → X → Type 0
  InOrder c d = lt d c ≡ false

  put_order : (c : X) (ds : List X) → AllPairs InOrder ds → AllPairs InOrder (put lt c ds)
  put_order c [] order = AllPairs-cons InOrder c [] (All-nil (InOrder c)) (AllPairs-nil InOrder)
  put_order c (d ∷ ds) order = by (lt d c) refl (put_order c ds (AllPairs-tail InOrder d ds order))
    where
      behind : All (InOrder d) ds
      behind = AllPairs-head InOrder d ds order

      by : (b : Bool) → lt d c ≡ b → AllPairs InOrder (put lt c ds) → AllPairs InOrder (cond b (d ∷ put lt c ds) (c ∷ d ∷ ds))
      by true e rest =
          AllPairs-cons InOrder d (put lt c ds)
          (All-permutation (InOrder d) (c ∷ ds) (put lt c ds) (put_moves lt c ds) (All-cons (InOrder d) c ds (laws.one_way d c e) behind)) rest
      by false e rest =
          AllPairs-cons InOrder c (d ∷ ds)
          (All-cons (InOrder c) d ds e (All-weaker (InOrder d) (InOrder c) (λ x h. laws.chain x d c h e) ds behind)) order

  pub sort_orders : (cs : List X) → AllPairs InOrder (sort lt cs)
  sort_orders [] = AllPairs-nil InOrder
  sort_orders (c ∷ cs) = put_order c (sort lt cs) (sort_orders cs)

  -- ---- a stable sort

  -- of two that are like a third none comes first
  apart_from : (c d x : X) → ties lt x d ≡ true → ties lt x c ≡ true → lt d c ≡ true → ⊥
  apart_from c d x h k e =
      let l = parts_of (lt x d) (lt d x) h in
      let m = parts_of (lt x c) (lt c x) k in
      let never = sym e ∙ laws.chain d x c l.1 m.0 in
      cc
    where
      parts_of : (a b : Bool) → not a && not b ≡ true → (a ≡ false) × (b ≡ false)
      parts_of true b e = absurd (cc)
      parts_of false true e = absurd (cc)
      parts_of false false e = (refl, refl)

  put_stays : (x c : X) (ds : List X) → filter (ties lt x) (put lt c ds) ≡ filter (ties lt x) (c ∷ ds)
  put_stays x c [] = refl
  put_stays x c (d ∷ ds) = by (lt d c) refl (put_stays x c ds)
    where
      rest : List X
      rest = filter (ties lt x) ds

      exchanged : (a b : Bool) → (a ≡ true → b ≡ true → ⊥) → cond a (d ∷ cond b (c ∷ rest) rest) (cond b (c ∷ rest) rest) ≡ cond b (c ∷ cond a (d ∷ rest) rest) (cond a (d ∷ rest) rest)
      exchanged true true never = absurd (never refl refl)
      exchanged true false never = refl
      exchanged false true never = refl
      exchanged false false never = refl

      by : (b : Bool) → lt d c ≡ b → filter (ties lt x) (put lt c ds) ≡ filter (ties lt x) (c ∷ ds) → filter (ties lt x) (cond b (d ∷ put lt c ds) (c ∷ d ∷ ds)) ≡ filter (ties lt x) (c ∷ d ∷ ds)
      by false e same = refl
      by true e same =
          ap (λ fs. cond (ties lt x d) (d ∷ fs) fs) same
          ∙ exchanged (ties lt x d) (ties lt x c) (λ h k. apart_from c d x h k e)

  sort_stays : (x : X) (cs : List X) → filter (ties lt x) (sort lt cs) ≡ filter (ties lt x) cs
  sort_stays x [] = refl
  sort_stays x (c ∷ cs) = put_stays x c (sort lt cs) ∙ ap (λ fs. cond (ties lt x c) (c ∷ fs) fs) (sort_stays x cs)

  like_itself : (c : X) → ties lt c c ≡ true
  like_itself c = by (lt c c) refl
    where
      by : (b : Bool) → lt c c ≡ b → not b && not b ≡ true
      by true e = let z = sym e ∙ laws.one_way c c e in absurd (cc)
      by false e = refl

  same_head : {c d : X} {cs ds : List X} → c ∷ cs ≡ d ∷ ds → c ≡ d
  same_head e = cc

  same_tail : {c d : X} {cs ds : List X} → c ∷ cs ≡ d ∷ ds → cs ≡ ds
  same_tail e = cc

  head_found : (c : X) (cs : List X) → filter (ties lt c) (c ∷ cs) ≡ c ∷ filter (ties lt c) cs
  head_found c cs = ap (λ b. cond b (c ∷ filter (ties lt c) cs) (filter (ties lt c) cs)) (like_itself c)

  -- a contour like one that stands behind in order, so that it doesn't come before the first
  not_before_first : (d c : X) (cs : List X) (w : X) (ws : List X) → AllPairs InOrder (c ∷ cs) → filter (ties lt d) (c ∷ cs) ≡ w ∷ ws → lt d c ≡ false
  not_before_first d c cs w ws order found = in_list (c ∷ cs) (All-cons (InOrder c) c cs (itself c) (AllPairs-head InOrder c cs order)) found
    where
      itself : (c : X) → lt c c ≡ false
      itself c = by (lt c c) refl
        where
          by : (b : Bool) → lt c c ≡ b → lt c c ≡ false
          by true e = laws.one_way c c e
          by false e = e

      first_of : (a b : Bool) → not a && not b ≡ true → a ≡ false
      first_of true b e = absurd (cc)
      first_of false b e = refl

      in_list : (xs : List X) → All (InOrder c) xs → filter (ties lt d) xs ≡ w ∷ ws → lt d c ≡ false
      in_list [] all e = absurd (cc)
      in_list (x ∷ xs) all e = by (ties lt d x) refl e (λ f. in_list xs (All-tail (InOrder c) x xs all) f)
        where
          by : (b : Bool) → ties lt d x ≡ b → cond b (x ∷ filter (ties lt d) xs) (filter (ties lt d) xs) ≡ w ∷ ws → (filter (ties lt d) xs ≡ w ∷ ws → lt d c ≡ false) → lt d c ≡ false
          by true h f more = laws.chain d x c (first_of (lt d x) (lt x d) h) (All-head (InOrder c) x xs all)
          by false h f more = more f

  -- two lists in order that have the same contours of each kind, in the same order, are the same
  same_lists : (cs ds : List X) → AllPairs InOrder cs → AllPairs InOrder ds → ((x : X) → filter (ties lt x) cs ≡ filter (ties lt x) ds) → cs ≡ ds
  same_lists [] [] h k same = refl
  same_lists [] (d ∷ ds) h k same = let e = same d ∙ head_found d ds in absurd (cc)
  same_lists (c ∷ cs) [] h k same = let e = sym (head_found c cs) ∙ same c in absurd (cc)
  same_lists (c ∷ cs) (d ∷ ds) h k same =
      ap₂ (λ x xs. x ∷ xs) one (same_lists cs ds (AllPairs-tail InOrder c cs h) (AllPairs-tail InOrder d ds k) rest)
    where
      like : ties lt c d ≡ true
      like =
          ap₂ (λ a b. not a && not b)
          (not_before_first c d ds c (filter (ties lt c) cs) k (sym (same c) ∙ head_found c cs))
          (not_before_first d c cs d (filter (ties lt d) ds) h (same d ∙ head_found d ds))

      one : c ≡ d
      one = same_head (sym (head_found c cs) ∙ (same c ∙ ap (λ b. cond b (d ∷ filter (ties lt c) ds) (filter (ties lt c) ds)) like))

      rest : (x : X) → filter (ties lt x) cs ≡ filter (ties lt x) ds
      rest x = by (ties lt x c) (same x ∙ ap (λ e. cond (ties lt x e) (e ∷ filter (ties lt x) ds) (filter (ties lt x) ds)) (sym one))
        where
          by : (b : Bool) → cond b (c ∷ filter (ties lt x) cs) (filter (ties lt x) cs) ≡ cond b (c ∷ filter (ties lt x) ds) (filter (ties lt x) ds) → filter (ties lt x) cs ≡ filter (ties lt x) ds
          by true e = same_tail e
          by false e = e

  -- the sort that is stable
  pub sorted_is : (cs ds : List X) → IsSortedBy lt ds → IsStableBy lt cs ds → ds ≡ sort lt cs
  sorted_is cs ds sorted stable =
      same_lists ds (sort lt cs) (λ i j d before inside. sorted_far lt laws ds sorted i j d (omega (arith, before)) inside) (sort_orders cs)
      (λ x. stable x ∙ sym (sort_stays x cs))

  -- what a test keeps is sorted as before
  pub sort_kept : (keep : X → Bool) (cs : List X) → filter keep (sort lt cs) ≡ sort lt (filter keep cs)
  sort_kept keep cs =
      same_lists (filter keep (sort lt cs)) (sort lt (filter keep cs)) (AllPairs-filter InOrder keep (sort lt cs) (sort_orders cs)) (sort_orders (filter keep cs))
      (λ x. filter_swap (ties lt x) keep (sort lt cs) ∙ (ap (filter keep) (sort_stays x cs) ∙ (filter_swap keep (ties lt x) cs ∙ sym (sort_stays x (filter keep cs)))))

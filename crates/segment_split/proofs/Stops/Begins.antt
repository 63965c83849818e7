-- A row more for a height.
use Rattle.std.proofs.Common.{◌≡◌, ◌≢◌, ℕ, zero, suc, ◌<◌, List, [], ◌∷◌, ◌++◌, length, take, drop, map, get_or, reverse, All, Contains, IsPermutation, ℤ, ◌<ℤ◌, ◌≤ℤ◌, refl, sym, ap, subst, ◌∙◌, arith}
use Rattle.std.specs.List.{insert}
use Rattle.std.proofs.lemmas.List.{map-append, length-map, get_or-map, reverse-append}
use Rattle.std.proofs.lemmas.List.Elements.{All-cons, All-append, All-head, All-tail, All-contains, All-contains_itself}
use Rattle.std.proofs.lemmas.List.Sorted.{All-permutation, IsPermutation-sym}
use Rattle.plane_base.proofs.Facts.Lists.Cycles.{All-front, All-back}
use Rattle.plane_base.proofs.Facts.Maps.Normal.{AllPairs-cons, AllPairs-head, AllPairs-tail}
use Rattle.segment_split.specs.Stops.{RowView, AreRising, bare}
use Rattle.segment_split.proofs.Passes.Merges.{parted_at}
use Rattle.segment_split.proofs.Stops.Rows.{strictly_above}

rising_inserted : (before after : List RowView) (r : RowView) → AreRising (before ++ after) → All (λ s. s.y <ℤ r.y) before → All (λ s. r.y <ℤ s.y) after → AreRising (before ++ r ∷ after)
rising_inserted [] after r h below above = AllPairs-cons (λ r s. r.y <ℤ s.y) r after above h
rising_inserted (q ∷ before) after r h below above =
    let behind = AllPairs-head (λ r s. r.y <ℤ s.y) q (before ++ after) h in
    AllPairs-cons (λ r s. r.y <ℤ s.y) q (before ++ r ∷ after)
    (All-append (λ s. q.y <ℤ s.y) before (r ∷ after) (All-front (λ s. q.y <ℤ s.y) before after behind)
    (All-cons (λ s. q.y <ℤ s.y) r after (All-head (λ s. s.y <ℤ r.y) q before below) (All-back (λ s. q.y <ℤ s.y) before after behind)))
    (rising_inserted before after r (AllPairs-tail (λ r s. r.y <ℤ s.y) q (before ++ after) h) (All-tail (λ s. s.y <ℤ r.y) q before below) above)

-- one more among others
module _ {X : Type 0} (before after : List X) (x : X) where
  new_there : Contains (before ++ x ∷ after) x
  new_there = All-head (Contains (before ++ x ∷ after)) x after (All-back (Contains (before ++ x ∷ after)) before (x ∷ after) (All-contains_itself (before ++ x ∷ after)))

  old_there : All (Contains (before ++ x ∷ after)) (before ++ after)
  old_there =
      All-append (Contains (before ++ x ∷ after)) before after (All-front (Contains (before ++ x ∷ after)) before (x ∷ after) (All-contains_itself (before ++ x ∷ after)))
      (All-tail (Contains (before ++ x ∷ after)) x after (All-back (Contains (before ++ x ∷ after)) before (x ∷ after) (All-contains_itself (before ++ x ∷ after))))

pub an_element : {X : Type 0} (xs : List X) (i : ℕ) → i < length xs → (x : X) × (x ≡ get_or xs i x)
an_element [] i l = absurd (omega (arith, l))
an_element (x ∷ xs) zero l = (x, refl)
an_element (x ∷ xs) (suc i) l = an_element xs i (omega (arith, l))

module _ {R : Type 0} (view : R → RowView) (rows : List R) (place : ℕ) (y : ℤ) where
  pub there_at : place < length rows → ((d : R) → (view (get_or rows place d)).y ≡ y) → Contains (map (λ r. r.y) (map view rows)) y
  there_at within height =
      let found = an_element rows place within in (
        place,
        omega (arith, within, length-map rows view, length-map (map view rows) (λ r. r.y)),
        get_or-map (λ r. r.y) (map view rows) place (view found.0) y (omega (arith, within, length-map rows view)) ∙ (ap (λ r. r.y) (get_or-map view rows place found.0 (view found.0) within) ∙ height found.0),
      )

  module _ (rising : AreRising (map view rows)) (below : All (λ r. r.y <ℤ y) (map view (take place rows))) (others : All (λ r. y ≤ℤ r.y) (map view (drop place rows)))
      (other : place < length rows → (d : R) → (view (get_or rows place d)).y ≢ y) (x : R) (is : view x ≡ record { y = y; line = bare }) where
    inserted : map view (insert rows place x) ≡ map view (take place rows) ++ view x ∷ map view (drop place rows)
    inserted = map-append view (take place rows) (x ∷ drop place rows)

    height : (view x).y ≡ y
    height = ap (λ r. r.y) is

    pub rising_with : AreRising (map view (insert rows place x))
    rising_with =
        subst AreRising (sym inserted)
        (rising_inserted (map view (take place rows)) (map view (drop place rows)) (view x) (subst AreRising (parted_at view place rows) rising)
        (subst (λ z. All (λ r. r.y <ℤ z) (map view (take place rows))) (sym height) below)
        (subst (λ z. All (λ r. z <ℤ r.y) (map view (drop place rows))) (sym height) (strictly_above view rows place y rising below others other)))

    pub bare_with : All (λ r. r.line ≡ bare) (map view rows) → All (λ r. r.line ≡ bare) (map view (insert rows place x))
    bare_with h =
        let parted = subst (All (λ r. r.line ≡ bare)) (parted_at view place rows) h in
        subst (All (λ r. r.line ≡ bare)) (sym inserted)
        (All-append (λ r. r.line ≡ bare) (map view (take place rows)) (view x ∷ map view (drop place rows)) (All-front (λ r. r.line ≡ bare) (map view (take place rows)) (map view (drop place rows)) parted)
        (All-cons (λ r. r.line ≡ bare) (view x) (map view (drop place rows)) (ap (λ r. r.line) is) (All-back (λ r. r.line ≡ bare) (map view (take place rows)) (map view (drop place rows)) parted)))

    heights_with : map (λ r. r.y) (map view (insert rows place x)) ≡ map (λ r. r.y) (map view (take place rows)) ++ (view x).y ∷ map (λ r. r.y) (map view (drop place rows))
    heights_with = ap (map (λ r. r.y)) inserted ∙ map-append (λ r. r.y) (map view (take place rows)) (view x ∷ map view (drop place rows))

    heights_apart : map (λ r. r.y) (map view rows) ≡ map (λ r. r.y) (map view (take place rows)) ++ map (λ r. r.y) (map view (drop place rows))
    heights_apart = ap (map (λ r. r.y)) (parted_at view place rows) ∙ map-append (λ r. r.y) (map view (take place rows)) (map view (drop place rows))

    pub has_with : Contains (map (λ r. r.y) (map view (insert rows place x))) y
    has_with =
        subst (λ l. Contains l y) (sym heights_with)
        (subst (λ z. Contains (map (λ r. r.y) (map view (take place rows)) ++ (view x).y ∷ map (λ r. r.y) (map view (drop place rows))) z) height
        (new_there (map (λ r. r.y) (map view (take place rows))) (map (λ r. r.y) (map view (drop place rows))) (view x).y))

    pub kept_with : (z : ℤ) → Contains (map (λ r. r.y) (map view rows)) z → Contains (map (λ r. r.y) (map view (insert rows place x))) z
    kept_with z at =
        subst (λ l. Contains l z) (sym heights_with)
        (All-contains (Contains (map (λ r. r.y) (map view (take place rows)) ++ (view x).y ∷ map (λ r. r.y) (map view (drop place rows))))
        (map (λ r. r.y) (map view (take place rows)) ++ map (λ r. r.y) (map view (drop place rows))) z
        (old_there (map (λ r. r.y) (map view (take place rows))) (map (λ r. r.y) (map view (drop place rows))) (view x).y) (subst (λ l. Contains l z) heights_apart at))

pub contains_permuted : {X : Type 0} (xs ys : List X) (x : X) → IsPermutation xs ys → Contains xs x → Contains ys x
contains_permuted xs ys x same at = All-contains (Contains ys) xs x (All-permutation (Contains ys) ys xs (IsPermutation-sym xs ys same) (All-contains_itself ys)) at

pub mapped_reverse : {X Y : Type 0} (f : X → Y) (xs : List X) → map f (reverse xs) ≡ reverse (map f xs)
mapped_reverse f [] = refl
mapped_reverse f (x ∷ xs) =
    ap (map f) (reverse-append (x ∷ []) xs)
    ∙ (map-append f (reverse xs) (reverse (x ∷ []))
    ∙ (ap (λ l. l ++ f x ∷ []) (mapped_reverse f xs) ∙ sym (reverse-append (f x ∷ []) (map f xs))))

-- A string map whose lines run along the edges of a clip: its subject is an arrangement, if the map of subject and clip is.
use Rattle.std.proofs.Common.{◌≡◌, ℕ, ◌+◌, ◌<◌, ◌++◌, take, get_or, ℤ, pos, ◌*ℤ◌, ◌-ℤ◌, true, List, [], ◌∷◌, map, length, All, AllPairs, Less, refl, sym, ap, ◌∙◌, subst}
use Rattle.std.proofs.Math.IntN.{zero-*ℤ}
use Rattle.std.proofs.lemmas.List.{length-map, map-append, take_more}
use Rattle.std.proofs.lemmas.List.Elements.{All-map}
use Rattle.plane_base.specs.Plane.{is_before, edge_order}
use Rattle.plane_base.specs.Counts.{Count, Entry}
use Rattle.plane_base.specs.Balance.{mark}
use Rattle.plane_base.specs.Segments.{IsEdgeWithin, MeetsInEnds}
use Rattle.plane_base.proofs.Facts.Lists.Totals.{total_map, total_zero}
use Rattle.plane_base.proofs.Facts.Maps.Normal.{AllPairs-nil, AllPairs-cons, AllPairs-head, AllPairs-tail}
use Rattle.segment_split.specs.Strings.{StringCount, string_of}
use Rattle.segment_arrangement.specs.SideLaws.{IsArrangement}
use Rattle.segment_arrangement.specs.Strings.{subject_alone, subject_of}

map_twice : {A B C : Type 0} (f : A → B) (g : B → C) (xs : List A) → map g (map f xs) ≡ map (λ x. g (f x)) xs
map_twice f g [] = refl
map_twice f g (x ∷ xs) = ap (λ ys. g (f x) ∷ ys) (map_twice f g xs)

pairs_map : {A B : Type 0} (R : B → B → Type 0) (f : A → B) (xs : List A) → AllPairs (λ x y. R (f x) (f y)) xs → AllPairs R (map f xs)
pairs_map R f [] h = AllPairs-nil R
pairs_map R f (x ∷ xs) h = AllPairs-cons R (f x) (map f xs) (All-map (R (f x)) f xs (AllPairs-head (λ x y. R (f x) (f y)) x xs h)) (pairs_map R f xs (AllPairs-tail (λ x y. R (f x) (f y)) x xs h))

-- the edge with the subject's count, and a line where the clip runs
abbrev pub lined : Entry Count → Entry StringCount
lined e = record { edge = e.edge; count = string_of e.count.subject e.count.clip }

-- its subject alone
abbrev bare : Entry Count → Entry Count
bare e = record { edge = e.edge; count = subject_alone (string_of e.count.subject e.count.clip) }

bare_arranged : (es : List (Entry Count)) → IsArrangement es → IsArrangement (map bare es)
bare_arranged es h = record {
  directed = All-map (λ e. is_before e.edge.a e.edge.b ≡ true) bare es h.directed;
  rising = pairs_map (λ e f. edge_order e.edge f.edge ≡ Less) bare es h.rising;
  in_ends = subst MeetsInEnds (sym (map_twice bare (λ e. e.edge) es)) h.in_ends;
  balanced = record {
    subject = λ v. total_map (λ e. e.count.subject *ℤ (mark v e.edge.a -ℤ mark v e.edge.b)) bare es ∙ h.balanced.subject v;
    clip =
        λ v. total_map (λ e. e.count.clip *ℤ (mark v e.edge.a -ℤ mark v e.edge.b)) bare es
        ∙ total_zero (λ e. pos 0 *ℤ (mark v e.edge.a -ℤ mark v e.edge.b)) es (λ e. zero-*ℤ (mark v e.edge.a -ℤ mark v e.edge.b));
  };
}

pub lined_arranged : (es : List (Entry Count)) → IsArrangement es → IsArrangement (subject_of (map lined es))
lined_arranged es h = subst IsArrangement (sym (map_twice lined (λ e. record { edge = e.edge; count = subject_alone e.count }) es)) (bare_arranged es h)

pub lined_within : (least greatest : ℤ) (es : List (Entry Count)) → All (λ e. IsEdgeWithin least greatest e.edge) es → All (λ e. IsEdgeWithin least greatest e.edge) (map lined es)
lined_within least greatest es h = All-map (λ e. IsEdgeWithin least greatest e.edge) lined es h

pub lined_length : {A B : Type 0} (f : A → Entry StringCount) (g : B → Entry Count) (xs : List A) (ys : List B) → map f xs ≡ map lined (map g ys) → length xs ≡ length ys
lined_length f g xs ys e = sym (length-map xs f) ∙ (ap length e ∙ (length-map (map g ys) lined ∙ length-map ys g))

-- one more of them
pub pushed :
    {S T : Type 0} (f : T → Entry StringCount) (g : S → Entry Count) (ts new : List T) (x : T) (ss : List S) (i : ℕ) (s : S) → map f ts ≡ map lined (map g (take i ss)) → new ≡ ts ++ x ∷ []
    → i < length ss → s ≡ get_or ss i s → f x ≡ lined (g s) → map f new ≡ map lined (map g (take (i + 1) ss))
pushed f g ts new x ss i s before is inside at made =
    ap (map f) is
    ∙ (map-append f ts (x ∷ [])
    ∙ ((λ k. before k ++ made k ∷ [])
    ∙ (sym (map-append lined (map g (take i ss)) (g s ∷ []))
    ∙ (ap (map lined) (sym (map-append g (take i ss) (s ∷ [])))
    ∙ ap (λ l. map lined (map g l)) (ap (λ t. take i ss ++ t ∷ []) at ∙ sym (take_more ss i s inside))))))

-- A subject and a clip in boxes that share no point are disjoint: what the subject fills lies in its box, and what the clip fills in the other.
use Rattle.std.proofs.Common.{◌≡◌, ◌⊎◌, inl, inr, ℕ, zero, suc, ◌<◌, ℤ, pos, ◌+ℤ◌, Bool, true, false, not, ◌&&◌, ◌||◌, cond, List, [], ◌∷◌, ◌++◌, length, filter, flat_map, get_or, All, Any, Contains, refl, sym, ap, ap₂, ◌∙◌, subst, arith}
use Rattle.std.specs.List.{AllZip, list_any}
use Rattle.std.specs.Ordering.{is_eq}
use Rattle.std.specs.declared.result.Result.TheVariants.{Ok}
use Rattle.std.proofs.lemmas.Bool.{false≢true, false_from_ne_true}
use Rattle.std.proofs.lemmas.List.Elements.{All-nil, All-cons, All-head, All-tail, All-append, All-weaker, All-map, All-filter, filter_passes}
use Rattle.std.proofs.lemmas.List.Folds.{list_any_none, map_fixed}
use Rattle.std.proofs.lemmas.List.Sorted.{All-permutation}
use Rattle.plane_base.specs.Plane.{Point, RationalPoint, IsWithin, is_below, point_order}
use Rattle.plane_base.specs.Counts.{Count, Counting, Entry, boolean, one_subject, one_clip, normal}
use Rattle.plane_base.specs.Balance.{IsBalancedMap}
use Rattle.plane_base.specs.Given.{laid}
use Rattle.plane_base.specs.Regions as region
use Rattle.plane_base.specs.Regions.{FillRule, is_filled}
use Rattle.plane_base.specs.Windings.{winding}
use Rattle.plane_base.proofs.Facts.Lists.Totals.{total_zero_on}
use Rattle.plane_base.proofs.Facts.Maps.Normal.{AllPairs-nil, AllPairs-cons}
use Rattle.plane_base.proofs.Facts.Points.Orders.{point_equal, is_equal}
use Rattle.plane_base.proofs.Facts.Windings.Sums.{region_of_nothing}
use Rattle.segment_split.specs.Adding.{IsTaken}
use Rattle.segment_split.specs.Groups.{Bounds, LiesWithin, in_box, AreApart, AreGroups, part, RedrawsAlone}
use Rattle.segment_split.specs.Redrawing.{redrawn}
use Rattle.segment_split.specs.RedrawLaws.{Rearranges, RedrawsToTheEnd, IsCountMap, with_counts, RedrawsAnyCounts}
use Rattle.segment_split.specs.declared.count.ShapeType.TheVariants.{Subject, Clip}
use Rattle.segment_split.specs.declared.solver.Precision.{Precision}
use Rattle.segment_split.proofs.Facts.Adding.Held.{laid_holds, taken_all}
use Rattle.segment_split.proofs.Facts.Groups.Boxes.{in_box_told, in_box_tested, apart_swapped, apart_points, not_in_both}
use Rattle.segment_arrangement.specs.EdgeSides.{middle, lower_side, upper_side, fill_of}
use Rattle.segment_arrangement.specs.Fills.{has}
use Rattle.segment_arrangement.specs.Graphs.{Link, link_of, all_links}
use Rattle.segment_arrangement.specs.GroupSides.{IsFilledAlone, GroupsFillAlone}
use Rattle.segment_arrangement.specs.SideLaws.{IsArrangement}
use Rattle.polygon_overlay.specs.Builders.{IsHeld, HoldsBoth, default_precision}
use Rattle.polygon_overlay.specs.OverlayLaws.{HoldsContours, HoldingGoesOn}
use Rattle.polygon_overlay.specs.Overlays.{redrawn_of}
use Rattle.polygon_overlay.specs.Predicates.{is_shared, is_common, is_inside, is_covered, is_subjects_own, is_clips_own, some, each, ends_where, share_point, ends_coincide, within, covers, relations_of}
use Rattle.polygon_overlay.specs.RelationLaws.{only_disjoint, LieApart, ApartIsDisjoint}
use Rattle.polygon_overlay.specs.Singles.{IsRelated, AreRelated, AreDisjoint}
use Rattle.polygon_overlay.specs.declared.relate.Relations.{Relations}
use Rattle.polygon_overlay.proofs.Answering.ArrangementLaws.{redrawn_arrangement}
use Rattle.polygon_overlay.proofs.Holding.HeldLaws.{nothing_held, held_after_source}
use Rattle.polygon_overlay.proofs.Relating.RelationLaws.{bits}
use Rattle.polygon_overlay.proofs.Relating.ThinnedLaws.{all_thinned}

-- ---- fills of one role

-- the subject's bits alone, or the clip's
record IsSubjects (fill : ℕ) : Type 0 where
  above : Bool
  below : Bool
  is : fill ≡ bits above below false false

record IsClips (fill : ℕ) : Type 0 where
  above : Bool
  below : Bool
  is : fill ≡ bits false false above below

-- what such fills have in common
record AreUnshared (fill : ℕ) : Type 0 where
  shared : is_shared fill ≡ false
  common : is_common fill ≡ false
  inside : is_inside fill ≡ not (has 3 fill)
  covered : is_covered fill ≡ not (has 12 fill)

subjects_unshared : (a b : Bool) → AreUnshared (bits a b false false)
subjects_unshared true true = record { shared = refl; common = refl; inside = refl; covered = refl }
subjects_unshared true false = record { shared = refl; common = refl; inside = refl; covered = refl }
subjects_unshared false true = record { shared = refl; common = refl; inside = refl; covered = refl }
subjects_unshared false false = record { shared = refl; common = refl; inside = refl; covered = refl }

clips_unshared : (c d : Bool) → AreUnshared (bits false false c d)
clips_unshared true true = record { shared = refl; common = refl; inside = refl; covered = refl }
clips_unshared true false = record { shared = refl; common = refl; inside = refl; covered = refl }
clips_unshared false true = record { shared = refl; common = refl; inside = refl; covered = refl }
clips_unshared false false = record { shared = refl; common = refl; inside = refl; covered = refl }

not_clips_own : (a b : Bool) → is_clips_own (bits a b false false) ≡ false
not_clips_own true true = refl
not_clips_own true false = refl
not_clips_own false true = refl
not_clips_own false false = refl

not_subjects_own : (c d : Bool) → is_subjects_own (bits false false c d) ≡ false
not_subjects_own true true = refl
not_subjects_own true false = refl
not_subjects_own false true = refl
not_subjects_own false false = refl

-- ---- links in two boxes

-- the link lies in the subject's box with a fill of the subject's, or in the clip's with one of the clip's
abbrev IsBeside : Bounds → Bounds → Link → Type 0
IsBeside one other l = ((in_box one l.edge ≡ true) × IsSubjects l.fill) ⊎ ((in_box other l.edge ≡ true) × IsClips l.fill)

unshared : (one other : Bounds) (l : Link) → IsBeside one other l → AreUnshared l.fill
unshared one other l (inl (here, f)) = subst AreUnshared (sym f.is) (subjects_unshared f.above f.below)
unshared one other l (inr (there, f)) = subst AreUnshared (sym f.is) (clips_unshared f.above f.below)

-- where each fill that passes the first test fails the second, some don't pass the first, or not all pass the second
none_within : (test second : ℕ → Bool) (links : List Link) → All (λ l. second l.fill ≡ not (test l.fill)) links
    → (some test links && each second links) ≡ false
none_within test second [] opposite = refl
none_within test second (l ∷ links) opposite =
    ap (λ b. (test l.fill || some test links) && (b && each second links)) (All-head (λ l. second l.fill ≡ not (test l.fill)) l links opposite)
    ∙ by (test l.fill) (none_within test second links (All-tail (λ l. second l.fill ≡ not (test l.fill)) l links opposite))
  where
    by : (b : Bool) → (some test links && each second links) ≡ false → ((b || some test links) && (not b && each second links)) ≡ false
    by true rest = refl
    by false rest = rest

ends_within : (test : ℕ → Bool) (box : Bounds) (links : List Link) → All (λ l. (in_box box l.edge ≡ true) ⊎ (test l.fill ≡ false)) links
    → All (LiesWithin box) (ends_where test links)
ends_within test box [] all = All-nil (LiesWithin box)
ends_within test box (l ∷ links) all =
    All-append (LiesWithin box) (cond (test l.fill) (l.edge.a ∷ l.edge.b ∷ []) []) (ends_where test links)
    (by (All-head (λ l. (in_box box l.edge ≡ true) ⊎ (test l.fill ≡ false)) l links all))
    (ends_within test box links (All-tail (λ l. (in_box box l.edge ≡ true) ⊎ (test l.fill ≡ false)) l links all))
  where
    both : in_box box l.edge ≡ true → (b : Bool) → All (LiesWithin box) (cond b (l.edge.a ∷ l.edge.b ∷ []) [])
    both h true =
        let ends = in_box_told box l.edge h in
        All-cons (LiesWithin box) l.edge.a (l.edge.b ∷ []) ends.0 (All-cons (LiesWithin box) l.edge.b [] ends.1 (All-nil (LiesWithin box)))
    both h false = All-nil (LiesWithin box)

    by : (in_box box l.edge ≡ true) ⊎ (test l.fill ≡ false) → All (LiesWithin box) (cond (test l.fill) (l.edge.a ∷ l.edge.b ∷ []) [])
    by (inl h) = both h (test l.fill)
    by (inr none) = subst (λ b. All (LiesWithin box) (cond b (l.edge.a ∷ l.edge.b ∷ []) [])) (sym none) (All-nil (LiesWithin box))

-- points of boxes that share none are no common points
none_coincides : (one other : Bounds) → AreApart one other → (ps qs : List Point) → All (LiesWithin one) ps → All (LiesWithin other) qs
    → share_point ps qs ≡ false
none_coincides one other apart ps qs of_ps of_qs =
    list_any_none (λ p. list_any (λ q. is_eq (point_order p q)) qs) ps
    (All-weaker (LiesWithin one) (λ p. list_any (λ q. is_eq (point_order p q)) qs ≡ false) beside_all ps of_ps)
  where
    differ_where : (p q : Point) → LiesWithin one p → LiesWithin other q → is_eq (point_order p q) ≡ false
    differ_where p q h k =
        false_from_ne_true (is_eq (point_order p q))
        (λ e. apart_points one other p apart h (subst (LiesWithin other) (sym (point_equal p q (is_equal (point_order p q) e))) k))

    beside_all : (p : Point) → LiesWithin one p → list_any (λ q. is_eq (point_order p q)) qs ≡ false
    beside_all p h =
        list_any_none (λ q. is_eq (point_order p q)) qs
        (All-weaker (LiesWithin other) (λ q. is_eq (point_order p q) ≡ false) (λ q k. differ_where p q h k) qs of_qs)

-- the table by what it is made of
abbrev relations_by : Bool → Bool → Bool → Bool → Bool → Relations
relations_by shared common coincide inside covered = record {
  intersects = shared || coincide;
  interiors_intersect = common;
  touches = (shared || coincide) && not common;
  point_intersects = not shared && coincide;
  within = inside;
  disjoint = not (shared || coincide);
  covers = covered;
}

beside_disjoint : (one other : Bounds) → AreApart one other → (links : List Link) → All (IsBeside one other) links → relations_of links ≡ only_disjoint
beside_disjoint one other apart links beside =
    ap (λ b. relations_by b (some is_common links) (ends_coincide links) (within links) (covers links)) shared
    ∙ (ap (λ b. relations_by false b (ends_coincide links) (within links) (covers links)) common
    ∙ (ap (λ b. relations_by false false b (within links) (covers links)) coincide
    ∙ (ap (λ b. relations_by false false false b (covers links)) inside
    ∙ ap (λ b. relations_by false false false false b) covered)))
  where
    shared : some is_shared links ≡ false
    shared =
        list_any_none (λ l. is_shared l.fill) links
        (All-weaker (IsBeside one other) (λ l. is_shared l.fill ≡ false) (λ l h. (unshared one other l h).shared) links beside)

    common : some is_common links ≡ false
    common =
        list_any_none (λ l. is_common l.fill) links
        (All-weaker (IsBeside one other) (λ l. is_common l.fill ≡ false) (λ l h. (unshared one other l h).common) links beside)

    subjects_ends : (l : Link) → IsBeside one other l → (in_box one l.edge ≡ true) ⊎ (is_subjects_own l.fill ≡ false)
    subjects_ends l (inl (here, f)) = inl here
    subjects_ends l (inr (there, f)) = inr (ap is_subjects_own f.is ∙ not_subjects_own f.above f.below)

    clips_ends : (l : Link) → IsBeside one other l → (in_box other l.edge ≡ true) ⊎ (is_clips_own l.fill ≡ false)
    clips_ends l (inl (here, f)) = inr (ap is_clips_own f.is ∙ not_clips_own f.above f.below)
    clips_ends l (inr (there, f)) = inl there

    coincide : ends_coincide links ≡ false
    coincide =
        none_coincides one other apart (ends_where is_subjects_own links) (ends_where is_clips_own links)
        (ends_within is_subjects_own one links
        (All-weaker (IsBeside one other) (λ l. (in_box one l.edge ≡ true) ⊎ (is_subjects_own l.fill ≡ false)) subjects_ends links beside))
        (ends_within is_clips_own other links
        (All-weaker (IsBeside one other) (λ l. (in_box other l.edge ≡ true) ⊎ (is_clips_own l.fill ≡ false)) clips_ends links beside))

    inside : within links ≡ false
    inside =
        none_within (has 3) is_inside links
        (All-weaker (IsBeside one other) (λ l. is_inside l.fill ≡ not (has 3 l.fill)) (λ l h. (unshared one other l h).inside) links beside)

    covered : covers links ≡ false
    covered =
        none_within (has 12) is_covered links
        (All-weaker (IsBeside one other) (λ l. is_covered l.fill ≡ not (has 12 l.fill)) (λ l h. (unshared one other l h).covered) links beside)

-- ---- counts of one role

abbrev subject_alone : Count → Count
subject_alone c = record { subject = c.subject; clip = pos 0 }

abbrev clip_alone : Count → Count
clip_alone c = record { subject = pos 0; clip = c.clip }

-- counts as they are read
abbrev as_read : (Count → Count) → Counting Count
as_read f = record {
  join = λ c d. boolean.join (f c) (f d);
  turned = λ c. boolean.turned (f c);
  is_empty = λ c. boolean.is_empty (f c);
}

reads_subject : IsCountMap (as_read subject_alone) boolean subject_alone
reads_subject = record { of_join = λ c d. refl; of_turned = λ c. refl; of_empty = λ c. refl }

reads_clip : IsCountMap (as_read clip_alone) boolean clip_alone
reads_clip = record { of_join = λ c d. refl; of_turned = λ c. refl; of_empty = λ c. refl }

-- a map of counts that are what they are read as redraws to one of such counts
redrawn_as_read : (f : Count → Count) (precision : Precision) → RedrawsAnyCounts (as_read f) boolean f precision → (es : List (Entry Count))
    → with_counts f es ≡ es → redrawn_of precision es ≡ with_counts f (redrawn (as_read f) precision (normal (as_read f) es))
redrawn_as_read f precision law es same =
    ap (λ l. redrawn boolean precision (normal boolean l)) (sym same)
    ∙ (ap (redrawn boolean precision) (sym (law.of_normal es)) ∙ sym (law.of_redrawn (normal (as_read f) es)))

abbrev HasNoClip : Entry Count → Type 0
HasNoClip e = e.count.clip ≡ pos 0

abbrev HasNoSubject : Entry Count → Type 0
HasNoSubject e = e.count.subject ≡ pos 0

none_of_clip : (es fs : List (Entry Count)) → es ≡ with_counts subject_alone fs → All HasNoClip es
none_of_clip es fs is =
    subst (All HasNoClip) (sym is) (All-map HasNoClip (λ e. record { edge = e.edge; count = subject_alone e.count }) fs (λ k d l. refl))

none_of_subject : (es fs : List (Entry Count)) → es ≡ with_counts clip_alone fs → All HasNoSubject es
none_of_subject es fs is =
    subst (All HasNoSubject) (sym is) (All-map HasNoSubject (λ e. record { edge = e.edge; count = clip_alone e.count }) fs (λ k d l. refl))

subject_is_read : (es : List (Entry Count)) → All HasNoClip es → with_counts subject_alone es ≡ es
subject_is_read es none =
    map_fixed (λ e. record { edge = e.edge; count = subject_alone e.count }) es
    (All-weaker HasNoClip (λ e. record { edge = e.edge; count = subject_alone e.count } ≡ e)
    (λ e h. ap (λ z. record { edge = e.edge; count = record { subject = e.count.subject; clip = z } }) (sym h)) es none)

clip_is_read : (es : List (Entry Count)) → All HasNoSubject es → with_counts clip_alone es ≡ es
clip_is_read es none =
    map_fixed (λ e. record { edge = e.edge; count = clip_alone e.count }) es
    (All-weaker HasNoSubject (λ e. record { edge = e.edge; count = clip_alone e.count } ≡ e)
    (λ e h. ap (λ z. record { edge = e.edge; count = record { subject = z; clip = e.count.clip } }) (sym h)) es none)

-- ---- what a map of one role fills

unfilled : (fill : FillRule) → is_filled fill (pos 0) ≡ false
unfilled fill = region_of_nothing fill region.Subject

nothing_either_way : (b : Bool) → cond b (pos 0) (pos 0) ≡ pos 0
nothing_either_way true = refl
nothing_either_way false = refl

clip_winds_nowhere : (es : List (Entry Count)) → All HasNoClip es → (p : RationalPoint) → (winding es p).clip ≡ pos 0
clip_winds_nowhere es none p =
    total_zero_on (λ e. cond (is_below e.edge.a e.edge.b p) e.count.clip (pos 0)) es
    (All-weaker HasNoClip (λ e. cond (is_below e.edge.a e.edge.b p) e.count.clip (pos 0) ≡ pos 0)
    (λ e h. ap (λ z. cond (is_below e.edge.a e.edge.b p) z (pos 0)) h ∙ nothing_either_way (is_below e.edge.a e.edge.b p)) es none)

subject_winds_nowhere : (es : List (Entry Count)) → All HasNoSubject es → (p : RationalPoint) → (winding es p).subject ≡ pos 0
subject_winds_nowhere es none p =
    total_zero_on (λ e. cond (is_below e.edge.a e.edge.b p) e.count.subject (pos 0)) es
    (All-weaker HasNoSubject (λ e. cond (is_below e.edge.a e.edge.b p) e.count.subject (pos 0) ≡ pos 0)
    (λ e h. ap (λ z. cond (is_below e.edge.a e.edge.b p) z (pos 0)) h ∙ nothing_either_way (is_below e.edge.a e.edge.b p)) es none)

module _ (fill : FillRule) (es : List (Entry Count)) (e : Entry Count) where
  subjects_fill : All HasNoClip es → HasNoClip e → IsSubjects (fill_of fill es e)
  subjects_fill none own =
      let lower : (lower_side es e.edge).clip ≡ pos 0 = clip_winds_nowhere es none (middle e.edge) in
      let upper : (upper_side es e).clip ≡ pos 0 = ap₂ (λ x y. x +ℤ y) lower own in record {
        above = is_filled fill (upper_side es e).subject;
        below = is_filled fill (lower_side es e.edge).subject;
        is = ap₂ (λ x y. bits (is_filled fill (upper_side es e).subject) (is_filled fill (lower_side es e.edge).subject) x y)
            (ap (is_filled fill) upper ∙ unfilled fill) (ap (is_filled fill) lower ∙ unfilled fill);
      }

  clips_fill : All HasNoSubject es → HasNoSubject e → IsClips (fill_of fill es e)
  clips_fill none own =
      let lower : (lower_side es e.edge).subject ≡ pos 0 = subject_winds_nowhere es none (middle e.edge) in
      let upper : (upper_side es e).subject ≡ pos 0 = ap₂ (λ x y. x +ℤ y) lower own in record {
        above = is_filled fill (upper_side es e).clip;
        below = is_filled fill (lower_side es e.edge).clip;
        is = ap₂ (λ x y. bits x y (is_filled fill (upper_side es e).clip) (is_filled fill (lower_side es e.edge).clip))
            (ap (is_filled fill) upper ∙ unfilled fill) (ap (is_filled fill) lower ∙ unfilled fill);
      }

-- ---- lists

-- what holds of all that a filter leaves holds of what passes it
of_those_kept : {X : Type 0} (p : X → Bool) (P : X → Type 0) (xs : List X) → All P (filter p xs) → All (λ x. p x ≡ true → P x) xs
of_those_kept p P [] all = All-nil (λ x. p x ≡ true → P x)
of_those_kept p P (x ∷ xs) all =
    let parts = by (p x) refl all in All-cons (λ x. p x ≡ true → P x) x xs parts.0 (of_those_kept p P xs parts.1)
  where
    by : (b : Bool) → p x ≡ b → All P (cond b (x ∷ filter p xs) (filter p xs)) → (p x ≡ true → P x) × All P (filter p xs)
    by true e h = (λ t. All-head P x (filter p xs) h, All-tail P x (filter p xs) h)
    by false e h = (λ t. absurd (false≢true (sym e ∙ t)), h)

in_one_of_two : (P : Bounds → Type 0) (one other : Bounds) → Any P (one ∷ other ∷ []) → P one ⊎ P other
in_one_of_two P one other (k, box, l, same, h) = by k l same
  where
    by : (k : ℕ) → k < length (one ∷ other ∷ []) → get_or (one ∷ other ∷ []) k box ≡ box → P one ⊎ P other
    by zero l same = inl (subst P (sym same) h)
    by (suc zero) l same = inr (subst P (sym same) h)
    by (suc (suc k)) l same = absurd (omega (arith, l))

-- ---- what contours lay

-- the ends are such points, and the count is such a count
abbrev Lies : (Point → Type 0) → (Count → Type 0) → Entry Count → Type 0
Lies P Q e = (P e.edge.a × P e.edge.b) × Q e.count

module _ (keep_all : Bool) (c : Count) (P : Point → Type 0) (Q : Count → Type 0) (own : Q c) (turned : Q (boolean.turned c)) where
  all_laid : (contours taken : List (List Point)) → AllZip (IsTaken keep_all) contours taken → All (All P) contours
      → All (Lies P Q) (flat_map (laid boolean c) taken)
  all_laid [] [] zip inside = All-nil (Lies P Q)
  all_laid [] (t ∷ ts) zip inside = absurd zip
  all_laid (x ∷ xs) [] zip inside = absurd zip
  all_laid (x ∷ xs) (t ∷ ts) zip inside =
      let first = taken_all boolean c keep_all P (λ es. Unit {0}) (λ es contour all held. tt) keep_all x t zip.0 (All-head (All P) x xs inside) in
      All-append (Lies P Q) (laid boolean c t) (flat_map (laid boolean c) ts) (laid_holds boolean P Q c own turned t first)
      (all_laid xs ts zip.1 (All-tail (All P) x xs inside))

-- ---- the law

module _ (rearranges : (precision : Precision) → Rearranges boolean (redrawn boolean precision)) (ends : (precision : Precision) → RedrawsToTheEnd boolean precision)
    (balanced : (precision : Precision) (es : List (Entry Count)) → IsBalancedMap es → IsBalancedMap (redrawn boolean precision es))
    (redraws : (precision : Precision) → RedrawsAlone boolean precision) (fills : GroupsFillAlone)
    (counts : (from : Counting Count) (f : Count → Count) (precision : Precision) → IsCountMap from boolean f → RedrawsAnyCounts from boolean f precision) where
  module _ (least greatest : ℤ) (keep_all : Bool) (subjects clips : List (List Point)) (held : List (Entry Count))
      (holds : HoldsContours keep_all subjects clips held) (is_held : IsHeld least greatest held) (lie : LieApart subjects clips)
      (fill : FillRule) (precision : Precision) where
    abbrev edges : List (Entry Count)
    edges = redrawn boolean precision (normal boolean held)

    abbrev boxes : List Bounds
    boxes = lie.one ∷ lie.other ∷ []

    abbrev IsSplit : Entry Count → Type 0
    IsSplit e = ((in_box lie.one e.edge ≡ true) × HasNoClip e) ⊎ ((in_box lie.other e.edge ≡ true) × HasNoSubject e)

    abbrev LiesInOne : Entry Count → Type 0
    LiesInOne e = Any (λ box. in_box box e.edge ≡ true) boxes

    first_box : Contains boxes lie.one
    first_box = (zero, omega arith, refl)

    second_box : Contains boxes lie.other
    second_box = (suc zero, omega arith, refl)

    -- what is held of the subject lies in its box, and so for the clip
    split : All IsSplit held
    split =
        let of_subjects = flat_map (laid boolean one_subject) holds.taken_subjects in
        let of_clips = flat_map (laid boolean one_clip) holds.taken_clips in
        All-permutation IsSplit (of_subjects ++ of_clips) held holds.is
        (All-append IsSplit of_subjects of_clips
        (All-weaker (Lies (LiesWithin lie.one) (λ c. c.clip ≡ pos 0)) IsSplit (λ e h. inl (in_box_tested lie.one e.edge h.0, h.1)) of_subjects
        (all_laid keep_all one_subject (LiesWithin lie.one) (λ c. c.clip ≡ pos 0) refl refl subjects holds.taken_subjects holds.are_subjects lie.ones_within))
        (All-weaker (Lies (LiesWithin lie.other) (λ c. c.subject ≡ pos 0)) IsSplit (λ e h. inr (in_box_tested lie.other e.edge h.0, h.1)) of_clips
        (all_laid keep_all one_clip (LiesWithin lie.other) (λ c. c.subject ≡ pos 0) refl refl clips holds.taken_clips holds.are_clips lie.others_within)))

    in_one : (e : Entry Count) → IsSplit e → LiesInOne e
    in_one e (inl h) = (zero, lie.one, omega arith, refl, h.0)
    in_one e (inr h) = (suc zero, lie.other, omega arith, refl, h.0)

    groups_held : AreGroups boxes held
    groups_held = record {
      apart =
          AllPairs-cons AreApart lie.one (lie.other ∷ []) (All-cons (AreApart lie.one) lie.other [] lie.apart (All-nil (AreApart lie.one)))
          (AllPairs-cons AreApart lie.other [] (All-nil (AreApart lie.other)) (AllPairs-nil AreApart));
      each = All-weaker IsSplit LiesInOne in_one held split;
    }

    groups_normal : AreGroups boxes (normal boolean held)
    groups_normal = (redraws precision).of_normal.groups boxes held groups_held

    groups_redrawn : AreGroups boxes edges
    groups_redrawn = (redraws precision).groups boxes (normal boolean held) groups_normal

    arranged : IsArrangement edges
    arranged = redrawn_arrangement least greatest precision (rearranges precision) (ends precision) (balanced precision) held is_held

    -- each box has counts of its own role alone
    subjects_held : All HasNoClip (part lie.one held)
    subjects_held k d l =
        pick (get_or (part lie.one held) k d) (All-filter (λ e. in_box lie.one e.edge) IsSplit held split k d l)
        (filter_passes (λ e. in_box lie.one e.edge) held k d l)
      where
        pick : (e : Entry Count) → IsSplit e → in_box lie.one e.edge ≡ true → HasNoClip e
        pick e (inl h) here = h.1
        pick e (inr h) here = absurd (false≢true (sym (not_in_both lie.one lie.other e.edge lie.apart h.0) ∙ here))

    clips_held : All HasNoSubject (part lie.other held)
    clips_held k d l =
        pick (get_or (part lie.other held) k d) (All-filter (λ e. in_box lie.other e.edge) IsSplit held split k d l)
        (filter_passes (λ e. in_box lie.other e.edge) held k d l)
      where
        pick : (e : Entry Count) → IsSplit e → in_box lie.other e.edge ≡ true → HasNoSubject e
        pick e (inl h) here =
            absurd (false≢true (sym (not_in_both lie.other lie.one e.edge (apart_swapped lie.one lie.other lie.apart) h.0) ∙ here))
        pick e (inr h) here = h.1

    subjects_redrawn : All HasNoClip (part lie.one edges)
    subjects_redrawn =
        none_of_clip (part lie.one edges) (redrawn (as_read subject_alone) precision (normal (as_read subject_alone) (part lie.one held)))
        ((redraws precision).of_given boxes lie.one held is_held.directed groups_normal first_box
        ∙ redrawn_as_read subject_alone precision (counts (as_read subject_alone) subject_alone precision reads_subject) (part lie.one held)
        (subject_is_read (part lie.one held) subjects_held))

    clips_redrawn : All HasNoSubject (part lie.other edges)
    clips_redrawn =
        none_of_subject (part lie.other edges) (redrawn (as_read clip_alone) precision (normal (as_read clip_alone) (part lie.other held)))
        ((redraws precision).of_given boxes lie.other held is_held.directed groups_normal second_box
        ∙ redrawn_as_read clip_alone precision (counts (as_read clip_alone) clip_alone precision reads_clip) (part lie.other held)
        (clip_is_read (part lie.other held) clips_held))

    -- so each edge is filled by its own role alone
    subjects_own : (e : Entry Count) → in_box lie.one e.edge ≡ true → HasNoClip e → IsSubjects (fill_of fill edges e)
    subjects_own e here own =
        let alone : IsFilledAlone lie.one edges = fills boxes lie.one edges arranged groups_redrawn first_box in
        subst IsSubjects (alone.fill fill e here) (subjects_fill fill (part lie.one edges) e subjects_redrawn own)

    clips_own : (e : Entry Count) → in_box lie.other e.edge ≡ true → HasNoSubject e → IsClips (fill_of fill edges e)
    clips_own e here own =
        let alone : IsFilledAlone lie.other edges = fills boxes lie.other edges arranged groups_redrawn second_box in
        subst IsClips (alone.fill fill e here) (clips_fill fill (part lie.other edges) e clips_redrawn own)

    beside : All (λ e. IsBeside lie.one lie.other (link_of fill edges e)) edges
    beside k d l =
        by (get_or edges k d) (of_those_kept (λ e. in_box lie.one e.edge) HasNoClip edges subjects_redrawn k d l)
        (of_those_kept (λ e. in_box lie.other e.edge) HasNoSubject edges clips_redrawn k d l)
        (in_one_of_two (λ box. in_box box (get_or edges k d).edge ≡ true) lie.one lie.other (groups_redrawn.each k d l))
      where
        by : (e : Entry Count) → (in_box lie.one e.edge ≡ true → HasNoClip e) → (in_box lie.other e.edge ≡ true → HasNoSubject e)
            → (in_box lie.one e.edge ≡ true) ⊎ (in_box lie.other e.edge ≡ true) → IsBeside lie.one lie.other (link_of fill edges e)
        by e no_clip no_subject (inl here) = inl (here, subjects_own e here (no_clip here))
        by e no_clip no_subject (inr here) = inr (here, clips_own e here (no_subject here))

    all_disjoint : relations_of (all_links fill edges) ≡ only_disjoint
    all_disjoint =
        beside_disjoint lie.one lie.other lie.apart (all_links fill edges) (All-map (IsBeside lie.one lie.other) (link_of fill edges) edges beside)

  pub apart_is_disjoint : ApartIsDisjoint
  apart_is_disjoint least greatest keep_all subjects clips held holds is_held lie fill precision =
      all_disjoint least greatest keep_all subjects clips held holds is_held lie fill precision

-- ---- two sources

-- of contours that lie apart a builder would hold edges for which the table says so
pub apart_related : HoldingGoesOn → ApartIsDisjoint → (least greatest : ℤ) (subjects clips : List (List Point)) → All (All (IsWithin least greatest)) subjects
    → All (All (IsWithin least greatest)) clips → LieApart subjects clips → AreDisjoint subjects clips
apart_related goes_on law least greatest subjects clips subjects_within clips_within lie fill precision = record {
  held = held;
  holds = holds;
  are = sym (law least greatest false subjects clips held (goes_on.of_both false subjects clips held holds) is_held lie fill precision);
}
  where
    taken_subjects : (taken : List (List Point)) × AllZip (IsTaken false) subjects taken
    taken_subjects = all_thinned subjects

    taken_clips : (taken : List (List Point)) × AllZip (IsTaken false) clips taken
    taken_clips = all_thinned clips

    between : List (Entry Count)
    between = [] ++ flat_map (laid boolean one_subject) taken_subjects.0

    held : List (Entry Count)
    held = between ++ flat_map (laid boolean one_clip) taken_clips.0

    holds : HoldsBoth false subjects clips held
    holds = (between, (taken_subjects.0, taken_subjects.1, refl), (taken_clips.0, taken_clips.1, refl))

    subjects_held : IsHeld least greatest between
    subjects_held =
        held_after_source least greatest Subject false [] between (nothing_held least greatest) (Ok tt) subjects subjects_within
        (taken_subjects.0, taken_subjects.1, refl) tt

    is_held : IsHeld least greatest held
    is_held =
        held_after_source least greatest Clip false between held subjects_held (Ok tt) clips clips_within
        (taken_clips.0, taken_clips.1, refl) tt

-- one answer of the table, where all are known
pub disjoint_related : (entry : List Link → Bool) (answer : Relations → Bool) → ((links : List Link) → answer (relations_of links) ≡ entry links)
    → (subjects clips : List (List Point)) → AreDisjoint subjects clips → IsRelated entry subjects clips (answer only_disjoint)
disjoint_related entry answer same subjects clips disjoint =
    let known : AreRelated region.EvenOdd default_precision only_disjoint subjects clips = disjoint region.EvenOdd default_precision in record {
      held = known.held;
      holds = known.holds;
      is = ap answer known.are ∙ same (all_links region.EvenOdd (redrawn_of default_precision known.held));
    }

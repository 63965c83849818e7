-- A pass marks nothing exactly where the map meets in ends, and then it leaves the map as it is.
use Rattle.std.proofs.Common.{◌≡◌, ◌≢◌, ◌↔◌, ℕ, suc, ◌+◌, Bool, true, false, cond, nat_lt, List, [], ◌∷◌, ◌++◌, length, flat_map, All, Contains, Ordering, Less, Equal, Greater, pos, ◌&&◌, is_lt, int_eq, append-nil, refl, sym, ap, ap₂, ◌∙◌, arith}
use Rattle.std.specs.List.{list_any}
use Rattle.std.proofs.lemmas.Bool.{false≢true}
use Rattle.std.proofs.lemmas.List.Elements.{All-head, All-tail, All-weaker, All-contains_itself}
use Rattle.std.proofs.lemmas.List.Folds.{Any-from_list_any, list_any_at}
use Rattle.plane_base.specs.Plane.{Point, Edge, turn, is_before, edge_order}
use Rattle.plane_base.specs.Segments.{opposite, cross_properly, strictly_inside, parted, MeetsInEnds}
use Rattle.plane_base.specs.Counts.{Counting, Entry, lay, normal, IsNormal}
use Rattle.plane_base.specs.Given.{laid_path}
use Rattle.plane_base.specs.Crossing.{Marks, no_marks, cross_marks, late_marks}
use Rattle.plane_base.proofs.Facts.Points.Orders.{point_itself, edge_itself, edge_equal, before_is_less}
use Rattle.plane_base.proofs.Facts.Points.Turns.{turn_there_and_back}
use Rattle.plane_base.proofs.Facts.Maps.Normal.{normal_of_normal}
use Rattle.plane_base.proofs.Facts.Maps.Laying.{lay_by}
use Rattle.plane_base.proofs.Facts.Crossings.Parted.{mark_unless_parted}
use Rattle.segment_split.specs.Paths.{path}
use Rattle.segment_split.specs.Passes.{early_passes, radius, edges_of, marks_in, marks_on, cut, pass_by, MarksSome}
use Rattle.segment_split.specs.RedrawLaws.{lays_any, marks_some, KeepsUnmarked}
use Rattle.segment_split.specs.declared.solver.Precision.{Precision}
use Rattle.segment_split.proofs.Spread.Lists.{edges_contain}

-- ---- marks of a pair

marks_none : (m : Marks) → lays_any m ≡ false → m ≡ no_marks
marks_none m h = by m.first m.second refl refl
  where
    by : (first second : List Point) → m.first ≡ first → m.second ≡ second → m ≡ no_marks
    by [] [] e f = λ i. record { first = e i; second = f i }
    by [] (q ∷ qs) e f = absurd (false≢true (sym h ∙ ap₂ (λ x y. nat_lt 0 (length x + length y)) e f ∙ there (length qs)))
      where
        there : (n : ℕ) → nat_lt 0 (0 + suc n) ≡ true
        there n = grind arith
    by (p ∷ ps) second e f = absurd (false≢true (sym h ∙ ap₂ (λ x y. nat_lt 0 (length x + length y)) e f ∙ there (length ps) (length second)))
      where
        there : (n m : ℕ) → nat_lt 0 (suc n + m) ≡ true
        there n m = grind arith

none_lays_none : (m : Marks) → m ≡ no_marks → lays_any m ≡ false
none_lays_none m e = ap lays_any e

pub lays_some : (m : Marks) → (lays_any m ≡ true) ↔ (m ≢ no_marks)
lays_some m = (
  (λ h e. false≢true (sym (none_lays_none m e) ∙ h)),
  (λ h. by (lays_any m) refl h),
)
  where
    by : (some : Bool) → lays_any m ≡ some → m ≢ no_marks → some ≡ true
    by true e h = refl
    by false e h = absurd (h (marks_none m e))

pub marks_known : (m : Marks) → ((m ≢ no_marks) → ⊥) → m ≡ no_marks
marks_known m h = by (lays_any m) refl
  where
    by : (some : Bool) → lays_any m ≡ some → m ≡ no_marks
    by true e = absurd (h ((lays_some m).0 e))
    by false e = marks_none m e

-- a pair marks nothing exactly where it is parted, whatever the pass
pub unless_parted : (precision : Precision) (k : ℕ) (s t : Edge) → (marks_in precision k s t ≡ no_marks) ↔ (parted s t ≡ true)
unless_parted precision k s t = by (nat_lt k early_passes)
  where
    by : (early : Bool) → (cond early (cross_marks s t (radius precision k)) (late_marks s t) ≡ no_marks) ↔ (parted s t ≡ true)
    by true = mark_unless_parted.early s t (radius precision k)
    by false = mark_unless_parted.late s t

-- ---- an edge is parted from itself

not_before_itself : (p : Point) → is_before p p ≡ false
not_before_itself p = ap is_lt (point_itself p)

-- no end of an edge lies inside it
first_not_inside : (s : Edge) → strictly_inside s.a s ≡ false
first_not_inside s = ap (λ b. int_eq (turn s.a s.b s.a) (pos 0) && (b && is_before s.a s.b)) (not_before_itself s.a) ∙ and-false (int_eq (turn s.a s.b s.a) (pos 0))
  where
    and-false : (b : Bool) → b && false ≡ false
    and-false true = refl
    and-false false = refl

second_not_inside : (s : Edge) → strictly_inside s.b s ≡ false
second_not_inside s = ap (λ b. int_eq (turn s.a s.b s.b) (pos 0) && (is_before s.a s.b && b)) (not_before_itself s.b) ∙ none (int_eq (turn s.a s.b s.b) (pos 0)) (is_before s.a s.b)
  where
    none : (b c : Bool) → b && (c && false) ≡ false
    none true true = refl
    none true false = refl
    none false c = refl

not_proper_itself : (s : Edge) → cross_properly s s ≡ false
not_proper_itself s =
    ap (λ x. opposite x (turn s.a s.b s.b) && opposite (turn s.a s.b s.a) (turn s.a s.b s.b)) (turn_there_and_back s.a s.b)

pub parted_itself : (s : Edge) → parted s s ≡ true
parted_itself s = rw (not_proper_itself s, first_not_inside s, second_not_inside s) refl

-- ---- lists

pub flat_map_none : {X Y : Type 0} (f : X → List Y) (xs : List X) → All (λ x. f x ≡ []) xs → flat_map f xs ≡ []
flat_map_none f [] h = refl
flat_map_none f (x ∷ xs) h = ap₂ (λ l m. l ++ m) (All-head (λ x. f x ≡ []) x xs h) (flat_map_none f xs (All-tail (λ x. f x ≡ []) x xs h))

pub flat_map_each : {X : Type 0} (f : X → List X) (xs : List X) → All (λ x. f x ≡ x ∷ []) xs → flat_map f xs ≡ xs
flat_map_each f [] h = refl
flat_map_each f (x ∷ xs) h = ap₂ (λ l m. l ++ m) (All-head (λ x. f x ≡ x ∷ []) x xs h) (flat_map_each f xs (All-tail (λ x. f x ≡ x ∷ []) x xs h))

-- ---- a pass that marks nothing

abbrev pub Unmarked : (Edge → Edge → Marks) → List Edge → Type 0
Unmarked marks es = (s t : Edge) → Contains es s → Contains es t → marks s t ≡ no_marks

pub unmarked_pairs : (marks : Edge → Edge → Marks) (es : List Edge) → (MarksSome marks es → ⊥) → Unmarked marks es
unmarked_pairs marks es h s t at there = marks_known (marks s t) (λ some. h (s, t, at, there, some))

-- nothing is laid on an edge
pub none_on : (marks : Edge → Edge → Marks) (es : List Edge) → Unmarked marks es → (s : Edge) → Contains es s → marks_on marks es s ≡ []
none_on marks es h s at =
    flat_map_none (λ t. (marks s t).first) es (All-weaker (Contains es) (λ t. (marks s t).first ≡ []) (λ t there. ap (λ m. m.first) (h s t at there)) es (All-contains_itself es))

module _ {C : Type 0} (kind : Counting C) where
  -- an edge without marks is laid as it was
  pub uncut : (marks : Edge → Edge → Marks) (edges : List Edge) (e : Entry C) → is_before e.edge.a e.edge.b ≡ true → marks_on marks edges e.edge ≡ [] → cut kind marks edges e ≡ e ∷ []
  uncut marks edges e h none =
      ap (λ ps. laid_path kind e.count (path e.edge ps)) none
      ∙ append-nil (lay kind e.edge.a e.edge.b e.count)
      ∙ ap (λ o. lay_by kind o e.edge.a e.edge.b e.count) (before_is_less e.edge.a e.edge.b h)

  pub pass_of_unmarked : (marks : Edge → Edge → Marks) (es : List (Entry C)) → IsNormal kind es → (MarksSome marks (edges_of es) → ⊥) → pass_by kind marks es ≡ es
  pass_of_unmarked marks es h none =
      ap (normal kind)
      (flat_map_each (cut kind marks (edges_of es)) es
      (λ i d l. uncut marks (edges_of es) _ (h.directed i d l) (none_on marks (edges_of es) (unmarked_pairs marks (edges_of es) none) _ (edges_contain es i d l))))
      ∙ normal_of_normal kind es h

-- ---- the test

contained_at : {X : Type 0} (p : X → Bool) (xs : List X) (x : X) → Contains xs x → p x ≡ true → list_any p xs ≡ true
contained_at p xs x at h = list_any_at p xs at.0 x at.1 (ap p at.2 ∙ h)

pub some_by_test : (marks : Edge → Edge → Marks) (es : List Edge) → (marks_some marks es ≡ true) ↔ MarksSome marks es
some_by_test marks es = (found, shown)
  where
    found : marks_some marks es ≡ true → MarksSome marks es
    found h =
        let s = Any-from_list_any (λ s. list_any (λ t. lays_any (marks s t)) es) es h in
        let t = Any-from_list_any (λ t. lays_any (marks s.1 t)) es s.4 in
        (s.1, t.1, (s.0, s.2, s.3), (t.0, t.2, t.3), (lays_some (marks s.1 t.1)).0 t.4)

    shown : MarksSome marks es → marks_some marks es ≡ true
    shown h =
        contained_at (λ s. list_any (λ t. lays_any (marks s t)) es) es h.0 h.2 (contained_at (λ t. lays_any (marks h.0 t)) es h.1 h.3 ((lays_some (marks h.0 h.1)).1 h.4))

-- ---- the laws

pub meets_unmarked : (precision : Precision) (k : ℕ) (es : List Edge) → MeetsInEnds es → MarksSome (marks_in precision k) es → ⊥
meets_unmarked precision k es h some = by (edge_order some.0 some.1) refl
  where
    parts : parted some.0 some.1 ≡ true → ⊥
    parts e = some.4 ((unless_parted precision k some.0 some.1).1 e)

    differs : (some.0 ≢ some.1) → ⊥
    differs d = parts (h some.0 some.1 some.2 some.3 d)

    apart : (o : Ordering) → edge_order some.0 some.1 ≡ o → o ≢ Equal → ⊥
    apart o e d = differs (λ same. d (sym e ∙ ap (edge_order some.0) (sym same) ∙ edge_itself some.0))

    by : (o : Ordering) → edge_order some.0 some.1 ≡ o → ⊥
    by Less e = apart Less e (λ f. absurd (cc))
    by Equal e = parts (ap (parted some.0) (sym (edge_equal some.0 some.1 e)) ∙ parted_itself some.0)
    by Greater e = apart Greater e (λ f. absurd (cc))

pub unmarked_meets : (precision : Precision) (k : ℕ) (es : List Edge) → (MarksSome (marks_in precision k) es → ⊥) → MeetsInEnds es
unmarked_meets precision k es h s t at there differ = (unless_parted precision k s t).0 (unmarked_pairs (marks_in precision k) es h s t at there)

pub keeps_unmarked : {C : Type 0} (kind : Counting C) (precision : Precision) → KeepsUnmarked kind precision
keeps_unmarked kind precision es k h none = pass_of_unmarked kind (marks_in precision k) es h none

-- A sweep from the last stop to the first.
use Rattle.std.proofs.Common.{◌≡◌, ◌≢◌, ◌↔◌, ℕ, zero, suc, Bool, true, false, ◌||◌, List, [], ◌∷◌, map, reverse, All, Contains, IsPermutation, Option, None, inl, inr, ⊎_elim, int_eq, refl, sym, ap, subst, ◌∙◌, append-nil, get_or, Less, Equal, Greater, arith}
use Rattle.std.specs.List.{list_any}
use Rattle.std.proofs.lemmas.Bool.{false≢true}
use Rattle.std.proofs.lemmas.List.{reverse-reverse}
use Rattle.std.proofs.lemmas.List.Elements.{All-nil, All-contains, All-weaker}
use Rattle.plane_base.specs.Plane.{Point, Edge, point_order, edge_order}
use Rattle.plane_base.specs.Segments.{strictly_inside}
use Rattle.plane_base.specs.Counts.{Count, Entry, boolean, IsNormal}
use Rattle.plane_base.specs.Crossing.{late_marks}
use Rattle.plane_base.proofs.Facts.Maps.Normal.{AllPairs-nil}
use Rattle.plane_base.proofs.Facts.Points.Orders.{less_then, before_is_less, point_less_by_y}
use Rattle.segment_split.specs.Passes.{edges_of, pass_by}
use Rattle.segment_split.specs.Redrawing.{MarksInPass}
use Rattle.segment_split.specs.LineLaws.{AllRectilinear, IsEndOfSome, ArePoints, steps_between, has_inside}
use Rattle.segment_split.specs.Stops.{LinesView, AreRising, bare}
use Rattle.segment_split.specs.Sweeps.{AreInOrder, in_column, in_row, Runs, reached, IsStop, IsBefore, IsSomeInside, Swept}
use Rattle.segment_split.specs.declared.solver.Precision.{Precision}
use Rattle.segment_split.proofs.Stops.Crossings.{mapped_from}
use Rattle.segment_split.proofs.Stops.Steps.{behind_is, directed, reached_end}
use Rattle.segment_split.proofs.Whole.Inside.{inside_from_point, inside_is_marked}
use Rattle.segment_split.proofs.Whole.Neighbours.{contains_no, not_there_and_back}
use Rattle.segment_split.proofs.Whole.StepLists.{steps_of_pass}

-- ---- at first

bare_runs : (test : Entry Count → Bool) → Runs test [] [] bare
bare_runs test = record { running = refl; subject = refl; clip = refl }

pub begun : (es fs : List (Entry Count)) (lines : LinesView) → IsPermutation es fs → All (λ r. r.line ≡ bare) lines.rows → lines.column ≡ bare → AreRising lines.rows
    → ((e : Entry Count) → Contains es e → int_eq e.edge.a.x e.edge.b.x ≡ false → Contains (map (λ r. r.y) lines.rows) e.edge.a.y)
    → Swept es None [] es [] fs [] lines [] false
begun es fs lines same bare_rows bare_column rising has = record {
  cut = record {
    firsts = sym (append-nil es);
    seconds = subst (IsPermutation es) (sym (append-nil fs)) same;
    not_gone = λ k d l. refl;
    is_gone = All-nil (λ e. reached None e.edge.a ≡ true);
    not_come = λ k d l. refl;
    is_come = All-nil (λ e. reached None e.edge.b ≡ true);
  };
  stops = record {
    rising = AllPairs-nil (λ p q. point_order p q ≡ Less);
    only = All-nil (IsStop (edges_of es));
    known = λ p crossing counts. inr (All-nil (λ q. point_order p q ≡ Less));
    ends = λ p end. inr (refl, All-nil (λ q. point_order p q ≡ Less));
  };
  runs = record {
    rows = All-weaker (λ r. r.line ≡ bare) (λ r. Runs (in_row r.y) [] [] r.line) (λ r e. subst (Runs (in_row r.y) [] []) (sym e) (bare_runs (in_row r.y))) lines.rows bare_rows;
    column = subst (Runs in_column [] []) (sym bare_column) (bare_runs in_column);
  };
  nexts = All-weaker (λ r. r.line ≡ bare) (λ r. r.line.next ≡ None) (λ r e. ap (λ l. l.next) e) lines.rows bare_rows;
  next = ap (λ l. l.next) bare_column;
  rising = rising;
  has = has;
  steps = refl;
  marks = ((λ e. absurd (false≢true e)), (λ k. absurd (contains_no k.0 k.1)));
}

-- ---- at last

any_tells : {X : Type 0} (test : X → Bool) (xs : List X) → list_any test xs ≡ true → (x : X) × Contains xs x × (test x ≡ true)
any_tells test [] e = absurd (false≢true e)
any_tells {X} test (x ∷ xs) e = by (test x) refl e (any_tells test xs)
  where
    by : (b : Bool) → test x ≡ b → (b || list_any test xs) ≡ true → (list_any test xs ≡ true → (y : X) × Contains xs y × (test y ≡ true)) → (y : X) × Contains (x ∷ xs) y × (test y ≡ true)
    by true f g rest = (x, (zero, omega arith, refl), f)
    by false f g rest = let k = rest g in (k.0, (suc k.1.0, omega (arith, k.1.1), k.1.2), k.2)

by_first : (e f : Entry Count) → edge_order e.edge f.edge ≡ Less → point_order e.edge.a f.edge.a ≢ Greater
by_first e f l = ⊎_elim (λ m g. less_not (sym m ∙ g)) (λ m g. equal_not (sym m.0 ∙ g)) (less_then (point_order e.edge.a f.edge.a) (point_order e.edge.b f.edge.b) l)
  where
    less_not : Less ≡ Greater → ⊥
    less_not e = absurd (cc)

    equal_not : Equal ≡ Greater → ⊥
    equal_not e = absurd (cc)

-- a map is in order
pub normal_in_order : (es : List (Entry Count)) → IsNormal boolean es → AreInOrder es
normal_in_order es h = record { directed = h.directed; firsts = λ i j d k l. by_first (get_or es i d) (get_or es j d) (h.rising i j d k l) }

module _ (es : List (Entry Count)) (h : AreInOrder es) (all : AllRectilinear (edges_of es)) (t : Option Point) (ps : List Point) (gone ahead come : List (Entry Count))
    (lines : LinesView) (laid : List (Entry Count)) (marked : Bool) (swept : Swept es t ps [] gone ahead come lines laid marked) where
  first_there : (s : Edge) → Contains (edges_of es) s → Contains ps s.a
  first_there s at =
      let e = mapped_from (λ e. e.edge) es s at in
      reached_end es h all t ps swept.stops s.a (s, at, inl refl)
      (ap (λ s. reached t s.a) (sym e.2) ∙ All-contains (λ e. reached t e.edge.a ≡ true) es e.0 (subst (All (λ e. reached t e.edge.a ≡ true)) (sym swept.cut.firsts) swept.cut.is_gone) e.1)

  not_before : (s : Edge) (p : Point) → Contains (edges_of es) s → point_order s.a p ≡ Less → IsBefore ps p → ⊥
  not_before s p at l behind = not_there_and_back s.a p l (behind_is ps p s.a behind (first_there s at))

  pub are_points : ArePoints boolean es ps
  are_points = record {
    rising = swept.stops.rising;
    only = λ p at. All-contains (IsStop (edges_of es)) ps p swept.stops.only at;
    ends = ends;
    crossings = λ p crossing counts. ⊎_elim (λ k. k) (λ k. absurd (not_before crossing.0.0 p crossing.0.1 (point_less_by_y crossing.0.0.a p crossing.0.2.first crossing.0.2.below) k)) (swept.stops.known p crossing counts);
  }
    where
      ends : (p : Point) → IsEndOfSome (edges_of es) p → Contains ps p
      ends p end = ⊎_elim (λ e. subst (Contains ps) (sym e) (first_there end.0 end.1)) second end.2
        where
          second : p ≡ end.0.b → Contains ps p
          second e =
              ⊎_elim (λ k. k.1)
              (λ k. absurd (not_before end.0 p end.1 (ap (point_order end.0.a) e ∙ before_is_less end.0.a end.0.b (directed es h all t ps swept.stops end.0 end.1)) k.1))
              (swept.stops.ends p end)

  pub is_laid : reverse laid ≡ pass_by boolean late_marks es
  is_laid = ap reverse swept.steps ∙ (reverse-reverse (steps_between boolean es ps) ∙ sym (steps_of_pass boolean es ps h.directed all are_points))

-- the same of a map
module _ (es : List (Entry Count)) (h : IsNormal boolean es) (all : AllRectilinear (edges_of es)) (t : Option Point) (ps : List Point) (gone ahead come : List (Entry Count))
    (lines : LinesView) (laid : List (Entry Count)) (marked : Bool) (swept : Swept es t ps [] gone ahead come lines laid marked) where
  map_points : ArePoints boolean es ps
  map_points = are_points es (normal_in_order es h) all t ps gone ahead come lines laid marked swept

  pub is_marked : (precision : Precision) → (marked ≡ true) ↔ ((k : ℕ) × MarksInPass boolean precision es k)
  is_marked precision =
      let told = inside_is_marked boolean precision es h all ps map_points in (
        (λ e. let k = swept.marks.0 e in told.0 (inside_from_point (edges_of es) ps k.2.0 k.0 k.2.1 k.1 k.2.2)),
        (λ m. swept.marks.1 (some (told.1 m))),
      )
    where
      some : has_inside (edges_of es) ps ≡ true → IsSomeInside (edges_of es) ps
      some e =
          let s = any_tells (λ s. list_any (λ p. strictly_inside p s) ps) (edges_of es) e in
          let p = any_tells (λ p. strictly_inside p s.0) ps s.2 in
          (p.0, p.1, (s.0, s.1, p.2))

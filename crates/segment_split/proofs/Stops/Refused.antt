-- A sum that leaves its range, of what runs along a line at some time: all of it runs along one pair of neighbours.
use Rattle.std.proofs.Common.{◌≡◌, ◌≢◌, ℕ, suc, ◌+◌, ◌<◌, ◌^◌, Bool, true, false, not, cond, ◌&&◌, ◌||◌, List, [], ◌∷◌, ◌++◌, length, length-append, map, filter, drop, get_or, All, Contains, IsPermutation, Option, Some, inl, inr, ⊎_elim, ℤ, pos, ◌+ℤ◌, neg_ℤ, ◌≤ℤ◌, int_eq, Ordering, Less, Equal, Greater, append_assoc, refl, sym, ap, subst, ◌∙◌, arith}
use Rattle.std.specs.Ordering.{is_le}
use Rattle.std.proofs.lemmas.Int.{ints}
use Rattle.std.proofs.lemmas.Bool.{false≢true}
use Rattle.std.proofs.lemmas.Bool.Decides.{Decides-int_eq}
use Rattle.std.proofs.lemmas.List.Elements.{All-nil, All-cons, All-head, All-append, All-filter, filter_passes, All-weaker, All-contains, All-contains_itself}
use Rattle.std.proofs.lemmas.List.Sorted.{All-permutation, length_permutation, IsPermutation-trans, IsPermutation-append_comm, IsPermutation-append_left, IsPermutation-filter_both}
use Rattle.plane_base.specs.Plane.{Point, Edge, is_before, point_order}
use Rattle.plane_base.specs.Counts.{Count, Entry, boolean}
use Rattle.plane_base.specs.Totals.{total}
use Rattle.plane_base.specs.WholeLaws.{IsPiece}
use Rattle.plane_base.proofs.Facts.Crossings.Tests.{both_true}
use Rattle.plane_base.proofs.Facts.Lists.Totals.{total_append, total_sum, total_pointwise_on, total_zero_on, total_not_negative, total_permutation}
use Rattle.plane_base.proofs.Facts.Lists.Cycles.{All-front, All-back}
use Rattle.plane_base.proofs.Facts.Points.Orders.{point_total, point_itself, before_is_less, less_from_greater}
use Rattle.segment_split.specs.Kinds.{count_fits}
use Rattle.segment_split.specs.Passes.{edges_of}
use Rattle.segment_split.specs.WholeLaws.{AllMeetWhole}
use Rattle.segment_split.specs.LineLaws.{AllRectilinear, is_part, JoinsNeighbours}
use Rattle.segment_split.specs.Refusals.{steps_in, IsOverfull}
use Rattle.segment_split.specs.Stops.{LinesView, all_changed, visited, bare, line_at}
use Rattle.segment_split.specs.Sweeps.{AreInOrder, in_column, in_row, one_if, Runs, AllRun, reached, Cut, Swept, IsNextEnd, IsClear, AreBySeconds, Crosses, IsSwept, IsGreatestEnd, line_on, LeavesRange}
use Rattle.segment_split.specs.declared.solver.Precision.{Precision}
use Rattle.segment_split.proofs.Whole.RectilinearEdges.{IsHorizontal, horizontal_meet_whole}
use Rattle.segment_split.proofs.Whole.Coordinates.{horizontal_flat, vertical_flat}
use Rattle.segment_split.proofs.Stops.Rows.{IsApart, same_height, same_point, other_point, heights_kept}
use Rattle.segment_split.proofs.Stops.Changes.{come_all, go_all}
use Rattle.segment_split.proofs.Stops.Reached.{kept, gone_of, come_of, gone_total, come_total}
use Rattle.segment_split.proofs.Stops.Steps.{le_tells, behind_is, directed, way, reached_end, both_reached}
use Rattle.segment_split.proofs.Stops.Crossings.{mapped_from, le_not}
use Rattle.segment_split.proofs.Stops.Visits.{HasRow, row_or_none, runs_at_stop}
use Rattle.segment_split.proofs.Stops.Events.{listed_edge, p_before, all_heights, half_cut, runs_gone}
use Rattle.segment_split.proofs.Stops.Onward.{next_end_is}
use Rattle.segment_split.proofs.Stops.Overfull.{first_pair, last_pair, overfull_along, past_horizontal, past_vertical}

-- ---- lists

filtered : (w : Entry Count → ℤ) (test : Entry Count → Bool) (xs : List (Entry Count)) → total w (filter test xs) ≡ total (λ x. kept (test x) (w x)) xs
filtered w test [] = refl
filtered w test (x ∷ xs) = by (test x) (filtered w test xs)
  where
    by : (b : Bool) → total w (filter test xs) ≡ total (λ x. kept (test x) (w x)) xs → total w (cond b (x ∷ filter test xs) (filter test xs)) ≡ kept b (w x) +ℤ total (λ x. kept (test x) (w x)) xs
    by true e = ap (λ n. w x +ℤ n) e
    by false e = e ∙ none_more (total (λ x. kept (test x) (w x)) xs)
      where
        none_more : (n : ℤ) → n ≡ pos 0 +ℤ n
        none_more n = omega (arith, ints)

-- a list up to the last element that is elsewhere, and those behind it
record Parted (g : Entry Count → Point) (p : Point) (xs : List (Entry Count)) : Type 0 where
  front : List (Entry Count)
  behind : List (Entry Count)
  parts : xs ≡ front ++ behind
  here : All (λ e. g e ≡ p) behind
  last : (before : List (Entry Count)) (e : Entry Count) → front ≡ before ++ e ∷ [] → g e ≢ p

parted : (g : Entry Count → Point) (p : Point) (xs : List (Entry Count)) → Parted g p xs
parted g p [] = record { front = []; behind = []; parts = refl; here = All-nil (λ e. g e ≡ p); last = λ before e is. absurd (none before e is) }
  where
    none : (before : List (Entry Count)) (e : Entry Count) → [] ≡ before ++ e ∷ [] → ⊥
    none [] e is = absurd (cc)
    none (f ∷ before) e is = absurd (cc)
parted g p (x ∷ xs) = with_first (parted g p xs)
  where
    with_first : Parted g p xs → Parted g p (x ∷ xs)
    with_first k = by k.front refl (int_eq (g x).x p.x && int_eq (g x).y p.y) refl
      where
        further : (front : List (Entry Count)) → k.front ≡ front → ((before : List (Entry Count)) (e : Entry Count) → x ∷ front ≡ before ++ e ∷ [] → g e ≢ p) → Parted g p (x ∷ xs)
        further front e last = record { front = x ∷ front; behind = k.behind; parts = ap (λ l. x ∷ l) (k.parts ∙ ap (λ l. l ++ k.behind) e); here = k.here; last = last }

        by : (front : List (Entry Count)) → k.front ≡ front → (b : Bool) → (int_eq (g x).x p.x && int_eq (g x).y p.y) ≡ b → Parted g p (x ∷ xs)
        by [] e true f = record {
          front = [];
          behind = x ∷ k.behind;
          parts = ap (λ l. x ∷ l) (k.parts ∙ ap (λ l. l ++ k.behind) e);
          here = All-cons (λ e. g e ≡ p) x k.behind (same_point (g x) p f) k.here;
          last = λ before d is. absurd (none before d is);
        }
          where
            none : (before : List (Entry Count)) (e : Entry Count) → [] ≡ before ++ e ∷ [] → ⊥
            none [] e is = absurd (cc)
            none (f ∷ before) e is = absurd (cc)
        by [] e false f = further [] e last
          where
            last : (before : List (Entry Count)) (d : Entry Count) → x ∷ [] ≡ before ++ d ∷ [] → g d ≢ p
            last [] d is h = other_point (g x) p f (ap g (head is) ∙ h)
              where
                head : x ∷ [] ≡ d ∷ [] → x ≡ d
                head is = cc
            last (y ∷ []) d is h = absurd (cc)
            last (y ∷ z ∷ before) d is h = absurd (cc)
        by (y ∷ front) e b f = further (y ∷ front) e last
          where
            last : (before : List (Entry Count)) (d : Entry Count) → x ∷ (y ∷ front) ≡ before ++ d ∷ [] → g d ≢ p
            last [] d is h = absurd (cc)
            last (z ∷ before) d is h = k.last before d (e ∙ ap (drop 1) is) h

-- ---- lines

abbrev line_test : Entry Count → Entry Count → Bool
line_test e f = cond (int_eq e.edge.a.x e.edge.b.x) (in_column f) (in_row e.edge.a.y f)

own_line : (e : Entry Count) → line_test e e ≡ true
own_line e = by (int_eq e.edge.a.x e.edge.b.x) refl
  where
    by : (b : Bool) → int_eq e.edge.a.x e.edge.b.x ≡ b → cond b (in_column e) (in_row e.edge.a.y e) ≡ true
    by true f = f
    by false f = ap (λ (b : Bool). cond b false (int_eq e.edge.a.y e.edge.a.y)) f ∙ same_height e.edge.a.y e.edge.a.y refl

module _ (es : List (Entry Count)) (h : AreInOrder es) (all : AllRectilinear (edges_of es)) (t : Option Point) (ps : List Point) (before gone ahead come : List (Entry Count))
    (lines : LinesView) (laid : List (Entry Count)) (marked : Bool) (swept : Swept es t ps before gone ahead come lines laid marked) (p : Point) (next : IsNextEnd es t p) where
  whole : AllMeetWhole (edges_of es)
  whole = horizontal_meet_whole es h.directed all

  forward : (e : Entry Count) → Contains es e → is_before e.edge.a e.edge.b ≡ true
  forward e at = directed es h all t ps swept.stops e.edge (listed_edge es e at)

  -- what runs along the line of a key
  line_runs : (went came : List (Entry Count)) (now : LinesView) → AllRun went came now → map (λ r. r.y) now.rows ≡ map (λ r. r.y) lines.rows → (e : Entry Count) → Contains es e
      → Runs (line_test e) went came (line_on e.edge now)
  line_runs went came now runs heights e at = by (int_eq e.edge.a.x e.edge.b.x) refl
    where
      by : (b : Bool) → int_eq e.edge.a.x e.edge.b.x ≡ b → Runs (λ f. cond b (in_column f) (in_row e.edge.a.y f)) went came (cond b now.column (line_at e.edge.a.y now.rows))
      by true u = runs.column
      by false u = ⊎_elim there none (row_or_none e.edge.a.y now.rows)
        where
          there : HasRow e.edge.a.y now.rows → Runs (in_row e.edge.a.y) went came (line_at e.edge.a.y now.rows)
          there k =
              subst (Runs (in_row e.edge.a.y) went came) (sym k.line)
              (subst (λ y. Runs (in_row y) went came k.row.line) k.height (All-contains (λ r. Runs (in_row r.y) went came r.line) now.rows k.row runs.rows k.listed))

          none : All (IsApart e.edge.a.y) now.rows × (line_at e.edge.a.y now.rows ≡ bare) → Runs (in_row e.edge.a.y) went came (line_at e.edge.a.y now.rows)
          none k =
              let row = mapped_from (λ r. r.y) now.rows e.edge.a.y (subst (λ ys. Contains ys e.edge.a.y) (sym heights) (swept.has e at u)) in
              absurd (false≢true (sym (All-contains (IsApart e.edge.a.y) now.rows row.0 k.0 row.1) ∙ same_height row.0.y e.edge.a.y row.2))

  -- a key on the line of another that runs past a pair of neighbours on it runs along the pair
  runs_past : (e f : Entry Count) → Contains es e → Contains es f → line_test e f ≡ true → (u : Edge) → JoinsNeighbours (edges_of es) u → IsPiece u e.edge
      → point_order f.edge.a u.b ≡ Less → point_order u.a f.edge.b ≡ Less → is_part u f.edge ≡ true
  runs_past e f e_at f_at test u joins piece begins ends = by (int_eq e.edge.a.x e.edge.b.x) refl test
    where
      by : (b : Bool) → int_eq e.edge.a.x e.edge.b.x ≡ b → cond b (in_column f) (in_row e.edge.a.y f) ≡ true → is_part u f.edge ≡ true
      by true v g =
          let vertical = (Decides-int_eq e.edge.a.x e.edge.b.x).0 v in
          let first = (vertical_flat e.edge u.a (forward e e_at) vertical).0 piece.first_on in
          let second = (vertical_flat e.edge u.b (forward e e_at) vertical).0 piece.second_on in
          past_vertical es h all u joins f.edge (listed_edge es f f_at) (forward f f_at) begins ends (first ∙ sym second) ((Decides-int_eq f.edge.a.x f.edge.b.x).0 g)
      by false v g = at (int_eq f.edge.a.x f.edge.b.x) refl g
        where
          level : (d : Entry Count) → Contains es d → int_eq d.edge.a.x d.edge.b.x ≡ false → IsHorizontal d.edge
          level d d_at w = ⊎_elim (λ k. k) (λ k. absurd (false≢true (sym w ∙ same_height d.edge.a.x d.edge.b.x k))) (way es h all t ps swept.stops d.edge (listed_edge es d d_at))

          at : (b : Bool) → int_eq f.edge.a.x f.edge.b.x ≡ b → cond b false (int_eq f.edge.a.y e.edge.a.y) ≡ true → is_part u f.edge ≡ true
          at true w k = absurd (false≢true k)
          at false w k =
              let first = (horizontal_flat e.edge u.a (forward e e_at) (level e e_at v)).0 piece.first_on in
              let second = (horizontal_flat e.edge u.b (forward e e_at) (level e e_at v)).0 piece.second_on in
              let height = (Decides-int_eq f.edge.a.y e.edge.a.y).0 k in
              past_horizontal es h all u joins f.edge (listed_edge es f f_at) (forward f f_at) begins ends (first ∙ sym second) (height ∙ sym first) (sym (level f f_at w) ∙ (height ∙ sym first))

  -- a key that begins at p came
  begun_came : (f : Entry Count) → Contains es f → is_le (point_order p f.edge.a) ≡ true → reached t f.edge.b ≡ true
  begun_came f at l = by (reached t f.edge.b) refl
    where
      on : point_order f.edge.a f.edge.b ≡ Less
      on = before_is_less f.edge.a f.edge.b (forward f at)

      further : point_order p f.edge.b ≡ Less
      further = ⊎_elim (λ m. point_total.trans p f.edge.a f.edge.b m on) (λ m. ap (λ z. point_order z f.edge.b) m ∙ on) (le_tells p f.edge.a l)

      by : (b : Bool) → reached t f.edge.b ≡ b → b ≡ true
      by true m = refl
      by false m = absurd (le_not f.edge.b p (next.last f.edge.b (f.edge, listed_edge es f at, inr refl) m) further)

  came_after : (f : Entry Count) → Contains es f → reached t f.edge.b ≡ true → point_order p f.edge.b ≡ Less
  came_after f at k =
      behind_is ps p f.edge.b (p_before es h all t ps before gone ahead come lines laid marked swept p next) (reached_end es h all t ps swept.stops f.edge.b (f.edge, listed_edge es f at, inr refl) k)

  in_firsts : All (Contains es) (before ++ gone)
  in_firsts = subst (λ l. All (Contains es) l) swept.cut.firsts (All-contains_itself es)

  in_seconds : All (Contains es) (ahead ++ come)
  in_seconds = All-permutation (Contains es) es (ahead ++ come) swept.cut.seconds (All-contains_itself es)

  le_then : (a b c : Point) → is_le (point_order a b) ≡ true → point_order b c ≡ Less → point_order a c ≡ Less
  le_then a b c l m = ⊎_elim (λ k. point_total.trans a b c k m) (λ k. ap (λ z. point_order z c) k ∙ m) (le_tells a b l)

  then_le : (a b c : Point) → point_order a b ≡ Less → is_le (point_order b c) ≡ true → point_order a c ≡ Less
  then_le a b c m l = ⊎_elim (λ k. point_total.trans a b c m k) (λ k. ap (point_order a) (sym k) ∙ m) (le_tells b c l)

  visited_runs : AllRun gone come (visited p lines)
  visited_runs = runs_at_stop es h all t ps before gone ahead come lines laid marked swept p (p_before es h all t ps before gone ahead come lines laid marked swept p next) next.last

  visited_heights : map (λ r. r.y) (visited p lines).rows ≡ map (λ r. r.y) lines.rows
  visited_heights = heights_kept p.y _ lines.rows

  -- ---- where keys go

  module _ (front behind : List (Entry Count)) (e : Entry Count) (parts : before ≡ front ++ e ∷ behind) (here : All (λ f. f.edge.a ≡ p) (e ∷ behind)) where
    all_parts : es ≡ front ++ (e ∷ (behind ++ gone))
    all_parts = swept.cut.firsts ∙ (ap (λ l. l ++ gone) parts ∙ append_assoc front (e ∷ behind) gone)

    in_before : All (Contains es) (front ++ e ∷ behind)
    in_before = subst (All (Contains es)) parts (All-front (Contains es) before gone in_firsts)

    e_there : Contains es e
    e_there = All-head (Contains es) e behind (All-back (Contains es) front (e ∷ behind) in_before)

    both_of : {X : Type 0} (P Q : X → Type 0) (xs : List X) → All P xs → All Q xs → All (λ x. P x × Q x) xs
    both_of P Q xs f g k d l = (f k d l, g k d l)

    all_came : All (λ f. reached t f.edge.b ≡ true) (e ∷ (behind ++ gone))
    all_came =
        All-append (λ f. reached t f.edge.b ≡ true) (e ∷ behind) gone
        (All-weaker (λ f. Contains es f × (f.edge.a ≡ p)) (λ f. reached t f.edge.b ≡ true) (λ f k. begun_came f k.0 (ap (λ z. is_le (point_order p z)) k.1 ∙ ap is_le (point_itself p))) (e ∷ behind)
        (both_of (Contains es) (λ f. f.edge.a ≡ p) (e ∷ behind) (All-back (Contains es) front (e ∷ behind) in_before) here))
        (All-weaker (λ f. Contains es f × (reached t f.edge.a ≡ true)) (λ f. reached t f.edge.b ≡ true)
        (λ f k. All-contains (λ f. reached t f.edge.a ≡ true → reached t f.edge.b ≡ true) es f (both_reached es h all t ps swept.stops) k.0 k.1) gone
        (both_of (Contains es) (λ f. reached t f.edge.a ≡ true) gone (All-back (Contains es) before gone in_firsts) swept.cut.is_gone))

    -- of what came
    come_parts : (w : Entry Count → ℤ) → total w come ≡ total (come_of t w) front +ℤ (w e +ℤ total w (behind ++ gone))
    come_parts w =
        sym (come_total es t t before gone ahead come swept.cut w)
        ∙ (ap (total (come_of t w)) all_parts
        ∙ (total_append (come_of t w) front (e ∷ (behind ++ gone))
        ∙ ap (λ n. total (come_of t w) front +ℤ n)
        (total_pointwise_on (come_of t w) w (e ∷ (behind ++ gone)) (All-weaker (λ f. reached t f.edge.b ≡ true) (λ f. come_of t w f ≡ w f) (λ f k. ap (λ (b : Bool). cond b (w f) (pos 0)) k) (e ∷ (behind ++ gone)) all_came))))

    few : (test : Entry Count → Bool) → total (one_if test) (behind ++ gone) ≤ℤ total (one_if test) come
    few test =
        at_most (total (one_if test) come) (total (come_of t (one_if test)) front) (one_if test e) (total (one_if test) (behind ++ gone)) (come_parts (one_if test))
        (total_not_negative (come_of t (one_if test)) front (λ f. by (reached t f.edge.b) (test f))) (one (test e))
      where
        by : (a b : Bool) → pos 0 ≤ℤ cond a (cond b (pos 1) (pos 0)) (pos 0)
        by true true = omega (arith, ints)
        by true false = omega (arith, ints)
        by false b = omega (arith, ints)

        one : (b : Bool) → pos 0 ≤ℤ cond b (pos 1) (pos 0)
        one true = omega (arith, ints)
        one false = omega (arith, ints)

        at_most : (c f o b : ℤ) → c ≡ f +ℤ (o +ℤ b) → pos 0 ≤ℤ f → pos 0 ≤ℤ o → b ≤ℤ c
        at_most c f o b k l m = omega (arith, ints, k, l, m)

    abbrev pub lines_left : LinesView
    lines_left = all_changed false behind (visited p lines)

    runs : Runs (line_test e) (behind ++ gone) come (line_on e.edge lines_left)
    runs = line_runs (behind ++ gone) come lines_left (go_all behind gone come (visited p lines) few visited_runs) (all_heights false behind (visited p lines) ∙ visited_heights) e e_there

    abbrev stays : Entry Count → Bool
    stays f = line_test e f && reached t f.edge.b

    abbrev staying : List (Entry Count)
    staying = filter stays front

    sum_of : (w : Entry Count → ℤ) (n : ℤ) → n +ℤ total (λ f. cond (line_test e f) (w f) (pos 0)) (behind ++ gone) ≡ total (λ f. cond (line_test e f) (w f) (pos 0)) come → n +ℤ neg_ℤ (w e) ≡ total w staying
    sum_of w n k =
        by n (w e) (cond (line_test e e) (w e) (pos 0)) (total on (behind ++ gone)) (total on come) (total (come_of t on) front) (total w staying) k (come_parts on)
        (ap (λ (b : Bool). cond b (w e) (pos 0)) (own_line e))
        (filtered w stays front ∙ total_pointwise_on (λ f. kept (stays f) (w f)) (come_of t on) front (λ i d l. both (line_test e (get_or front i d)) (reached t (get_or front i d).edge.b) (w (get_or front i d))))
      where
        on : Entry Count → ℤ
        on f = cond (line_test e f) (w f) (pos 0)

        both : (a b : Bool) (c : ℤ) → cond (a && b) c (pos 0) ≡ cond b (cond a c (pos 0)) (pos 0)
        both true true c = refl
        both true false c = refl
        both false true c = refl
        both false false c = refl

        by : (n w o b c f s : ℤ) → n +ℤ b ≡ c → c ≡ f +ℤ (o +ℤ b) → o ≡ w → s ≡ f → n +ℤ neg_ℤ w ≡ s
        by n w o b c f s k l m g = omega (arith, ints, k, l, m, g)

    in_front : All (λ f. Contains es f × (reached t f.edge.a ≡ false)) front
    in_front =
        both_of (Contains es) (λ f. reached t f.edge.a ≡ false) front (All-front (Contains es) front (e ∷ behind) in_before)
        (All-front (λ f. reached t f.edge.a ≡ false) front (e ∷ behind) (subst (All (λ f. reached t f.edge.a ≡ false)) parts swept.cut.not_gone))

    pub going_overfull : (precision : Precision) → count_fits (boolean.join (line_on e.edge lines_left).sum (boolean.turned e.count)) ≡ false → IsOverfull boolean count_fits (steps_in boolean precision es 0)
    going_overfull precision over =
        overfull_along es h whole precision u joins staying (filter (λ f. not (stays f)) front ++ (e ∷ (behind ++ gone))) (boolean.join (line_on e.edge lines_left).sum (boolean.turned e.count)) order
        (All-filter stays (Contains es) front (All-weaker (λ f. Contains es f × (reached t f.edge.a ≡ false)) (Contains es) (λ f k. k.0) front in_front))
        (All-weaker (λ f. (Contains es f × (reached t f.edge.a ≡ false)) × (stays f ≡ true)) (λ f. is_part u f.edge ≡ true) each staying
        (both_of (λ f. Contains es f × (reached t f.edge.a ≡ false)) (λ f. stays f ≡ true) staying (All-filter stays (λ f. Contains es f × (reached t f.edge.a ≡ false)) front in_front) (filter_passes stays front)))
        (sum_of (λ f. f.count.subject) (line_on e.edge lines_left).sum.subject runs.subject) (sum_of (λ f. f.count.clip) (line_on e.edge lines_left).sum.clip runs.clip) over
      where
        pair : (q : Point) × JoinsNeighbours (edges_of es) (record { a = e.edge.a; b = q }) × IsPiece (record { a = e.edge.a; b = q }) e.edge
        pair = first_pair es h whole precision e e_there

        u : Edge
        u = record { a = e.edge.a; b = pair.0 }

        joins : JoinsNeighbours (edges_of es) u
        joins = pair.1

        begin : e.edge.a ≡ p
        begin = All-head (λ f. f.edge.a ≡ p) e behind here

        order : IsPermutation es (staying ++ (filter (λ f. not (stays f)) front ++ (e ∷ (behind ++ gone))))
        order =
            subst (λ l. IsPermutation l (staying ++ (filter (λ f. not (stays f)) front ++ (e ∷ (behind ++ gone))))) (sym all_parts)
            (subst (IsPermutation (front ++ (e ∷ (behind ++ gone)))) (append_assoc staying (filter (λ f. not (stays f)) front) (e ∷ (behind ++ gone)))
            (IsPermutation-append_left (e ∷ (behind ++ gone)) front (staying ++ filter (λ f. not (stays f)) front) (IsPermutation-filter_both stays (λ f. not (stays f)) (λ f. refl) front)))

        each : (f : Entry Count) → (Contains es f × (reached t f.edge.a ≡ false)) × (stays f ≡ true) → is_part u f.edge ≡ true
        each f k =
            let told = both_true (line_test e f) (reached t f.edge.b) k.1 in
            runs_past e f e_there k.0.0 told.0 u joins pair.2
            (le_then f.edge.a u.a u.b (ap (λ z. is_le (point_order f.edge.a z)) begin ∙ next.last f.edge.a (f.edge, listed_edge es f k.0.0, inl refl) k.0.1) (before_is_less u.a u.b joins.forward))
            (ap (λ z. point_order z f.edge.b) begin ∙ came_after f k.0.0 told.1)

  -- ---- where keys come

  module _ (left mid front behind : List (Entry Count)) (e : Entry Count) (clear : IsClear p lines ps) (starts : before ≡ left ++ mid) (start_here : All (λ f. f.edge.a ≡ p) mid)
      (start_last : (front : List (Entry Count)) (f : Entry Count) → left ≡ front ++ f ∷ [] → f.edge.a ≢ p) (seconds : AreBySeconds (ahead ++ come)) (few : length (ahead ++ come) < 2 ^ 32)
      (parts : ahead ≡ front ++ e ∷ behind) (here : All (λ f. f.edge.b ≡ p) (e ∷ behind)) where
    ends : Parted (λ f. f.edge.b) p ahead
    ends = parted (λ f. f.edge.b) p ahead

    half : Cut es (Some p) t left (mid ++ gone) ahead come
    half = half_cut es h all t ps before left mid gone ahead ends.front ends.behind come lines laid marked swept p next clear starts start_here start_last ends.parts ends.here ends.last seconds few

    abbrev pub lines_gone : LinesView
    lines_gone = all_changed false mid (visited p lines)

    gone_runs : AllRun (mid ++ gone) come lines_gone
    gone_runs = runs_gone es h all t ps before left mid gone ahead ends.front ends.behind come lines laid marked swept p next clear starts start_here start_last ends.parts ends.here ends.last seconds few

    here_parts : ahead ++ come ≡ front ++ (e ∷ (behind ++ come))
    here_parts = ap (λ l. l ++ come) parts ∙ append_assoc front (e ∷ behind) come

    all_there : All (Contains es) (front ++ (e ∷ (behind ++ come)))
    all_there = subst (All (Contains es)) here_parts in_seconds

    own_there : Contains es e
    own_there = All-head (Contains es) e (behind ++ come) (All-back (Contains es) front (e ∷ (behind ++ come)) all_there)

    abbrev pub lines_now : LinesView
    lines_now = all_changed true behind lines_gone

    room : length behind + length come < 2 ^ 32
    room = shorter (length front) (length behind) (length come) (length (ahead ++ come)) (ap length here_parts ∙ (length-append front (e ∷ (behind ++ come)) ∙ ap (λ n. length front + suc n) (length-append behind come))) few
      where
        shorter : (a b c n : ℕ) → n ≡ a + suc (b + c) → n < 2 ^ 32 → b + c < 2 ^ 32
        shorter a b c n e l = omega (arith, e, l)

    now_runs : Runs (line_test e) (mid ++ gone) (behind ++ come) (line_on e.edge lines_now)
    now_runs =
        line_runs (mid ++ gone) (behind ++ come) lines_now (come_all behind (mid ++ gone) come lines_gone room gone_runs)
        (all_heights true behind lines_gone ∙ (all_heights false mid (visited p lines) ∙ visited_heights)) e own_there

    abbrev passes : Entry Count → Bool
    passes f = line_test e f && not (reached (Some p) f.edge.a)

    abbrev passing : List (Entry Count)
    passing = filter passes (e ∷ (behind ++ come))

    both_at : {X : Type 0} (P Q : X → Type 0) (xs : List X) → All P xs → All Q xs → All (λ x. P x × Q x) xs
    both_at P Q xs f g k d l = (f k d l, g k d l)

    not_begun : All (λ f. reached (Some p) f.edge.a ≡ false) front
    not_begun =
        All-weaker (λ f. Contains es f × (reached t f.edge.b ≡ false)) (λ f. reached (Some p) f.edge.a ≡ false) (λ f k. by f k.0 k.1 (reached (Some p) f.edge.a) refl) front
        (both_at (Contains es) (λ f. reached t f.edge.b ≡ false) front (All-front (Contains es) front (e ∷ (behind ++ come)) all_there)
        (All-front (λ f. reached t f.edge.b ≡ false) front (e ∷ behind) (subst (All (λ f. reached t f.edge.b ≡ false)) parts swept.cut.not_come)))
      where
        by : (f : Entry Count) → Contains es f → reached t f.edge.b ≡ false → (b : Bool) → reached (Some p) f.edge.a ≡ b → b ≡ false
        by f at k false l = refl
        by f at k true l = absurd (false≢true (sym k ∙ begun_came f at l))

    order_here : IsPermutation es ((e ∷ (behind ++ come)) ++ front)
    order_here = IsPermutation-trans es (front ++ (e ∷ (behind ++ come))) ((e ∷ (behind ++ come)) ++ front) (subst (IsPermutation es) here_parts swept.cut.seconds) (IsPermutation-append_comm front (e ∷ (behind ++ come)))

    -- of what went
    gone_parts : (w : Entry Count → ℤ) → total w (mid ++ gone) ≡ total (gone_of (Some p) w) (e ∷ (behind ++ come))
    gone_parts w =
        sym (gone_total es (Some p) t left (mid ++ gone) ahead come half w)
        ∙ (sym (total_permutation (gone_of (Some p) w) es ((e ∷ (behind ++ come)) ++ front) order_here)
        ∙ (total_append (gone_of (Some p) w) (e ∷ (behind ++ come)) front
        ∙ none_more (total (gone_of (Some p) w) (e ∷ (behind ++ come))) (total (gone_of (Some p) w) front)
        (total_zero_on (gone_of (Some p) w) front (All-weaker (λ f. reached (Some p) f.edge.a ≡ false) (λ f. gone_of (Some p) w f ≡ pos 0) (λ f k. ap (λ (b : Bool). cond b (w f) (pos 0)) k) front not_begun))))
      where
        none_more : (m n : ℤ) → n ≡ pos 0 → m +ℤ n ≡ m
        none_more m n e = omega (arith, ints, e)

    sum_here : (w : Entry Count → ℤ) (n : ℤ) → n +ℤ total (λ f. cond (line_test e f) (w f) (pos 0)) (mid ++ gone) ≡ total (λ f. cond (line_test e f) (w f) (pos 0)) (behind ++ come) → n +ℤ w e ≡ total w passing
    sum_here w n k =
        by n (w e) (cond (line_test e e) (w e) (pos 0)) (total on (mid ++ gone)) (total on (behind ++ come)) (total (gone_of (Some p) on) vs) (total w passing) k (gone_parts on)
        (ap (λ (b : Bool). cond b (w e) (pos 0)) (own_line e))
        (ap (λ m. m +ℤ total (gone_of (Some p) on) vs) (filtered w passes vs)
        ∙ (sym (total_sum (λ f. kept (passes f) (w f)) (gone_of (Some p) on) vs)
        ∙ total_pointwise_on (λ f. kept (passes f) (w f) +ℤ gone_of (Some p) on f) on vs (λ i d l. both (line_test e (get_or vs i d)) (reached (Some p) (get_or vs i d).edge.a) (w (get_or vs i d)))))
      where
        vs : List (Entry Count)
        vs = e ∷ (behind ++ come)

        on : Entry Count → ℤ
        on f = cond (line_test e f) (w f) (pos 0)

        both : (a b : Bool) (c : ℤ) → cond (a && not b) c (pos 0) +ℤ cond b (cond a c (pos 0)) (pos 0) ≡ cond a c (pos 0)
        both true true c = omega (arith, ints)
        both true false c = omega (arith, ints)
        both false true c = omega (arith, ints)
        both false false c = omega (arith, ints)

        by : (n w o g c r s : ℤ) → n +ℤ g ≡ c → g ≡ r → o ≡ w → s +ℤ r ≡ o +ℤ c → n +ℤ w ≡ s
        by n w o g c r s k l m f = omega (arith, ints, k, l, m, f)

    pub coming_overfull : (precision : Precision) → count_fits (boolean.join (line_on e.edge lines_now).sum e.count) ≡ false → IsOverfull boolean count_fits (steps_in boolean precision es 0)
    coming_overfull precision over =
        overfull_along es h whole precision u joins passing (filter (λ f. not (passes f)) (e ∷ (behind ++ come)) ++ front) (boolean.join (line_on e.edge lines_now).sum e.count) order
        (All-filter passes (Contains es) (e ∷ (behind ++ come)) there)
        (All-weaker (λ f. (Contains es f × (is_le (point_order p f.edge.b) ≡ true)) × (passes f ≡ true)) (λ f. is_part u f.edge ≡ true) each passing
        (both_at (λ f. Contains es f × (is_le (point_order p f.edge.b) ≡ true)) (λ f. passes f ≡ true) passing (All-filter passes (λ f. Contains es f × (is_le (point_order p f.edge.b) ≡ true)) (e ∷ (behind ++ come)) (both_at (Contains es) (λ f. is_le (point_order p f.edge.b) ≡ true) (e ∷ (behind ++ come)) there not_less)) (filter_passes passes (e ∷ (behind ++ come)))))
        (sum_here (λ f. f.count.subject) (line_on e.edge lines_now).sum.subject now_runs.subject) (sum_here (λ f. f.count.clip) (line_on e.edge lines_now).sum.clip now_runs.clip) over
      where
        there : All (Contains es) (e ∷ (behind ++ come))
        there = All-back (Contains es) front (e ∷ (behind ++ come)) all_there

        not_less : All (λ f. is_le (point_order p f.edge.b) ≡ true) (e ∷ (behind ++ come))
        not_less =
            All-append (λ f. is_le (point_order p f.edge.b) ≡ true) (e ∷ behind) come
            (All-weaker (λ f. f.edge.b ≡ p) (λ f. is_le (point_order p f.edge.b) ≡ true) (λ f k. ap (λ z. is_le (point_order p z)) k ∙ ap is_le (point_itself p)) (e ∷ behind) here)
            (All-weaker (λ f. Contains es f × (reached t f.edge.b ≡ true)) (λ f. is_le (point_order p f.edge.b) ≡ true) (λ f k. ap is_le (came_after f k.0 k.1)) come
            (both_at (Contains es) (λ f. reached t f.edge.b ≡ true) come (All-back (Contains es) ahead come in_seconds) swept.cut.is_come))

        pair : (q : Point) × JoinsNeighbours (edges_of es) (record { a = q; b = e.edge.b }) × IsPiece (record { a = q; b = e.edge.b }) e.edge
        pair = last_pair es h whole precision e own_there

        u : Edge
        u = record { a = pair.0; b = e.edge.b }

        joins : JoinsNeighbours (edges_of es) u
        joins = pair.1

        end : e.edge.b ≡ p
        end = All-head (λ f. f.edge.b ≡ p) e behind here

        order : IsPermutation es (passing ++ (filter (λ f. not (passes f)) (e ∷ (behind ++ come)) ++ front))
        order =
            IsPermutation-trans es ((e ∷ (behind ++ come)) ++ front) (passing ++ (filter (λ f. not (passes f)) (e ∷ (behind ++ come)) ++ front)) order_here
            (subst (IsPermutation ((e ∷ (behind ++ come)) ++ front)) (append_assoc passing (filter (λ f. not (passes f)) (e ∷ (behind ++ come))) front)
            (IsPermutation-append_left front (e ∷ (behind ++ come)) (passing ++ filter (λ f. not (passes f)) (e ∷ (behind ++ come))) (IsPermutation-filter_both passes (λ f. not (passes f)) (λ f. refl) (e ∷ (behind ++ come)))))

        negated : (b : Bool) → not b ≡ true → b ≡ false
        negated true k = absurd (false≢true k)
        negated false k = refl

        before_p : (q : Point) → is_le (point_order p q) ≡ false → point_order q p ≡ Less
        before_p q k = by (point_order p q) refl k
          where
            by : (o : Ordering) → point_order p q ≡ o → is_le o ≡ false → point_order q p ≡ Less
            by Less f g = absurd (false≢true (sym g))
            by Equal f g = absurd (false≢true (sym g))
            by Greater f g = less_from_greater point_total p q f

        each : (f : Entry Count) → (Contains es f × (is_le (point_order p f.edge.b) ≡ true)) × (passes f ≡ true) → is_part u f.edge ≡ true
        each f k =
            let told = both_true (line_test e f) (not (reached (Some p) f.edge.a)) k.1 in
            runs_past e f own_there k.0.0 told.0 u joins pair.2
            (ap (point_order f.edge.a) end ∙ before_p f.edge.a (negated (reached (Some p) f.edge.a) told.1))
            (then_le u.a p f.edge.b (ap (point_order u.a) (sym end) ∙ before_is_less u.a u.b joins.forward) k.0.1)

-- ---- from one stop to the next

module _ (es before ahead : List (Entry Count)) (lines : LinesView) (laid : List (Entry Count)) (marked : Bool) (origin ticks : ℕ) (is : IsSwept es before ahead lines laid marked origin ticks)
    (p : Point) (greatest : IsGreatestEnd before ahead p) (crossed_lines : LinesView) (crossed_laid : List (Entry Count)) (new_ticks : ℕ) (crossed : Bool)
    (crosses : Crosses p lines laid ticks crossed_lines crossed_laid new_ticks crossed) (h : AreInOrder es) (all : AllRectilinear (edges_of es)) (few : length es < 2 ^ 32) (precision : Precision) where
  ahead_next : IsNextEnd es is.last p
  ahead_next = next_end_is es before ahead lines laid marked origin ticks is p greatest

  pub going_refused : (after : LinesView) → after ≡ visited p crossed_lines → LeavesRange false p before after → IsOverfull boolean count_fits (steps_in boolean precision es 0)
  going_refused after e leaves =
      let come = crosses es before is.gone ahead is.come is.last is.stops marked h all ahead_next is.swept in
      going_overfull es h all is.last come.0 before is.gone ahead is.come crossed_lines crossed_laid (marked || crossed) come.1 p ahead_next leaves.front leaves.behind leaves.entry leaves.parts leaves.here precision
      (ap (λ l. count_fits (boolean.join (line_on leaves.entry.edge (all_changed false leaves.behind l)).sum (boolean.turned leaves.entry.count))) (sym e) ∙ leaves.too_much)

  pub coming_refused : (left mid : List (Entry Count)) → before ≡ left ++ mid → All (λ f. f.edge.a ≡ p) mid → ((front : List (Entry Count)) (f : Entry Count) → left ≡ front ++ f ∷ [] → f.edge.a ≢ p)
      → (after : LinesView) → after ≡ all_changed false mid (visited p crossed_lines) → LeavesRange true p ahead after → IsOverfull boolean count_fits (steps_in boolean precision es 0)
  coming_refused left mid starts start_here start_last after e leaves =
      let come = crosses es before is.gone ahead is.come is.last is.stops marked h all ahead_next is.swept in
      coming_overfull es h all is.last come.0 before is.gone ahead is.come crossed_lines crossed_laid (marked || crossed) come.1 p ahead_next left mid leaves.front leaves.behind leaves.entry come.2 starts start_here start_last is.seconds
      (room (length es) (length (ahead ++ is.come)) (length_permutation es (ahead ++ is.come) is.swept.cut.seconds) few) leaves.parts leaves.here precision
      (ap (λ l. count_fits (boolean.join (line_on leaves.entry.edge (all_changed true leaves.behind l)).sum leaves.entry.count)) (sym e) ∙ leaves.too_much)
    where
      room : (m n : ℕ) → n ≡ m → m < 2 ^ 32 → n < 2 ^ 32
      room m n e l = omega (arith, e, l)

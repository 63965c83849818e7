-- What runs along lines, when keys come and go: on each line those that came, but for those that went, and the sum of their counts.
use Rattle.std.proofs.Common.{◌≡◌, ℕ, ◌+◌, ◌-◌, ◌<◌, ◌^◌, min, Bool, true, false, cond, List, [], ◌∷◌, ◌++◌, length, All, ℤ, pos, ◌+ℤ◌, neg_ℤ, ◌≤ℤ◌, int_eq, length-append, refl, ap, ◌∙◌, arith}
use Rattle.std.proofs.lemmas.Int.{ints}
use Rattle.std.proofs.lemmas.List.Elements.{All-weaker, All-map}
use Rattle.plane_base.specs.Counts.{Count, Entry, boolean}
use Rattle.plane_base.specs.Totals.{total}
use Rattle.plane_base.proofs.Facts.Lists.Totals.{total_not_negative}
use Rattle.segment_split.specs.Stops.{LineView, RowView, LinesView, changed, at_height, at_line, all_changed}
use Rattle.segment_split.specs.Sweeps.{in_column, in_row, one_if, subject_if, clip_if, Runs, AllRun}

-- ---- how many of a list pass a test

pub one_not_negative : (test : Entry Count → Bool) (es : List (Entry Count)) → pos 0 ≤ℤ total (one_if test) es
one_not_negative test es = total_not_negative (one_if test) es (λ e. by (test e))
  where
    by : (b : Bool) → pos 0 ≤ℤ cond b (pos 1) (pos 0)
    by true = omega (arith, ints)
    by false = omega (arith, ints)

pub one_at_most : (test : Entry Count → Bool) (es : List (Entry Count)) → total (one_if test) es ≤ℤ pos (length es)
one_at_most test [] = omega (arith, ints)
one_at_most test (e ∷ es) = by (test e) (one_at_most test es)
  where
    by : (b : Bool) → total (one_if test) es ≤ℤ pos (length es) → (cond b (pos 1) (pos 0) +ℤ total (one_if test) es) ≤ℤ pos (length (e ∷ es))
    by true h = omega (arith, ints, h)
    by false h = omega (arith, ints, h)

-- ---- one comes

module _ (test : Entry Count → Bool) (gone come : List (Entry Count)) (l : LineView) (h : Runs test gone come l) (e : Entry Count) where
  pub comes : length come + 1 < 2 ^ 32 → test e ≡ true → Runs test gone (e ∷ come) (changed true e.count l)
  comes few t = record {
    running = more (pos l.running) (pos (min (l.running + 1) (2 ^ 32 - 1))) (one_if test e) _ _ (ap (λ (b : Bool). cond b (pos 1) (pos 0)) t) (kept room) h.running;
    subject = added l.sum.subject e.count.subject (subject_if test e) _ _ (ap (λ (b : Bool). cond b e.count.subject (pos 0)) t) h.subject;
    clip = added l.sum.clip e.count.clip (clip_if test e) _ _ (ap (λ (b : Bool). cond b e.count.clip (pos 0)) t) h.clip;
  }
    where
      room : l.running + 1 < 2 ^ 32
      room = fits l.running (total (one_if test) gone) (total (one_if test) come) (length come) (one_not_negative test gone) (one_at_most test come) h.running few
        where
          fits : (n : ℕ) (g c : ℤ) (k : ℕ) → pos 0 ≤ℤ g → c ≤ℤ pos k → pos n +ℤ g ≡ c → k + 1 < 2 ^ 32 → n + 1 < 2 ^ 32
          fits n g c k a b e l = omega (arith, ints, a, b, e, l)

      kept : l.running + 1 < 2 ^ 32 → pos (min (l.running + 1) (2 ^ 32 - 1)) ≡ pos l.running +ℤ pos 1
      kept r = omega (arith, ints, r)

      more : (n m w g c : ℤ) → w ≡ pos 1 → m ≡ n +ℤ pos 1 → n +ℤ g ≡ c → m +ℤ g ≡ w +ℤ c
      more n m w g c a b e = omega (arith, ints, a, b, e)

      added : (n d w g c : ℤ) → w ≡ d → n +ℤ g ≡ c → (n +ℤ d) +ℤ g ≡ w +ℤ c
      added n d w g c a e = omega (arith, ints, a, e)

  pub passes_by : test e ≡ false → Runs test gone (e ∷ come) l
  passes_by t = record {
    running = same (pos l.running) (one_if test e) _ _ (ap (λ (b : Bool). cond b (pos 1) (pos 0)) t) h.running;
    subject = same l.sum.subject (subject_if test e) _ _ (ap (λ (b : Bool). cond b e.count.subject (pos 0)) t) h.subject;
    clip = same l.sum.clip (clip_if test e) _ _ (ap (λ (b : Bool). cond b e.count.clip (pos 0)) t) h.clip;
  }
    where
      same : (n w g c : ℤ) → w ≡ pos 0 → n +ℤ g ≡ c → n +ℤ g ≡ w +ℤ c
      same n w g c a e = omega (arith, ints, a, e)

  pub goes : total (one_if test) (e ∷ gone) ≤ℤ total (one_if test) come → test e ≡ true → Runs test (e ∷ gone) come (changed false (boolean.turned e.count) l)
  goes few t = record {
    running = less l.running (one_if test e) _ _ (ap (λ (b : Bool). cond b (pos 1) (pos 0)) t) few h.running;
    subject = taken l.sum.subject e.count.subject (subject_if test e) _ _ (ap (λ (b : Bool). cond b e.count.subject (pos 0)) t) h.subject;
    clip = taken l.sum.clip e.count.clip (clip_if test e) _ _ (ap (λ (b : Bool). cond b e.count.clip (pos 0)) t) h.clip;
  }
    where
      less : (n : ℕ) (w g c : ℤ) → w ≡ pos 1 → (w +ℤ g) ≤ℤ c → pos n +ℤ g ≡ c → pos (n - 1) +ℤ (w +ℤ g) ≡ c
      less n w g c a l e = omega (arith, ints, a, l, e)

      taken : (n d w g c : ℤ) → w ≡ d → n +ℤ g ≡ c → (n +ℤ neg_ℤ d) +ℤ (w +ℤ g) ≡ c
      taken n d w g c a e = omega (arith, ints, a, e)

  pub leaves_it : test e ≡ false → Runs test (e ∷ gone) come l
  leaves_it t = record {
    running = same (pos l.running) (one_if test e) _ _ (ap (λ (b : Bool). cond b (pos 1) (pos 0)) t) h.running;
    subject = same l.sum.subject (subject_if test e) _ _ (ap (λ (b : Bool). cond b e.count.subject (pos 0)) t) h.subject;
    clip = same l.sum.clip (clip_if test e) _ _ (ap (λ (b : Bool). cond b e.count.clip (pos 0)) t) h.clip;
  }
    where
      same : (n w g c : ℤ) → w ≡ pos 0 → n +ℤ g ≡ c → n +ℤ (w +ℤ g) ≡ c
      same n w g c a e = omega (arith, ints, a, e)

-- ---- the same of all lines

-- the rows, each with its height, after a change of the row of one height
pub changed_rows : (P Q : RowView → Type 0) (y : ℤ) (f : LineView → LineView) (rows : List RowView)
    → ((r : RowView) → P r → int_eq r.y y ≡ true → Q (record { y = r.y; line = f r.line })) → ((r : RowView) → P r → int_eq r.y y ≡ false → Q r)
    → All P rows → All Q (at_height y f rows)
changed_rows P Q y f rows here other h = All-map Q (λ r. record { y = r.y; line = cond (int_eq r.y y) (f r.line) r.line }) rows (All-weaker P (λ r. Q (record { y = r.y; line = cond (int_eq r.y y) (f r.line) r.line })) each rows h)
  where
    each : (r : RowView) → P r → Q (record { y = r.y; line = cond (int_eq r.y y) (f r.line) r.line })
    each r p = by (int_eq r.y y) refl
      where
        by : (b : Bool) → int_eq r.y y ≡ b → Q (record { y = r.y; line = cond b (f r.line) r.line })
        by true e = here r p e
        by false e = other r p e

pub turned_about : (x y : ℤ) (b : Bool) → int_eq y x ≡ b → int_eq x y ≡ b
turned_about x y b t = by (int_eq x y) refl ∙ t
  where
    by : (d : Bool) → int_eq x y ≡ d → int_eq x y ≡ int_eq y x
    by d k = grind (arith, ints)

module _ (e : Entry Count) where
  vertical_row : (y : ℤ) → int_eq e.edge.a.x e.edge.b.x ≡ true → in_row y e ≡ false
  vertical_row y u = ap (λ (b : Bool). cond b false (int_eq e.edge.a.y y)) u

  horizontal_row : (y : ℤ) (b : Bool) → int_eq e.edge.a.x e.edge.b.x ≡ false → int_eq e.edge.a.y y ≡ b → in_row y e ≡ b
  horizontal_row y b u t = ap (λ (b : Bool). cond b false (int_eq e.edge.a.y y)) u ∙ t

  pub all_come : (gone come : List (Entry Count)) (lines : LinesView) → length come + 1 < 2 ^ 32 → AllRun gone come lines → AllRun gone (e ∷ come) (at_line e.edge (changed true e.count) lines)
  all_come gone come lines few h = by (int_eq e.edge.a.x e.edge.b.x) refl
    where
      by : (b : Bool) → int_eq e.edge.a.x e.edge.b.x ≡ b
          → AllRun gone (e ∷ come) (record { rows = cond b lines.rows (at_height e.edge.a.y (changed true e.count) lines.rows); column = cond b (changed true e.count lines.column) lines.column })
      by true u = record {
        rows = All-weaker (λ r. Runs (in_row r.y) gone come r.line) (λ r. Runs (in_row r.y) gone (e ∷ come) r.line) (λ r k. passes_by (in_row r.y) gone come r.line k e (vertical_row r.y u)) lines.rows h.rows;
        column = comes in_column gone come lines.column h.column e few u;
      }
      by false u = record {
        rows =
            changed_rows (λ r. Runs (in_row r.y) gone come r.line) (λ r. Runs (in_row r.y) gone (e ∷ come) r.line) e.edge.a.y (changed true e.count) lines.rows
            (λ r k t. comes (in_row r.y) gone come r.line k e few (horizontal_row r.y true u (turned_about e.edge.a.y r.y true t)))
            (λ r k t. passes_by (in_row r.y) gone come r.line k e (horizontal_row r.y false u (turned_about e.edge.a.y r.y false t)))
            h.rows;
        column = passes_by in_column gone come lines.column h.column e u;
      }

  pub all_go : (gone come : List (Entry Count)) (lines : LinesView) → ((test : Entry Count → Bool) → total (one_if test) (e ∷ gone) ≤ℤ total (one_if test) come)
      → AllRun gone come lines → AllRun (e ∷ gone) come (at_line e.edge (changed false (boolean.turned e.count)) lines)
  all_go gone come lines few h = by (int_eq e.edge.a.x e.edge.b.x) refl
    where
      by : (b : Bool) → int_eq e.edge.a.x e.edge.b.x ≡ b
          → AllRun (e ∷ gone) come
          (record { rows = cond b lines.rows (at_height e.edge.a.y (changed false (boolean.turned e.count)) lines.rows); column = cond b (changed false (boolean.turned e.count) lines.column) lines.column })
      by true u = record {
        rows = All-weaker (λ r. Runs (in_row r.y) gone come r.line) (λ r. Runs (in_row r.y) (e ∷ gone) come r.line) (λ r k. leaves_it (in_row r.y) gone come r.line k e (vertical_row r.y u)) lines.rows h.rows;
        column = goes in_column gone come lines.column h.column e (few in_column) u;
      }
      by false u = record {
        rows =
            changed_rows (λ r. Runs (in_row r.y) gone come r.line) (λ r. Runs (in_row r.y) (e ∷ gone) come r.line) e.edge.a.y (changed false (boolean.turned e.count)) lines.rows
            (λ r k t. goes (in_row r.y) gone come r.line k e (few (in_row r.y)) (horizontal_row r.y true u (turned_about e.edge.a.y r.y true t)))
            (λ r k t. leaves_it (in_row r.y) gone come r.line k e (horizontal_row r.y false u (turned_about e.edge.a.y r.y false t)))
            h.rows;
        column = leaves_it in_column gone come lines.column h.column e u;
      }

-- Those that come and go one after the other, the last first.
pub come_all : (es gone come : List (Entry Count)) (lines : LinesView) → length es + length come < 2 ^ 32 → AllRun gone come lines → AllRun gone (es ++ come) (all_changed true es lines)
come_all [] gone come lines few h = h
come_all (e ∷ es) gone come lines few h = all_come e gone (es ++ come) (all_changed true es lines) room (come_all es gone come lines (omega (arith, few)) h)
  where
    room : length (es ++ come) + 1 < 2 ^ 32
    room = rw (length-append es come) (omega (arith, few))

pub go_all : (es gone come : List (Entry Count)) (lines : LinesView) → ((test : Entry Count → Bool) → total (one_if test) (es ++ gone) ≤ℤ total (one_if test) come)
    → AllRun gone come lines → AllRun (es ++ gone) come (all_changed false es lines)
go_all [] gone come lines few h = h
go_all (e ∷ es) gone come lines few h = all_go e (es ++ gone) come (all_changed false es lines) few (go_all es gone come lines fewer h)
  where
    fewer : (test : Entry Count → Bool) → total (one_if test) (es ++ gone) ≤ℤ total (one_if test) come
    fewer test = by (test e) (few test)
      where
        by : (b : Bool) → (cond b (pos 1) (pos 0) +ℤ total (one_if test) (es ++ gone)) ≤ℤ total (one_if test) come → total (one_if test) (es ++ gone) ≤ℤ total (one_if test) come
        by true l = omega (arith, ints, l)
        by false l = omega (arith, ints, l)

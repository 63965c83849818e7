-- Crossing after crossing, until none is left.
use Rattle.std.proofs.Common.{◌≡◌, ℕ, ◌+◌, ◌<◌, Bool, true, false, not, cond, ◌||◌, List, ◌∷◌, All, Contains, Option, Some, ◌<ℤ◌, Less, refl, sym, ap, subst, ◌∙◌, arith}
use Rattle.std.proofs.lemmas.Bool.{false≢true}
use Rattle.std.proofs.lemmas.List.Elements.{All-cons, All-weaker, All-contains}
use Rattle.plane_base.specs.Plane.{Point, point_order}
use Rattle.plane_base.proofs.Facts.Maps.Normal.{AllPairs-cons}
use Rattle.plane_base.specs.Counts.{Count, Entry}
use Rattle.segment_split.specs.Passes.{edges_of}
use Rattle.segment_split.specs.LineLaws.{AllRectilinear, IsCrossing}
use Rattle.segment_split.specs.Stops.{LinesView}
use Rattle.segment_split.specs.Sweeps.{AreInOrder, is_met, IsBefore, Ticked, Swept, IsNextEnd, CrossesOnce, IsDone, Crosses, CrossesSome}
use Rattle.segment_split.proofs.Passes.Steps.{contains_head, contains_tail}
use Rattle.segment_split.proofs.Stops.Places.{or_false}
use Rattle.plane_base.proofs.Facts.Crossings.Squares.{or_true}

-- to where the sweep comes from some stop
abbrev pub Comes : Point → LinesView → List (Entry Count) → ℕ → LinesView → List (Entry Count) → ℕ → Bool → Type 0
Comes p lines laid ticks new_lines new_laid new_ticks crossed =
    (es before gone ahead come : List (Entry Count)) (t : Option Point) (ps : List Point) (marked : Bool)
    → AreInOrder es → AllRectilinear (edges_of es) → IsNextEnd es t p → Swept es t ps before gone ahead come lines laid marked
    → (more : List Point) × Swept es t more before gone ahead come new_lines new_laid (marked || crossed) × ((first : ℕ) → Ticked es ps first ticks → Ticked es more first new_ticks)

pub comes_at_first : (p : Point) (lines : LinesView) (laid : List (Entry Count)) (ticks : ℕ) → Comes p lines laid ticks lines laid ticks false
comes_at_first p lines laid ticks es before gone ahead come t ps marked h all next swept = (
  ps,
  subst (λ b. Swept es t ps before gone ahead come lines laid b) (sym (or_false marked)) swept,
  λ first ticked. ticked,
)

-- ---- pairs that are counted

pub ticked_more : (es : List (Entry Count)) (ps : List Point) (c : Point) (first now : ℕ) → IsCrossing (edges_of es) c → IsBefore ps c → Ticked es ps first now → Ticked es (c ∷ ps) first (now + 1)
ticked_more es ps c first now crossing before ticked = record {
  crossings = c ∷ ticked.crossings;
  rising = AllPairs-cons (λ p q. point_order p q ≡ Less) c ticked.crossings (All-weaker (Contains ps) (λ q. point_order c q ≡ Less) (λ q at. All-contains (λ q. point_order c q ≡ Less) ps q before at) ticked.crossings ticked.listed) ticked.rising;
  listed = All-cons (Contains (c ∷ ps)) c ticked.crossings (contains_head c ps) (All-weaker (Contains ps) (Contains (c ∷ ps)) (λ q at. contains_tail c ps q at) ticked.crossings ticked.listed);
  only = All-cons (IsCrossing (edges_of es)) c ticked.crossings crossing ticked.only;
  number = let n = ticked.number in omega (arith, n);
}

-- a stop more that isn't counted
pub ticked_on : (es : List (Entry Count)) (ps : List Point) (p : Point) (first now : ℕ) → Ticked es ps first now → Ticked es (p ∷ ps) first now
ticked_on es ps p first now ticked = record {
  crossings = ticked.crossings;
  rising = ticked.rising;
  listed = All-weaker (Contains ps) (Contains (p ∷ ps)) (λ q at. contains_tail p ps q at) ticked.crossings ticked.listed;
  only = ticked.only;
  number = ticked.number;
}

module _ (p : Point) (lines : LinesView) (laid : List (Entry Count)) (now_lines : LinesView) (now_laid : List (Entry Count)) (new_lines : LinesView) (new_laid : List (Entry Count)) (crossed done : Bool) (ticks now_ticks new_ticks : ℕ)
    (so_far : Comes p lines laid ticks now_lines now_laid now_ticks crossed) (counts : new_ticks ≡ now_ticks + cond done 0 1) (once : done ≡ false → CrossesOnce p now_lines now_laid new_lines new_laid) (stays : done ≡ true → IsDone p now_lines now_laid new_lines new_laid) where
  pub comes_on : Comes p lines laid ticks new_lines new_laid new_ticks (crossed || not done)
  comes_on es before gone ahead come t ps marked h all next swept = by done refl counts (so_far es before gone ahead come t ps marked h all next swept)
    where
      by : (d : Bool) → done ≡ d → new_ticks ≡ now_ticks + cond d 0 1
          → (more : List Point) × Swept es t more before gone ahead come now_lines now_laid (marked || crossed) × ((first : ℕ) → Ticked es ps first ticks → Ticked es more first now_ticks)
          → (more : List Point) × Swept es t more before gone ahead come new_lines new_laid (marked || (crossed || not d)) × ((first : ℕ) → Ticked es ps first ticks → Ticked es more first new_ticks)
      by false e n m =
          let k = once e es before gone ahead come t m.0 (marked || crossed) h all next m.1 in (
            k.0 ∷ m.0,
            subst (λ b. Swept es t (k.0 ∷ m.0) before gone ahead come new_lines new_laid b) (sym (ap (λ b. marked || b) (or_true crossed) ∙ or_true marked)) k.3,
            λ first ticked. subst (Ticked es (k.0 ∷ m.0) first) (sym n) (ticked_more es m.0 k.0 first now_ticks k.1 k.2 (m.2 first ticked)),
          )
      by true e n m =
          let k = stays e in (
            m.0,
            subst (λ b. Swept es t m.0 before gone ahead come new_lines new_laid b) (sym (ap (λ b. marked || b) (or_false crossed)))
                (subst (λ l. Swept es t m.0 before gone ahead come l new_laid (marked || crossed)) (sym k.lines_stay) (subst (λ l. Swept es t m.0 before gone ahead come now_lines l (marked || crossed)) (sym k.laid_stays) m.1)),
            λ first ticked. subst (Ticked es m.0 first) (sym (n ∙ none_more now_ticks)) (m.2 first ticked),
          )
        where
          none_more : (n : ℕ) → n + 0 ≡ n
          none_more n = omega arith

  pub quiet_now : done ≡ true → (q : Point) → new_lines.column.next ≡ Some q → All (λ r. p.y <ℤ r.y → r.y <ℤ q.y → is_met new_lines.column r.line ≡ false) new_lines.rows
  quiet_now e q f =
      let k = stays e in
      subst (λ l. All (λ r. p.y <ℤ r.y → r.y <ℤ q.y → is_met l.column r.line ≡ false) l.rows) (sym k.lines_stay) (k.quiet q (sym (ap (λ l. l.column.next) k.lines_stay) ∙ f))

pub shorter : (done : Bool) (n m : ℕ) → (done ≡ false → n < m) → cond done 0 (n + 1) < m + 1
shorter true n m h = omega arith
shorter false n m h = let l = h refl in omega (arith, l)

pub shorter_than : (before done : Bool) (n m : ℕ) → before ≡ false → (done ≡ false → n < m) → cond done 0 (n + 1) < cond before 0 (m + 1)
shorter_than false done n m e h = shorter done n m h
shorter_than true done n m e h = absurd (false≢true (sym e))

pub crosses_by : (p : Point) (lines : LinesView) (laid : List (Entry Count)) (ticks : ℕ) (new_lines : LinesView) (new_laid : List (Entry Count)) (new_ticks : ℕ) (crossed : Bool) → Comes p lines laid ticks new_lines new_laid new_ticks crossed
    → ((q : Point) → new_lines.column.next ≡ Some q → All (λ r. p.y <ℤ r.y → r.y <ℤ q.y → is_met new_lines.column r.line ≡ false) new_lines.rows) → Crosses p lines laid ticks new_lines new_laid new_ticks crossed
crosses_by p lines laid ticks new_lines new_laid new_ticks crossed comes quiet es before gone ahead come t ps marked h all next swept =
    let m = comes es before gone ahead come t ps marked h all next swept in
    (m.0, m.1, λ q first runs. quiet q (m.1.next ∙ first), m.2)

-- No crossing is met where nothing runs upward, or no stop was met.
pub crosses_none : (p : Point) (lines : LinesView) (laid : List (Entry Count)) (ticks : ℕ) → (0 < lines.column.running → (q : Point) → lines.column.next ≡ Some q → ⊥) → Crosses p lines laid ticks lines laid ticks false
crosses_none p lines laid ticks none es before gone ahead come t ps marked h all next swept =
    (ps, subst (λ b. Swept es t ps before gone ahead come lines laid b) (sym (or_false marked)) swept, λ q first runs. absurd (none runs q (swept.next ∙ first)), λ first ticked. ticked)

-- Where a crossing isn't stopped at, those before it are counted.
pub some_by : (p : Point) (lines : LinesView) (laid : List (Entry Count)) (ticks : ℕ) (new_lines : LinesView) (new_laid : List (Entry Count)) (new_ticks last : ℕ) (crossed : Bool) → Comes p lines laid ticks new_lines new_laid new_ticks crossed
    → last ≡ new_ticks → CrossesSome p lines laid ticks last
some_by p lines laid ticks new_lines new_laid new_ticks last crossed comes same es before gone ahead come t ps marked h all next swept first ticked =
    let m = comes es before gone ahead come t ps marked h all next swept in
    (m.0, subst (Ticked es m.0 first) (sym same) (m.2 first ticked))

-- What passes below a segment that is parted from the edges of a balanced map is the same at each of its columns.
use Rattle.std.proofs.Common.{◌≡◌, ◌≢◌, Bool, true, false, cond, ◌&&◌, List, All, ℤ, pos, ◌-ℤ◌, ◌*ℤ◌, ◌≤ℤ◌, ◌<ℤ◌, int_lt, int_le, get_or, sym, ap, ap₂, ◌∙◌, arith}
use Rattle.std.proofs.lemmas.Int.{ints, by_lt_z}
use Rattle.std.proofs.lemmas.List.Elements.{All-weaker}
use Rattle.plane_base.specs.Plane.{Point, Edge, turn, is_before}
use Rattle.plane_base.specs.Counts.{Count, Entry}
use Rattle.plane_base.specs.Balance.{IsBalancedForAll, IsBalancedMap}
use Rattle.plane_base.specs.Segments.{parted, precedes}
use Rattle.plane_base.specs.ColumnLaws.{IsLive}
use Rattle.plane_base.specs.Totals.{total}
use Rattle.plane_base.proofs.Facts.Maps.Balance.{balanced_subject, balanced_clip}
use Rattle.plane_base.proofs.Facts.Maps.Laying.{IsDirected}
use Rattle.plane_base.proofs.Facts.Points.Orders.{point_less_x, point_less_by_x, before_is_less}
use Rattle.plane_base.proofs.Facts.Lists.Totals.{total_pointwise_on, total_difference}
use Rattle.segment_arrangement.specs.Columns.{is_live, sum_of, below}
use Rattle.segment_arrangement.specs.SideLaws.{IsPartedFrom}
use Rattle.segment_arrangement.proofs.Facts.ColumnPlaces.{lt_holds, lt_fails, le_holds, le_fails, live_holds, not_live_ended, not_live_unstarted}
use Rattle.segment_arrangement.proofs.Facts.EndsAlong.{precedes_by_start, precedes_by_end, ends_on_one_side}

-- ---- sums of counts over edges that pass a test

abbrev pub part : (Count → ℤ) → (Edge → Bool) → List (Entry Count) → ℤ
part n test es = total (λ e. cond (test e.edge) (n e.count) (pos 0)) es

pub parts_agree : (n : Count → ℤ) (test other : Edge → Bool) (es : List (Entry Count)) → All (λ e. test e.edge ≡ other e.edge) es → part n test es ≡ part n other es
parts_agree n test other es same =
    total_pointwise_on (λ e. cond (test e.edge) (n e.count) (pos 0)) (λ e. cond (other e.edge) (n e.count) (pos 0)) es
    (All-weaker (λ e. test e.edge ≡ other e.edge) (λ e. cond (test e.edge) (n e.count) (pos 0) ≡ cond (other e.edge) (n e.count) (pos 0)) (λ e h. ap (λ b. cond b (n e.count) (pos 0)) h) es same)

pub same_count : (c d : Count) → c.subject ≡ d.subject → c.clip ≡ d.clip → c ≡ d
same_count c d e f = λ i. record { subject = e i; clip = f i }

pub sums_agree : (test other : Edge → Bool) (es : List (Entry Count)) → All (λ e. test e.edge ≡ other e.edge) es → sum_of test es ≡ sum_of other es
sums_agree test other es same = same_count (sum_of test es) (sum_of other es) (parts_agree (λ c. c.subject) test other es same) (parts_agree (λ c. c.clip) test other es same)

-- ---- the ends between two columns that lie below k

module _ (k : Edge) (x y : ℤ) (from : k.a.x ≤ℤ x) (apart : x <ℤ y) (to : y <ℤ k.b.x) where
  abbrev is_under : Point → Bool
  is_under p = (int_lt x p.x && int_le p.x y) && int_lt (turn k.a k.b p) (pos 0)

  abbrev strip : Point → ℤ
  strip p = cond (is_under p) (pos 1) (pos 0)

  before_strip : (p : Point) → p.x ≤ℤ x → strip p ≡ pos 0
  before_strip p h = ap (λ b. cond ((b && int_le p.x y) && int_lt (turn k.a k.b p) (pos 0)) (pos 1) (pos 0)) (lt_fails x p.x h)

  in_strip : (p : Point) → x <ℤ p.x → p.x ≤ℤ y → strip p ≡ cond (int_lt (turn k.a k.b p) (pos 0)) (pos 1) (pos 0)
  in_strip p h l = ap₂ (λ b c. cond ((b && c) && int_lt (turn k.a k.b p) (pos 0)) (pos 1) (pos 0)) (lt_holds x p.x h) (le_holds p.x y l)

  after_strip : (p : Point) → y <ℤ p.x → strip p ≡ pos 0
  after_strip p h = ap₂ (λ b c. cond ((b && c) && int_lt (turn k.a k.b p) (pos 0)) (pos 1) (pos 0)) (lt_holds x p.x (omega (arith, ints, apart))) (le_fails p.x y h)

  abbrev passes : ℤ → Edge → ℤ
  passes z g = cond (is_live z g && precedes g k) (pos 1) (pos 0)

  none : (z : ℤ) (g : Edge) → is_live z g ≡ false → passes z g ≡ pos 0
  none z g e = ap (λ b. cond (b && precedes g k) (pos 1) (pos 0)) e

  some : (z : ℤ) (g : Edge) → IsLive z g → passes z g ≡ cond (precedes g k) (pos 1) (pos 0)
  some z g h = ap (λ b. cond (b && precedes g k) (pos 1) (pos 0)) (live_holds z g h)

  -- what each edge adds beyond the strip, less what it adds before it
  crossing_strip : (g : Edge) → is_before g.a g.b ≡ true → (k ≢ g → parted k g ≡ true) → passes y g -ℤ passes x g ≡ strip g.a -ℤ strip g.b
  crossing_strip g directed others = by_lt_z x g.a.x starts_later starts_before
    where
      rightward : g.a.x ≤ℤ g.b.x
      rightward = point_less_x g.a g.b (before_is_less g.a g.b directed)

      all_none : {m n p q : ℤ} → m ≡ pos 0 → n ≡ pos 0 → p ≡ pos 0 → q ≡ pos 0 → m -ℤ n ≡ p -ℤ q
      all_none e f g h = omega (arith, ints)

      first : {m n p q : ℤ} → n ≡ pos 0 → q ≡ pos 0 → m ≡ p → m -ℤ n ≡ p -ℤ q
      first e f g = omega (arith, ints)

      second : {m n p q : ℤ} → m ≡ pos 0 → p ≡ pos 0 → n ≡ q → m -ℤ n ≡ p -ℤ q
      second e f g = omega (arith, ints)

      both : {m n p q : ℤ} → m ≡ n → p ≡ q → m -ℤ n ≡ p -ℤ q
      both e f = omega (arith, ints)

      differ : g.b.x ≤ℤ y → k ≢ g
      differ h e = let f : k.b.x ≡ g.b.x = ap (λ s. s.b.x) e in absurd (omega (arith, ints))

      starts_later : x <ℤ g.a.x → passes y g -ℤ passes x g ≡ strip g.a -ℤ strip g.b
      starts_later h = by_lt_z y g.a.x beyond inside
        where
          beyond : y <ℤ g.a.x → passes y g -ℤ passes x g ≡ strip g.a -ℤ strip g.b
          beyond l = all_none (none y g (not_live_unstarted y g l)) (none x g (not_live_unstarted x g h)) (after_strip g.a l) (after_strip g.b (omega (arith, ints, rightward)))

          inside : g.a.x ≤ℤ y → passes y g -ℤ passes x g ≡ strip g.a -ℤ strip g.b
          inside l =
              by_lt_z y g.b.x
              (λ m. first (none x g (not_live_unstarted x g h)) (after_strip g.b m) (some y g (l, m) ∙ (ap (λ b. cond b (pos 1) (pos 0)) (precedes_by_start g k (point_less_by_x k.a g.a (omega (arith, ints)))) ∙ sym (in_strip g.a h l))))
              (λ m. both (none y g (not_live_ended y g m) ∙ sym (none x g (not_live_unstarted x g h))) (in_strip g.a h l ∙ (ap (λ b. cond b (pos 1) (pos 0)) (ends_on_one_side g k (others (differ m)) directed (omega (arith, ints)) (omega (arith, ints))) ∙ sym (in_strip g.b (omega (arith, ints, rightward)) m))))

      starts_before : g.a.x ≤ℤ x → passes y g -ℤ passes x g ≡ strip g.a -ℤ strip g.b
      starts_before h = by_lt_z x g.b.x reaching ended
        where
          ended : g.b.x ≤ℤ x → passes y g -ℤ passes x g ≡ strip g.a -ℤ strip g.b
          ended l = all_none (none y g (not_live_ended y g (omega (arith, ints)))) (none x g (not_live_ended x g l)) (before_strip g.a h) (before_strip g.b l)

          reaching : x <ℤ g.b.x → passes y g -ℤ passes x g ≡ strip g.a -ℤ strip g.b
          reaching l =
              by_lt_z y g.b.x
              (λ m. both (some y g (omega (arith, ints), m) ∙ sym (some x g (h, l))) (before_strip g.a h ∙ sym (after_strip g.b m)))
              (λ m. second (none y g (not_live_ended y g m)) (before_strip g.a h) (some x g (h, l) ∙ (ap (λ b. cond b (pos 1) (pos 0)) (precedes_by_end g k (others (differ m)) (omega (arith, ints)) (omega (arith, ints)) (omega (arith, ints))) ∙ sym (in_strip g.b l m))))

  -- the sum of all
  part_constant : (n : Count → ℤ) (es : List (Entry Count)) → IsDirected es → IsPartedFrom k es → IsBalancedForAll n es
      → part n (λ t. is_live x t && precedes t k) es ≡ part n (λ t. is_live y t && precedes t k) es
  part_constant n es directed others balanced =
      level _ _ (sym (total_difference (λ e. cond (is_live y e.edge && precedes e.edge k) (n e.count) (pos 0)) (λ e. cond (is_live x e.edge && precedes e.edge k) (n e.count) (pos 0)) es)
      ∙ (total_pointwise_on _ (λ e. n e.count *ℤ (strip e.edge.a -ℤ strip e.edge.b)) es each ∙ balanced strip))
    where
      level : (m p : ℤ) → p -ℤ m ≡ pos 0 → m ≡ p
      level m p e = omega (arith, ints)

      weighed : (m : ℤ) (b c : Bool) → cond b m (pos 0) -ℤ cond c m (pos 0) ≡ m *ℤ (cond b (pos 1) (pos 0) -ℤ cond c (pos 1) (pos 0))
      weighed m true true = omega (arith, ints)
      weighed m true false = omega (arith, ints)
      weighed m false true = omega (arith, ints)
      weighed m false false = omega (arith, ints)

      each : All (λ e. cond (is_live y e.edge && precedes e.edge k) (n e.count) (pos 0) -ℤ cond (is_live x e.edge && precedes e.edge k) (n e.count) (pos 0) ≡ n e.count *ℤ (strip e.edge.a -ℤ strip e.edge.b)) es
      each i d l =
          let e : Entry Count = get_or es i d in
          weighed (n e.count) (is_live y e.edge && precedes e.edge k) (is_live x e.edge && precedes e.edge k)
          ∙ ap (λ z. n e.count *ℤ z) (crossing_strip e.edge (directed i d l) (others i d l))

pub below_rightward : (es : List (Entry Count)) (k : Edge) (x y : ℤ) → IsDirected es → IsPartedFrom k es → IsBalancedMap es → k.a.x ≤ℤ x → x <ℤ y → y <ℤ k.b.x → below es k x ≡ below es k y
below_rightward es k x y directed others balanced from apart to =
    same_count (below es k x) (below es k y)
    (part_constant k x y from apart to (λ c. c.subject) es directed others (balanced_subject es balanced))
    (part_constant k x y from apart to (λ c. c.clip) es directed others (balanced_clip es balanced))

pub below_constant : (es : List (Entry Count)) (k : Edge) (x y : ℤ) → IsDirected es → IsPartedFrom k es → IsBalancedMap es → IsLive x k → IsLive y k → below es k x ≡ below es k y
below_constant es k x y directed others balanced hx hy =
    by_lt_z x y
    (λ l. below_rightward es k x y directed others balanced hx.0 l hy.1)
    (λ l. by_lt_z y x
    (λ m. sym (below_rightward es k y x directed others balanced hy.0 m hx.1))
    (λ m. ap (λ z. below es k z) (same x y l m)))
  where
    same : (x y : ℤ) → y ≤ℤ x → x ≤ℤ y → x ≡ y
    same x y l m = omega (arith, ints)

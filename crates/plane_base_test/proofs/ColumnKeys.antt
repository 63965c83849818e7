-- Live segments at a column as keys: their order is lawful, a new one is unlike them, and a query for a point is monotone.
use Rattle.std.proofs.Common.{◌≡◌, ◌≢◌, ℤ, ◌≤◌, List, [], ◌∷◌, All, Contains, true, refl, sym, ap, ◌∙◌, inl, inr, arith}
use Rattle.std.proofs.lemmas.List.Elements.{All-contains}
use Rattle.std.specs.Ordering.{ordering_reverse, ordering_index}
use Rattle.std.specs.declared.cmp.Ordering.{Ordering}
use Rattle.std.specs.declared.cmp.Ordering.TheVariants.{Less, Equal, Greater}
use Rattle.i_tree.specs.LiveList.{IsRising, IsAmong, IsLawful, IsNewKey}
use Rattle.i_tree.specs.KeyAnswers.{IsMonotone}
use Rattle.plane_base.specs.Plane.{Point, Edge}
use Rattle.plane_base.specs.Segments.{parted, order_against, column_order}
use Rattle.plane_base.specs.ColumnLaws.{IsLive, OrderIsLawful, SidesKeepOrder}
use Rattle.plane_base.proofs.Facts.Crossings.Parted.{parted_swapped}
use Rattle.plane_base_test.specs.Columns.{AreApart, IsNewAndApart, IsOverColumn}
use Rattle.plane_base_test.proofs.Members.{Contains-head, Contains-tail, All-from_contains}

-- Two segments, one below the other, are different.
unlike_own_reverse : (o : Ordering) → o ≡ ordering_reverse o → o ≢ Less
unlike_own_reverse Less e f = absurd (cc)
unlike_own_reverse Equal e f = absurd (cc)
unlike_own_reverse Greater e f = absurd (cc)

different : OrderIsLawful → (s t : Edge) → column_order s t ≡ Less → s ≢ t
different laws s t below same =
    let own : column_order s s ≡ ordering_reverse (column_order s s) = laws.reversed s s in
    unlike_own_reverse (column_order s s) own (ap (column_order s) same ∙ below)

rises : (m n : Ordering) → (n ≡ Less → m ≡ Less) → (m ≡ Greater → n ≡ Greater) → ordering_index m ≤ ordering_index n
rises Less n f g = omega arith
rises Equal Less f g = let e = f refl in absurd (cc)
rises Equal Equal f g = omega arith
rises Equal Greater f g = omega arith
rises Greater n f g = rw (g refl) (omega arith)

module _ {K V : Type 0} (edge : K → Edge) (x : ℤ) where
  apart_pair : (entries : List (K × V)) → AreApart edge x entries → (e f : K × V) → Contains entries e → Contains entries f → edge e.0 ≢ edge f.0 → parted (edge e.0) (edge f.0) ≡ true
  apart_pair entries apart e f ce cf ne =
      All-contains (λ (h : K × V). edge e.0 ≢ edge h.0 → parted (edge e.0) (edge h.0) ≡ true) entries f (All-contains (λ (g : K × V). All (λ (h : K × V). edge g.0 ≢ edge h.0 → parted (edge g.0) (edge h.0) ≡ true) entries) entries e apart.meets_in_ends ce) cf ne

  live_entry : (entries : List (K × V)) → AreApart edge x entries → (e : K × V) → Contains entries e → IsLive x (edge e.0)
  live_entry entries apart e c = All-contains (λ (g : K × V). IsLive x (edge g.0)) entries e apart.live c

  module _ (key : K) (entries : List (K × V)) (all : IsNewAndApart edge x key entries) where
    live_among : (k : K) → IsAmong key entries k → IsLive x (edge k)
    live_among k (inl same) = rw same all.live
    live_among k (inr there) = live_entry entries all.apart (k, there.0) there.1

    from_key : (e : K × V) → Contains entries e → parted (edge e.0) (edge key) ≡ true
    from_key e c = All-contains (λ (g : K × V). parted (edge g.0) (edge key) ≡ true) entries e all.parted_from c

    parted_among : (j k : K) → IsAmong key entries j → IsAmong key entries k → edge j ≢ edge k → parted (edge j) (edge k) ≡ true
    parted_among j k (inl one) (inl two) ne = absurd (ne (ap edge (one ∙ sym two)))
    parted_among j k (inl one) (inr there) ne = rw one (parted_swapped (edge k) (edge key) (from_key (k, there.0) there.1))
    parted_among j k (inr there) (inl two) ne = rw two (from_key (j, there.0) there.1)
    parted_among j k (inr there) (inr here) ne = apart_pair entries all.apart (j, there.0) (k, here.0) there.1 here.1 ne

    pub IsLawful-column : OrderIsLawful → IsLawful (λ j k. column_order (edge j) (edge k)) key entries
    IsLawful-column laws = record {
      reversed = λ j k _ _. laws.reversed (edge k) (edge j);
      through = λ i j k a b c below above.
          laws.through (edge i) (edge j) (edge k) x (parted_among i j a b (different laws (edge i) (edge j) below)) (parted_among j k b c (different laws (edge j) (edge k) above)) (parted_among i k a c) (live_among i a) (live_among j b) (live_among k c) below above;
    }

    pub IsNewKey-column : OrderIsLawful → IsNewKey (λ j k. column_order (edge j) (edge k)) key entries
    IsNewKey-column laws = All-from_contains (λ (e : K × V). column_order (edge e.0) (edge key) ≢ Equal) entries (λ e c.
        laws.decided (edge e.0) (edge key) x (from_key e c) (live_entry entries all.apart e c) all.live (All-contains (λ (g : K × V). edge g.0 ≢ edge key) entries e all.new c))

  -- ---- a query for a point

  IsMonotone-from : (order : K → K → Ordering) (by : K → Ordering) (entries : List (K × V)) → ((e f : K × V) → Contains entries e → Contains entries f → order e.0 f.0 ≡ Less → ordering_index (by e.0) ≤ ordering_index (by f.0)) → IsRising order entries → IsMonotone by entries
  IsMonotone-from order by [] h rising = tt
  IsMonotone-from order by (e ∷ rest) h rising = (
    All-from_contains (λ (f : K × V). ordering_index (by e.0) ≤ ordering_index (by f.0)) rest (λ f c. h e f (Contains-head e rest) (Contains-tail e f rest c) (All-contains (λ (later : K × V). order e.0 later.0 ≡ Less) rest f rising.0 c)),
    IsMonotone-from order by rest (λ f g cf cg. h f g (Contains-tail e f rest cf) (Contains-tail e g rest cg)) rising.1,
  )

  pub IsMonotone-column : OrderIsLawful → SidesKeepOrder → (p : Point) → IsOverColumn x p → (entries : List (K × V)) → AreApart edge x entries → IsRising (λ j k. column_order (edge j) (edge k)) entries → IsMonotone (λ k. order_against (edge k) p) entries
  IsMonotone-column laws sides p over entries apart rising = IsMonotone-from (λ j k. column_order (edge j) (edge k)) (λ k. order_against (edge k) p) entries by rising where
    by : (e f : K × V) → Contains entries e → Contains entries f → column_order (edge e.0) (edge f.0) ≡ Less → ordering_index (order_against (edge e.0) p) ≤ ordering_index (order_against (edge f.0) p)
    by e f ce cf below =
        let two = apart_pair entries apart e f ce cf (different laws (edge e.0) (edge f.0) below) in
        let first = live_entry entries apart e ce in
        let second = live_entry entries apart f cf in
        rises (order_against (edge e.0) p) (order_against (edge f.0) p) (sides.less (edge e.0) (edge f.0) x p two first second over.0 over.1 below) (sides.greater (edge e.0) (edge f.0) x p two first second over.0 over.1 below)

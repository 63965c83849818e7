-- The greatest of the entries that pass a test, and sums of which one entry is taken apart.
use Rattle.std.proofs.Common.{◌≡◌, ◌≢◌, zero, suc, Bool, true, false, cond, List, [], ◌∷◌, All, Contains, ◌⊎◌, inl, inr, ℤ, pos, ◌+ℤ◌, get_or, refl, sym, ap, ◌∙◌, subst, arith}
use Rattle.std.specs.declared.cmp.Ordering.{Ordering}
use Rattle.std.specs.declared.cmp.Ordering.TheVariants.{Less, Equal, Greater}
use Rattle.std.specs.Ordering.{is_eq}
use Rattle.std.proofs.lemmas.Int.{ints}
use Rattle.std.proofs.lemmas.Bool.{false≢true}
use Rattle.std.proofs.lemmas.List.Elements.{All-nil, All-cons, All-contains, All-weaker}
use Rattle.plane_base.specs.Plane.{Edge, edge_order}
use Rattle.plane_base.specs.Counts.{Count, Entry}
use Rattle.plane_base.specs.Totals.{total}
use Rattle.plane_base.proofs.Facts.Maps.Normal.{IsRising, rising_above, rising_rest}
use Rattle.plane_base.proofs.Facts.Points.Orders.{edge_total, edge_equal, edge_itself, greater_from_less}
use Rattle.plane_base.proofs.Facts.Columns.Levels.{unless_same}
use Rattle.plane_base.proofs.Facts.Lists.Totals.{total_pointwise_on, total_sum, total_zero_on}

pub Contains-head : {A : Type 0} (x : A) (xs : List A) → Contains (x ∷ xs) x
Contains-head x xs = (0, omega arith, refl)

pub Contains-later : {A : Type 0} (x : A) (xs : List A) (a : A) → Contains xs a → Contains (x ∷ xs) a
Contains-later x xs a h = (suc h.0, omega (arith, h.1), h.2)

pub Contains-cases : {A : Type 0} (x : A) (xs : List A) (a : A) → Contains (x ∷ xs) a → (x ≡ a) ⊎ Contains xs a
Contains-cases x xs a (zero, l, e) = inl e
Contains-cases x xs a (suc k, l, e) = inr (k, omega (arith, l), e)

-- ---- the greatest of those that pass

pub record IsGreatest (r : Edge → Edge → Bool) (test : Edge → Bool) (es : List (Entry Count)) (k : Entry Count) : Type 0 where
  pub here : Contains es k
  pub passes : test k.edge ≡ true
  pub last : (e : Entry Count) → Contains es e → test e.edge ≡ true → k.edge ≢ e.edge → r e.edge k.edge ≡ true

-- any two of those that pass are ordered
pub record IsOrdered (r : Edge → Edge → Bool) (test : Edge → Bool) (es : List (Entry Count)) : Type 0 where
  pub decided : (e f : Entry Count) → Contains es e → Contains es f → test e.edge ≡ true → test f.edge ≡ true → (e.edge ≡ f.edge) ⊎ ((r e.edge f.edge ≡ true) ⊎ (r f.edge e.edge ≡ true))
  pub through :
      (e f g : Entry Count) → Contains es e → Contains es f → Contains es g → test e.edge ≡ true → test f.edge ≡ true → test g.edge ≡ true →
      r e.edge f.edge ≡ true → r f.edge g.edge ≡ true → r e.edge g.edge ≡ true

module _ (r : Edge → Edge → Bool) (test : Edge → Bool) where
  rest_ordered : (x : Entry Count) (es : List (Entry Count)) → IsOrdered r test (x ∷ es) → IsOrdered r test es
  rest_ordered x es h = record {
    decided = λ e f k l. h.decided e f (Contains-later x es e k) (Contains-later x es f l);
    through = λ e f g k l m. h.through e f g (Contains-later x es e k) (Contains-later x es f l) (Contains-later x es g m);
  }

  refused : {b : Bool} {A : Type 0} → b ≡ false → b ≡ true → A
  refused e f = absurd (false≢true (sym e ∙ f))

  -- what is told of the head and of each later entry
  of_both : (P : Entry Count → Type 0) (x : Entry Count) (es : List (Entry Count)) → P x → ((e : Entry Count) → Contains es e → P e) → (e : Entry Count) → Contains (x ∷ es) e → P e
  of_both P x es first later e here = by (Contains-cases x es e here)
    where
      by : (x ≡ e) ⊎ Contains es e → P e
      by (inl h) = subst P h first
      by (inr h) = later e h

  pub greatest : (es : List (Entry Count)) → IsOrdered r test es → All (λ e. test e.edge ≡ false) es ⊎ ((k : Entry Count) × IsGreatest r test es k)
  greatest [] h = inl (All-nil (λ e. test e.edge ≡ false))
  greatest (x ∷ es) h = by (test x.edge) refl (greatest es (rest_ordered x es h))
    where
      alone : test x.edge ≡ true → All (λ e. test e.edge ≡ false) es → IsGreatest r test (x ∷ es) x
      alone t all = record {
        here = Contains-head x es;
        passes = t;
        last = of_both (λ e. test e.edge ≡ true → x.edge ≢ e.edge → r e.edge x.edge ≡ true) x es (λ u differ. absurd (differ refl)) (λ e k u differ. refused (All-contains (λ e. test e.edge ≡ false) es e all k) u);
      }

      later : (k : Entry Count) → IsGreatest r test es k → (test x.edge ≡ true → k.edge ≢ x.edge → r x.edge k.edge ≡ true) → IsGreatest r test (x ∷ es) k
      later k g first = record {
        here = Contains-later x es k g.here;
        passes = g.passes;
        last = of_both (λ e. test e.edge ≡ true → k.edge ≢ e.edge → r e.edge k.edge ≡ true) x es first g.last;
      }

      over : test x.edge ≡ true → (k : Entry Count) → IsGreatest r test es k → r k.edge x.edge ≡ true → IsGreatest r test (x ∷ es) x
      over t k g above = record {
        here = Contains-head x es;
        passes = t;
        last = of_both (λ e. test e.edge ≡ true → x.edge ≢ e.edge → r e.edge x.edge ≡ true) x es (λ u differ. absurd (differ refl)) each;
      }
        where
          each : (e : Entry Count) → Contains es e → test e.edge ≡ true → x.edge ≢ e.edge → r e.edge x.edge ≡ true
          each e here u differ = unless_same k.edge e.edge (λ same. ap (λ s. r s x.edge) (sym same) ∙ above) (λ other. h.through e k x (Contains-later x es e here) (Contains-later x es k g.here) (Contains-head x es) u g.passes t (g.last e here u other) above)

      compared : test x.edge ≡ true → (k : Entry Count) → IsGreatest r test es k → (k : Entry Count) × IsGreatest r test (x ∷ es) k
      compared t k g = by (h.decided x k (Contains-head x es) (Contains-later x es k g.here) t g.passes)
        where
          by : (x.edge ≡ k.edge) ⊎ ((r x.edge k.edge ≡ true) ⊎ (r k.edge x.edge ≡ true)) → (k : Entry Count) × IsGreatest r test (x ∷ es) k
          by (inl same) = (k, later k g (λ u differ. absurd (differ (sym same))))
          by (inr (inl l)) = (k, later k g (λ u differ. l))
          by (inr (inr l)) = (x, over t k g l)

      by : (passes : Bool) → test x.edge ≡ passes → All (λ e. test e.edge ≡ false) es ⊎ ((k : Entry Count) × IsGreatest r test es k) → All (λ e. test e.edge ≡ false) (x ∷ es) ⊎ ((k : Entry Count) × IsGreatest r test (x ∷ es) k)
      by true t (inl all) = inr (x, alone t all)
      by false t (inl all) = inl (All-cons (λ e. test e.edge ≡ false) x es t all)
      by true t (inr (k, g)) = inr (compared t k g)
      by false t (inr (k, g)) = inr (k, later k g (λ u differ. refused t u))

-- ---- one entry taken apart

pub total_single : (g : Entry Count → ℤ) (k : Entry Count) (es : List (Entry Count)) → IsRising es → Contains es k → total (λ e. cond (is_eq (edge_order e.edge k.edge)) (g e) (pos 0)) es ≡ g k
total_single g k [] rising here = absurd (omega (arith, here.1))
total_single g k (e ∷ es) rising here = by (λ later. total_single g k es (rising_rest e es rising) later) (Contains-cases e es k here)
  where
    first : (m t : ℤ) → t ≡ pos 0 → m +ℤ t ≡ m
    first m t h = omega (arith, ints)

    rest : (m t n : ℤ) → m ≡ pos 0 → t ≡ n → m +ℤ t ≡ n
    rest m t n h l = omega (arith, ints)

    by : (Contains es k → total (λ e. cond (is_eq (edge_order e.edge k.edge)) (g e) (pos 0)) es ≡ g k) → (e ≡ k) ⊎ Contains es k → cond (is_eq (edge_order e.edge k.edge)) (g e) (pos 0) +ℤ total (λ e. cond (is_eq (edge_order e.edge k.edge)) (g e) (pos 0)) es ≡ g k
    by step (inl same) =
        ap (λ z. cond (is_eq (edge_order z.edge k.edge)) (g z) (pos 0) +ℤ total (λ e. cond (is_eq (edge_order e.edge k.edge)) (g e) (pos 0)) es) same
        ∙ (ap (λ o. cond (is_eq o) (g k) (pos 0) +ℤ total (λ e. cond (is_eq (edge_order e.edge k.edge)) (g e) (pos 0)) es) (edge_itself k.edge)
        ∙ first (g k) _ (total_zero_on (λ e. cond (is_eq (edge_order e.edge k.edge)) (g e) (pos 0)) es
        (All-weaker (λ f. edge_order e.edge f.edge ≡ Less) (λ f. cond (is_eq (edge_order f.edge k.edge)) (g f) (pos 0) ≡ pos 0)
        (λ f l. ap (λ o. cond (is_eq o) (g f) (pos 0)) (ap (λ z. edge_order f.edge z.edge) (sym same) ∙ greater_from_less edge_total e.edge f.edge l)) es (rising_above e es rising))))
    by step (inr later) =
        rest _ _ _ (ap (λ o. cond (is_eq o) (g e) (pos 0)) (All-contains (λ f. edge_order e.edge f.edge ≡ Less) es k (rising_above e es rising) later))
        (step later)

pub total_apart : (test other : Edge → Bool) (g : Entry Count → ℤ) (k : Entry Count) (es : List (Entry Count)) → IsRising es → Contains es k → test k.edge ≡ true → other k.edge ≡ false
    → All (λ e. k.edge ≢ e.edge → test e.edge ≡ other e.edge) es
    → total (λ e. cond (test e.edge) (g e) (pos 0)) es ≡ g k +ℤ total (λ e. cond (other e.edge) (g e) (pos 0)) es
total_apart test other g k es rising here passes stops same =
    total_pointwise_on (λ e. cond (test e.edge) (g e) (pos 0)) (λ e. cond (is_eq (edge_order e.edge k.edge)) (g e) (pos 0) +ℤ cond (other e.edge) (g e) (pos 0)) es each
    ∙ (total_sum (λ e. cond (is_eq (edge_order e.edge k.edge)) (g e) (pos 0)) (λ e. cond (other e.edge) (g e) (pos 0)) es
    ∙ ap (λ t. t +ℤ total (λ e. cond (other e.edge) (g e) (pos 0)) es) (total_single g k es rising here))
  where
    one : (m : ℤ) (b c : Bool) → b ≡ true → c ≡ false → cond b m (pos 0) ≡ m +ℤ cond c m (pos 0)
    one m true true e f = absurd (cc)
    one m true false e f = omega (arith, ints)
    one m false c e f = absurd (cc)

    two : (m : ℤ) (b c : Bool) → b ≡ c → cond b m (pos 0) ≡ pos 0 +ℤ cond c m (pos 0)
    two m b true e = rw e (omega (arith, ints))
    two m b false e = rw e (omega (arith, ints))

    each : All (λ e. cond (test e.edge) (g e) (pos 0) ≡ cond (is_eq (edge_order e.edge k.edge)) (g e) (pos 0) +ℤ cond (other e.edge) (g e) (pos 0)) es
    each i d l = by (edge_order e.edge k.edge) refl
      where
        e : Entry Count
        e = get_or es i d

        own : edge_order e.edge k.edge ≡ Equal → cond (test e.edge) (g e) (pos 0) ≡ g e +ℤ cond (other e.edge) (g e) (pos 0)
        own h =
            let f = edge_equal e.edge k.edge h in
            one (g e) (test e.edge) (other e.edge) (ap test f ∙ passes) (ap other f ∙ stops)

        apart : (o : Ordering) → edge_order e.edge k.edge ≡ o → o ≢ Equal → k.edge ≢ e.edge
        apart o h other f = other (sym h ∙ (ap (λ s. edge_order e.edge s) f ∙ edge_itself e.edge))

        by : (o : Ordering) → edge_order e.edge k.edge ≡ o → cond (test e.edge) (g e) (pos 0) ≡ cond (is_eq o) (g e) (pos 0) +ℤ cond (other e.edge) (g e) (pos 0)
        by Less h = two (g e) (test e.edge) (other e.edge) (same i d l (apart Less h (λ f. absurd (cc))))
        by Equal h = own h
        by Greater h = two (g e) (test e.edge) (other e.edge) (same i d l (apart Greater h (λ f. absurd (cc))))

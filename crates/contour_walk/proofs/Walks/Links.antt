-- Steps along the links that a walk finds left.
use Rattle.std.proofs.Common.{◌≡◌, Bool, true, false, not, cond, ◌||◌, List, [], ◌∷◌, map, filter, Some, ◌⊎◌, inl, inr, IsPermutation, refl, sym, ap, ◌∙◌, subst}
use Rattle.std.specs.declared.cmp.Ordering.TheVariants.{Less}
use Rattle.std.specs.Ordering.{is_eq, is_lt}
use Rattle.std.proofs.lemmas.Bool.{false≢true, and_parts, and_from}
use Rattle.std.proofs.lemmas.List.Sorted.{IsPermutation-refl, IsPermutation-trans, IsPermutation-cons, IsPermutation-middle}
use Rattle.plane_base.specs.Plane.{Point, Edge, point_order, edge_order, is_before}
use Rattle.plane_base.proofs.Facts.Points.Orders.{is_equal, point_equal, point_itself, point_total, before_is_less, less_apart, greater_from_less}
use Rattle.segment_arrangement.proofs.Facts.ColumnPlaces.{same_tests}
use Rattle.contour_walk.specs.Walks.{Border, same_point, same_edge, between, touches, far_end, without, next_point, is_same}
use Rattle.contour_walk.specs.WalkLaws.{step_along}
use Rattle.contour_walk.proofs.Facts.Walks.Turns.{Has, Turns, first_is}
use Rattle.contour_walk.proofs.Facts.Walks.Rings.{Each, Pairs, Triples, each_has, Spoke, spoke, Lies, TurnsAt}

-- ---- tests

pub same_point_is : (p r : Point) → same_point p r ≡ true → p ≡ r
same_point_is p r e = point_equal p r (is_equal (point_order p r) e)

pub same_point_itself : (p r : Point) → p ≡ r → same_point p r ≡ true
same_point_itself p r e = ap (λ z. same_point p z) (sym e) ∙ ap is_eq (point_itself p)

pub same_edge_is : (s t : Edge) → same_edge s t ≡ true → s ≡ t
same_edge_is s t e =
    let h = and_parts (same_point s.a t.a) (same_point s.b t.b) e in
    λ i. record { a = same_point_is s.a t.a h.0 i; b = same_point_is s.b t.b h.1 i }

pub same_edge_itself : (s t : Edge) → s ≡ t → same_edge s t ≡ true
same_edge_itself s t e = and_from (same_point s.a t.a) (same_point s.b t.b) (same_point_itself s.a t.a (ap (λ z. z.a) e)) (same_point_itself s.b t.b (ap (λ z. z.b) e))

pub same_edge_back : (s t : Edge) → same_edge s t ≡ same_edge t s
same_edge_back s t =
    same_tests (same_edge s t) (same_edge t s) (λ e. same_edge_itself t s (sym (same_edge_is s t e))) (λ e. same_edge_itself s t (sym (same_edge_is t s e)))

before_apart : (p r : Point) → is_before p r ≡ true → p ≡ r → ⊥
before_apart p r h e = less_apart point_total p r (before_is_less p r h) e

pub between_forward : (u v : Point) → is_before u v ≡ true → between u v ≡ record { a = u; b = v }
between_forward u v h = ap (λ o. cond (is_lt o) (record { a = v; b = u }) (record { a = u; b = v })) (greater_from_less point_total u v (before_is_less u v h))

pub between_backward : (u v : Point) → is_before u v ≡ true → between v u ≡ record { a = u; b = v }
between_backward u v h = ap (λ b. cond b (record { a = u; b = v }) (record { a = v; b = u })) h

-- ---- members of a list that is kept in part

module _ {A B : Type 0} (f : A → B) (keep : A → Bool) where
  pub kept_has : (xs : List A) (x : A) → Has xs x → keep x ≡ true → Has (map f (filter keep xs)) (f x)
  kept_has [] x h e = absurd h
  kept_has (y ∷ ys) x (inl g) e = subst (λ b. Has (map f (cond b (y ∷ filter keep ys) (filter keep ys))) (f x)) (sym (ap keep g ∙ e)) (inl (ap f g))
  kept_has (y ∷ ys) x (inr k) e = by (keep y) (kept_has ys x k e)
    where
      by : (b : Bool) → Has (map f (filter keep ys)) (f x) → Has (map f (cond b (y ∷ filter keep ys) (filter keep ys))) (f x)
      by true h = inr h
      by false h = h

  pub kept_from : (xs : List A) (r : B) → Has (map f (filter keep xs)) r → (x : A) × Has xs x × (keep x ≡ true) × (f x ≡ r)
  kept_from [] r h = absurd h
  kept_from (y ∷ ys) r h = by (keep y) refl (λ k. kept_from ys r k) h
    where
      more : ((x : A) × Has ys x × (keep x ≡ true) × (f x ≡ r)) → (x : A) × Has (y ∷ ys) x × (keep x ≡ true) × (f x ≡ r)
      more (x, k, e, g) = (x, inr k, e, g)

      by : (b : Bool) → keep y ≡ b → (Has (map f (filter keep ys)) r → (x : A) × Has ys x × (keep x ≡ true) × (f x ≡ r)) → Has (map f (cond b (y ∷ filter keep ys) (filter keep ys))) r
          → (x : A) × Has (y ∷ ys) x × (keep x ≡ true) × (f x ≡ r)
      by true e behind (inl g) = (y, inl refl, e, g)
      by true e behind (inr k) = more (behind k)
      by false e behind k = more (behind k)

module _ {A : Type 0} (keep : A → Bool) where
  pub filter_has : (xs : List A) (x : A) → Has xs x → keep x ≡ true → Has (filter keep xs) x
  filter_has [] x h e = absurd h
  filter_has (y ∷ ys) x (inl g) e = subst (λ b. Has (cond b (y ∷ filter keep ys) (filter keep ys)) x) (sym (ap keep g ∙ e)) (inl g)
  filter_has (y ∷ ys) x (inr k) e = by (keep y) (filter_has ys x k e)
    where
      by : (b : Bool) → Has (filter keep ys) x → Has (cond b (y ∷ filter keep ys) (filter keep ys)) x
      by true h = inr h
      by false h = h

  pub filter_from : (xs : List A) (x : A) → Has (filter keep xs) x → Has xs x × (keep x ≡ true)
  filter_from [] x h = absurd h
  filter_from (y ∷ ys) x h = by (keep y) refl (λ k. filter_from ys x k) h
    where
      by : (b : Bool) → keep y ≡ b → (Has (filter keep ys) x → Has ys x × (keep x ≡ true)) → Has (cond b (y ∷ filter keep ys) (filter keep ys)) x → Has (y ∷ ys) x × (keep x ≡ true)
      by true e behind (inl g) = (inl g, ap keep (sym g) ∙ e)
      by true e behind (inr k) = let h = behind k in (inr h.0, h.1)
      by false e behind k = let h = behind k in (inr h.0, h.1)

  pub each_filter : (P : A → Type 0) (xs : List A) → Each P xs → Each P (filter keep xs)
  each_filter P [] h = tt
  each_filter P (x ∷ xs) h = by (keep x) (each_filter P xs h.1)
    where
      by : (b : Bool) → Each P (filter keep xs) → Each P (cond b (x ∷ filter keep xs) (filter keep xs))
      by true k = (h.0, k)
      by false k = k

  pub pairs_filter : (R : A → A → Type 0) (xs : List A) → Pairs R xs → Pairs R (filter keep xs)
  pairs_filter R [] h = tt
  pairs_filter R (x ∷ xs) h = by (keep x) (pairs_filter R xs h.1)
    where
      by : (b : Bool) → Pairs R (filter keep xs) → Pairs R (cond b (x ∷ filter keep xs) (filter keep xs))
      by true k = (each_filter (R x) xs h.0, k)
      by false k = k

-- ---- links

abbrev pub Directed : Border → Type 0
Directed l = is_before l.edge.a l.edge.b ≡ true

-- each has its lesser end first, and they rise, so no two have one edge
pub record AreLinks (links : List Border) : Type 0 where
  pub directed : Each Directed links
  pub rising : Pairs (λ l m. edge_order l.edge m.edge ≡ Less) links
  pub distinct : Pairs (λ l m. l.edge ≡ m.edge → ⊥) links

pub kept_links : (keep : Border → Bool) (links : List Border) → AreLinks links → AreLinks (filter keep links)
kept_links keep links h = record {
  directed = each_filter keep Directed links h.directed;
  rising = pairs_filter keep (λ l m. edge_order l.edge m.edge ≡ Less) links h.rising;
  distinct = pairs_filter keep (λ l m. l.edge ≡ m.edge → ⊥) links h.distinct;
}

same_link : (links : List Border) (l m : Border) → Pairs (λ l m. l.edge ≡ m.edge → ⊥) links → Has links l → Has links m → l.edge ≡ m.edge → l ≡ m
same_link [] l m h i j e = absurd i
same_link (x ∷ xs) l m h (inl f) (inl g) e = sym f ∙ g
same_link (x ∷ xs) l m h (inl f) (inr j) e = absurd (each_has (λ k. x.edge ≡ k.edge → ⊥) xs m h.0 j (ap (λ k. k.edge) f ∙ e))
same_link (x ∷ xs) l m h (inr i) (inl g) e = absurd (each_has (λ k. x.edge ≡ k.edge → ⊥) xs l h.0 i (ap (λ k. k.edge) g ∙ sym e))
same_link (x ∷ xs) l m h (inr i) (inr j) e = same_link xs l m h.1 i j e

-- the link joins the two points
abbrev pub Joins : Border → Point → Point → Type 0
Joins l v w = ((l.edge.a ≡ v) × (l.edge.b ≡ w)) ⊎ ((l.edge.b ≡ v) × (l.edge.a ≡ w))

pub joins_back : (l : Border) (v w : Point) → Joins l v w → Joins l w v
joins_back l v w (inl h) = inr (h.1, h.0)
joins_back l v w (inr h) = inl (h.1, h.0)

pub joins_far : (l : Border) (v w : Point) → Directed l → Joins l v w → (touches v l.edge ≡ true) × (far_end v l.edge ≡ w)
joins_far l v w d (inl h) =
    let e : same_point l.edge.a v ≡ true = same_point_itself l.edge.a v h.0 in
    (ap (λ b. b || same_point l.edge.b v) e, ap (λ b. cond b l.edge.b l.edge.a) e ∙ h.1)
joins_far l v w d (inr h) = (either (same_point l.edge.a v) (same_point_itself l.edge.b v h.0), by (same_point l.edge.a v) refl)
  where
    either : (b : Bool) {c : Bool} → c ≡ true → b || c ≡ true
    either true e = refl
    either false e = e

    by : (b : Bool) → same_point l.edge.a v ≡ b → cond b l.edge.b l.edge.a ≡ w
    by true e = absurd (before_apart l.edge.a l.edge.b d (same_point_is l.edge.a v e ∙ sym h.0))
    by false e = h.1

pub joins_between : (l : Border) (v w : Point) → Directed l → Joins l v w → between v w ≡ l.edge
joins_between l v w d (inl h) =
    ap (λ (s : Edge). between s.a s.b) (λ i. record { a = sym h.0 i; b = sym h.1 i }) ∙ between_forward l.edge.a l.edge.b d
joins_between l v w d (inr h) =
    ap (λ (s : Edge). between s.a s.b) (λ i. record { a = sym h.0 i; b = sym h.1 i }) ∙ between_backward l.edge.a l.edge.b d

pub joins_apart : (l : Border) (v w : Point) → Directed l → Joins l v w → v ≡ w → ⊥
joins_apart l v w d (inl h) e = before_apart l.edge.a l.edge.b d (h.0 ∙ (e ∙ sym h.1))
joins_apart l v w d (inr h) e = before_apart l.edge.a l.edge.b d (h.1 ∙ (sym e ∙ sym h.0))

-- ---- steps along links that are left

module _ (output : Bool) where
  pub step_joins : (l : Border) (v w : Point) → step_along output l ≡ record { a = v; b = w } → Joins l v w
  step_joins l v w e = by (is_same l.above output) e
    where
      by : (t : Bool) → cond t (record { a = l.edge.b; b = l.edge.a }) l.edge ≡ record { a = v; b = w } → Joins l v w
      by true f = inr (ap (λ s. s.a) f, ap (λ s. s.b) f)
      by false f = inl (ap (λ s. s.a) f, ap (λ s. s.b) f)

  -- the step leads along one of the links
  abbrev pub Along : List Border → Edge → Type 0
  Along links s = (l : Border) × Has links l × (step_along output l ≡ s)

  pub along_apart : (links : List Border) → AreLinks links → (v w : Point) → Along links (record { a = v; b = w }) → v ≡ w → ⊥
  along_apart links are v w (l, here, e) = joins_apart l v w (each_has Directed links l are.directed here) (step_joins l v w e)

  -- whether one steps out of v along a link there
  abbrev pub outward : Point → Border → Bool
  outward v l = cond (same_point l.edge.a v) (not (is_same l.above output)) (is_same l.above output)

  -- a link at v is passed to v or from it
  pub spoke_of : (links : List Border) (l : Border) (v : Point) → Has links l → touches v l.edge ≡ true → Lies (Along links) (Along links) v (far_end v l.edge) (outward v l)
  spoke_of links l v here touching = by (same_point l.edge.a v) (same_point l.edge.b v) (is_same l.above output) refl refl refl touching
    where
      by : (s t r : Bool) → same_point l.edge.a v ≡ s → same_point l.edge.b v ≡ t → is_same l.above output ≡ r → s || t ≡ true → Lies (Along links) (Along links) v (cond s l.edge.b l.edge.a) (cond s (not r) r)
      by true t true e f g h = (l, here, ap (λ r. cond r (record { a = l.edge.b; b = l.edge.a }) l.edge) g ∙ (λ i. record { a = l.edge.b; b = same_point_is l.edge.a v e i }))
      by true t false e f g h = (l, here, ap (λ r. cond r (record { a = l.edge.b; b = l.edge.a }) l.edge) g ∙ (λ i. record { a = same_point_is l.edge.a v e i; b = l.edge.b }))
      by false true true e f g h = (l, here, ap (λ r. cond r (record { a = l.edge.b; b = l.edge.a }) l.edge) g ∙ (λ i. record { a = same_point_is l.edge.b v f i; b = l.edge.a }))
      by false true false e f g h = (l, here, ap (λ r. cond r (record { a = l.edge.b; b = l.edge.a }) l.edge) g ∙ (λ i. record { a = l.edge.a; b = same_point_is l.edge.b v f i }))
      by false false r e f g h = absurd (false≢true h)

  outward_of_step : (l : Border) (v w : Point) → Directed l → step_along output l ≡ record { a = v; b = w } → outward v l ≡ true
  outward_of_step l v w d e = by (same_point l.edge.a v) (is_same l.above output) refl e
    where
      by : (s r : Bool) → same_point l.edge.a v ≡ s → cond r (record { a = l.edge.b; b = l.edge.a }) l.edge ≡ record { a = v; b = w } → cond s (not r) r ≡ true
      by true true f g = absurd (before_apart l.edge.a l.edge.b d (same_point_is l.edge.a v f ∙ sym (ap (λ (s : Edge). s.a) g)))
      by true false f g = refl
      by false true f g = refl
      by false false f g = absurd (false≢true (sym f ∙ same_point_itself l.edge.a v (ap (λ (s : Edge). s.a) g)))

  inward_of_step : (l : Border) (v w : Point) → Directed l → step_along output l ≡ record { a = w; b = v } → outward v l ≡ false
  inward_of_step l v w d e = by (same_point l.edge.a v) (is_same l.above output) refl e
    where
      by : (s r : Bool) → same_point l.edge.a v ≡ s → cond r (record { a = l.edge.b; b = l.edge.a }) l.edge ≡ record { a = w; b = v } → cond s (not r) r ≡ false
      by true true f g = refl
      by true false f g = absurd (before_apart l.edge.a l.edge.b d (same_point_is l.edge.a v f ∙ sym (ap (λ (s : Edge). s.b) g)))
      by false true f g = absurd (false≢true (sym f ∙ same_point_itself l.edge.a v (ap (λ (s : Edge). s.b) g)))
      by false false f g = refl

  -- a spoke is one of a link that joins the two points
  pub spoke_is : (links : List Border) → AreLinks links → (v far : Point) (out : Bool) → Lies (Along links) (Along links) v far out → (l : Border) × Has links l × Joins l v far × (outward v l ≡ out)
  spoke_is links are v far true (l, here, e) = (l, here, step_joins l v far e, outward_of_step l v far (each_has Directed links l are.directed here) e)
  spoke_is links are v far false (l, here, e) = (l, here, joins_back l far v (step_joins l far v e), inward_of_step l v far (each_has Directed links l are.directed here) e)

  -- From a spoke of a wheel the next link that is left is its neighbour, where those that are left are among the other spokes, and
  -- its neighbour is one of them.
  pub next_is : (c : Bool) (v : Point) (x y : Spoke) (more : List Spoke) (links : List Border) → Triples (TurnsAt c v) (x ∷ y ∷ more) → AreLinks links
      → ((far : Point) (out : Bool) → Lies (Along links) (Along links) v far out → Has (y ∷ more) (spoke far out))
      → Lies (Along links) (Along links) v y.far y.out → next_point c links v x.far ≡ Some y.far
  next_is c v x y more links order are among here = first_is c v x.far y.far (map (λ l. far_end v l.edge) (filter (λ l. touches v l.edge) links)) (listed (spoke_is links are v y.far y.out here)) others
    where
      listed : (l : Border) × Has links l × Joins l v y.far × (outward v l ≡ y.out) → Has (map (λ l. far_end v l.edge) (filter (λ l. touches v l.edge) links)) y.far
      listed (l, has, joins, e) =
          let h = joins_far l v y.far (each_has Directed links l are.directed has) joins in
          subst (Has (map (λ l. far_end v l.edge) (filter (λ l. touches v l.edge) links))) h.1 (kept_has (λ l. far_end v l.edge) (λ l. touches v l.edge) links l has h.0)

      of_spoke : (r : Point) (out : Bool) → Has (y ∷ more) (spoke r out) → (r ≡ y.far) ⊎ Turns c v x.far y.far r
      of_spoke r out (inl e) = inl (sym (ap (λ s. s.far) e))
      of_spoke r out (inr k) = inr (each_has (TurnsAt c v x y) more (spoke r out) ((order.0).0) k)

      of_link : (r : Point) → (l : Border) × Has links l × (touches v l.edge ≡ true) × (far_end v l.edge ≡ r) → (r ≡ y.far) ⊎ Turns c v x.far y.far r
      of_link r (l, has, touching, e) =
          subst (λ z. (z ≡ y.far) ⊎ Turns c v x.far y.far z) e (of_spoke (far_end v l.edge) (outward v l) (among (far_end v l.edge) (outward v l) (spoke_of links l v has touching)))

      others : (r : Point) → Has (map (λ l. far_end v l.edge) (filter (λ l. touches v l.edge) links)) r → (r ≡ y.far) ⊎ Turns c v x.far y.far r
      others r k = of_link r (kept_from (λ l. far_end v l.edge) (λ l. touches v l.edge) links r k)

  -- ---- one link goes

  module _ (links : List Border) (are : AreLinks links) (v w : Point) (here : Along links (record { a = v; b = w })) where
    edge_is : between v w ≡ (here.0).edge
    edge_is = joins_between here.0 v w (each_has Directed links here.0 are.directed here.1) (step_joins here.0 v w here.2)

    -- the others are left
    pub left_or_gone : (s : Edge) → Along links s → (record { a = v; b = w } ≡ s) ⊎ Along (without (between v w) links) s
    left_or_gone s (l, has, e) = by (same_edge l.edge (between v w)) refl
      where
        by : (b : Bool) → same_edge l.edge (between v w) ≡ b → (record { a = v; b = w } ≡ s) ⊎ Along (without (between v w) links) s
        by true f = inl (sym here.2 ∙ (ap (step_along output) (same_link links here.0 l are.distinct here.1 has (sym edge_is ∙ sym (same_edge_is l.edge (between v w) f))) ∙ e))
        by false f = inr (l, filter_has (λ l. not (same_edge l.edge (between v w))) links l has (ap not f), e)

    pub left_before : (s : Edge) → Along (without (between v w) links) s → Along links s
    left_before s (l, has, e) = (l, (filter_from (λ l. not (same_edge l.edge (between v w))) links l has).0, e)

    pub gone : Along (without (between v w) links) (record { a = v; b = w }) → ⊥
    gone (l, has, e) = false≢true (sym (ap not (same_edge_itself l.edge (between v w) (sym (joins_between l v w (each_has Directed links l are.directed (filter_from keep links l has).0) (step_joins l v w e))))) ∙ (filter_from keep links l has).1)
      where
        keep : Border → Bool
        keep l = not (same_edge l.edge (between v w))

    pub one_edge : (s : Edge) → Along links s → between s.a s.b ≡ between v w → record { a = v; b = w } ≡ s
    one_edge s (l, has, e) same =
        sym here.2
        ∙ (ap (step_along output) (same_link links here.0 l are.distinct here.1 has (sym edge_is ∙ (sym same ∙ joins_between l s.a s.b (each_has Directed links l are.directed has) (step_joins l s.a s.b e)))) ∙ e)

  -- none goes where none has the edge
  none_without : (t : Edge) (links : List Border) → Each (λ m. t ≡ m.edge → ⊥) links → without t links ≡ links
  none_without t [] h = refl
  none_without t (m ∷ ms) h = by (same_edge m.edge t) refl (none_without t ms h.1)
    where
      by : (b : Bool) → same_edge m.edge t ≡ b → without t ms ≡ ms → cond (not b) (m ∷ without t ms) (without t ms) ≡ m ∷ ms
      by true e k = absurd (h.0 (sym (same_edge_is m.edge t e)))
      by false e k = ap (λ l. m ∷ l) k

  without_one : (links : List Border) (l : Border) → Pairs (λ l m. l.edge ≡ m.edge → ⊥) links → Has links l → IsPermutation links (l ∷ without l.edge links)
  without_one [] l h k = absurd k
  without_one (x ∷ xs) l h (inl e) =
      subst (IsPermutation (x ∷ xs))
      ((λ i. e i ∷ xs) ∙ ap (λ t. l ∷ t) (sym (ap (λ b. cond (not b) (x ∷ without l.edge xs) (without l.edge xs)) (same_edge_itself x.edge l.edge (ap (λ z. z.edge) e)) ∙ none_without l.edge xs (subst (λ z. Each (λ m. z ≡ m.edge → ⊥) xs) (ap (λ z. z.edge) e) h.0))))
      (IsPermutation-refl (x ∷ xs))
  without_one (x ∷ xs) l h (inr k) = by (same_edge x.edge l.edge) refl (without_one xs l h.1 k)
    where
      by : (b : Bool) → same_edge x.edge l.edge ≡ b → IsPermutation xs (l ∷ without l.edge xs) → IsPermutation (x ∷ xs) (l ∷ cond (not b) (x ∷ without l.edge xs) (without l.edge xs))
      by true e p = absurd (each_has (λ m. x.edge ≡ m.edge → ⊥) xs l h.0 k (same_edge_is x.edge l.edge e))
      by false e p =
          IsPermutation-trans (x ∷ xs) (x ∷ l ∷ without l.edge xs) (l ∷ x ∷ without l.edge xs) (IsPermutation-cons x xs (l ∷ without l.edge xs) p)
          (IsPermutation-middle (x ∷ []) l (without l.edge xs))

  pub one_goes : (links : List Border) → AreLinks links → (v w : Point) → (here : Along links (record { a = v; b = w })) → IsPermutation links (here.0 ∷ without (between v w) links)
  one_goes links are v w here =
      subst (λ t. IsPermutation links (here.0 ∷ without t links)) (sym (edge_is links are v w here)) (without_one links here.0 are.distinct here.1)

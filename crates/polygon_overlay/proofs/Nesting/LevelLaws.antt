-- Along a contour, in a map of contours whose passes don't cross, the winding on the right hand is the same on all steps.
use Rattle.std.proofs.Common.{◌≡◌, ◌⊎◌, inl, inr, Bool, true, false, cond, not, List, [], ◌∷◌, flat_map, Contains, ℤ, pos, negsuc, ◌+ℤ◌, refl, sym, ap, ◌∙◌, subst, arith}
use Rattle.std.specs.declared.cmp.Ordering.{Ordering}
use Rattle.std.specs.declared.cmp.Ordering.TheVariants.{Less, Equal, Greater}
use Rattle.std.specs.Ordering.{is_lt}
use Rattle.std.proofs.lemmas.Bool.{false≢true}
use Rattle.plane_base.specs.Plane.{Point, Edge, is_before, point_order}
use Rattle.plane_base.specs.Counts.{Count, Entry, boolean}
use Rattle.plane_base.proofs.Facts.Points.Orders.{point_total, point_equal, less_from_greater}
use Rattle.segment_arrangement.specs.EdgeSides.{lower_side}
use Rattle.segment_arrangement.specs.Rings.{right_side, left_side, PointsHaveRings, NodeRing}
use Rattle.segment_arrangement.specs.SideLaws.{IsArrangement}
use Rattle.segment_arrangement.proofs.Facts.ConstantSides.{directed_entry}
use Rattle.contour_walk.specs.Walks.{same_point}
use Rattle.contour_walk.specs.WalkLaws.{steps_to, contour_steps}
use Rattle.contour_walk.proofs.Binding.Walks.{edge_of}
use Rattle.contour_walk.proofs.Facts.Binding.Lists.{flat_holds, flat_tells}
use Rattle.contour_walk.proofs.Facts.Binding.Orders.{not_before_itself}
use Rattle.contour_walk.proofs.Facts.Walks.Rings.{Each, each_has, each_from_has}
use Rattle.contour_walk.proofs.Facts.Walks.Turns.{Has}
use Rattle.contour_walk.proofs.Straight.Laws.{steps_on}
use Rattle.contour_walk.proofs.Walks.Links.{same_point_is, same_point_itself, between_forward, between_backward, joins_far}
use Rattle.contour_walk.proofs.Walks.Members.{contains_from_has, has_from_contains}
use Rattle.polygon_overlay.specs.PassLaws.{Pass, passes_from, passes}
use Rattle.polygon_overlay.proofs.Nesting.CountLaws.{way}
use Rattle.polygon_overlay.proofs.Nesting.CrossLaws.{AreAside}
use Rattle.polygon_overlay.proofs.Nesting.HandLaws.{IsLinear, IsSpokeTo, hand_stays}
use Rattle.polygon_overlay.proofs.Nesting.StepLaws.{pass_steps}

abbrev step : Point → Point → Edge
step u w = record { a = u; b = w }

-- an edge runs from u to w, upward or downward
data Runs (u w : Point) (t : Edge) : Type 0 where
  up : is_before u w ≡ true → t.a ≡ u → t.b ≡ w → Runs u w t
  down : is_before u w ≡ false → t.a ≡ w → t.b ≡ u → Runs u w t

runs : (u w : Point) (t : Edge) → is_before t.a t.b ≡ true → t ≡ edge_of (step u w) → Runs u w t
runs u w t directed same = by (point_order u w) refl
  where
    by : (o : Ordering) → point_order u w ≡ o → Runs u w t
    by Less h =
        let is : t ≡ step u w = same ∙ between_forward u w (ap is_lt h) in
        up (ap is_lt h) (ap (λ (s : Edge). s.a) is) (ap (λ (s : Edge). s.b) is)
    by Equal h = absurd (steps_on u w (subst (λ (s : Edge). is_before s.a s.b ≡ true) same directed) (point_equal u w h))
    by Greater h =
        let is : t ≡ step w u = same ∙ between_backward w u (ap is_lt (less_from_greater point_total u w h)) in
        down (ap is_lt h) (ap (λ (s : Edge). s.a) is) (ap (λ (s : Edge). s.b) is)

not_both_ends : (t : Edge) (v : Point) → is_before t.a t.b ≡ true → t.a ≡ v → t.b ≡ v → ⊥
not_both_ends t v directed first second = false≢true (sym (not_before_itself t.a) ∙ (ap (is_before t.a) (first ∙ sym second) ∙ directed))

begins : (t : Edge) (v : Point) → is_before t.a t.b ≡ true → t.b ≡ v → same_point t.a v ≡ false
begins t v directed second = by (same_point t.a v) refl
  where
    by : (b : Bool) → same_point t.a v ≡ b → b ≡ false
    by true e = absurd (not_both_ends t v directed (same_point_is t.a v e) second)
    by false e = refl

starts_out : (v w : Point) (t : Edge) → is_before t.a t.b ≡ true → Runs v w t → same_point t.a v ≡ is_before v w
starts_out v w t directed (up h first second) = same_point_itself t.a v first ∙ sym h
starts_out v w t directed (down h first second) = begins t v directed second ∙ sym h

starts_in : (u v : Point) (t : Edge) → is_before t.a t.b ≡ true → Runs u v t → same_point t.a v ≡ not (is_before u v)
starts_in u v t directed (up h first second) = begins t v directed second ∙ sym (ap not h)
starts_in u v t directed (down h first second) = same_point_itself t.a v first ∙ sym (ap not h)

module _ (es : List (Entry Count)) where
  -- what lies on the right hand of a step
  abbrev pub right_hand : Edge → ℤ
  right_hand s = cond (is_before s.a s.b) (lower_side es (edge_of s)).subject ((lower_side es (edge_of s)).subject +ℤ negsuc 0)

  -- the map has an entry for the step
  abbrev pub Stands : Edge → Type 0
  Stands s = (e : Entry Count) × Contains es e × (e.edge ≡ edge_of s) × (e.count.subject ≡ way s)

  right_out : (v w : Point) (f : Entry Count) → is_before f.edge.a f.edge.b ≡ true → f.edge ≡ edge_of (step v w) → f.count.subject ≡ way (step v w)
      → (right_side es v f).subject ≡ right_hand (step v w)
  right_out v w f directed same count =
      by (same_point f.edge.a v) (is_before v w) (lower_side es f.edge) f.count (starts_out v w f.edge directed (runs v w f.edge directed same)) count
      ∙ ap (λ t. cond (is_before v w) (lower_side es t).subject ((lower_side es t).subject +ℤ negsuc 0)) same
    where
      by : (s b : Bool) (l n : Count) → s ≡ b → n.subject ≡ cond b (pos 1) (negsuc 0) → (cond s l (boolean.join l n)).subject ≡ cond b l.subject (l.subject +ℤ negsuc 0)
      by true true l n h k = refl
      by true false l n h k = absurd (false≢true (sym h))
      by false true l n h k = absurd (false≢true h)
      by false false l n h k = ap (λ z. l.subject +ℤ z) k

  left_in : (u v : Point) (e : Entry Count) → is_before e.edge.a e.edge.b ≡ true → e.edge ≡ edge_of (step u v) → e.count.subject ≡ way (step u v)
      → (left_side es v e).subject ≡ right_hand (step u v)
  left_in u v e directed same count =
      by (same_point e.edge.a v) (is_before u v) (lower_side es e.edge) e.count (starts_in u v e.edge directed (runs u v e.edge directed same)) count
      ∙ ap (λ t. cond (is_before u v) (lower_side es t).subject ((lower_side es t).subject +ℤ negsuc 0)) same
    where
      by : (s b : Bool) (l n : Count) → s ≡ not b → n.subject ≡ cond b (pos 1) (negsuc 0) → (cond s (boolean.join l n) l).subject ≡ cond b l.subject (l.subject +ℤ negsuc 0)
      by true true l n h k = absurd (false≢true (sym h))
      by true false l n h k = ap (λ z. l.subject +ℤ z) k
      by false true l n h k = refl
      by false false l n h k = absurd (false≢true h)

  -- ---- from step to step

  abbrev pub Keeps : Pass → Type 0
  Keeps one = right_hand (step one.from one.at) ≡ right_hand (step one.at one.to)

  path_keeps : (first second from u : Point) (rest : List Point) → Each Keeps (passes_from first second from (u ∷ rest))
      → Each (λ s. right_hand s ≡ right_hand (step from u)) (steps_to first (u ∷ rest))
  path_keeps first second from u [] h = (sym h.0, tt)
  path_keeps first second from u (w ∷ rest) h = (sym h.0, onward (steps_to first (w ∷ rest)) (path_keeps first second u w rest h.1))
    where
      onward : (ss : List Edge) → Each (λ s. right_hand s ≡ right_hand (step u w)) ss → Each (λ s. right_hand s ≡ right_hand (step from u)) ss
      onward [] k = tt
      onward (s ∷ ss) k = (k.0 ∙ sym h.0, onward ss k.1)

  contour_keeps : (p : Point) (rest : List Point) → Each Keeps (passes (p ∷ rest)) → (level : ℤ) × Each (λ s. right_hand s ≡ level) (contour_steps (p ∷ rest))
  contour_keeps p [] h = (right_hand (step p p), (refl, tt))
  contour_keeps p (r ∷ rest) h = (right_hand (step p r), (refl, path_keeps p r p r rest h))

  -- all steps of a contour have one level
  pub one_level : (d : List Point) → Each Keeps (passes d) → (s t : Edge) → Contains (contour_steps d) s → Contains (contour_steps d) t → right_hand s ≡ right_hand t
  one_level [] h s t here there = absurd (omega (arith, here.1))
  one_level (p ∷ rest) h s t here there =
      let k = contour_keeps p rest h in
      each_has (λ s. right_hand s ≡ k.0) (contour_steps (p ∷ rest)) s k.1 (has_from_contains (contour_steps (p ∷ rest)) s here)
      ∙ sym (each_has (λ s. right_hand s ≡ k.0) (contour_steps (p ∷ rest)) t k.1 (has_from_contains (contour_steps (p ∷ rest)) t there))

  module _ (arranged : IsArrangement es) where
    spoke : (v far : Point) (e : Entry Count) → Contains es e → ((e.edge.a ≡ v) × (e.edge.b ≡ far)) ⊎ ((e.edge.b ≡ v) × (e.edge.a ≡ far)) → IsSpokeTo es v far e
    spoke v far e here at = record {
      here = has_from_contains es e here;
      at = by at;
      to = (joins_far (record { edge = e.edge; above = true }) v far (directed_entry es arranged e here) at).1;
    }
      where
        by : ((e.edge.a ≡ v) × (e.edge.b ≡ far)) ⊎ ((e.edge.b ≡ v) × (e.edge.a ≡ far)) → (e.edge.a ≡ v) ⊎ (e.edge.b ≡ v)
        by (inl h) = inl h.0
        by (inr h) = inr h.0

    directed_here : (e : Entry Count) → Contains es e → is_before e.edge.a e.edge.b ≡ true
    directed_here e here = directed_entry es arranged e here

    spoke_out : (v w : Point) (e : Entry Count) → Contains es e → e.edge ≡ edge_of (step v w) → IsSpokeTo es v w e
    spoke_out v w e here same = by (runs v w e.edge (directed_here e here) same)
      where
        by : Runs v w e.edge → IsSpokeTo es v w e
        by (up h first second) = spoke v w e here (inl (first, second))
        by (down h first second) = spoke v w e here (inr (second, first))

    spoke_in : (u v : Point) (e : Entry Count) → Contains es e → e.edge ≡ edge_of (step u v) → IsSpokeTo es v u e
    spoke_in u v e here same = by (runs u v e.edge (directed_here e here) same)
      where
        by : Runs u v e.edge → IsSpokeTo es v u e
        by (up h first second) = spoke v u e here (inr (second, first))
        by (down h first second) = spoke v u e here (inl (first, second))

    -- a pass doesn't turn back along its edge
    differ : (u v w : Point) (e f : Entry Count) → Contains es e → e.edge ≡ edge_of (step u v) → f.edge ≡ edge_of (step v w) → e.count.subject ≡ way (step u v)
        → f.count.subject ≡ way (step v w) → e ≡ f → ⊥
    differ u v w e f here one other count counted same =
        by (runs u v e.edge directed one) (runs v w e.edge directed (ap (λ (z : Entry Count). z.edge) same ∙ other)) (sym count ∙ (ap (λ (z : Entry Count). z.count.subject) same ∙ counted))
      where
        directed : is_before e.edge.a e.edge.b ≡ true
        directed = directed_here e here

        against : (b c : Bool) → b ≡ true → c ≡ false → cond b (pos 1) (negsuc 0) ≡ cond c (pos 1) (negsuc 0) → ⊥
        against true true h k m = absurd (false≢true (sym k))
        against true false h k m = absurd (cc)
        against false c h k m = absurd (false≢true h)

        by : Runs u v e.edge → Runs v w e.edge → way (step u v) ≡ way (step v w) → ⊥
        by (up h first second) (up k third fourth) ways = not_both_ends e.edge v directed third second
        by (up h first second) (down k third fourth) ways = against (is_before u v) (is_before v w) h k ways
        by (down h first second) (up k third fourth) ways = against (is_before v w) (is_before u v) k h (sym ways)
        by (down h first second) (down k third fourth) ways = not_both_ends e.edge v directed first fourth

    module _ (rings : PointsHaveRings) (node : NodeRing) (ds : List (List Point)) (linear : IsLinear es ds) (stands : (s : Edge) → Contains (flat_map contour_steps ds) s → Stands s)
        (aside : (one other : Pass) → Contains (flat_map passes ds) one → Contains (flat_map passes ds) other → other.at ≡ one.at → AreAside one.at one.from one.to other.from other.to) where
      steps_stand : (one : Pass) → Contains (flat_map passes ds) one → Stands (step one.from one.at) × Stands (step one.at one.to)
      steps_stand one here =
          let d = flat_tells passes ds one here in
          let k = each_has _ (passes d.0) one (pass_steps d.0) (has_from_contains (passes d.0) one d.2) in (
            stands (step one.from one.at) (flat_holds contour_steps ds d.0 (step one.from one.at) d.1 (contains_from_has (contour_steps d.0) (step one.from one.at) k.0)),
            stands (step one.at one.to) (flat_holds contour_steps ds d.0 (step one.at one.to) d.1 (contains_from_has (contour_steps d.0) (step one.at one.to) k.1)),
          )

      keeps : (one : Pass) → Contains (flat_map passes ds) one → Keeps one
      keeps one here = by (steps_stand one here)
        where
          beside : (other : Pass) → Has (flat_map passes ds) other → other.at ≡ one.at
              → (x : Entry Count) × (y : Entry Count) × IsSpokeTo es one.at other.from x × IsSpokeTo es one.at other.to y × AreAside one.at one.from one.to other.from other.to
          beside other there same =
              let among = contains_from_has (flat_map passes ds) other there in
              let k = steps_stand other among in (
                k.0.0,
                k.1.0,
                subst (λ v. IsSpokeTo es v other.from k.0.0) same (spoke_in other.from other.at k.0.0 k.0.1 k.0.2),
                subst (λ v. IsSpokeTo es v other.to k.1.0) same (spoke_out other.at other.to k.1.0 k.1.1 k.1.2),
                aside one other here among same,
              )

          by : Stands (step one.from one.at) × Stands (step one.at one.to) → Keeps one
          by ((e, he, se, ce), (f, hf, sf, cf)) =
              sym (left_in one.from one.at e (directed_here e he) se ce)
              ∙ (hand_stays rings node es arranged ds linear one.at one.from one.to e f (spoke_in one.from one.at e he se) (spoke_out one.at one.to f hf sf)
              (differ one.from one.at one.to e f he se sf ce cf)
              (each_from_has _ (flat_map passes ds) beside)
              ∙ right_out one.at one.to f (directed_here f hf) sf cf)

      -- so each contour has one level
      pub level_along : (d : List Point) → Contains ds d → (s t : Edge) → Contains (contour_steps d) s → Contains (contour_steps d) t → right_hand s ≡ right_hand t
      level_along d here s t =
          one_level d (each_from_has Keeps (passes d) (λ one k. keeps one (flat_holds passes ds d one here (contains_from_has (passes d) one k)))) s t

-- The lowest of the edges at a point, and the topmost of the links that start there.
use Rattle.std.proofs.Common.{◌≡◌, Bool, true, false, cond, List, [], ◌∷◌, Option, Some, None, inl, inr, ℤ, pos, neg_ℤ, ◌≤ℤ◌, ◌<ℤ◌, int_lt, refl, sym, ap, ◌∙◌, subst, arith}
use Rattle.std.proofs.lemmas.Bool.{false≢true}
use Rattle.std.proofs.lemmas.Int.{ints}
use Rattle.plane_base.specs.Plane.{Point, Edge, turn}
use Rattle.plane_base.proofs.Facts.Points.Turns.{turn_swap_last, turn_end_twice}
use Rattle.segment_arrangement.proofs.Facts.ColumnPlaces.{lt_tells}
use Rattle.contour_walk.specs.Walks.{Border, same_point, upper, top_link}
use Rattle.contour_walk.specs.Binding.{lower, lowest_from}
use Rattle.contour_walk.proofs.Facts.Walks.Turns.{Has}
use Rattle.contour_walk.proofs.Facts.Walks.Rings.{Each, each_has, each_from_has, each_weaker}
use Rattle.contour_walk.proofs.Walks.Links.{same_point_is, same_point_itself}
use Rattle.contour_walk.proofs.Facts.Walks.Fans.{After, not_right_on}
use Rattle.contour_walk.proofs.Walks.Paths.{top_of_links, top_starts}

-- ---- numbers

turned_sign : (y z : ℤ) → y ≡ neg_ℤ z → z <ℤ pos 0 → pos 0 <ℤ y
turned_sign y z e l = omega (arith, ints)

weak : (z : ℤ) → pos 0 <ℤ z → pos 0 ≤ℤ z
weak z l = omega (arith, ints)

at_least : (z : ℤ) → int_lt z (pos 0) ≡ false → pos 0 ≤ℤ z
at_least z e = omega (arith, ints)

at_most : (z : ℤ) → int_lt (pos 0) z ≡ false → z ≤ℤ pos 0
at_most z e = omega (arith, ints)

no_less : (z : ℤ) → z ≡ pos 0 → pos 0 ≤ℤ z
no_less z e = omega (arith, ints)

-- ---- the lowest edge, and the topmost link

module _ (v : Point) where
  abbrev pub AllAfter : List Edge → Type 0
  AllAfter edges = Each (λ s. s.a ≡ v → After v s.b) edges

  -- e starts at v, and none that does is to its right
  pub record IsLowest (edges : List Edge) (e : Edge) : Type 0 where
    pub here : Has edges e
    pub starts : e.a ≡ v
    pub lowest : Each (λ s. s.a ≡ v → pos 0 ≤ℤ turn v e.b s.b) edges

  none_starts : (edges : List Edge) → lowest_from v edges ≡ None → Each (λ s. s.a ≡ v → ⊥) edges
  none_starts [] e = tt
  none_starts (s ∷ ss) e = by (same_point s.a v) refl e (λ f. none_starts ss f)
    where
      never : {t : Edge} → Some t ≡ None → ⊥
      never f = absurd (cc)

      by : (b : Bool) → same_point s.a v ≡ b → cond b (Some (lower s (lowest_from v ss))) (lowest_from v ss) ≡ None → (lowest_from v ss ≡ None → Each (λ s. s.a ≡ v → ⊥) ss) → (s.a ≡ v → ⊥) × Each (λ s. s.a ≡ v → ⊥) ss
      by true f g behind = absurd (never g)
      by false f g behind = ((λ h. false≢true (sym f ∙ same_point_itself s.a v h)), behind g)

  own : (s : Edge) → pos 0 ≤ℤ turn v s.b s.b
  own s = no_less (turn v s.b s.b) (turn_end_twice v s.b)

  some_edge : {s t : Edge} → Some s ≡ Some t → s ≡ t
  some_edge e = cc

  pub lowest_found : (edges : List Edge) → AllAfter edges → (e : Edge) → lowest_from v edges ≡ Some e → IsLowest edges e
  lowest_found [] after e f = absurd (cc)
  lowest_found (s ∷ ss) after e f = by (same_point s.a v) refl (lowest_from v ss) refl (λ t g. lowest_found ss after.1 t g) f
    where
      moved : (t : Edge) → s.a ≡ v → turn s.a s.b t.b ≡ turn v s.b t.b
      moved t at = ap (λ z. turn z s.b t.b) at

      less_moved : (y z : ℤ) → y ≡ z → y <ℤ pos 0 → z <ℤ pos 0
      less_moved y z g l = omega (arith, ints)

      alone : (at : s.a ≡ v) → Each (λ s. s.a ≡ v → ⊥) ss → IsLowest (s ∷ ss) s
      alone at none = record {
        here = inl refl;
        starts = at;
        lowest = ((λ k. own s), each_weaker (λ t. t.a ≡ v → ⊥) (λ t. t.a ≡ v → pos 0 ≤ℤ turn v s.b t.b) (λ t never k. absurd (never k)) ss none);
      }

      of_two : (at : s.a ≡ v) (t : Edge) → IsLowest ss t → (b : Bool) → int_lt (turn s.a s.b t.b) (pos 0) ≡ b → cond b t s ≡ e → IsLowest (s ∷ ss) e
      of_two at t k true g h = subst (IsLowest (s ∷ ss)) h (record {
        here = inr k.here;
        starts = k.starts;
        lowest = (
          (λ m. weak (turn v t.b s.b) (turned_sign (turn v t.b s.b) (turn v s.b t.b) (turn_swap_last v t.b s.b) (less_moved (turn s.a s.b t.b) (turn v s.b t.b) (moved t at) (lt_tells (turn s.a s.b t.b) (pos 0) g)))),
          k.lowest,
        );
      })
      of_two at t k false g h = subst (IsLowest (s ∷ ss)) h (record {
        here = inl refl;
        starts = at;
        lowest = ((λ m. own s), each_from_has (λ u. u.a ≡ v → pos 0 ≤ℤ turn v s.b u.b) ss (λ u here start. through u here start));
      })
        where
          through : (u : Edge) → Has ss u → u.a ≡ v → pos 0 ≤ℤ turn v s.b u.b
          through u here start =
              not_right_on v s.b t.b u.b (after.0 at) (each_has (λ w. w.a ≡ v → After v w.b) ss t after.1 k.here k.starts) (each_has (λ w. w.a ≡ v → After v w.b) ss u after.1 here start)
              (subst (λ z. pos 0 ≤ℤ z) (moved t at) (at_least (turn s.a s.b t.b) g)) (each_has (λ w. w.a ≡ v → pos 0 ≤ℤ turn v t.b w.b) ss u k.lowest here start)

      by : (b : Bool) → same_point s.a v ≡ b → (o : Option Edge) → lowest_from v ss ≡ o → ((t : Edge) → lowest_from v ss ≡ Some t → IsLowest ss t) → cond b (Some (lower s o)) o ≡ Some e → IsLowest (s ∷ ss) e
      by true g None h behind k = subst (IsLowest (s ∷ ss)) (some_edge k) (alone (same_point_is s.a v g) (none_starts ss h))
      by true g (Some t) h behind k = of_two (same_point_is s.a v g) t (behind t h) (int_lt (turn s.a s.b t.b) (pos 0)) refl (some_edge k)
      by false g o h behind k =
          let l = behind e (h ∙ k) in
          record { here = inr l.here; starts = l.starts; lowest = ((λ m. absurd (false≢true (sym g ∙ same_point_itself s.a v m))), l.lowest) }

  pub some_lowest : (edges : List Edge) (s : Edge) → Has edges s → s.a ≡ v → (e : Edge) × (lowest_from v edges ≡ Some e)
  some_lowest edges s here start = by (lowest_from v edges) refl
    where
      by : (o : Option Edge) → lowest_from v edges ≡ o → (e : Edge) × (lowest_from v edges ≡ Some e)
      by None f = absurd (each_has (λ s. s.a ≡ v → ⊥) edges s (none_starts edges f) here start)
      by (Some e) f = (e, f)

  -- no link that starts at v is to the left of the topmost one
  pub top_found : (links : List Border) → Each (λ l. l.edge.a ≡ v → After v l.edge.b) links → (m : Border) → top_link v links ≡ Some m → Each (λ l. l.edge.a ≡ v → pos 0 ≤ℤ turn v l.edge.b m.edge.b) links
  top_found [] after m f = tt
  top_found (l ∷ ls) after m f = by (same_point l.edge.a v) refl (top_link v ls) refl (λ k g. top_found ls after.1 k g) f
    where
      some : {j k : Border} → Some j ≡ Some k → j ≡ k
      some e = cc

      none : (ls : List Border) → top_link v ls ≡ None → Each (λ l. l.edge.a ≡ v → ⊥) ls
      none [] e = tt
      none (j ∷ js) e = every (same_point j.edge.a v) refl e (λ g. none js g)
        where
          never : {k : Border} → Some k ≡ None → ⊥
          never g = absurd (cc)

          every : (b : Bool) → same_point j.edge.a v ≡ b → cond b (Some (upper j (top_link v js))) (top_link v js) ≡ None → (top_link v js ≡ None → Each (λ l. l.edge.a ≡ v → ⊥) js) → (j.edge.a ≡ v → ⊥) × Each (λ l. l.edge.a ≡ v → ⊥) js
          every true g h behind = absurd (never h)
          every false g h behind = ((λ k. false≢true (sym g ∙ same_point_itself j.edge.a v k)), behind h)

      moved : (k : Border) → l.edge.a ≡ v → turn l.edge.a l.edge.b k.edge.b ≡ turn v l.edge.b k.edge.b
      moved k at = ap (λ z. turn z l.edge.b k.edge.b) at

      above : (y z w : ℤ) → y ≡ z → z ≡ neg_ℤ w → y ≤ℤ pos 0 → pos 0 ≤ℤ w
      above y z w e g l = omega (arith, ints)

      over : (y z : ℤ) → y ≡ z → pos 0 <ℤ y → pos 0 ≤ℤ z
      over y z e l = omega (arith, ints)

      of_two : (at : l.edge.a ≡ v) (k : Border) → top_link v ls ≡ Some k → Each (λ j. j.edge.a ≡ v → pos 0 ≤ℤ turn v j.edge.b k.edge.b) ls → (b : Bool) → int_lt (pos 0) (turn l.edge.a l.edge.b k.edge.b) ≡ b → cond b k l ≡ m
          → Each (λ j. j.edge.a ≡ v → pos 0 ≤ℤ turn v j.edge.b m.edge.b) (l ∷ ls)
      of_two at k found tops true g h = subst (λ n. Each (λ j. j.edge.a ≡ v → pos 0 ≤ℤ turn v j.edge.b n.edge.b) (l ∷ ls)) h
          ((λ q. over (turn l.edge.a l.edge.b k.edge.b) (turn v l.edge.b k.edge.b) (moved k at) (lt_tells (pos 0) (turn l.edge.a l.edge.b k.edge.b) g)), tops)
      of_two at k found tops false g h = subst (λ n. Each (λ j. j.edge.a ≡ v → pos 0 ≤ℤ turn v j.edge.b n.edge.b) (l ∷ ls)) h
          ((λ q. own l.edge), each_from_has (λ j. j.edge.a ≡ v → pos 0 ≤ℤ turn v j.edge.b l.edge.b) ls (λ j here start. through j here start))
        where
          through : (j : Border) → Has ls j → j.edge.a ≡ v → pos 0 ≤ℤ turn v j.edge.b l.edge.b
          through j here start =
              not_right_on v j.edge.b k.edge.b l.edge.b (each_has (λ n. n.edge.a ≡ v → After v n.edge.b) ls j after.1 here start)
              (each_has (λ n. n.edge.a ≡ v → After v n.edge.b) ls k after.1 (top_of_links v ls k found) (top_starts v ls k found)) (after.0 at)
              (each_has (λ n. n.edge.a ≡ v → pos 0 ≤ℤ turn v n.edge.b k.edge.b) ls j tops here start)
              (above (turn l.edge.a l.edge.b k.edge.b) (turn v l.edge.b k.edge.b) (turn v k.edge.b l.edge.b) (moved k at) (turn_swap_last v l.edge.b k.edge.b) (at_most (turn l.edge.a l.edge.b k.edge.b) g))

      by : (b : Bool) → same_point l.edge.a v ≡ b → (o : Option Border) → top_link v ls ≡ o → ((k : Border) → top_link v ls ≡ Some k → Each (λ j. j.edge.a ≡ v → pos 0 ≤ℤ turn v j.edge.b k.edge.b) ls) → cond b (Some (upper l o)) o ≡ Some m
          → Each (λ j. j.edge.a ≡ v → pos 0 ≤ℤ turn v j.edge.b m.edge.b) (l ∷ ls)
      by true g None h behind k = subst (λ n. Each (λ j. j.edge.a ≡ v → pos 0 ≤ℤ turn v j.edge.b n.edge.b) (l ∷ ls)) (some k)
          ((λ q. own l.edge), each_weaker (λ j. j.edge.a ≡ v → ⊥) (λ j. j.edge.a ≡ v → pos 0 ≤ℤ turn v j.edge.b l.edge.b) (λ j never q. absurd (never q)) ls (none ls h))
      by true g (Some n) h behind k = of_two (same_point_is l.edge.a v g) n h (behind n h) (int_lt (pos 0) (turn l.edge.a l.edge.b n.edge.b)) refl (some k)
      by false g o h behind k = ((λ q. absurd (false≢true (sym g ∙ same_point_itself l.edge.a v q))), behind m (h ∙ k))

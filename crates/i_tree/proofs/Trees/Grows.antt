-- What a context keeps as it grows.
use Rattle.std.proofs.Common.{◌≡◌, ◌≤◌, ◌++◌, Bool, true, false, refl, ap, ◌∙◌, arith, subst, append_assoc, append-nil}
use Rattle.i_tree.specs.Tree.Shape.{Context, top, under, join, names, names_before, names_after}
use Rattle.i_tree.specs.Tree.Pool.{parent_of, IsOnSide}
use Rattle.i_tree.specs.Tree.Insertion.{depth}
use Rattle.i_tree.specs.Tree.Removal.{append, Grown, same, keep, more, trans}

pub Grown-depth : (c d : Context) → Grown c d → depth c ≤ depth d
Grown-depth c d (same e) = omega arith
Grown-depth c d (keep a b s i r q t u g e) = let h = Grown-depth a b g in omega arith
Grown-depth c d (more a s i j r q p t u v e) = omega arith
Grown-depth c d (trans a b e g h) = let x = Grown-depth a b g in let y = Grown-depth b e h in omega arith

pub Grown-parent : (c d : Context) → Grown c d → parent_of d ≡ parent_of c
Grown-parent c d (same e) = refl
Grown-parent c d (keep a b s i r q t u g e) = refl
Grown-parent c d (more a s i j r q p t u v e) = refl
Grown-parent c d (trans a b e g h) = Grown-parent b e h ∙ Grown-parent a b g

pub Grown-side : (c d : Context) (side : Bool) → Grown c d → IsOnSide side c → IsOnSide side d
Grown-side c d side (same e) f = f
Grown-side c d side (keep a b s i r q t u g e) f = f
Grown-side c d side (more a s i j r q p t u v e) f = f
Grown-side c d side (trans a b e g h) f = Grown-side b e side h (Grown-side a b side g f)

pub Grown-before : (c d : Context) → Grown c d → names_before d ≡ names_before c
unfolding names_before names join
Grown-before c d (same e) = refl
Grown-before c d (keep a b true i r q t u g e) = Grown-before a b g
Grown-before c d (keep a b false i r q t u g e) = rw (e, Grown-before a b g) refl
Grown-before c d (more a true i j r q p t u v e) = refl
Grown-before c d (more a false i j r q p t u v e) = rw (← e) (simp append_assoc)
Grown-before c d (trans a b e g h) = Grown-before b e h ∙ Grown-before a b g

pub Grown-after : (c d : Context) → Grown c d → names_after d ≡ names_after c
unfolding names_after names join
Grown-after c d (same e) = refl
Grown-after c d (keep a b true i r q t u g e) = rw (e, Grown-after a b g) refl
Grown-after c d (keep a b false i r q t u g e) = Grown-after a b g
Grown-after c d (more a true i j r q p t u v e) = rw (← e) (simp append_assoc)
Grown-after c d (more a false i j r q p t u v e) = refl
Grown-after c d (trans a b e g h) = Grown-after b e h ∙ Grown-after a b g

-- what grew round a subtree of a subtree grew in the one or round the other
pub record Split (inner outer d : Context) : Type 0 where
  pub within : Context
  pub around : Context
  pub is : d ≡ append within around
  pub inner_grows : Grown inner within
  pub outer_grows : Grown outer around

pub Grown-split : (c d inner outer : Context) → Grown c d → c ≡ append inner outer → Split inner outer d
Grown-split c d top outer g e = record { within = top; around = d; is = refl; inner_grows = same top; outer_grows = subst (λ x. Grown x d) e g }
Grown-split c d (under a s i r u) outer (same _) e = record { within = under a s i r u; around = outer; is = e; inner_grows = same (under a s i r u); outer_grows = same outer }
Grown-split c d (under a s i r u) outer (keep a' b' s' i' r' q t u' g n) e =
    let up : a' ≡ append a outer = cc in
    let side : s' ≡ s = cc in
    let name : i' ≡ i = cc in
    let sib : t ≡ u = cc in
    let h = Grown-split a' b' a outer g up in
    let b_is : b' ≡ append h.within h.around = h.is in
    record {
      within = under h.within s i q u';
      around = h.around;
      is = cc;
      inner_grows = keep a h.within s i r q u u' h.inner_grows (n ∙ ap names sib);
      outer_grows = h.outer_grows;
    }
Grown-split c d (under a s i r u) outer (more a' s' i' j r' q p t u' v n) e =
    let up : a' ≡ append a outer = cc in
    let side : s' ≡ s = cc in
    let name : i' ≡ i = cc in
    let sib : t ≡ u = cc in
    record {
      within = under (under a s j q v) s i p u';
      around = outer;
      is = cc;
      inner_grows = more a s i j r q p u u' v (subst (λ x. names (join x j q u' v) ≡ names u) side (n ∙ ap names sib));
      outer_grows = same outer;
    }
Grown-split c d (under a s i r u) outer (trans _ m _ g h) e =
    let x = Grown-split c m (under a s i r u) outer g e in
    let y = Grown-split m d x.within x.around h x.is in
    record {
      within = y.within;
      around = y.around;
      is = y.is;
      inner_grows = trans (under a s i r u) x.within y.within x.inner_grows y.inner_grows;
      outer_grows = trans outer x.around y.around x.outer_grows y.outer_grows;
    }

pub names_before-append : (a c : Context) → names_before (append a c) ≡ names_before c ++ names_before a
unfolding names_before
names_before-append top c = simp append-nil
names_before-append (under a true i r u) c = names_before-append a c
names_before-append (under a false i r u) c = rw (names_before-append a c) (simp append_assoc)

pub names_after-append : (a c : Context) → names_after (append a c) ≡ names_after a ++ names_after c
unfolding names_after
names_after-append top c = refl
names_after-append (under a true i r u) c = rw (names_after-append a c) (simp append_assoc)
names_after-append (under a false i r u) c = names_after-append a c

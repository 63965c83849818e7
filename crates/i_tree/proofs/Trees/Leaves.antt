-- Places for new nodes, and a new node in a pool's tree.
use Rattle.std.proofs.Common.{◌≡◌, ◌≢◌, ℕ, ◌+◌, ◌≤◌, ◌<◌, List, [], ◌∷◌, ◌++◌, length-append, Bool, true, refl, sym, ap, ◌∙◌, arith, subst, inl, inr}
use Rattle.std.proofs.lemmas.Bool.{cases_lt}
use Rattle.std.proofs.lemmas.List.{get_or_append_left}
use Rattle.i_tree.specs.declared.tree.pool.TheConstants.{NO_NODE}
use Rattle.i_tree.specs.declared.tree.pool.Links.{Links}
use Rattle.i_tree.specs.Tree.Shape.{Tree, leaf, Context, join, plug, one, count, count_around}
use Rattle.i_tree.specs.Tree.Pool.{Nodes, places, links_at, wired, root_of, parent_of, IsOnSide, IsNode, AreSpare, count_in, Stands, StandsBeside, IsPlaceOfNew, reused, one_more, TakesPlace, Grows, ChangesOnly, IsPut, Hangs, IsHung, IsAttached}
use Rattle.i_tree.proofs.Trees.Shapes.{one-same, one-below, one-le, count-leaf, size-leaf, count-join, count-plug, size-join, size-plug}
use Rattle.i_tree.proofs.Trees.Pools.{root_of-join, root_of-leaf, IsAt-leaf, IsAt-join, Parts, Parts-plug, root_of-plug, IsAt-plug, ChangesOnly-trans, IsNode-kept, IsAt-kept, IsAround-kept, AreSpare-kept, IsAt-grown, AreSpare-grown, count-past, count_in-past}

pub spare-within : (a : Nodes) (sp : List ℕ) (t : Tree) → Stands a sp t → a.spare ≢ NO_NODE → a.spare < places a
spare-within a [] t stands ne = absurd (ne stands.spares)
spare-within a (i ∷ is) t stands ne = subst (λ (x : ℕ). x < places a) (sym stands.spares.0) stands.spares.1.0

pub TakesPlace-spare : (a b : Nodes) (sp : List ℕ) (t : Tree) → Stands a sp t → a.spare ≢ NO_NODE → b.root ≡ a.root → b.spare ≡ (links_at a a.spare).left → ChangesOnly (λ _. 0) a b → TakesPlace a b t a.spare
unfolding places
TakesPlace-spare a b [] t stands ne root next only = absurd (ne stands.spares)
TakesPlace-spare a b (i ∷ is) t stands ne root next only =
    let first = stands.spares.0 in
    let next' : b.spare ≡ (links_at a i).left = next ∙ ap (λ x. (links_at a x).left) first in
    rw first (record {
      spare = is;
      stands = record {
        root = root ∙ stands.root;
        at = IsAt-kept only NO_NODE t (λ j h. refl) stands.at;
        spares = subst (λ (x : ℕ). AreSpare b x is) (sym next') (AreSpare-kept only (links_at a i).left is (λ j h. refl) stands.spares.1.1);
        once = λ j. let o = stands.once j in omega arith;
        all = let e = stands.all in let w = only.places in omega arith;
        fits = rw only.places (stands.fits);
        within = rw only.places (stands.spares.1.0);
      };
      place = reused (λ e. ne (first ∙ e)) refl (stands.spares.1.0) only.places;
    })

pub Grows-pushed : (old : Nodes) (nodes : List Links) (links : Links) → nodes ≡ old.nodes ++ links ∷ [] → Grows old (record { nodes = nodes; root = old.root; spare = old.spare })
unfolding places links_at
Grows-pushed old nodes links e = record {
  root = refl;
  spare = refl;
  one_more = rw (e, length-append) refl;
  elsewhere = λ i h. rw (e, get_or_append_left) refl;
}

pub TakesPlace-grown : (a b : Nodes) (sp : List ℕ) (t : Tree) → Stands a sp t → a.spare ≡ NO_NODE → places a < NO_NODE → Grows a b → TakesPlace a b t (places a)
TakesPlace-grown a b sp t stands none room grows =
    let more = grows.one_more in
    record {
      spare = sp;
      stands = record {
        root = grows.root ∙ stands.root;
        at = IsAt-grown a b (λ j h. omega arith) grows.elsewhere NO_NODE t stands.at;
        spares = subst (λ (x : ℕ). AreSpare b x sp) (sym grows.spare) (AreSpare-grown a b (λ j h. omega arith) grows.elsewhere a.spare sp stands.spares);
        once = λ j. once j (one (places a) j) refl;
        all = let e = stands.all in omega arith;
        fits = omega arith;
        within = omega arith;
      };
      place = one_more none refl more;
    } where
      once : (j n : ℕ) → one (places a) j ≡ n → one (places a) j + (count j t + count_in j sp) ≤ 1
      once j n e = elim (cases_lt j (places a)) [
        | inr past ↦
            let x = count-past a NO_NODE t j stands.at past in
            let y = count_in-past a a.spare sp j stands.spares past in
            let z = one-le (places a) j in omega arith
        | inl below ↦ let x = one-below (places a) j below in let o = stands.once j in omega arith
      ]

module _ (a : Nodes) (sp : List ℕ) (c : Context) (i : ℕ) (beside : StandsBeside a sp i (plug c leaf)) where
  pub parts : Parts a c leaf
  parts = Parts-plug a c leaf beside.root beside.at

  pub apart : (j : ℕ) → one i j + (count_around j c + count_in j sp) ≤ 1
  apart j = let x = count-plug j c leaf in let y = count-leaf j in let o = beside.once j in omega arith

  module _ (b : Nodes) (put : IsPut a b i (wired true (parent_of c) true NO_NODE NO_NODE)) where
    abbrev pub place : (parent : ℕ) (on_left : Bool) → parent_of c ≡ parent → IsOnSide on_left c → Hangs b parent on_left
    place parent on_left e side = record {
      context = c;
      child = root_of leaf;
      around = IsAround-kept put.only put.root c (root_of leaf) (λ j h. let o = apart j in omega arith) parts.around;
      parent_is = e;
      side_is = side;
      once = λ j. let o = apart j in omega arith;
      fits = rw (put.only.places) (beside.fits);
    }

    module _ (old : Nodes) (new_place : IsPlaceOfNew old.spare (places old) (places a) i) (d : Nodes) (hung : IsHung b d c i) where
      pub attached : IsAttached old d c i
      attached =
          let whole = ChangesOnly-trans put.only hung.only in
          let o' = apart i in let e' = one-same i in
          let node : IsNode d i (wired true (parent_of c) true NO_NODE NO_NODE) =
          IsNode-kept hung.only (omega arith) (record { within = rw (put.only.places) (beside.within); is = put.there }) in
          let p : Parts d c (join true i true leaf leaf) = record {
            around = rw root_of-join (hung.around);
            at = IsAt-join d (parent_of c) true i true leaf leaf (record { node = rw root_of-leaf node; near = IsAt-leaf d i; far = IsAt-leaf d i });
          } in
          record {
            spare = sp;
            stands = record {
              root = root_of-plug d c _ p;
              at = IsAt-plug d c _ p;
              spares = subst (λ (x : ℕ). AreSpare d x sp) (sym (hung.spare ∙ put.spare)) (AreSpare-kept whole a.spare sp (λ j h. let o = apart j in omega arith) beside.spares);
              once = λ j. let o = apart j in let x = count-plug j c (join true i true leaf leaf) in let y = count-join j true i true leaf leaf in let z = count-leaf j in omega arith;
              all =
                  let x = size-plug c (join true i true leaf leaf) in let y = size-join true i true leaf leaf in let z = size-leaf in
                  let x' = size-plug c leaf in let e = beside.all in let w = whole.places in omega arith;
              fits = rw (whole.places) (beside.fits);
            };
            place = rw whole.places new_place;
          }

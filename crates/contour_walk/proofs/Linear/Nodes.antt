-- The links of a node, by the number of the node.
use Rattle.std.proofs.Common.{◌≡◌, ℕ, suc, ◌+◌, ◌<◌, Bool, true, false, cond, List, [], ◌∷◌, ◌++◌, length, get_or, All, pos, refl, sym, ap, ◌∙◌, subst, arith}
use Rattle.std.proofs.lemmas.List.{get_or-map, length-map, get_or_default}
use Rattle.std.proofs.lemmas.List.Elements.{All-nil, All-cons, All-append}
use Rattle.std.specs.Ordering.{is_eq}
use Rattle.plane_base.specs.Plane.{Point, Edge, point_order}
use Rattle.segment_arrangement.specs.Graphs.{Node, node_at, places_from, ends_of, nodes_of}
use Rattle.segment_arrangement.specs.LinkViews.{places_of, AreNodes}
use Rattle.segment_arrangement.specs.declared.node.OverlayNode.{OverlayNode}

module _ (es : List Edge) (nodes : List OverlayNode) (joined : AreNodes es nodes) (k : ℕ) (within : k < length (ends_of es)) where
  same_length : length nodes ≡ length (ends_of es)
  same_length =
      sym (length-map nodes places_of) ∙ (ap length joined.places ∙ (length-map (nodes_of es) (λ n. n.starts ++ n.ends) ∙ length-map (ends_of es) (node_at es)))

  pub node_within : k < length nodes
  node_within = omega (arith, same_length, within)

  -- the node of a point has the places of the links that start there, then of those that end there
  pub node_places : (v : Point) (n : OverlayNode) → get_or (ends_of es) k v ≡ v → n ≡ get_or nodes k n → places_of n ≡ (node_at es v).starts ++ (node_at es v).ends
  node_places v n at here =
      ap places_of here
      ∙ (sym (get_or-map places_of nodes k n [] node_within)
      ∙ (ap (λ l. get_or l k []) joined.places
      ∙ (get_or-map (λ (m : Node). m.starts ++ m.ends) (nodes_of es) k (node_at es v) [] inside
      ∙ ap (λ (m : Node). m.starts ++ m.ends) (get_or-map (node_at es) (ends_of es) k v (node_at es v) within ∙ ap (node_at es) at))))
    where
      inside : k < length (nodes_of es)
      inside = omega (arith, length-map (ends_of es) (node_at es), within)

-- places are places of the list
pub places_within : (n : ℕ) (q : Edge → Bool) (es : List Edge) → All (λ p. p < n + length es) (places_from n q es)
places_within n q [] = All-nil (λ p. p < n + 0)
places_within n q (e ∷ es) = by (q e) (further (places_within (n + 1) q es))
  where
    further : All (λ p. p < n + 1 + length es) (places_from (n + 1) q es) → All (λ p. p < n + suc (length es)) (places_from (n + 1) q es)
    further =
        let same : n + 1 + length es ≡ n + suc (length es) = omega arith in
        λ h. subst (λ m. All (λ p. p < m) (places_from (n + 1) q es)) same h

    by : (b : Bool) → All (λ p. p < n + suc (length es)) (places_from (n + 1) q es) → All (λ p. p < n + suc (length es)) (cond b (n ∷ places_from (n + 1) q es) (places_from (n + 1) q es))
    by true h = All-cons (λ p. p < n + suc (length es)) n (places_from (n + 1) q es) (omega arith) h
    by false h = h

-- so are all places of a node
pub places_inside : (es : List Edge) (v : Point) (n : ℕ) (places : List ℕ) → length es ≡ n → places ≡ (node_at es v).starts ++ (node_at es v).ends → All (λ p. p < n) places
places_inside es v n places long is =
    let all : 0 + length es ≡ n = omega (arith, long) in
    subst (λ ps. All (λ p. p < n) ps) (sym is)
    (All-append (λ p. p < n) (node_at es v).starts (node_at es v).ends
    (subst (λ m. All (λ p. p < m) (node_at es v).starts) all (places_within 0 (λ s. is_eq (point_order s.a v)) es))
    (subst (λ m. All (λ p. p < m) (node_at es v).ends) all (places_within 0 (λ s. is_eq (point_order s.b v)) es)))

-- the places of any node are places of links
pub node_inside : (es : List Edge) (nodes : List OverlayNode) → AreNodes es nodes → (k : ℕ) → k < length nodes → (n : OverlayNode) → n ≡ get_or nodes k n → All (λ p. p < length es) (places_of n)
node_inside es nodes joined k inside n here = places_inside es v (length es) (places_of n) refl (node_places es nodes joined k within v n at here)
  where
    long : length nodes ≡ length (ends_of es)
    long =
        sym (length-map nodes places_of) ∙ (ap length joined.places ∙ (length-map (nodes_of es) (λ n. n.starts ++ n.ends) ∙ length-map (ends_of es) (node_at es)))

    within : k < length (ends_of es)
    within = omega (arith, long, inside)

    v : Point
    v = get_or (ends_of es) k (record { x = pos 0; y = pos 0 })

    at : get_or (ends_of es) k v ≡ v
    at = get_or_default (ends_of es) k v (record { x = pos 0; y = pos 0 }) within

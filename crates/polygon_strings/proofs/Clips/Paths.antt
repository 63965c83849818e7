-- Paths of a clip, one after another.
use Rattle.std.proofs.Common.{◌≡◌, ◌≢◌, ℕ, ◌<◌, Bool, true, false, cond, List, [], ◌∷◌, ◌++◌, length, get_or, flat_map, ◌⊎◌, inl, inr, All, refl, sym, ap, ◌∙◌, subst, append_assoc, append-nil, arith}
use Rattle.std.specs.Prelude.{Contains, AllPairs, IsPermutation}
use Rattle.std.specs.declared.cmp.Ordering.TheVariants.{Less, Equal, Greater}
use Rattle.std.proofs.lemmas.Bool.{false≢true, cases_order}
use Rattle.std.proofs.lemmas.List.{get_or_default}
use Rattle.std.proofs.lemmas.List.Elements.{All-contains}
use Rattle.std.proofs.lemmas.List.Sorted.{IsPermutation-refl, IsPermutation-trans, IsPermutation-append_right, Contains-permutation, IsPermutation-sym}
use Rattle.plane_base.specs.Plane.{Point, Edge, is_before, point_order, edge_order}
use Rattle.plane_base.proofs.Facts.Points.Orders.{point_total, edge_total, before_is_less, less_apart, greater_from_less}
use Rattle.contour_walk.specs.Walks.{between}
use Rattle.polygon_strings.specs.Clips.{turned, path_steps, IsLeastLeft, IsClipPath, AreClipPaths, IsClip}
use Rattle.polygon_strings.specs.ClipWalks.{step_along, is_left, none_left, steps_left, ArePassedBefore, IsBuilt, AddsClipPaths}
use Rattle.polygon_strings.specs.declared.string.clip_walk.StepsLeft.{StepsLeft}
use Rattle.polygon_strings.proofs.Clips.Left.{passed_once, left_hold}

-- ---- the least edge

pub not_before : (a b : Point) → is_before a b ≡ true → is_before b a ≡ false
not_before a b h =
    let less : point_order a b ≡ Less = before_is_less a b h in
    let more : point_order b a ≡ Greater = greater_from_less point_total a b less in
    ap (λ o. elim o as (λ _. Bool) [ Less ↦ true | Equal ↦ false | Greater ↦ false ]) more

-- an edge, its lesser end first, is that between its ends, and between them turned
pub between_itself : (s : Edge) → is_before s.a s.b ≡ true → (from_a : Bool) → between (step_along from_a s).a (step_along from_a s).b ≡ s
between_itself s h true = ap (λ b. cond b (record { a = s.b; b = s.a }) s) (not_before s.a s.b h)
between_itself s h false = ap (λ b. cond b s (record { a = s.b; b = s.a })) h

module _ (edges : List Edge) (left : List StepsLeft) (first : ℕ) (long : length left ≡ length edges) (inside : first < length edges)
    (directed : All (λ s. is_before s.a s.b ≡ true) edges) (rising : AllPairs (λ s t. edge_order s t ≡ Less) edges)
    (passed : ArePassedBefore first left) where
  -- A step is left along the edge in this direction.
  module _ (from_a : Bool) (h : is_left from_a (get_or left first none_left) ≡ true) (d : Edge) where
    pub is_among : Contains (steps_left edges left) (step_along from_a (get_or edges first d))
    is_among =
        Contains-permutation (step_along from_a (get_or edges first d) ∷ _) (steps_left edges left) (step_along from_a (get_or edges first d))
        (IsPermutation-sym (steps_left edges left) (step_along from_a (get_or edges first d) ∷ _) (passed_once from_a edges left first d long inside h))
        (0, omega arith, refl)

  -- no edge along which a step is left is lesser
  not_lesser : (i : ℕ) (d : Edge) (from_a : Bool) → i < length edges → is_left from_a (get_or left i none_left) ≡ true
      → edge_order (get_or edges i d) (get_or edges first d) ≡ Less → ⊥
  not_lesser i d from_a within h less = by (cases_order i first)
    where
      by : (i ≡ first) ⊎ ((i < first) ⊎ (first < i)) → ⊥
      by (inr (inl before)) = false≢true (sym (passed from_a i before) ∙ h)
      by (inl same) =
          let z = subst (λ n. edge_order (get_or edges n d) (get_or edges first d) ≡ Less) same less in
          less_apart edge_total (get_or edges first d) (get_or edges first d) z refl
      by (inr (inr after)) =
          let z = greater_from_less edge_total (get_or edges first d) (get_or edges i d) (rising first i d after within) in
          absurd (cc)

  none_lesser : (d : Edge) → All (λ t. edge_order (between t.a t.b) (get_or edges first d) ≢ Less) (steps_left edges left)
  none_lesser d =
      left_hold (λ t. edge_order (between t.a t.b) (get_or edges first d) ≢ Less) edges left
      (λ i e from_a within h less.
      let here = get_or_default edges i e d within in
      not_lesser i d from_a within h
      (subst (λ s. edge_order s (get_or edges first d) ≡ Less)
      (between_itself (get_or edges i e) (directed i e within) from_a ∙ here) less))

  some_among : (from_a : Bool) → is_left from_a (get_or left first none_left) ≡ true → (d : Edge)
      → Contains (steps_left edges left) (get_or edges first d) ⊎ Contains (steps_left edges left) (turned (get_or edges first d))
  some_among true h d = inl (is_among true h d)
  some_among false h d = inr (is_among false h d)

  -- So the edge is the least along which a step is left.
  pub is_least : (from_a : Bool) → is_left from_a (get_or left first none_left) ≡ true → (d : Edge) → IsLeastLeft (steps_left edges left) (get_or edges first d)
  is_least from_a h d = record { directed = directed first d inside; some = some_among from_a h d; least = none_lesser d }

  -- Where the step from its lesser end is passed, it is not among those that are left.
  turned_apart : (from_a : Bool) (s t : Edge) → is_before s.a s.b ≡ true → is_before t.a t.b ≡ true → step_along from_a t ≡ s → (from_a ≡ true) × (t ≡ s)
  turned_apart true s t h k e = (refl, e)
  turned_apart false s t h k e =
      let z : is_before t.b t.a ≡ true = subst (λ (r : Edge). is_before r.a r.b ≡ true) (sym e) h in
      absurd (false≢true (sym (not_before t.a t.b k) ∙ z))

  pub not_among : is_left true (get_or left first none_left) ≡ false → (d : Edge) → Contains (steps_left edges left) (get_or edges first d) → ⊥
  not_among h d among =
      All-contains (λ t. t ≢ get_or edges first d) (steps_left edges left) (get_or edges first d)
      (left_hold (λ t. t ≢ get_or edges first d) edges left
      (λ i e from_a within k same.
      let here = get_or_default edges i e d within in
      let both = turned_apart from_a (get_or edges first d) (get_or edges i e) (directed first d inside) (directed i e within) same in
      is_another i from_a within k both.0 d (sym here ∙ both.1)))
      among refl
    where
      is_another : (i : ℕ) (from_a : Bool) → i < length edges → is_left from_a (get_or left i none_left) ≡ true → from_a ≡ true → (d : Edge) → get_or edges i d ≡ get_or edges first d → ⊥
      is_another i from_a within k forward d same = by (cases_order i first)
        where
          by : (i ≡ first) ⊎ ((i < first) ⊎ (first < i)) → ⊥
          by (inr (inl before)) = less_apart edge_total (get_or edges i d) (get_or edges first d) (rising i first d before inside) same
          by (inl equal) =
              false≢true (sym h ∙ ap (λ n. is_left true (get_or left n none_left)) (sym equal) ∙ ap (λ b. is_left b (get_or left i none_left)) (sym forward) ∙ k)
          by (inr (inr after)) = less_apart edge_total (get_or edges first d) (get_or edges i d) (rising first i d after within) (sym same)

  -- a path that is begun along the edge
  pub is_path : (forward : Bool) → is_left forward (get_or left first none_left) ≡ true → (forward ≡ false → is_left true (get_or left first none_left) ≡ false)
      → (path : List Point) (rest : List Edge) (d : Edge) → IsPermutation (steps_left edges left) (path_steps path ++ rest)
      → IsBuilt forward (get_or edges first d) path rest → IsClipPath (steps_left edges left) path rest
  is_path true h before path rest d passes built = record {
    passes = passes;
    along = get_or edges first d;
    least = is_least true h d;
    forward = λ _. built;
    backward = λ none. absurd (none (is_among true h d));
  }
  is_path false h before path rest d passes built = record {
    passes = passes;
    along = get_or edges first d;
    least = is_least false h d;
    forward = λ among. absurd (not_among (before refl) d among);
    backward = λ _. built;
  }

-- ---- one after another

pub adds_none : (left : List Edge) (paths : List (List Point)) → AddsClipPaths left paths left paths
adds_none left paths = ([], sym (append-nil paths), λ later h. h)

pub adds_one : (left rest : List Edge) (path : List Point) (paths : List (List Point)) → IsClipPath left path rest → AddsClipPaths left paths rest (paths ++ path ∷ [])
adds_one left rest path paths is = (path ∷ [], refl, λ later h. (rest, is, h))

pub adds_more : (one two three : List Edge) (before between after : List (List Point)) → AddsClipPaths one before two between → AddsClipPaths two between three after
    → AddsClipPaths one before three after
adds_more one two three before between after first second = (
  first.0 ++ second.0,
  second.1 ∙ ap (λ l. l ++ second.0) first.1 ∙ append_assoc before first.0 second.0,
  λ later h. subst (AreClipPaths one) (sym (append_assoc first.0 second.0 later)) (first.2 (second.0 ++ later) (second.2 later h)),
)

-- each step stands in one of the paths
each_once : (steps : List Edge) (paths : List (List Point)) → AreClipPaths steps paths → IsPermutation steps (flat_map path_steps paths)
each_once steps [] h = subst (IsPermutation steps) h (IsPermutation-refl steps)
each_once steps (path ∷ paths) h =
    IsPermutation-trans steps (path_steps path ++ h.0) (path_steps path ++ flat_map path_steps paths) h.1.passes
    (IsPermutation-append_right (path_steps path) h.0 (flat_map path_steps paths) (each_once h.0 paths h.2))

-- When no step is left, the paths are those of the clip.
pub is_clip : (steps : List Edge) (paths : List (List Point)) → AddsClipPaths steps [] [] paths → IsClip steps paths
is_clip steps paths adds = record { once = each_once steps paths all; in_turn = all }
  where
    all : AreClipPaths steps paths
    all = subst (AreClipPaths steps) (append-nil adds.0 ∙ sym adds.1) (adds.2 [] refl)

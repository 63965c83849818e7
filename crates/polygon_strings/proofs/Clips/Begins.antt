-- Where searches for steps begin: no step is left before, whatever is passed.
use Rattle.std.proofs.Common.{◌≡◌, ℕ, ◌<◌, Bool, true, false, List, [], ◌++◌, length, get_or, set, take, map, ◌⊎◌, inl, inr, sym, ap, ◌∙◌, subst, arith}
use Rattle.std.proofs.lemmas.Bool.{cases_eq}
use Rattle.std.proofs.lemmas.List.{get_or_default, get_or-set_same, get_or-set_other, length-set}
use Rattle.std.proofs.lemmas.List.Elements.{All-weaker}
use Rattle.plane_base.specs.Plane.{Point, Edge}
use Rattle.segment_arrangement.specs.Graphs.{ends_of, nodes_of}
use Rattle.contour_walk.specs.Walks.{same_point, is_same}
use Rattle.polygon_strings.specs.ClipWalks.{is_left_from, begin_of, begun, at_first, StayPassed, ArePassedAlong, AreRemaining}
use Rattle.polygon_strings.specs.declared.string.clip_walk.StepsLeft.{StepsLeft}
use Rattle.polygon_strings.specs.declared.string.clip_walk.SearchBegins.{SearchBegins}
use Rattle.polygon_strings.proofs.Clips.Links.{list_within}

-- in one direction the search begins further on, and in the other where it did
further : (way forward : Bool) (begin : ℕ) (begins : SearchBegins) (v : Point) (edges : List Edge) (left : List StepsLeft) (places : List ℕ)
    → ArePassedAlong forward v edges left (take begin places) → ArePassedAlong way v edges left (take (begin_of way begins) places)
    → ArePassedAlong way v edges left (take (begin_of way (begun forward begin begins)) places)
further true true begin begins v edges left places new old = new
further true false begin begins v edges left places new old = old
further false true begin begins v edges left places new old = old
further false false begin begins v edges left places new old = new

module _ (edges : List Edge) (lists : List (List ℕ)) where
  -- what is passed stays so
  pub still_remain : (old new : List StepsLeft) (begins : List SearchBegins) → AreRemaining edges lists old begins
      → StayPassed old new → length new ≡ length old → AreRemaining edges lists new begins
  still_remain old new begins is stay long = record {
    beside = long ∙ is.beside;
    nodes = is.nodes;
    passed = λ forward k v within named.
        All-weaker (λ place. is_left_from forward v edges old place ≡ false) (λ place. is_left_from forward v edges new place ≡ false)
        (λ place. stay (is_same (same_point (get_or edges place (record { a = v; b = v })).a v) forward) place)
        (take (begin_of forward (get_or begins k at_first)) (get_or lists k [])) (is.passed forward k v within named);
  }

  -- A search at a node begins where no step is left before, and the next where it ends.
  module _ (left : List StepsLeft) (begins : List SearchBegins) (is : AreRemaining edges lists left begins)
      (joined : lists ≡ map (λ n. n.starts ++ n.ends) (nodes_of edges))
      (forward : Bool) (k : ℕ) (v : Point) (within : k < length (ends_of edges)) (named : get_or (ends_of edges) k v ≡ v) where
    abbrev Passed : Bool → ℕ → Point → ℕ → Type 0
    Passed way j w begin = ArePassedAlong way w edges left (take begin (get_or lists j []))

    inside : k < length begins
    inside = omega (arith, is.nodes, list_within edges lists joined k within)

    module _ (steps : List StepsLeft) (places : List ℕ) (b : SearchBegins)
        (all : steps ≡ left) (here : places ≡ get_or lists k []) (noted : b ≡ get_or begins k b) where
      pub search_begins : (begin : ℕ) → begin ≡ begin_of forward b → ArePassedAlong forward v edges steps (take begin places)
      search_begins begin e =
          let from : begin ≡ begin_of forward (get_or begins k at_first) = e ∙ ap (begin_of forward) (noted ∙ get_or_default begins k b at_first inside) in
          subst (λ l. ArePassedAlong forward v edges l (take begin places)) (sym all)
          (subst (λ l. ArePassedAlong forward v edges left (take begin l)) (sym here)
          (subst (Passed forward k v) (sym from) (is.passed forward k v within named)))

      module _ (found : ℕ) (new : SearchBegins) (e : new ≡ begun forward found b) (passed : ArePassedAlong forward v edges steps (take found places)) where
        ends_there : Passed forward k v found
        ends_there =
            subst (λ l. ArePassedAlong forward v edges left (take found l)) here (subst (λ l. ArePassedAlong forward v edges l (take found places)) all passed)

        -- of one node there is one point
        at_node : (way : Bool) (j : ℕ) (w : Point) → j < length (ends_of edges) → get_or (ends_of edges) j w ≡ w → j ≡ k → Passed way j w (begin_of way new)
        at_node way j w low named-w same =
            let one : v ≡ w = sym named ∙ get_or_default (ends_of edges) k v w within ∙ ap (λ n. get_or (ends_of edges) n w) (sym same) ∙ named-w in
            let was : get_or begins j at_first ≡ b = ap (λ n. get_or begins n at_first) same ∙ sym (noted ∙ get_or_default begins k b at_first inside) in
            subst (λ n. Passed way j w (begin_of way n)) (sym e)
            (further way forward found b w edges left (get_or lists j [])
            (subst (λ p. Passed forward j p found) one (subst (λ n. Passed forward n v found) (sym same) ends_there))
            (subst (λ n. Passed way j w (begin_of way n)) was (is.passed way j w low named-w)))

        pub search_goes_on : AreRemaining edges lists left (set begins k new)
        search_goes_on = record {
          beside = is.beside;
          nodes = length-set begins k new ∙ is.nodes;
          passed = λ way j w low named-w. by way j w low named-w (cases_eq j k);
        }
          where
            by : (way : Bool) (j : ℕ) (w : Point) → j < length (ends_of edges) → get_or (ends_of edges) j w ≡ w → (j ≡ k) ⊎ ((j ≡ k) → ⊥)
                → Passed way j w (begin_of way (get_or (set begins k new) j at_first))
            by way j w low named-w (inl same) =
                subst (λ n. Passed way j w (begin_of way n))
                (sym (ap (λ n. get_or (set begins k new) n at_first) same ∙ get_or-set_same begins k new at_first inside))
                (at_node way j w low named-w same)
            by way j w low named-w (inr apart) =
                subst (λ n. Passed way j w (begin_of way n)) (sym (get_or-set_other begins k j new at_first apart)) (is.passed way j w low named-w)

-- What holds of the ends of steps holds of the points of the paths of a clip.
use Rattle.std.proofs.Common.{◌≡◌, Bool, true, false, cond, List, [], ◌∷◌, flat_map, filter, All, Contains, None, Some}
use Rattle.std.proofs.lemmas.List.Elements.{All-nil, All-cons, All-head, All-tail, All-append, All-filter}
use Rattle.std.proofs.lemmas.List.Sorted.{All-permutation}
use Rattle.plane_base.specs.Plane.{Point, Edge}
use Rattle.plane_base.specs.Counts.{Entry}
use Rattle.plane_base.specs.Regions.{FillRule}
use Rattle.plane_base.proofs.Facts.Lists.Cycles.{All-front, All-back}
use Rattle.segment_split.specs.Strings.{StringCount}
use Rattle.segment_arrangement.specs.declared.clip_rule.ClipRule.{ClipRule}
use Rattle.polygon_strings.specs.Clips.{turned, path_steps, IsClipPath, AreClipPaths, IsClip}
use Rattle.polygon_strings.specs.KeptSteps.{line_steps, is_kept, kept_steps}

module _ (P : Point → Type 0) where
  abbrev BothEnds : Edge → Type 0
  BothEnds s = P s.a × P s.b

  -- ---- paths

  ends_stand : (p q : Point) (rest : List Point) → All BothEnds (path_steps (p ∷ q ∷ rest)) → All P (p ∷ q ∷ rest)
  ends_stand p q [] h =
      let step = All-head BothEnds (record { a = p; b = q }) [] h in
      All-cons P p (q ∷ []) step.0 (All-cons P q [] step.1 (All-nil P))
  ends_stand p q (r ∷ rest) h =
      All-cons P p (q ∷ r ∷ rest) (All-head BothEnds (record { a = p; b = q }) (path_steps (q ∷ r ∷ rest)) h).0
      (ends_stand q r rest (All-tail BothEnds (record { a = p; b = q }) (path_steps (q ∷ r ∷ rest)) h))

  -- no path of a clip is a point alone
  never_alone : (left rest : List Edge) (p : Point) → IsClipPath left (p ∷ []) rest → ⊥
  never_alone left rest p is = let none : None ≡ Some (turned is.along) = (is.backward not_here).0 in cc
    where
      not_here : Contains left is.along → ⊥
      not_here here = let none : None ≡ Some is.along = (is.forward here).0 in cc

  path_stands : (left rest : List Edge) (path : List Point) → IsClipPath left path rest → All BothEnds (path_steps path) → All P path
  path_stands left rest [] is h = All-nil P
  path_stands left rest (p ∷ []) is h = absurd (never_alone left rest p is)
  path_stands left rest (p ∷ q ∷ more) is h = ends_stand p q more h

  paths_stand : (left : List Edge) (paths : List (List Point)) → AreClipPaths left paths → All BothEnds (flat_map path_steps paths) → All (All P) paths
  paths_stand left [] are h = All-nil (All P)
  paths_stand left (path ∷ paths) (rest, is, are) h =
      All-cons (All P) path paths (path_stands left rest path is (All-front BothEnds (path_steps path) (flat_map path_steps paths) h))
      (paths_stand rest paths are (All-back BothEnds (path_steps path) (flat_map path_steps paths) h))

  -- ---- steps that are kept

  line_stands : (e : Entry StringCount) → BothEnds e.edge → All BothEnds (line_steps e)
  line_stands e h =
      All-append BothEnds (cond e.count.back (e.edge ∷ []) []) (cond e.count.forward (turned e.edge ∷ []) []) (by e.count.back e.edge h) (by e.count.forward (turned e.edge) (h.1, h.0))
    where
      by : (b : Bool) (s : Edge) → BothEnds s → All BothEnds (cond b (s ∷ []) [])
      by true s k = All-cons BothEnds s [] k (All-nil BothEnds)
      by false s k = All-nil BothEnds

  abbrev EndsStand : Entry StringCount → Type 0
  EndsStand e = BothEnds e.edge

  lines_stand : (es : List (Entry StringCount)) → All EndsStand es → All BothEnds (flat_map line_steps es)
  lines_stand [] h = All-nil BothEnds
  lines_stand (e ∷ es) h =
      All-append BothEnds (line_steps e) (flat_map line_steps es) (line_stands e (All-head EndsStand e es h)) (lines_stand es (All-tail EndsStand e es h))

  pub clip_stands : (fill : FillRule) (clip : ClipRule) (es : List (Entry StringCount)) (paths : List (List Point)) → All EndsStand es
      → IsClip (kept_steps fill clip es) paths → All (All P) paths
  clip_stands fill clip es paths h is =
      paths_stand (kept_steps fill clip es) paths is.in_turn
      (All-permutation BothEnds (kept_steps fill clip es) (flat_map path_steps paths) is.once
      (lines_stand (filter (is_kept fill clip es) es) (All-filter (is_kept fill clip es) EndsStand es h)))

-- Clips and slices stay in each box of what is held: their points are ends of steps along redrawn edges, for which no box has to grow.
use Rattle.std.proofs.Common.{◌≡◌, ℕ, zero, suc, ◌==◌, Bool, true, false, not, cond, None, Some, List, [], ◌∷◌, ◌++◌, map, flat_map, filter, All, sym, subst}
use Rattle.std.proofs.lemmas.List.Elements.{All-nil, All-cons, All-head, All-tail, All-append, All-map, All-filter, All-weaker}
use Rattle.std.proofs.lemmas.List.Sorted.{All-permutation}
use Rattle.plane_base.specs.Plane.{Point, Edge}
use Rattle.plane_base.specs.Counts.{Entry, normal}
use Rattle.plane_base.specs.Given.{laid_path, laid}
use Rattle.plane_base.specs.Regions.{FillRule}
use Rattle.plane_base.proofs.Facts.Lists.Cycles.{All-front, All-back}
use Rattle.plane_base.proofs.Facts.Maps.Normal.{normal_edges}
use Rattle.segment_split.specs.Groups.{Bounds, LiesWithin, EndsLieWithin}
use Rattle.segment_split.specs.Redrawing.{redrawn}
use Rattle.segment_split.specs.RedrawLaws.{Rearranges}
use Rattle.segment_split.specs.Strings.{StringCount, stringed, one_line}
use Rattle.segment_split.specs.declared.solver.Precision.{Precision}
use Rattle.segment_split.proofs.Facts.Adding.Held.{laid_path_holds, laid_holds, stays_with_contours}
use Rattle.segment_arrangement.specs.Graphs.{Link}
use Rattle.segment_arrangement.specs.Strings.{string_link_of, all_string_links}
use Rattle.segment_arrangement.specs.declared.clip_rule.ClipRule.{ClipRule}
use Rattle.contour_walk.specs.BindingLaws.{all_contours}
use Rattle.contour_walk.specs.JoinedHoles.{holes_of, joined_by, shape_of_hole}
use Rattle.contour_walk.specs.LoopLaws.{LoopsKeepSteps}
use Rattle.contour_walk.specs.Loops.{loops, is_long, long_loops}
use Rattle.contour_walk.specs.Walks.{Border, is_same}
use Rattle.contour_walk.specs.WalkLaws.{step_along, contour_steps}
use Rattle.polygon_strings.specs.Builders.{one_shape, string_map, HoldsBoth}
use Rattle.polygon_strings.specs.Clips.{turned, path_steps, IsClipPath, AreClipPaths, IsClip}
use Rattle.polygon_strings.specs.KeptSteps.{line_steps, is_kept, kept_steps}
use Rattle.polygon_strings.specs.Slices.{has_half, halves_of_link, halves, is_outline, pieces, IsSlice}
use Rattle.polygon_overlay.specs.BoxLaws.{ClipsStayInTheBox, SlicesStayInTheBox}
use Rattle.polygon_overlay.proofs.Boxing.EndLaws.{BothEnds, path_of_ends, contours_of_ends}
use Rattle.polygon_overlay.proofs.Locating.LocationLaws.{all_from_shapes}

-- where there is no step, none is first or last
no_step : (s : Edge) → None ≡ Some s → ⊥
no_step s e = cc

not_there : {Q : Type 0} (s : Edge) → (None ≡ Some s) × Q → ⊥
not_there s h = no_step s h.0

-- What holds of all ends of a map's edges holds of the points of clips and slices.
module _ (P : Point → Type 0) where
  abbrev Ends : Edge → Type 0
  Ends = BothEnds P

  abbrev EntryIn : Entry StringCount → Type 0
  EntryIn e = Ends e.edge

  -- ---- clips

  line_in : (e : Entry StringCount) → EntryIn e → All Ends (line_steps e)
  line_in e h =
      All-append Ends (cond e.count.back (e.edge ∷ []) []) (cond e.count.forward (turned e.edge ∷ []) []) (if_any e.count.back e.edge h)
      (if_any e.count.forward (turned e.edge) (h.1, h.0))
    where
      if_any : (b : Bool) (s : Edge) → Ends s → All Ends (cond b (s ∷ []) [])
      if_any true s k = All-cons Ends s [] k (All-nil Ends)
      if_any false s k = All-nil Ends

  lines_in : (es : List (Entry StringCount)) → All EntryIn es → All Ends (flat_map line_steps es)
  lines_in [] h = All-nil Ends
  lines_in (e ∷ es) h =
      All-append Ends (line_steps e) (flat_map line_steps es) (line_in e (All-head EntryIn e es h)) (lines_in es (All-tail EntryIn e es h))

  -- a path of a clip has no point or a step
  path_in : (left : List Edge) (path : List Point) (rest : List Edge) → IsClipPath left path rest → All Ends (path_steps path) → All P path
  path_in left [] rest is h = All-nil P
  path_in left (p ∷ []) rest is h = absurd (not_there (turned is.along) (is.backward (λ there. not_there is.along (is.forward there))))
  path_in left (p ∷ r ∷ points) rest is h = path_of_ends P p r points h

  paths_in : (left : List Edge) (paths : List (List Point)) → All Ends left → AreClipPaths left paths → All (All P) paths
  paths_in left [] h are = All-nil (All P)
  paths_in left (path ∷ paths) h (rest, one, more) =
      let both = All-permutation Ends left (path_steps path ++ rest) one.passes h in
      All-cons (All P) path paths (path_in left path rest one (All-front Ends (path_steps path) rest both))
      (paths_in rest paths (All-back Ends (path_steps path) rest both) more)

  clip_in : (fill : FillRule) (clip : ClipRule) (es : List (Entry StringCount)) (paths : List (List Point)) → All EntryIn es
      → IsClip (kept_steps fill clip es) paths → All (All P) paths
  clip_in fill clip es paths h is =
      paths_in (kept_steps fill clip es) paths (lines_in (filter (is_kept fill clip es) es) (All-filter (is_kept fill clip es) EntryIn es h)) is.in_turn

  -- ---- slices

  abbrev HalfIn : Border → Type 0
  HalfIn l = Ends l.edge

  abbrev LinkIn : Link → Type 0
  LinkIn l = Ends l.edge

  half_step_in : (output : Bool) (l : Border) → HalfIn l → Ends (step_along output l)
  half_step_in output l h = by (is_same l.above output)
    where
      by : (same : Bool) → Ends (cond same (record { a = l.edge.b; b = l.edge.a }) l.edge)
      by true = (h.1, h.0)
      by false = h

  halves_in : (ls : List Link) → All LinkIn ls → All HalfIn (flat_map halves_of_link ls)
  halves_in [] h = All-nil HalfIn
  halves_in (l ∷ ls) h =
      All-append HalfIn (halves_of_link l) (flat_map halves_of_link ls)
      (All-append HalfIn (cond (has_half true l.fill) (record { edge = l.edge; above = true } ∷ []) [])
      (cond (has_half false l.fill) (record { edge = l.edge; above = false } ∷ []) []) (if_any (has_half true l.fill) true) (if_any (has_half false l.fill) false))
      (halves_in ls (All-tail LinkIn l ls h))
    where
      if_any : (b above : Bool) → All HalfIn (cond b (record { edge = l.edge; above = above } ∷ []) [])
      if_any true above = All-cons HalfIn (record { edge = l.edge; above = above }) [] (All-head LinkIn l ls h) (All-nil HalfIn)
      if_any false above = All-nil HalfIn

  -- the loops of walks, whose steps are those of the walks
  loops_in : LoopsKeepSteps → (least : ℕ) (walks : List (List Point)) → All Ends (flat_map contour_steps walks) → All (All P) (flat_map (long_loops least) walks)
  loops_in keep least [] h = All-nil (All P)
  loops_in keep least (w ∷ ws) h =
      let its_steps = All-permutation Ends (contour_steps w) (flat_map contour_steps (loops w)) (keep w) (All-front Ends (contour_steps w) (flat_map contour_steps ws) h) in
      All-append (All P) (long_loops least w) (flat_map (long_loops least) ws)
      (All-filter (is_long least) (All P) (loops w) (contours_of_ends P (loops w) its_steps))
      (loops_in keep least ws (All-back Ends (contour_steps w) (flat_map contour_steps ws) h))

  -- outlines, and the holes that are joined to them
  alone_in : (ls : List (List Point)) → All (All P) ls → All (All (All P)) (map (λ l. l ∷ []) ls)
  alone_in [] h = All-nil (All (All P))
  alone_in (l ∷ ls) h =
      All-cons (All (All P)) (l ∷ []) (map (λ l. l ∷ []) ls) (All-cons (All P) l [] (All-head (All P) l ls h) (All-nil (All P)))
      (alone_in ls (All-tail (All P) l ls h))

  holes_in : (owner : ℕ → ℕ) (m n : ℕ) (ls : List (List Point)) → All (All P) ls → All (All P) (holes_of owner m n ls)
  holes_in owner m n [] h = All-nil (All P)
  holes_in owner m n (l ∷ ls) h = by (owner n == m) (holes_in owner m (suc n) ls (All-tail (All P) l ls h))
    where
      by : (b : Bool) → All (All P) (holes_of owner m (suc n) ls) → All (All P) (cond b (l ∷ holes_of owner m (suc n) ls) (holes_of owner m (suc n) ls))
      by true rest = All-cons (All P) l (holes_of owner m (suc n) ls) (All-head (All P) l ls h) rest
      by false rest = rest

  joined_in : (owner : ℕ → ℕ) (holes : List (List Point)) (m : ℕ) (shapes : List (List (List Point))) → All (All P) holes → All (All (All P)) shapes
      → All (All (All P)) (joined_by owner holes m shapes)
  joined_in owner holes m [] h k = All-nil (All (All P))
  joined_in owner holes m (s ∷ shapes) h k =
      All-cons (All (All P)) (s ++ holes_of owner m zero holes) (joined_by owner holes (suc m) shapes)
      (All-append (All P) s (holes_of owner m zero holes) (All-head (All (All P)) s shapes k) (holes_in owner m zero holes h))
      (joined_in owner holes (suc m) shapes h (All-tail (All (All P)) s shapes k))

  pieces_in : LoopsKeepSteps → (output : Bool) (least : ℕ) (walks : List (List Point)) → All Ends (flat_map contour_steps walks)
      → All (All P) (all_contours (pieces output least walks))
  pieces_in keep output least walks h =
      all_from_shapes (All P) (pieces output least walks)
      (joined_in (shape_of_hole output outlines holes) holes zero outlines (All-filter (λ l. not (is_outline output l)) (All P) found found_in)
      (alone_in (filter (is_outline output) found) (All-filter (is_outline output) (All P) found found_in)))
    where
      found : List (List Point)
      found = flat_map (long_loops least) walks

      outlines : List (List (List Point))
      outlines = map (λ l. l ∷ []) (filter (is_outline output) found)

      holes : List (List Point)
      holes = filter (λ l. not (is_outline output l)) found

      found_in : All (All P) found
      found_in = loops_in keep least walks h

  slice_in : LoopsKeepSteps → (output : Bool) (least : ℕ) (fill : FillRule) (es : List (Entry StringCount)) (shapes : List (List (List Point))) → All EntryIn es
      → IsSlice output least fill es shapes → All (All P) (all_contours shapes)
  slice_in keep output least fill es shapes h slice =
      subst (λ s. All (All P) (all_contours s)) (sym slice.is)
      (pieces_in keep output least slice.walks
      (All-permutation Ends (map (step_along output) (halves fill es)) (flat_map contour_steps slice.walks) slice.are.passes
      (All-map Ends (step_along output) (halves fill es)
      (All-weaker HalfIn (λ l. Ends (step_along output l)) (half_step_in output) (halves fill es)
      (halves_in (all_string_links fill es) (All-map LinkIn (string_link_of fill es) es h))))))

  -- ---- what is held of a shape and of strings

  with_contour : (es : List (Entry StringCount)) (contour : List Point) → All P contour → All EntryIn es → All EntryIn (es ++ laid stringed one_shape contour)
  with_contour es contour inside h =
      All-append EntryIn es (laid stringed one_shape contour) h
      (All-weaker (λ e. Ends e.edge × Unit {0}) EntryIn (λ e k. k.0) (laid stringed one_shape contour)
      (laid_holds stringed P (λ count. Unit {0}) one_shape tt tt contour inside))

  strings_in : (strings : List (List Point)) → All (All P) strings → All EntryIn (flat_map (laid_path stringed one_line) strings)
  strings_in [] h = All-nil EntryIn
  strings_in (s ∷ strings) h =
      All-append EntryIn (laid_path stringed one_line s) (flat_map (laid_path stringed one_line) strings)
      (All-weaker (λ e. Ends e.edge × Unit {0}) EntryIn (λ e k. k.0) (laid_path stringed one_line s)
      (laid_path_holds stringed P (λ count. Unit {0}) one_line tt tt s (All-head (All P) s strings h)))
      (strings_in strings (All-tail (All P) s strings h))

  given_in : (shape strings : List (List Point)) (held : List (Entry StringCount)) → HoldsBoth shape strings held → All (All P) shape → All (All P) strings
      → All EntryIn held
  given_in shape strings held (between, adds, is) of_shape of_strings =
      subst (All EntryIn) (sym is)
      (All-append EntryIn between (flat_map (laid_path stringed one_line) strings)
      (stays_with_contours stringed one_shape false P (All EntryIn) with_contour shape [] between of_shape (All-nil EntryIn) adds) (strings_in strings of_strings))

-- ---- boxes

module _ (rearranges : (precision : Precision) → Rearranges stringed (redrawn stringed precision)) where
  map_in : (box : Bounds) (precision : Precision) (held : List (Entry StringCount)) → EndsLieWithin box held → EndsLieWithin box (string_map precision held)
  map_in box precision held inside =
      (rearranges precision).bounded box (normal stringed held) (normal_edges stringed (BothEnds (LiesWithin box)) held inside)

  pub clips_stay_in_the_box : ClipsStayInTheBox
  clips_stay_in_the_box = record {
    of_held = λ box fill clip precision held paths inside is.
        clip_in (LiesWithin box) fill clip (string_map precision held) paths (map_in box precision held inside) is;
    of_given = λ box shape strings fill clip precision held paths holds of_shape of_strings is.
        clip_in (LiesWithin box) fill clip (string_map precision held) paths
        (map_in box precision held (given_in (LiesWithin box) shape strings held holds of_shape of_strings)) is;
  }

  pub slices_stay_in_the_box : LoopsKeepSteps → SlicesStayInTheBox
  slices_stay_in_the_box keep = record {
    of_held = λ box output least fill precision held shapes inside is.
        slice_in (LiesWithin box) keep output least fill (string_map precision held) shapes (map_in box precision held inside) is;
    of_given = λ box shape strings output least fill precision held shapes holds of_shape of_strings is.
        slice_in (LiesWithin box) keep output least fill (string_map precision held) shapes
        (map_in box precision held (given_in (LiesWithin box) shape strings held holds of_shape of_strings)) is;
  }

-- With a least area of 0 nothing is left out.
use Rattle.std.specs.Prelude.{◌≡◌, ℕ, zero, suc, ◌/◌, Bool, true, false, not, cond, nat_le, List, [], ◌∷◌, map, filter, flat_map, unsigned_abs}
use Rattle.std.proofs.Common.{refl, ap, ap₂, ◌∙◌, append-nil, arith}
use Rattle.plane_base.specs.Plane.{Point}
use Rattle.plane_base.specs.Areas.{area}
use Rattle.contour_walk.specs.Walks.{Border, Contour, walks}
use Rattle.contour_walk.specs.Shapes.{finished, holes_from, shapes_from}
use Rattle.contour_walk.specs.Least.{reaches, outline_reaches, shape_reaching, holes_reaching, holes_left, behind_first, reaching}
use Rattle.contour_walk.specs.Answering.{answered, ZeroKeepsAll}
use Rattle.contour_walk.specs.Parted.{contours_for}

zero_least : (n : ℕ) → nat_le 0 n ≡ true
zero_least zero = refl
zero_least (suc n) = grind arith

reaches_zero : (points : List Point) → reaches 0 points ≡ true
reaches_zero points = zero_least (unsigned_abs (area points) / 2)

all_reach : (contours : List (List Point)) → filter (reaches 0) contours ≡ contours
all_reach [] = refl
all_reach (c ∷ cs) =
    ap (λ b. cond b (c ∷ filter (reaches 0) cs) (filter (reaches 0) cs)) (reaches_zero c) ∙ ap (λ rest. c ∷ rest) (all_reach cs)

none_behind : (shapes : List (List (List Point))) → behind_first [] shapes ≡ shapes
none_behind [] = refl
none_behind (s ∷ ss) = ap (λ shape. shape ∷ ss) (append-nil s)

abbrev kept : List (List (List Point)) → List (List (List Point))
kept shapes = map (shape_reaching 0) (filter (outline_reaches 0) shapes)

one_kept : (outline : List Point) (holes : List (List Point)) (rest : List (List (List Point))) → kept rest ≡ rest
    → kept ((outline ∷ holes) ∷ rest) ≡ (outline ∷ holes) ∷ rest
one_kept outline holes rest same =
    ap (λ b. map (shape_reaching 0) (cond b ((outline ∷ holes) ∷ filter (outline_reaches 0) rest) (filter (outline_reaches 0) rest))) (reaches_zero outline)
    ∙ ap₂ (λ hs shapes. (outline ∷ hs) ∷ shapes) (all_reach holes) same

one_not_left : (outline : List Point) (holes : List (List Point)) (rest : List (List (List Point))) → holes_left 0 rest ≡ []
    → holes_left 0 ((outline ∷ holes) ∷ rest) ≡ []
one_not_left outline holes rest none =
    ap (λ b. flat_map (holes_reaching 0)
    (cond (not b) ((outline ∷ holes) ∷ filter (λ s. not (outline_reaches 0 s)) rest) (filter (λ s. not (outline_reaches 0 s)) rest))) (reaches_zero outline)
    ∙ none

module _ (links : List Border) (contours : List Contour) where
  outlines_reach : (n : ℕ) (cs : List Contour) → kept (shapes_from links contours n cs) ≡ shapes_from links contours n cs
  outlines_reach n [] = refl
  outlines_reach n (c ∷ cs) = by c.is_hole (outlines_reach (suc n) cs)
    where
      by : (b : Bool) → kept (shapes_from links contours (suc n) cs) ≡ shapes_from links contours (suc n) cs
          → kept (cond b (shapes_from links contours (suc n) cs) ((c.points ∷ holes_from links contours n 0 contours) ∷ shapes_from links contours (suc n) cs))
          ≡ cond b (shapes_from links contours (suc n) cs) ((c.points ∷ holes_from links contours n 0 contours) ∷ shapes_from links contours (suc n) cs)
      by true same = same
      by false same = one_kept c.points (holes_from links contours n 0 contours) (shapes_from links contours (suc n) cs) same

  none_left : (n : ℕ) (cs : List Contour) → holes_left 0 (shapes_from links contours n cs) ≡ []
  none_left n [] = refl
  none_left n (c ∷ cs) = by c.is_hole (none_left (suc n) cs)
    where
      by : (b : Bool) → holes_left 0 (shapes_from links contours (suc n) cs) ≡ []
          → holes_left 0 (cond b (shapes_from links contours (suc n) cs) ((c.points ∷ holes_from links contours n 0 contours) ∷ shapes_from links contours (suc n) cs)) ≡ []
      by true none = none
      by false none = one_not_left c.points (holes_from links contours n 0 contours) (shapes_from links contours (suc n) cs) none

  pub zero_keeps : (cs : List Contour) → reaching 0 (shapes_from links contours 0 cs) ≡ shapes_from links contours 0 cs
  zero_keeps cs = ap₂ behind_first (none_left 0 cs) (outlines_reach 0 cs) ∙ none_behind (shapes_from links contours 0 cs)

pub zero_keeps_all : ZeroKeepsAll
zero_keeps_all o links plain none =
    let as_walked = ap (λ (parted : Bool). contours_for parted o.clockwise links) plain in
    let cs = walks o.clockwise links in
    ap (λ least. answered (record { clockwise = o.clockwise; keep_all = o.keep_all; parted = o.parted; least = least }) links (contours_for o.parted o.clockwise links)) none
    ∙ (ap (λ ds. map (map (finished o.keep_all)) (reaching 0 (shapes_from links ds 0 ds))) as_walked
    ∙ ap (map (map (finished o.keep_all))) (zero_keeps links cs cs))

-- Lifetimes that end within those of a point's number end within those that calls ask of points, links from a node, rings and contours.
use Rattle.std.proofs.Common.{ℕ, List, [], ◌++◌}
use contract.BorrowLft.{◌⊑◌, ⊑_meet, ⊑_static}

abbrev pub point_lives : List ℕ → List ℕ
point_lives l = (l ++ []) ++ (l ++ (l ++ []))

abbrev pub spoke_lives : List ℕ → List ℕ
spoke_lives l = (l ++ []) ++ (point_lives l ++ [])

abbrev pub vec_lives : List ℕ → List ℕ
vec_lives l = (l ++ []) ++ []

abbrev pub ring_lives : List ℕ → List ℕ
ring_lives l = (l ++ []) ++ (point_lives l ++ (vec_lives (spoke_lives l) ++ []))

abbrev pub option_lives : List ℕ → List ℕ
option_lives l = (l ++ []) ++ ((l ++ []) ++ [])

abbrev pub contour_lives : List ℕ → List ℕ
contour_lives l = (l ++ []) ++ (vec_lives (point_lives l) ++ [])

abbrev pub segment_lives : List ℕ → List ℕ
segment_lives l = (l ++ []) ++ (point_lives l ++ (point_lives l ++ []))

-- a way's type has that of wide numbers beside that of coordinates
abbrev pub way_lives : List ℕ → List ℕ → List ℕ
way_lives l w = (l ++ (w ++ [])) ++ (point_lives l ++ (point_lives l ++ []))

abbrev pub link_lives : List ℕ → List ℕ
link_lives l = (l ++ []) ++ (segment_lives l ++ [])

abbrev pub push_error_lives : List ℕ → List ℕ
push_error_lives l = (l ++ []) ++ (l ++ [])

within_last : (κ l : List ℕ) → κ ⊑ l → κ ⊑ (l ++ [])
within_last κ l h = ⊑_meet κ l [] h (⊑_static κ)

pub within_point : (κ l : List ℕ) → κ ⊑ l → κ ⊑ point_lives l
within_point κ l h = ⊑_meet κ (l ++ []) (l ++ (l ++ [])) (within_last κ l h) (⊑_meet κ l (l ++ []) h (within_last κ l h))

pub within_spoke : (κ l : List ℕ) → κ ⊑ l → κ ⊑ spoke_lives l
within_spoke κ l h = ⊑_meet κ (l ++ []) (point_lives l ++ []) (within_last κ l h) (within_last κ (point_lives l) (within_point κ l h))

pub within_vec : (κ l : List ℕ) → κ ⊑ l → κ ⊑ vec_lives l
within_vec κ l h = within_last κ (l ++ []) (within_last κ l h)

pub within_ring : (κ l : List ℕ) → κ ⊑ l → κ ⊑ ring_lives l
within_ring κ l h =
    ⊑_meet κ (l ++ []) (point_lives l ++ (vec_lives (spoke_lives l) ++ [])) (within_last κ l h)
    (⊑_meet κ (point_lives l) (vec_lives (spoke_lives l) ++ []) (within_point κ l h)
    (within_last κ (vec_lives (spoke_lives l)) (within_vec κ (spoke_lives l) (within_spoke κ l h))))

pub within_option : (κ l : List ℕ) → κ ⊑ l → κ ⊑ option_lives l
within_option κ l h = ⊑_meet κ (l ++ []) ((l ++ []) ++ []) (within_last κ l h) (within_last κ (l ++ []) (within_last κ l h))

pub within_contour : (κ l : List ℕ) → κ ⊑ l → κ ⊑ contour_lives l
within_contour κ l h =
    ⊑_meet κ (l ++ []) (vec_lives (point_lives l) ++ []) (within_last κ l h)
    (within_last κ (vec_lives (point_lives l)) (within_vec κ (point_lives l) (within_point κ l h)))

pub within_segment : (κ l : List ℕ) → κ ⊑ l → κ ⊑ segment_lives l
within_segment κ l h =
    let point : κ ⊑ point_lives l = within_point κ l h in
    ⊑_meet κ (l ++ []) (point_lives l ++ (point_lives l ++ [])) (within_last κ l h) (⊑_meet κ (point_lives l) (point_lives l ++ []) point (within_last κ (point_lives l) point))

pub within_way : (κ l w : List ℕ) → κ ⊑ l → κ ⊑ w → κ ⊑ way_lives l w
within_way κ l w h hw =
    let point : κ ⊑ point_lives l = within_point κ l h in
    ⊑_meet κ (l ++ (w ++ [])) (point_lives l ++ (point_lives l ++ [])) (⊑_meet κ l (w ++ []) h (within_last κ w hw))
    (⊑_meet κ (point_lives l) (point_lives l ++ []) point (within_last κ (point_lives l) point))

pub within_link : (κ l : List ℕ) → κ ⊑ l → κ ⊑ link_lives l
within_link κ l h = ⊑_meet κ (l ++ []) (segment_lives l ++ []) (within_last κ l h) (within_last κ (segment_lives l) (within_segment κ l h))

pub within_push : (κ l : List ℕ) → κ ⊑ l → κ ⊑ push_error_lives l
within_push κ l h = ⊑_meet κ (l ++ []) (l ++ []) (within_last κ l h) (within_last κ l h)

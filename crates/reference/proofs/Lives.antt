-- Lifetimes that end within those of a number end within those that calls ask of points, links, contours and segments.
use Rattle.std.proofs.Common.{ℕ, List, [], ◌++◌}
use contract.BorrowLft.{◌⊑◌, ⊑_meet, ⊑_static}

abbrev pub point_lives : List ℕ → List ℕ
point_lives l = (l ++ []) ++ (l ++ (l ++ []))

abbrev pub vec_lives : List ℕ → List ℕ
vec_lives l = (l ++ []) ++ []

abbrev pub option_lives : List ℕ → List ℕ
option_lives l = (l ++ []) ++ ((l ++ []) ++ [])

abbrev pub contour_lives : List ℕ → List ℕ
contour_lives l = (l ++ []) ++ (vec_lives (point_lives l) ++ [])

abbrev pub segment_lives : List ℕ → List ℕ
segment_lives l = (l ++ []) ++ (point_lives l ++ (point_lives l ++ []))

abbrev pub link_lives : List ℕ → List ℕ
link_lives l = (l ++ []) ++ (segment_lives l ++ [])

abbrev pub push_error_lives : List ℕ → List ℕ
push_error_lives l = (l ++ []) ++ (l ++ [])

within_last : (κ l : List ℕ) → κ ⊑ l → κ ⊑ (l ++ [])
within_last κ l h = ⊑_meet κ l [] h (⊑_static κ)

pub within_point : (κ l : List ℕ) → κ ⊑ l → κ ⊑ point_lives l
within_point κ l h = ⊑_meet κ (l ++ []) (l ++ (l ++ [])) (within_last κ l h) (⊑_meet κ l (l ++ []) h (within_last κ l h))

pub within_vec : (κ l : List ℕ) → κ ⊑ l → κ ⊑ vec_lives l
within_vec κ l h = within_last κ (l ++ []) (within_last κ l h)

pub within_option : (κ l : List ℕ) → κ ⊑ l → κ ⊑ option_lives l
within_option κ l h = ⊑_meet κ (l ++ []) ((l ++ []) ++ []) (within_last κ l h) (within_last κ (l ++ []) (within_last κ l h))

pub within_contour : (κ l : List ℕ) → κ ⊑ l → κ ⊑ contour_lives l
within_contour κ l h =
    ⊑_meet κ (l ++ []) (vec_lives (point_lives l) ++ []) (within_last κ l h)
    (within_last κ (vec_lives (point_lives l)) (within_vec κ (point_lives l) (within_point κ l h)))

pub within_segment : (κ l : List ℕ) → κ ⊑ l → κ ⊑ segment_lives l
within_segment κ l h =
    let point : κ ⊑ point_lives l = within_point κ l h in
    ⊑_meet κ (l ++ []) (point_lives l ++ (point_lives l ++ [])) (within_last κ l h) (⊑_meet κ (point_lives l) (point_lives l ++ []) point (within_last κ (point_lives l) point))

pub within_link : (κ l : List ℕ) → κ ⊑ l → κ ⊑ link_lives l
within_link κ l h = ⊑_meet κ (l ++ []) (segment_lives l ++ []) (within_last κ l h) (within_last κ (segment_lives l) (within_segment κ l h))

pub within_push : (κ l : List ℕ) → κ ⊑ l → κ ⊑ push_error_lives l
within_push κ l h = ⊑_meet κ (l ++ []) (l ++ []) (within_last κ l h) (within_last κ l h)

-- of a segment with its count
abbrev pub counted_lives : List ℕ → List ℕ → List ℕ
counted_lives c i = (c ++ (i ++ [])) ++ ((segment_lives i) ++ (c ++ []))

pub within_counted : (κ c i : List ℕ) → κ ⊑ c → κ ⊑ i → κ ⊑ counted_lives c i
within_counted κ c i hc hi =
    ⊑_meet κ (c ++ (i ++ [])) (segment_lives i ++ (c ++ []))
    (⊑_meet κ c (i ++ []) hc (within_last κ i hi))
    (⊑_meet κ (segment_lives i) (c ++ []) (within_segment κ i hi) (within_last κ c hc))

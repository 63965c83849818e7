-- Lifetimes that end within those of a segment's parts end within those that calls ask of points, marks and segments.
use Rattle.std.proofs.Common.{ℕ, List, [], ◌++◌}
use contract.BorrowLft.{◌⊑◌, ⊑_meet, ⊑_static}

abbrev pub point_lives : List ℕ → List ℕ
point_lives l = (l ++ []) ++ (l ++ (l ++ []))

abbrev pub mark_lives : List ℕ → List ℕ → List ℕ
mark_lives i w = (i ++ (w ++ [])) ++ (w ++ (point_lives i ++ []))

abbrev pub segment_lives : List ℕ → List ℕ → List ℕ → List ℕ
segment_lives c i d = (c ++ (i ++ (d ++ []))) ++ (((i ++ []) ++ (point_lives i ++ (point_lives i ++ []))) ++ (c ++ (d ++ [])))

pub within_point : (κ l : List ℕ) → κ ⊑ l → κ ⊑ point_lives l
within_point κ l h =
    let ends : κ ⊑ (l ++ []) = ⊑_meet κ l [] h (⊑_static κ) in
    ⊑_meet κ (l ++ []) (l ++ (l ++ [])) ends (⊑_meet κ l (l ++ []) h ends)

pub within_mark : (κ i w : List ℕ) → κ ⊑ i → κ ⊑ w → κ ⊑ mark_lives i w
within_mark κ i w hi hw =
    ⊑_meet κ (i ++ (w ++ [])) (w ++ (point_lives i ++ []))
    (⊑_meet κ i (w ++ []) hi (⊑_meet κ w [] hw (⊑_static κ)))
    (⊑_meet κ w (point_lives i ++ []) hw (⊑_meet κ (point_lives i) [] (within_point κ i hi) (⊑_static κ)))

pub within_segment : (κ c i d : List ℕ) → κ ⊑ c → κ ⊑ i → κ ⊑ d → κ ⊑ segment_lives c i d
within_segment κ c i d hc hi hd =
    let datum : κ ⊑ (d ++ []) = ⊑_meet κ d [] hd (⊑_static κ) in
    let number : κ ⊑ (i ++ []) = ⊑_meet κ i [] hi (⊑_static κ) in
    let point : κ ⊑ point_lives i = within_point κ i hi in
    let points : κ ⊑ (point_lives i ++ (point_lives i ++ [])) = ⊑_meet κ (point_lives i) (point_lives i ++ []) point (⊑_meet κ (point_lives i) [] point (⊑_static κ)) in
    ⊑_meet κ (c ++ (i ++ (d ++ []))) (((i ++ []) ++ (point_lives i ++ (point_lives i ++ []))) ++ (c ++ (d ++ [])))
    (⊑_meet κ c (i ++ (d ++ [])) hc (⊑_meet κ i (d ++ []) hi datum))
    (⊑_meet κ ((i ++ []) ++ (point_lives i ++ (point_lives i ++ []))) (c ++ (d ++ []))
    (⊑_meet κ (i ++ []) (point_lives i ++ (point_lives i ++ [])) number points)
    (⊑_meet κ c (d ++ []) hc datum))

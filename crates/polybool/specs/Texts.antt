-- The texts of replies.
use Rattle.std.specs.Prelude.{ℕ, ℤ, Bool, true, false, List, [], ◌∷◌, ◌++◌, length, flat_map, codes, decimal}
use Rattle.std.specs.Fmt.{signed_decimal}
use Rattle.plane_base.specs.Plane.{Point}
use Rattle.polygon_overlay.specs.declared.relate.Relations.{Relations}
use Rattle.polybool.specs.declared.place.Place.{Place}
use Rattle.polybool.specs.declared.place.Place.TheVariants.{Inside, Outside, OnEdge}
use Rattle.polybool.specs.declared.refusal.Refusal.{Refusal}
use Rattle.polybool.specs.declared.refusal.Refusal.TheVariants.{UnknownWord, Arguments, Range, NoAnswer, NoPoints, Count, Edges, Memory, TooLong}

-- a line's end
abbrev pub end : List ℕ
end = 10 ∷ []

-- the number of a refusal
abbrev pub code_of : Refusal → ℕ
code_of UnknownWord = 1
code_of Arguments = 2
code_of Range = 3
code_of NoAnswer = 4
code_of NoPoints = 5
code_of Count = 6
code_of Edges = 7
code_of Memory = 8
code_of TooLong = 9

-- the reply to a line that was refused
unfoldable pub error_text : ℕ → Refusal → List ℕ
error_text number e = codes "error " ++ decimal number ++ codes " " ++ decimal (code_of e) ++ end

-- the reply to a line whose request was done
abbrev pub ok_text : List ℕ
ok_text = codes "ok" ++ end

-- the reply with an area
unfoldable pub area_text : ℤ → List ℕ
area_text area = codes "area " ++ signed_decimal area ++ end

-- whether something holds
abbrev pub truth_text : Bool → List ℕ
truth_text true = codes "true"
truth_text false = codes "false"

-- the reply with a place
abbrev pub place_text : Place → List ℕ
place_text Inside = codes "inside" ++ end
place_text Outside = codes "outside" ++ end
place_text OnEdge = codes "edge" ++ end

-- the reply with relations
unfoldable pub relations_text : Relations → List ℕ
relations_text r =
    (codes "intersects " ++ truth_text r.intersects)
    ++ (codes " interiors_intersect " ++ truth_text r.interiors_intersect)
    ++ (codes " touches " ++ truth_text r.touches)
    ++ (codes " point_intersects " ++ truth_text r.point_intersects)
    ++ (codes " within " ++ truth_text r.within)
    ++ (codes " disjoint " ++ truth_text r.disjoint)
    ++ (codes " covers " ++ truth_text r.covers)
    ++ end

abbrev pub point_text : Point → List ℕ
point_text p = codes " " ++ signed_decimal p.x ++ codes " " ++ signed_decimal p.y

abbrev pub contour_text : List Point → List ℕ
contour_text c = codes "contour" ++ flat_map point_text c ++ end

abbrev pub shape_text : List (List Point) → List ℕ
shape_text s = codes "shape " ++ decimal (length s) ++ end ++ flat_map contour_text s

-- the reply with the shapes of an answer
unfoldable pub shapes_text : List (List (List Point)) → List ℕ
shapes_text shapes = codes "shapes " ++ decimal (length shapes) ++ end ++ flat_map shape_text shapes

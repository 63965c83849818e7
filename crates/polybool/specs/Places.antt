-- Where a point lies in the last answer.
use Rattle.std.specs.Prelude.{◌≡◌, ◌⊎◌, cond, List, None, Some}
use Rattle.plane_base.specs.Plane.{Point}
use Rattle.segment_arrangement.specs.FanLaws.{whole}
use Rattle.contour_walk.specs.BindingLaws.{all_contours}
use Rattle.polygon_overlay.specs.Location.{in_shapes, is_on_edge}
use Rattle.polybool.specs.Stores.{Store, LastAnswer, KeepsCorners, KeepsPoints}
use Rattle.polybool.specs.declared.place.Place.{Place}
use Rattle.polybool.specs.declared.place.Place.TheVariants.{Inside, Outside, OnEdge}
use Rattle.polybool.specs.declared.refusal.Refusal.{Refusal}
use Rattle.polybool.specs.declared.refusal.Refusal.TheVariants.{NoAnswer, NoPoints, Memory}
use Rattle.polybool.specs.declared.words.Keep.TheVariants.{Points}

-- On an edge comes first: inside and outside are told of all other points.
abbrev pub place_of : List (List (List Point)) → Point → Place
place_of shapes p = cond (is_on_edge (all_contours shapes) (whole p)) OnEdge (cond (in_shapes shapes (whole p)) Inside Outside)

-- The last answer has the points that its contours pass straight, and the point lies there.
abbrev pub IsPlaced : Store → Point → Place → Type 0
IsPlaced kept p place = (answer : LastAnswer) × (kept.answer ≡ Some answer) × (answer.keep ≡ Points) × (place ≡ place_of answer.shapes p)

-- Why no point is located: there is no answer yet; the last has corners alone; or memory was refused.
abbrev pub IsNotPlaced : Store → Refusal → Type 0
IsNotPlaced kept e = ((e ≡ NoAnswer) × (kept.answer ≡ None)) ⊎ ((e ≡ NoPoints) × KeepsCorners kept) ⊎ ((e ≡ Memory) × KeepsPoints kept)

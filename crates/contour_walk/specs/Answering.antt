-- How the contours of a boundary are answered.
use Rattle.std.specs.Prelude.{◌≡◌, ℕ, zero, Bool, true, false, List, map, filter}
use Rattle.plane_base.specs.Plane.{Point}
use Rattle.contour_walk.specs.Walks.{Border, Contour, walks}
use Rattle.contour_walk.specs.Shapes.{finished, shapes_from, answer}
use Rattle.contour_walk.specs.Parted.{contours_for}
use Rattle.contour_walk.specs.Least.{reaches, reaching, AreLeft}
use Rattle.contour_walk.specs.ShapeViews.{is_clockwise}
use Rattle.contour_walk.specs.declared.options.IntOverlayOptions.{IntOverlayOptions}

-- whether outlines run clockwise, whether points that contours pass straight are kept, whether contours that touch themselves are
-- parted, and the least area of a contour
pub record Answering : Type 0 where
  pub clockwise : Bool
  pub keep_all : Bool
  pub parted : Bool
  pub least : ℕ

abbrev pub answering_of : IntOverlayOptions → Answering
answering_of o = record {
  clockwise = is_clockwise o.output_direction;
  keep_all = o.preserve_output_collinear;
  parted = o.ogc;
  least = o.min_output_area;
}

-- the same with all points, and no least area
abbrev pub with_all : Answering → Answering
with_all o = record { clockwise = o.clockwise; keep_all = true; parted = o.parted; least = 0 }

-- ---- contours one after another

-- the contours that reach the least area, as they are answered
abbrev pub flat_contours : Answering → List Contour → List (List Point)
flat_contours o cs = map (finished o.keep_all) (filter (reaches o.least) (map (λ c. c.points) cs))

-- The answer without shapes: outlines and holes alike, in order of the walks.
abbrev pub flat_answer : Answering → List Border → List (List Point)
flat_answer o links = flat_contours o (walks o.clockwise links)

-- ---- shapes

-- the shapes of contours along a boundary that reach the least area, as they are answered
abbrev pub answered : Answering → List Border → List Contour → List (List (List Point))
answered o links cs = map (map (finished o.keep_all)) (reaching o.least (shapes_from links cs zero cs))

-- The answer: the shapes of the walks, parted or not.
abbrev pub answer_with : Answering → List Border → List (List (List Point))
answer_with o links = answered o links (contours_for o.parted o.clockwise links)

-- With a least area of 0 every shape is answered.
abbrev pub ZeroKeepsAll : Type 0
ZeroKeepsAll = (o : Answering) (links : List Border) → o.parted ≡ false → o.least ≡ 0 → answer_with o links ≡ answer o.clockwise o.keep_all links

-- Those of all shapes are answered that reach the least area.
abbrev pub AnswersThoseLeft : Answering → List Border → List (List (List Point)) → Type 0
AnswersThoseLeft o links shapes =
    (left : List (List (List Point))) × AreLeft o.least (answer_with (with_all o) links) left × (shapes ≡ map (map (finished o.keep_all)) left)

-- The answer has those.
abbrev pub AnswersReachLeast : Type 0
AnswersReachLeast = (o : Answering) (links : List Border) → AnswersThoseLeft o links (answer_with o links)

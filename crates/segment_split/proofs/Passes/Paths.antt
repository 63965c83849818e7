-- What holds all along a path.
use Rattle.std.proofs.Common.{List, [], ◌∷◌, ◌++◌, All}
use Rattle.std.proofs.lemmas.List.Elements.{All-nil, All-cons, All-append}
use Rattle.plane_base.specs.Plane.{Point, Edge}
use Rattle.segment_split.specs.Paths.{along, path}
use Rattle.segment_split.proofs.Spread.StaircaseMarks.{along_all}

-- what holds of an edge's ends and its marks holds all along its path
pub path_all : (P : Point → Type 0) (s : Edge) (marks : List Point) → P s.a → P s.b → All P marks → All P (path s marks)
path_all P s marks a b all =
    All-cons P s.a (along s marks ++ (s.b ∷ [])) a
    (All-append P (along s marks) (s.b ∷ []) (along_all s P marks all) (All-cons P s.b [] b (All-nil P)))

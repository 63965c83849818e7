-- Clips: the steps of lines that a clip rule keeps, and the paths that pass each of them once.
use Rattle.std.specs.Prelude.{◌≡◌, ◌≢◌, ◌⊎◌, true, List, [], ◌∷◌, ◌++◌, flat_map, Option, Some, None, All, Contains, IsPermutation}
use Rattle.std.specs.declared.cmp.Ordering.TheVariants.{Less}
use Rattle.plane_base.specs.Plane.{Point, Edge, is_before, edge_order}
use Rattle.contour_walk.specs.Walks.{between}

-- the step along the same edge the other way
abbrev pub turned : Edge → Edge
turned s = record { a = s.b; b = s.a }

-- the steps of an open path, from each point to the next
abbrev pub path_steps : List Point → List Edge
path_steps [] = []
path_steps (p ∷ []) = []
path_steps (p ∷ q ∷ rest) = record { a = p; b = q } ∷ path_steps (q ∷ rest)

abbrev pub first_of : {A : Type 0} → List A → Option A
first_of [] = None
first_of (x ∷ xs) = Some x

abbrev pub last_of : {A : Type 0} → List A → Option A
last_of [] = None
last_of (x ∷ []) = Some x
last_of (x ∷ y ∷ rest) = last_of (y ∷ rest)

-- ---- paths

-- The edge, its lesser end first, is the least along which a step is left.
pub record IsLeastLeft (left : List Edge) (s : Edge) : Type 0 where
  pub directed : is_before s.a s.b ≡ true
  pub some : Contains left s ⊎ Contains left (turned s)
  pub least : All (λ t. edge_order (between t.a t.b) s ≢ Less) left

-- no step of the list leaves the path's last point
abbrev pub NoneGoesOn : List Point → List Edge → Type 0
NoneGoesOn path rest = All (λ s. last_of path ≢ Some s.a) rest

-- no step of the list leads to the path's first point
abbrev pub NoneLeadsTo : List Point → List Edge → Type 0
NoneLeadsTo path rest = All (λ s. first_of path ≢ Some s.b) rest

-- A path of steps that are left, and those that are left after it.
pub record IsClipPath (left : List Edge) (path : List Point) (rest : List Edge) : Type 0 where
  -- It passes some of them, each once, and leaves the rest.
  pub passes : IsPermutation left (path_steps path ++ rest)
  -- It is begun along the least edge along which a step is left: by the step from its lesser end, if that is left, and then it goes
  -- on as long as a step is left that leaves its last point.
  pub along : Edge
  pub least : IsLeastLeft left along
  pub forward : Contains left along → (first_of (path_steps path) ≡ Some along) × NoneGoesOn path rest
  -- Or else by the other step, and then it is built backward, as long as a step is left that leads to its first point.
  pub backward : (Contains left along → ⊥) → (last_of (path_steps path) ≡ Some (turned along)) × NoneLeadsTo path rest

-- Paths one after another, until no step is left.
abbrev pub AreClipPaths : List Edge → List (List Point) → Type 0
AreClipPaths left [] = left ≡ []
AreClipPaths left (path ∷ paths) = (rest : List Edge) × IsClipPath left path rest × AreClipPaths rest paths

-- The paths of a clip that keeps these steps: each step stands in exactly one path, in its own direction.
pub record IsClip (steps : List Edge) (paths : List (List Point)) : Type 0 where
  pub once : IsPermutation steps (flat_map path_steps paths)
  pub in_turn : AreClipPaths steps paths

-- Shapes to which holes are joined one after another.
use Rattle.std.proofs.Common.{◌≡◌, ◌≢◌, refl, sym, ap, ap₂, ◌∙◌, subst, ℕ, zero, suc, ◌+◌, ◌<◌, ◌≤◌, ◌==◌, ◌⊎◌, inl, inr, Bool, true, false, not, cond, List, [], ◌∷◌, ◌++◌, map, filter, drop, take, length, get_or, All, append-nil, append_assoc, arith}
use Rattle.std.specs.Prelude.{Option, Some, None}
use Rattle.std.specs.Option.{is_some}
use Rattle.std.proofs.Math.ListN.{set}
use Rattle.std.proofs.lemmas.Bool.{eq-eqb, eqb-true, false≢true, cases_eq}
use Rattle.std.proofs.lemmas.List.{length-map, length-set, map-append, map-set, get_or-map, get_or-set_same, get_or-set_other}
use Rattle.plane_base.proofs.Facts.Lists.Views.{drop-mapped}
use Rattle.plane_base.specs.Plane.{Point}
use Rattle.contour_walk.specs.Walks.{Border, Contour}
use Rattle.contour_walk.specs.Binding.{contour_at, hole_owner, owned_from}
use Rattle.contour_walk.specs.Shapes.{is_owned_by, holes_from, shapes_from}
use Rattle.contour_walk.specs.ShapeViews.{contour_below, owners_from}
use Rattle.contour_walk.specs.BindingLaws.{HolesAreOwned}
use Rattle.contour_walk.specs.BinderOwners.{AreOwners, HoldsHoles, places_from, IsOnlyOutline}
use Rattle.contour_walk.proofs.Facts.Contours.Rays.{contour_is, owner_at, no_owner, owner_lost, owner_found, owner_passed}
use Rattle.contour_walk.proofs.Binder.Sweeps.{before_or_last}

-- ---- the owner is an outline

abbrev IsOutline : List Contour → ℕ → Type 0
IsOutline cs m = (d : Contour) × (contour_at cs m ≡ Some d) × (d.is_hole ≡ false)

pub owner_is_outline : (links : List Border) (cs : List Contour) (k hole m : ℕ) → hole_owner links cs k hole ≡ Some m → IsOutline cs m
owner_is_outline links cs zero hole m e = absurd (cc)
owner_is_outline links cs (suc k) hole m e = by (contour_below (owned_from links zero cs) cs hole) refl (λ n f. owner_is_outline links cs k n m f)
  where
    met : (n : ℕ) (d : Contour) → contour_below (owned_from links zero cs) cs hole ≡ Some n → contour_at cs n ≡ Some d → (b : Bool) → d.is_hole ≡ b
        → (hole_owner links cs k n ≡ Some m → IsOutline cs m) → IsOutline cs m
    met n d below at true is rest = rest (sym (owner_passed links cs k (suc k) hole refl n below d at is) ∙ e)
    met n d below at false is rest =
        let same : Some n ≡ Some m = sym (owner_found links cs k (suc k) hole refl n below d at is) ∙ e in
        let number : n ≡ m = cc in
        subst (IsOutline cs) number (d, at, is)

    by_contour : (n : ℕ) → contour_below (owned_from links zero cs) cs hole ≡ Some n → (c : Option Contour) → contour_at cs n ≡ c
        → (hole_owner links cs k n ≡ Some m → IsOutline cs m) → IsOutline cs m
    by_contour n below None lost rest = let none = sym (owner_lost links cs k (suc k) hole refl n below lost) ∙ e in absurd (cc)
    by_contour n below (Some d) at rest = met n d below at d.is_hole refl rest

    by : (b : Option ℕ) → contour_below (owned_from links zero cs) cs hole ≡ b → ((n : ℕ) → hole_owner links cs k n ≡ Some m → IsOutline cs m) → IsOutline cs m
    by None nothing rest = let none = sym (no_owner links cs k (suc k) hole refl nothing) ∙ e in absurd (cc)
    by (Some n) below rest = by_contour n below (contour_at cs n) refl (rest n)

pub contour_within : (cs : List Contour) (m : ℕ) (d : Contour) → contour_at cs m ≡ Some d → m < length cs
contour_within [] m d at = absurd (cc)
contour_within (c ∷ cs) zero d at = omega arith
contour_within (c ∷ cs) (suc m) d at = let l = contour_within cs m d at in omega (arith, l)

-- ---- one contour more

module _ (links : List Border) (all : List Contour) where
  -- the contour, where it is a hole with this owner
  abbrev hole_if : ℕ → Contour → Option ℕ → List (List Point)
  hole_if outline c owner = cond c.is_hole (cond (is_owned_by outline owner) (c.points ∷ []) []) []

  holes_with : (outline n : ℕ) (first : List Contour) (c : Contour)
      → holes_from links all outline n (first ++ c ∷ []) ≡ holes_from links all outline n first ++ hole_if outline c (hole_owner links all (length all) (n + length first))
  holes_with outline n [] c = ap (λ m. hole_if outline c (hole_owner links all (length all) m)) (omega arith)
  holes_with outline n (d ∷ first) c =
      by d.is_hole (is_owned_by outline (hole_owner links all (length all) n)) (holes_from links all outline (suc n) (first ++ c ∷ [])) (holes_from links all outline (suc n) first)
      (hole_if outline c (hole_owner links all (length all) (n + length (d ∷ first))))
      (holes_with outline (suc n) first c ∙ ap (λ m. holes_from links all outline (suc n) first ++ hole_if outline c (hole_owner links all (length all) m)) up)
    where
      up : suc n + length first ≡ n + length (d ∷ first)
      up = omega arith

      by : (hole owned : Bool) (new old more : List (List Point)) → new ≡ old ++ more
          → cond hole (cond owned (d.points ∷ new) new) new ≡ cond hole (cond owned (d.points ∷ old) old) old ++ more
      by true true new old more e = ap (λ hs. d.points ∷ hs) e
      by true false new old more e = e
      by false owned new old more e = e

  holes_of_more : (outline : ℕ) (first : List Contour) (c : Contour)
      → holes_from links all outline zero (first ++ c ∷ []) ≡ holes_from links all outline zero first ++ hole_if outline c (hole_owner links all (length all) (length first))
  holes_of_more outline first c =
      let all_of : zero + length first ≡ length first = omega arith in
      holes_with outline zero first c ∙ ap (λ m. holes_from links all outline zero first ++ hole_if outline c (hole_owner links all (length all) m)) all_of

  module _ (first : List Contour) (c : Contour) where
    -- what isn't a hole, or has no owner, is added nowhere
    none_added : ((outline : ℕ) → hole_if outline c (hole_owner links all (length all) (length first)) ≡ []) → (n : ℕ) (cs : List Contour)
        → places_from links all (first ++ c ∷ []) n cs ≡ places_from links all first n cs
    none_added none n [] = refl
    none_added none n (d ∷ cs) =
        ap₂ (λ hs rest. cond d.is_hole [] (d.points ∷ hs) ∷ rest)
        (holes_of_more n first c ∙ (ap (λ hs. holes_from links all n zero first ++ hs) (none n) ∙ append-nil (holes_from links all n zero first)))
        (none_added none (suc n) cs)

    pub outline_added : c.is_hole ≡ false → (n : ℕ) (cs : List Contour) → places_from links all (first ++ c ∷ []) n cs ≡ places_from links all first n cs
    outline_added is = none_added (λ outline. ap (λ b. cond b (cond (is_owned_by outline (hole_owner links all (length all) (length first))) (c.points ∷ []) []) []) is)

    pub unowned_added : hole_owner links all (length all) (length first) ≡ None → (n : ℕ) (cs : List Contour) → places_from links all (first ++ c ∷ []) n cs ≡ places_from links all first n cs
    unowned_added none = none_added (λ outline. ap (hole_if outline c) none ∙ by c.is_hole)
      where
        by : (b : Bool) → cond b (cond false (c.points ∷ []) []) [] ≡ []
        by true = refl
        by false = refl

    -- a hole is added to its owner's place, and to no other
    module _ (m : ℕ) (is : c.is_hole ≡ true) (owner : hole_owner links all (length all) (length first) ≡ Some m) where
      added : (outline : ℕ) (b : Bool) → m == outline ≡ b → hole_if outline c (hole_owner links all (length all) (length first)) ≡ cond b (c.points ∷ []) []
      added outline b e = ap (hole_if outline c) owner ∙ (ap (λ b. cond b (cond (m == outline) (c.points ∷ []) []) []) is ∙ ap (λ b. cond b (c.points ∷ []) []) e)

      later : (n : ℕ) (cs : List Contour) → m < n → places_from links all (first ++ c ∷ []) n cs ≡ places_from links all first n cs
      later n [] l = refl
      later n (d ∷ cs) l =
          ap₂ (λ hs rest. cond d.is_hole [] (d.points ∷ hs) ∷ rest)
          (holes_of_more n first c ∙ (ap (λ hs. holes_from links all n zero first ++ hs) (added n false (other (m == n) refl)) ∙ append-nil (holes_from links all n zero first)))
          (later (suc n) cs (omega (arith, l)))
        where
          other : (b : Bool) → m == n ≡ b → b ≡ false
          other true e = let same = eqb-true m n e in absurd (omega (arith, l, same))
          other false e = refl

      pub hole_added : (n k : ℕ) (cs : List Contour) (d : Contour) → m ≡ n + k → contour_at cs k ≡ Some d → d.is_hole ≡ false
          → places_from links all (first ++ c ∷ []) n cs ≡ set (places_from links all first n cs) k (get_or (places_from links all first n cs) k [] ++ c.points ∷ [])
      hole_added n k [] d e at outline = absurd (cc)
      hole_added n zero (b ∷ cs) d e at outline =
          let same : b ≡ d = cc in
          let solid : b.is_hole ≡ false = ap (λ (c : Contour). c.is_hole) same ∙ outline in
          let here : m == n ≡ true = eq-eqb m n (omega (arith, e)) in
          ap₂ (λ p rest. p ∷ rest)
          (ap (λ hs. cond b.is_hole [] (b.points ∷ hs)) (holes_of_more n first c ∙ ap (λ hs. holes_from links all n zero first ++ hs) (added n true here)) ∙ by b.is_hole solid)
          (later (suc n) cs (omega (arith, e)))
        where
          by : (h : Bool) → h ≡ false → cond h [] (b.points ∷ holes_from links all n zero first ++ c.points ∷ []) ≡ cond h [] (b.points ∷ holes_from links all n zero first) ++ c.points ∷ []
          by true h = absurd (false≢true (sym h))
          by false h = refl
      hole_added n (suc k) (b ∷ cs) d e at outline =
          ap₂ (λ hs rest. cond b.is_hole [] (b.points ∷ hs) ∷ rest)
          (holes_of_more n first c ∙ (ap (λ hs. holes_from links all n zero first ++ hs) (added n false (other (m == n) refl)) ∙ append-nil (holes_from links all n zero first)))
          (hole_added (suc n) k cs d (omega (arith, e)) at outline)
        where
          other : (b : Bool) → m == n ≡ b → b ≡ false
          other true f = let same = eqb-true m n f in absurd (omega (arith, e, same))
          other false f = refl

-- ---- all holes added

-- what has no contour is no shape
abbrev pub has_some : {X : Type 0} → List X → Bool
has_some [] = false
has_some (x ∷ xs) = true

pub shapes_are_left : (links : List Border) (all : List Contour) (f : List Point → List Point) (n : ℕ) (cs : List Contour)
    → filter has_some (map (map f) (places_from links all all n cs)) ≡ map (map f) (shapes_from links all n cs)
shapes_are_left links all f n [] = refl
shapes_are_left links all f n (c ∷ cs) = by (shapes_are_left links all f (suc n) cs) c.is_hole
  where
    by : filter has_some (map (map f) (places_from links all all (suc n) cs)) ≡ map (map f) (shapes_from links all (suc n) cs)
        → (b : Bool) → filter has_some (map f (cond b [] (c.points ∷ holes_from links all n zero all)) ∷ map (map f) (places_from links all all (suc n) cs)) ≡ map (map f) (cond b (shapes_from links all (suc n) cs) ((c.points ∷ holes_from links all n zero all) ∷ shapes_from links all (suc n) cs))
    by rest true = rest
    by rest false = ap (λ ss. map f (c.points ∷ holes_from links all n zero all) ∷ ss) rest

pub many_places : (links : List Border) (all first : List Contour) (n : ℕ) (cs : List Contour) → length (places_from links all first n cs) ≡ length cs
many_places links all first n [] = refl
many_places links all first n (c ∷ cs) = ap suc (many_places links all first (suc n) cs)

-- ---- the contour at a place

taken_with : (cs : List Contour) (i : ℕ) (c : Contour) → contour_at cs i ≡ Some c → take (i + 1) cs ≡ take i cs ++ c ∷ []
taken_with [] i c at = absurd (cc)
taken_with (b ∷ cs) zero c at = ap (λ d. d ∷ []) (cc)
taken_with (b ∷ cs) (suc i) c at =
    let up : suc i + 1 ≡ suc (i + 1) = omega arith in
    ap (λ k. take k (b ∷ cs)) up ∙ ap (λ ds. b ∷ ds) (taken_with cs i c at)

taken_many : (cs : List Contour) (i : ℕ) (c : Contour) → contour_at cs i ≡ Some c → length (take i cs) ≡ i
taken_many [] i c at = absurd (cc)
taken_many (b ∷ cs) zero c at = refl
taken_many (b ∷ cs) (suc i) c at = ap suc (taken_many cs i c at)

module _ (links : List Border) (cs : List Contour) (owners : List (Option ℕ)) (own : AreOwners links cs owners) (i : ℕ) (c : Contour) (at : contour_at cs i ≡ Some c) where
  abbrev before : List (List (List Point))
  before = places_from links cs (take i cs) 0 cs

  abbrev after : List (List (List Point))
  after = places_from links cs (take (i + 1) cs) 0 cs

  after_is : after ≡ places_from links cs (take i cs ++ c ∷ []) 0 cs
  after_is = ap (λ first. places_from links cs first 0 cs) (taken_with cs i c at)

  owner_is : (d o : Option ℕ) → c.is_hole ≡ true → get_or owners i d ≡ o → hole_owner links cs (length cs) (length (take i cs)) ≡ o
  owner_is d o is e = ap (hole_owner links cs (length cs)) (taken_many cs i c at) ∙ (sym (own i c d at is) ∙ e)

  pub outline_stays : c.is_hole ≡ false → before ≡ after
  outline_stays is = sym (after_is ∙ outline_added links cs (take i cs) c is 0 cs)

  module _ (d : Option ℕ) (is : c.is_hole ≡ true) where
    pub unowned_stays : get_or owners i d ≡ None → before ≡ after
    unowned_stays e = sym (after_is ∙ unowned_added links cs (take i cs) c (owner_is d None is e) 0 cs)

    module _ (m : ℕ) (e : get_or owners i d ≡ Some m) where
      owning : IsOutline cs m
      owning = owner_is_outline links cs (length cs) (length (take i cs)) m (owner_is d (Some m) is e)

      pub owner_within : m < length cs
      owner_within = contour_within cs m owning.0 owning.1

      pub hole_joins : set before m (get_or before m [] ++ c.points ∷ []) ≡ after
      hole_joins = sym (after_is ∙ hole_added links cs (take i cs) c m is (owner_is d (Some m) is e) 0 m cs owning.0 (omega arith) owning.1 owning.2)

-- the place of the owner, with one contour more
pub joined : (f : List Point → List Point) (ss before after : List (List (List Point))) (m : ℕ) (p : List Point) (s d : List (List Point)) → m < length ss → s ≡ get_or ss m d
    → ss ≡ map (map f) before → set before m (get_or before m [] ++ p ∷ []) ≡ after → set ss m (s ++ f p ∷ []) ≡ map (map f) after
joined f ss before after m p s d inside at is e =
    let many : m < length before = omega (arith, inside, ap length is, length-map before (map f)) in
    let there : s ≡ map f (get_or before m []) = at ∙ (ap (λ t. get_or t m d) is ∙ get_or-map (map f) before m [] d many) in
    ap₂ (λ t u. set t m u) is (ap (λ t. t ++ f p ∷ []) there ∙ sym (map-append f (get_or before m []) (p ∷ [])))
    ∙ (sym (map-set (map f) before m (get_or before m [] ++ p ∷ [])) ∙ ap (map (map f)) e)

-- ---- a place for each contour

-- one place more
pub places_more : {X : Type 0} (f : X → Contour) (xs : List X) (links : List Border) (finish : List Point → List Point) (i : ℕ) (x : X) (s : List (List Point)) (so_far : List (List (List Point)))
    → i < length xs → x ≡ get_or xs i x → ((f x).is_hole ≡ true → s ≡ []) → ((f x).is_hole ≡ false → s ≡ finish (f x).points ∷ [])
    → (so_far ++ s ∷ []) ++ map (map finish) (places_from links (map f xs) [] (i + 1) (drop (i + 1) (map f xs)))
    ≡ so_far ++ map (map finish) (places_from links (map f xs) [] i (drop i (map f xs)))
places_more f xs links finish i x s so_far inside at hole outline =
    append_assoc so_far (s ∷ []) later
    ∙ ap (λ ps. so_far ++ ps)
    (ap (λ t. t ∷ later) (by (f x).is_hole refl) ∙ (ap (λ n. map finish place ∷ map (map finish) (places_from links (map f xs) [] n (drop (i + 1) (map f xs)))) (sym up)
    ∙ sym (ap (λ cs. map (map finish) (places_from links (map f xs) [] i cs)) (drop-mapped f xs i x inside at))))
  where
    up : suc i ≡ i + 1
    up = omega arith

    later : List (List (List Point))
    later = map (map finish) (places_from links (map f xs) [] (i + 1) (drop (i + 1) (map f xs)))

    place : List (List Point)
    place = cond (f x).is_hole [] ((f x).points ∷ [])

    by : (b : Bool) → (f x).is_hole ≡ b → s ≡ map finish (cond (f x).is_hole [] ((f x).points ∷ []))
    by true e = hole e ∙ ap (λ b. map finish (cond b [] ((f x).points ∷ []))) (sym e)
    by false e = outline e ∙ ap (λ b. map finish (cond b [] ((f x).points ∷ []))) (sym e)

-- ---- what is left

some_by_length : {X Y : Type 0} (f : X → Y) (xs : List X) → has_some (map f xs) ≡ not (length xs == 0)
some_by_length f [] = refl
some_by_length f (x ∷ xs) = by (suc (length xs) == 0) refl
  where
    by : (b : Bool) → suc (length xs) == 0 ≡ b → true ≡ not b
    by true e = let none = eqb-true (suc (length xs)) 0 e in absurd (omega (arith, none))
    by false e = refl

pub left_mapped : {X Z Y : Type 0} (inner : X → List Z) (f : Z → Y) (xs : List X) → map (λ x. map f (inner x)) (filter (λ x. not (length (inner x) == 0)) xs) ≡ filter has_some (map (λ x. map f (inner x)) xs)
left_mapped inner f [] = refl
left_mapped {X = X} {Y = Y} inner f (x ∷ xs) = by (not (length (inner x) == 0)) (has_some (map f (inner x))) (some_by_length f (inner x)) (left_mapped inner f xs)
  where
    by : (b s : Bool) → s ≡ b → map (λ x. map f (inner x)) (filter (λ x. not (length (inner x) == 0)) xs) ≡ filter has_some (map (λ x. map f (inner x)) xs)
        → map (λ x. map f (inner x)) (cond b (x ∷ filter (λ x. not (length (inner x) == 0)) xs) (filter (λ x. not (length (inner x) == 0)) xs))
        ≡ cond s (map f (inner x) ∷ filter has_some (map (λ x. map f (inner x)) xs)) (filter has_some (map (λ x. map f (inner x)) xs))
    by true true e rest = ap (λ ss. map f (inner x) ∷ ss) rest
    by false false e rest = rest
    by true false e rest = absurd (false≢true e)
    by false true e rest = absurd (false≢true (sym e))

-- ---- the only outline

-- what was found stands for all outlines before the number
abbrev pub StandsBefore : List Contour → ℕ → Option ℕ → Type 0
StandsBefore cs number found = (n : ℕ) (c : Contour) → contour_at cs n ≡ Some c → c.is_hole ≡ false → n < number → found ≡ Some n

module _ {X : Type 0} (f : X → Contour) (xs : List X) (number : ℕ) (x : X) (inside : number < length xs) (at : x ≡ get_or xs number x) (found : Option ℕ) (stands : StandsBefore (map f xs) number found) where
  pub outline_stands : is_some found ≡ false → StandsBefore (map f xs) (number + 1) (Some number)
  outline_stands none n c here outline l = by (before_or_last n number l)
    where
      by : (n < number) ⊎ (n ≡ number) → Some number ≡ Some n
      by (inl k) = absurd (false≢true (sym none ∙ ap is_some (stands n c here outline k)))
      by (inr e) = ap (λ m. Some m) (sym e)

  pub hole_stands : (f x).is_hole ≡ true → StandsBefore (map f xs) (number + 1) found
  hole_stands hole n c here outline l = by (before_or_last n number l)
    where
      by : (n < number) ⊎ (n ≡ number) → found ≡ Some n
      by (inl k) = stands n c here outline k
      by (inr e) =
          let same : Some (f x) ≡ Some c = sym (contour_is f xs number x inside at) ∙ (ap (contour_at (map f xs)) (sym e) ∙ here) in
          let equal : f x ≡ c = cc in
          absurd (false≢true (sym outline ∙ (ap (λ (c : Contour). c.is_hole) (sym equal) ∙ hole)))

pub only_one : (cs : List Contour) (number m : ℕ) → length cs ≤ number → StandsBefore cs number (Some m) → IsOnlyOutline cs m
only_one cs number m all stands n c at outline =
    let within = contour_within cs n c at in
    let same : Some m ≡ Some n = stands n c at outline (omega (arith, within, all)) in
    cc

-- ---- all owners

pub one_owns_all : (links : List Border) (cs : List Contour) (owners : List (Option ℕ)) (m : ℕ) → HolesAreOwned links cs → IsOnlyOutline cs m
    → ((n : ℕ) (d : Option ℕ) → n < length cs → get_or owners n d ≡ Some m) → AreOwners links cs owners
one_owns_all links cs owners m owned only same n c d at hole =
    let h = owned n c at hole in
    let one : h.0 ≡ m = only h.0 h.1 h.3 h.4 in
    same n d (contour_within cs n c at) ∙ (ap (λ k. Some k) (sym one) ∙ sym h.2)

-- where no contour is a hole, there is no owner to be told
pub none_is_owned : {X : Type 0} (f : X → Contour) (xs : List X) (links : List Border) (owners : List (Option ℕ))
    → All (λ x. (f x).is_hole ≡ false) xs → AreOwners links (map f xs) owners
none_is_owned {X} f xs links owners none n c d at hole = absurd (by xs n none at)
  where
    by : (ys : List X) (m : ℕ) → All (λ x. (f x).is_hole ≡ false) ys → contour_at (map f ys) m ≡ Some c → ⊥
    by [] m outlines at = absurd (cc)
    by (y ∷ ys) zero outlines at =
        let equal : f y ≡ c = cc in
        false≢true (sym (outlines zero y (omega arith)) ∙ (ap (λ (c : Contour). c.is_hole) equal ∙ hole))
    by (y ∷ ys) (suc m) outlines at = by ys m (λ i e l. outlines (suc i) e (omega (arith, l))) at

pub all_are_owners : (links : List Border) (cs : List Contour) (owners : List (Option ℕ)) → owners ≡ owners_from links cs 0 cs → AreOwners links cs owners
all_are_owners links cs owners is n c d at hole = ap (λ os. get_or os n d) is ∙ owner_at links cs 0 n n cs d (contour_within cs n c at) (omega arith)

-- ---- contours that are emptied one after another

abbrev is_one : Contour → Bool
is_one c = c.is_hole

-- one more is changed: an outline, or a hole before those that stand
pub holes_stand : (n m k : ℕ) (cs ds : List Contour) (v : Contour) → k < length ds → n ≤ m → HoldsHoles n cs ds → ((d : Contour) → v.is_hole ≡ (get_or ds k d).is_hole)
    → (m ≤ k → (d : Contour) → (get_or ds k d).is_hole ≡ true → v ≡ get_or ds k d) → HoldsHoles m cs (set ds k v)
holes_stand n m k cs ds v inside le held flag same = (length-set ds k v ∙ held.0, λ i d. flags i d (cases_eq i k), λ i d later hole. stand i d later hole (cases_eq i k))
  where
    flags : (i : ℕ) (d : Contour) → (i ≡ k) ⊎ (i ≢ k) → (get_or (set ds k v) i d).is_hole ≡ (get_or cs i d).is_hole
    flags i d (inl e) = ap (λ j. is_one (get_or (set ds k v) j d)) e ∙ (ap is_one (get_or-set_same ds k v d inside) ∙ (flag d ∙ (ap (λ j. is_one (get_or ds j d)) (sym e) ∙ held.1 i d)))
    flags i d (inr n) = ap is_one (get_or-set_other ds k i v d n) ∙ held.1 i d

    stand : (i : ℕ) (d : Contour) → m ≤ i → (get_or cs i d).is_hole ≡ true → (i ≡ k) ⊎ (i ≢ k) → get_or (set ds k v) i d ≡ get_or cs i d
    stand i d later hole (inl e) =
        let there : get_or ds k d ≡ get_or ds i d = ap (λ j. get_or ds j d) (sym e) in
        ap (λ j. get_or (set ds k v) j d) e
        ∙ (get_or-set_same ds k v d inside
        ∙ (same (omega (arith, e, later)) d (ap is_one there ∙ (held.1 i d ∙ hole)) ∙ (there ∙ held.2 i d (omega (arith, le, later)) hole)))
    stand i d later hole (inr n) = get_or-set_other ds k i v d n ∙ held.2 i d (omega (arith, le, later)) hole

pub fewer_stand : (n m : ℕ) (cs ds : List Contour) → n ≤ m → HoldsHoles n cs ds → HoldsHoles m cs ds
fewer_stand n m cs ds le held = (held.0, held.1, λ i d later hole. held.2 i d (omega (arith, le, later)) hole)

pub contour_or : (cs : List Contour) (i : ℕ) (d : Contour) → i < length cs → contour_at cs i ≡ Some (get_or cs i d)
contour_or [] i d inside = absurd (omega (arith, inside))
contour_or (c ∷ cs) zero d inside = refl
contour_or (c ∷ cs) (suc i) d inside = contour_or cs i d (omega (arith, inside))

-- the contour at a place from which on holes stand
module _ {X : Type 0} (f : X → Contour) (xs : List X) (k : ℕ) (x : X) (inside : k < length xs) (at : x ≡ get_or xs k x) (cs : List Contour) (held : HoldsHoles k cs (map f xs)) where
  here : get_or (map f xs) k (f x) ≡ f x
  here = get_or-map f xs k x (f x) inside ∙ ap f (sym at)

  pub held_at : contour_at cs k ≡ Some (get_or cs k (f x))
  held_at = contour_or cs k (f x) (omega (arith, inside, length-map xs f, held.0))

  pub held_kind : (get_or cs k (f x)).is_hole ≡ (f x).is_hole
  held_kind = sym (held.1 k (f x)) ∙ ap is_one here

  pub held_same : (f x).is_hole ≡ true → get_or cs k (f x) ≡ f x
  held_same hole = sym (held.2 k (f x) (omega arith) (held_kind ∙ hole)) ∙ here

-- one contour is changed, and stays an outline or a hole
pub changed : {X : Type 0} (f : X → Contour) (xs : List X) (n m k : ℕ) (x v : X) (cs : List Contour) → k < length xs → x ≡ get_or xs k x → n ≤ m → (f v).is_hole ≡ (f x).is_hole
    → (m ≤ k → (f x).is_hole ≡ true → f v ≡ f x) → HoldsHoles n cs (map f xs) → HoldsHoles m cs (map f (set xs k v))
changed f xs n m k x v cs inside at le kind same held =
    subst (HoldsHoles m cs) (sym (map-set f xs k v))
    (holes_stand n m k cs (map f xs) (f v) (omega (arith, inside, length-map xs f)) le held (λ d. kind ∙ ap is_one (sym (there d))) (λ later d hole. same later (ap is_one (sym (there d)) ∙ hole) ∙ sym (there d)))
  where
    there : (d : Contour) → get_or (map f xs) k d ≡ f x
    there d = get_or-map f xs k x d inside ∙ ap f (sym at)

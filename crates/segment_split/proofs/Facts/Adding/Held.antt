-- What holds of edges that are held, and of all that edges and contours lay, holds of what adders leave.
use Rattle.std.specs.Prelude.{◌≡◌, ℤ, ◌+ℤ◌, Bool, true, false, List, [], ◌∷◌, ◌++◌, flat_map, All, OnOk, OnErr, IfErr}
use Rattle.std.specs.List.{AllZip}
use Rattle.std.specs.declared.cmp.Ordering.{Ordering}
use Rattle.std.specs.declared.cmp.Ordering.TheVariants.{Less, Equal, Greater}
use Rattle.std.specs.declared.result.Result.{Result}
use Rattle.std.specs.declared.result.Result.TheVariants.{Ok, Err}
use Rattle.std.proofs.Common.{sym, ap, ap₂, ◌∙◌, subst, append_assoc, append-nil}
use Rattle.std.proofs.lemmas.List.Concat.{flat_map-cons}
use Rattle.std.proofs.lemmas.List.Elements.{All-nil, All-cons, All-head, All-tail, All-append, All-weaker}
use Rattle.plane_base.specs.Plane.{Point, point_order, IsWithin, is_before}
use Rattle.plane_base.specs.Segments.{IsEdgeWithin}
use Rattle.plane_base.specs.Counts.{Counting, Entry, lay}
use Rattle.plane_base.specs.Given.{laid_path, closed, laid}
use Rattle.plane_base.specs.Balance.{mark, IsAdditive, IsBalanced}
use Rattle.plane_base.specs.declared.fault.Fault.{Fault}
use Rattle.plane_base.proofs.Facts.Maps.Laying.{lay_by, lay_directed, laid_path_directed, laid_directed}
use Rattle.plane_base.proofs.Facts.Maps.Balance.{fall_append, fall_contour}
use Rattle.plane_base.proofs.Facts.Thinning.Laws.{thinned_All}
use Rattle.plane_base.proofs.Facts.Lists.Cycles.{All-front}
use Rattle.segment_split.specs.SegmentViews.{AreWithin, AreCounted}
use Rattle.segment_split.specs.Adding.{IsTaken, Adds, AddsAll, AddsUntil}

-- ---- what edges, paths and contours lay

-- What holds of both ends of an edge and of its count holds of all that is laid, where it holds of the points and of the count.
module _ {C : Type 0} (kind : Counting C) (P : Point → Type 0) (Q : C → Type 0) where
  abbrev Holds : Entry C → Type 0
  Holds e = (P e.edge.a × P e.edge.b) × Q e.count

  pub lay_holds : (u v : Point) (c : C) → P u → P v → Q c → Q (kind.turned c) → All Holds (lay kind u v c)
  lay_holds u v c hu hv hc ht = by (point_order u v)
    where
      by : (o : Ordering) → All Holds (lay_by kind o u v c)
      by Less = All-cons Holds (record { edge = record { a = u; b = v }; count = c }) [] ((hu, hv), hc) (All-nil Holds)
      by Equal = All-nil Holds
      by Greater = All-cons Holds (record { edge = record { a = v; b = u }; count = kind.turned c }) [] ((hv, hu), ht) (All-nil Holds)

  pub laid_path_holds : (c : C) → Q c → Q (kind.turned c) → (path : List Point) → All P path → All Holds (laid_path kind c path)
  laid_path_holds c hc ht [] all = All-nil Holds
  laid_path_holds c hc ht (p ∷ []) all = All-nil Holds
  laid_path_holds c hc ht (p ∷ q ∷ rest) all =
      All-append Holds (lay kind p q c) (laid_path kind c (q ∷ rest))
      (lay_holds p q c (All-head P p (q ∷ rest) all) (All-head P q rest (All-tail P p (q ∷ rest) all)) hc ht)
      (laid_path_holds c hc ht (q ∷ rest) (All-tail P p (q ∷ rest) all))

  pub laid_holds : (c : C) → Q c → Q (kind.turned c) → (contour : List Point) → All P contour → All Holds (laid kind c contour)
  laid_holds c hc ht [] all = All-nil Holds
  laid_holds c hc ht (p ∷ rest) all =
      laid_path_holds c hc ht (closed (p ∷ rest))
      (All-append P (p ∷ rest) (p ∷ []) all (All-cons P p [] (All-head P p rest all) (All-nil P)))

-- a count that counts for something, turned too
pub record CountsForSome {C : Type 0} (kind : Counting C) (c : C) : Type 0 where
  pub some : kind.is_empty c ≡ false
  pub turned_some : kind.is_empty (kind.turned c) ≡ false

-- ---- held edges

-- Edges in range, lesser end first, each counting for something.
pub record AreHeld {C : Type 0} (kind : Counting C) (least greatest : ℤ) (es : List (Entry C)) : Type 0 where
  pub within : AreWithin least greatest es
  pub directed : All (λ e. is_before e.edge.a e.edge.b ≡ true) es
  pub counted : AreCounted kind es

module _ {C : Type 0} (kind : Counting C) (least greatest : ℤ) where
  pub none_held : AreHeld kind least greatest []
  none_held = record {
    within = All-nil (λ e. IsEdgeWithin least greatest e.edge);
    directed = All-nil (λ e. is_before e.edge.a e.edge.b ≡ true);
    counted = All-nil (λ e. kind.is_empty e.count ≡ false);
  }

  both_held : (es fs : List (Entry C)) → AreHeld kind least greatest es → AreHeld kind least greatest fs → AreHeld kind least greatest (es ++ fs)
  both_held es fs one two = record {
    within = All-append (λ e. IsEdgeWithin least greatest e.edge) es fs one.within two.within;
    directed = All-append (λ e. is_before e.edge.a e.edge.b ≡ true) es fs one.directed two.directed;
    counted = All-append (λ e. kind.is_empty e.count ≡ false) es fs one.counted two.counted;
  }

  module _ (c : C) (counts : CountsForSome kind c) where
    abbrev Full : C → Type 0
    Full d = kind.is_empty d ≡ false

    abbrev Both : Entry C → Type 0
    Both = Holds kind (IsWithin least greatest) Full

    laid_held : (es : List (Entry C)) → All Both es → All (λ e. is_before e.edge.a e.edge.b ≡ true) es → AreHeld kind least greatest es
    laid_held es all directed = record {
      within = All-weaker Both (λ e. IsEdgeWithin least greatest e.edge) (λ e h. h.0) es all;
      directed = directed;
      counted = All-weaker Both (λ e. kind.is_empty e.count ≡ false) (λ e h. h.1) es all;
    }

    pub held_with_edge : (es : List (Entry C)) (u v : Point) → IsWithin least greatest u → IsWithin least greatest v
        → AreHeld kind least greatest es → AreHeld kind least greatest (es ++ lay kind u v c)
    held_with_edge es u v hu hv held =
        both_held es (lay kind u v c) held
        (laid_held (lay kind u v c) (lay_holds kind (IsWithin least greatest) Full u v c hu hv counts.some counts.turned_some) (lay_directed kind u v c))

    pub held_with_path : (es : List (Entry C)) (path : List Point) → All (IsWithin least greatest) path
        → AreHeld kind least greatest es → AreHeld kind least greatest (es ++ laid_path kind c path)
    held_with_path es path inside held =
        both_held es (laid_path kind c path) held
        (laid_held (laid_path kind c path) (laid_path_holds kind (IsWithin least greatest) Full c counts.some counts.turned_some path inside)
        (laid_path_directed kind c path))

    pub held_with_contour : (es : List (Entry C)) (contour : List Point) → All (IsWithin least greatest) contour
        → AreHeld kind least greatest es → AreHeld kind least greatest (es ++ laid kind c contour)
    held_with_contour es contour inside held =
        both_held es (laid kind c contour) held
        (laid_held (laid kind c contour) (laid_holds kind (IsWithin least greatest) Full c counts.some counts.turned_some contour inside)
        (laid_directed kind c contour))

-- ---- balance of one reading

-- a contour leaves each point as often as it enters it, whatever its count is read as
pub balanced_with_contour : {C : Type 0} {kind : Counting C} {n : C → ℤ} → IsAdditive kind n → (c : C) (es : List (Entry C)) (contour : List Point)
    → IsBalanced n es → IsBalanced n (es ++ laid kind c contour)
balanced_with_contour {kind = kind} {n = n} additive c es contour balanced v =
    fall_append n (mark v) es (laid kind c contour) ∙ ap₂ (λ x y. x +ℤ y) (balanced v) (fall_contour additive (mark v) c contour)

-- ---- what adders leave

-- what stays true with each contour of points that a property holds of
module _ {C : Type 0} (kind : Counting C) (c : C) (keep_all : Bool) (P : Point → Type 0) (H : List (Entry C) → Type 0)
    (with_contour : (es : List (Entry C)) (contour : List Point) → All P contour → H es → H (es ++ laid kind c contour)) where
  pub taken_all : (k : Bool) (points taken : List Point) → IsTaken k points taken → All P points → All P taken
  taken_all true points taken is inside = subst (All P) (sym is) inside
  taken_all false points taken is inside = thinned_All P is inside

  pub stays_with_contour : (points : List Point) (old new : List (Entry C)) → All P points → H old → Adds kind c keep_all points old new → H new
  stays_with_contour points old new inside held adds =
      subst H (sym adds.2) (with_contour old adds.0 (taken_all keep_all points adds.0 adds.1 inside) held)

  stays_with_taken : (contours taken : List (List Point)) → AllZip (IsTaken keep_all) contours taken → All (All P) contours
      → (es : List (Entry C)) → H es → H (es ++ flat_map (laid kind c) taken)
  stays_with_taken [] [] zip inside es held = subst H (sym (append-nil es)) held
  stays_with_taken [] (y ∷ ys) zip inside es held = absurd zip
  stays_with_taken (x ∷ xs) [] zip inside es held = absurd zip
  stays_with_taken (x ∷ xs) (y ∷ ys) zip inside es held =
      subst H (append_assoc es (laid kind c y) (flat_map (laid kind c) ys) ∙ ap (λ l. es ++ l) (sym (flat_map-cons (laid kind c) y ys)))
      (stays_with_taken xs ys zip.1 (All-tail (All P) x xs inside) (es ++ laid kind c y)
      (with_contour es y (taken_all keep_all x y zip.0 (All-head (All P) x xs inside)) held))

  pub stays_with_contours : (contours : List (List Point)) (old new : List (Entry C)) → All (All P) contours → H old
      → AddsAll kind c keep_all contours old new → H new
  stays_with_contours contours old new inside held adds = subst H (sym adds.2) (stays_with_taken contours adds.0 adds.1 inside old held)

  pub stays_until : (contours : List (List Point)) (old new : List (Entry C)) (fault : Fault) → All (All P) contours → H old
      → AddsUntil kind c keep_all contours old new fault → H new
  stays_until contours old new fault inside held adds =
      stays_with_contours adds.before old new
      (All-front (All P) adds.before (adds.refused ∷ adds.after) (subst (All (All P)) adds.all inside)) held adds.adds

  pub stays_after_contour : (r : Result (Unit {0}) Fault) (points : List Point) (old new : List (Entry C)) → All P points → H old
      → OnOk r (Adds kind c keep_all points old new) → OnErr r (new ≡ old) → H new
  stays_after_contour (Ok u) points old new inside held ok err = stays_with_contour points old new inside held ok
  stays_after_contour (Err e) points old new inside held ok err = subst H (sym err) held

  pub stays_after_source : (r : Result (Unit {0}) Fault) (contours : List (List Point)) (old new : List (Entry C)) → All (All P) contours → H old
      → OnOk r (AddsAll kind c keep_all contours old new) → IfErr r (AddsUntil kind c keep_all contours old new) → H new
  stays_after_source (Ok u) contours old new inside held ok err = stays_with_contours contours old new inside held ok
  stays_after_source (Err e) contours old new inside held ok err = stays_until contours old new e inside held err

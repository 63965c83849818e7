-- The fills of links tell the boundary.
use Rattle.std.specs.Prelude.{◌≡◌, ℕ, ◌+◌, Bool, true, false, cond, List, [], ◌∷◌, map, filter, IfOk}
use Rattle.std.specs.declared.result.Result.{Result}
use Rattle.std.specs.declared.result.Result.TheVariants.{Ok, Err}
use Rattle.std.proofs.Common.{refl, ap, ap₂, ◌∙◌, inl, inr}
use Rattle.plane_base.specs.Counts.{Count, Entry}
use Rattle.plane_base.specs.Regions.{FillRule, OverlayRule, is_filled, holds, region}
use Rattle.segment_arrangement.specs.EdgeSides.{bit, differ, fill_bits, lower_side, upper_side, is_boundary, boundary}
use Rattle.segment_arrangement.specs.Graphs.{Link, link_of}
use Rattle.segment_arrangement.specs.Fills.{has, holds_above, holds_below, tells_apart}
use Rattle.contour_walk.specs.Walks.{Border, Contour}
use Rattle.contour_walk.specs.WalkLaws.{border_of, borders}
use Rattle.contour_walk.specs.Parted.{contours_for}
use Rattle.contour_walk.specs.Answering.{Answering, answered}
use Rattle.contour_walk.specs.Extraction.{border_of_link, borders_of_links, FillsTellBorders, AreLinksFor}

abbrev four : Bool → Bool → Bool → Bool → ℕ
four a b c d = (bit a 1 + bit b 2) + (bit c 4 + bit d 8)

record IsFour (a b c d : Bool) : Type 0 where
  subject_above : has 1 (four a b c d) ≡ a
  subject_below : has 2 (four a b c d) ≡ b
  clip_above : has 4 (four a b c d) ≡ c
  clip_below : has 8 (four a b c d) ≡ d

four_read : (a b c d : Bool) → IsFour a b c d
four_read true true true true = record { subject_above = refl; subject_below = refl; clip_above = refl; clip_below = refl }
four_read true true true false = record { subject_above = refl; subject_below = refl; clip_above = refl; clip_below = refl }
four_read true true false true = record { subject_above = refl; subject_below = refl; clip_above = refl; clip_below = refl }
four_read true true false false = record { subject_above = refl; subject_below = refl; clip_above = refl; clip_below = refl }
four_read true false true true = record { subject_above = refl; subject_below = refl; clip_above = refl; clip_below = refl }
four_read true false true false = record { subject_above = refl; subject_below = refl; clip_above = refl; clip_below = refl }
four_read true false false true = record { subject_above = refl; subject_below = refl; clip_above = refl; clip_below = refl }
four_read true false false false = record { subject_above = refl; subject_below = refl; clip_above = refl; clip_below = refl }
four_read false true true true = record { subject_above = refl; subject_below = refl; clip_above = refl; clip_below = refl }
four_read false true true false = record { subject_above = refl; subject_below = refl; clip_above = refl; clip_below = refl }
four_read false true false true = record { subject_above = refl; subject_below = refl; clip_above = refl; clip_below = refl }
four_read false true false false = record { subject_above = refl; subject_below = refl; clip_above = refl; clip_below = refl }
four_read false false true true = record { subject_above = refl; subject_below = refl; clip_above = refl; clip_below = refl }
four_read false false true false = record { subject_above = refl; subject_below = refl; clip_above = refl; clip_below = refl }
four_read false false false true = record { subject_above = refl; subject_below = refl; clip_above = refl; clip_below = refl }
four_read false false false false = record { subject_above = refl; subject_below = refl; clip_above = refl; clip_below = refl }

module _ (fill : FillRule) (rule : OverlayRule) where
  above_read : (lower upper : Count) → holds_above rule (fill_bits fill lower upper) ≡ region fill rule upper
  above_read lower upper =
      let bits = four_read (is_filled fill upper.subject) (is_filled fill lower.subject) (is_filled fill upper.clip) (is_filled fill lower.clip) in
      ap₂ (holds rule) bits.subject_above bits.clip_above

  below_read : (lower upper : Count) → holds_below rule (fill_bits fill lower upper) ≡ region fill rule lower
  below_read lower upper =
      let bits = four_read (is_filled fill upper.subject) (is_filled fill lower.subject) (is_filled fill upper.clip) (is_filled fill lower.clip) in
      ap₂ (holds rule) bits.subject_below bits.clip_below

  module _ (es : List (Entry Count)) where
    apart_read : (e : Entry Count) → tells_apart rule (link_of fill es e).fill ≡ is_boundary fill rule es e
    apart_read e = ap₂ differ (below_read (lower_side es e.edge) (upper_side es e)) (above_read (lower_side es e.edge) (upper_side es e))

    border_read : (e : Entry Count) → border_of_link rule (link_of fill es e) ≡ border_of fill rule es e
    border_read e = ap (λ b. record { edge = e.edge; above = b }) (above_read (lower_side es e.edge) (upper_side es e))

    abbrev test : Link → Bool
    test l = tells_apart rule l.fill

    all_told : (fs : List (Entry Count)) → map (border_of_link rule) (filter test (map (link_of fill es) fs)) ≡ map (border_of fill rule es) (filter (is_boundary fill rule es) fs)
    all_told [] = refl
    all_told (e ∷ fs) = by (is_boundary fill rule es e) (apart_read e) (all_told fs)
      where
        by : (b : Bool) → test (link_of fill es e) ≡ b
            → map (border_of_link rule) (filter test (map (link_of fill es) fs)) ≡ map (border_of fill rule es) (filter (is_boundary fill rule es) fs)
            → map (border_of_link rule) (cond (test (link_of fill es e)) (link_of fill es e ∷ filter test (map (link_of fill es) fs)) (filter test (map (link_of fill es) fs)))
            ≡ map (border_of fill rule es) (cond b (e ∷ filter (is_boundary fill rule es) fs) (filter (is_boundary fill rule es) fs))
        by true is rest = rw is (ap₂ (λ x xs. x ∷ xs) (border_read e) rest)
        by false is rest = rw is rest

    kept_told : (fs : List (Entry Count)) → filter test (map (link_of fill es) (filter (is_boundary fill rule es) fs)) ≡ map (link_of fill es) (filter (is_boundary fill rule es) fs)
    kept_told [] = refl
    kept_told (e ∷ fs) = by (is_boundary fill rule es e) (apart_read e) (kept_told fs)
      where
        by : (b : Bool) → test (link_of fill es e) ≡ b
            → filter test (map (link_of fill es) (filter (is_boundary fill rule es) fs)) ≡ map (link_of fill es) (filter (is_boundary fill rule es) fs)
            → filter test (map (link_of fill es) (cond b (e ∷ filter (is_boundary fill rule es) fs) (filter (is_boundary fill rule es) fs)))
            ≡ map (link_of fill es) (cond b (e ∷ filter (is_boundary fill rule es) fs) (filter (is_boundary fill rule es) fs))
        by true is rest = rw is (ap (λ xs. link_of fill es e ∷ xs) rest)
        by false is rest = rest

    plain_told : (fs : List (Entry Count)) → map (border_of_link rule) (map (link_of fill es) fs) ≡ map (border_of fill rule es) fs
    plain_told [] = refl
    plain_told (e ∷ fs) = ap₂ (λ x xs. x ∷ xs) (border_read e) (plain_told fs)

pub fills_tell_borders : FillsTellBorders
fills_tell_borders = record {
  of_all = λ fill rule es. all_told fill rule es es;
  of_boundary = λ fill rule es. ap (map (border_of_link rule)) (kept_told fill rule es es) ∙ plain_told fill rule es (boundary fill rule es);
}

-- ---- links one after another

-- ---- answers

pub both_answered : {T E : Type 0} (P Q : T → Type 0) (r : Result T E) → IfOk r P → IfOk r Q → IfOk r (λ t. P t × Q t)
both_answered P Q (Ok t) g h = (g, h)
both_answered P Q (Err e) g h = tt

-- the links for a map tell its boundary
pub links_tell : FillsTellBorders → (fill : FillRule) (rule : OverlayRule) (es : List (Entry Count)) (links : List Link) → AreLinksFor fill rule es links
    → borders_of_links rule links ≡ borders fill rule es
links_tell told fill rule es links (inl all) = ap (borders_of_links rule) all ∙ told.of_all fill rule es
links_tell told fill rule es links (inr bound) = ap (borders_of_links rule) bound ∙ told.of_boundary fill rule es

-- what is answered is what equals it
pub answered_same : {T E S : Type 0} (view : T → S) (r : Result T E) (a b : S) → a ≡ b → IfOk r (λ t. view t ≡ a) → IfOk r (λ t. view t ≡ b)
answered_same view (Ok t) a b same is = is ∙ same
answered_same view (Err e) a b same is = tt

-- contours along the same links are answered alike
pub same_answer : (o : Answering) (ls ms : List Border) (cs ds : List Contour) → ls ≡ ms → cs ≡ ds → answered o ls cs ≡ answered o ms ds
same_answer o ls ms cs ds links contours = ap (λ ks. answered o ks cs) links ∙ ap (answered o ms) contours

pub same_contours_for : (parted : Bool) (output clockwise : Bool) (ls ms : List Border) → output ≡ clockwise → ls ≡ ms → contours_for parted output ls ≡ contours_for parted clockwise ms
same_contours_for parted output clockwise ls ms direction links = ap (λ b. contours_for parted b ls) direction ∙ ap (contours_for parted clockwise) links

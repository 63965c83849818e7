-- Laws of points that are located.
use Rattle.std.proofs.Common.{◌≡◌, Bool, true, false, cond, List, sym, ap, ◌∙◌}
use Rattle.plane_base.specs.Plane.{Point}
use Rattle.segment_arrangement.specs.FanLaws.{whole}
use Rattle.contour_walk.specs.BindingLaws.{all_contours}
use Rattle.polygon_overlay.specs.Location.{in_shapes, is_on_edge}
use Rattle.polygon_c.specs.Placing.{place_of}
use Rattle.polygon_c.specs.Relating.{flag}

module _ (shapes : List (List (List Point))) (p : Point) where
  -- a point on an edge
  pub on_edge : (on : Bool) → on ≡ is_on_edge (all_contours shapes) (whole p) → on ≡ true → 2 ≡ place_of shapes p
  on_edge on is yes' = sym (ap (λ b. cond b 2 (flag (in_shapes shapes (whole p)))) (sym is ∙ yes'))

  -- any other point
  pub off_edges : (on : Bool) → on ≡ is_on_edge (all_contours shapes) (whole p) → on ≡ false → (inside : Bool) → inside ≡ in_shapes shapes (whole p)
      → flag inside ≡ place_of shapes p
  off_edges on is no' inside e = ap flag e ∙ sym (ap (λ b. cond b 2 (flag (in_shapes shapes (whole p)))) (sym is ∙ no'))

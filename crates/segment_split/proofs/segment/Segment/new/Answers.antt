use Rattle.std.proofs.Common.{◌≡◌, inl, false, refl, sym, ap, ◌∙◌}
use Rattle.std.proofs.lemmas.Bool.{false≢true}
use Rattle.std.specs.Ordering.{is_lt}
use Rattle.plane_base.specs.Plane.{point_order}
use Rattle.plane_base.specs.Views.{point_of}
use Rattle.segment_split.specs.Data.{carried}
use Rattle.segment_split.proofs.Lives.{within_point}
use Rattle.segment_split.proofs.Orders.{points_told, point_told, laid_on, laid_back, other_less}
use Rattle.segment_split.proofs.segment.Segment.new.Goals.{then-lt, else-lt}
use Rattle.segment_split.proofs.segment.Segment.new.Goals as goal

pub lt-requires : goal.lt-requires
lt-requires g c κs = within_point κs.1.1.0 g.row.I.lives

pub reversed-requires : goal.reversed-requires
reversed-requires g c κs = λ h. h

pub invert-requires : goal.invert-requires
invert-requires g c κs = λ h. h

pub invariant_of-result : goal.invariant_of-result
invariant_of-result g c =
    let value = g.I.OverlayInt.value in
    let a = c.args.a in
    let b = c.args.b in
    let told : c.lt.result ≡ is_lt (point_order (point_of value a) (point_of value b)) =
    c.lt.ensures ∙ (points_told value g.I.Ord.cmp g.met.I.OverlayInt.ordered g.I.PartialOrd.partial_cmp g.met.I.Ord.matches_partial_cmp a.x a.y b.x b.y ∙ ap is_lt (point_told value g.I.Ord.cmp g.met.I.OverlayInt.ordered a.x a.y b.x b.y)) in
    elim c.if-lt.branch [
      | then-lt w ↦
          rw w.result-is (record { directed = ap is_lt (point_told value g.I.Ord.cmp g.met.I.OverlayInt.ordered a.x a.y b.x b.y) ∙ (sym told ∙ w.if-lt.true) })
      | else-lt w ↦
          rw w.result-is (record { directed = ap is_lt (point_told value g.I.Ord.cmp g.met.I.OverlayInt.ordered b.x b.y a.x a.y) ∙ other_less (point_of value a) (point_of value b) (sym told ∙ w.if-lt.false) c.requires })
    ]

pub returns-clause-is : goal.returns-clause-is
returns-clause-is g c =
    let value = g.I.OverlayInt.value in
    let a = c.args.a in
    let b = c.args.b in
    let told : c.lt.result ≡ is_lt (point_order (point_of value a) (point_of value b)) =
    c.lt.ensures ∙ (points_told value g.I.Ord.cmp g.met.I.OverlayInt.ordered g.I.PartialOrd.partial_cmp g.met.I.Ord.matches_partial_cmp a.x a.y b.x b.y ∙ ap is_lt (point_told value g.I.Ord.cmp g.met.I.OverlayInt.ordered a.x a.y b.x b.y)) in
    elim c.if-lt.branch [
      | then-lt w ↦
          rw w.result-is (laid_on g.C.WindingCount.counting (point_of value a) (point_of value b) c.args.count (sym told ∙ w.if-lt.true))
      | else-lt w ↦
          rw (w.result-is, w.invert.ensures) (laid_back g.C.WindingCount.counting (point_of value a) (point_of value b) c.args.count (sym told ∙ w.if-lt.false) c.requires)
    ]

pub returns-clause-data : goal.returns-clause-data
returns-clause-data g c =
    let value = g.I.OverlayInt.value in
    let a = c.args.a in
    let b = c.args.b in
    let u = point_of value a in
    let v = point_of value b in
    let told : c.lt.result ≡ is_lt (point_order u v) =
    c.lt.ensures ∙ (points_told value g.I.Ord.cmp g.met.I.OverlayInt.ordered g.I.PartialOrd.partial_cmp g.met.I.Ord.matches_partial_cmp a.x a.y b.x b.y ∙ ap is_lt (point_told value g.I.Ord.cmp g.met.I.OverlayInt.ordered a.x a.y b.x b.y)) in
    let kind = carried g.C.WindingCount.counting g.D.OverlayEdgeData.join in
    elim c.if-lt.branch [
      | then-lt w ↦
          rw w.result-is (c.args.datum, ((λ joins. refl, inl refl), λ ahead. refl), laid_on kind u v (c.args.count, c.args.datum) (sym told ∙ w.if-lt.true))
      | else-lt w ↦
          let back : is_lt (point_order u v) ≡ false = sym told ∙ w.if-lt.false in
          rw (w.result-is, w.invert.ensures) (
            w.reversed.result,
            ((w.reversed.ensures.joined, w.reversed.ensures.turned), λ ahead. absurd (false≢true (sym ahead ∙ other_less u v back c.requires))),
            laid_back kind u v (c.args.count, w.reversed.result) back c.requires,
          )
    ]

pub returns-clause-joined : goal.returns-clause-joined
returns-clause-joined g c = λ joins.
    let value = g.I.OverlayInt.value in
    let a = c.args.a in
    let b = c.args.b in
    let told : c.lt.result ≡ is_lt (point_order (point_of value a) (point_of value b)) =
    c.lt.ensures ∙ (points_told value g.I.Ord.cmp g.met.I.OverlayInt.ordered g.I.PartialOrd.partial_cmp g.met.I.Ord.matches_partial_cmp a.x a.y b.x b.y ∙ ap is_lt (point_told value g.I.Ord.cmp g.met.I.OverlayInt.ordered a.x a.y b.x b.y)) in
    elim c.if-lt.branch [
      | then-lt w ↦
          rw w.result-is (laid_on (carried g.C.WindingCount.counting g.D.OverlayEdgeData.join) (point_of value a) (point_of value b) (c.args.count, c.args.datum) (sym told ∙ w.if-lt.true))
      | else-lt w ↦
          rw (w.result-is, w.invert.ensures, w.reversed.ensures.joined joins) (laid_back (carried g.C.WindingCount.counting g.D.OverlayEdgeData.join) (point_of value a) (point_of value b) (c.args.count, c.args.datum) (sym told ∙ w.if-lt.false) c.requires)
    ]

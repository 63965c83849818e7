-- Room for moves is kept: by answers, which stay in each box of what is given, and by moves in the other way.
use Rattle.std.proofs.Common.{Bool, true, false, cond, List, [], ◌∷◌, map, flat_map, get_or, All, ℤ, neg_ℤ, ◌+ℤ◌, ◌-ℤ◌, ◌≤ℤ◌, int_eq, int_lt, sym, subst, arith}
use Rattle.std.proofs.lemmas.Int.{ints}
use Rattle.std.proofs.lemmas.List.Elements.{All-nil, All-cons, All-head, All-tail, All-append, All-map}
use Rattle.plane_base.specs.Plane.{Point, Edge, IsCoordinate, IsWithin}
use Rattle.plane_base.specs.Regions.{FillRule, Positive}
use Rattle.segment_split.specs.Groups.{Bounds, LiesWithin}
use Rattle.segment_split.specs.declared.solver.Precision.{Precision}
use Rattle.contour_walk.specs.WalkLaws.{contour_steps}
use Rattle.polygon_overlay.specs.Calls.{AreInRange}
use Rattle.polygon_overlay.specs.Sizing.{Amounts, moved_across, moved_up, moved}
use Rattle.polygon_overlay.specs.SizingCalls.{HasRoom, HasRoomInTurn, HasRoomAlong, StaysInRange, StaysInTurn, Fits, FitsInTurn}
use Rattle.polygon_overlay.specs.SizingLaws.{IsRegionOf, IsMovedTo, RegionsStayInTheBox}
use Rattle.polygon_overlay.proofs.Boxing.EndLaws.{BothEnds, steps_between}

pub both_hold : (P Q R : Point → Type 0) → ((p : Point) → P p → Q p → R p) → (cs : List (List Point)) → All (All P) cs → All (All Q) cs → All (All R) cs
both_hold P Q R f cs h k i d l j e m = f (get_or (get_or cs i d) j e) (h i d l j e m) (k i d l j e m)

-- ---- what moves make of what holds of the ends of steps

module _ (P Q : Point → Type 0) (move : Edge → List Point) (moves : (s : Edge) → P s.a → P s.b → All Q (move s)) where
  steps_hold : (ss : List Edge) → All (BothEnds P) ss → All Q (flat_map move ss)
  steps_hold [] h = All-nil Q
  steps_hold (s ∷ ss) h =
      let ends = All-head (BothEnds P) s ss h in
      All-append Q (move s) (flat_map move ss) (moves s ends.0 ends.1) (steps_hold ss (All-tail (BothEnds P) s ss h))

  pub moved_hold : (cs : List (List Point)) → All (All P) cs → All (All Q) (map (moved move) cs)
  moved_hold cs h =
      All-map (All Q) (moved move) cs (λ i d l. steps_hold (contour_steps (get_or cs i d)) (steps_between P (get_or cs i d) (h i d l)))

module _ (least greatest : ℤ) where
  abbrev pub whole : Bounds
  whole = record { left = least; right = greatest; bottom = least; top = greatest }

  pub in_whole : (p : Point) → IsWithin least greatest p → LiesWithin whole p
  in_whole p (a, b, c, d) = record { left = a; right = b; bottom = c; top = d }

  pub of_whole : (p : Point) → LiesWithin whole p → IsWithin least greatest p
  of_whole p h = (h.left, h.right, h.bottom, h.top)

  -- ---- room between two numbers

  module _ (back on n : ℤ) where
    below_from : HasRoom least greatest back on n → (least +ℤ back) ≤ℤ n
    below_from room = let h = room.below.0 in omega (arith, ints, h)

    below_to : HasRoom least greatest back on n → n ≤ℤ (greatest +ℤ back)
    below_to room = let h = room.below.1 in omega (arith, ints, h)

    above_from : HasRoom least greatest back on n → (least -ℤ on) ≤ℤ n
    above_from room = let h = room.above.0 in omega (arith, ints, h)

    above_to : HasRoom least greatest back on n → n ≤ℤ (greatest -ℤ on)
    above_to room = let h = room.above.1 in omega (arith, ints, h)

    room_between : (least +ℤ back) ≤ℤ n → n ≤ℤ (greatest +ℤ back) → (least -ℤ on) ≤ℤ n → n ≤ℤ (greatest -ℤ on) → HasRoom least greatest back on n
    room_between a b c d = record { below = (omega (arith, ints, a), omega (arith, ints, b)); above = (omega (arith, ints, c), omega (arith, ints, d)) }

    -- a number that is moved stays there
    moved_from : HasRoom least greatest back on n → (b : Bool) → least ≤ℤ (n +ℤ cond b on (neg_ℤ back))
    moved_from room true = room.above.0
    moved_from room false = let h = room.below.0 in omega (arith, ints, h)

    moved_to : HasRoom least greatest back on n → (b : Bool) → (n +ℤ cond b on (neg_ℤ back)) ≤ℤ greatest
    moved_to room true = room.above.1
    moved_to room false = let h = room.below.1 in omega (arith, ints, h)

-- ---- room in a box

-- The point stays in the box with each amount.
pub record StaysIn (box : Bounds) (by : Amounts) (p : Point) : Type 0 where
  pub across : HasRoom box.left box.right by.left by.right p.x
  pub up : HasRoom box.bottom box.top by.bottom by.top p.y

module _ (box : Bounds) (by : Amounts) where
  -- where left sides may stand, and bottoms
  abbrev pub firsts : Bounds
  firsts = record { left = box.left +ℤ by.left; right = box.right +ℤ by.left; bottom = box.bottom +ℤ by.bottom; top = box.top +ℤ by.bottom }

  -- where right sides may, and tops
  abbrev pub lasts : Bounds
  lasts = record { left = box.left -ℤ by.right; right = box.right -ℤ by.right; bottom = box.bottom -ℤ by.top; top = box.top -ℤ by.top }

  pub in_firsts : (p : Point) → StaysIn box by p → LiesWithin firsts p
  in_firsts p h = record {
    left = below_from box.left box.right by.left by.right p.x h.across;
    right = below_to box.left box.right by.left by.right p.x h.across;
    bottom = below_from box.bottom box.top by.bottom by.top p.y h.up;
    top = below_to box.bottom box.top by.bottom by.top p.y h.up;
  }

  pub in_lasts : (p : Point) → StaysIn box by p → LiesWithin lasts p
  in_lasts p h = record {
    left = above_from box.left box.right by.left by.right p.x h.across;
    right = above_to box.left box.right by.left by.right p.x h.across;
    bottom = above_from box.bottom box.top by.bottom by.top p.y h.up;
    top = above_to box.bottom box.top by.bottom by.top p.y h.up;
  }

  pub of_both : (p : Point) → LiesWithin firsts p → LiesWithin lasts p → StaysIn box by p
  of_both p h k = record {
    across = room_between box.left box.right by.left by.right p.x h.left h.right k.left k.right;
    up = room_between box.bottom box.top by.bottom by.top p.y h.bottom h.top k.bottom k.top;
  }

  -- ---- moved steps

  abbrev pub between : ℤ → ℤ → Bounds
  between bottom top = record { left = box.left; right = box.right; bottom = bottom; top = top }

  abbrev pub HasRoomAcross : ℤ → ℤ → Point → Type 0
  HasRoomAcross bottom top p = HasRoom box.left box.right by.left by.right p.x × IsCoordinate bottom top p.y

  abbrev pub HasRoomUp : Point → Type 0
  HasRoomUp p = HasRoom box.bottom box.top by.bottom by.top p.y × IsCoordinate box.left box.right p.x

  -- in x each keeps its height
  pub across_stays : (bottom top : ℤ) (s : Edge) → HasRoomAcross bottom top s.a → HasRoomAcross bottom top s.b
      → All (LiesWithin (between bottom top)) (moved_across by.left by.right s)
  across_stays bottom top s (a, la) (b, lb) = each (int_eq s.a.y s.b.y) (int_lt s.a.y s.b.y)
    where
      each : (e t : Bool) →
          All (LiesWithin (between bottom top))
          (cond e [] (record { x = s.a.x +ℤ cond t by.right (neg_ℤ by.left); y = s.a.y } ∷ record { x = s.b.x +ℤ cond t by.right (neg_ℤ by.left); y = s.b.y }
          ∷ []))
      each true t = All-nil (LiesWithin (between bottom top))
      each false t =
          All-cons (LiesWithin (between bottom top)) (record { x = s.a.x +ℤ cond t by.right (neg_ℤ by.left); y = s.a.y })
          (record { x = s.b.x +ℤ cond t by.right (neg_ℤ by.left); y = s.b.y } ∷ [])
          (record {
            left = moved_from box.left box.right by.left by.right s.a.x a t;
            right = moved_to box.left box.right by.left by.right s.a.x a t;
            bottom = la.0;
            top = la.1;
          })
          (All-cons (LiesWithin (between bottom top)) (record { x = s.b.x +ℤ cond t by.right (neg_ℤ by.left); y = s.b.y }) []
          (record {
            left = moved_from box.left box.right by.left by.right s.b.x b t;
            right = moved_to box.left box.right by.left by.right s.b.x b t;
            bottom = lb.0;
            top = lb.1;
          })
          (All-nil (LiesWithin (between bottom top))))

  -- in y each keeps its place
  pub up_stays : (s : Edge) → HasRoomUp s.a → HasRoomUp s.b → All (LiesWithin box) (moved_up by.bottom by.top s)
  up_stays s (a, la) (b, lb) = each (int_eq s.a.x s.b.x) (int_lt s.b.x s.a.x)
    where
      each : (e t : Bool) →
          All (LiesWithin box)
          (cond e [] (record { x = s.a.x; y = s.a.y +ℤ cond t by.top (neg_ℤ by.bottom) } ∷ record { x = s.b.x; y = s.b.y +ℤ cond t by.top (neg_ℤ by.bottom) }
          ∷ []))
      each true t = All-nil (LiesWithin box)
      each false t =
          All-cons (LiesWithin box) (record { x = s.a.x; y = s.a.y +ℤ cond t by.top (neg_ℤ by.bottom) })
          (record { x = s.b.x; y = s.b.y +ℤ cond t by.top (neg_ℤ by.bottom) } ∷ [])
          (record {
            left = la.0;
            right = la.1;
            bottom = moved_from box.bottom box.top by.bottom by.top s.a.y a t;
            top = moved_to box.bottom box.top by.bottom by.top s.a.y a t;
          })
          (All-cons (LiesWithin box) (record { x = s.b.x; y = s.b.y +ℤ cond t by.top (neg_ℤ by.bottom) }) []
          (record {
            left = lb.0;
            right = lb.1;
            bottom = moved_from box.bottom box.top by.bottom by.top s.b.y b t;
            top = moved_to box.bottom box.top by.bottom by.top s.b.y b t;
          })
          (All-nil (LiesWithin box)))

-- ---- regions, and what they are moved to

module _ (stay : RegionsStayInTheBox) (least greatest : ℤ) where
  pub region_keeps : (box : Bounds) (by : Amounts) (fill : FillRule) (precision : Precision) (contours region : List (List Point)) →
      IsRegionOf least greatest fill precision contours region → All (All (StaysIn box by)) contours → All (All (StaysIn box by)) region
  region_keeps box by fill precision contours region of fit =
      both_hold (LiesWithin (firsts box by)) (LiesWithin (lasts box by)) (StaysIn box by) (of_both box by) region
      (stay least greatest (firsts box by) fill precision contours region of
      (both_hold (StaysIn box by) (StaysIn box by) (LiesWithin (firsts box by)) (λ p h k. in_firsts box by p h) contours fit fit))
      (stay least greatest (lasts box by) fill precision contours region of
      (both_hold (StaysIn box by) (StaysIn box by) (LiesWithin (lasts box by)) (λ p h k. in_lasts box by p h) contours fit fit))

  module _ (box : Bounds) (by : Amounts) (region : List (List Point)) (fit : All (All (StaysIn box by)) region) where
    abbrev pub sides : List (List Point)
    sides = map (moved (moved_across by.left by.right)) region

    pub sides_lie : (bottom top : ℤ) → All (All (λ p. IsCoordinate bottom top p.y)) region → All (All (LiesWithin (between box by bottom top))) sides
    sides_lie bottom top inside =
        moved_hold (HasRoomAcross box by bottom top) (LiesWithin (between box by bottom top)) (moved_across by.left by.right) (across_stays box by bottom top)
        region
        (both_hold (StaysIn box by) (λ p. IsCoordinate bottom top p.y) (HasRoomAcross box by bottom top) (λ p h k. (h.across, k)) region fit inside)

    module _ (precision : Precision) (wide : List (List Point)) (of : IsRegionOf least greatest Positive precision sides wide) where
      wide_lies : (bottom top : ℤ) → All (All (λ p. IsCoordinate bottom top p.y)) region → All (All (LiesWithin (between box by bottom top))) wide
      wide_lies bottom top inside = stay least greatest (between box by bottom top) Positive precision sides wide of (sides_lie bottom top inside)

      pub wide_has_room : All (All (HasRoomUp box by)) wide
      wide_has_room =
          both_hold (LiesWithin (between box by (firsts box by).bottom (firsts box by).top))
          (LiesWithin (between box by (lasts box by).bottom (lasts box by).top)) (HasRoomUp box by)
          (λ p h k. (room_between box.bottom box.top by.bottom by.top p.y h.bottom h.top k.bottom k.top, (h.left, h.right))) wide
          (wide_lies (firsts box by).bottom (firsts box by).top
          (both_hold (StaysIn box by) (StaysIn box by) (λ p. IsCoordinate (firsts box by).bottom (firsts box by).top p.y)
          (λ p h k. let l = in_firsts box by p h in (l.bottom, l.top)) region fit fit))
          (wide_lies (lasts box by).bottom (lasts box by).top
          (both_hold (StaysIn box by) (StaysIn box by) (λ p. IsCoordinate (lasts box by).bottom (lasts box by).top p.y)
          (λ p h k. let l = in_lasts box by p h in (l.bottom, l.top)) region fit fit))

    pub shifted_lie : (precision : Precision) (shifted : List (List Point)) → IsMovedTo least greatest by precision region shifted
        → All (All (LiesWithin box)) shifted
    shifted_lie precision shifted to =
        subst (All (All (LiesWithin box))) (sym to.up)
        (moved_hold (HasRoomUp box by) (LiesWithin box) (moved_up by.bottom by.top) (up_stays box by) to.wide (wide_has_room precision to.wide to.across))

  -- ---- room for two moves in turn

  module _ (back on then_back then_on n : ℤ) where
    room_firsts : HasRoomInTurn least greatest back on then_back then_on n → HasRoom (least +ℤ then_back) (greatest +ℤ then_back) back on n
    room_firsts room =
        let a = room.below.below in
        let b = room.above.below in record {
          below = (omega (arith, ints, a.0), omega (arith, ints, a.1));
          above =
              (omega (arith, ints, b.0), omega (arith, ints, b.1));
        }

    room_lasts : HasRoomInTurn least greatest back on then_back then_on n → HasRoom (least -ℤ then_on) (greatest -ℤ then_on) back on n
    room_lasts room =
        let a = room.below.above in
        let b = room.above.above in record {
          below = (omega (arith, ints, a.0), omega (arith, ints, a.1));
          above =
              (omega (arith, ints, b.0), omega (arith, ints, b.1));
        }

    room_of : HasRoom least greatest back on n → HasRoom (least +ℤ then_back) (greatest +ℤ then_back) back on n
        → HasRoom (least -ℤ then_on) (greatest -ℤ then_on) back on n → HasRoomInTurn least greatest back on then_back then_on n
    room_of room first last = record {
      first = room;
      below = record {
        below = let h = first.below in (omega (arith, ints, h.0), omega (arith, ints, h.1));
        above = let h = last.below in (omega (arith, ints, h.0), omega (arith, ints, h.1));
      };
      above = record {
        below = let h = first.above in (omega (arith, ints, h.0), omega (arith, ints, h.1));
        above = let h = last.above in (omega (arith, ints, h.0), omega (arith, ints, h.1));
      };
    }

  module _ (first second : Amounts) (p : Point) where
    in_turn_first : StaysInTurn least greatest first second p → StaysIn (whole least greatest) first p
    in_turn_first h = record { across = h.across.first; up = h.up.first }

    in_turn_firsts : StaysInTurn least greatest first second p → StaysIn (firsts (whole least greatest) second) first p
    in_turn_firsts h = record {
      across = room_firsts first.left first.right second.left second.right p.x h.across;
      up = room_firsts first.bottom first.top second.bottom second.top p.y h.up;
    }

    in_turn_lasts : StaysInTurn least greatest first second p → StaysIn (lasts (whole least greatest) second) first p
    in_turn_lasts h = record {
      across = room_lasts first.left first.right second.left second.right p.x h.across;
      up = room_lasts first.bottom first.top second.bottom second.top p.y h.up;
    }

    in_turn_of : StaysIn (whole least greatest) first p → StaysIn (firsts (whole least greatest) second) first p
        → StaysIn (lasts (whole least greatest) second) first p
        → StaysInTurn least greatest first second p
    in_turn_of h k l = record {
      across = room_of first.left first.right second.left second.right p.x h.across k.across l.across;
      up = room_of first.bottom first.top second.bottom second.top p.y h.up k.up l.up;
    }

  -- ---- the range

  abbrev In : Amounts → Point → Type 0
  In by = StaysIn (whole least greatest) by

  pub fits_in : (by : Amounts) (cs : List (List Point)) → Fits least greatest by cs → All (All (In by)) cs
  fits_in by cs fit = both_hold (StaysInRange least greatest by) (StaysInRange least greatest by) (In by) (λ p h k. record { across = h.across; up = h.up })
      cs fit fit

  pub fits_of : (by : Amounts) (cs : List (List Point)) → All (All (In by)) cs → Fits least greatest by cs
  fits_of by cs fit = both_hold (In by) (In by) (StaysInRange least greatest by) (λ p h k. record { across = h.across; up = h.up }) cs fit fit

  lie_in : (cs : List (List Point)) → AreInRange least greatest cs → All (All (LiesWithin (whole least greatest))) cs
  lie_in cs inside =
      both_hold (IsWithin least greatest) (IsWithin least greatest) (LiesWithin (whole least greatest)) (λ p h k. in_whole least greatest p h) cs inside inside

  in_range : (cs : List (List Point)) → All (All (LiesWithin (whole least greatest))) cs → AreInRange least greatest cs
  in_range cs lie =
      both_hold (LiesWithin (whole least greatest)) (LiesWithin (whole least greatest)) (IsWithin least greatest) (λ p h k. of_whole least greatest p h) cs
      lie lie

  module _ (fill : FillRule) (precision : Precision) (contours region : List (List Point)) (of : IsRegionOf least greatest fill precision contours region) where
    pub region_in_range : AreInRange least greatest contours → AreInRange least greatest region
    region_in_range inside = in_range region (stay least greatest (whole least greatest) fill precision contours region of (lie_in contours inside))

    pub region_fits : (by : Amounts) → Fits least greatest by contours → Fits least greatest by region
    region_fits by fit = fits_of by region (region_keeps (whole least greatest) by fill precision contours region of (fits_in by contours fit))

    pub region_fits_in_turn : (first second : Amounts) → FitsInTurn least greatest first second contours → FitsInTurn least greatest first second region
    region_fits_in_turn first second fit =
        both_hold (λ p. In first p × StaysIn (firsts (whole least greatest) second) first p) (StaysIn (lasts (whole least greatest) second) first)
        (StaysInTurn least greatest first second) (λ p (h, k) l. in_turn_of first second p h k l) region
        (both_hold (In first) (StaysIn (firsts (whole least greatest) second) first)
        (λ p. In first p × StaysIn (firsts (whole least greatest) second) first p) (λ p h k. (h, k)) region
        (keeps (whole least greatest) (λ p h. in_turn_first first second p h))
        (keeps (firsts (whole least greatest) second) (λ p h. in_turn_firsts first second p h)))
        (keeps (lasts (whole least greatest) second) (λ p h. in_turn_lasts first second p h))
      where
        keeps : (box : Bounds) → ((p : Point) → StaysInTurn least greatest first second p → StaysIn box first p) → All (All (StaysIn box first)) region
        keeps box f =
            region_keeps box first fill precision contours region of
            (both_hold (StaysInTurn least greatest first second) (StaysInTurn least greatest first second) (StaysIn box first) (λ p h k. f p h) contours fit
            fit)

  module _ (by : Amounts) (region : List (List Point)) (fit : Fits least greatest by region) where
    pub sides_in_range : AreInRange least greatest region → AreInRange least greatest (map (moved (moved_across by.left by.right)) region)
    sides_in_range inside =
        in_range (map (moved (moved_across by.left by.right)) region)
        (sides_lie (whole least greatest) by region (fits_in by region fit) least greatest
        (both_hold (IsWithin least greatest) (IsWithin least greatest) (λ p. IsCoordinate least greatest p.y) (λ p (a, b, c, d) k. (c, d)) region inside
        inside))

    pub region_has_room : All (All (HasRoomAlong least greatest true by)) region
    region_has_room =
        both_hold (StaysInRange least greatest by) (StaysInRange least greatest by) (HasRoomAlong least greatest true by) (λ p h k. h.across) region fit fit

    pub shifted_have_room : (precision : Precision) (wide : List (List Point))
        → IsRegionOf least greatest Positive precision (map (moved (moved_across by.left by.right)) region) wide
        → All (All (HasRoomAlong least greatest false by)) wide
    shifted_have_room precision wide of =
        let room = wide_has_room (whole least greatest) by region (fits_in by region fit) precision wide of in
        both_hold (HasRoomUp (whole least greatest) by) (HasRoomUp (whole least greatest) by) (HasRoomAlong least greatest false by) (λ p h k. h.0) wide room
        room

    pub shifted_in_range : (precision : Precision) (shifted : List (List Point)) → IsMovedTo least greatest by precision region shifted
        → AreInRange least greatest shifted
    shifted_in_range precision shifted to = in_range shifted (shifted_lie (whole least greatest) by region (fits_in by region fit) precision shifted to)

  -- what is moved by the first amounts has room for the second
  module _ (first second : Amounts) (region : List (List Point)) (fit : FitsInTurn least greatest first second region) where
    lies : (box : Bounds) → ((p : Point) → StaysInTurn least greatest first second p → StaysIn box first p)
        → (precision : Precision) (shifted : List (List Point))
        → IsMovedTo least greatest first precision region shifted → All (All (LiesWithin box)) shifted
    lies box f precision shifted to =
        shifted_lie box first region
        (both_hold (StaysInTurn least greatest first second) (StaysInTurn least greatest first second) (StaysIn box first) (λ p h k. f p h) region fit fit)
        precision shifted to

    pub fits_first : Fits least greatest first region
    fits_first =
        both_hold (StaysInTurn least greatest first second) (StaysInTurn least greatest first second) (StaysInRange least greatest first)
        (λ p h k. record { across = h.across.first; up = h.up.first }) region fit fit

    pub fits_again : (precision : Precision) (shifted : List (List Point)) → IsMovedTo least greatest first precision region shifted
        → Fits least greatest second shifted
    fits_again precision shifted to =
        fits_of second shifted
        (both_hold (LiesWithin (firsts (whole least greatest) second)) (LiesWithin (lasts (whole least greatest) second)) (In second)
        (of_both (whole least greatest) second) shifted
        (lies (firsts (whole least greatest) second) (λ p h. in_turn_firsts first second p h) precision shifted to)
        (lies (lasts (whole least greatest) second) (λ p h. in_turn_lasts first second p h) precision shifted to))

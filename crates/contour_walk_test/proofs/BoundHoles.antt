-- Whether holes can be bound, as a test that is computed.
use Rattle.std.proofs.Common.{◌≡◌, ◌≢◌, inl, inr, zero, Bool, true, false, not, cond, ◌&&◌, List, [], ◌∷◌, All, AllPairs, refl, sym, ◌∙◌}
use Rattle.std.proofs.lemmas.Bool.{false≢true, and_parts}
use Rattle.std.proofs.lemmas.List.Elements.{All-nil, All-cons}
use Rattle.std.proofs.lemmas.List.Kept.{AllPairs-cons}
use Rattle.plane_base.specs.Segments.{parted}
use Rattle.plane_base.proofs.Facts.Maps.Normal.{AllPairs-nil}
use Rattle.contour_walk.specs.Walks.{Contour, same_edge}
use Rattle.contour_walk.specs.Binding.{Owned}
use Rattle.contour_walk.specs.BinderSweep.{stepped_from}
use Rattle.contour_walk.specs.JoinedHoles.{MeetOrOppose, CanBeBound}
use Rattle.contour_walk.proofs.Walks.Links.{same_edge_is, same_edge_itself}

-- ---- edges

abbrev differ : Bool → Bool → Bool
differ true b = not b
differ false b = b

abbrev meet_or_oppose : Owned → Owned → Bool
meet_or_oppose o p = cond (same_edge o.edge p.edge) (differ o.above p.above) (parted o.edge p.edge)

abbrev meets_each : Owned → List Owned → Bool
meets_each o [] = true
meets_each o (p ∷ ps) = meet_or_oppose o p && meets_each o ps

abbrev all_meet : List Owned → Bool
all_meet [] = true
all_meet (o ∷ os) = meets_each o os && all_meet os

they_differ : (a b : Bool) → differ a b ≡ true → a ≢ b
they_differ true true h e = false≢true h
they_differ true false h e = false≢true (sym e)
they_differ false true h e = false≢true e
they_differ false false h e = false≢true h

they_meet : (o p : Owned) → meet_or_oppose o p ≡ true → MeetOrOppose o p
they_meet o p = by (same_edge o.edge p.edge) refl
  where
    by : (b : Bool) → same_edge o.edge p.edge ≡ b → cond b (differ o.above p.above) (parted o.edge p.edge) ≡ true → MeetOrOppose o p
    by true e h = inr (same_edge_is o.edge p.edge e, they_differ o.above p.above h)
    by false e h = inl ((λ f. false≢true (sym e ∙ same_edge_itself o.edge p.edge f)), h)

each_meets : (o : Owned) (ps : List Owned) → meets_each o ps ≡ true → All (MeetOrOppose o) ps
each_meets o [] h = All-nil (MeetOrOppose o)
each_meets o (p ∷ ps) h =
    let k = and_parts (meet_or_oppose o p) (meets_each o ps) h in
    All-cons (MeetOrOppose o) p ps (they_meet o p k.0) (each_meets o ps k.1)

they_all_meet : (os : List Owned) → all_meet os ≡ true → AllPairs MeetOrOppose os
they_all_meet [] h = AllPairs-nil MeetOrOppose
they_all_meet (o ∷ os) h =
    let k = and_parts (meets_each o os) (all_meet os) h in
    AllPairs-cons MeetOrOppose o os (each_meets o os k.0) (they_all_meet os k.1)

-- ---- contours

abbrev pub can_be_bound : Bool → List Contour → Bool
can_be_bound clockwise cs = all_meet (stepped_from clockwise zero cs)

pub bound : (clockwise : Bool) (cs : List Contour) → can_be_bound clockwise cs ≡ true → CanBeBound clockwise cs
bound clockwise cs h = record { meet = they_all_meet (stepped_from clockwise zero cs) h }

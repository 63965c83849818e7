-- What calls make of a holding.
use Rattle.std.specs.Prelude.{◌≡◌, ◌≤◌, ℕ, Bool, true, false, List, ◌++◌, length, OnOk, OnErr, IfErr}
use Rattle.std.specs.declared.result.Result.{Result}
use Rattle.std.proofs.Common.{sym, ap, ◌∙◌, subst}
use Rattle.std.proofs.lemmas.Bool.{false≢true}
use Rattle.plane_base.specs.Plane.{Point}
use Rattle.plane_base.specs.Counts.{Counting, Entry, lay}
use Rattle.plane_base.specs.declared.fault.Fault.{Fault}
use Rattle.plane_base.specs.Given.{laid}
use Rattle.segment_split.specs.Adding.{LacksRoom, LacksRoomFor, Adds, IsRefused, AddsAll, AddsUntil}
use Rattle.segment_split.specs.Holdings.{Holding, HeldEdges, IsRefusedBy, TakesEdge, TakesContour, TakesSource}
use Rattle.segment_split.proofs.Facts.Adding.Laws.{if_refused, answered}

abbrev of_edges : {C : Type 0} → List (Entry C) → Bool → Holding C
of_edges es is_failed = record { edges = es; has_failed = is_failed }

abbrev pub held_as : {C D S : Type 0} → List (Entry C) → Bool → List (Entry (C × D)) → S → ℕ → HeldEdges C D S
held_as es is_failed with_data store room = record { edges = es; has_failed = is_failed; with_data = with_data; store = store; room = room }

-- the edges are made others, and nothing else, whatever the data and the room are
pub made_others : {C D S : Type 0} (f : List (Entry C) → List (Entry C)) (now : List (Entry C)) (inside old : HeldEdges C D S) → now ≡ f inside.edges → inside ≡ old
    → of_edges now inside.has_failed ≡ of_edges (f old.edges) old.has_failed
made_others f now inside old is same = ap (λ es. of_edges es inside.has_failed) is ∙ ap (λ h. of_edges (f h.edges) h.has_failed) same

-- a builder that has not failed refuses for the reason alone
pub refused_if_ready : {T : Type 0} (is_failed : Bool) (P : Fault → Type 0) (r : Result T Fault) → is_failed ≡ false → IfErr r P → IfErr r (IsRefusedBy is_failed P)
refused_if_ready is_failed P r ready = if_refused r (λ f why. subst (λ b. IsRefusedBy b P f) (sym ready) why)

module _ {C D S : Type 0} (kind : Counting C) (c : C) (keep_all : Bool) (inside old : HeldEdges C D S) (now : List (Entry C)) (with_data : List (Entry (C × D)))
    (store : S) (room : ℕ) (r : Result (Unit {0}) Fault) (same : inside ≡ old) (ready : inside.has_failed ≡ false) (grows : inside.room ≤ room) where
  abbrev left : HeldEdges C D S
  left = record { edges = now; has_failed = inside.has_failed; with_data = with_data; store = store; room = room }

  pub takes_contour : (points : List Point) → OnOk r (Adds kind c keep_all points inside.edges now) → OnErr r (now ≡ inside.edges)
      → IfErr r (IsRefused kind c keep_all points inside.edges)
      → (keep_all ≡ true → IfErr r (LacksRoom inside.room (length inside.edges) (length (laid kind c points))))
      → TakesContour kind c keep_all points old left r
  takes_contour points adds unchanged why lacks =
      subst (λ o. TakesContour kind c keep_all points o left r) same
      (record {
        added = adds;
        unchanged = unchanged;
        refused = refused_if_ready inside.has_failed (IsRefused kind c keep_all points inside.edges) r ready why;
        lacks_room = λ keeps.
            refused_if_ready inside.has_failed (LacksRoom inside.room (length inside.edges) (length (laid kind c points))) r ready (lacks keeps);
        ready = answered r ready;
        stays = λ i. inside.has_failed;
        room = grows;
      })

  pub takes_source : (contours : List (List Point)) → OnOk r (AddsAll kind c keep_all contours inside.edges now)
      → IfErr r (AddsUntil kind c keep_all contours inside.edges now)
      → (keep_all ≡ true → IfErr r (LacksRoomFor kind c contours room inside.edges now))
      → TakesSource kind c keep_all contours old left r
  takes_source contours adds until lacks =
      subst (λ o. TakesSource kind c keep_all contours o left r) same
      (record {
        added = adds;
        refused = refused_if_ready inside.has_failed (AddsUntil kind c keep_all contours inside.edges now) r ready until;
        lacks_room = λ keeps. refused_if_ready inside.has_failed (LacksRoomFor kind c contours room inside.edges now) r ready (lacks keeps);
        unchanged = λ failed. absurd (false≢true (sym ready ∙ failed));
        ready = answered r ready;
        stays = λ i. inside.has_failed;
        room = grows;
      })

  pub takes_edge : (from to : Point) → OnOk r (now ≡ inside.edges ++ lay kind from to c) → OnErr r (left ≡ inside)
      → IfErr r (LacksRoom inside.room (length inside.edges) (length (lay kind from to c))) → TakesEdge kind c from to old left r
  takes_edge from to added unchanged lacks =
      subst (λ o. TakesEdge kind c from to o left r) same
      (record {
        added = added;
        unchanged = unchanged;
        refused = refused_if_ready inside.has_failed (LacksRoom inside.room (length inside.edges) (length (lay kind from to c))) r ready lacks;
        ready = answered r ready;
        stays = λ i. inside.has_failed;
        room = grows;
      })

-- a builder whose edges, store and room are as before is as before
pub all_same : {C D S : Type 0} (edges now_edges : List (Entry C)) (is_failed : Bool) (with_data now_with_data : List (Entry (C × D))) (store now_store : S)
    (room now_room : ℕ) → now_edges ≡ edges → now_with_data ≡ with_data → now_store ≡ store → now_room ≡ room
    → held_as now_edges is_failed now_with_data now_store now_room ≡ held_as edges is_failed with_data store room
all_same edges now_edges is_failed with_data now_with_data store now_store room now_room e d s r =
    λ i. record { edges = e i; has_failed = is_failed; with_data = d i; store = s i; room = r i }

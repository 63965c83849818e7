-- What contracts see of the ends of links.
use Rattle.std.specs.Prelude.{◌≡◌, ◌⊎◌, ℕ, ◌<◌, Bool, cond, List, length, slice_index_or}
use Rattle.segment_arrangement.specs.LinkEnds.{End, end_at}
use Rattle.segment_arrangement.specs.declared.link.OverlayLink.{OverlayLink}

-- the end of a number, with room for so many links
abbrev pub end_of : {N : Type 0} → ℕ → ℕ → (N → ℕ) → N → End
end_of half room number n = end_at half room (number n)

-- the number that the first or the second end of a link has
abbrev pub number_of : {I D : Type 0} → Bool → OverlayLink I D → ℕ
number_of is_last l = cond is_last l.b.id l.a.id

-- the link with this number at an end
abbrev pub with_number : {I D : Type 0} → Bool → ℕ → OverlayLink I D → OverlayLink I D
with_number is_last n l = record {
  a = record { id = cond is_last l.a.id n; point = l.a.point };
  b = record { id = cond is_last n l.b.id; point = l.b.point };
  fill = l.fill;
  datum = l.datum;
}

-- at the place of the run stands this end of the link at a place
abbrev pub StandsAt : List End → Bool → ℕ → ℕ → End → Type 0
StandsAt run is_last i j e = (j < length run) × ((slice_index_or run j e).is_last ≡ is_last) × ((slice_index_or run j e).place ≡ i)

-- Each end of the run has the number, and any other end the one that it had.
pub record IsNumberedFrom {I D : Type 0} (number : ℕ) (run : List End) (old new : List (OverlayLink I D)) : Type 0 where
  pub ends : (is_last : Bool) (i j : ℕ) (e : End) (d : OverlayLink I D) → StandsAt run is_last i j e → number_of is_last (slice_index_or new i d) ≡ number
  pub others : (is_last : Bool) (i : ℕ) (d : OverlayLink I D) → (number_of is_last (slice_index_or new i d) ≡ number_of is_last (slice_index_or old i d))
      ⊎ ((number_of is_last (slice_index_or new i d) ≡ number) × (j : ℕ) × (e : End) × StandsAt run is_last i j e)

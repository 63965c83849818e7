-- The numbers and the texts of refusals.
use Rattle.std.specs.Prelude.{if◌then◌else◌, ℕ, List, codes, ◌==◌}
use Rattle.polygon_c.specs.declared.refusal.Refusal.{Refusal}
use Rattle.polygon_c.specs.declared.refusal.Refusal.TheVariants.{Memory, Count, Edges, Rule, Fill, Strategy, Precision, Lengths, Range, Room, Size, Join, Slant}

-- the status of a call that is refused so
abbrev pub status_of : Refusal → ℕ
status_of Memory = 1
status_of Count = 2
status_of Edges = 3
status_of Rule = 4
status_of Fill = 5
status_of Strategy = 6
status_of Precision = 7
status_of Lengths = 8
status_of Range = 9
status_of Room = 10
status_of Size = 11
status_of Join = 13
status_of Slant = 14

-- the status of a call with coordinates of 64 bits that is refused so
abbrev pub wide_status_of : Refusal → ℕ
wide_status_of Memory = 1
wide_status_of Count = 2
wide_status_of Edges = 3
wide_status_of Rule = 4
wide_status_of Fill = 5
wide_status_of Strategy = 6
wide_status_of Precision = 7
wide_status_of Lengths = 8
wide_status_of Range = 12
wide_status_of Room = 10
wide_status_of Size = 11
wide_status_of Join = 13
wide_status_of Slant = 14

-- what a status says
abbrev pub text_of : ℕ → List ℕ
text_of status =
    if status == 0 then codes "answered" else
    if status == 1 then codes "memory was refused" else
    if status == 2 then codes "too many contours run along an edge or wind round a point" else
    if status == 3 then codes "there would be 2147483648 edges or more" else
    if status == 4 then codes "no overlay rule has this number" else
    if status == 5 then codes "no fill rule has this number, or its depth is below 1" else
    if status == 6 then codes "no strategy has this number" else
    if status == 7 then codes "no precision has this number" else
    if status == 8 then codes "the lengths don't sum to what they cut" else
    if status == 9 then codes "a coordinate is not from -524288 to 524287" else
    if status == 10 then codes "an array is too small for the answer" else
    if status == 11 then codes "the query has more words than are known" else
    if status == 12 then codes "a coordinate is not from -68719476736 to 68719476735" else
    if status == 13 then codes "no join has this number, or numbers that are to be kept differ" else
    if status == 14 then codes "an edge is neither horizontal nor vertical" else
    codes "no status has this number"

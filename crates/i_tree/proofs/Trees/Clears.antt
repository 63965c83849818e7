-- What is left of the entries at or below a place while the expired ones there are dropped.
use Rattle.std.proofs.Common.{◌≡◌, ◌≢◌, ℕ, suc, ◌+◌, ◌≤◌, ◌<◌, List, [], ◌∷◌, ◌++◌, length, Bool, true, false, Some, slice_get, refl, sym, ap, ◌∙◌, subst, arith, length-append}
use Rattle.std.proofs.lemmas.List.{map-append}
use Rattle.std.proofs.lemmas.List.Elements.{filter-append}
use Rattle.std.proofs.lemmas.Option.{slice_get_within, slice_get_past, same_Some}
use Rattle.std.specs.declared.cmp.Ordering.{Ordering}
use Rattle.i_tree.specs.declared.tree.pool.TheConstants.{NO_NODE}
use Rattle.i_tree.specs.Tree.Pool.{places}
use Rattle.i_tree.specs.Tree.Entries.{EntryTree, unnamed, Place, held_below, Node, IsAtPlace, vacant, node, IsWithout, itself, next, IsTakenFrom}
use Rattle.i_tree.specs.LiveList.{is_live, live_at}
use Rattle.i_tree.specs.Tree.Search.{IsCleared}
use Rattle.i_tree.proofs.Trees.Reads.{node-there}
use Rattle.i_tree.proofs.Trees.Cursors.{Place-held}
use Rattle.i_tree.proofs.Keys.LiveParts.{live_of, live_of-append, live_of-expired}

-- a node with this entry at a place, and the places below it
pub record Finds {T : Type 0} (tree : EntryTree T) (parent : ℕ) (side : Bool) (deep : ℕ) (before here after : List (ℕ × T)) (at : ℕ) (entry : T) : Type 0 where
  pub near : List (ℕ × T)
  pub far : List (ℕ × T)
  pub here_is : here ≡ near ++ ((at, entry) ∷ far)
  pub is_node : Node tree parent side deep before near at entry far after
  pub near_place : Place tree at true (suc deep) before near ((at, entry) ∷ (far ++ after))
  pub far_place : Place tree at false (suc deep) (before ++ (near ++ ((at, entry) ∷ []))) far after

module _ {T : Type 0} (tree : EntryTree T) (parent : ℕ) (side : Bool) (deep : ℕ) (before here after : List (ℕ × T)) (at : ℕ) where
  pub finds : IsAtPlace tree parent side deep before here after at → at ≢ NO_NODE → (entry : T) × Finds tree parent side deep before here after at entry
  finds (vacant e none) ne = absurd (ne e)
  finds (node near entry far here_is is_node near_place far_place) ne =
      (entry, record { near = near; far = far; here_is = here_is; is_node = is_node; near_place = near_place; far_place = far_place })

  pub nothing-found : IsAtPlace tree parent side deep before here after at → at ≡ NO_NODE → here ≡ []
  nothing-found (vacant e none) is = none
  nothing-found (node near entry far here_is n near_place far_place) is =
      absurd (node-there tree.pool n.spare n.context true at n.red n.left n.right n.filled.stands is)

  module _ (at_place : IsAtPlace tree parent side deep before here after at) (there : at ≢ NO_NODE) where
    pub found-within : at < length tree.entries
    found-within =
        let (entry, f) = finds at_place there in
        slice_get_within tree.entries at entry f.is_node.entry_is

    pub finds-entry : (entry : T) → slice_get tree.entries at ≡ Some entry → Finds tree parent side deep before here after at entry
    finds-entry entry e =
        let (found, f) = finds at_place there in
        let same : found ≡ entry = same_Some found entry (sym f.is_node.entry_is ∙ e) in
        subst (λ (x : T). Finds tree parent side deep before here after at x) same f

-- no place is past the end
pub nothing-at_empty : {T : Type 0} (tree : EntryTree T) (parent : ℕ) (side : Bool) (deep : ℕ) (before here after : List (ℕ × T)) → Place tree parent side deep before here after → (entry : T) → slice_get tree.entries NO_NODE ≡ Some entry → ⊥
nothing-at_empty tree parent side deep before here after place entry e =
    let fits = place.filled.stands.fits in
    let all = place.each_place in
    let none = slice_get_past tree.entries NO_NODE (omega arith) in
    cc

-- without an entry the others stay, whichever node it was that went
pub unnamed-without : {T : Type 0} (near : List (ℕ × T)) (at : ℕ) (far : List (ℕ × T)) (gone : ℕ) (left : List (ℕ × T)) → IsWithout near at far gone left → unnamed left ≡ unnamed near ++ unnamed far
unnamed-without {T} near at far gone left (itself e) = map-append (λ (entry : ℕ × T). entry.1) near far
unnamed-without {T} near at far gone left (next entry rest e) =
    map-append (λ (entry : ℕ × T). entry.1) near ((at, entry) ∷ rest) ∙ ap (λ (xs : List (ℕ × T)). unnamed near ++ unnamed xs) (sym e)

pub length-without : {T : Type 0} (near : List (ℕ × T)) (at : ℕ) (far : List (ℕ × T)) (gone : ℕ) (left : List (ℕ × T)) → IsWithout near at far gone left → length left ≡ length near + length far
length-without near at far gone left (itself e) = length-append near far
length-without near at far gone left (next entry rest e) =
    length-append near ((at, entry) ∷ rest) ∙ ap (λ n. length near + n) (sym (ap length e))

-- the expired entries at or below a place are gone in part; the place may lie deeper
pub record Clears {K E V : Type 0} (cmp : E → E → Ordering) (expires : K → E) (time : E) (old new : EntryTree (K × V)) (parent : ℕ) (side : Bool) (deep : ℕ) (before here after : List (ℕ × (K × V))) : Type 0 where
  pub deeper : ℕ
  pub not_less : deep ≤ deeper
  pub left_here : List (ℕ × (K × V))
  pub fewer : length left_here ≤ length here
  pub live_same : live_at cmp expires time (unnamed left_here) ≡ live_at cmp expires time (unnamed here)
  pub place : Place new parent side deeper before left_here after
  pub same_places : places new.pool ≡ places old.pool

-- and this is what stands there
pub record Clearing {K E V : Type 0} (cmp : E → E → Ordering) (expires : K → E) (time : E) (old new : EntryTree (K × V)) (parent : ℕ) (side : Bool) (deep : ℕ) (before here after : List (ℕ × (K × V))) (at : ℕ) : Type 0 where
  pub clears : Clears cmp expires time old new parent side deep before here after
  pub at_place : IsAtPlace new parent side clears.deeper before clears.left_here after at

module _ {K E V : Type 0} (cmp : E → E → Ordering) (expires : K → E) (time : E) where
  -- without an expired entry the live ones are the same
  pub live_of-without : (near : List (ℕ × (K × V))) (at : ℕ) (entry : K × V) (far : List (ℕ × (K × V))) (gone : ℕ) (left : List (ℕ × (K × V))) → IsWithout near at far gone left → is_live cmp expires time entry.0 ≡ false → live_of cmp expires time left ≡ live_of cmp expires time (near ++ ((at, entry) ∷ far))
  live_of-without near at entry far gone left without expired =
      ap (live_at cmp expires time) (unnamed-without near at far gone left without)
      ∙ filter-append (λ (entry : K × V). is_live cmp expires time entry.0) (unnamed near) (unnamed far)
      ∙ sym (live_of-append cmp expires time near ((at, entry) ∷ far) ∙ ap (λ (xs : List (K × V)). live_of cmp expires time near ++ xs) (live_of-expired cmp expires time at entry far expired))

  module _ (old : EntryTree (K × V)) (parent : ℕ) (side : Bool) (deep : ℕ) (before here after : List (ℕ × (K × V))) where
    abbrev pub Clears-none : Place old parent side deep before here after → Clears cmp expires time old old parent side deep before here after
    Clears-none place = record { deeper = deep; not_less = omega arith; left_here = here; fewer = omega arith; live_same = refl; place = place; same_places = refl }

    module _ (mid : EntryTree (K × V)) (c : Clears cmp expires time old mid parent side deep before here after) (at : ℕ) (at_place : IsAtPlace mid parent side c.deeper before c.left_here after at) where
      module _ (entry : K × V) (f : Finds mid parent side c.deeper before c.left_here after at entry) (expired : is_live cmp expires time entry.0 ≡ false) (new : EntryTree (K × V)) (gone : ℕ) (t : IsTakenFrom mid new parent side c.deeper before f.near at f.far after gone) where
        one_less : length c.left_here ≡ suc (length t.here)
        one_less =
            let longer = ap length f.here_is ∙ length-append f.near ((at, entry) ∷ f.far) in
            let shorter = length-without f.near at f.far gone t.here t.without in
            omega arith

        pub Clears-more : Clears cmp expires time old new parent side deep before here after
        Clears-more = record {
          deeper = t.deeper;
          not_less = omega (arith, c.not_less, t.not_less);
          left_here = t.here;
          fewer = omega (arith, c.fewer, one_less);
          live_same = live_of-without f.near at entry f.far gone t.here t.without expired ∙ ap (live_of cmp expires time) (sym f.here_is) ∙ c.live_same;
          place = t.place;
          same_places = t.same_places ∙ c.same_places;
        }

        pub Clears-smaller : held_below new.pool parent side < held_below mid.pool parent side
        Clears-smaller =
            let was = Place-held mid parent side c.deeper before c.left_here after c.place in
            let is = Place-held new parent side t.deeper before t.here after t.place in
            omega (arith, one_less)

      pub Clears-all : ((entry : K × V) → slice_get mid.entries at ≡ Some entry → is_live cmp expires time entry.0 ≡ true) → IsCleared cmp expires time old mid parent side deep before here after at
      Clears-all live = record {
        deeper = c.deeper;
        not_less = c.not_less;
        left_here = c.left_here;
        fewer = c.fewer;
        live_same = c.live_same;
        place = c.place;
        at_place = at_place;
        live = live;
        same_places = c.same_places;
      }

-- The live entries on both sides of a vacant place.
use Rattle.std.proofs.Common.{◌≡◌, ◌≢◌, ℕ, List, [], ◌∷◌, ◌++◌, true, false, All, if◌then◌else◌, refl, ap, ◌∙◌}
use Rattle.std.proofs.lemmas.List.Elements.{All-head, All-tail, All-weaker, All-append}
use Rattle.std.specs.Ordering.{is_lt}
use Rattle.std.specs.declared.cmp.Ordering.{Ordering}
use Rattle.std.specs.declared.cmp.Ordering.TheVariants.{Less, Equal, Greater}
use Rattle.i_tree.specs.LiveList.{is_live, placed}
use Rattle.i_tree.specs.KeyAnswers.{last_where}
use Rattle.i_tree.proofs.Keys.LiveParts.{live_of, live_of-append}
use Rattle.i_tree.proofs.Keys.Insertion.{placed_in_front}
use Rattle.i_tree.proofs.Keys.Places.{last_where-none}

module _ {K E V : Type 0} (cmp : E → E → Ordering) (expires : K → E) (time : E) where
  -- one entry more between two parts
  pub live_of-between : (xs ys : List (ℕ × (K × V))) (name : ℕ) (entry : K × V) → live_of cmp expires time (xs ++ ((name, entry) ∷ ys)) ≡ live_of cmp expires time xs ++ (if is_live cmp expires time entry.0 then entry ∷ live_of cmp expires time ys else live_of cmp expires time ys)
  live_of-between xs ys name entry = live_of-append cmp expires time xs ((name, entry) ∷ ys) ∙ refl

module _ {K V : Type 0} (by : K → Ordering) where
  none_Less : (es : List (K × V)) → All (λ entry. by entry.0 ≡ Greater) es → All (λ entry. is_lt (by entry.0) ≡ false) es
  none_Less es all = All-weaker (λ entry. by entry.0 ≡ Greater) (λ entry. is_lt (by entry.0) ≡ false) (λ entry e. ap is_lt e) es all

  -- between the entries that are Less and those that are Greater none is Equal
  pub none_Equal-between : (before after : List (K × V)) → All (λ entry. by entry.0 ≡ Less) before → All (λ entry. by entry.0 ≡ Greater) after → All (λ entry. by entry.0 ≢ Equal) (before ++ after)
  none_Equal-between before after less greater =
      All-append (λ entry. by entry.0 ≢ Equal) before after
      (All-weaker (λ entry. by entry.0 ≡ Less) (λ entry. by entry.0 ≢ Equal) (λ entry e f. cc) before less)
      (All-weaker (λ entry. by entry.0 ≡ Greater) (λ entry. by entry.0 ≢ Equal) (λ entry e f. cc) after greater)

  -- and the last that is Less is the last before
  pub last_where-between : (default : V) (before after : List (K × V)) → All (λ entry. by entry.0 ≡ Less) before → All (λ entry. by entry.0 ≡ Greater) after → last_where (λ k. is_lt (by k)) default (before ++ after) ≡ last_where (λ k. true) default before
  last_where-between default [] after less greater = last_where-none by default after (none_Less after greater)
  last_where-between default (x ∷ xs) after less greater =
      rw (last_where, ap is_lt (All-head (λ entry. by entry.0 ≡ Less) x xs less)) (last_where-between x.1 xs after (All-tail (λ entry. by entry.0 ≡ Less) x xs less) greater)

-- an entry goes between those below it and those above it
pub placed-between : {K V : Type 0} (order : K → K → Ordering) (new : K × V) (before after : List (K × V)) → All (λ entry. order entry.0 new.0 ≡ Less) before → All (λ entry. order entry.0 new.0 ≡ Greater) after → placed order new (before ++ after) ≡ before ++ (new ∷ after)
placed-between order new [] after less greater = placed_in_front order new after (none_Less (λ k. order k new.0) after greater)
placed-between order new (x ∷ xs) after less greater =
    rw (ap is_lt (All-head (λ entry. order entry.0 new.0 ≡ Less) x xs less))
    (ap (λ ys. x ∷ ys) (placed-between order new xs after (All-tail (λ entry. order entry.0 new.0 ≡ Less) x xs less) greater))

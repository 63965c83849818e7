-- What a search from the front answers of the live list.
use Rattle.std.proofs.Common.{◌≡◌, ◌≢◌, ℕ, zero, suc, ◌-◌, ◌≤◌, ◌<◌, List, [], ◌∷◌, length, get_or, refl, sym, ap, ◌∙◌, arith, Result, Ok, Err, is_ok}
use Rattle.std.specs.Bool.{OnTrue, OnFalse}
use Rattle.std.specs.Ordering.{is_lt}
use Rattle.std.specs.declared.cmp.Ordering.{Ordering}
use Rattle.i_tree.specs.LiveList.{IsRising, IsLawful, IsNewKey}
use Rattle.i_tree.specs.KeyAnswers.{last_where, last_below, HasEqualKey, IsMonotone, IsAnswer}
use Rattle.i_tree.specs.KeyAnswers.IsAnswer.{equal, less}
use Rattle.i_tree.specs.Search.{place_of, stop_of, value_before_place}
use Rattle.i_tree.proofs.Keys.Places.{last_where-place, Equal-at_Ok, Any_Equal-at_Ok, none_Equal-at_Err, IsMonotone-order}

-- the value before a place that isn't the first is that of the entry there
pub value_before_place-get_or : {K V : Type 0} (default : V) (es : List (K × V)) (i : ℕ) (d : K × V) → i < length es → value_before_place default es (suc i) ≡ (get_or es i d).1
value_before_place-get_or default [] i d h = absurd (omega arith)
value_before_place-get_or default (x ∷ xs) zero d h = refl
value_before_place-get_or default (x ∷ xs) (suc i) d h = value_before_place-get_or x.1 xs i d (omega arith)

pub value_before_place-index : {K V : Type 0} (default : V) (es : List (K × V)) (at : ℕ) (d : K × V) → at ≢ 0 → at ≤ length es → value_before_place default es at ≡ (get_or es (at - 1) d).1
value_before_place-index default es zero d some h = absurd (some refl)
value_before_place-index default es (suc i) d some h = let back : suc i - 1 ≡ i = omega arith in rw back (value_before_place-get_or default es i d (omega arith))

module _ {K V : Type 0} (order : K → K → Ordering) (key : K) (entries live : List (K × V)) (is : entries ≡ live) (rising : IsRising order entries) (lawful : IsLawful order key live) where
  monotone : IsMonotone (λ k. order k key) entries
  monotone = IsMonotone-order order key entries rising (rw is lawful)

  pub last_below-place : (default : V) → value_before_place default entries (stop_of (place_of (λ k. order k key) entries)) ≡ last_below order key default live
  last_below-place default = last_where-place (λ k. order k key) default entries monotone ∙ rw is refl

  -- the search says Ok exactly where an entry's key is equal
  pub HasEqualKey-place : (r : Result ℕ ℕ) → r ≡ place_of (λ k. order k key) entries → OnTrue (is_ok r) (HasEqualKey order key live) × OnFalse (is_ok r) (IsNewKey order key live)
  HasEqualKey-place (Ok at) e = (rw is at (Any_Equal-at_Ok (λ k. order k key) entries at (sym e)), tt)
  HasEqualKey-place (Err at) e = (tt, rw is at (none_Equal-at_Err (λ k. order k key) entries at monotone (sym e)))

module _ {K V : Type 0} (by : K → Ordering) (default : V) (entries live : List (K × V)) (is : entries ≡ live) (mono : IsMonotone by live) where
  -- an entry where the search says Ok is an answer
  pub IsAnswer-at_Ok : (at : ℕ) (found : K × V) → at < length entries → found ≡ get_or entries at found → Ok at ≡ place_of by entries → IsAnswer by default live found.1
  IsAnswer-at_Ok at found within read e =
      equal found.0 (at, rw (← is) within, rw (← is) (sym read)) (rw read (Equal-at_Ok by entries at found (sym e)))

  -- and where it says Err the value just before is
  pub IsAnswer-at_Err : (at : ℕ) → Err at ≡ place_of by entries → IsAnswer by default live (value_before_place default entries at)
  IsAnswer-at_Err at e =
      let rises : IsMonotone by entries = rw is mono in
      let last : value_before_place default entries (stop_of (place_of by entries)) ≡ last_where (λ k. is_lt (by k)) default entries = last_where-place by default entries rises in
      less (rw is at (none_Equal-at_Err by entries at rises (sym e))) (rw (← e) at last ∙ ap (last_where (λ k. is_lt (by k)) default) is)

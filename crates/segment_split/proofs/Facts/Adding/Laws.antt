-- Edges added one after another, until all are added or one is refused.
use Rattle.std.specs.Prelude.{◌≡◌, ℕ, ◌+◌, List, ◌++◌, length, OnOk, OnErr, IfOk, IfErr}
use Rattle.std.specs.declared.result.Result.{Result}
use Rattle.std.specs.declared.result.Result.TheVariants.{Ok, Err}
use Rattle.std.proofs.Common.{sym, ap, subst, ◌∙◌, append_assoc}
use Rattle.std.proofs.lemmas.List.{length-append}
use Rattle.plane_base.specs.declared.fault.Fault.{Fault}
use Rattle.segment_split.specs.Adding.{LacksRoom}

-- Some entries are added to the old ones, and those and the rest are all.
abbrev pub IsUnderWay : {A : Type 0} → List A → List A → List A → List A → Type 0
IsUnderWay {A} all rest old now = (added : List A) × (now ≡ old ++ added) × (added ++ rest ≡ all)

module _ {A : Type 0} (all step rest old now : List A) (way : IsUnderWay all (step ++ rest) old now) where
  pub one_more : (new : List A) → new ≡ now ++ step → IsUnderWay all rest old new
  one_more new is =
      (way.0 ++ step, is ∙ ap (λ l. l ++ step) way.1 ∙ append_assoc old way.0 step, append_assoc way.0 step rest ∙ way.2)

-- what follows from what an answered call ensures, it ensures too
pub on_answer : {T E : Type 0} {P Q : Type 0} (r : Result T E) → (P → Q) → OnOk r P → OnOk r Q
on_answer (Ok t) f h = f h
on_answer (Err e) f h = tt

pub on_refusal : {T E : Type 0} {P Q : Type 0} (r : Result T E) → (P → Q) → OnErr r P → OnErr r Q
on_refusal (Ok t) f h = tt
on_refusal (Err e) f h = f h

pub if_answered : {T E : Type 0} {P Q : T → Type 0} (r : Result T E) → ((t : T) → P t → Q t) → IfOk r P → IfOk r Q
if_answered (Ok t) f h = f t h
if_answered (Err e) f h = tt

pub if_refused : {T E : Type 0} {P Q : E → Type 0} (r : Result T E) → ((e : E) → P e → Q e) → IfErr r P → IfErr r Q
if_refused (Ok t) f h = tt
if_refused (Err e) f h = f e h

pub answered : {T E : Type 0} {P : Type 0} (r : Result T E) → P → OnOk r P
answered (Ok t) h = h
answered (Err e) h = tt

-- as long as both parts
pub parts_length : {A : Type 0} (all one other : List A) → all ≡ one ++ other → length all ≡ length one + length other
parts_length all one other is = ap length is ∙ length-append one other

-- ---- room

-- room that is lacking, in other words
pub room_at : (capacity held more : ℕ) (fault : Fault) (capacity' held' more' : ℕ) (fault' : Fault)
    → capacity' ≡ capacity → held' ≡ held → more' ≡ more → fault' ≡ fault
    → LacksRoom capacity held more fault → LacksRoom capacity' held' more' fault'
room_at capacity held more fault capacity' held' more' fault' c h m f lacks =
    subst (λ n. LacksRoom n held' more' fault') (sym c)
    (subst (λ n. LacksRoom capacity n more' fault') (sym h)
    (subst (λ n. LacksRoom capacity held n fault') (sym m) (subst (LacksRoom capacity held more) (sym f) lacks)))

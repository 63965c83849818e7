-- Which edges are old, told by the next new one of each.
use Rattle.std.specs.Prelude.{◌≡◌, ◌⊎◌, ℕ, zero, suc, ◌+◌, ◌<◌, ◌≤◌, List, [], ◌∷◌, ◌++◌, length, slice_index_or, Contains, All}
use Rattle.std.proofs.Common.{refl, sym, ap, ◌∙◌, subst, inl, inr, ⊎_elim, append_assoc, append-nil, arith}
use Rattle.std.proofs.lemmas.List.{get_or_at, get_or_past, length-append}
use Rattle.std.proofs.lemmas.Bool.{cases_lt, cases_order}
use Rattle.std.proofs.lemmas.List.Elements.{All-head, All-tail, All-contains}
use Rattle.plane_base.specs.Plane.{Edge}
use Rattle.segment_split.specs.Passes.{marks_in, marks_on}
use Rattle.segment_split.specs.MarkLists.{IsAt, IsFilled, AreUnmarked, AllParted, SkipsOld, SkipsTo, IsTold}
use Rattle.segment_split.specs.declared.solver.Precision.{Precision}
use Rattle.segment_split.proofs.Passes.OldPairs.{old_pairs_parted}
use Rattle.segment_split.proofs.Passes.MarkLists.{at_same}

-- a list with one more at its end, read anywhere
read_pushed : (ns : List ℕ) (x j d : ℕ) → (slice_index_or (ns ++ x ∷ []) j d ≡ slice_index_or ns j d) ⊎ ((j ≡ length ns) × (slice_index_or (ns ++ x ∷ []) j d ≡ x))
read_pushed [] x zero d = inr (refl, refl)
read_pushed [] x (suc j) d = inl refl
read_pushed (n ∷ ns) x zero d = inl refl
read_pushed (n ∷ ns) x (suc j) d = ⊎_elim inl (λ h. inr (ap suc h.0, h.1)) (read_pushed ns x j d)

pub length_pushed : (ns : List ℕ) (x : ℕ) → length (ns ++ x ∷ []) ≡ length ns + 1
length_pushed [] x = omega arith
length_pushed (n ∷ ns) x = let h = length_pushed ns x in omega (arith, h)

pub none_old : (es : List Edge) → SkipsOld es []
none_old es = record {
  old = [];
  parted = λ s t at. let l : at.0 < 0 = at.1 in absurd (omega (arith, l));
  passed = λ j n t l m. absurd (omega (arith, l, m));
}

-- edges that a pass left unmarked
pub unmarked_parted : (precision : Precision) (k : ℕ) (es kept : List Edge) → AreUnmarked (marks_in precision k) es kept → AllParted kept
unmarked_parted precision k es kept h s t at there =
    let one = All-contains (λ s. Contains es s × (marks_on (marks_in precision k) es s ≡ [])) kept s h at in
    let other = All-contains (λ s. Contains es s × (marks_on (marks_in precision k) es s ≡ [])) kept t h there in
    old_pairs_parted precision k es s t one.0 other.0 one.1 other.1

module _ (es old : List Edge) where
  pub skips_none : SkipsTo es old [] 0
  skips_none = record {
    passed = λ j n t l m. absurd (omega (arith, l, m));
    left = λ n t l m. absurd (omega (arith, m));
    short = omega arith;
  }

  -- the number is told of all before it
  pub skips_filled : (next full : List ℕ) (i : ℕ) → length full ≤ i → IsFilled i next full → SkipsTo es old next i → SkipsTo es old full i
  skips_filled next full i short filled h = record {
    passed = λ j n t l m at. by j n t l m at (cases_lt j (length next)) (cases_lt j (length full));
    left = λ n t l m at. let longer = filled.longer in h.left n t (omega (arith, l, longer)) m at;
    short = short;
  }
    where
      by : (j n : ℕ) (t : Edge) → j ≤ n → n < slice_index_or full j j → IsAt es n t → (j < length next) ⊎ (length next ≤ j) → (j < length full) ⊎ (length full ≤ j) → Contains old t
      by j n t l m at (inl c) side = h.passed j n t l (subst (λ k. n < k) (filled.kept j j c) m) at
      by j n t l m at (inr c) (inl d) = h.left n t (omega (arith, l, c)) (subst (λ k. n < k) (filled.filled j j c d) m) at
      by j n t l m at (inr c) (inr d) = let past = get_or_past full j j d in absurd (omega (arith, l, m, past))

  -- the edge i is new
  pub skips_new : (next : List ℕ) (i : ℕ) → length next ≡ i → (more : List ℕ) → more ≡ next ++ i ∷ [] → SkipsTo es old next i → SkipsTo es old more (i + 1)
  skips_new next i full more e h = record {
    passed = λ j n t l m at. by j n t l (subst (λ ns. n < slice_index_or ns j j) e m) at (read_pushed next i j j);
    left = λ n t l m at. absurd (omega (arith, l, m, longer, full));
    short = omega (arith, longer, full);
  }
    where
      longer : length more ≡ length next + 1
      longer = ap length e ∙ length_pushed next i

      by : (j n : ℕ) (t : Edge) → j ≤ n → n < slice_index_or (next ++ i ∷ []) j j → IsAt es n t
          → (slice_index_or (next ++ i ∷ []) j j ≡ slice_index_or next j j) ⊎ ((j ≡ length next) × (slice_index_or (next ++ i ∷ []) j j ≡ i)) → Contains old t
      by j n t l m at (inl e) = h.passed j n t l (omega (arith, m, e)) at
      by j n t l m at (inr e) = absurd (omega (arith, l, m, e.0, e.1, full))

  -- the edge i is old
  pub skips_old : (next : List ℕ) (i : ℕ) (s : Edge) → IsAt es i s → Contains old s → SkipsTo es old next i → SkipsTo es old next (i + 1)
  skips_old next i s at here h = record {
    passed = h.passed;
    left = λ n t l m there. by n t l m there (cases_order n i);
    short = let l = h.short in omega (arith, l);
  }
    where
      by : (n : ℕ) (t : Edge) → length next ≤ n → n < i + 1 → IsAt es n t → (n ≡ i) ⊎ ((n < i) ⊎ (i < n)) → Contains old t
      by n t l m there (inl e) = subst (Contains old) (at_same es i s t at (subst (λ n. IsAt es n t) e there)) here
      by n t l m there (inr (inl c)) = h.left n t l c there
      by n t l m there (inr (inr c)) = absurd (omega (arith, m, c))

  pub skips_all : AllParted old → (next : List ℕ) (i : ℕ) → SkipsTo es old next i → SkipsOld es next
  skips_all apart next i h = record { old = old; parted = apart; passed = h.passed }

-- ---- edges that others may follow

pub told_none : (old : List Edge) → IsTold [] old []
told_none old more = skips_none more old

-- it is told of one more
pub told_next : (es old : List Edge) (s : Edge) (next after : List ℕ) (n : ℕ) → length es ≡ n
    → ((all : List Edge) → IsAt all n s → SkipsTo all old next n → SkipsTo all old after (n + 1))
    → IsTold es old next → (longer : List Edge) → longer ≡ es ++ s ∷ [] → IsTold longer old after
told_next es old s next after n e tell h longer is more =
    subst (λ l. SkipsTo l old after (length longer)) (sym whole)
    (subst (SkipsTo (es ++ s ∷ more) old after) (sym count) (tell (es ++ s ∷ more) at (subst (SkipsTo (es ++ s ∷ more) old next) e (h (s ∷ more)))))
  where
    whole : longer ++ more ≡ es ++ s ∷ more
    whole = ap (λ l. l ++ more) is ∙ append_assoc es (s ∷ []) more

    count : length longer ≡ n + 1
    count = let c = ap length is ∙ length-append es (s ∷ []) in omega (arith, c, e)

    at : IsAt (es ++ s ∷ more) n s
    at = let c = length-append es (s ∷ more) in (omega (arith, c, e), sym (get_or_at es s more s n e))

-- it is told of old ones together
pub told_run : (run es old : List Edge) (next : List ℕ) → All (Contains old) run → IsTold es old next → IsTold (es ++ run) old next
told_run [] es old next h told = subst (λ l. IsTold l old next) (sym (append-nil es)) told
told_run (s ∷ run) es old next h told =
    subst (λ l. IsTold l old next) (append_assoc es (s ∷ []) run)
    (told_run run (es ++ s ∷ []) old next (All-tail (Contains old) s run h)
    (told_next es old s next next (length es) refl (λ all at skips. skips_old all old next (length es) s at (All-head (Contains old) s run h) skips) told (es ++ s ∷ []) refl))

-- of new ones together
pub told_new : (run es old : List Edge) (next after : List ℕ) → ((all : List Edge) → SkipsTo all old next (length es) → SkipsTo all old after (length (es ++ run)))
    → IsTold es old next → IsTold (es ++ run) old after
told_new run es old next after tell told more = subst (λ l. SkipsTo l old after (length (es ++ run))) (sym (append_assoc es run more)) (tell (es ++ (run ++ more)) (told (run ++ more)))

-- where no more follow it is told of all
pub told_all : (es old : List Edge) → AllParted old → (next after : List ℕ) → (SkipsTo es old next (length es) → SkipsTo es old after (length es)) → IsTold es old next → SkipsOld es after
told_all es old apart next after fill h =
    skips_all es old apart after (length es) (fill (subst (λ l. SkipsTo l old next (length es)) (append-nil es) (h [])))

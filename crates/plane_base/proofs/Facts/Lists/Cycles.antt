-- Laws of cycles: lists up to rotation.
use Rattle.std.proofs.Common.{◌≡◌, ◌+◌, List, [], ◌∷◌, ◌++◌, length, All, Contains, refl, sym, ap, ◌∙◌, subst, ◌⊎◌, inl, inr, append_assoc, length-append, arith}
use Rattle.std.proofs.lemmas.List.{append-nil}
use Rattle.std.proofs.lemmas.List.Elements.{All-nil, All-cons, All-head, All-tail, All-append, Contains-append_left, Contains-append_right, Contains-append_cases}
use Rattle.plane_base.specs.Cycles.{SameCycle}

-- One list in two parts, twice: between the two cuts stands some list.
pub data Cuts {A : Type 0} (a b c d : List A) : Type 0 where
  later : (between : List A) → c ≡ a ++ between → b ≡ between ++ d → Cuts a b c d
  earlier : (between : List A) → a ≡ c ++ between → d ≡ between ++ b → Cuts a b c d

pub cut_twice : {A : Type 0} (a b c d : List A) → a ++ b ≡ c ++ d → Cuts a b c d
cut_twice [] b c d e = later c refl e
cut_twice (x ∷ a) b [] d e = earlier (x ∷ a) refl (sym e)
cut_twice (x ∷ a) b (y ∷ c) d e =
    let head : x ≡ y = cc in
    let tail : a ++ b ≡ c ++ d = cc in
    by head (cut_twice a b c d tail)
  where
    by : x ≡ y → Cuts a b c d → Cuts (x ∷ a) b (y ∷ c) d
    by h (later us p q) = later us (cc) q
    by h (earlier us p q) = earlier us (cc) q

-- ---- equality up to rotation

pub cycle_refl : {A : Type 0} (c : List A) → SameCycle c c
cycle_refl c = record { front = []; back = c; first = refl; second = sym (append-nil c) }

pub cycle_sym : {A : Type 0} {c d : List A} → SameCycle c d → SameCycle d c
cycle_sym s = record { front = s.back; back = s.front; first = s.second; second = s.first }

pub cycle_trans : {A : Type 0} {c d e : List A} → SameCycle c d → SameCycle d e → SameCycle c e
cycle_trans {c = c} {d = d} {e = e} s t = by (cut_twice s.back s.front t.front t.back (sym s.second ∙ t.first))
  where
    by : Cuts s.back s.front t.front t.back → SameCycle c e
    by (later us p q) = record {
      front = us;
      back = t.back ++ s.back;
      first = s.first ∙ (ap (λ x. x ++ s.back) q ∙ append_assoc us t.back s.back);
      second = t.second ∙ (ap (λ x. t.back ++ x) p ∙ sym (append_assoc t.back s.back us));
    }
    by (earlier us p q) = record {
      front = s.front ++ t.front;
      back = us;
      first = s.first ∙ (ap (λ x. s.front ++ x) p ∙ sym (append_assoc s.front t.front us));
      second = t.second ∙ (ap (λ x. x ++ t.front) q ∙ append_assoc us s.front t.front);
    }

pub cycle_same : {A : Type 0} {c d : List A} → c ≡ d → SameCycle c d
cycle_same {c = c} e = subst (λ x. SameCycle c x) e (cycle_refl c)

pub cycle_rotated : {A : Type 0} (front back : List A) → SameCycle (front ++ back) (back ++ front)
cycle_rotated front back = record { front = front; back = back; first = refl; second = refl }

pub cycle_first_last : {A : Type 0} (x : A) (xs : List A) → SameCycle (x ∷ xs) (xs ++ x ∷ [])
cycle_first_last x xs = cycle_rotated (x ∷ []) xs

pub cycle_length : {A : Type 0} {c d : List A} → SameCycle c d → length c ≡ length d
cycle_length s =
    let p : length (s.front ++ s.back) ≡ length s.front + length s.back = length-append s.front s.back in
    let q : length (s.back ++ s.front) ≡ length s.back + length s.front = length-append s.back s.front in
    ap length s.first ∙ (p ∙ (omega (arith, p, q)) ∙ sym (ap length s.second))

-- ---- elements

pub All-front : {A : Type 0} (P : A → Type 0) (xs ys : List A) → All P (xs ++ ys) → All P xs
All-front P [] ys h = All-nil P
All-front P (x ∷ xs) ys h = All-cons P x xs (All-head P x (xs ++ ys) h) (All-front P xs ys (All-tail P x (xs ++ ys) h))

pub All-back : {A : Type 0} (P : A → Type 0) (xs ys : List A) → All P (xs ++ ys) → All P ys
All-back P [] ys h = h
All-back P (x ∷ xs) ys h = All-back P xs ys (All-tail P x (xs ++ ys) h)

pub cycle_Contains : {A : Type 0} (x : A) {c d : List A} → SameCycle c d → Contains c x → Contains d x
cycle_Contains x {c = c} {d = d} s h =
    let k : Contains (s.front ++ s.back) x = rw s.first at h in
    let j : Contains (s.back ++ s.front) x = by (Contains-append_cases s.front s.back x k) in
    rw s.second j
  where
    by : Contains s.front x ⊎ Contains s.back x → Contains (s.back ++ s.front) x
    by (inl h) = Contains-append_right s.back s.front x h
    by (inr h) = Contains-append_left s.back s.front x h

pub cycle_All : {A : Type 0} (P : A → Type 0) {c d : List A} → SameCycle c d → All P c → All P d
cycle_All P {c = c} {d = d} s h =
    let k : All P (s.front ++ s.back) = rw s.first at h in
    let j : All P (s.back ++ s.front) = All-append P s.back s.front (All-back P s.front s.back k) (All-front P s.front s.back k) in
    rw s.second j

-- ---- two places of one cycle

-- The first elements of a cycle's two lists are at two places: what stands between them, either way round.
pub record IsElsewhere {A : Type 0} (x : A) (xs : List A) (y : A) (ys : List A) : Type 0 where
  pub to : List A
  pub from : List A
  pub first : xs ≡ to ++ y ∷ from
  pub second : ys ≡ from ++ x ∷ to

-- one cycle begun twice begins at one place or at two
pub cycle_places : {A : Type 0} {x y : A} {xs ys : List A} → SameCycle (x ∷ xs) (y ∷ ys) → ((x ≡ y) × (xs ≡ ys)) ⊎ IsElsewhere x xs y ys
cycle_places {x = x} {y = y} {xs = xs} {ys = ys} s = by s.front s.back s.first s.second
  where
    by : (front back : List _) → x ∷ xs ≡ front ++ back → y ∷ ys ≡ back ++ front → ((x ≡ y) × (xs ≡ ys)) ⊎ IsElsewhere x xs y ys
    by [] back e f =
        let g : back ≡ y ∷ ys = sym (append-nil back) ∙ sym f in
        inl (cc, cc)
    by (u ∷ front) [] e f =
        let g : u ∷ front ≡ x ∷ xs = sym (append-nil (u ∷ front)) ∙ sym e in
        inl (cc, cc)
    by (u ∷ front) (v ∷ back) e f =
        let p : u ≡ x = cc in
        let q : v ≡ y = cc in
        inr (record { to = front; from = back; first = cc; second = cc })

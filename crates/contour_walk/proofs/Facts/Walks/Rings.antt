-- Spokes round a node in their cyclic order, by turns out of it and into it, and what is left where two neighbours go.
use Rattle.std.proofs.Common.{◌≡◌, Bool, true, false, not, List, [], ◌∷◌, ◌++◌, append_assoc, append-nil, reverse, inl, inr, refl, sym, ap, ◌∙◌, subst}
use Rattle.std.proofs.lemmas.Bool.{false≢true}
use Rattle.plane_base.specs.Plane.{Point, Edge}
use Rattle.segment_arrangement.specs.Rings.{Leads}
use Rattle.contour_walk.proofs.Facts.Walks.Turns.{Apart, apart_back, not_apart, Turns, turns_on, turns_otherwise, Has}
use mathlib.Core.List.{reverse-cons}

-- ---- lists

abbrev pub Each : {A : Type 0} → (A → Type 0) → List A → Type 0
Each P [] = Unit {0}
Each P (x ∷ xs) = P x × Each P xs

abbrev pub Pairs : {A : Type 0} → (A → A → Type 0) → List A → Type 0
Pairs R [] = Unit {0}
Pairs R (x ∷ xs) = Each (R x) xs × Pairs R xs

abbrev pub Triples : {A : Type 0} → (A → A → A → Type 0) → List A → Type 0
Triples R [] = Unit {0}
Triples R (x ∷ xs) = Pairs (R x) xs × Triples R xs

module _ {A : Type 0} where
  pub each_weaker : (P Q : A → Type 0) → ((x : A) → P x → Q x) → (xs : List A) → Each P xs → Each Q xs
  each_weaker P Q f [] h = tt
  each_weaker P Q f (x ∷ xs) h = (f x h.0, each_weaker P Q f xs h.1)

  pub each_append : (P : A → Type 0) (xs ys : List A) → Each P xs → Each P ys → Each P (xs ++ ys)
  each_append P [] ys h k = k
  each_append P (x ∷ xs) ys h k = (h.0, each_append P xs ys h.1 k)

  pub each_has : (P : A → Type 0) (xs : List A) (x : A) → Each P xs → Has xs x → P x
  each_has P [] x h k = absurd k
  each_has P (y ∷ ys) x h (inl e) = subst P e h.0
  each_has P (y ∷ ys) x h (inr k) = each_has P ys x h.1 k

  pub each_from_has : (P : A → Type 0) (xs : List A) → ((x : A) → Has xs x → P x) → Each P xs
  each_from_has P [] f = tt
  each_from_has P (x ∷ xs) f = (f x (inl refl), each_from_has P xs (λ y k. f y (inr k)))

  pub pairs_weaker : (R S : A → A → Type 0) → ((x y : A) → R x y → S x y) → (xs : List A) → Pairs R xs → Pairs S xs
  pairs_weaker R S f [] h = tt
  pairs_weaker R S f (x ∷ xs) h = (each_weaker (R x) (S x) (f x) xs h.0, pairs_weaker R S f xs h.1)

  pairs_push : (R : A → A → Type 0) (xs : List A) (x : A) → Pairs R xs → Each (λ y. R y x) xs → Pairs R (xs ++ x ∷ [])
  pairs_push R [] x h k = (tt, tt)
  pairs_push R (y ∷ ys) x h k = (each_append (R y) ys (x ∷ []) h.0 (k.0, tt), pairs_push R ys x h.1 k.1)

  triples_weaker : (R S : A → A → A → Type 0) → ((x y z : A) → R x y z → S x y z) → (xs : List A) → Triples R xs → Triples S xs
  triples_weaker R S f [] h = tt
  triples_weaker R S f (x ∷ xs) h = (pairs_weaker (R x) (S x) (f x) xs h.0, triples_weaker R S f xs h.1)

  triples_push : (R : A → A → A → Type 0) (xs : List A) (x : A) → Triples R xs → Pairs (λ y z. R y z x) xs → Triples R (xs ++ x ∷ [])
  triples_push R [] x h k = (tt, tt)
  triples_push R (y ∷ ys) x h k = (pairs_push (R y) ys x h.0 k.0, triples_push R ys x h.1 k.1)

  each_reversed : (P : A → Type 0) (xs : List A) → Each P xs → Each P (reverse xs)
  each_reversed P [] h = tt
  each_reversed P (x ∷ xs) h = subst (Each P) (sym (reverse-cons x xs)) (each_append P (reverse xs) (x ∷ []) (each_reversed P xs h.1) (h.0, tt))

  pairs_reversed : (R : A → A → Type 0) (xs : List A) → Pairs R xs → Pairs (λ x y. R y x) (reverse xs)
  pairs_reversed R [] h = tt
  pairs_reversed R (x ∷ xs) h =
      subst (Pairs (λ x y. R y x)) (sym (reverse-cons x xs)) (pairs_push (λ x y. R y x) (reverse xs) x (pairs_reversed R xs h.1) (each_reversed (R x) xs h.0))

  triples_reversed : (R : A → A → A → Type 0) (xs : List A) → Triples R xs → Triples (λ x y z. R z y x) (reverse xs)
  triples_reversed R [] h = tt
  triples_reversed R (x ∷ xs) h =
      subst (Triples (λ x y z. R z y x)) (sym (reverse-cons x xs))
      (triples_push (λ x y z. R z y x) (reverse xs) x (triples_reversed R xs h.1) (pairs_reversed (R x) xs h.0))

  pub has_append_left : (xs ys : List A) (x : A) → Has xs x → Has (xs ++ ys) x
  has_append_left [] ys x h = absurd h
  has_append_left (y ∷ xs) ys x (inl e) = inl e
  has_append_left (y ∷ xs) ys x (inr k) = inr (has_append_left xs ys x k)

  pub has_append_right : (xs ys : List A) (x : A) → Has ys x → Has (xs ++ ys) x
  has_append_right [] ys x h = h
  has_append_right (y ∷ xs) ys x h = inr (has_append_right xs ys x h)

  has_reversed : (xs : List A) (x : A) → Has xs x → Has (reverse xs) x
  has_reversed [] x h = absurd h
  has_reversed (y ∷ ys) x (inl e) = subst (λ l. Has l x) (sym (reverse-cons y ys)) (has_append_right (reverse ys) (y ∷ []) x (inl e))
  has_reversed (y ∷ ys) x (inr k) = subst (λ l. Has l x) (sym (reverse-cons y ys)) (has_append_left (reverse ys) (y ∷ []) x (has_reversed ys x k))

  -- a list in two parts about one of its elements
  record Parts (xs : List A) (x : A) : Type 0 where
    front : List A
    back : List A
    is : xs ≡ front ++ x ∷ back

  parts_at : (xs : List A) (x : A) → Has xs x → Parts xs x
  parts_at [] x h = absurd h
  parts_at (y ∷ ys) x (inl e) = record { front = []; back = ys; is = ap (λ z. z ∷ ys) e }
  parts_at (y ∷ ys) x (inr k) = let p = parts_at ys x k in record { front = y ∷ p.front; back = p.back; is = ap (λ l. y ∷ l) p.is }

-- ---- by turns

twice : (b : Bool) → not (not b) ≡ b
twice true = refl
twice false = refl

module _ {A : Type 0} (test : A → Bool) where
  -- true and false by turns
  abbrev pub ByTurns : Bool → Bool → List A → Type 0
  ByTurns from to xs = Leads test (λ x. not (test x)) from to xs

  by_turns_append : (from mid to : Bool) (xs ys : List A) → ByTurns from mid xs → ByTurns mid to ys → ByTurns from to (xs ++ ys)
  by_turns_append from mid to [] ys h k = subst (λ b. ByTurns b to ys) (sym h) k
  by_turns_append from mid to (x ∷ xs) ys h k = (h.0, by_turns_append (not (test x)) mid to xs ys h.1 k)

  by_turns_rotated : (b : Bool) (x : A) (xs : List A) → ByTurns b b (x ∷ xs) → ByTurns (not b) (not b) (xs ++ x ∷ [])
  by_turns_rotated b x xs h = by_turns_append (not b) b (not b) xs (x ∷ []) (subst (λ c. ByTurns c b xs) (ap not h.0) h.1) (h.0, ap not h.0)

  by_turns_reversed : (from to : Bool) (xs : List A) → ByTurns from to xs → ByTurns (not to) (not from) (reverse xs)
  by_turns_reversed from to [] h = sym (ap not h)
  by_turns_reversed from to (x ∷ xs) h =
      subst (ByTurns (not to) (not from)) (sym (reverse-cons x xs))
      (by_turns_append (not to) (not (not (test x))) (not from) (reverse xs) (x ∷ []) (by_turns_reversed (not (test x)) to xs h.1) (sym (twice (test x)), ap not h.0))

  by_turns_without : (b : Bool) (x y : A) (rest : List A) → ByTurns b b (x ∷ y ∷ rest) → ByTurns b b rest
  by_turns_without b x y rest h = subst (λ c. ByTurns c b rest) (ap not (h.1).0 ∙ (twice (test x) ∙ h.0)) (h.1).1

-- ---- the spokes of a node

-- a link at a node: its other end, and whether one steps out of the node along it
pub record Spoke : Type 0 where
  pub far : Point
  pub out : Bool

abbrev pub spoke : Point → Bool → Spoke
spoke far out = record { far = far; out = out }

-- the step out of u is one of the outward ones, the step into it one of the inward ones
abbrev pub Lies : (Edge → Type 0) → (Edge → Type 0) → Point → Point → Bool → Type 0
Lies O I u far true = O (record { a = u; b = far })
Lies O I u far false = I (record { a = far; b = u })

abbrev pub IsSpoke : (Edge → Type 0) → (Edge → Type 0) → Point → Spoke → Type 0
IsSpoke O I u s = Lies O I u s.far s.out

abbrev pub ApartAt : Point → Spoke → Spoke → Type 0
ApartAt u s t = Apart u s.far t.far

abbrev pub TurnsAt : Bool → Point → Spoke → Spoke → Spoke → Type 0
TurnsAt c u s t r = Turns c u s.far t.far r.far

-- all spokes of the node u in the order of turning, by turns outward and inward
pub record IsWheel (c : Bool) (O I : Edge → Type 0) (u : Point) (spokes : List Spoke) : Type 0 where
  pub sound : Each (IsSpoke O I u) spokes
  pub complete : (s : Spoke) → IsSpoke O I u s → Has spokes s
  pub apart : Pairs (ApartAt u) spokes
  pub order : Triples (TurnsAt c u) spokes
  pub start : Bool
  pub by_turns : ByTurns (λ s. s.out) start start spokes

-- each node has such a wheel
abbrev pub Alternates : Bool → (Edge → Type 0) → (Edge → Type 0) → Type 0
Alternates c O I = (u : Point) → (spokes : List Spoke) × IsWheel c O I u spokes

module _ {c : Bool} {O I : Edge → Type 0} {u : Point} where
  rotated_once : (x : Spoke) (xs : List Spoke) → IsWheel c O I u (x ∷ xs) → IsWheel c O I u (xs ++ x ∷ [])
  rotated_once x xs w = record {
    sound = each_append (IsSpoke O I u) xs (x ∷ []) (w.sound).1 ((w.sound).0, tt);
    complete = λ s is. moved s (w.complete s is);
    apart = pairs_push (ApartAt u) xs x (w.apart).1 (each_weaker (ApartAt u x) (λ y. ApartAt u y x) (λ y. apart_back u x.far y.far) xs (w.apart).0);
    order = triples_push (TurnsAt c u) xs x (w.order).1 (pairs_weaker (TurnsAt c u x) (λ y z. TurnsAt c u y z x) (λ y z. turns_on c u x.far y.far z.far) xs (w.order).0);
    start = not w.start;
    by_turns = by_turns_rotated (λ s. s.out) w.start x xs w.by_turns;
  }
    where
      moved : (s : Spoke) → Has (x ∷ xs) s → Has (xs ++ x ∷ []) s
      moved s (inl e) = has_append_right xs (x ∷ []) s (inl e)
      moved s (inr k) = has_append_left xs (x ∷ []) s k

  rotated_to : (front : List Spoke) (x : Spoke) (back : List Spoke) → IsWheel c O I u (front ++ x ∷ back) → IsWheel c O I u (x ∷ back ++ front)
  rotated_to [] x back w = subst (λ l. IsWheel c O I u (x ∷ l)) (sym (append-nil back)) w
  rotated_to (y ∷ front) x back w =
      subst (λ l. IsWheel c O I u (x ∷ l)) (append_assoc back (y ∷ []) front)
      (rotated_to front x (back ++ y ∷ []) (subst (IsWheel c O I u) (append_assoc front (x ∷ back) (y ∷ [])) (rotated_once y (front ++ x ∷ back) w)))

  -- the wheel from any of its spokes on
  pub wheel_from : (spokes : List Spoke) (x : Spoke) → IsWheel c O I u spokes → IsSpoke O I u x → (rest : List Spoke) × IsWheel c O I u (x ∷ rest)
  wheel_from spokes x w is = by (parts_at spokes x (w.complete x is))
    where
      by : Parts spokes x → (rest : List Spoke) × IsWheel c O I u (x ∷ rest)
      by p = (p.back ++ p.front, rotated_to p.front x p.back (subst (IsWheel c O I u) p.is w))

  -- the same turned the other way
  turned_wheel : (spokes : List Spoke) → IsWheel c O I u spokes → IsWheel (not c) O I u (reverse spokes)
  turned_wheel spokes w = record {
    sound = each_reversed (IsSpoke O I u) spokes w.sound;
    complete = λ s is. has_reversed spokes s (w.complete s is);
    apart = pairs_weaker (λ x y. ApartAt u y x) (ApartAt u) (λ x y. apart_back u y.far x.far) (reverse spokes) (pairs_reversed (ApartAt u) spokes w.apart);
    order =
        triples_weaker (λ x y z. TurnsAt c u z y x) (TurnsAt (not c) u) (λ x y z h. turns_on (not c) u z.far x.far y.far (turns_otherwise c u z.far y.far x.far h)) (reverse spokes)
        (triples_reversed (TurnsAt c u) spokes w.order);
    start = not w.start;
    by_turns = by_turns_reversed (λ s. s.out) w.start w.start spokes w.by_turns;
  }

  -- two neighbours go
  pub without_neighbours : (O' I' : Edge → Type 0) (x y : Spoke) (rest : List Spoke) → IsWheel c O I u (x ∷ y ∷ rest)
      → ((s : Spoke) → IsSpoke O I u s → (s ≡ x → ⊥) → (s ≡ y → ⊥) → IsSpoke O' I' u s)
      → ((s : Spoke) → IsSpoke O' I' u s → IsSpoke O I u s) → (IsSpoke O' I' u x → ⊥) → (IsSpoke O' I' u y → ⊥)
      → IsWheel c O' I' u rest
  without_neighbours O' I' x y rest w kept was not_x not_y = record {
    sound =
        each_from_has (IsSpoke O' I' u) rest
        (λ s here. kept s (each_has (IsSpoke O I u) rest s ((w.sound).1).1 here)
        (λ e. not_apart u x.far s.far (each_has (ApartAt u x) rest s ((w.apart).0).1 here) (sym (ap (λ t. t.far) e)))
        (λ e. not_apart u y.far s.far (each_has (ApartAt u y) rest s ((w.apart).1).0 here) (sym (ap (λ t. t.far) e))));
    complete = λ s is. found s is (w.complete s (was s is));
    apart = ((w.apart).1).1;
    order = ((w.order).1).1;
    start = w.start;
    by_turns = by_turns_without (λ s. s.out) w.start x y rest w.by_turns;
  }
    where
      found : (s : Spoke) → IsSpoke O' I' u s → Has (x ∷ y ∷ rest) s → Has rest s
      found s is (inl e) = absurd (not_x (subst (IsSpoke O' I' u) (sym e) is))
      found s is (inr (inl e)) = absurd (not_y (subst (IsSpoke O' I' u) (sym e) is))
      found s is (inr (inr k)) = k

  -- the same spokes
  pub same_spokes : (O' I' : Edge → Type 0) (spokes : List Spoke) → IsWheel c O I u spokes
      → ((s : Spoke) → IsSpoke O I u s → IsSpoke O' I' u s) → ((s : Spoke) → IsSpoke O' I' u s → IsSpoke O I u s) → IsWheel c O' I' u spokes
  same_spokes O' I' spokes w to from = record {
    sound = each_weaker (IsSpoke O I u) (IsSpoke O' I' u) to spokes w.sound;
    complete = λ s is. w.complete s (from s is);
    apart = w.apart;
    order = w.order;
    start = w.start;
    by_turns = w.by_turns;
  }

  -- a spoke has a neighbour, which leads the other way
  pub neighbour : (x : Spoke) (rest : List Spoke) → IsWheel c O I u (x ∷ rest) → (w : Point) × (more : List Spoke) × IsWheel c O I u (x ∷ record { far = w; out = not x.out } ∷ more)
  neighbour x [] w = absurd (clash x.out w.start (w.by_turns).0 (w.by_turns).1)
    where
      clash : (b d : Bool) → b ≡ d → not b ≡ d → ⊥
      clash true d e f = false≢true (f ∙ sym e)
      clash false d e f = false≢true (e ∙ sym f)
  neighbour x (y ∷ more) w = (y.far, more, subst (λ z. IsWheel c O I u (x ∷ z ∷ more)) (λ i. record { far = y.far; out = ((w.by_turns).1).0 i }) w)

pub turned_wheels : {c : Bool} {O I : Edge → Type 0} → Alternates c O I → Alternates (not c) O I
turned_wheels {c} {O} {I} h u = let w = h u in (reverse w.0, turned_wheel w.0 w.1)

pub wheels_either_way : (c d : Bool) {O I : Edge → Type 0} → Alternates c O I → Alternates d O I
wheels_either_way true true h = h
wheels_either_way true false h = turned_wheels h
wheels_either_way false true h = turned_wheels h
wheels_either_way false false h = h

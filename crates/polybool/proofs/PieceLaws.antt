-- Laws of text that is laid in a piece before it goes out.
use Rattle.std.proofs.Common.{◌≡◌, ℕ, ◌+◌, ◌<◌, List, [], ◌++◌, length, take, drop, get_or, flat_map, Option, ap, sym, subst, ◌∙◌, arith, append_assoc, append-nil, length-append, take-append-drop}
use Rattle.std.specs.Prelude.{Result, Ok, Err, OnOk, MatchResult}
use Rattle.std.specs.Io.KnownBytes.{Appends}
use Rattle.std.proofs.KnownBytes.{Appends-nil, Appends-trans}
use Rattle.std.proofs.lemmas.Grind.{flat_map-append}
use Rattle.polybool.specs.Pieces.{Laid, Broken, Lays}
use Rattle.polybool.proofs.TextLaws.{flat_map-step}

-- nothing went out
pub Laid-here : (a : Option (List ℕ)) (old new text : List ℕ) → new ≡ old ++ text → Laid a a old new text
Laid-here a old new text e = record { sent = []; whole = sym e; went = Appends-nil a }

pub Laid-at : (a b : Option (List ℕ)) (old new : List ℕ) {t u : List ℕ} → t ≡ u → Laid a b old new t → Laid a b old new u
Laid-at a b old new e h = subst (λ v. Laid a b old new v) e h

pub Broken-at : (a b : Option (List ℕ)) (old : List ℕ) {t u : List ℕ} → t ≡ u → Broken a b old t → Broken a b old u
Broken-at a b old e h = subst (λ v. Broken a b old v) e h

pub Lays-at : {T E : Type 0} (a b : Option (List ℕ)) (old new : List ℕ) {t u : List ℕ} (r : Result T E) → t ≡ u → Lays a b old new t r
    → Lays a b old new u r
Lays-at a b old new r e h = subst (λ v. Lays a b old new v r) e h

joined : (old t u mid s more rest : List ℕ) → old ++ t ≡ s ++ mid → mid ++ u ≡ more ++ rest → old ++ (t ++ u) ≡ (s ++ more) ++ rest
joined old t u mid s more rest e f =
    sym (append_assoc old t u) ∙ ap (λ v. v ++ u) e ∙ append_assoc s mid u ∙ ap (λ v. s ++ v) f ∙ sym (append_assoc s more rest)

-- ---- what is laid in a piece with room

pub two_texts : (s t u a b : List ℕ) → t ≡ s ++ a → u ≡ t ++ b → u ≡ s ++ (a ++ b)
two_texts s t u a b e f = f ∙ ap (λ v. v ++ b) e ∙ append_assoc s a b

-- the same, where both together are known
pub laid_then : (s t u a b d : List ℕ) → t ≡ s ++ a → u ≡ t ++ b → d ≡ a ++ b → u ≡ s ++ d
laid_then s t u a b d e f g = two_texts s t u a b e f ∙ ap (λ v. s ++ v) (sym g)

pub three_texts : (s t u v a b c : List ℕ) → t ≡ s ++ a → u ≡ t ++ b → v ≡ u ++ c → v ≡ s ++ (a ++ b ++ c)
three_texts s t u v a b c e f g = two_texts s u v (a ++ b) c (two_texts s t u a b e f) g

pub four_texts : (s t u v w a b c d : List ℕ) → t ≡ s ++ a → u ≡ t ++ b → v ≡ u ++ c → w ≡ v ++ d → w ≡ s ++ (a ++ b ++ c ++ d)
four_texts s t u v w a b c d e f g h = two_texts s v w (a ++ b ++ c) d (three_texts s t u v a b c e f g) h

-- eight of them from the front
pub eight_texts : (s t u v w x y z end a b c d e f g h : List ℕ) → s ≡ [] → t ≡ s ++ a → u ≡ t ++ b → v ≡ u ++ c → w ≡ v ++ d → x ≡ w ++ e → y ≡ x ++ f → z ≡ y ++ g
    → end ≡ z ++ h → end ≡ a ++ b ++ c ++ d ++ e ++ f ++ g ++ h
eight_texts s t u v w x y z end a b c d e f g h none first second third fourth fifth sixth seventh last =
    last ∙ ap (λ l. l ++ h) (seventh ∙ ap (λ l. l ++ g) (sixth ∙ ap (λ l. l ++ f) (fifth ∙ ap (λ l. l ++ e) (fourth ∙ ap (λ l. l ++ d)
    (third ∙ ap (λ l. l ++ c) (second ∙ ap (λ l. l ++ b) (first ∙ ap (λ l. l ++ a) none)))))))

-- it may have gone out before, where there was no room
pub Laid-after : (a b : Option (List ℕ)) (old mid new text : List ℕ) → Laid a b old mid [] → new ≡ mid ++ text → Laid a b old new text
Laid-after a b old mid new text h e = record {
  sent = h.sent;
  whole = ap (λ v. v ++ text) (sym (append-nil old) ∙ h.whole) ∙ append_assoc h.sent mid text ∙ ap (λ v. h.sent ++ v) (sym e);
  went = h.went;
}

-- ---- one text after another

-- one text after another
pub Laid-then : (a b c : Option (List ℕ)) (old mid new t u : List ℕ) → Laid a b old mid t → Laid b c mid new u → Laid a c old new (t ++ u)
Laid-then a b c old mid new t u h k = record {
  sent = h.sent ++ k.sent;
  whole = joined old t u mid h.sent k.sent new h.whole k.whole;
  went = Appends-trans a b c h.sent k.sent h.went k.went;
}

-- a write failed in the second
pub Broken-then : (a b c : Option (List ℕ)) (old mid t u : List ℕ) → Laid a b old mid t → Broken b c mid u → Broken a c old (t ++ u)
Broken-then a b c old mid t u h k = record {
  sent = h.sent ++ k.sent;
  unsent = k.unsent;
  whole = joined old t u mid h.sent k.sent k.unsent h.whole k.whole;
  went = Appends-trans a b c h.sent k.sent h.went k.went;
  left = k.left;
}

-- a write failed in the first
pub Broken-before : (a b : Option (List ℕ)) (old t u : List ℕ) → Broken a b old t → Broken a b old (t ++ u)
Broken-before a b old t u h = record {
  sent = h.sent;
  unsent = h.unsent ++ u;
  whole = sym (append_assoc old t u) ∙ ap (λ v. v ++ u) h.whole ∙ append_assoc h.sent h.unsent u;
  went = h.went;
  left = omega (arith, length-append h.unsent u, h.left);
}

-- the second is laid, or a write fails
pub Lays-then : {T E : Type 0} (a b c : Option (List ℕ)) (old mid new t u : List ℕ) (r : Result T E) → Laid a b old mid t → Lays b c mid new u r
    → Lays a c old new (t ++ u) r
Lays-then a b c old mid new t u (Ok x) h k = Laid-then a b c old mid new t u h k
Lays-then a b c old mid new t u (Err e) h k = Broken-then a b c old mid t u h k

-- ---- texts of many things

-- the text of one thing more
pub Laid-step : {X : Type 0} (a b c : Option (List ℕ)) (old mid new head : List ℕ) (g : X → List ℕ) (xs : List X) (i : ℕ) (x : X) → i < length xs
    → x ≡ get_or xs i x → Laid a b old mid (head ++ flat_map g (take i xs)) → Laid b c mid new (g x)
    → Laid a c old new (head ++ flat_map g (take (i + 1) xs))
Laid-step a b c old mid new head g xs i x below is h k =
    Laid-at a c old new (append_assoc head (flat_map g (take i xs)) (g x) ∙ ap (λ t. head ++ t) (flat_map-step g xs i x below is))
    (Laid-then a b c old mid new (head ++ flat_map g (take i xs)) (g x) h k)

-- a write failed in the text of one of many things
pub Broken-among : {X : Type 0} (a b c : Option (List ℕ)) (old mid head : List ℕ) (g : X → List ℕ) (xs : List X) (i : ℕ) (x : X) → i < length xs
    → x ≡ get_or xs i x → Laid a b old mid (head ++ flat_map g (take i xs)) → Broken b c mid (g x) → Broken a c old (head ++ flat_map g xs)
Broken-among a b c old mid head g xs i x below is h k =
    let rest = flat_map g (drop (i + 1) xs) in
    let done = flat_map g (take i xs) in
    let all : done ++ g x ++ rest ≡ flat_map g xs =
    ap (λ t. t ++ rest) (flat_map-step g xs i x below is) ∙ sym (flat_map-append g (take (i + 1) xs) (drop (i + 1) xs))
    ∙ ap (flat_map g) (take-append-drop (i + 1) xs) in
    Broken-at a c old (ap (λ t. t ++ rest) (append_assoc head done (g x)) ∙ append_assoc head (done ++ g x) rest ∙ ap (λ t. head ++ t) all)
    (Broken-before a c old (head ++ done ++ g x) rest (Broken-then a b c old mid (head ++ done) (g x) h k))

-- ---- all of a text

-- What goes out for a text: where a write fails, a beginning of it, and not all.
abbrev pub GoesOut : {T E : Type 0} → Option (List ℕ) → Option (List ℕ) → List ℕ → Result T E → Type 0
GoesOut a b text r =
    (sent unsent : List ℕ) × (text ≡ sent ++ unsent) × Appends a b sent × MatchResult r (λ _. unsent ≡ []) (λ _. 0 < length unsent)

-- all that was laid went out
pub sent_whole : {T E : Type 0} (a b : Option (List ℕ)) (n : ℕ) (bytes text : List ℕ) (r : Result T E) → OnOk r (n ≡ 0)
    → Lays a b [] (take n bytes) text r → GoesOut a b text r
sent_whole a b n bytes text (Ok x) f h = (h.sent, take n bytes, h.whole, h.went, ap (λ k. take k bytes) f)
sent_whole a b n bytes text (Err y) f h = (h.sent, h.unsent, h.whole, h.went, h.left)

-- a write failed before
pub unsent_whole : {T E : Type 0} (a b : Option (List ℕ)) (old text : List ℕ) (r : Result T E) (y : E) → r ≡ Err y → old ≡ [] → Broken a b old text
    → GoesOut a b text r
unsent_whole a b old text r y is e h =
    subst (λ s. GoesOut a b text s) (sym is) (h.sent, h.unsent, sym (ap (λ t. t ++ text) e) ∙ h.whole, h.went, h.left)

-- a piece went out in which a text was laid
pub sent_piece : {T E : Type 0} (a b : Option (List ℕ)) (m : ℕ) (laid : List ℕ) (n : ℕ) (bytes text : List ℕ) (r : Result T E) → take m laid ≡ text
    → OnOk r (n ≡ 0) → Lays a b (take m laid) (take n bytes) [] r → GoesOut a b text r
sent_piece a b m laid n bytes text (Ok x) is f h =
    (h.sent, take n bytes, sym is ∙ (sym (append-nil (take m laid)) ∙ h.whole), h.went, ap (λ k. take k bytes) f)
sent_piece a b m laid n bytes text (Err y) is f h = (h.sent, h.unsent, sym is ∙ (sym (append-nil (take m laid)) ∙ h.whole), h.went, h.left)

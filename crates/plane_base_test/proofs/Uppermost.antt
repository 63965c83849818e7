-- The last segment that runs below a point is the uppermost that does, where the segments rise.
use Rattle.std.proofs.Common.{◌≡◌, ◌≢◌, List, [], ◌∷◌, All, Contains, ◌⊎◌, refl, inl, inr}
use Rattle.std.proofs.lemmas.List.Elements.{All-nil, All-cons, All-weaker, All-contains}
use Rattle.std.specs.Ordering.{is_lt}
use Rattle.std.specs.declared.cmp.Ordering.{Ordering}
use Rattle.std.specs.declared.cmp.Ordering.TheVariants.{Less, Equal, Greater}
use Rattle.i_tree.specs.LiveList.{IsRising}
use Rattle.i_tree.specs.KeyAnswers.{last_where, IsAnswer}
use Rattle.i_tree.specs.KeyAnswers.IsAnswer.{equal, less}
use Rattle.plane_base.specs.Plane.{Point, Edge}
use Rattle.plane_base.specs.Segments.{order_against, column_order}
use Rattle.plane_base_test.specs.Columns.{IsUppermostBelow}
use Rattle.plane_base_test.specs.Columns.IsUppermostBelow.{through, below, none}
use Rattle.plane_base_test.proofs.Members.{Contains-head, Contains-tail, All-from_contains}

greater_left : (o : Ordering) → o ≢ Less → o ≢ Equal → o ≡ Greater
greater_left Less l e = absurd (l refl)
greater_left Equal l e = absurd (e refl)
greater_left Greater l e = refl

-- the last that is Less, and all others that are come before it; or none is, and the default stands
data LastLess {K V : Type 0} (order : K → K → Ordering) (by : K → Ordering) (default : V) (entries : List (K × V)) (answer : V) : Type 0 where
  no_less : All (λ e. by e.0 ≢ Less) entries → answer ≡ default → LastLess order by default entries answer
  last_less : (k : K) → Contains entries (k, answer) → by k ≡ Less → All (λ e. by e.0 ≡ Less → (e ≡ (k, answer)) ⊎ (order e.0 k ≡ Less)) entries → LastLess order by default entries answer

module _ {K V : Type 0} (order : K → K → Ordering) (by : K → Ordering) where
  front_less : (e : K × V) (rest : List (K × V)) (answer default : V) → by e.0 ≡ Less → All (λ later. order e.0 later.0 ≡ Less) rest → LastLess order by e.1 rest answer → LastLess order by default (e ∷ rest) answer
  front_less e rest answer default is_less first (no_less others is) =
      last_less e.0 (rw is (Contains-head e rest)) is_less (All-cons (λ f. by f.0 ≡ Less → (f ≡ (e.0, answer)) ⊎ (order f.0 e.0 ≡ Less)) e rest (λ h. inl (rw is refl)) (All-weaker (λ f. by f.0 ≢ Less) (λ f. by f.0 ≡ Less → (f ≡ (e.0, answer)) ⊎ (order f.0 e.0 ≡ Less)) (λ f h l. absurd (h l)) rest others))
  front_less e rest answer default is_less first (last_less k there l all) =
      last_less k (Contains-tail e (k, answer) rest there) l (All-cons (λ f. by f.0 ≡ Less → (f ≡ (k, answer)) ⊎ (order f.0 k ≡ Less)) e rest (λ h. inr (All-contains (λ later. order e.0 later.0 ≡ Less) rest (k, answer) first there)) all)

  front_other : (e : K × V) (rest : List (K × V)) (answer default : V) → by e.0 ≢ Less → LastLess order by default rest answer → LastLess order by default (e ∷ rest) answer
  front_other e rest answer default other (no_less others is) = no_less (All-cons (λ f. by f.0 ≢ Less) e rest other others) is
  front_other e rest answer default other (last_less k there l all) =
      last_less k (Contains-tail e (k, answer) rest there) l (All-cons (λ f. by f.0 ≡ Less → (f ≡ (k, answer)) ⊎ (order f.0 k ≡ Less)) e rest (λ h. absurd (other h)) all)

  LastLess-last_where : (default : V) (es : List (K × V)) → IsRising order es → LastLess order by default es (last_where (λ k. is_lt (by k)) default es)
  LastLess-last_where default [] rising = no_less (All-nil (λ e. by e.0 ≢ Less)) refl
  LastLess-last_where default (e ∷ rest) rising = step (by e.0) refl (λ d. LastLess-last_where d rest rising.1) where
    step : (o : Ordering) → by e.0 ≡ o → ((d : V) → LastLess order by d rest (last_where (λ k. is_lt (by k)) d rest)) → LastLess order by default (e ∷ rest) (last_where (λ k. is_lt (by k)) default (e ∷ rest))
    step Less is later = rw is (front_less e rest _ default is rising.0 (later e.1))
    step Equal is later = rw is (front_other e rest _ default (λ h. cc) (later default))
    step Greater is later = rw is (front_other e rest _ default (λ h. cc) (later default))

module _ {K V : Type 0} (edge : K → Edge) (p : Point) (default : V) (entries : List (K × V)) where
  pub uppermost : (answer : V) → IsRising (λ j k. column_order (edge j) (edge k)) entries → IsAnswer (λ k. order_against (edge k) p) default entries answer → IsUppermostBelow edge p default entries answer
  uppermost answer rising (equal k there is) = through k there is
  uppermost answer rising (less unlike is) = rw is (by (LastLess-last_where (λ j k. column_order (edge j) (edge k)) (λ k. order_against (edge k) p) default entries rising)) where
    by : {a : V} → LastLess (λ j k. column_order (edge j) (edge k)) (λ k. order_against (edge k) p) default entries a → IsUppermostBelow edge p default entries a
    by (no_less others same) = none (All-both others) same where
      All-both : All (λ e. order_against (edge e.0) p ≢ Less) entries → All (λ e. order_against (edge e.0) p ≡ Greater) entries
      All-both h = All-from_contains (λ e. order_against (edge e.0) p ≡ Greater) entries (λ e c. greater_left (order_against (edge e.0) p) (All-contains (λ f. order_against (edge f.0) p ≢ Less) entries e h c) (All-contains (λ f. order_against (edge f.0) p ≢ Equal) entries e unlike c))
    by (last_less k there l all) = below k there l unlike all

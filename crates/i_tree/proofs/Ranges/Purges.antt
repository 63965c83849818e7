-- A purge of a bucket tree: the nodes of a mask come to name only what is live.
use Rattle.std.proofs.Common.{◌≡◌, ◌≢◌, ℕ, ◌+◌, ◌<◌, inl, inr, List, ◌∷◌, length, get_or, Bool, true, false, ◌==◌, if◌then◌else◌, refl, sym, ap, ◌∙◌, arith}
use Rattle.std.proofs.lemmas.Bool.{cases_lt, eq-eqb}
use Rattle.std.proofs.lemmas.List.Sums.{sum_by-cons}
use Rattle.std.specs.List.{swap_remove}
use Rattle.std.proofs.lemmas.List.Sorted.{IsPermutation-swap_remove, sum_by-IsPermutation}
use Rattle.std.proofs.lemmas.Nat.Bits.{bit_at-zero, bit_at-lt}
use Rattle.std.specs.Int.{bit_at}
use Rattle.i_tree.specs.Ranges.Nodes.{has_node}
use Rattle.i_tree.specs.Ranges.Pool.{mentions, named_at, lives_at, AreNamedAt, IsUnnamed, LosesNode, IsCleared, IsPurgedTo}
use Rattle.i_tree.proofs.Ranges.PoolNames.{by_equal, mentions-is_sum, mentions-here, mentions-found}
use Rattle.i_tree.proofs.Ranges.Pools.{named_past}

module _ {C : Type 0} (named : C → ℕ) where
  -- a place that some node names is of the pool
  pub named_within : (pool : List C) (place node : ℕ) → bit_at (named_at named pool place) node ≡ 1 → place < length pool
  named_within pool place node on = elim (cases_lt place (length pool)) [ inl h ↦ h | inr h ↦ absurd (let none : bit_at (named_at named pool place) node ≡ 0 = ap (λ m. bit_at m node) (named_past named pool place h) ∙ bit_at-zero node in omega arith) ]

  pub listed_bit : (pool : List C) (node : ℕ) (list : List ℕ) → AreNamedAt named pool node list → (i at : ℕ) → i < length list → at ≡ get_or list i at → bit_at (named_at named pool at) node ≡ 1
  listed_bit pool node list names i at within is = let some = mentions-here list i at within in let there : 0 < mentions at list = rw (← is) at some in let most = bit_at-lt (named_at named pool at) node in let same = names at in omega arith

  module _ (live : C → Bool) (node : ℕ) where
    pub IsUnnamed-trans : (old mid new : List C) → IsUnnamed named live node old mid → IsUnnamed named live node mid new → IsUnnamed named live node old new
    IsUnnamed-trans old mid new a b = record {
      others = λ place other inside apart. b.others place other inside apart ∙ a.others place other inside apart;
      same = b.same ∙ a.same;
      lives = b.lives ∙ a.lives;
      stays = λ p. b.stays p ∙ a.stays p;
    }

    pub lives_still : (old new : List C) → IsUnnamed named live node old new → (place : ℕ) → lives_at live new place ≡ lives_at live old place
    lives_still old new h place = ap (λ l. get_or l place true) h.lives

  -- a name goes from a list, and the node from the place's mask
  pub names_without : {V : Type 0} (value : C → V) (old new : List C) (node : ℕ) (list : List ℕ) (i at : ℕ) → i < length list → at ≡ get_or list i at → LosesNode named value at node old new → AreNamedAt named old node list → AreNamedAt named new node (swap_remove list i at)
  names_without value old new node list i at within is loses names place =
      let sum = sym (sum_by-cons (λ o. if o == place then 1 else 0) at (swap_remove list i at)) ∙ sum_by-IsPermutation (λ o. if o == place then 1 else 0) list (at ∷ swap_remove list i at) (IsPermutation-swap_remove list i at within is) in
      let before = mentions-is_sum place list in
      let after = mentions-is_sum place (swap_remove list i at) in
      let was = names place in
      by_equal at place
      (λ e same.
      let one : (if at == place then 1 else 0) + mentions place (swap_remove list i at) ≡ mentions place list = rw (before, after) sum in
      let here : 1 + mentions place (swap_remove list i at) ≡ mentions place list = rw e at one in
      let most = bit_at-lt (named_at named old place) node in
      let none : bit_at (named_at named new place) node ≡ 0 = rw same at loses.cleared in
      omega arith)
      (λ e.
      let one : (if at == place then 1 else 0) + mentions place (swap_remove list i at) ≡ mentions place list = rw (before, after) sum in
      let here : 0 + mentions place (swap_remove list i at) ≡ mentions place list = rw e at one in
      let other : place ≢ at = λ same. let f : (at == place) ≡ true = eq-eqb _ _ (sym same) in cc in
      let stays : bit_at (named_at named new place) node ≡ bit_at (named_at named old place) node = ap (λ m. bit_at m node) (loses.elsewhere place other) in
      omega arith)

  -- a list whose places are all live
  pub clean_list : (live : C → Bool) (pool : List C) (list : List ℕ) → ((k : ℕ) → k < length list → lives_at live pool (get_or list k 0) ≡ true) → (place : ℕ) → 0 < mentions place list → lives_at live pool place ≡ true
  clean_list live pool list all place some = let found = mentions-found place list some in ap (lives_at live pool) (sym found.2) ∙ all found.0 found.1

  -- the loop over the nodes
  module _ (live : C → Bool) (mask : ℕ) where
    module _ (old mid : List C) (at : ℕ → List ℕ) (node : ℕ) (so_far : IsPurgedTo named live mask node old mid at) where
      pub IsPurgedTo-off : has_node mask node ≡ false → IsPurgedTo named live mask (node + 1) old mid at
      IsPurgedTo-off off = record {
        names = so_far.names;
        same = so_far.same;
        stays = so_far.stays;
        clean = λ n h on place some. by_equal n node (λ e is. absurd (let f : has_node mask node ≡ true = rw is at on in cc)) (λ e. so_far.clean n (before n h e) on place some);
      } where
        before : (n : ℕ) → n < node + 1 → (n == node) ≡ false → n < node
        before n h e = elim (cases_lt n node) [ inl l ↦ l | inr g ↦ absurd (let f : (n == node) ≡ true = eq-eqb _ _ (omega arith) in cc) ]

      pub IsPurgedTo-on : (new : List C) (list : List ℕ) (at' : ℕ → List ℕ) → ((n : ℕ) → at' n ≡ (if n == node then list else at n)) → IsCleared named live node mid new list → IsPurgedTo named live mask (node + 1) old new at'
      IsPurgedTo-on new list at' writes cleared = record {
        names = record {
          names = λ place n inside. by_equal n node
              (λ e is. ap (mentions place) (writes n ∙ rw e refl) ∙ cleared.names place ∙ ap (bit_at (named_at named new place)) (sym is))
              (λ e. ap (mentions place) (writes n ∙ rw e refl) ∙ so_far.names.names place n inside ∙ sym (cleared.unnamed.others place n inside (apart n e)));
        };
        same = cleared.unnamed.same ∙ so_far.same;
        stays = λ p. cleared.unnamed.stays p ∙ so_far.stays p;
        clean = λ n h on place some. by_equal n node
            (λ e is. cleared.clean place (let list_is : at' n ≡ list = writes n ∙ rw e refl in rw list_is at some))
            (λ e. lives_still live node mid new cleared.unnamed place ∙ so_far.clean n (before n h e) on place (let list_is : at' n ≡ at n = writes n ∙ rw e refl in rw list_is at some));
      } where
        apart : (n : ℕ) → (n == node) ≡ false → n ≢ node
        apart n e is = let f : (n == node) ≡ true = eq-eqb _ _ is in cc

        before : (n : ℕ) → n < node + 1 → (n == node) ≡ false → n < node
        before n h e = elim (cases_lt n node) [ inl l ↦ l | inr g ↦ absurd (apart n e (omega arith)) ]

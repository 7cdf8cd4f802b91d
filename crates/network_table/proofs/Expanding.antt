-- Successors, one after another, while the table grows.
use Rattle.std.proofs.Common.{◌≡◌, ℕ, suc, ◌<◌, List, [], ◌∷◌, ◌++◌, map, length, get_or, take, drop, refl, sym, ap, ap₂, subst, ◌∙◌, arith, All, Bool, false, true≢false, zero, set, Option, is_some, option_map, append-nil, inl, inr, ◌⊎◌, ◌≤◌, Some, None, slice_get}
use Rattle.std.proofs.lemmas.List.{length-map, get_or-map, map_push, get_or-set_same, get_or-set_other}
use Rattle.std.proofs.lemmas.List.Elements.{All-nil, All-push, All-append, All-take, All-drop}
use Rattle.std.proofs.lemmas.Option.{slice_get-get_or}
use Rattle.htn_model.proofs.Passing.{passes}
use Rattle.htn_model.specs.Problem.{Child, GroundTask, Network, is_before, precondition, task}
use Rattle.htn_model.specs.Choice.{child_of, is_free, passing}
use Rattle.network_table.specs.Children.{AreKept, numbered_children}
use Rattle.network_table.specs.declared.child_table.ChildTable.{ChildTable}
use Rattle.network_table.specs.declared.expansion.Expansion.{Expansion}
use Rattle.network_table.specs.declared.expansion.Expansion.TheVariants.{Decomposed, Performed}
use Rattle.std.proofs.lemmas.Bool.{cases_lt}
use Rattle.std.proofs.lemmas.Option.{none-some, same_Some}
use Rattle.network_table.specs.Numbered.{Numbered, network_of, replaced_numbered, replaced_network, IsWithin, nothing}
use Rattle.network_table.specs.Networks.{children, numbered_at, network_at, expansion_at, Knows, IsGrown, IsMore, IsWhole}
use Rattle.network_table.specs.Expansions.{AreDecompositions, AreRemovals, AreInstances, IsKnownRemoval, IsDecomposed, IsExpansion, IsPerformed, IsSound, Live, first_free, free_positions, removal_at, removed_at, removal_network, position_network}
use Rattle.network_table.specs.declared.expansion.Removal.{Removal}
use Rattle.network_table.specs.declared.table.NetworkTable.{NetworkTable}
use Rattle.network_table.proofs.Replacing.{replaced_alike}
use Rattle.network_table.proofs.Tables.{more_known, more_same, more_then}

-- the nodes of a network in the table have numbers, and so have those of what takes its place
pub within_at : (t : NetworkTable) (n : ℕ) → IsWhole t → Knows t n → IsWithin (children t) (numbered_at t n)
within_at t n whole known = whole.within n nothing known

-- the nodes of a network with another in the place of a node have numbers
pub within_replaced : (t : NetworkTable) (n inner : Numbered) (i : ℕ) → IsWithin (children t) n → IsWithin (children t) inner → IsWithin (children t) (replaced_numbered n i inner)
within_replaced t n inner i own other =
    let P : ℕ → Type 0 = λ id. id < length (children t) in
    All-append P (take i n.nodes) (inner.nodes ++ drop (suc i) n.nodes) (All-take P i n.nodes own) (All-append P inner.nodes (drop (suc i) n.nodes) other (All-drop P (suc i) n.nodes own))

-- ## Growth

-- functions that agree on all items map alike
pub map_all : {X Y : Type 0} (P : X → Type 0) (f g : X → Y) → ((x : X) → P x → f x ≡ g x) → (xs : List X) → All P xs → map f xs ≡ map g xs
map_all P f g same [] all = refl
map_all P f g same (x ∷ xs) all = ap₂ (λ y ys. y ∷ ys) (same x (all 0 x (omega arith))) (map_all P f g same xs (λ k d inside. all (suc k) d (omega (arith, inside))))

-- what holds of all gives what follows
pub all_more : {X : Type 0} (P Q : X → Type 0) → ((x : X) → P x → Q x) → (xs : List X) → All P xs → All Q xs
all_more P Q gives xs all k d inside = gives (get_or xs k d) (all k d inside)

-- decompositions stay right while networks are added
pub decompositions_more : (s t : NetworkTable) (n : Numbered) (i : ℕ) (instances : List Numbered) (xs : List ℕ) → IsMore s t
    → AreDecompositions s n i instances xs → AreDecompositions t n i instances xs
decompositions_more s t n i instances xs more are = record {
  known = all_more (Knows s) (Knows t) (λ x known. more_known s t x more known) xs are.known;
  each = map_all (Knows s) (numbered_at t) (numbered_at s) (λ x known. more_same s t x more known) xs are.known ∙ are.each;
}

-- one more instance, one more network
pub decompositions_push : (t : NetworkTable) (n : Numbered) (i : ℕ) (instances : List Numbered) (xs : List ℕ) (p : Numbered) (x : ℕ)
    → AreDecompositions t n i instances xs → Knows t x → numbered_at t x ≡ replaced_numbered n i p → AreDecompositions t n i (instances ++ p ∷ []) (xs ++ x ∷ [])
decompositions_push t n i instances xs p x are known is = record {
  known = All-push (Knows t) xs x are.known known;
  each = map_push (numbered_at t) xs x ∙ ap₂ (λ l y. l ++ y ∷ []) are.each is ∙ sym (map_push (replaced_numbered n i) instances p);
}

-- a known removal stays known
known_removal_more : (s t : NetworkTable) → IsMore s t → (r : Removal) → IsKnownRemoval s r → IsKnownRemoval t r
known_removal_more s t more r known = (more_known s t r.network more known.0, subst (λ (l : ChildTable). r.node < length (numbered_children l)) (sym more.children) known.1)

-- removals stay right while networks are added
pub removals_more : (s t : NetworkTable) (n : Numbered) (free : List ℕ) (xs : List Removal) → IsMore s t → AreRemovals s n free xs → AreRemovals t n free xs
removals_more s t n free xs more are = record {
  known = all_more (IsKnownRemoval s) (IsKnownRemoval t) (known_removal_more s t more) xs are.known;
  each = map_all (IsKnownRemoval s) (removal_at t) (removal_at s) (λ r known. ap (λ m. (r.node, m)) (more_same s t r.network more known.0)) xs are.known ∙ are.each;
}

-- one more free position, one more removal
pub removals_push : (t : NetworkTable) (n : Numbered) (free : List ℕ) (xs : List Removal) (p : ℕ) (x : Removal)
    → AreRemovals t n free xs → IsKnownRemoval t x → removal_at t x ≡ removed_at n p → AreRemovals t n (free ++ p ∷ []) (xs ++ x ∷ [])
removals_push t n free xs p x are known is = record {
  known = All-push (IsKnownRemoval t) xs x are.known known;
  each = map_push (removal_at t) xs x ∙ ap₂ (λ l y. l ++ y ∷ []) are.each is ∙ sym (map_push (removed_at n) free p);
}

-- of no instances there are none
pub no_decompositions : (t : NetworkTable) (n : Numbered) (i : ℕ) → AreDecompositions t n i [] []
no_decompositions t n i = record { known = All-nil (Knows t); each = refl }

-- of no free positions there are none
pub no_removals : (t : NetworkTable) (n : Numbered) → AreRemovals t n [] []
no_removals t n = record { known = All-nil (IsKnownRemoval t); each = refl }

-- free positions are within the network
pub free_within : (n : ℕ) (test : ℕ → Bool) (free : List ℕ) → free ≡ passing test n → (k : ℕ) → k < length free → get_or free k 0 < n
free_within n test free is k inside =
    (passes test n k (get_or free k 0) (sym (ap (λ l. slice_get l k) is) ∙ slice_get-get_or free k 0 inside)).0

-- ## What the numbers stand for

-- one map after another
pub map_two : {X Y Z : Type 0} (f : X → Z) (g : X → Y) (h : Y → Z) → ((x : X) → f x ≡ h (g x)) → (xs : List X) → map f xs ≡ map h (map g xs)
map_two f g h same [] = refl
map_two f g h same (x ∷ xs) = ap₂ (λ y ys. y ∷ ys) (same x) (map_two f g h same xs)

-- a number stands for what it stood for
same_network : (s t : NetworkTable) (n : ℕ) → IsMore s t → Knows s n → network_at t n ≡ network_at s n
same_network s t n more known = ap₂ (λ (l : List Child) (m : Numbered). network_of l m) (ap numbered_children more.children) (more_same s t n more known)

-- decompositions by numbers are those of what they stand for
pub decomposed_right : (live : Live) (s t : NetworkTable) (n i : ℕ) (g : GroundTask) (instances : List Numbered) (xs : List ℕ) → IsMore s t → Knows s n
    → first_free (network_at s n) ≡ Some i → child_of (network_at s n).children i ≡ task g → AreInstances live s n instances
    → AreDecompositions t (numbered_at s n) i instances xs → IsDecomposed live t n i xs
decomposed_right live s t n i g instances xs more known first stands given are =
    let same = same_network s t n more known in
    let m = numbered_at s n in
    let own = network_of (children t) m in
    let own_is : own ≡ network_at t n = ap (λ m. network_of (children t) m) (sym (more_same s t n more known)) in
    let instances_are : map (network_of (children t)) instances ≡ live g = ap (λ l. map (network_of l) instances) (ap numbered_children more.children) ∙ given i g first stands in
    record {
      goal = g;
      first = ap first_free same ∙ first;
      stands = ap (λ (m : Network). child_of m.children i) same ∙ stands;
      known = are.known;
      each = map_two (network_at t) (numbered_at t) (network_of (children t)) (λ x. refl) xs ∙ ap (map (network_of (children t))) are.each
          ∙ sym (map_two (λ p. network_of (children t) (replaced_numbered m i p)) (replaced_numbered m i) (network_of (children t)) (λ p. refl) instances)
          ∙ map_two (λ p. network_of (children t) (replaced_numbered m i p)) (network_of (children t)) (replaced_network own i) (λ p. replaced_alike (children t) m p i) instances
          ∙ ap₂ (λ (x : Network) (l : List Network). map (replaced_network x i) l) own_is instances_are;
    }

-- a removal by numbers, as what it stands for
abbrev removal_lifted : NetworkTable → ℕ × Numbered → Child × Network
removal_lifted t p = (child_of (children t) p.0, network_of (children t) p.1)

-- removals by numbers are those of what they stand for
pub performed_right : (s t : NetworkTable) (n : ℕ) (xs : List Removal) → IsMore s t → Knows s n → first_free (network_at s n) ≡ None
    → AreRemovals t (numbered_at s n) (free_positions (length (numbered_at s n).nodes) (numbered_at s n).order) xs → IsPerformed t n xs
performed_right s t n xs more known first are =
    let m = numbered_at s n in
    let same = same_network s t n more known in
    let own = network_of (children t) m in
    let own_is : own ≡ network_at t n = ap (λ x. network_of (children t) x) (sym (more_same s t n more known)) in
    let free = free_positions (length m.nodes) m.order in
    let P : ℕ → Type 0 = λ j. j < length m.nodes in
    let below : All P free = λ k d inside. (passes (is_free (length m.nodes) (is_before m.order)) (length m.nodes) k (get_or free k d) (slice_get-get_or free k d inside)).0 in
    let positions : map (λ j. removal_lifted t (removed_at m j)) free ≡ map (position_network own) free =
    map_all P (λ j. removal_lifted t (removed_at m j)) (position_network own)
    (λ j inside. ap₂ (λ (c : Child) (x : Network). (c, x)) (sym (get_or-map (child_of (children t)) m.nodes j 0 (precondition []) inside)) (replaced_alike (children t) m nothing j))
    free below in
    let long : length m.nodes ≡ length own.children = sym (length-map m.nodes (child_of (children t))) in
    record {
      first = ap first_free same ∙ first;
      known = are.known;
      each = map_two (removal_network t) (removal_at t) (removal_lifted t) (λ x. refl) xs ∙ ap (map (removal_lifted t)) are.each
          ∙ sym (map_two (λ j. removal_lifted t (removed_at m j)) (removed_at m) (removal_lifted t) (λ j. refl) free) ∙ positions
          ∙ ap (λ k. map (position_network own) (free_positions k m.order)) long
          ∙ ap (λ (x : Network). map (position_network x) (free_positions (length x.children) x.order)) own_is;
    }

-- ## What is remembered, as the table grows

-- an expansion stays right while networks are added
pub expansion_more : (live : Live) (s t : NetworkTable) (n : ℕ) (e : Expansion) → IsMore s t → Knows s n → IsExpansion live s n e → IsExpansion live t n e
expansion_more live s t n (Decomposed i successors) more known are =
    let same = same_network s t n more known in
    record {
      goal = are.goal;
      first = ap first_free same ∙ are.first;
      stands = ap (λ (m : Network). child_of m.children i) same ∙ are.stands;
      known = all_more (Knows s) (Knows t) (λ x own. more_known s t x more own) successors.items are.known;
      each = map_all (Knows s) (network_at t) (network_at s) (λ x own. same_network s t x more own) successors.items are.known
          ∙ are.each ∙ ap (λ (m : Network). map (replaced_network m i) (live are.goal)) (sym same);
    }
expansion_more live s t n (Performed removals) more known are =
    let same = same_network s t n more known in
    record {
      first = ap first_free same ∙ are.first;
      known = all_more (IsKnownRemoval s) (IsKnownRemoval t) (known_removal_more s t more) removals.items are.known;
      each = map_all (IsKnownRemoval s) (removal_network t) (removal_network s)
          (λ r own. ap₂ (λ (l : List Child) (m : Network). (child_of l r.node, m)) (ap numbered_children more.children) (same_network s t r.network more own.0)) removals.items are.known
          ∙ are.each ∙ ap (λ (x : Network). map (position_network x) (free_positions (length x.children) x.order)) (sym same);
    }

-- what is there stands within
some_within : {X : Type 0} (xs : List (Option X)) (n : ℕ) (e : X) → get_or xs n None ≡ Some e → n < length xs
some_within [] n e is = absurd (none-some e is)
some_within (x ∷ xs) zero e is = omega arith
some_within (x ∷ xs) (suc n) e is = let rest = some_within xs n e is in omega (arith, rest)

-- what is remembered stays right while more networks get numbers
pub sound_more : (live : Live) (s t : NetworkTable) → IsWhole s → IsMore s t → IsSound live s → IsSound live t
sound_more live s t whole more sound n e _ is =
    let there : expansion_at s n ≡ Some e = sym (more.expansions n) ∙ is in
    let inside = some_within s.expansions.items n e there in
    let knows : Knows s n = omega (arith, inside, whole.expansions) in expansion_more live s t n e more knows (sound n e knows there)

-- where nothing was found there is none
pub none_of : {X Y : Type 0} (f : X → Y) (o : Option X) (x : Option Y) → option_map f o ≡ x → is_some o ≡ false → x ≡ None
none_of f None x is no_one = sym is
none_of f (Some y) x is no_one = absurd (true≢false no_one)

-- a table has grown from itself
pub grown_itself : (t : NetworkTable) → IsGrown t t
grown_itself t = record {
  children = record { more = []; children = sym (append-nil t.children.children.keys); more_bounds = []; bounds = sym (append-nil t.children.bounds.items) };
  more = [];
  networks = sym (append-nil t.networks);
  expansions = λ n e is. is;
}

-- so have equal ones
pub kept_same : (old new : ChildTable) → new ≡ old → AreKept old new
kept_same old new same =
    record {
      more = [];
      children = ap (λ (t : ChildTable). t.children.keys) same ∙ sym (append-nil old.children.keys);
      more_bounds = [];
      bounds = ap (λ (t : ChildTable). t.bounds.items) same ∙ sym (append-nil old.bounds.items);
    }

-- the table t has grown from s, and then what was found of one number is put down in u
module _ (s t u : NetworkTable) (number : ℕ) (found : Expansion) (more : IsMore s t) (known : Knows s number) (whole : IsWhole s) (whole' : IsWhole t)
    (children_are : u.children ≡ t.children) (networks_are : u.networks ≡ t.networks) (expansions_are : u.expansions.items ≡ set t.expansions.items number (Some found)) where
  -- u as it was before
  abbrev before : NetworkTable
  before = record { children = u.children; networks = u.networks; open_lens = u.open_lens; bounds = u.bounds; expansions = t.expansions }

  -- the table has networks added before the note is put down
  same_before : IsMore t before
  same_before = record { children = children_are; more = []; networks = networks_are ∙ sym (append-nil t.networks); expansions = λ n. refl }

  -- an expansion is right after it, too
  at_last : (live : Live) (n : ℕ) (e : Expansion) → IsExpansion live before n e → IsExpansion live u n e
  at_last live n (Decomposed i successors) are = record { goal = are.goal; first = are.first; stands = are.stands; known = are.known; each = are.each }
  at_last live n (Performed removals) are = record { first = are.first; known = are.known; each = are.each }

  -- other numbers keep what was remembered
  other : (n : ℕ) → (n ≡ number → ⊥) → expansion_at u n ≡ expansion_at s n
  other n apart = ap (λ l. get_or l n None) expansions_are ∙ get_or-set_other t.expansions.items number n (Some found) None apart ∙ more.expansions n

  -- the number has what was found
  own : expansion_at u number ≡ Some found
  own =
      let inside = more_known s t number more known in
      ap (λ l. get_or l number None) expansions_are ∙ get_or-set_same t.expansions.items number (Some found) None (omega (arith, inside, whole'.expansions))

  -- nothing that was remembered is lost
  pub put_down_grown : expansion_at s number ≡ None → IsGrown s u
  put_down_grown none = record {
    children = kept_same s.children u.children (children_are ∙ more.children);
    more = more.more;
    networks = networks_are ∙ more.networks;
    expansions = λ n e is. other n (λ same. none-some e (sym none ∙ ap (expansion_at s) (sym same) ∙ is)) ∙ is;
  }

  -- all that is remembered is right
  pub put_down_sound : (live : Live) → IsExpansion live t number found → IsSound live s → IsSound live u
  put_down_sound live right sound n e _ is = by (cases_lt n number) (cases_lt number n)
    where
      old : (n ≡ number → ⊥) → IsExpansion live u n e
      old apart =
          let there : expansion_at s n ≡ Some e = sym (other n apart) ∙ is in
          let inside = some_within s.expansions.items n e there in
          let knows : Knows s n = omega (arith, inside, whole.expansions) in
          at_last live n e (expansion_more live s before n e (more_then s t before more same_before) knows (sound n e knows there))

      new : n ≡ number → IsExpansion live u n e
      new same =
          let e_is : found ≡ e = same_Some found e (sym own ∙ ap (expansion_at u) (sym same) ∙ is) in
          subst (λ k. IsExpansion live u k e) (sym same)
          (subst (λ (x : Expansion). IsExpansion live u number x) e_is (at_last live number found (expansion_more live t before number found same_before (more_known s t number more known) right)))

      by : (n < number) ⊎ (number ≤ n) → (number < n) ⊎ (n ≤ number) → IsExpansion live u n e
      by (inl less) _ = old (λ same. omega arith)
      by (inr no_less) (inl greater) = old (λ same. omega arith)
      by (inr no_less) (inr no_greater) = new (omega arith)

-- That a sketched problem is grounded, by computing on its tables.
use Rattle.std.proofs.Common.{◌≡◌, ℕ, zero, suc, ◌<◌, Bool, true, false, not, cond, ◌&&◌, ◌||◌, nat_eq, List, [], ◌∷◌, length, slice_get, Some, option_map, ◌⊎◌, inl, inr, refl, sym, ap, ◌∙◌, subst}
use Rattle.std.specs.List.{AllByRecursion, list_any, list_all}
use Rattle.std.specs.Option.{unwrap_or}
use Rattle.std.specs.Cmp.{unsigned_Decides}
use Rattle.std.proofs.lemmas.Bool.{both_ways, and_parts, cases_Bool, cases_lt, or_cases}
use Rattle.htn_model.specs.Atom.{Atom}
use Rattle.htn_model.specs.State.{set_of}
use Rattle.htn_model.specs.Literal.{Action}
use Rattle.htn_model.specs.Problem.{GroundTask, ground_task_eq, Order, is_before, IsClosed, IsSquare, Network, IsNetwork, IsGrounded, AreChanged}
use Rattle.htn_model.specs.Sketch.{SketchAction, Sketch, look_up, drawn, sketched}
use Rattle.htn_model.proofs.Sets.{is_same, same_as, contains-set_of}
use Rattle.htn_model.proofs.Searches.{all_below, below_all}
use Rattle.htn_model.proofs.Splices.{square_past_left, square_past_right}

-- ## Networks

-- whether a test follows from another
abbrev implies : Bool → Bool → Bool
implies a b = not a || b

-- what follows from what holds does hold
implied : (a b : Bool) → implies a b ≡ true → a ≡ true → b ≡ true
implied true b h e = h
implied false b h e = absurd cc

-- whether an order is a square table, as a test
abbrev square_by : ℕ → Order → Bool
square_by n order = nat_eq (length order) n && list_all (λ row. nat_eq (length row) n) order

-- whether an order of n nodes is closed, as a test
abbrev closed_by : ℕ → Order → Bool
closed_by n order =
    all_below n (λ a. not (is_before order a a)
    && all_below n (λ b. implies (is_before order a b) (all_below n (λ c. implies (is_before order b c) (is_before order a c)))))

-- whether a network is one, as a test
abbrev pub network_by : Network → Bool
network_by network = square_by (length network.children) network.order && closed_by (length network.children) network.order

-- rows that pass are all of one length
all_rows : (n : ℕ) (rows : List (List Bool)) → list_all (λ row. nat_eq (length row) n) rows ≡ true → AllByRecursion (λ row. length row ≡ n) rows
all_rows n [] h = tt
all_rows n (row ∷ rows) h = let parts = and_parts _ _ h in ((unsigned_Decides (length row) n).0 parts.0, all_rows n rows parts.1)

-- what is before another stands in the table
within_table : (n : ℕ) (order : Order) (a b : ℕ) → IsSquare n order → is_before order a b ≡ true → (a < n) × (b < n)
within_table n order a b square h = (
  elim (cases_lt a n) [ inl low ↦ low | inr past ↦ absurd (both_ways (is_before order a b) (square_past_left n order a b square past) h) ],
  elim (cases_lt b n) [ inl low ↦ low | inr past ↦ absurd (both_ways (is_before order a b) (square_past_right n order a b square past) h) ],
)

-- an order that passes is a square table
square_from : (n : ℕ) (order : Order) → square_by n order ≡ true → IsSquare n order
square_from n order h = let parts = and_parts _ _ h in ((unsigned_Decides (length order) n).0 parts.0, all_rows n order parts.1)

-- what has its opposite hold fails
not_true : (b : Bool) → not b ≡ true → b ≡ false
not_true true h = absurd cc
not_true false h = refl

module _ (n : ℕ) (order : Order) (square : IsSquare n order) (h : closed_by n order ≡ true) where
  -- a node of an order that passes isn't before itself, and leads on
  at : (a : ℕ) → a < n → (is_before order a a ≡ false) × (all_below n (λ b. implies (is_before order a b) (all_below n (λ c. implies (is_before order b c) (is_before order a c)))) ≡ true)
  at a within =
      let parts = and_parts _ _
      (below_all n (λ a. not (is_before order a a) && all_below n (λ b. implies (is_before order a b) (all_below n (λ c. implies (is_before order b c) (is_before order a c))))) a h within) in
      (not_true _ parts.0, parts.1)

  -- an order that passes is closed
  closed_from : IsClosed order
  closed_from = record {
    irreflexive = λ a. elim (cases_Bool (is_before order a a)) [
      | inl t ↦ (at a (within_table n order a a square t).0).0
      | inr f ↦ f
    ];
    transitive = λ a b c p q.
        (let low = within_table n order a b square p in
        let high = within_table n order b c square q in
        let rest = implied _ _ (below_all n (λ b. implies (is_before order a b) (all_below n (λ c. implies (is_before order b c) (is_before order a c)))) b (at a low.0).1 low.1) p in
        implied _ _ (below_all n (λ c. implies (is_before order b c) (is_before order a c)) c rest high.1) q);
  }

-- a network that passes is one
pub network_from : (network : Network) → network_by network ≡ true → IsNetwork network
network_from network h =
    let parts = and_parts _ _ h in
    let square = square_from (length network.children) network.order parts.0 in
    record { closed = closed_from (length network.children) network.order square parts.1; square = square }

-- so is each of networks that pass
networks_from : (networks : List Network) (number : ℕ) (network : Network) → list_all network_by networks ≡ true → slice_get networks number ≡ Some network → IsNetwork network
networks_from [] number network h e = absurd cc
networks_from (n ∷ ns) zero network h e = let same : n ≡ network = cc in subst IsNetwork same (network_from n (and_parts _ _ h).0)
networks_from (n ∷ ns) (suc number) network h e = networks_from ns number network (and_parts _ _ h).1 e

-- whether all networks of methods are ones, as a test
abbrev methods_by : List (GroundTask × List Network) → Bool
methods_by methods = list_all (λ e. list_all network_by e.1) methods

-- each network of methods that pass is one
methods_from : (methods : List (GroundTask × List Network)) (t : GroundTask) (number : ℕ) (network : Network) → methods_by methods ≡ true
    → slice_get (unwrap_or (look_up methods t) []) number ≡ Some network → IsNetwork network
methods_from [] t number network h e = absurd cc
methods_from (m ∷ ms) t number network h e = by (ground_task_eq m.0 t) e (methods_from ms t number network (and_parts _ _ h).1)
  where
    by : (b : Bool) → slice_get (unwrap_or (cond b (Some m.1) (look_up ms t)) []) number ≡ Some network
        → (slice_get (unwrap_or (look_up ms t) []) number ≡ Some network → IsNetwork network) → IsNetwork network
    by true e later = networks_from m.1 number network (and_parts _ _ h).0 e
    by false e later = later e

-- ## Effects

-- whether all atoms are of predicates that change, as a test
abbrev names_by : List ℕ → List Atom → Bool
names_by changed atoms = list_all (λ a. list_any (nat_eq a.predicate) changed) atoms

-- each atom that passes is of such a predicate
named : (changed : List ℕ) (atoms : List Atom) (q : Atom) → names_by changed atoms ≡ true → list_any (is_same q) atoms ≡ true → list_any (nat_eq q.predicate) changed ≡ true
named changed [] q h e = absurd cc
named changed (a ∷ atoms) q h e = by (or_cases (is_same q a) (list_any (is_same q) atoms) e) (named changed atoms q (and_parts _ _ h).1)
  where
    by : (is_same q a ≡ true) ⊎ (list_any (is_same q) atoms ≡ true) → (list_any (is_same q) atoms ≡ true → list_any (nat_eq q.predicate) changed ≡ true) → list_any (nat_eq q.predicate) changed ≡ true
    by (inl same) later = ap (λ (x : Atom). list_any (nat_eq x.predicate) changed) (same_as q a same) ∙ (and_parts _ _ h).0
    by (inr other) later = later other

-- a set of atoms that pass changes only these
set_changed : (changed : List ℕ) (atoms : List Atom) → names_by changed atoms ≡ true → AreChanged (λ p. list_any (nat_eq p) changed) (set_of atoms)
set_changed changed atoms h q e = named changed atoms q h (sym (contains-set_of atoms q) ∙ e)

-- whether all effects are of predicates that change, as a test
abbrev actions_by : List ℕ → List (GroundTask × SketchAction) → Bool
actions_by changed actions = list_all (λ e. names_by changed e.1.adds && names_by changed e.1.deletes) actions

-- an action changes only these predicates
abbrev Changes : List ℕ → Action → Type 0
Changes changed a = AreChanged (λ p. list_any (nat_eq p) changed) a.adds × AreChanged (λ p. list_any (nat_eq p) changed) a.deletes

-- each action that passes does so
actions_from : (changed : List ℕ) (actions : List (GroundTask × SketchAction)) (g : GroundTask) (a : Action) → actions_by changed actions ≡ true
    → option_map drawn (look_up actions g) ≡ Some a → Changes changed a
actions_from changed [] g a h e = absurd cc
actions_from changed (x ∷ xs) g a h e = by (ground_task_eq x.0 g) e (actions_from changed xs g a (and_parts _ _ h).1)
  where
    by : (b : Bool) → option_map drawn (cond b (Some x.1) (look_up xs g)) ≡ Some a → (option_map drawn (look_up xs g) ≡ Some a → Changes changed a) → Changes changed a
    by true e later =
        let same : drawn x.1 ≡ a = cc in
        let parts = and_parts _ _ (and_parts _ _ h).0 in
        subst (Changes changed) same (set_changed changed x.1.adds parts.0, set_changed changed x.1.deletes parts.1)
    by false e later = later e

-- ## Problems

-- whether a sketched problem is grounded, as a test
abbrev pub grounded_by : Sketch → Bool
grounded_by k = (list_all network_by k.initials && methods_by k.methods) && actions_by k.changed k.actions

-- a sketched problem that passes is grounded
pub grounded_from : (k : Sketch) → grounded_by k ≡ true → IsGrounded (sketched k)
grounded_from k h =
    let parts = and_parts _ _ h in
    let networks = and_parts _ _ parts.0 in
    record {
      initials = λ number network e. networks_from k.initials number network networks.0 e;
      methods = λ t number network e. methods_from k.methods t number network networks.1 e;
      effects = λ g a e. actions_from k.changed k.actions g a parts.1 e;
    }

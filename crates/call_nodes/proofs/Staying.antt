-- What is known of nodes stays as more atoms, nodes and lists have numbers.
use Rattle.std.proofs.Common.{◌≡◌, ◌∙◌, ◌<◌, ℕ, zero, suc, ◌&&◌, not, List, [], ◌∷◌, ◌++◌, Some, append-nil, get_or, length, set, slice_get, refl, ap, sym, subst}
use Rattle.std.specs.List.{AllZip}
use Rattle.std.proofs.lemmas.List.{get_or_append_left}
use Rattle.std.proofs.lemmas.Option.{none-some, same_Some, slice_get-get_or}
use Rattle.htn_model.specs.Instance.{Instance}
use Rattle.htn_model.specs.Literal.{Literal, Action}
use Rattle.htn_model.specs.PlanFile.{IsIn, IsWithoutRepeats}
use Rattle.htn_model.specs.Problem.{Child, Network}
use Rattle.htn_model.specs.State.{State, atoms_of, contains}
use Rattle.htn_model.specs.Task.{Task}
use Rattle.htn_model.proofs.Ascending.{in_at}
use Rattle.htn_model.proofs.Rearranged.{distinct_with}
use Rattle.htn_ground.specs.Distinct.{distinct, live_methods}
use Rattle.state_table.specs.Compiled.{AreCompiled, IsCompiled}
use Rattle.state_table.specs.Numberings.{IsExtension}
use Rattle.state_table.specs.Table.{Table, IsLater, is_changed, is_fluent_by, state_of}
use Rattle.state_table.specs.declared.compiled.CompiledAction.{CompiledAction}
use Rattle.state_table.specs.declared.compiled.CompiledLiterals.{CompiledLiterals}
use Rattle.state_table.proofs.Effects.{numbers_later}
use Rattle.state_table.proofs.Keys.{slice_get-append}
use Rattle.state_table.proofs.States.{later_itself, later_more, later_set, later_state}
use Rattle.call_table.specs.Lists.{Lists, list_at}
use Rattle.call_nodes.specs.Nodes.{AreAtoms, AreListsOf, AreMore, AreNodes, AreNumbersOf, AreSetsOf, IsListOf, IsOperator, children}
use Rattle.call_nodes.specs.declared.call_nodes.CallNodes.{CallNodes}
use Rattle.call_nodes.specs.declared.operator.Operator.{Operator}
use Rattle.call_nodes.specs.declared.operator.Operator.TheVariants.{Unlisted, Task as Listed, Partly, Step, Action as Acts, Never}
use Rattle.call_nodes.proofs.Numbering.{list_stays, more_lists, same_lists, stays_in_use}

-- ## Lists beside each other

-- what is so of each pair is so of a weaker fact
pub zip_so : {A B : Type 0} (R S : A → B → Type 0) → ((a : A) (b : B) → R a b → S a b) → (xs : List A) (ys : List B) → AllZip R xs ys → AllZip S xs ys
zip_so R S so [] [] h = tt
zip_so R S so [] (y ∷ ys) h = h
zip_so R S so (x ∷ xs) [] h = h
zip_so R S so (x ∷ xs) (y ∷ ys) h = (so x y h.0, zip_so R S so xs ys h.1)

-- one pair more
pub zip_last : {A B : Type 0} (R : A → B → Type 0) (xs : List A) (ys : List B) (x : A) (y : B) → AllZip R xs ys → R x y → AllZip R (xs ++ x ∷ []) (ys ++ y ∷ [])
zip_last R [] [] x y h r = (r, tt)
zip_last R [] (b ∷ ys) x y h r = absurd h
zip_last R (a ∷ xs) [] x y h r = absurd h
zip_last R (a ∷ xs) (b ∷ ys) x y h r = (h.0, zip_last R xs ys x y h.1 r)

-- what stands beside something of one list in the other
pub zip_at : {A B : Type 0} (R : A → B → Type 0) (xs : List A) (ys : List B) (n : ℕ) (y : B) → AllZip R xs ys → slice_get ys n ≡ Some y
    → (x : A) × (slice_get xs n ≡ Some x) × R x y
zip_at R [] [] n y h at = absurd (none-some y at)
zip_at R [] (b ∷ ys) n y h at = absurd h
zip_at R (a ∷ xs) [] n y h at = absurd h
zip_at R (a ∷ xs) (b ∷ ys) zero y h at = (a, refl, subst (R a) (same_Some b y at) h.0)
zip_at R (a ∷ xs) (b ∷ ys) (suc n) y h at = zip_at R xs ys n y h.1 at

-- another thing in its place
pub zip_set : {A B : Type 0} (R : A → B → Type 0) (xs : List A) (ys : List B) (n : ℕ) (x : A) (y : B) → AllZip R xs ys → slice_get xs n ≡ Some x → R x y
    → AllZip R xs (set ys n y)
zip_set R [] [] n x y h at r = absurd (none-some x at)
zip_set R [] (b ∷ ys) n x y h at r = absurd h
zip_set R (a ∷ xs) [] n x y h at r = absurd h
zip_set R (a ∷ xs) (b ∷ ys) zero x y h at r = (subst (λ z. R z y) (sym (same_Some a x at)) r, h.1)
zip_set R (a ∷ xs) (b ∷ ys) (suc n) x y h at r = (h.0, zip_set R xs ys n x y h.1 at r)

-- ## Atoms

module _ (t : Task) (atoms later : Table) (grown : IsLater atoms later) where
  -- they are told apart as before
  pub atoms_later : AreAtoms t atoms → AreAtoms t later
  atoms_later own = record {
    table = grown.table;
    fluents = λ predicate. ap (λ f. is_changed f predicate) grown.fluents ∙ own.fluents predicate;
    statics = λ a. ap (λ (s : State). contains s a) grown.statics ∙ own.statics a ∙ ap (λ f. contains t.initial_atoms a && not (is_fluent_by f a)) (sym grown.fluents);
  }

  -- compiled literals stay right
  pub literals_later : (c : CompiledLiterals) (literals : List Literal) → AreCompiled atoms c literals → AreCompiled later c literals
  literals_later c literals compiled = λ after more. compiled after (later_more atoms later after grown more)

  -- a compiled action stays right
  pub action_later : (c : CompiledAction) (action : Action) → IsCompiled atoms c action → IsCompiled later c action
  action_later c action compiled = record {
    precondition = literals_later c.precondition action.precondition compiled.precondition;
    deletes = numbers_later atoms later grown c.deletes.items (atoms_of action.deletes) compiled.deletes;
    adds = numbers_later atoms later grown c.adds.items (atoms_of action.adds) compiled.adds;
  }

-- ## States

module _ (atoms later : Table) (grown : IsLater atoms later) (xs : List (List ℕ)) (are : AreSetsOf atoms xs) where
  -- sets of atoms of the table are such of later ones
  pub sets_later : AreSetsOf later xs
  sets_later i words at = later_set atoms later grown words (are i words at)

  -- a number stands for the state that it stood for
  pub state_stays : (ys : List (List ℕ)) → IsExtension xs ys → (i : ℕ) → i < length xs → state_of later (get_or ys i []) ≡ state_of atoms (get_or xs i [])
  state_stays ys more i inside =
      ap (λ (l : List (List ℕ)). state_of later (get_or l i [])) more.1
      ∙ ap (state_of later) (get_or_append_left xs more.0 [] i inside)
      ∙ later_state atoms later grown (get_or xs i []) (are i (get_or xs i []) (slice_get-get_or xs i [] inside))

-- ## Nodes and lists

-- nothing stands twice with one more that is new
pub apart_with : {A : Type 0} (xs : List A) (x : A) → IsWithoutRepeats xs → ((n : ℕ) → slice_get xs n ≡ Some x → ⊥) → IsWithoutRepeats (xs ++ x ∷ [])
apart_with xs x apart none =
    distinct_with x xs [] (subst IsWithoutRepeats (sym (append-nil xs)) apart)
    (λ there. (let found = in_at x xs (subst (IsIn x) (append-nil xs) there) in none found.0 found.1))

module _ (known wider : List Child) (grown : IsExtension known wider) where
  -- a node keeps its number
  pub node_stays : (n : ℕ) (x : Child) → slice_get known n ≡ Some x → slice_get wider n ≡ Some x
  node_stays n x at = ap (λ xs. slice_get xs n) grown.1 ∙ slice_get-append known grown.0 n x at

  -- and so do nodes
  pub numbers_stay : (numbers : List ℕ) (nodes : List Child) → AreNumbersOf known numbers nodes → AreNumbersOf wider numbers nodes
  numbers_stay numbers nodes are = zip_so (λ n x. slice_get known n ≡ Some x) (λ n x. slice_get wider n ≡ Some x) node_stays numbers nodes are

  module _ (l k : Lists) (more : IsExtension l.lists k.lists) where
    -- a network keeps its list
    pub list_of_stays : (number : ℕ) (network : Network) → IsListOf known l number network → IsListOf wider k number network
    list_of_stays number network is = record {
      inside = stays_in_use l.lists k.lists number more is.inside;
      nodes = subst (λ xs. AreNumbersOf wider xs network.children) (sym (list_stays l k number more is.inside))
          (numbers_stay (list_at l number) network.children is.nodes);
      in_order = is.in_order;
    }

    -- and so do the networks of instances
    pub lists_of_stay : (numbers : List ℕ) (instances : List Instance) → AreListsOf known l numbers instances → AreListsOf wider k numbers instances
    lists_of_stay numbers instances are =
        zip_so (λ number (i : Instance). IsListOf known l number i.network) (λ number (i : Instance). IsListOf wider k number i.network)
        (λ number i. list_of_stays number i.network) numbers instances are

    -- a node keeps its operator
    pub operator_stays : (t : Task) (atoms later : Table) → IsLater atoms later → (x : Child) (o : Operator) → IsOperator t atoms known l x o → IsOperator t later wider k x o
    operator_stays t atoms later on x Unlisted is = is
    operator_stays t atoms later on x (Listed numbers) is = (is.0, is.1, lists_of_stay numbers.items (distinct (live_methods t is.0)) is.2)
    operator_stays t atoms later on x Partly is = is
    operator_stays t atoms later on x (Step literals) is = (is.0, is.1, literals_later t atoms later on literals is.0 is.2)
    operator_stays t atoms later on x (Acts compiled) is = (is.0, is.1, is.2, is.3, action_later t atoms later on compiled is.1 is.4)
    operator_stays t atoms later on x Never is = is

    -- and so do all
    pub operators_stay : (t : Task) (atoms later : Table) → IsLater atoms later → (xs : List Child) (os : List Operator)
        → AllZip (IsOperator t atoms known l) xs os → AllZip (IsOperator t later wider k) xs os
    operators_stay t atoms later on xs os are = zip_so (IsOperator t atoms known l) (IsOperator t later wider k) (operator_stays t atoms later on) xs os are

-- ## All of them

-- nothing more
pub no_more : (t : Task) (n : CallNodes) → AreNodes t n → AreMore n n
no_more t n own = record {
  atoms = later_itself n.atoms own.atoms.table;
  states = same_lists n.states;
  nodes = same_lists (children n);
  lists = same_lists n.lists.lists;
}

-- more, and more again
pub more_again : (a b c : CallNodes) → AreMore a b → AreMore b c → AreMore a c
more_again a b c one other = record {
  atoms = later_more a.atoms b.atoms c.atoms one.atoms other.atoms;
  states = more_lists a.states b.states c.states one.states other.states;
  nodes = more_lists (children a) (children b) (children c) one.nodes other.nodes;
  lists = more_lists a.lists.lists b.lists.lists c.lists.lists one.lists other.lists;
}

-- What a node leads to, by its operator.
use Rattle.std.proofs.Common.{◌≡◌, ◌≤◌, ◌∙◌, ℕ, Bool, cond, List, [], Option, Some, None, Bor, length, slice_get, ap, sym, subst, arith}
use Rattle.std.specs.Prelude.{IfNone, IfSome}
use Rattle.std.specs.Slice.{IsItemAt}
use Rattle.std.proofs.lemmas.Option.{get_or_from_slice_get, same_Some, slice_get-get_or, slice_get_within}
use Rattle.std.proofs.lemmas.Slice.Zip.{AllZip-long}
use Rattle.htn_model.specs.Grounding.{problem_of}
use Rattle.htn_model.specs.Literal.{Literal, holds}
use Rattle.htn_model.specs.Problem.{Child, perform}
use Rattle.htn_model.specs.State.{State}
use Rattle.htn_model.specs.Task.{Task}
use Rattle.state_table.specs.Compiled.{AreCompiled}
use Rattle.state_table.specs.Table.{Table, state_of}
use Rattle.state_table.specs.declared.compiled.CompiledLiterals.{CompiledLiterals}
use Rattle.call_table.specs.Lists.{Lists}
use Rattle.call_nodes.specs.Nodes.{AreNodes, IsOperator, LeadsTo, children, state_at}
use Rattle.call_nodes.specs.declared.call_nodes.CallNodes.{CallNodes}
use Rattle.call_nodes.specs.declared.operator.Operator.{Operator}
use Rattle.call_nodes.specs.declared.operator.Operator.TheVariants.{Step}
use Rattle.call_nodes.proofs.Staying.{zip_at}

module _ (t : Task) (atoms : Table) (known : List Child) (l : Lists) (x : Child) (s : State) where
  -- a step leaves the state where its literals hold
  pub step_leads : (literals : CompiledLiterals) (hold : Bool) → ((ls : List Literal) → AreCompiled atoms literals ls → hold ≡ holds s ls)
      → IsOperator t atoms known l x (Step literals) → cond hold (Some s) None ≡ perform (problem_of t) s x
  step_leads literals hold told is =
      ap (λ b. cond b (Some s) None) (told is.0 is.2) ∙ ap (perform (problem_of t) s) (sym is.1)

-- a set that has a number is the state of that number
pub numbered_state : (n : CallNodes) (number : ℕ) (words : List ℕ) → slice_get n.states number ≡ Some words → state_at n number ≡ state_of n.atoms words
numbered_state n number words at = ap (state_of n.atoms) (get_or_from_slice_get n.states number words [] at)

module _ (t : Task) (n : CallNodes) (own : AreNodes t n) where
  -- the node of an operator
  pub operator_at : (node : ℕ) (o : Operator) → slice_get n.operators.items node ≡ Some o
      → (x : Child) × (slice_get (children n) node ≡ Some x) × IsOperator t n.atoms (children n) n.lists x o
  operator_at node o at = zip_at (IsOperator t n.atoms (children n) n.lists) (children n) n.operators.items node o own.operators at

  -- a node leads where its operator does
  pub operator_leads : (node state : ℕ) (o : Operator) (words : List ℕ) (after : Option State) → slice_get n.operators.items node ≡ Some o → slice_get n.states state ≡ Some words
      → ((x : Child) → IsOperator t n.atoms (children n) n.lists x o → after ≡ perform (problem_of t) (state_of n.atoms words) x)
      → LeadsTo t n node state after
  operator_leads node state o words after at there leads = λ x here inside.
      let found = operator_at node o at in
      let one : found.0 ≡ x = same_Some found.0 x (sym found.1 ∙ here) in
      leads x (subst (λ y. IsOperator t n.atoms (children n) n.lists y o) one found.2)
      ∙ ap (λ s. perform (problem_of t) s x) (sym (numbered_state n state words there))

  -- no node has a number past the operators
  pub past_operators : (node : ℕ) (x : Child) → length n.operators.items ≤ node → slice_get (children n) node ≡ Some x → ⊥
  past_operators node x past at =
      let long = AllZip-long (IsOperator t n.atoms (children n) n.lists) (children n) n.operators.items own.operators in
      let low = slice_get_within (children n) node x at in
      omega (arith, past, long, low)

-- ## What is lent

-- what is lent stands there
pub lent : {A : Type 0} (P : A → Type 0) (xs : List A) (i : ℕ) (r : Option (Bor A)) → IsItemAt xs i r → ((x : A) → slice_get xs i ≡ Some x → P x) → IfSome r (λ o. P o.now)
lent P xs i None is so = tt
lent P xs i (Some o) is so = so o.now (slice_get-get_or xs i o.now is.3.0 ∙ ap Some (sym is.1))

-- and where nothing is lent, there is nothing
pub not_lent : {A : Type 0} {P : Type 0} (xs : List A) (i : ℕ) (r : Option (Bor A)) → IsItemAt xs i r → (length xs ≤ i → P) → IfNone r P
not_lent xs i None is so = so is.3
not_lent xs i (Some o) is so = tt

-- what is so of what there is
pub some_so : {A : Type 0} (P Q : A → Type 0) (o : Option A) → ((a : A) → P a → Q a) → IfSome o P → IfSome o Q
some_so P Q None so is = tt
some_so P Q (Some a) so is = so a is

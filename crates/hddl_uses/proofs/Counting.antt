-- How many declarations there are, and their names.
use Rattle.std.proofs.Common.{◌≡◌, ◌++◌, ◌∙◌, ℕ, List, ap, sym, length, map, take, ◌≤◌, arith}
use Rattle.std.proofs.lemmas.List.{length-map, map-append, take_all}
use Rattle.std.proofs.lemmas.Simd.{map-map}
use Rattle.hddl_words.specs.declared.domain.DomainText.{DomainText}
use Rattle.hddl_words.specs.declared.domain.ActionText.{ActionText}
use Rattle.hddl_words.specs.declared.domain.PredicateText.{PredicateText}
use Rattle.hddl_words.specs.declared.domain.TaskText.{TaskText}
use Rattle.hddl_meaning.specs.Mentions.{Text}
use Rattle.hddl_meaning.specs.Names.{compound_names, predicate_names, task_names}
use Rattle.hddl_meaning.specs.Uses.{Variable}
use Rattle.hddl_meaning.specs.Items.{Signature, predicate_signatures, signature, task_signatures}
use Rattle.hddl_uses.specs.Tables.{IsTableOf, as_parameter}
use Rattle.hddl_uses.specs.declared.signatures.Signatures.{Signatures}
use Rattle.hddl_uses.proofs.Using.{take_front}

-- the names of the declarations
abbrev names_in : List Signature → List Text
names_in signatures = map (λ s. s.name) signatures

-- a table has as many rows as there are declarations
as_long : (signatures : List Signature) (table : Signatures) → IsTableOf signatures table → length table.places.items ≡ length signatures
as_long signatures table is =
    sym (length-map table.places.items (λ v. v.items)) ∙ ap (λ (l : List (List Variable)). length l) is.places ∙ length-map signatures (λ s. map as_parameter s.places)

-- all of them are among the first so many
pub all_names : (signatures : List Signature) (table : Signatures) (n : ℕ) → IsTableOf signatures table → n ≡ length table.places.items → names_in (take n signatures) ≡ names_in signatures
all_names signatures table n is count =
    let long : n ≡ length signatures = count ∙ as_long signatures table is in
    let le : length signatures ≤ n = omega (arith, long) in
    ap names_in (take_all n signatures le)

-- the declarations of predicates have the predicates' names
pub predicates_named : (d : DomainText) → names_in (predicate_signatures d) ≡ predicate_names d
predicates_named d = map-map (λ (s : Signature). s.name) (λ (x : PredicateText). signature x.name x.parameters) d.predicates

-- the declarations of compound tasks have their names
compound_named : (d : DomainText) → names_in (map (λ x. signature x.name x.parameters) d.tasks) ≡ compound_names d
compound_named d = map-map (λ (s : Signature). s.name) (λ (x : TaskText). signature x.name x.parameters) d.tasks

-- the declarations of tasks and actions have their names
pub tasks_named : (d : DomainText) → names_in (task_signatures d) ≡ task_names d
tasks_named d =
    map-append (λ (s : Signature). s.name) (map (λ (x : TaskText). signature x.name x.parameters) d.tasks) (map (λ (x : ActionText). signature x.name x.parameters) d.actions)
    ∙ (λ i. compound_named d i ++ map-map (λ (s : Signature). s.name) (λ (x : ActionText). signature x.name x.parameters) d.actions i)

-- the compound tasks come first
pub compound_first : (d : DomainText) (n : ℕ) → n ≡ length d.tasks → names_in (take n (task_signatures d)) ≡ compound_names d
compound_first d n count =
    let tasks = map (λ (x : TaskText). signature x.name x.parameters) d.tasks in
    let actions = map (λ (x : ActionText). signature x.name x.parameters) d.actions in
    let long : n ≡ length tasks = count ∙ sym (length-map d.tasks (λ (x : TaskText). signature x.name x.parameters)) in
    ap (λ k. names_in (take k (tasks ++ actions))) long ∙ ap names_in (take_front tasks actions) ∙ compound_named d

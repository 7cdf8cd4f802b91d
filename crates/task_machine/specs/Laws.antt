-- What the machine owes: no configuration has two numbers.
use Rattle.std.specs.Prelude.{◌≡◌, ℕ, List, [], get_or, Some, slice_get}
use Rattle.std.proofs.Common.{ap, ap₂, sym, ◌∙◌}
use Rattle.std.proofs.lemmas.Option.{slice_get-get_or}
use Rattle.htn_model.specs.Machine.{Config}
use Rattle.htn_model.specs.Task.{Task}
use Rattle.state_table.proofs.Keys.{one_place}
use Rattle.state_table.proofs.States.{told_apart}
use Rattle.network_table.proofs.Apart.{numbers_differ}
use Rattle.word_machine.specs.Meaning.{IsOneToOne}
use Rattle.task_machine.specs.Meaning.{config_in, meaning}
use Rattle.task_machine.specs.Tables.{AreTables}
use Rattle.task_machine.specs.declared.tables.Tables.{Tables}

-- two sets of atoms that stand for one state are the same
pub same_words : (t : Task) (tables : Tables) → AreTables t tables → (i j : ℕ) (v w : List ℕ) → slice_get tables.states i ≡ Some v → slice_get tables.states j ≡ Some w
    → (m n : ℕ) → config_in tables v m ≡ config_in tables w n → v ≡ w
same_words t tables own i j v w here there m n same =
    told_apart tables.atoms own.atoms.table v w (own.sets i v here) (own.sets j w there) (ap (λ (c : Config). c.state) same)

-- no configuration has two numbers
pub one_to_one : (t : Task) (tables : Tables) → AreTables t tables → IsOneToOne (meaning tables)
one_to_one t tables own c d known known' same =
    let v = get_or tables.states c.state [] in
    let w = get_or tables.states d.state [] in
    let here = slice_get-get_or tables.states c.state [] known.0 in
    let there = slice_get-get_or tables.states d.state [] known'.0 in
    let words : v ≡ w = same_words t tables own c.state d.state v w here there c.network d.network same in
    let states : c.state ≡ d.state = one_place tables.states own.numbering.distinct c.state d.state v here (there ∙ ap Some (sym words)) in
    let networks : c.network ≡ d.network =
    numbers_differ tables.networks c.network d.network own.networks known.1 known'.1 (ap (λ (x : Config). record { children = x.open_nodes; order = x.order }) same) in
    ap₂ (λ s n. record { state = s; network = n }) states networks

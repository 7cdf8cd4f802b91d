use Rattle.std.proofs.Common.{◌≡◌, ◌&&◌, List, [], ◌∷◌, length, true, refl, sym, ap, ◌∙◌, arith}
use Rattle.htn_model.specs.Choice.{is_empty}
use Rattle.htn_model.specs.Grounding.{problem_of}
use Rattle.htn_model.specs.Literal.{holds}
use Rattle.htn_model.specs.Problem.{Child}
use Rattle.state_table.specs.Table.{state_of}
use Rattle.network_table.specs.Networks.{network_at}
use Rattle.task_machine.proofs.tables.Tables.is_finished.Goals as goal

-- none of no nodes
no_nodes : (nodes : List Child) → length nodes ≡ 0 → is_empty nodes ≡ true
no_nodes [] none = refl
no_nodes (x ∷ nodes) none = absurd (omega arith)

pub returns-then-open_len-eq0 : goal.returns-then-open_len-eq0
returns-then-open_len-eq0 c = λ t own.
    let tables = c.args.self.now in
    let hold = c.hold.ensures tables.atoms (problem_of t).goal own.atoms.table own.goal in
    let nodes = (network_at tables.networks c.args.network).children in
    let none : length nodes ≡ 0 = omega (arith, c.open_len.ensures, c.if-open_len-eq0.true) in
    let empty = no_nodes nodes none in
    hold ∙ sym (ap (λ b. b && holds (state_of tables.atoms c.args.state.now) (problem_of t).goal) empty)

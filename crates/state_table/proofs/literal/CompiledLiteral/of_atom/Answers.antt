use Rattle.std.proofs.Common.{◌≡◌, ◌∙◌, Bool, false, ap, sym, List}
use Rattle.std.specs.Bool.{beq}
use Rattle.htn_model.specs.State.{State, contains}
use Rattle.state_table.specs.Table.{is_fluent, is_fluent_by}
use Rattle.state_table.proofs.Literals.{beq_turned}
use Rattle.state_table.proofs.States.{numbered_is, static_is, later_at}
use Rattle.state_table.proofs.literal.CompiledLiteral.of_atom.Goals as goal

-- a static atom
pub returns-then-not-is_fluent-clause-compiled : goal.returns-then-not-is_fluent-clause-compiled
returns-then-not-is_fluent-clause-compiled c = λ later grown words.
    let static : is_fluent later c.args.atom.now ≡ false = ap (λ (l : List Bool). is_fluent_by l c.args.atom.now) grown.fluents ∙ sym c.is_fluent.ensures ∙ c.if-not-is_fluent.true in
    beq_turned c.is_static.result c.args.is_positive
    ∙ ap (λ b. beq c.args.is_positive b)
    (c.is_static.ensures ∙ ap (λ (s : State). contains s c.args.atom.now) (sym grown.statics) ∙ sym (static_is later grown.table words c.args.atom.now static))

-- a fluent one
pub returns-clause-compiled : goal.returns-clause-compiled
returns-clause-compiled c = λ later grown words.
    c.fluent_literal.ensures words
    ∙ ap (λ b. beq c.args.is_positive b)
    (sym (numbered_is later grown.table words c.args.atom.now c.in_ok-number.number (later_at c.number.new.self later grown c.in_ok-number.number c.args.atom.now c.in_ok-number.ensures.number)))

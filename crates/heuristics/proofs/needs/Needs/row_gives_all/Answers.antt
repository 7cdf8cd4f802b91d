use Rattle.std.proofs.Common.{◌≡◌, ◌∙◌, true, sym}
use Rattle.htn_model.specs.Atom.{Atom}
use Rattle.htn_model.specs.Literal.{atom}
use Rattle.heuristics.specs.Rows.{is_marked, literal_number}
use Rattle.heuristics.proofs.MarkLists.{all_more, all_taken}
use Rattle.heuristics.proofs.needs.Needs.row_gives_all.Goals as goal

pub returns : goal.returns
returns c = λ _.
    all_taken (λ (a : Atom). is_marked c.args.row.now.gives.items (literal_number c.args.self.now (atom c.args.is_positive a)) ≡ true) c.args.atoms.now c.loop-atom.atom-index c.loop-atom-test.false
    c.loop-atom.invariant

pub loop-atom-preserved : goal.loop-atom-preserved
loop-atom-preserved c =
    all_more (λ (a : Atom). is_marked c.args.row.now.gives.items (literal_number c.args.self.now (atom c.args.is_positive a)) ≡ true) c.args.atoms.now c.loop-atom.atom-index c.atom-item.result
    c.loop-atom-test.true c.atom-item.is c.loop-atom.invariant (sym c.in_ok-gives.ensures ∙ c.if-not-gives.false)

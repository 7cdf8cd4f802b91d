use Rattle.std.proofs.Common.{ap, arith, length}
use Rattle.std.proofs.lemmas.List.{length-map}
use Rattle.plan_lines.specs.Turns.{History}
use Rattle.plan_lines.proofs.Touched.{touched_end}
use Rattle.plan_lines.proofs.history.Turns.touch.Goals as goal

pub returns-clause-place : goal.returns-clause-place
returns-clause-place c =
    touched_end c.self.inside.atoms.keys c.insert.new.self.keys c.args.atom.now c.in_ok-clone.field-0 c.len-place.result c.in_ok-clone.ensures.cases c.in_ok-insert.ensures.keys
    c.in_default.ensures.found c.in_default.ensures.index
    (let many = c.requires.as_many in
    let lists = ap (λ (h : History). length h.turns) c.self.view_is in
    let atoms = ap (λ (h : History). length h.atoms) c.self.view_is in
    let same = length-map c.self.inside.turns.items (λ v. v.items) in
    let place = c.len-place.ensures in
    let long = c.self.inside.turns.ok.0 in
    omega arith)

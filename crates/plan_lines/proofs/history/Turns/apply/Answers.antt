use Rattle.std.proofs.Common.{ap, subst, ◌∙◌, ◌+◌, true, false, map, arith}
use Rattle.htn_model.specs.State.{atoms_of}
use Rattle.plan_lines.specs.Turns.{AreTurned, History}
use Rattle.plan_lines.proofs.Setting.{applied, IsNextOf}
use Rattle.plan_lines.proofs.history.Turns.apply.Goals as goal

pub returns-clause-applied : goal.returns-clause-applied
returns-clause-applied c =
    let next : History = record {
      initial = c.self.inside.initial.now;
      last = c.self.inside.last + 1;
      atoms = c.self.inside.atoms.keys;
      turns = map (λ v. v.items) c.self.inside.turns.items;
    } in
    let is : IsNextOf c.args.self.now next = record {
      initial = ap (λ h. h.initial) c.self.view_is;
      last = (let l = ap (λ h. h.last) c.self.view_is in omega arith);
      atoms = ap (λ h. h.atoms) c.self.view_is;
      turns = ap (λ h. h.turns) c.self.view_is;
    } in
    applied c.args.self.now next c.set_all.new.self c.set_all-2.new.self c.args.action.now c.requires.history is
    (subst (λ xs. AreTurned next c.set_all.new.self xs false) (c.atoms.ensures.value ∙ ap (λ a. atoms_of a.deletes) c.action.view_is) c.in_ok-set_all.ensures.turned)
    (subst (λ xs. AreTurned c.set_all.new.self c.set_all-2.new.self xs true) (c.atoms-2.ensures.value ∙ ap (λ a. atoms_of a.adds) c.action.view_is) c.in_ok-set_all-2.ensures.turned)

use Rattle.std.proofs.Common.{◌≡◌, ◌∙◌, true, List, sym, subst}
use Rattle.std.proofs.lemmas.List.Folds.{list_all-map}
use Rattle.htn_model.specs.Literal.{Action, Literal}
use Rattle.call_rules.specs.Local.{are_literals_in, is_literal_in, IsActionIn}
use Rattle.htn_task.specs.Literals.{literal_of}
use Rattle.call_proof.specs.Masks.{frame_of}
use Rattle.call_proof.proofs.NodeFrames.{all_in}
use Rattle.call_proof.proofs.reads.is_action_in.Goals as goal

pub returns : goal.returns
returns c = λ is.
    (let frame = frame_of c.args.atoms.now c.args.mask.now in
    subst (λ (a : Action). IsActionIn frame a) c.action.view_is (record {
      reads =
          subst (λ (ls : List Literal). are_literals_in frame ls ≡ true) c.as_slice.ensures
          (list_all-map (is_literal_in frame) literal_of c.as_slice.result.now ∙ sym c.are_literals_in.ensures
          ∙ c.if-not-are_literals_in.false);
      deletes =
          all_in frame _ c.atoms.result.now c.atoms.ensures.value
          (sym c.are_atoms_in.ensures ∙ c.if-not-are_atoms_in.false);
      adds = all_in frame _ c.atoms-2.result.now c.atoms-2.ensures.value (sym c.are_atoms_in-2.ensures ∙ is);
    }))

use Rattle.std.proofs.Common.{◌++◌, ◌∙◌, ap, take}
use Rattle.htn_model.specs.Problem.{Child}
use Rattle.std.proofs.Common.{List}
use Rattle.htn_ground.specs.Views.{children_of}
use Rattle.htn_net.proofs.Spliced.{parts_spliced}
use Rattle.htn_net.proofs.splice.splice.Goals as goal

pub returns : goal.returns
returns c =
    let seen = c.as_slice-all.result.now in
    parts_spliced seen c.args.nodes.now c.args.others.now c.push_all.new.list c.push_all-2.new.list c.push_all-3.new.list c.args.at c.as_slice-all.ensures
    (c.in_ok-push_all.ensures ∙ ap (λ (xs : List Child). xs ++ children_of (take c.args.at seen)) c.new-spliced.ensures)
    (c.in_ok-push_all-2.ensures ∙ ap (λ (xs : List Child). c.push_all.new.list ++ xs) c.as_slice.ensures)
    c.in_ok-push_all-3.ensures

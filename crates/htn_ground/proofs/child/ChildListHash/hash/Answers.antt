use Rattle.std.proofs.Common.{◌∙◌, List, ap}
use Rattle.std.specs.Hash.{HashWrites}
use Rattle.std.specs.List.{fold}
use Rattle.htn_model.specs.Problem.{Child}
use Rattle.htn_task.proofs.Equal.{slice-map}
use Rattle.htn_ground.specs.Hashes.{child_hash, children_hash}
use Rattle.htn_ground.specs.Views.{child_view}
use Rattle.htn_ground.proofs.child.ChildListHash.hash.Goals as goal

pub returns : goal.returns
returns g c =
    c.hash.ensures
    ∙ ap (λ (w : HashWrites). fold g.H.Hasher.write c.args.state.now w) (slice-map child_view child_hash c.self.inside.children.items)
    ∙ ap (λ (l : List Child). fold g.H.Hasher.write c.args.state.now (children_hash l)) c.self.view_is

use Rattle.std.proofs.Common.{◌≡◌, ◌∙◌, map-id, rules, sym}
use Rattle.std.specs.List.{enumerate_from}
use Rattle.std.proofs.lemmas.Iterator.Adapters.{YieldsList-from_vec}
use Rattle.std.proofs.lemmas.Iterator.Consumers.{YieldsList-end}
use Rattle.htn_model.specs.Instances as model
use Rattle.htn_ground.specs.Methods.{live_instances}
use Rattle.htn_ground.proofs.Numbered.{all_known}
use Rattle.htn_ground.proofs.methods.live_methods_of.Goals as goal

pub returns : goal.returns
returns c =
    let listed = live_instances c.args.task.now (enumerate_from 0 (model.methods_of c.args.task.now c.args.goal.now)) in
    let end = YieldsList-end (YieldsList-from_vec {s = c.into_iter-number-iterator.result} c.in_ok-live.live.items (search rules) (search rules))
    c.loop-number.yielded c.loop-number.number-iterator c.loop-number.yielded_by c.next.result c.next.new.self c.in-None.is c.next.ensures.steps in
    let whole : c.loop-number.yielded ≡ c.in_ok-live.live.items = sym (map-id c.loop-number.yielded) ∙ end.0 in
    all_known c.loop-number.found.items listed (c.loop-number.invariant ∙ whole ∙ c.in_ok-live.ensures)

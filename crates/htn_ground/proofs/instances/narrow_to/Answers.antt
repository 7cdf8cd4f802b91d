use Rattle.std.proofs.Common.{◌++◌, ◌∙◌, ◌∷◌, List, [], ap, cond, sym, ℕ}
use Rattle.htn_ground.specs.Search.{singles_of}
use Rattle.htn_ground.proofs.Allowed.{only_kept}
use Rattle.htn_ground.proofs.instances.narrow_to.Goals as goal

pub returns-then-not-is_left : goal.returns-then-not-is_left
returns-then-not-is_left c =
    let x = c.args.object in
    let one : List ℕ = x ∷ [] in
    c.new.ensures
    ∙ ap (λ b. cond b one []) c.if-not-is_left.ensures
    ∙ sym (only_kept (singles_of c.args.task.now c.args.conditions.now c.args.at) x c.requires.only c.args.objects.now c.requires.ascending)

pub returns : goal.returns
returns c =
    let x = c.args.object in
    let one : List ℕ = x ∷ [] in
    c.in_ok-push.ensures.ok
    ∙ ap (λ (l : List ℕ). l ++ one) c.new-one.ensures
    ∙ ap (λ b. cond b one []) c.if-not-is_left.ensures
    ∙ sym (only_kept (singles_of c.args.task.now c.args.conditions.now c.args.at) x c.requires.only c.args.objects.now c.requires.ascending)

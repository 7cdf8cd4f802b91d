use Rattle.std.proofs.Common.{◌≡◌, ◌∙◌, ◌^◌, None, Some, cond, nat_lt, true, false, sym, ap, arith}
use Rattle.std.proofs.lemmas.Bool.{lt-ltb, le-ltb}
use Rattle.task_graph.proofs.node_id.NodeId.at.Goals as goal

pub returns-in-Ok : goal.returns-in-Ok
returns-in-Ok c =
    let low : nat_lt c.args.place (2 ^ 32) ≡ true = lt-ltb c.args.place (2 ^ 32) (omega (arith, c.in-Ok.ensures)) in
    ap Some c.in-Ok.ensures.1 ∙ ap (λ b. cond b (Some c.args.place) None) (sym low)

pub returns-in-Err : goal.returns-in-Err
returns-in-Err c =
    let high : nat_lt c.args.place (2 ^ 32) ≡ false = le-ltb c.args.place (2 ^ 32) (omega (arith, c.in-Err.ensures)) in
    ap (λ b. cond b (Some c.args.place) None) (sym high)

use Rattle.std.proofs.Common.{◌≡◌, ◌++◌, ◌∷◌, [], length, sym, ap, ◌∙◌, arith}
use Rattle.htn_model.specs.Choice as choice
use Rattle.htn_model.specs.Problem as problem
use Rattle.htn_order.proofs.Free.{one_fails, one_passes, passing_until}
use Rattle.htn_order.proofs.order.Order.free_positions.Goals as goal
use Rattle.htn_order.proofs.order.Order.free_positions.Goals.{then-is_free_by+in_ok-push, else-is_free_by}

pub loop-position-preserved : goal.loop-position-preserved
loop-position-preserved c =
    let test = choice.is_free (length c.args.self.now) (problem.is_before c.args.self.now) in
    elim c.if-is_free_by.branch [
      | then-is_free_by+in_ok-push w ↦ ap (λ v. v.items) w.free-is ∙ w.in_ok-push.ensures.items ∙ ap (λ xs. xs ++ c.loop-position.position ∷ []) c.loop-position.invariant
          ∙ sym (one_passes test c.loop-position.position (sym c.is_free_by.ensures ∙ w.if-is_free_by.true))
      | else-is_free_by w ↦ ap (λ v. v.items) w.free-is ∙ c.loop-position.invariant ∙ sym (one_fails test c.loop-position.position (sym c.is_free_by.ensures ∙ w.if-is_free_by.false))
    ]

pub returns : goal.returns
returns c =
    let test = choice.is_free (length c.args.self.now) (problem.is_before c.args.self.now) in
    let end : c.loop-position.position ≡ c.free_end-position-end.result = (let past = c.loop-position-test.false in let near = c.loop-position.auto.position-end in omega arith) in
    c.loop-position.invariant ∙ ap (choice.passing test) end
    ∙ sym (passing_until test (length c.args.self.now) c.free_end-position-end.result c.free_end-position-end.ensures.within c.free_end-position-end.ensures.none)

use Rattle.std.proofs.Common.{true, ◌≡◌, ◌∙◌}
use Rattle.htn_ground.proofs.narrowed.mark_by.Goals as goal

pub returns-then-not-may_be_of-clause-marked : goal.returns-then-not-may_be_of-clause-marked
returns-then-not-may_be_of-clause-marked c values e =
    absurd (let yes : c.may_be_of.result ≡ true = c.may_be_of.ensures values (c.arguments-arguments.ensures ∙ e) in cc)

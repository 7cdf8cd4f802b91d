use Rattle.std.proofs.Common.{◌∙◌, ap, subst, sym, Some}
use Rattle.hddl_meaning.specs.declared.fault.Source.TheVariants as side
use Rattle.pair_messages.specs.Heads.{IsAbout}
use Rattle.diagnostics.specs.Offers.{named}
use Rattle.plan_messages.proofs.run_errors.goal_error.Goals as goal

pub returns : goal.returns
returns c =
    record {
      error = record { severity = c.error-found.ensures.error.severity; code = c.error-found.ensures.error.code };
      about = subst (IsAbout c.args.texts.now.pair (Some (record { source = side.Problem; place = c.args.literal.now.place }))) (sym c.error-found.ensures.about) c.in_problem.ensures;
      names = ap (λ m. named m.items) c.error-found.ensures.message ∙ c.in_ok-message.ensures;
    }

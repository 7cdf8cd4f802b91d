use Rattle.std.proofs.Common.{◌∙◌, inl, inr, sym, refl, codes}
use Rattle.clap.specs.Walk.{rows_of}
use Rattle.clap.specs.Matches.{found_of}
use Rattle.clap.proofs.WalkLemmas.{first_value-rows}
use Rattle.htn_command.proofs.Matches.{lacks_a_file}
use Rattle.htn_command.proofs.request.read_verify_words.Goals as goal

pub returns-in_err-domain-clause-none : goal.returns-in_err-domain-clause-none
returns-in_err-domain-clause-none c none request is =
    lacks_a_file (found_of c.args.verify.now) request _ c.in_err-domain.ensures (inl refl) is

pub returns-in_err-problem-clause-none : goal.returns-in_err-problem-clause-none
returns-in_err-problem-clause-none c none request is =
    lacks_a_file (found_of c.args.verify.now) request _ c.in_err-problem.ensures (inr (inl refl)) is

pub returns-in_err-plan-clause-none : goal.returns-in_err-plan-clause-none
returns-in_err-plan-clause-none c none request is =
    lacks_a_file (found_of c.args.verify.now) request _ c.in_err-plan.ensures (inr (inr refl)) is

pub returns-clause-some : goal.returns-clause-some
returns-clause-some c =
    let f = found_of c.args.verify.now in (
      rows_of f,
      refl,
      (
        sym (first_value-rows f (codes "DOMAIN")) ∙ sym c.in_ok-domain.ensures,
        sym (first_value-rows f (codes "PROBLEM")) ∙ sym c.in_ok-problem.ensures,
        sym (first_value-rows f (codes "PLAN")) ∙ sym c.in_ok-plan.ensures,
      ),
    )

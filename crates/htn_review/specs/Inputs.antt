-- Three texts with the names of their files.
use Rattle.check_report.specs.Told.{Named}
use Rattle.htn_review.specs.Checking.{domain_text, problem_text}
use Rattle.htn_review.specs.Explaining.{plan_text}
use Rattle.htn_review.specs.declared.inputs.Inputs.{Inputs}

-- a text of an input, with its name
abbrev pub domain_of : Inputs → Named
domain_of i = domain_text i.domain.name.now i.domain.text.now

abbrev pub problem_of : Inputs → Named
problem_of i = problem_text i.problem.name.now i.problem.text.now

abbrev pub plan_of : Inputs → Named
plan_of i = plan_text i.plan.name.now i.plan.text.now

use Rattle.plan_text.proofs.Placed.{if_file_places, if_no_file}
use Rattle.plan_text.proofs.places.line_places.Goals as goal

pub returns-clause-found : goal.returns-clause-found
returns-clause-found c = if_file_places c.args.text.now c.in-Some.lines c.in_ok-found.found c.in-Some.ensures.found c.in_ok-found.ensures.found

pub returns-clause-none : goal.returns-clause-none
returns-clause-none c = if_no_file c.args.text.now c.in-Some.lines c.in_ok-found.found c.in-Some.ensures.found c.in_ok-found.ensures.none

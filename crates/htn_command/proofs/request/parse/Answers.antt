use Rattle.htn_command.proofs.Matches.{words_are_the_reason}
use Rattle.htn_command.proofs.request.parse.Goals as goal

pub returns-in-Err-clause-refused : goal.returns-in-Err-clause-refused
returns-in-Err-clause-refused c is = c.in-Err.ensures.refused (c.of.ensures.refused is)

pub returns-in-Err-clause-mistaken : goal.returns-in-Err-clause-mistaken
returns-in-Err-clause-mistaken c is =
    (_, c.in-Err.ensures.kind (c.of.ensures.refused (words_are_the_reason c.of.result is)), c.of.ensures.mistaken is)

use Rattle.htn_review.proofs.sight.sight_of_text.Goals as goal

pub sight_of-requires : goal.sight_of-requires
sight_of-requires c = record { of_pair = c.requires; is_file = c.in_ok-file.ensures.held }

pub returns-clause-sight : goal.returns-clause-sight
returns-clause-sight c = (c.in_ok-file.file, c.in_ok-file.ensures.held, c.in_ok-sight.ensures)

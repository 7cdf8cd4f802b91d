use Rattle.htn_review.proofs.verdict.write_verdict.Goals as goal

pub returns-in-Structure : goal.returns-in-Structure
returns-in-Structure g c = rw c.in-Structure.is c.put_all.ensures

pub returns-in-GoalFails : goal.returns-in-GoalFails
returns-in-GoalFails g c = rw c.in-GoalFails.is c.put_all-in-GoalFails.ensures

pub returns-in-NoArrangement : goal.returns-in-NoArrangement
returns-in-NoArrangement g c = rw c.in-NoArrangement.is c.put_all-in-NoArrangement.ensures

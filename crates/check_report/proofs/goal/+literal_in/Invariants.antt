use Rattle.check_report.proofs.goal.+literal_in.Given as goal

abbrev pub decreases-literal_in : goal.decreases-literal_in
decreases-literal_in l = goal.size-literal_in l

use Rattle.plan_room.proofs.finder.start_at.Given as goal

abbrev pub decreases-loop-place : goal.decreases-loop-place
decreases-loop-place l = l.place

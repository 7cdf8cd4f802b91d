use Rattle.std.proofs.Common.{◌≡◌, ◌-◌, length}
use Rattle.std.specs.Cow.{cow_slice_items}
use Rattle.plan_room.specs.Frames.{IsFrame}
use Rattle.plan_room.specs.Seats.{children_of}
use Rattle.plan_room.proofs.frames.Frame.go_on.Given as goal

abbrev pub invariant-loop-self : goal.invariant-loop-self
invariant-loop-self g l = record {
  frame : IsFrame (g.L.PlanLines.lines l.lines) l.self;
  question : l.self.question ≡ l.initial.self.question;
  children : l.children ≡ children_of (g.L.PlanLines.lines l.lines) l.self.question.line;
}

abbrev pub decreases-loop-self : goal.decreases-loop-self
decreases-loop-self g l = length (cow_slice_items l.self.networks) - l.self.tried

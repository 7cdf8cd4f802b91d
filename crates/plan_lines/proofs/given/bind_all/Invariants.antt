use Rattle.std.proofs.Common.{◌≡◌, length, map, take, true}
use Rattle.htn_model.specs.Instances.{value_of}
use Rattle.htn_task.specs.Views.{terms_of}
use Rattle.plan_lines.specs.Given.{Narrows}
use Rattle.plan_lines.proofs.given.bind_all.Given as goal

abbrev pub invariant-loop-place : goal.invariant-loop-place
invariant-loop-place l = record {
  narrows : Narrows (λ values. take l.place (map (value_of values) (terms_of l.terms)) ≡ take l.place l.objects) l.initial.given.items l.given.items true;
  long : length l.given.items ≡ length l.initial.given.items;
}

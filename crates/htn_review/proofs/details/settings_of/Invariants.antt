use Rattle.std.proofs.Common.{◌≡◌, map, take}
use Rattle.std.specs.List.{enumerate_from, flat_map}
use Rattle.htn_task.specs.Views.{terms_of}
use Rattle.plan_text.specs.Forest.{lists_of}
use Rattle.htn_review.specs.Details.{seen_setting, setting_if}
use Rattle.htn_review.proofs.details.settings_of.Given as goal

abbrev pub invariant-loop-place : goal.invariant-loop-place
invariant-loop-place l =
    map seen_setting l.settings.items ≡ flat_map (setting_if l.task (terms_of l.arguments) l.values) (enumerate_from 0 (take l.place (lists_of l.names)))

use Rattle.std.proofs.Common.{◌≡◌, ◌++◌, take}
use Rattle.std.specs.List.{flat_map}
use Rattle.picture_text.specs.Text.{spaced_setting}
use Rattle.picture_text.proofs.as_text.say_more_settings.Given as goal

-- the parameters so far
abbrev pub invariant-loop-setting : goal.invariant-loop-setting
invariant-loop-setting l = l.out.items ≡ l.initial.out.items ++ flat_map spaced_setting (take l.setting-index l.settings)

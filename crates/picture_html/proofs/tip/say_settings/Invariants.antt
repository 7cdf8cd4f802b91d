use Rattle.std.proofs.Common.{◌≡◌, ◌++◌, take}
use Rattle.std.specs.List.{flat_map}
use Rattle.picture_html.specs.Tip.{setting_line}
use Rattle.picture_html.proofs.tip.say_settings.Given as goal

-- the parameters so far
abbrev pub invariant-loop-setting : goal.invariant-loop-setting
invariant-loop-setting l = l.out.items ≡ l.initial.out.items ++ flat_map setting_line (take l.setting-index l.settings)

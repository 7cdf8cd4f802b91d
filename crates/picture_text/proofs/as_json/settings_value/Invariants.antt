use Rattle.std.proofs.Common.{◌≡◌, map, take}
use Rattle.serde_json.specs.Data.{no_members}
use Rattle.serde_json.specs.View.{members_view}
use Rattle.diagnostics.specs.Json.{with_members}
use Rattle.picture_text.specs.Json.{setting_member}
use Rattle.picture_text.proofs.as_json.settings_value.Given as goal

-- those so far
abbrev pub invariant-loop-setting : goal.invariant-loop-setting
invariant-loop-setting l = members_view l.members.entries ≡ with_members no_members (map setting_member (take l.setting-index l.settings))

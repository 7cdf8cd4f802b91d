use Rattle.std.proofs.Common.{refl}
use Rattle.serde_json.specs.Written.{compact_text}
use Rattle.diagnostics.specs.Json.{report_json}
use Rattle.diagnostics.proofs.Seen.{seen_text}
use Rattle.diagnostics.proofs.laws.json_is_one_line.Goals as goal

pub returns : goal.returns
returns c ds reached = (compact_text (report_json ds reached), refl, seen_text (report_json ds reached))

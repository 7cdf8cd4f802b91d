use Rattle.std.proofs.Common.{refl}
use Rattle.serde_json.specs.Written.{compact_text}
use Rattle.diagnostics.proofs.Seen.{seen_text}
use Rattle.picture_text.specs.Json.{picture_json}
use Rattle.picture_text.proofs.laws.json_is_one_line.Goals as goal

pub returns : goal.returns
returns c caption lines details picture =
    let value = picture_json caption lines details picture in
    (compact_text value, refl, seen_text value)

use Rattle.std.proofs.Common.{refl}
use Rattle.serde_json.specs.Written.{compact_text}
use Rattle.diagnostics.specs.Verdicts.{explained_json}
use Rattle.diagnostics.proofs.Seen.{seen_text}
use Rattle.diagnostics.proofs.laws.verdict_is_one_line.Goals as goal

pub returns : goal.returns
returns c verdict ds = (compact_text (explained_json verdict ds), refl, seen_text (explained_json verdict ds))

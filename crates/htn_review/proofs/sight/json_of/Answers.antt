use Rattle.std.proofs.Common.{◌∙◌, ap}
use Rattle.std.specs.Prelude.{option_map}
use Rattle.picture_text.specs.Json.{json_bytes}
use Rattle.htn_review.proofs.sight.json_of.Goals as goal

pub lines_in-requires : goal.lines_in-requires
lines_in-requires c = (c.args.picture.now.file.now, c.requires)

pub returns : goal.returns
returns c = (
  c.in_ok-lines.lines.items,
  c.in_ok-lines.ensures c.args.picture.now.file.now c.requires,
  c.in_ok-bytes.ensures.bytes ∙ ap (λ ls. json_bytes c.args.caption.now ls (option_map (λ d. d.now) c.args.details) c.args.picture.now) c.deref.ensures.value,
)

use Rattle.std.proofs.Common.{◌≡◌, map, option_map, take}
use Rattle.std.specs.List.{flat_map}
use Rattle.plan_text.specs.Forest.{lists_of}
use Rattle.serde_json.specs.View.{view}
use Rattle.picture_text.specs.Json.{row_json}
use Rattle.plan_picture.specs.Seen.{seen}
use Rattle.picture_text.proofs.as_json.nodes_value.Given as goal

-- those so far
abbrev pub invariant-loop-row : goal.invariant-loop-row
invariant-loop-row l =
    let details = option_map (λ d. d.now) l.details in
    map view l.list.items ≡ flat_map (λ r. row_json l.lines details l.file (lists_of l.children) (seen r)) (take l.row-index l.picture.rows.items)

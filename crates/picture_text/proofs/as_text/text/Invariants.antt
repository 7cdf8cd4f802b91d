use Rattle.std.proofs.Common.{◌≡◌, ◌++◌, option_map, take}
use Rattle.std.specs.List.{flat_map}
use Rattle.plan_picture.specs.Seen.{seen}
use Rattle.picture_text.specs.Text.{row_text, width_of, title}
use Rattle.picture_text.proofs.as_text.text.Given as goal

-- the rows so far
abbrev pub invariant-loop-row : goal.invariant-loop-row
invariant-loop-row l =
    let width = width_of l.picture.file.now in
    l.out.items ≡ title width l.caption
    ++ flat_map (λ r. row_text l.glyphs width l.caption.mark (option_map (λ d. d.now) l.details) l.picture (seen r)) (take l.row-index l.picture.rows.items)

use Rattle.std.proofs.Common.{◌+◌, length}
use Rattle.std.proofs.lemmas.List.{take_all}
use Rattle.plan_text.specs.Piece.{lines, is_line_feed}
use Rattle.plan_text.proofs.Pieces.{length-pieces}
use Rattle.plan_text.proofs.cut.Lines.new.Goals as goal

pub returns : goal.returns
returns c = take_all (length c.args.text.now + 1) (lines c.args.text.now) (length-pieces is_line_feed 0 c.args.text.now)

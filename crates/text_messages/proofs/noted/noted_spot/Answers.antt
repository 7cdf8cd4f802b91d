use Rattle.std.proofs.Common.{map}
use Rattle.hddl_words.specs.Words.{word_of}
use Rattle.text_messages.proofs.noted.noted_spot.Goals as goal

pub returns-then-is_note : goal.returns-then-is_note
returns-then-is_note c = (map word_of c.args.words.now, c.args.place, c.requires, c.is_note.ensures c.if-is_note.true, c.spot_at.ensures)

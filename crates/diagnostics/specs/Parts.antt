-- The lines of a diagnostic.
use Rattle.std.specs.Prelude.{ℕ, ◌-◌, List, [], ◌∷◌, ◌++◌, length, replicate, codes}
use Rattle.std.specs.List.{flat_map}
use Rattle.std.specs.Fmt.{decimal}
use Rattle.diagnostics.specs.Places.{position}
use Rattle.diagnostics.specs.Shown.{excerpt, row, padding, carets}
use Rattle.diagnostics.specs.declared.diagnostic.Part.{Part}
use Rattle.diagnostics.specs.declared.diagnostic.Part.TheVariants.{Words, Name, Number}
use Rattle.diagnostics.specs.declared.diagnostic.Spot.{Spot}
use Rattle.diagnostics.specs.declared.diagnostic.Remark.{Remark}
use Rattle.diagnostics.specs.declared.diagnostic.RemarkKind.{RemarkKind}
use Rattle.diagnostics.specs.declared.diagnostic.RemarkKind.TheVariants as kind
use Rattle.diagnostics.specs.declared.diagnostic.Note.{Note as PlacedNote}
use Rattle.diagnostics.specs.declared.ink.Style.{Style}
use Rattle.diagnostics.specs.declared.ink.Style.TheVariants.{Rule, Note}
use Rattle.diagnostics.specs.Ink.{Ink, opened, closed, said, named, ended, styled}

-- words of the program as they are, words of a text in backticks
abbrev pub part_inks : Part → List Ink
part_inks (Words bytes) = said bytes.now
part_inks (Name bytes) = said (codes "`") ++ said bytes.now ++ said (codes "`")
part_inks (Number n) = said (decimal n)

-- a message, part after part
abbrev pub message_inks : List Part → List Ink
message_inks parts = flat_map part_inks parts

-- the file, the line and the column of a place
abbrev pub place_inks : Spot → List Ink
place_inks s =
    let p = position s.source.now.lines s.place in
    named s.source.now.name.now ++ said (codes ":") ++ said (decimal p.line) ++ said (codes ":") ++ said (decimal p.column)

-- the number of a line, at least five bytes wide
abbrev pub line_number_inks : ℕ → List Ink
line_number_inks line = said (replicate (5 - length (decimal line)) 32) ++ said (decimal line)

-- a label, if there is one, after a blank
abbrev pub label_inks : List Part → List Ink
label_inks [] = []
label_inks (part ∷ parts) = said (codes " ") ++ message_inks (part ∷ parts)

-- the line of a place as it is shown, left of it its number
abbrev pub row_inks : Spot → List Ink
row_inks s =
    opened Rule ++ line_number_inks (position s.source.now.lines s.place).line ++ said (codes " | ") ++ closed
    ++ said (row (excerpt s.source.now.lines s.place)) ++ ended

-- below it the carets, and the label beside them
abbrev pub carets_inks : Spot → Style → List Part → List Ink
carets_inks s style label =
    let e = excerpt s.source.now.lines s.place in
    styled Rule (codes "      | ") ++ said (padding e) ++ opened style ++ said (replicate (carets e s.word_len) 94) ++ label_inks label ++ closed ++ ended

-- the two
abbrev pub snippet_inks : Spot → Style → List Part → List Ink
snippet_inks s style label = row_inks s ++ carets_inks s style label

-- what a remark begins with
abbrev pub remark_word : RemarkKind → List ℕ
remark_word kind.Help = codes "help: "
remark_word kind.Note = codes "note: "

-- a remark without a place
abbrev pub remark_inks : Remark → List Ink
remark_inks r = styled Rule (codes "      = ") ++ styled Note (remark_word r.kind) ++ message_inks r.message.items ++ ended

-- a note with a place, and its line
abbrev pub note_inks : PlacedNote → List Ink
note_inks n = place_inks n.spot ++ said (codes ": ") ++ styled Note (codes "note: ") ++ message_inks n.message.items ++ ended ++ snippet_inks n.spot Note []

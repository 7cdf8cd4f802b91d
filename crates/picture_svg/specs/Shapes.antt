-- The elements of an SVG picture.
use Rattle.std.specs.Prelude.{ℕ, ◌+◌, ◌*◌, List, ◌++◌, length, codes}
use Rattle.std.specs.Fmt.{decimal}
use Rattle.picture_svg.specs.declared.layout.Area.{Area}
use Rattle.picture_svg.specs.declared.layout.Edge.{Edge}
use Rattle.picture_svg.specs.Escape.{escaped}

-- a number with its name and an opening quote before it
abbrev pub attribute : List ℕ → ℕ → List ℕ
attribute name value = name ++ (decimal value ++ codes "\"")

-- a place
abbrev pub place : ℕ → ℕ → List ℕ
place x y = attribute (codes " x=\"") x ++ attribute (codes " y=\"") y

-- a size
abbrev pub size : ℕ → ℕ → List ℕ
size width height = attribute (codes " width=\"") width ++ attribute (codes " height=\"") height

-- a rectangle of some class, whose corners are round
abbrev pub rectangle : List ℕ → Area → ℕ → List ℕ
rectangle class area radius =
    codes "<rect class=\"" ++ (class ++ (codes "\"" ++ (place area.x area.y ++ (size area.width area.height ++ (attribute (codes " rx=\"") radius ++ codes "/>\n")))))

-- words with their width, of which a byte has some units, and the end of their element
abbrev pub words_rest : ℕ → List ℕ → List ℕ
words_rest unit words =
    attribute (codes " textLength=\"") (unit * length words) ++ (codes " lengthAdjust=\"spacingAndGlyphs\">" ++ (escaped words ++ codes "</text>\n"))

-- words of some class at a place
abbrev pub words_at : List ℕ → ℕ → ℕ → ℕ → List ℕ → List ℕ
words_at class x y unit words = codes "<text class=\"" ++ (class ++ (codes "\"" ++ (place x y ++ words_rest unit words)))

-- two numbers
abbrev pub point : ℕ → ℕ → List ℕ
point x y = decimal x ++ (codes " " ++ decimal y)

-- a bend within 34 units
abbrev pub bend : Edge → List ℕ
bend e = point (e.from_x + 17) e.from_y ++ (codes " " ++ (point (e.from_x + 17) e.to_y ++ (codes " " ++ point (e.from_x + 34) e.to_y)))

-- an edge: the bend, and then straight on
abbrev pub path : Edge → List ℕ
path e = codes "<path d=\"M" ++ (point e.from_x e.from_y ++ (codes "C" ++ (bend e ++ (codes "H" ++ (decimal e.to_x ++ codes "\"/>\n")))))

-- a box with two texts, one above the other
abbrev pub two_lines : List ℕ → Area → List ℕ → List ℕ → List ℕ
two_lines class area upper lower =
    rectangle class area 6 ++ (words_at (codes "n") (area.x + 10) (area.y + 15) 7 upper ++ words_at (codes "m") (area.x + 10) (area.y + 28) 6 lower)

-- the position of an action, whose digits end at a place
abbrev pub number_at : ℕ → ℕ → ℕ → List ℕ
number_at x y number = codes "<text class=\"no\"" ++ (place x y ++ (codes ">" ++ (decimal number ++ codes "</text>\n")))

-- a box with a position, which may have some digits, and a text behind it
abbrev pub numbered : List ℕ → Area → ℕ → ℕ → List ℕ → List ℕ
numbered class area digits number words =
    let end = 7 * digits in
    rectangle class area 12 ++ (number_at (area.x + (12 + end)) (area.y + 16) number ++ words_at (codes "a") (area.x + (20 + end)) (area.y + 16) 7 words)

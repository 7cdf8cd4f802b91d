-- A picture has one page.
use Rattle.std.specs.Prelude.{◌≡◌, ℕ, List}
use Rattle.plan_picture.specs.declared.picture.Picture.{Picture}
use Rattle.plan_picture.specs.Picture.{IsPictureOf}
use Rattle.picture_text.specs.declared.caption.Caption.{Caption}
use Rattle.picture_html.specs.declared.remarks.Remarks.{Remarks}
use Rattle.picture_html.specs.Page.{IsHtmlOf}

-- Two pages of a picture with one caption and the same remarks are the same, byte by byte.
abbrev pub PagesAreOne : Type 0
PagesAreOne =
    (caption : Caption) (remarks : Remarks) (picture : Picture) (a b : List ℕ) → IsPictureOf picture.file.now picture
    → IsHtmlOf caption remarks picture a → IsHtmlOf caption remarks picture b → a ≡ b

-- A picture has one layout.
use Rattle.std.specs.Prelude.{◌≡◌, List, Option}
use Rattle.plan_picture.specs.declared.picture.Picture.{Picture}
use Rattle.plan_picture.specs.Picture.{IsPictureOf}
use Rattle.picture_text.specs.declared.caption.Caption.{Caption}
use Rattle.picture_text.specs.declared.detail.Detail.{Detail}
use Rattle.picture_svg.specs.declared.layout.Layout.{Layout}
use Rattle.picture_svg.specs.Layout.{IsLayoutOf}
use Rattle.picture_svg.specs.Svg.{svg_bytes}

-- two layouts have equal parts
pub record AreSame (a b : Layout) : Type 0 where
  pub problem : a.problem ≡ b.problem
  pub boxes : a.boxes.items ≡ b.boxes.items
  pub edges : a.edges.items ≡ b.edges.items
  pub width : a.width ≡ b.width
  pub height : a.height ≡ b.height

-- So it is with all layouts of a picture, and so are their bytes.
abbrev pub LayoutsAreOne : Type 0
LayoutsAreOne =
    (caption : Caption) (details : Option (List Detail)) (picture : Picture) (a b : Layout) → IsPictureOf picture.file.now picture → IsLayoutOf caption picture a → IsLayoutOf caption picture b
    → AreSame a b × (svg_bytes caption details picture a ≡ svg_bytes caption details picture b)

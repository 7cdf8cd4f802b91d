-- Where columns begin.
use Rattle.std.proofs.Common.{◌≡◌, ℕ, zero, suc, ◌+◌, ◌<◌, List, [], ◌∷◌, length, get_or, refl, sym, ap, ◌∙◌, arith}
use Rattle.plan_picture.specs.Rows.{Row}
use Rattle.picture_svg.specs.Columns.{starts, AreWidest, AreColumns}
use Rattle.picture_svg.specs.Grid.{column_count, widest}

many_starts : (first : ℕ) (wide : List ℕ) → length (starts first wide) ≡ length wide + 1
many_starts first [] = refl
many_starts first (w ∷ wide) = let more = many_starts (first + w + 34) wide in omega arith

first_start : (first : ℕ) (wide : List ℕ) → get_or (starts first wide) 0 0 ≡ first
first_start first [] = refl
first_start first (w ∷ wide) = refl

next_start : (first : ℕ) (wide : List ℕ) (column : ℕ) → column < length wide → get_or (starts first wide) (suc column) 0 ≡ get_or (starts first wide) column 0 + get_or wide column 0 + 34
next_start first [] column low = absurd (omega arith)
next_start first (w ∷ wide) zero low = first_start (first + w + 34) wide
next_start first (w ∷ wide) (suc column) low = next_start (first + w + 34) wide column (omega arith)

pub columns_are : (actions : ℕ) (width : ℕ → ℕ) (first : ℕ) (rows : List Row) (count : ℕ) (wide own lefts : List ℕ) → count ≡ column_count actions rows → AreWidest actions width count rows wide
    → own ≡ wide → lefts ≡ starts first own → AreColumns actions width first rows lefts
columns_are actions width first rows count wide own lefts counted are same begun =
    let is : lefts ≡ starts first wide = begun ∙ ap (starts first) same in
    let long = are.long in
    record {
      count = ap length is ∙ many_starts first wide ∙ ap (λ n. n + 1) (are.long ∙ counted);
      first_column = ap (λ l. get_or l 0 0) is ∙ first_start first wide;
      next_column = λ column low.
          let next : column + 1 ≡ suc column = omega arith in
          let box = are.widest_box column (omega arith) in
          ap (λ l. get_or l (column + 1) 0) is ∙ ap (λ k. get_or (starts first wide) k 0) next ∙ next_start first wide column (omega arith)
          ∙ ap (λ n. get_or (starts first wide) column 0 + n + 34) box ∙ sym (ap (λ l. get_or l column 0 + widest actions width column rows + 34) is);
    }

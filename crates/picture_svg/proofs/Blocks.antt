-- Each row with what is below it has places of its own, one after another.
use Rattle.std.proofs.Common.{◌≡◌, ℕ, ◌+◌, ◌*◌, ◌<◌, ◌≤◌, Bool, List, [], ◌∷◌, ◌++◌, length, get_or, Option, Some, inl, inr, refl, sym, ap, subst, arith}
use Rattle.htn_model.specs.PlanFile.{IsIn}
use Rattle.htn_model.proofs.Ascending.{in_left, in_right, in_split, in_map}
use Rattle.plan_text.proofs.Adding.{get_in}
use Rattle.plan_picture.specs.Firsts.{lines_of}
use Rattle.plan_picture.specs.Rows.{Row, siblings, with_bar, child_rows, ArePreorder, none, next}
use Rattle.plan_picture.proofs.Ahead.{sibling_lines, are_among}
use Rattle.picture_svg.specs.Grid.{own_places, place_count, middle_of, AreCentred}
use Rattle.picture_svg.proofs.Rows.{place_count-append}

-- ## Siblings

sibling_depth : (parent : Option ℕ) (depth : ℕ) (above : List Bool) (lines : List ℕ) (row : Row) → IsIn row (siblings parent depth above lines) → row.depth ≡ depth
sibling_depth parent depth above [] row i = absurd i
sibling_depth parent depth above (line ∷ lines) row (inl same) = ap (λ r. r.depth) same
sibling_depth parent depth above (line ∷ lines) row (inr i) = sibling_depth parent depth above lines row i

sibling_parent : (parent : Option ℕ) (depth : ℕ) (above : List Bool) (lines : List ℕ) (row : Row) → IsIn row (siblings parent depth above lines) → row.parent ≡ parent
sibling_parent parent depth above [] row i = absurd i
sibling_parent parent depth above (line ∷ lines) row (inl same) = ap (λ r. r.parent) same
sibling_parent parent depth above (line ∷ lines) row (inr i) = sibling_parent parent depth above lines row i

pub child_depth : (children : ℕ → List ℕ) (parent row : Row) → IsIn row (child_rows children parent) → row.depth ≡ parent.depth + 1
child_depth children parent row i = sibling_depth (Some parent.line) (parent.depth + 1) (with_bar parent.above parent.is_last) (children parent.line) row i

pub child_parent : (children : ℕ → List ℕ) (parent row : Row) → IsIn row (child_rows children parent) → row.parent ≡ Some parent.line
child_parent children parent row i = sibling_parent (Some parent.line) (parent.depth + 1) (with_bar parent.above parent.is_last) (children parent.line) row i

pub root_depth : (parent : Option ℕ) (above : List Bool) (lines : List ℕ) (row : Row) → IsIn row (siblings parent 0 above lines) → row.depth ≡ 0
root_depth parent above lines row i = sibling_depth parent 0 above lines row i

pub root_parent : (parent : Option ℕ) (depth : ℕ) (above : List Bool) (lines : List ℕ) (row : Row) → IsIn row (siblings parent depth above lines) → row.parent ≡ parent
root_parent parent depth above lines row i = sibling_parent parent depth above lines row i

-- the rows themselves are among all
pub rows_among : (children : ℕ → List ℕ) (rows all : List Row) → ArePreorder children rows all → (row : Row) → IsIn row rows → IsIn row all
rows_among children _ _ none row i = i
rows_among children _ _ (next own rows below after p r) row (inl same) = inl same
rows_among children _ _ (next own rows below after p r) row (inr i) = inr (in_right row below after (rows_among children rows after r row i))

-- A row is one of the first, or a child of another.
pub data HasParent (children : ℕ → List ℕ) (rows all : List Row) (row : Row) : Type 0 where
  first : IsIn row rows → HasParent children rows all row
  child : (parent : Row) → IsIn parent all → IsIn row (child_rows children parent) → HasParent children rows all row

parent_more : (children : ℕ → List ℕ) (rows others all more : List Row) (row : Row) → ((r : Row) → IsIn r rows → IsIn r others) → ((r : Row) → IsIn r all → IsIn r more)
    → HasParent children rows all row → HasParent children others more row
parent_more children rows others all more row of in_more (first i) = first (of row i)
parent_more children rows others all more row of in_more (child parent i j) = child parent (in_more parent i) j

pub has_parent : (children : ℕ → List ℕ) (rows all : List Row) → ArePreorder children rows all → (row : Row) → IsIn row all → HasParent children rows all row
has_parent children _ _ none row i = first i
has_parent children _ _ (next own rows below after p r) row (inl same) = first (inl same)
has_parent children _ _ (next own rows below after p r) row (inr i) =
    elim (in_split row below after i) [
      | inl b ↦ below_one (has_parent children (child_rows children own) below p row b)
      | inr a ↦ parent_more children rows (own ∷ rows) after (own ∷ (below ++ after)) row (λ x j. inr j) (λ x j. inr (in_right x below after j)) (has_parent children rows after r row a)
    ]
  where
    below_one : HasParent children (child_rows children own) below row → HasParent children (own ∷ rows) (own ∷ (below ++ after)) row
    below_one (first j) = child own (inl refl) j
    below_one (child parent j k) = child parent (inr (in_left parent below after j)) k

-- ## Places

module _ (children : ℕ → List ℕ) (middle : ℕ → ℕ) where
  -- a line lies within some places
  pub record Lies (from to : ℕ) (line : ℕ) : Type 0 where
    pub low : 31 + 38 * from ≤ middle line
    pub high : middle line + 38 ≤ 31 + 38 * to

  -- where a row is, seen from another with what is below that and the places of both
  pub data Beside (row : Row) (below : List Row) (from to : ℕ) (other : Row) : Type 0 where
    itself : other ≡ row → Beside row below from to other
    inside : IsIn other below → Beside row below from to other
    above : other.depth < row.depth → Beside row below from to other
    before : middle other.line + 38 ≤ 31 + 38 * from → Beside row below from to other
    behind : 31 + 38 * to ≤ middle other.line → Beside row below from to other

  -- a row, what is below it, and the places of both
  pub record Block (row : Row) (low high : ℕ) (all : List Row) : Type 0 where
    pub below : List Row
    pub kids : ArePreorder children (child_rows children row) below
    pub from : ℕ
    pub to : ℕ
    pub from_in : low ≤ from
    pub to_in : to ≤ high
    pub own : Lies from to row.line
    pub inner : (other : Row) → IsIn other below → Lies from to other.line
    pub deeper : (other : Row) → IsIn other below → row.depth < other.depth
    pub others : (other : Row) → IsIn other all → Beside row below from to other

  -- rows within some places
  pub record Laid (low high depth : ℕ) (all : List Row) : Type 0 where
    pub lies : (row : Row) → IsIn row all → Lies low high row.line
    pub deep : (row : Row) → IsIn row all → depth ≤ row.depth
    pub blocks : (row : Row) → IsIn row all → Block row low high all

  wider : (low high from to line : ℕ) → Lies from to line → low ≤ from → to ≤ high → Lies low high line
  wider low high from to line lies less more = let a = lies.low in let b = lies.high in record { low = omega arith; high = omega arith }

  lies_at : (low high : ℕ) (row other : Row) → other ≡ row → Lies low high row.line → Lies low high other.line
  lies_at low high row other same lies = subst (λ r. Lies low high r.line) (sym same) lies

  centred_split : (place : ℕ) (xs ys : List Row) → AreCentred children middle place (xs ++ ys) → AreCentred children middle place xs × AreCentred children middle (place + place_count children xs) ys
  centred_split place [] ys are = (tt, subst (λ n. AreCentred children middle n ys) (let e : place ≡ place + 0 = omega arith in e) are)
  centred_split place (x ∷ xs) ys are =
      let own = own_places (children x.line) in
      let rest = centred_split (place + own) xs ys are.1 in
      let e : place + own + place_count children xs ≡ place + (own + place_count children xs) = omega arith in
      ((are.0, rest.0), subst (λ n. AreCentred children middle n ys) e rest.1)

  -- the line of a row that is among these
  pub line_lies : (low high depth : ℕ) (rows : List Row) (line : ℕ) → Laid low high depth rows → IsIn line (lines_of rows) → Lies low high line
  line_lies low high depth rows line laid i = let found = in_map (λ (r : Row). r.line) line rows i in subst (Lies low high) (sym found.2) (laid.lies found.0 found.1)

  -- a line lies where its children do
  head_lies : (low depth line : ℕ) (lines : List ℕ) (below : List Row) → ((child : ℕ) → IsIn child lines → IsIn child (lines_of below)) → middle line ≡ middle_of middle low lines
      → Laid (low + own_places lines) (low + own_places lines + place_count children below) depth below → Lies low (low + own_places lines + place_count children below) line
  head_lies low depth line [] below all is laid = record { low = omega arith; high = omega arith }
  head_lies low depth line (c ∷ others) below all is laid =
      let high = low + 0 + place_count children below in
      let last = get_or (c ∷ others) (length others) 0 in
      let a = line_lies (low + 0) high depth below c laid (all c (inl refl)) in
      let b = line_lies (low + 0) high depth below last laid (all last (get_in (c ∷ others) (length others) 0 (omega arith))) in
      let al = a.low in
      let ah = a.high in
      let bl = b.low in
      let bh = b.high in
      record { low = omega arith; high = omega arith }

  module _ (row : Row) (below after : List Row) (depth low : ℕ) (at : row.depth ≡ depth) (kids : ArePreorder children (child_rows children row) below)
      (is : middle row.line ≡ middle_of middle low (children row.line)) where
    -- where the row's own places end
    abbrev mid : ℕ
    mid = low + own_places (children row.line) + place_count children below

    -- and those of all
    abbrev end : ℕ
    end = low + place_count children (row ∷ (below ++ after))

    module _ (b : Laid (low + own_places (children row.line)) mid (row.depth + 1) below) (a : Laid mid (mid + place_count children after) depth after) where
      abbrev all : List Row
      all = row ∷ (below ++ after)

      ends : mid + place_count children after ≡ end
      ends = let parts = place_count-append children below after in omega arith

      head : Lies low mid row.line
      head =
          head_lies low (row.depth + 1) row.line (children row.line) below
          (λ child i. are_among children (child_rows children row) below kids child
          (subst (IsIn child) (sym (sibling_lines (Some row.line) (row.depth + 1) (with_bar row.above row.is_last) (children row.line))) i))
          is b

      in_below : (q : Row) → IsIn q below → Lies low mid q.line
      in_below q i = wider low mid (low + own_places (children row.line)) mid q.line (b.lies q i) (omega arith) (omega arith)

      in_after : (q : Row) → IsIn q after → Lies mid end q.line
      in_after q i = let e = ends in wider mid end mid (mid + place_count children after) q.line (a.lies q i) (omega arith) (omega arith)

      all_lie : (q : Row) → IsIn q all → Lies low end q.line
      all_lie q (inl same) = let e = ends in lies_at low end row q same (wider low end low mid row.line head (omega arith) (omega arith))
      all_lie q (inr i) =
          let e = ends in
          elim (in_split q below after i) [
            | inl j ↦ wider low end low mid q.line (in_below q j) (omega arith) (omega arith)
            | inr j ↦ wider low end mid end q.line (in_after q j) (omega arith) (omega arith)
          ]

      all_deep : (q : Row) → IsIn q all → depth ≤ q.depth
      all_deep q (inl same) = let e = ap (λ (r : Row). r.depth) same in omega arith
      all_deep q (inr i) =
          elim (in_split q below after i) [
            | inl j ↦ (let d = b.deep q j in omega arith)
            | inr j ↦ a.deep q j
          ]

      own_block : Block row low end all
      own_block =
          let e = ends in
          record {
            below = below;
            kids = kids;
            from = low;
            to = mid;
            from_in = omega arith;
            to_in = omega arith;
            own = head;
            inner = in_below;
            deeper = λ q i. (let d = b.deep q i in omega arith);
            others = seen;
          }
        where
          seen : (q : Row) → IsIn q all → Beside row below low mid q
          seen q (inl same) = itself same
          seen q (inr i) =
              elim (in_split q below after i) [
                | inl j ↦ inside j
                | inr j ↦ behind ((in_after q j).low)
              ]

      below_block : (p : Row) → IsIn p below → Block p low end all
      below_block p i =
          let k = b.blocks p i in
          let e = ends in
          let f = k.from_in in
          let t = k.to_in in
          record {
            below = k.below;
            kids = k.kids;
            from = k.from;
            to = k.to;
            from_in = omega arith;
            to_in = omega arith;
            own = k.own;
            inner = k.inner;
            deeper = k.deeper;
            others = seen;
          }
        where
          seen : (q : Row) → IsIn q all → Beside p (b.blocks p i).below (b.blocks p i).from (b.blocks p i).to q
          seen q (inl same) = above (let d = b.deep p i in let s = ap (λ (r : Row). r.depth) same in omega arith)
          seen q (inr j) =
              elim (in_split q below after j) [
                | inl j ↦ (b.blocks p i).others q j
                | inr j ↦ behind (let t = (b.blocks p i).to_in in let l = (in_after q j).low in omega arith)
              ]

      after_block : (p : Row) → IsIn p after → Block p low end all
      after_block p i =
          let k = a.blocks p i in
          let e = ends in
          let f = k.from_in in
          let t = k.to_in in
          record {
            below = k.below;
            kids = k.kids;
            from = k.from;
            to = k.to;
            from_in = omega arith;
            to_in = omega arith;
            own = k.own;
            inner = k.inner;
            deeper = k.deeper;
            others = seen;
          }
        where
          seen : (q : Row) → IsIn q all → Beside p (a.blocks p i).below (a.blocks p i).from (a.blocks p i).to q
          seen q (inl same) =
              before (let f = (a.blocks p i).from_in in let h = (lies_at low mid row q same head).high in omega arith)
          seen q (inr j) =
              elim (in_split q below after j) [
                | inl j ↦ before (let f = (a.blocks p i).from_in in let h = (in_below q j).high in omega arith)
                | inr j ↦ (a.blocks p i).others q j
              ]

      all_blocks : (p : Row) → IsIn p all → Block p low end all
      all_blocks p (inl same) = subst (λ r. Block r low end all) (sym same) own_block
      all_blocks p (inr i) =
          elim (in_split p below after i) [
            | inl j ↦ below_block p j
            | inr j ↦ after_block p j
          ]

      all_laid : Laid low end depth all
      all_laid = record { lies = all_lie; deep = all_deep; blocks = all_blocks }

  -- so are all rows from the top down
  pub laid : (rows all : List Row) → ArePreorder children rows all → (depth low : ℕ) → ((row : Row) → IsIn row rows → row.depth ≡ depth) → AreCentred children middle low all
      → Laid low (low + place_count children all) depth all
  laid _ _ none depth low same are = record { lies = λ row i. absurd i; deep = λ row i. absurd i; blocks = λ row i. absurd i }
  laid _ _ (next row rows below after p r) depth low same are =
      let own = own_places (children row.line) in
      let split = centred_split (low + own) below after are.1 in
      all_laid row below after depth low (same row (inl refl)) p are.0
      (laid (child_rows children row) below p (row.depth + 1) (low + own) (λ q i. child_depth children row q i) split.0)
      (laid rows after r depth (low + own + place_count children below) (λ q i. same q (inr i)) split.1)

use Rattle.std.proofs.Common.{◌≡◌, ℕ, List, [], ◌∷◌, ◌++◌, codes, length, refl, sym, ◌∙◌, arith}
use Rattle.std.proofs.lemmas.Bool.{eqb-true, eqb-false}
use Rattle.std.proofs.lemmas.List.{append-nil}
use Rattle.picture_html.specs.Page.{tree}
use Rattle.picture_html.proofs.Chains.{ended, follows, reads}
use Rattle.picture_html.proofs.page.say_tree.Goals as goal

no_tree : (o svg : List ℕ) → length svg ≡ 0 → o ≡ o ++ tree svg
no_tree o [] none = sym (append-nil o)
no_tree o (b ∷ svg) none = absurd (omega arith)

some_tree : (svg : List ℕ) → (length svg ≡ 0 → ⊥) → codes "<h2>Tree</h2>\n<div class=\"tree\">\n" ++ (svg ++ codes "</div>\n") ≡ tree svg
some_tree [] some = absurd (some refl)
some_tree (b ∷ svg) some = refl

pub returns-then-is_empty : goal.returns-then-is_empty
returns-then-is_empty c = no_tree c.args.out.now.items c.args.tree.now (eqb-true (length c.args.tree.now) 0 (sym c.is_empty.ensures ∙ c.if-is_empty.true))

pub returns : goal.returns
returns c =
    let o = c.args.out.now.items in
    let svg = c.args.tree.now in
    let n0 = c.extend_from_slice.new.self.items in
    let n1 = c.extend_from_slice-2.new.self.items in
    let m = c.extend_from_slice-3.new.self.items in
    let r = c.extend_from_slice-3.result in
    let top = codes "<h2>Tree</h2>\n<div class=\"tree\">\n" in
    let end = codes "</div>\n" in
    reads r o m (top ++ (svg ++ end)) (tree svg) (some_tree svg (eqb-false (length svg) 0 (sym c.is_empty.ensures ∙ c.if-is_empty.false)))
    (follows r o n0 m top (svg ++ end) c.in_ok-extend_from_slice.ensures.items
    (follows r n0 n1 m svg end c.in_ok-extend_from_slice-2.ensures.items (ended r n1 m end c.extend_from_slice-3.ensures.items)))

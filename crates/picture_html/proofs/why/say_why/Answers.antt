use Rattle.std.proofs.Common.{◌≡◌, ℕ, List, [], ◌∷◌, ◌++◌, codes, length, refl, sym, ap, ◌∙◌, arith}
use Rattle.std.proofs.lemmas.Bool.{eqb-true, eqb-false}
use Rattle.std.proofs.lemmas.List.{append-nil}
use Rattle.picture_text.proofs.Writes.{adds}
use Rattle.picture_html.specs.Why.{begin, clean_lines, why}
use Rattle.picture_html.proofs.why.say_why.Goals as goal

no_lines : (verdict o lines : List ℕ) → length lines ≡ 0 → o ≡ o ++ why verdict lines
no_lines verdict o [] none = sym (append-nil o)
no_lines verdict o (b ∷ lines) none = absurd (omega arith)

some_lines : (verdict lines : List ℕ) → (length lines ≡ 0 → ⊥) → begin verdict ++ (clean_lines lines ++ codes "</pre>\n") ≡ why verdict lines
some_lines verdict [] some = absurd (some refl)
some_lines verdict (b ∷ lines) some = refl

pub returns-then-is_empty : goal.returns-then-is_empty
returns-then-is_empty c = no_lines c.args.verdict.now c.args.out.now.items c.args.lines.now (eqb-true (length c.args.lines.now) 0 (sym c.is_empty.ensures ∙ c.if-is_empty.true))

pub returns : goal.returns
returns c =
    let o = c.args.out.now.items in
    let verdict = c.args.verdict.now in
    let lines = c.args.lines.now in
    let n0 = c.extend_from_slice.new.self.items in
    let n1 = c.say_lines.new.out.items in
    let m = c.extend_from_slice-2.new.self.items in
    let end = codes "</pre>\n" in
    let first = c.in_ok-extend_from_slice.ensures.items ∙ ap (λ l. o ++ l) c.begin_of.ensures in
    adds o n0 m (begin verdict) (clean_lines lines ++ end) first (adds n0 n1 m (clean_lines lines) end c.in_ok-say_lines.ensures c.in_ok-extend_from_slice-2.ensures.items)
    ∙ ap (λ l. o ++ l) (some_lines verdict lines (eqb-false (length lines) 0 (sym c.is_empty.ensures ∙ c.if-is_empty.false)))

use Rattle.std.proofs.Common.{rules, ◌≡◌, ◌∙◌, ℕ, ◌+◌, ◌-◌, ◌^◌, Bool, List, [], ◌∷◌, ap, false, min, sym, subst, true}
use Rattle.pair_messages.specs.Counts.{numbers_of}
use Rattle.plan_report.specs.Explained.{AreLastLines, is_valid, node_counts}
use Rattle.plan_report.proofs.report.last_lines.Goals as goal

abbrev counted : ℕ → ℕ → ℕ → List ℕ
counted a t s = a ∷ t ∷ s ∷ min (min (a + t) (2 ^ 64 - 1) + s) (2 ^ 64 - 1) ∷ []

counted_same : (a a' t t' s s' : ℕ) → a ≡ a' → t ≡ t' → s ≡ s' → counted a t s ≡ counted a' t' s'
counted_same a a' t t' s s' p q r = ap (λ n. counted n t s) p ∙ ap (λ n. counted a' n s) q ∙ ap (λ n. counted a' t' n) r

pub returns-then-not-is_valid : goal.returns-then-not-is_valid
returns-then-not-is_valid c =
    let none : false ≡ is_valid c.args.verdict = sym c.if-not-is_valid.true ∙ c.is_valid.ensures in
    subst (λ (b : Bool). AreLastLines c.args.task.now c.args.file.now b c.args.left c.in_ok-lines.lines.items) none c.in_ok-lines.ensures

pub returns : goal.returns
returns c =
    let some : true ≡ is_valid c.args.verdict = sym c.if-not-is_valid.false ∙ c.is_valid.ensures in
    let e = c.counts_of-counts.ensures in
    let numbers : numbers_of c.in_ok-line.line.items ≡ node_counts c.args.task.now c.args.file.now = c.in_ok-line.ensures ∙ counted_same _ _ _ _ _ _ e.actions e.tasks e.steps in
    subst (λ (b : Bool). AreLastLines c.args.task.now c.args.file.now b c.args.left c.in_ok-lines-2.lines.items) some (c.in_ok-line.line, search rules, numbers)

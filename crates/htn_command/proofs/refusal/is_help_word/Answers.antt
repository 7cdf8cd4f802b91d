use Rattle.std.proofs.Common.{◌≡◌, ◌||◌, true, false, nat_eq, codes, sym, ap, ◌∙◌}
use Rattle.std.specs.Cmp.Lexicographic.{pointwise}
use Rattle.std.specs.List.{starts_with}
use Rattle.htn_command.proofs.refusal.is_help_word.Goals as goal

pub returns-then-eq : goal.returns-then-eq
returns-then-eq c =
    let is : true ≡ pointwise nat_eq c.args.word.now (codes "help") = sym c.if-eq.true ∙ c.eq.ensures ∙ ap (pointwise nat_eq c.args.word.now) c.as_slice.ensures in
    ap (λ is. is || starts_with nat_eq c.args.word.now (codes "--help") || starts_with nat_eq c.args.word.now (codes "-h")) is

pub returns-then-starts_with : goal.returns-then-starts_with
returns-then-starts_with c =
    let isn't : false ≡ pointwise nat_eq c.args.word.now (codes "help") = sym c.if-eq.false ∙ c.eq.ensures ∙ ap (pointwise nat_eq c.args.word.now) c.as_slice.ensures in
    let begins : true ≡ starts_with nat_eq c.args.word.now (codes "--help") = sym c.if-starts_with.true ∙ c.starts_with.ensures.value in
    c.if-starts_with.true
    ∙ ap (λ begins. begins || starts_with nat_eq c.args.word.now (codes "-h")) begins
    ∙ ap (λ is. is || starts_with nat_eq c.args.word.now (codes "--help") || starts_with nat_eq c.args.word.now (codes "-h")) isn't

pub returns-else-starts_with : goal.returns-else-starts_with
returns-else-starts_with c =
    let isn't : false ≡ pointwise nat_eq c.args.word.now (codes "help") = sym c.if-eq.false ∙ c.eq.ensures ∙ ap (pointwise nat_eq c.args.word.now) c.as_slice.ensures in
    let begins : false ≡ starts_with nat_eq c.args.word.now (codes "--help") = sym c.if-starts_with.false ∙ c.starts_with.ensures.value in
    c.starts_with-else-starts_with.ensures.value
    ∙ ap (λ begins. begins || starts_with nat_eq c.args.word.now (codes "-h")) begins
    ∙ ap (λ is. is || starts_with nat_eq c.args.word.now (codes "--help") || starts_with nat_eq c.args.word.now (codes "-h")) isn't

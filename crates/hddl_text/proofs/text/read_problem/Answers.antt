use Rattle.std.proofs.Common.{◌≡◌, length, map, sym, ap, subst, ◌∙◌}
use Rattle.hddl_words.specs.Words.{word_of}
use Rattle.hddl_text.specs.Grammar.{DerivesProblem}
use Rattle.hddl_text.specs.Spelling.{FaultAt, fault_of}
use Rattle.hddl_text.proofs.Laws.{problem_laws}
use Rattle.hddl_text.proofs.text.read_problem.Goals as goal

pub returns-in-Ok-clause-found : goal.returns-in-Ok-clause-found
returns-in-Ok-clause-found c =
    let ws = map word_of c.in_ok-tokens.tokens.items in
    let is : c.new-cursor.result ≡ ws = c.new-cursor.ensures ∙ ap (map word_of) c.as_slice.ensures.value in
    problem_laws.found c.args.text.now ws _ c.in-Ok.tree c.in_ok-tokens.ensures.nested (rw is at c.in-Ok.ensures)

pub returns-in-Ok-clause-only : goal.returns-in-Ok-clause-only
returns-in-Ok-clause-only c = λ other s.
    let ws = map word_of c.in_ok-tokens.tokens.items in
    let is : c.new-cursor.result ≡ ws = c.new-cursor.ensures ∙ ap (map word_of) c.as_slice.ensures.value in
    problem_laws.only c.args.text.now ws _ c.in-Ok.tree other c.in_ok-tokens.ensures.nested (rw is at c.in-Ok.ensures) s

pub returns-clause-refused : goal.returns-clause-refused
returns-clause-refused c = λ some tree s.
    let ws = map word_of c.in_ok-tokens.tokens.items in
    let is : c.new-cursor.result ≡ ws = c.new-cursor.ensures ∙ ap (map word_of) c.as_slice.ensures.value in
    let fault : c.fault_of.result ≡ fault_of (length c.args.text.now) ws c.in-Err.stop = c.fault_of.ensures ∙ ap (λ ts. fault_of (length c.args.text.now) (map word_of ts) c.in-Err.stop) c.as_slice-in-Err.ensures.value in
    problem_laws.refused c.args.text.now ws c.in-Err.stop tree c.in_ok-tokens.ensures.nested (λ ne. rw is at (c.in-Err.ensures ne)) (λ e. some (fault ∙ e)) s

pub returns-clause-fault : goal.returns-clause-fault
returns-clause-fault c =
    let ws = map word_of c.in_ok-tokens.tokens.items in
    let is : c.new-cursor.result ≡ ws = c.new-cursor.ensures ∙ ap (map word_of) c.as_slice.ensures.value in
    let fault : c.fault_of.result ≡ fault_of (length c.args.text.now) ws c.in-Err.stop = c.fault_of.ensures ∙ ap (λ ts. fault_of (length c.args.text.now) (map word_of ts) c.in-Err.stop) c.as_slice-in-Err.ensures.value in
    subst (FaultAt DerivesProblem c.args.text.now) (sym fault) (problem_laws.fault c.args.text.now ws c.in-Err.stop c.in_ok-tokens.ensures.nested (λ ne. rw is at (c.in-Err.ensures ne)))

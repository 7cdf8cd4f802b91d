use Rattle.std.proofs.Common.{◌≡◌, ◌≢◌, [], reverse, map, Some, None, sym, ap, ◌∙◌, arith}
use Rattle.std.proofs.lemmas.Result.{err_from_is_err_and}
use Rattle.hddl_words.specs.declared.fault.TextFault.TheVariants.{OutOfMemory, Unclosed}
use Rattle.hddl_words.specs.Words.{word_of}
use Rattle.hddl_words.specs.Brackets.{innermost, bracket_fault}
use Rattle.hddl_words.proofs.BracketLemmas.{bracket_here, bracket_end, reverse_push, empty}
use Rattle.hddl_words.proofs.BracketFaults.{bracket_fault_stands, bracket_fault_never, nests_from_brackets}
use Rattle.hddl_words.proofs.brackets.check_brackets.Goals as goal

pub returns-in_err-step : goal.returns-in_err-step
returns-in_err-step c =
    let ws = map word_of c.args.tokens.now in
    let p = err_from_is_err_and c.from_residual.result c.from_residual.ensures.1 in
    let first : c.in_err-step.field-0.0 ≢ OutOfMemory → bracket_fault [] ws ≡ Some c.in_err-step.field-0.0 =
    λ some. sym c.loop-token.invariant ∙ rw (← c.token-item.is) at (bracket_here c.args.tokens.now c.loop-token.token-index c.token-item.result (reverse c.loop-token.places.items) c.loop-token-test.true) ∙ c.in_err-step.ensures some _ in
    rw (p.1, p.2) record { ok = tt; refused = bracket_fault_never ws _ first; fault = bracket_fault_stands ws _ first; first = first }

pub loop-token-preserved : goal.loop-token-preserved
loop-token-preserved c =
    sym (rw (← c.token-item.is) at (bracket_here c.args.tokens.now c.loop-token.token-index c.token-item.result (reverse c.loop-token.places.items) c.loop-token-test.true) ∙ c.in_ok-step.ensures _) ∙ c.loop-token.invariant

pub returns-in-Some : goal.returns-in-Some
returns-in-Some c =
    let ws = map word_of c.args.tokens.now in
    let first : Unclosed c.in-Some.place ≢ OutOfMemory → bracket_fault [] ws ≡ Some (Unclosed c.in-Some.place) =
    λ some. sym c.loop-token.invariant ∙ bracket_end c.args.tokens.now c.loop-token.token-index (reverse c.loop-token.places.items) c.loop-token-test.false
    ∙ ap innermost (ap reverse c.in-Some.ensures.items ∙ reverse_push c.pop.new.self.items c.in-Some.place) in
    record { ok = tt; refused = bracket_fault_never ws _ first; fault = bracket_fault_stands ws _ first; first = first }

pub returns : goal.returns
returns c =
    let ws = map word_of c.args.tokens.now in
    let none : c.loop-token.places.items ≡ [] = empty _ (omega (arith, c.in-None.ensures.cases.0, c.loop-token.places.ok.0)) in
    let first : bracket_fault [] ws ≡ None = sym c.loop-token.invariant ∙ bracket_end c.args.tokens.now c.loop-token.token-index (reverse c.loop-token.places.items) c.loop-token-test.false ∙ ap innermost (ap reverse none) in
    record { ok = nests_from_brackets [] ws (omega arith) first; refused = tt; fault = tt; first = first }

use Rattle.std.proofs.Common.{◌∙◌, ◌||◌, ℕ, Bool, false, get_or, nat_eq, take, sym, ap, arith}
use Rattle.std.specs.List.{list_any}
use Rattle.std.proofs.lemmas.List.{take_all}
use Rattle.std.proofs.lemmas.List.Folds.{list_any_more}
use Rattle.htn_model.specs.Schema.{AtomSchema}
use Rattle.htn_task.proofs.Flags.{or_assoc, or_none}
use Rattle.htn_task.proofs.fluents.set_flags.Goals as goal

pub loop-effect-init : goal.loop-effect-init
loop-effect-init c = λ p. sym (or_none (get_or c.args.flags.now.items p false))

pub loop-effect-preserved : goal.loop-effect-preserved
loop-effect-preserved c = λ p.
    let test : AtomSchema → Bool = λ a. nat_eq a.predicate p in
    let atoms = c.args.effects.now in
    let i = c.loop-effect.effect-index in
    let atom = c.effect-item.result in
    let old = get_or c.args.flags.now.items p false in
    c.in_ok-set_flag.ensures p
    ∙ ap (λ b. b || nat_eq c.predicate.result p) (c.loop-effect.invariant p)
    ∙ ap (λ (x : ℕ). (old || list_any test (take i atoms)) || nat_eq x p) c.predicate.ensures
    ∙ or_assoc old (list_any test (take i atoms)) (test atom)
    ∙ ap (λ b. old || b) (ap (λ (a : AtomSchema). list_any test (take i atoms) || test a) c.effect-item.is ∙ sym (list_any_more test atoms i atom c.loop-effect-test.true))

pub returns : goal.returns
returns c = λ p.
    c.loop-effect.invariant p
    ∙ ap (λ (l : _). get_or c.args.flags.now.items p false || list_any (λ a. nat_eq a.predicate p) l) (take_all c.loop-effect.effect-index c.args.effects.now (omega (arith, c.loop-effect-test.false)))

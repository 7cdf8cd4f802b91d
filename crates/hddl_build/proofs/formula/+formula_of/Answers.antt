use Rattle.std.proofs.Common.{◌≡◌, ◌++◌, ◌∷◌, [], ◌∙◌, List, ℕ, ap, ap₂, cond, not, sym, subst, map, true, length, length-append, ◌+◌, rules}
use Rattle.std.proofs.lemmas.List.{take_all}
use Rattle.htn_model.specs.Schema as model
use Rattle.htn_task.specs.Formulas as task
use Rattle.htn_task.specs.Formulas.{formulas_view}
use Rattle.hddl_words.specs.declared.condition.Condition as condition
use Rattle.hddl_words.specs.declared.condition.Condition.{Condition, Forall}
use Rattle.hddl_words.specs.declared.term.VariableGroup.{VariableGroup}
use Rattle.hddl_meaning.specs.Mentions.{Text}
use Rattle.hddl_meaning.specs.Building.{formula_of, types_of, variables_of}
use Rattle.hddl_build.specs.InForce.{fits}
use Rattle.hddl_build.proofs.Formulas.{formula-Forall, part_fits, view-ForAll, view_more}
use Rattle.hddl_build.proofs.Steps.{map_step}
use Rattle.hddl_build.proofs.formula.+formula_of.Goals as goal

pub formula_of-requires : goal.formula_of-requires
formula_of-requires t c =
    let n = length c.args.scope.now in
    let groups = c.in-Forall.groups in
    let items = c.as_slice-part-items.result.now in
    let whole : fits n (Forall groups items) ≡ true =
    ap (λ (l : List Condition). fits n (Forall groups l)) c.as_slice-part-items.ensures ∙ ap (λ (x : Condition). fits n x) (sym c.in-Forall.is) ∙ c.requires.in_force in
    let within : c.push.new.self ≡ c.args.scope.now ++ variables_of groups =
    c.in_ok-push-in-Forall.ensures.ok ∙ ap (λ (l : List VariableGroup). c.args.scope.now ++ variables_of l) c.as_slice-in-Forall.ensures in
    let count : length c.loop-part.scope ≡ n + length (variables_of groups) =
    ap (λ (l : List Text). length l) (c.loop-part.invariant.kept ∙ within) ∙ length-append c.args.scope.now (variables_of groups) in
    let part : fits (n + length (variables_of groups)) c.part-item.result ≡ true =
    part_fits n groups items c.loop-part.part-index c.part-item.result whole c.loop-part-test.true c.part-item.is in
    (search (rules, condition.the_lemmas), (c.requires.numbered, ap (λ (m : ℕ). fits m c.part-item.result) count ∙ part))

pub loop-part-preserved : goal.loop-part-preserved
loop-part-preserved t c =
    let v = c.args.vocabulary.now in
    let old = c.loop-part.formulas.items in
    let formula = c.in-Ok.formula in
    let pushed : c.push-in-Ok.new.self.items ≡ old ++ formula ∷ [] =
    subst (λ b. c.push-in-Ok.new.self.items ≡ cond b (old ++ formula ∷ []) old) (c.is_err.ensures.negation ∙ ap not c.if-is_err.false) c.push-in-Ok.ensures.items in
    let value : task.formula_of formula ≡ formula_of v c.part-item.result c.push.new.self =
    c.in-Ok.ensures.value ∙ ap (λ (names : List Text). formula_of v c.part-item.result names) c.loop-part.invariant.kept in
    record {
      parts = map_step (λ (x : Condition). formula_of v x c.push.new.self) (formulas_view old) (formulas_view c.push-in-Ok.new.self.items) c.as_slice-part-items.result.now
          c.loop-part.part-index c.part-item.result c.loop-part-test.true c.part-item.is c.loop-part.invariant.parts
          (ap formulas_view pushed ∙ view_more old formula ∙ ap (λ (f : model.Formula). formulas_view old ++ f ∷ []) value);
      kept = c.in-Ok.ensures.kept ∙ c.loop-part.invariant.kept;
    }

pub returns-after-loop-part-clause-value : goal.returns-after-loop-part-clause-value
returns-after-loop-part-clause-value t c =
    let v = c.args.vocabulary.now in
    let groups = c.in-Forall.groups in
    let body = c.in-Forall.body in
    let types : c.in_ok-types-in-Forall.types.items ≡ types_of v groups = c.in_ok-types-in-Forall.ensures ∙ ap (λ (l : List VariableGroup). types_of v l) c.as_slice.ensures in
    let within : c.push.new.self ≡ c.args.scope.now ++ variables_of groups =
    c.in_ok-push-in-Forall.ensures.ok ∙ ap (λ (l : List VariableGroup). c.args.scope.now ++ variables_of l) c.as_slice-in-Forall.ensures in
    let parts : formulas_view c.loop-part.formulas.items ≡ map (λ (x : Condition). formula_of v x (c.args.scope.now ++ variables_of groups)) body =
    c.loop-part.invariant.parts
    ∙ ap₂ (λ (names : List Text) (l : List Condition). map (λ (x : Condition). formula_of v x names) l) within
    (take_all c.loop-part.part-index c.as_slice-part-items.result.now c.loop-part-test.false ∙ c.as_slice-part-items.ensures) in
    view-ForAll c.in_ok-types-in-Forall.types c.loop-part.formulas
    ∙ ap₂ (λ (ts : List ℕ) (fs : List model.Formula). model.for_all ts (model.formulas_of fs)) types parts
    ∙ sym (formula-Forall v groups body c.args.scope.now)
    ∙ sym (ap (λ (x : Condition). formula_of v x c.args.scope.now) c.in-Forall.is)

use Rattle.std.proofs.Common.{◌≡◌, ◌∙◌, ◌+◌, ◌++◌, ◌∷◌, [], Some, Bor, Global, List, Vec, ap, arith, length, map, subst, sym, ℕ}
use Rattle.std.proofs.lemmas.List.{map-append}
use Rattle.htn_model.specs.Instances.{ground_task}
use Rattle.htn_model.specs.Problem.{GroundTask}
use Rattle.htn_model.specs.Schema.{TaskSchema}
use Rattle.htn_task.specs.declared.term.TaskSchema as declared
use Rattle.plan_lines.specs.Given.{Extends}
use Rattle.plan_lines.proofs.Left.{length_push}
use Rattle.plan_lines.proofs.Searched.{Taken, if_some, kept_more, missing, taken_more}
use Rattle.plan_lines.proofs.search.settle.Goals as goal
use Rattle.plan_lines.proofs.search.settle.Goals.{in-Some+else-not-take, in-None+in_ok-push-in-None}

abbrev at : Bor declared.TaskSchema → TaskSchema
at r = r.now

pub returns-then-not-take-clause-none : goal.returns-then-not-take-clause-none
returns-then-not-take-clause-none c values h fill =
    let same : ground_task values c.schema-item.result.now ≡ c.in-Some.task =
    if_some (λ (g : GroundTask). (v : List ℕ) → Extends v c.args.given.now → ground_task v c.schema-item.result.now ≡ g) c.in_ok-task.field-0 c.in-Some.task c.in-Some.is c.in_ok-task.ensures values h in
    missing at values c.args.schemas.now c.args.children.now c.args.left.now.items c.loop-schema.left.items (map at c.loop-schema.kept.items) c.loop-schema.schema-index c.schema-item.result
    c.in-Some.task c.loop-schema-test.true c.schema-item.is same (c.loop-schema.invariant.taken values h) c.if-not-take.ensures.taken fill

pub loop-schema-preserved : goal.loop-schema-preserved
loop-schema-preserved c =
    let schemas = c.args.schemas.now in
    let tasks = c.args.children.now in
    let old = c.args.left.now.items in
    let i = c.loop-schema.schema-index in
    let s = c.schema-item.result in
    let kept = c.loop-schema.kept.items in
    let inv = c.loop-schema.invariant in
    let fits : (x : GroundTask) (values : List ℕ) → c.in_ok-task.field-0 ≡ Some x → Extends values c.args.given.now → ground_task values s.now ≡ x =
    λ x values is h. if_some (λ (g : GroundTask). (v : List ℕ) → Extends v c.args.given.now → ground_task v s.now ≡ g) c.in_ok-task.field-0 x is c.in_ok-task.ensures values h in
    elim c.match-branch-2.branch [
      | in-Some+else-not-take w ↦
          let l : c.match-branch-2.left.items ≡ w.take.new.left.items = ap (λ (v : Vec ℕ Global). v.items) w.left-is in
          let k : c.match-branch-2.kept.items ≡ kept = ap (λ (v : Vec (Bor declared.TaskSchema) Global). v.items) w.kept-is in
          record {
            long = ap (λ (xs : List ℕ). length xs) l ∙ w.if-not-take.ensures.long;
            fewer = (let e = ap (λ (xs : List (Bor declared.TaskSchema)). length xs) k in let f = inv.fewer in omega (arith, e, f));
            taken = λ values h.
                subst (λ (xs : List ℕ). Taken at values schemas tasks old xs (map at c.match-branch-2.kept.items) (i + 1)) (sym l)
                (subst (λ (ks : List (Bor declared.TaskSchema)). Taken at values schemas tasks old w.take.new.left.items (map at ks) (i + 1)) (sym k)
                (taken_more at values schemas tasks old c.loop-schema.left.items w.take.new.left.items (map at kept) i s w.in-Some.task c.loop-schema-test.true c.schema-item.is
                (fits w.in-Some.task values w.in-Some.is h) (inv.taken values h) w.if-not-take.ensures.taken));
          }
      | in-None+in_ok-push-in-None w ↦
          let l : c.match-branch-2.left.items ≡ c.loop-schema.left.items = ap (λ (v : Vec ℕ Global). v.items) w.left-is in
          let k : c.match-branch-2.kept.items ≡ kept ++ s ∷ [] = ap (λ (v : Vec (Bor declared.TaskSchema) Global). v.items) w.kept-is ∙ w.in_ok-push-in-None.ensures.items in
          record {
            long = ap (λ (xs : List ℕ). length xs) l ∙ inv.long;
            fewer = (let e = ap (λ (xs : List (Bor declared.TaskSchema)). length xs) k in let g = length_push kept s in let f = inv.fewer in omega (arith, e, f, g));
            taken = λ values h.
                subst (λ (xs : List ℕ). Taken at values schemas tasks old xs (map at c.match-branch-2.kept.items) (i + 1)) (sym l)
                (kept_more at values schemas tasks old c.loop-schema.left.items (map at kept) (map at c.match-branch-2.kept.items) i s c.loop-schema-test.true c.schema-item.is
                (ap (λ (ks : List (Bor declared.TaskSchema)). map at ks) k ∙ map-append at kept (s ∷ [])) (inv.taken values h));
          }
    ]

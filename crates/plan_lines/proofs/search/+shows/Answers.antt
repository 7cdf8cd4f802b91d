use Rattle.std.proofs.Common.{◌≡◌, ◌↔◌, ◌∙◌, ◌+◌, ◌∷◌, [], Bor, Global, IfNone, List, Option, Some, Vec, ap, arith, map, refl, slice_get, subst, sym, true, ℕ}
use Rattle.htn_model.specs.Instances.{ground_task}
use Rattle.htn_model.specs.Problem.{GroundTask, ground_task_eq}
use Rattle.htn_model.specs.Schema.{TaskSchema}
use Rattle.htn_task.specs.declared.term.TaskSchema as declared
use Rattle.plan_lines.specs.Given.{Extends}
use Rattle.plan_lines.specs.Left.{Fill, ShowsWith, left_of, once}
use Rattle.plan_lines.proofs.Exchanged.{fails_so_far}
use Rattle.plan_lines.proofs.Searched.{if_none, if_some, iff_trans, no_items, none_left, none_matched, none_shows, none_true, shows_kept, shows_matched, shows_same, some_true, turned_off}
use Rattle.plan_lines.proofs.search.+shows.Goals as goal
use Rattle.plan_lines.proofs.search.+shows.Goals.{in-Some-2+in_ok-shows+else-branch, in_default-2}

abbrev at : Bor declared.TaskSchema → TaskSchema
at r = r.now

pub returns-then-not-meets_so_far : goal.returns-then-not-meets_so_far
returns-then-not-meets_so_far t c =
    none_true (λ h. fails_so_far c.args.task.now c.args.conditions.now c.args.given.now (sym c.if-not-meets_so_far.ensures) (h.0, (h.1, h.2)))

pub returns-in-None : goal.returns-in-None
returns-in-None t c =
    let same = if_some
    (λ (k : Vec (Bor declared.TaskSchema) Global). (values : List ℕ) → Extends values c.args.given.now
    → Fill c.args.children.now c.args.left.items (map at c.args.schemas.now) values ↔ Fill c.args.children.now c.settle.new.left.items (map at k.items) values)
    c.in_ok-kept.field-0 c.in-Some.kept c.in-Some.is c.in_ok-kept.ensures.kept in
    let empty : c.in-Some.kept.items ≡ [] = sym c.deref.ensures.value ∙ no_items c.deref.result.now c.in-None.ensures.cases in
    iff_trans
    (shows_same c.args.task.now c.args.task.now c.args.conditions.now c.args.conditions.now c.args.children.now c.deref-in-None.result.now c.settle.new.left.items [] (map at c.in-Some.kept.items)
    c.args.given.now c.args.given.now c.in_ok-found-in-None.found refl refl c.deref-in-None.ensures.value (sym (ap (map at) empty)) refl c.in_ok-found-in-None.ensures)
    (shows_kept c.args.task.now c.args.conditions.now c.args.children.now c.args.given.now c.args.left.items c.settle.new.left.items (map at c.args.schemas.now) (map at c.in-Some.kept.items) same)

abbrev Next : Type 0
Next = Vec (Option ℕ) Global × Vec ℕ Global

pub returns-then-branch : goal.returns-then-branch
returns-then-branch t c =
    let task = c.args.task.now in
    let s = c.args.conditions.now in
    let tasks = c.args.children.now in
    let given = c.args.given.now in
    let new = c.settle.new.left.items in
    let first = c.in-Some-split_first.parts.0.now in
    let rest = c.in-Some-split_first.parts.1.now in
    let n = c.loop-number.number in
    let next = c.in-Some-2.next in
    let same = if_some
    (λ (k : Vec (Bor declared.TaskSchema) Global). (values : List ℕ) → Extends values given
    → Fill tasks c.args.left.items (map at c.args.schemas.now) values ↔ Fill tasks new (map at k.items) values)
    c.in_ok-kept.field-0 c.in-Some.kept c.in-Some.is c.in_ok-kept.ensures.kept in
    let parts : c.in-Some.kept.items ≡ first ∷ rest = sym c.deref.ensures.value ∙ c.in-Some-split_first.ensures.cases.0 in
    let matches = if_some
    (λ (p : Next). (values : List ℕ) → Extends values p.0.items ↔ (Extends values given × (slice_get tasks n ≡ Some (ground_task values first.now))))
    c.in_ok-next.field-0 next c.in-Some-2.is c.in_ok-next.ensures.given in
    let takes : (g x : GroundTask) → slice_get tasks n ≡ Some x → left_of tasks new g ≡ once (ground_task_eq g x) + left_of tasks next.1.items g =
    λ g x e. ap (λ (l : List ℕ). left_of tasks l g) (sym c.deref-in-loop-number.ensures.value)
    ∙ if_some
    (λ (p : Next). (h y : GroundTask) → slice_get tasks n ≡ Some y → left_of tasks c.deref-in-loop-number.result.now h ≡ once (ground_task_eq h y) + left_of tasks p.1.items h)
    c.in_ok-next.field-0 next c.in-Some-2.is c.in_ok-next.ensures.left g x e in
    let inner : ShowsWith task s tasks next.1.items (map at rest) next.0.items =
    subst (λ (g : List (Option ℕ)). ShowsWith task s tasks next.1.items (map at rest) g) c.deref-in-Some-2.ensures.value (c.in_ok-shows.ensures.0 c.if-branch.true) in
    let outer : ShowsWith task s tasks new (map at c.in-Some.kept.items) given =
    subst (λ (ks : List (Bor declared.TaskSchema)). ShowsWith task s tasks new (map at ks) given) (sym parts)
    (shows_matched task s tasks given new first.now (map at rest) n next.0.items next.1.items matches takes inner) in
    some_true ((shows_kept task s tasks given c.args.left.items new (map at c.args.schemas.now) (map at c.in-Some.kept.items) same).0 outer)

pub loop-number-preserved : goal.loop-number-preserved
loop-number-preserved t c =
    let task = c.args.task.now in
    let s = c.args.conditions.now in
    let tasks = c.args.children.now in
    let given = c.args.given.now in
    let new = c.settle.new.left.items in
    let first = c.in-Some-split_first.parts.0.now in
    let rest = c.in-Some-split_first.parts.1.now in
    let n = c.loop-number.number in
    let matches : (p : Next) → c.in_ok-next.field-0 ≡ Some p → (values : List ℕ) → Extends values p.0.items ↔ (Extends values given × (slice_get tasks n ≡ Some (ground_task values first.now))) =
    λ p is. if_some
    (λ (q : Next). (values : List ℕ) → Extends values q.0.items ↔ (Extends values given × (slice_get tasks n ≡ Some (ground_task values first.now))))
    c.in_ok-next.field-0 p is c.in_ok-next.ensures.given in
    let takes : (p : Next) → c.in_ok-next.field-0 ≡ Some p → (g x : GroundTask) → slice_get tasks n ≡ Some x → left_of tasks new g ≡ once (ground_task_eq g x) + left_of tasks p.1.items g =
    λ p is g x e. ap (λ (l : List ℕ). left_of tasks l g) (sym c.deref-in-loop-number.ensures.value)
    ∙ if_some
    (λ (q : Next). (h y : GroundTask) → slice_get tasks n ≡ Some y → left_of tasks c.deref-in-loop-number.result.now h ≡ once (ground_task_eq h y) + left_of tasks q.1.items h)
    c.in_ok-next.field-0 p is c.in_ok-next.ensures.left g x e in
    elim c.match-branch-5.branch [
      | in-Some-2+in_ok-shows+else-branch w ↦
          let next = w.in-Some-2.next in
          none_matched task s tasks given new first.now (map at rest) n next.0.items next.1.items (matches next w.in-Some-2.is) (takes next w.in-Some-2.is)
          (turned_off w.in_ok-shows.field-0 w.if-branch.false
          (subst (λ (g : List (Option ℕ)). (w.in_ok-shows.field-0 ≡ true) ↔ ShowsWith task s tasks next.1.items (map at rest) g) w.deref-in-Some-2.ensures.value w.in_ok-shows.ensures))
          c.loop-number.invariant
      | in_default-2 w ↦
          none_left task s tasks given new first.now (map at rest) n
          (if_none ((values : List ℕ) → Extends values given → slice_get tasks n ≡ Some (ground_task values first.now) → left_of tasks new (ground_task values first.now) ≡ 0) c.in_ok-next.field-0 w.in_default-2.is
          (subst
          (λ (l : List ℕ). IfNone c.in_ok-next.field-0 ((values : List ℕ) → Extends values given → slice_get tasks n ≡ Some (ground_task values first.now) → left_of tasks l (ground_task values first.now) ≡ 0))
          c.deref-in-loop-number.ensures.value c.in_ok-next.ensures.none))
          c.loop-number.invariant
    ]

pub returns : goal.returns
returns t c =
    let task = c.args.task.now in
    let s = c.args.conditions.now in
    let tasks = c.args.children.now in
    let given = c.args.given.now in
    let new = c.settle.new.left.items in
    let first = c.in-Some-split_first.parts.0.now in
    let rest = c.in-Some-split_first.parts.1.now in
    let same = if_some
    (λ (k : Vec (Bor declared.TaskSchema) Global). (values : List ℕ) → Extends values given
    → Fill tasks c.args.left.items (map at c.args.schemas.now) values ↔ Fill tasks new (map at k.items) values)
    c.in_ok-kept.field-0 c.in-Some.kept c.in-Some.is c.in_ok-kept.ensures.kept in
    let parts : c.in-Some.kept.items ≡ first ∷ rest = sym c.deref.ensures.value ∙ c.in-Some-split_first.ensures.cases.0 in
    let none : ShowsWith task s tasks new (first.now ∷ map at rest) given → ⊥ =
    none_shows task s tasks given new first.now (map at rest) c.in_ok-kept.ensures.long
    (λ values h is fill j below there. c.loop-number.invariant values h is fill j (omega (arith, below, c.loop-number-test.false, c.len-number-end.ensures)) there) in
    none_true
    (λ h.
    none
    (subst (λ (ks : List (Bor declared.TaskSchema)). ShowsWith task s tasks new (map at ks) given) parts
    ((shows_kept task s tasks given c.args.left.items new (map at c.args.schemas.now) (map at c.in-Some.kept.items) same).1 h)))

use Rattle.std.proofs.Common.{◌≡◌, ◌↔◌, ◌∙◌, ◌+◌, ◌∷◌, [], Bor, Global, IfNone, List, Option, Some, Vec, ap, arith, map, refl, slice_get, subst, sym, ℕ}
use Rattle.htn_model.specs.Instances.{ground_task}
use Rattle.htn_model.specs.Problem.{GroundTask, ground_task_eq}
use Rattle.htn_model.specs.Schema.{AtomSchema, TaskSchema}
use Rattle.htn_ground.specs.declared.object_list.ObjectList.{ObjectList}
use Rattle.htn_task.specs.declared.term.AtomSchema as atoms
use Rattle.htn_task.specs.declared.term.TaskSchema as declared
use Rattle.plan_lines.specs.Allowed.{IsInstanceWith}
use Rattle.plan_lines.specs.Found.{AreAlike, AreFound, MayFit}
use Rattle.plan_lines.specs.Given.{Extends}
use Rattle.plan_lines.specs.Left.{Fill, left_of, once}
use Rattle.plan_lines.proofs.Gathering.{Tried, found_as, found_none, tried_all, tried_more, tried_skip}
use Rattle.plan_lines.proofs.Searched.{first_left, first_there, if_none, if_some, no_items, placed}
use Rattle.plan_lines.proofs.matching.+push_matching.Goals as goal
use Rattle.plan_lines.proofs.matching.+push_matching.Goals.{then-is_used_up+in_ok-push_joined-in-None, else-is_used_up}
use Rattle.plan_lines.proofs.matching.+push_matching.Goals.{in-Some-2+in_ok-is_ruled_out, then-not-branch+in_ok-push_matching, else-not-branch, in_default-2}

abbrev at : Bor declared.TaskSchema → TaskSchema
at r = r.now

abbrev atom_at : Bor atoms.AtomSchema → AtomSchema
atom_at r = r.now

abbrev Next : Type 0
Next = Vec (Option ℕ) Global × Vec ℕ Global

pub returns-in-None : goal.returns-in-None
returns-in-None t c =
    let s = c.args.search.now in
    let given = c.args.given.now in
    let tasks = c.args.children.now in
    let new = c.settle.new.left.items in
    let Alike = AreAlike s.shown.now in
    let A : List ℕ → Type 0 = IsInstanceWith s.task.now s.conditions.now given in
    let M : List ℕ → Type 0 = MayFit s.task.now s.conditions.now s.ever.now (map atom_at s.atoms.now) given in
    let W : List ℕ → Type 0 = λ values. M values × Fill tasks c.args.left.items (map at c.args.schemas.now) values in
    let same = if_some
    (λ (k : Vec (Bor declared.TaskSchema) Global). (values : List ℕ) → Extends values given
    → Fill tasks c.args.left.items (map at c.args.schemas.now) values ↔ Fill tasks new (map at k.items) values)
    c.in_ok-kept.field-0 c.in-Some.kept c.in-Some.is c.in_ok-kept.ensures.kept in
    let empty : c.in-Some.kept.items ≡ [] = sym c.deref.ensures.value ∙ no_items c.deref.result.now c.in-None.ensures.cases in
    elim c.if-is_used_up.branch [
      | then-is_used_up+in_ok-push_joined-in-None w ↦
          subst (λ (v : Vec ObjectList Global). AreFound Alike A W c.args.found.now.items v.items) (sym w.found-is)
          (found_as Alike A W A M c.args.found.now.items w.push_joined.new.found.items w.in_ok-push_joined-in-None.ensures (λ values a. a) (λ values m. m.0))
      | else-is_used_up w ↦
          subst (λ (v : Vec ObjectList Global). AreFound Alike A W c.args.found.now.items v.items) (sym w.found-is)
          (found_none Alike A W c.args.found.now.items
          (λ values m.
          let fill : Fill tasks new [] values = subst (λ (ks : List (Bor declared.TaskSchema)). Fill tasks new (map at ks) values) empty ((same values m.0.0.0).0 m.1) in
          w.if-is_used_up.ensures (λ g. ap (λ (l : List ℕ). left_of tasks l g) c.deref-in-None.ensures.value ∙ sym (fill g))))
    ]

pub loop-number-preserved : goal.loop-number-preserved
loop-number-preserved t c =
    let s = c.args.search.now in
    let task = s.task.now in
    let conditions = s.conditions.now in
    let h = s.ever.now in
    let wanted = map atom_at s.atoms.now in
    let given = c.args.given.now in
    let tasks = c.args.children.now in
    let new = c.settle.new.left.items in
    let first = c.in-Some-split_first.parts.0.now in
    let rest = c.in-Some-split_first.parts.1.now in
    let n = c.loop-number.number in
    let old = c.args.found.now.items in
    let mid = c.loop-number.found.items in
    let Alike = AreAlike s.shown.now in
    let A : List ℕ → Type 0 = IsInstanceWith task conditions given in
    let W : List ℕ → Type 0 = λ values. MayFit task conditions h wanted given values × Fill tasks new (first.now ∷ map at rest) values in
    let At : List ℕ → ℕ → Type 0 = λ values j. slice_get tasks j ≡ Some (ground_task values first.now) in
    let matches : (p : Next) → c.in_ok-next.field-0 ≡ Some p → (values : List ℕ) → Extends values p.0.items ↔ (Extends values given × (slice_get tasks n ≡ Some (ground_task values first.now))) =
    λ p is. if_some
    (λ (q : Next). (values : List ℕ) → Extends values q.0.items ↔ (Extends values given × (slice_get tasks n ≡ Some (ground_task values first.now))))
    c.in_ok-next.field-0 p is c.in_ok-next.ensures.given in
    let takes : (p : Next) → c.in_ok-next.field-0 ≡ Some p → (g x : GroundTask) → slice_get tasks n ≡ Some x → left_of tasks new g ≡ once (ground_task_eq g x) + left_of tasks p.1.items g =
    λ p is g x e. ap (λ (l : List ℕ). left_of tasks l g) (sym c.deref-in-loop-number.ensures.value)
    ∙ if_some
    (λ (q : Next). (k y : GroundTask) → slice_get tasks n ≡ Some y → left_of tasks c.deref-in-loop-number.result.now k ≡ once (ground_task_eq k y) + left_of tasks q.1.items k)
    c.in_ok-next.field-0 p is c.in_ok-next.ensures.left g x e in
    elim c.match-branch-5.branch [
      | in-Some-2+in_ok-is_ruled_out w ↦
          let next = w.in-Some-2.next in
          let fits : (values : List ℕ) → W values → At values n → MayFit task conditions h wanted next.0.items values × Fill tasks next.1.items (map at rest) values =
          λ values m there. (
            (((matches next w.in-Some-2.is values).1 (m.0.0.0, there), m.0.0.1), m.0.1),
            (placed tasks new next.1.items first.now (map at rest) values (ground_task values first.now) refl (λ g. takes next w.in-Some-2.is g (ground_task values first.now) there)).0 m.1,
          ) in
          subst (λ (v : Vec ObjectList Global). AreFound Alike A (Tried W At (n + 1)) old v.items) (sym w.found-is)
          (elim w.if-not-branch.branch [
            | then-not-branch+in_ok-push_matching v ↦
                subst (λ (u : Vec ObjectList Global). AreFound Alike A (Tried W At (n + 1)) old u.items) (sym v.found-is)
                (tried_more Alike A W At (IsInstanceWith task conditions next.0.items) (λ values. MayFit task conditions h wanted next.0.items values × Fill tasks next.1.items (map at rest) values)
                n old mid v.push_matching.new.found.items c.loop-number.invariant
                (subst
                (λ (l : List (Option ℕ)). AreFound Alike (IsInstanceWith task conditions l) (λ values. MayFit task conditions h wanted l values × Fill tasks next.1.items (map at rest) values) mid
                v.push_matching.new.found.items)
                v.deref-then-not-branch.ensures.value v.in_ok-push_matching.ensures) (λ values i. (((matches next w.in-Some-2.is values).0 i.0).0, i.1)) fits)
            | else-not-branch v ↦
                subst (λ (u : Vec ObjectList Global). AreFound Alike A (Tried W At (n + 1)) old u.items) (sym v.found-is)
                (tried_skip Alike A W At n old mid c.loop-number.invariant
                (λ values m there.
                w.in_ok-is_ruled_out.ensures v.if-not-branch.false values
                (subst (λ (l : List (Option ℕ)). MayFit task conditions h wanted l values) (sym w.deref-in-Some-2.ensures.value) (fits values m there).0)))
          ])
      | in_default-2 w ↦
          subst (λ (v : Vec ObjectList Global). AreFound Alike A (Tried W At (n + 1)) old v.items) (sym w.found-is)
          (tried_skip Alike A W At n old mid c.loop-number.invariant
          (λ values m there.
          let none = if_none ((v : List ℕ) → Extends v given → slice_get tasks n ≡ Some (ground_task v first.now) → left_of tasks new (ground_task v first.now) ≡ 0) c.in_ok-next.field-0 w.in_default-2.is
          (subst
          (λ (l : List ℕ). IfNone c.in_ok-next.field-0 ((v : List ℕ) → Extends v given → slice_get tasks n ≡ Some (ground_task v first.now) → left_of tasks l (ground_task v first.now) ≡ 0))
          c.deref-in-loop-number.ensures.value c.in_ok-next.ensures.none) in
          let e = none values m.0.0.0 there in
          let f = first_left tasks new first.now (map at rest) values m.1 in
          absurd (omega (arith, e, f))))
    ]

pub returns : goal.returns
returns t c =
    let s = c.args.search.now in
    let given = c.args.given.now in
    let tasks = c.args.children.now in
    let new = c.settle.new.left.items in
    let first = c.in-Some-split_first.parts.0.now in
    let rest = c.in-Some-split_first.parts.1.now in
    let Alike = AreAlike s.shown.now in
    let A : List ℕ → Type 0 = IsInstanceWith s.task.now s.conditions.now given in
    let M : List ℕ → Type 0 = MayFit s.task.now s.conditions.now s.ever.now (map atom_at s.atoms.now) given in
    let V : List ℕ → Type 0 = λ values. M values × Fill tasks new (first.now ∷ map at rest) values in
    let W : List ℕ → Type 0 = λ values. M values × Fill tasks c.args.left.items (map at c.args.schemas.now) values in
    let same = if_some
    (λ (k : Vec (Bor declared.TaskSchema) Global). (values : List ℕ) → Extends values given
    → Fill tasks c.args.left.items (map at c.args.schemas.now) values ↔ Fill tasks new (map at k.items) values)
    c.in_ok-kept.field-0 c.in-Some.kept c.in-Some.is c.in_ok-kept.ensures.kept in
    let parts : c.in-Some.kept.items ≡ first ∷ rest = sym c.deref.ensures.value ∙ c.in-Some-split_first.ensures.cases.0 in
    found_as Alike A W A V c.args.found.now.items c.loop-number.found.items
    (tried_all Alike A V (λ values j. slice_get tasks j ≡ Some (ground_task values first.now)) c.loop-number.number c.args.found.now.items c.loop-number.found.items c.loop-number.invariant
    (λ values m.
    let there = first_there tasks new first.now (map at rest) values c.in_ok-kept.ensures.long m.1 in
    (there.0, omega (arith, there.1, c.loop-number-test.false, c.len-number-end.ensures), there.2)))
    (λ values a. a)
    (λ values m. (m.0, subst (λ (ks : List (Bor declared.TaskSchema)). Fill tasks new (map at ks) values) parts ((same values m.0.0.0).0 m.1)))

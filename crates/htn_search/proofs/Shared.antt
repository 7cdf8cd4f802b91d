-- A task may be shared by threads. The check finds this of its parts; of the whole it is one step more than it tries.
use denote.Param.Send.{IsSync, sendable}
use Rattle.htn_task.proofs.state.State.TheSendSync as StateShared
use Rattle.htn_task.proofs.formula.Formula.TheLaws.TheKnot as FormulaKnot
use Rattle.htn_task.proofs.name.Name.TheSendSync as NameShared
use Rattle.htn_task.proofs.schema.InitialSchema.TheSendSync as InitialShared
use Rattle.htn_task.proofs.schema.NetworkSchema.TheSendSync as NetworkShared
use Rattle.htn_task.proofs.task.Declaration.TheSendSync as DeclarationShared
use Rattle.htn_task.proofs.task.ObjectType.TheSendSync as ObjectTypeShared
use Rattle.htn_task.proofs.term.AtomSchema.TheSendSync as AtomShared
use Rattle.htn_task.proofs.term.EqualitySchema.TheSendSync as EqualityShared
use Rattle.htn_task.proofs.term.TaskSchema.TheSendSync as TaskSchemaShared
use Rattle.htn_task.proofs.term.Term.TheSendSync as TermShared
use Rattle.htn_task.proofs.term.TermList.TheSendSync as TermsShared
use Rattle.heuristics.proofs.prospects.Prospects.TheSendSync as ProspectsShared
use Rattle.heuristics.proofs.needs.Needs.TheSendSync as NeedsShared
use Rattle.heuristics.proofs.reach.RelaxedReach.TheSendSync as ReachShared
use Rattle.heuristics.proofs.tree_sizes.TreeSizes.TheSendSync as SizesShared
use Rattle.std.proofs.Crossing.{crosses}
use Rattle.std.proofs.alloc.Global.TheSendSync as GlobalShared
use Rattle.std.proofs.rt.Memory.TheSendSync as MemoryShared
use Rattle.std.proofs.vec.Vec.TheSendSync as VecShared
use Rattle.htn_task.specs.contracts.formula.Formula as Formula
use Rattle.htn_task.specs.contracts.formula.FormulaList as FormulaList
use Rattle.htn_task.specs.contracts.schema.MethodSchema as MethodSchema
use Rattle.htn_task.specs.contracts.schema.ActionSchema as ActionSchema
use Rattle.htn_task.specs.contracts.task.TaskParts as TaskParts
use Rattle.htn_task.specs.contracts.task.Task as Task

pub ruleset basic = (
  MemoryShared.the_field_send,
  MemoryShared.the_send,
  MemoryShared.the_field_sync,
  MemoryShared.the_sync,
  GlobalShared.the_field_send,
  GlobalShared.the_send,
  GlobalShared.the_field_sync,
  GlobalShared.the_sync,
  VecShared.the_sync,
  crosses,
  sendable,
)

ruleset terms = (
  TermShared.the_field_send,
  TermShared.the_send,
  TermShared.the_field_sync,
  TermShared.the_sync,
  TermsShared.the_send,
  TermsShared.the_sync,
  AtomShared.the_send,
  AtomShared.the_sync,
  EqualityShared.the_send,
  EqualityShared.the_sync,
  basic,
)

-- formulas can be shared
formula_sync : IsSync Formula.the_row
formula_sync = search (FormulaKnot.crosses, terms) depth 60 fits 20000

-- lists of formulas can be shared
formulas_sync : IsSync FormulaList.the_row
formulas_sync = search (formula_sync, basic) depth 60 fits 20000

-- methods can be shared
method_sync : IsSync MethodSchema.the_row
method_sync = search (formulas_sync, TaskSchemaShared.the_sync, NetworkShared.the_sync, NameShared.the_sync, terms) depth 60 fits 20000

-- actions can be shared
action_sync : IsSync ActionSchema.the_row
action_sync = search (formulas_sync, NameShared.the_sync, terms) depth 60 fits 20000

-- the parts of a task can be shared
parts_sync : IsSync TaskParts.the_row
parts_sync =
    search (formulas_sync, method_sync, action_sync, NameShared.the_sync, ObjectTypeShared.the_sync, DeclarationShared.the_sync, InitialShared.the_sync, StateShared.the_sync, basic)
    depth 60 fits 20000

-- so a task can be shared
pub task_sync : IsSync Task.the_row
task_sync = search (parts_sync, basic) depth 60 fits 20000

-- one fact and another
pub both : {A B : Type 0} → A → B → A × B
both a b = (a, b)

-- what the machine of a task has beside it
pub ruleset beside = (
  GlobalShared.the_field_sync,
  GlobalShared.the_sync,
  SizesShared.the_field_sync,
  SizesShared.the_sync,
  ProspectsShared.the_field_sync,
  ProspectsShared.the_sync,
  NeedsShared.the_sync,
  ReachShared.the_sync,
)

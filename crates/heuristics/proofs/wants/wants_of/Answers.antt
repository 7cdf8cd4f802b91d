use Rattle.std.proofs.Common.{List, [], refl, subst, sym, take}
use Rattle.std.proofs.lemmas.List.{take_all}
use Rattle.htn_task.specs.Literals.{literals_of}
use Rattle.htn_task.specs.declared.literal.Literal.{Literal}
use Rattle.state_table.proofs.States.{later_itself, later_more}
use Rattle.heuristics.specs.StoredNeeds.{AreWants}
use Rattle.heuristics.specs.declared.wants.Want.{Want}
use Rattle.heuristics.proofs.NotedNeeds.{wants_later, wants_push}
use Rattle.heuristics.proofs.wants.wants_of.Goals as goal

pub loop-literal-init : goal.loop-literal-init
loop-literal-init c = record {
  later = later_itself c.args.atoms.now c.len-count.ensures.table;
  wants = subst (λ (ws : List Want). AreWants c.args.needs.now c.args.atoms.now ws []) (sym c.in_ok-wants.ensures.items) (record { numbers = refl; met = λ later grown words. refl });
}

pub loop-literal-preserved : goal.loop-literal-preserved
loop-literal-preserved c =
    let i = c.loop-literal.invariant in
    let n = c.args.needs.now in
    let literals = c.args.literals.now in
    let at = c.loop-literal.literal-index in
    let more = c.in_ok-compiled.ensures.later in
    let w : Want = record { number = c.number_of-number.result; literal = c.in_ok-compiled.compiled } in
    record {
      later = later_more c.args.atoms.now c.loop-literal.atoms c.of.new.table i.later more;
      wants = wants_push n c.of.new.table c.loop-literal.wants.items c.push.new.self.items w literals at c.literal-item.result c.loop-literal-test.true c.literal-item.is
          c.in_ok-push.ensures.items c.number_of-number.ensures c.in_ok-compiled.ensures.compiled
          (wants_later n c.loop-literal.atoms c.of.new.table c.loop-literal.wants.items (literals_of (take at literals)) more i.wants);
    }

pub returns-clause-wants : goal.returns-clause-wants
returns-clause-wants c =
    let i = c.loop-literal.invariant in
    subst (λ (l : List Literal). AreWants c.args.needs.now c.loop-literal.atoms c.loop-literal.wants.items (literals_of l))
    (take_all c.loop-literal.literal-index c.args.literals.now c.loop-literal-test.false) i.wants

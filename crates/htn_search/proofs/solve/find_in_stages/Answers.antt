use Rattle.std.proofs.Common.{◌∙◌, subst, sym}
use Rattle.std.proofs.lemmas.Option.{MatchOption-at_some}
use Rattle.word_machine.specs.Answer.{IsEnding}
use Rattle.htn_walk.specs.Listed.{listing_machine}
use Rattle.htn_search.proofs.solve.find_in_stages.Goals as goal

pub loop-stage-preserved : goal.loop-stage-preserved
loop-stage-preserved g c = record {
  known = subst (IsEnding (listing_machine c.args.task.now) c.args.bounds.nodes) (MatchOption-at_some _ _ _ c.in-Some.is c.given_up.ensures.some) c.in_ok-searched.ensures.ending;
  becomes = g.met.W.Watch.joins c.args.watch.now c.loop-stage.watch c.search_stage.new.watch c.loop-stage.invariant.becomes c.in_ok-searched.ensures.becomes;
}

pub returns-in-None-clause-becomes : goal.returns-in-None-clause-becomes
returns-in-None-clause-becomes g c =
    g.met.W.Watch.joins c.args.watch.now c.loop-stage.watch c.search_stage.new.watch c.loop-stage.invariant.becomes c.in_ok-searched.ensures.becomes

pub returns-in-None-clause-stopped : goal.returns-in-None-clause-stopped
returns-in-None-clause-stopped g c n is =
    sym (g.met.W.Watch.keeps c.args.watch.now c.loop-stage.watch c.loop-stage.invariant.becomes) ∙ c.in_ok-searched.ensures.stopped n is

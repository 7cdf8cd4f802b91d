use Rattle.std.proofs.Common.{◌∙◌, ◌&&◌, length, ltb, ap, ap₂, sym}
use Rattle.std.specs.List.{list_all}
use Rattle.std.proofs.lemmas.List.{take_all}
use Rattle.std.proofs.lemmas.List.Folds.{list_all_more}
use Rattle.heuristics.specs.ListedNeeds.{all_pass, want_at}
use Rattle.heuristics.proofs.ListedNeeds.{all_push, ids_more, ids_push, more_itself, more_more, none_taken, pass_more}
use Rattle.heuristics.proofs.NotedNeeds.{some_want}
use Rattle.heuristics.proofs.want_table.WantTable.ids_of.Goals as goal

pub loop-want-init : goal.loop-want-init
loop-want-init c =
    let table = c.args.self.now.wants.items in
    record {
      more = more_itself table;
      ids = ap (list_all (λ id. ltb id (length table))) c.in_ok-ids.ensures.items;
      passes = λ test. ap (all_pass test table) c.in_ok-ids.ensures.items ∙ none_taken test c.args.wants.now;
    }

pub loop-want-preserved : goal.loop-want-preserved
loop-want-preserved c =
    let i = c.loop-want.invariant in
    let old = c.loop-want.self.wants.items in
    let new = c.id.new.self.wants.items in
    let ids = c.loop-want.ids.items in
    let more = c.in_ok-id.ensures.more in
    record {
      more = more_more c.args.self.now.wants.items old new i.more more;
      ids = ids_push new ids c.push.new.self.items c.in_ok-id.id c.in_ok-push.ensures.items c.in_ok-id.ensures.within (ids_more old new ids more i.ids);
      passes = λ test.
          all_push (λ id. test (want_at new id)) ids c.push.new.self.items c.in_ok-id.id c.in_ok-push.ensures.items
          ∙ ap₂ (λ a b. a && b) (pass_more test old new ids more i.ids ∙ i.passes test) (ap test c.in_ok-id.ensures.same)
          ∙ sym (list_all_more test c.args.wants.now c.loop-want.want-index some_want c.loop-want-test.true);
    }

pub returns-clause-wants : goal.returns-clause-wants
returns-clause-wants c = λ test.
    c.loop-want.invariant.passes test ∙ ap (list_all test) (take_all c.loop-want.want-index c.args.wants.now c.loop-want-test.false)

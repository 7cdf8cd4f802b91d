use Rattle.std.proofs.Common.{◌∙◌, ap, ap₂, subst, sym}
use Rattle.std.specs.List.{list_all}
use Rattle.state_table.specs.Compiled.{is_met}
use Rattle.heuristics.specs.ListedNeeds.{AreListed, all_pass}
use Rattle.heuristics.specs.Prospects.{outlook_by}
use Rattle.heuristics.specs.declared.wants.Want.{Want}
use Rattle.heuristics.proofs.ListedNeeds.{end_free, end_needs, listed_kept, listed_wants}
use Rattle.heuristics.proofs.needs_table.NeedsTable.needed_at_end.Goals as goal

pub returns-clause-listed : goal.returns-clause-listed
returns-clause-listed c = λ p atoms n none wanted.
    let t = c.args.self.now in
    let wants = c.ids_of.new.self.wants.items in
    let ids = c.in_ok-ids.ids.items in
    listed_kept p t.goal atoms wants n c.in_ok-needed.needed ids (end_free (outlook_by p) n none)
    (λ words. c.in_ok-needed.ensures words ∙ ap₂ (all_pass (λ (w : Want). is_met words w.literal)) c.as_slice-2.ensures.value c.as_slice-3.ensures.value)
    (subst (AreListed p.needs atoms wants ids) (sym (end_needs (outlook_by p) t.goal n none))
    (listed_wants p.needs atoms wants ids t.goals.items t.goal c.in_ok-ids.ensures.ids
    (λ test. c.in_ok-ids.ensures.wants test ∙ ap (list_all test) c.as_slice.ensures.value) wanted))

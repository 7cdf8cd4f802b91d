use Rattle.std.proofs.Common.{◌≡◌, sym, subst, All}
use Rattle.std.proofs.lemmas.Result.{on_ok_weaker}
use Rattle.indexmap.specs.IndexSet.{insert_key}
use Rattle.word_machine.specs.Dive.{IsVisited}
use Rattle.word_machine.proofs.Diving.{all_inserted}
use Rattle.word_machine.proofs.dive.keep_start.Goals as goal

pub returns : goal.returns
returns g c =
    let machine = c.args.machine.now in
    let visited = IsVisited (g.M.Machine.words machine) (g.M.Machine.belongs machine) (g.M.Machine.meaning machine c.args.tables.now) in
    let old = c.args.frontier.now.kept.keys in
    let all = all_inserted g.M.Configuration.PartialEq.eq visited old c.args.at c.requires.kept c.requires.visited in
    on_ok_weaker c.keep.result (λ (same : c.keep.new.self.kept.keys ≡ insert_key g.M.Configuration.PartialEq.eq old c.args.at). subst (All visited) (sym same) all) c.keep.ensures

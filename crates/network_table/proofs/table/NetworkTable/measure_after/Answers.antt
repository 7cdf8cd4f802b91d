use Rattle.std.proofs.Common.{◌∙◌, arith, ap, subst, sym}
use Rattle.std.proofs.lemmas.List.{get_or-drop, length-drop}
use Rattle.network_table.specs.Entries.{IsKeptWhole}
use Rattle.network_table.specs.Measures.{measure_of}
use Rattle.network_table.specs.Networks.{children}
use Rattle.network_table.specs.Numbered.{IsWithin, nothing}
use Rattle.network_table.proofs.table.NetworkTable.measure_after.Goals as goal

pub measure-requires : goal.measure-requires
measure-requires c =
    let t = c.args.self.now in
    let first = c.args.first in
    let there = get_or-drop first t.networks c.args.at nothing in
    let are = c.requires.measurable in
    record {
      placed = omega (arith, c.requires.placed, length-drop first t.networks);
      kept = subst IsKeptWhole there (are.kept c.args.at nothing c.requires.placed);
      whole = are.nodes;
      within = subst (IsWithin (children t)) there (are.within c.args.at nothing c.requires.placed);
    }

pub returns : goal.returns
returns c =
    let t = c.args.self.now in
    c.measure.ensures ∙ ap (measure_of t.children) (sym (get_or-drop c.args.first t.networks c.args.at nothing))

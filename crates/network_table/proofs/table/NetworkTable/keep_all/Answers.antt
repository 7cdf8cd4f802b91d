use Rattle.std.proofs.Common.{◌∙◌, All, ap, map, subst, sym}
use Rattle.htn_model.specs.PlanFile.{IsWithoutRepeats}
use Rattle.network_table.specs.Entries.{IsKeptWhole}
use Rattle.network_table.specs.Measures.{measure_of}
use Rattle.network_table.specs.Networks.{children}
use Rattle.network_table.specs.Numbered.{IsWithin}
use Rattle.network_table.proofs.Keeping.{left_more, more_fit, more_within, whole_kept}
use Rattle.network_table.proofs.table.NetworkTable.keep_all.Goals as goal

pub measures-requires-clause-measurable : goal.measures-requires-clause-measurable
measures-requires-clause-measurable g c κs within =
    let s = c.args.self.now in
    let grown = c.in_ok-places.ensures.grown in
    let left = left_more s.networks grown.0 c.insert_all.new.self c.len-first.result c.len-first.ensures grown.1 in
    record {
      nodes = c.requires.whole.nodes;
      kept = subst (All IsKeptWhole) (sym left) (more_fit c.args.networks.items grown.0 c.requires.alone grown.2);
      within = subst (All (IsWithin (children s))) (sym left) (more_within (children s) c.args.networks.items grown.0 c.requires.within grown.2);
    }

pub returns-clause-whole : goal.returns-clause-whole
returns-clause-whole g c =
    let s = c.args.self.now in
    let grown = c.in_ok-places.ensures.grown in
    let put = c.in_ok-put_measures.ensures in
    let left = left_more s.networks grown.0 c.insert_all.new.self c.len-first.result c.len-first.ensures grown.1 in
    let measured = c.as_slice.ensures.value ∙ c.in_ok-measures.ensures ∙ ap (map (measure_of s.children)) left in
    whole_kept s c.put_measures.new.self grown.0 c.as_slice.result.now c.requires.whole put.children (put.networks ∙ grown.1) measured put.open_lens put.bounds put.many
    (more_within (children s) c.args.networks.items grown.0 c.requires.within grown.2) (subst IsWithoutRepeats (sym put.networks) (c.in_ok-places.ensures.distinct c.requires.whole.distinct))

use Rattle.std.proofs.Common.{◌∙◌, ap, sym}
use Rattle.std.specs.List.{position}
use Rattle.hddl_meaning.specs.Names.{is_same_text}
use Rattle.hddl_names.proofs.Vectors.{position-map}
use Rattle.hddl_names.proofs.names.Names.number_of.Goals as goal

pub returns : goal.returns
returns c =
    c.get_index_of.ensures.index ∙ sym (position-map (is_same_text c.args.text.now) (λ v. v.items) c.self.inside.texts.keys) ∙ ap (λ names. position (is_same_text c.args.text.now) names) c.self.view_is

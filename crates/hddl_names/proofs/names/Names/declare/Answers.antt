use Rattle.std.proofs.Common.{◌∙◌, ap}
use Rattle.hddl_meaning.specs.Names.{with_name}
use Rattle.hddl_names.specs.Texts.{texts_of}
use Rattle.hddl_names.proofs.Vectors.{inserted_texts}
use Rattle.hddl_names.proofs.names.Names.declare.Goals as goal

pub returns-clause-ok : goal.returns-clause-ok
returns-clause-ok c =
    ap texts_of c.in_ok-insert.ensures.keys ∙ inserted_texts c.self.inside.texts.keys c.args.text ∙ ap (λ names. with_name names c.args.text.items) c.self.view_is

use Rattle.std.proofs.Common.{◌∙◌, ◌∷◌, List, ap, length, sym}
use Rattle.std.proofs.lemmas.List.{length-map}
use Rattle.std.specs.Hash as fed
use Rattle.std.specs.Hash.{HashWrites}
use Rattle.std.specs.List.{fold, flat_map}
use Rattle.htn_model.specs.Literal.{Literal}
use Rattle.htn_task.specs.Literals.{literal_hash, literal_of, literals_hash, literals_of}
use Rattle.htn_task.proofs.Equal.{slice-map}
use Rattle.htn_task.proofs.literal.LiteralListHash.hash.Goals as goal

pub returns : goal.returns
returns g c =
    c.hash.ensures
    ∙ ap (λ (w : HashWrites). fold g.H.Hasher.write c.args.state.now w) (slice-map literal_of literal_hash c.self.inside.literals.items)
    ∙ ap (λ (l : List Literal). fold g.H.Hasher.write c.args.state.now (literals_hash l)) c.self.view_is

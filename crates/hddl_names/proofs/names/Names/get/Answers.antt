use Rattle.std.proofs.Common.{◌∙◌, List, ℕ, Vec, Global, Some, ap, sym}
use Rattle.std.specs.List.{slice_get}
use Rattle.std.specs.Option.{option_map}
use Rattle.std.proofs.lemmas.Option.{slice_get-map}
use Rattle.hddl_meaning.specs.Mentions.{Text}
use Rattle.hddl_names.specs.Texts.{texts_of}
use Rattle.hddl_names.proofs.PlanNames.{named_at}
use Rattle.hddl_names.proofs.names.Names.get.Goals as goal

pub returns-in-Some-clause-name : goal.returns-in-Some-clause-name
returns-in-Some-clause-name c =
    let keys = c.self.inside.texts.keys in
    named_at (texts_of keys) c.args.number c.as_slice.result.now c.self.invariant
    (slice_get-map (λ (v : Vec ℕ Global). v.items) keys c.args.number ∙ ap (option_map (λ (v : Vec ℕ Global). v.items)) (sym c.in-Some.ensures.key)
    ∙ ap (λ (l : List ℕ). Some l) (sym c.as_slice.ensures.value))

pub returns-in-None-clause-value : goal.returns-in-None-clause-value
returns-in-None-clause-value c =
    let keys = c.self.inside.texts.keys in
    ap (option_map (λ (v : Vec ℕ Global). v.items)) c.in-None.ensures.key ∙ sym (slice_get-map (λ (v : Vec ℕ Global). v.items) keys c.args.number)
    ∙ ap (λ (names : List Text). slice_get names c.args.number) c.self.view_is

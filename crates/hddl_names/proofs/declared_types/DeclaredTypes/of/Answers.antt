use Rattle.std.proofs.Common.{◌≡◌, ◌∙◌, ap, arith, length}
use Rattle.hddl_words.specs.declared.domain.DomainText.{DomainText}
use Rattle.hddl_meaning.specs.Building.{Vocabulary}
use Rattle.hddl_meaning.specs.Names.{type_names, object_names}
use Rattle.hddl_names.proofs.Typed.{AreDeclared, declared-is, declared-below, declared-types}
use Rattle.hddl_names.proofs.declared_types.DeclaredTypes.of.Goals as goal

pub rows_of-requires : goal.rows_of-requires
rows_of-requires c =
    let d = c.args.types.now in
    let p = c.args.problem.now in
    let h : AreDeclared d p c.args.vocabulary.now c.as_slice.result.now c.as_slice-2.result.now c.in_ok-pairs.pairs.items = record {
      vocabulary = c.requires.vocabulary;
      first = c.as_slice.ensures ∙ ap (λ (d : DomainText). d.constants) c.domain-domain.ensures;
      second = c.as_slice-2.ensures;
      listed = c.in_ok-pairs.ensures;
    } in
    let objects : c.len-objects.result ≡ length (object_names d p) = c.len-objects.ensures.value ∙ ap length (c.objects.ensures ∙ ap (λ (v : Vocabulary). v.objects) c.requires.vocabulary) in
    let types : c.len-count.result ≡ length (type_names d) = c.len-count.ensures.value ∙ ap length (c.types.ensures ∙ ap (λ (v : Vocabulary). v.types) c.requires.vocabulary) in
    let max = c.max.ensures in
    declared-below d p c.in_ok-pairs.pairs.items c.deref.result.now c.max.result c.requires.typed
    (declared-is d p c.args.vocabulary.now c.as_slice.result.now c.as_slice-2.result.now c.in_ok-pairs.pairs.items h) c.deref.ensures.value
    (omega (arith, objects, types, max)) (omega (arith, objects, types, max))

pub returns : goal.returns
returns c =
    let d = c.args.types.now in
    let p = c.args.problem.now in
    let h : AreDeclared d p c.args.vocabulary.now c.as_slice.result.now c.as_slice-2.result.now c.in_ok-pairs.pairs.items = record {
      vocabulary = c.requires.vocabulary;
      first = c.as_slice.ensures ∙ ap (λ (d : DomainText). d.constants) c.domain-domain.ensures;
      second = c.as_slice-2.ensures;
      listed = c.in_ok-pairs.ensures;
    } in
    let objects : c.len-objects.result ≡ length (object_names d p) = c.len-objects.ensures.value ∙ ap length (c.objects.ensures ∙ ap (λ (v : Vocabulary). v.objects) c.requires.vocabulary) in
    let types : c.len-count.result ≡ length (type_names d) = c.len-count.ensures.value ∙ ap length (c.types.ensures ∙ ap (λ (v : Vocabulary). v.types) c.requires.vocabulary) in
    let max = c.max.ensures in
    declared-types d p c.deref.result.now c.in_ok-rows.rows c.max.result c.requires.typed
    (c.deref.ensures.value ∙ declared-is d p c.args.vocabulary.now c.as_slice.result.now c.as_slice-2.result.now c.in_ok-pairs.pairs.items h)
    c.in_ok-rows.ensures.rows c.in_ok-rows.ensures.len (omega (arith, objects, types, max))

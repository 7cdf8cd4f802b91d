use Rattle.std.proofs.Common.{◌≡◌, ◌∙◌, ap, sym, subst, ◌≤◌, arith, length, true≢false}
use Rattle.hddl_meaning.specs.Mentions.{typed_names}
use Rattle.hddl_meaning.specs.Names.{object_names}
use Rattle.hddl_uses.specs.Known.{AllTyped}
use Rattle.hddl_check.proofs.KnownTypes.{typed_both, typed_constants, typed_objects}
use Rattle.hddl_check.proofs.objects.known_objects.Goals.{then-not-constants-via-then-not-constants, then-not-constants-via-else-not-constants+then-not-objects, then-not-constants-via-else-not-constants+else-not-objects+then-len-gt-MOST_OBJECTS}
use Rattle.hddl_check.proofs.objects.known_objects.Goals as goal

pub returns-then-not-constants : goal.returns-then-not-constants
returns-then-not-constants c = λ known.
    let d = c.args.types.now in
    let p = c.args.problem.now in
    let constants : c.as_slice.result.now ≡ d.constants = c.as_slice.ensures ∙ ap (λ d. d.constants) c.domain.ensures in
    let objects : c.as_slice-2.result.now ≡ p.objects = c.as_slice-2.ensures in
    elim c.then-not-constants.branch [
      | then-not-constants-via-then-not-constants w ↦
          let all : AllTyped d (typed_names c.as_slice.result.now) = subst (λ gs. AllTyped d (typed_names gs)) (sym constants) (typed_constants d p known.typed) in
          true≢false (sym (c.in_ok-constants.ensures.1 all) ∙ w.if-not-constants.true)
      | then-not-constants-via-else-not-constants+then-not-objects w ↦
          let all : AllTyped d (typed_names c.as_slice-2.result.now) = subst (λ gs. AllTyped d (typed_names gs)) (sym objects) (typed_objects d p known.typed) in
          true≢false (sym (c.in_ok-objects.ensures.1 all) ∙ w.if-not-objects.true)
      | then-not-constants-via-else-not-constants+else-not-objects+then-len-gt-MOST_OBJECTS w ↦
          let few : length (object_names d p) ≤ 65536 = known.few in
          let long : w.len.result ≡ length (object_names d p) = w.len.ensures.value ∙ ap length (w.objects.ensures ∙ ap (λ v. v.objects) c.requires) in
          omega (arith, few, long, w.if-len-gt-MOST_OBJECTS.true)
    ]

pub of-requires-clause-typed : goal.of-requires-clause-typed
of-requires-clause-typed c =
    let d = c.args.types.now in
    let p = c.args.problem.now in
    let constants : c.as_slice.result.now ≡ d.constants = c.as_slice.ensures ∙ ap (λ d. d.constants) c.domain.ensures in
    let objects : c.as_slice-2.result.now ≡ p.objects = c.as_slice-2.ensures in
    typed_both d p
    (subst (λ gs. AllTyped d (typed_names gs)) constants (c.in_ok-constants.ensures.0 c.if-not-constants.false))
    (subst (λ gs. AllTyped d (typed_names gs)) objects (c.in_ok-objects.ensures.0 c.if-not-objects.false))

pub returns : goal.returns
returns c =
    let d = c.args.types.now in
    let p = c.args.problem.now in
    let constants : c.as_slice.result.now ≡ d.constants = c.as_slice.ensures ∙ ap (λ d. d.constants) c.domain.ensures in
    let objects : c.as_slice-2.result.now ≡ p.objects = c.as_slice-2.ensures in
    let long : c.len.result ≡ length (object_names d p) = c.len.ensures.value ∙ ap length (c.objects.ensures ∙ ap (λ v. v.objects) c.requires) in (
      record {
        typed = typed_both d p
            (subst (λ gs. AllTyped d (typed_names gs)) constants (c.in_ok-constants.ensures.0 c.if-not-constants.false))
            (subst (λ gs. AllTyped d (typed_names gs)) objects (c.in_ok-objects.ensures.0 c.if-not-objects.false));
        few = subst (λ n. n ≤ 65536) long c.if-len-gt-MOST_OBJECTS.false;
      },
      c.in_ok-all.ensures,
    )

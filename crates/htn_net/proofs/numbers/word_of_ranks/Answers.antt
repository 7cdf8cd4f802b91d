use Rattle.std.proofs.Common.{◌<◌, ◌∷◌, ◌++◌, [], sym, ap, ap₂, ◌∙◌, subst}
use Rattle.std.proofs.lemmas.Option.{slice_get_within, get_or_from_slice_get}
use Rattle.htn_model.specs.Grounding.{problem_of}
use Rattle.htn_model.specs.Instances.{initials}
use Rattle.htn_model.specs.Machine.{start}
use Rattle.htn_walk.specs.Listed.{listing_machine}
use Rattle.htn_walk.proofs.Once.{one_place}
use Rattle.htn_walk.proofs.OnceInstances.{initials_once}
use Rattle.htn_walk.specs.Told.{told, told_word}
use Rattle.htn_walk.proofs.Told.{begun_at, rank_within}
use Rattle.word_machine.specs.Machine.{IsFinishing}
use Rattle.htn_net.proofs.numbers.word_of_ranks.Goals as goal

pub swap_remove-initial-requires : goal.swap_remove-initial-requires
swap_remove-initial-requires c =
    let t = c.args.task.now in
    subst (λ n. c.in-Some.rank.now < n) (sym c.in_ok-listed.listed.ok.0)
    (rank_within t c.in-Some.rank.now c.in-Some.ranks.now c.in_ok-listed.listed.items (subst (IsFinishing (listing_machine t)) c.in-Some.ensures.cases.0 c.requires) c.in_ok-listed.ensures)

pub initial_number-requires : goal.initial_number-requires
initial_number-requires c =
    let t = c.args.task.now in
    let b = begun_at t c.in-Some.rank.now c.in-Some.ranks.now c.in_ok-listed.listed.items (subst (IsFinishing (listing_machine t)) c.in-Some.ensures.cases.0 c.requires) c.in_ok-listed.ensures
    c.swap_remove-initial.result c.swap_remove-initial.ensures.value in
    (b.number, b.among)

pub push_numbers-requires-clause-initial : goal.push_numbers-requires-clause-initial
push_numbers-requires-clause-initial c =
    let t = c.args.task.now in
    let y = c.swap_remove-initial.result in
    let b = begun_at t c.in-Some.rank.now c.in-Some.ranks.now c.in_ok-listed.listed.items (subst (IsFinishing (listing_machine t)) c.in-Some.ensures.cases.0 c.requires) c.in_ok-listed.ensures y c.swap_remove-initial.ensures.value in
    (b.number, slice_get_within (initials t) b.number y b.among, get_or_from_slice_get (initials t) b.number y y b.among)

pub push_numbers-requires-clause-finishes : goal.push_numbers-requires-clause-finishes
push_numbers-requires-clause-finishes c =
    let t = c.args.task.now in
    (begun_at t c.in-Some.rank.now c.in-Some.ranks.now c.in_ok-listed.listed.items (subst (IsFinishing (listing_machine t)) c.in-Some.ensures.cases.0 c.requires) c.in_ok-listed.ensures
    c.swap_remove-initial.result c.swap_remove-initial.ensures.value).finishes

pub returns : goal.returns
returns c =
    let t = c.args.task.now in
    let rank = c.in-Some.rank.now in
    let ranks = c.in-Some.ranks.now in
    let y = c.swap_remove-initial.result in
    let b = begun_at t rank ranks c.in_ok-listed.listed.items (subst (IsFinishing (listing_machine t)) c.in-Some.ensures.cases.0 c.requires) c.in_ok-listed.ensures y c.swap_remove-initial.ensures.value in
    let number = one_place (initials t) (initials_once t c.objects-typed.ensures.typed) c.in_ok-initial_number.field-0 b.number y c.in_ok-initial_number.ensures b.among in
    let later = told t (start (problem_of t) y.network) ranks in
    c.in_ok-push_numbers.ensures
    ∙ ap (λ w. w ++ later) (c.in_ok-push.ensures.items ∙ ap₂ (λ w n. w ++ n ∷ []) c.in_ok-word.ensures.items number)
    ∙ sym b.word
    ∙ ap (told_word t) (sym c.in-Some.ensures.cases.0)

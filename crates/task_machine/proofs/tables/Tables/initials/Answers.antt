use Rattle.std.proofs.Common.{◌≡◌, ◌∙◌, ◌<◌, ℕ, [], All, map, length, get_or, ap, sym, subst}
use Rattle.std.proofs.lemmas.Option.{slice_get_within}
use Rattle.std.proofs.lemmas.Simd.{map-map}
use Rattle.htn_model.specs.Instance.{Instance}
use Rattle.htn_model.specs.Machine.{Config}
use Rattle.htn_model.specs.Problem.{Network}
use Rattle.htn_model.specs.State.{State}
use Rattle.htn_walk.specs.Listed.{listed_initials}
use Rattle.htn_walk.proofs.Listed.{distinct_initials}
use Rattle.htn_walk.proofs.Whole.{listed_whole}
use Rattle.network_table.specs.Networks.{network_at}
use Rattle.network_table.specs.Numbered.{config_at}
use Rattle.network_table.proofs.Expanding.{map_all}
use Rattle.state_table.specs.Table.{state_of}
use Rattle.task_machine.specs.Meaning.{point}
use Rattle.task_machine.specs.declared.configuration.Configuration.{Configuration}
use Rattle.task_machine.specs.declared.tables.Tables.{Tables}
use Rattle.task_machine.proofs.Owned.{with_atoms, with_networks, with_state, words_of_number}
use Rattle.task_machine.proofs.tables.Tables.initials.Goals as goal

pub configurations_of-requires-clause-square : goal.configurations_of-requires-clause-square
configurations_of-requires-clause-square c =
    subst (All (λ (i : Instance). length i.network.order ≡ length i.network.children)) (sym (c.deref.ensures.value ∙ c.in_ok-instances.ensures ∙ sym (distinct_initials c.args.task.now)))
    (listed_whole c.args.task.now c.initial_atoms-initial.ensures.typed)

pub returns-clause-owned : goal.returns-clause-owned
returns-clause-owned c =
    let t = c.args.task.now in
    let s = c.args.self.now in
    let with : Tables = record s { atoms = c.initial_state.new.table } in
    let more : Tables = record with { states = c.keep.new.self } in
    with_networks t more c.configurations_of.new.networks c.in_ok-initials.ensures.wider
    (with_state t with c.keep.new.self c.in_ok-state.state c.in_ok-number.ensures.numbering c.in_ok-state.ensures.within c.in_ok-number.ensures.others
    (with_atoms t s c.initial_state.new.table c.in_ok-state.ensures.later c.requires.own))

pub returns-clause-known : goal.returns-clause-known
returns-clause-known c = λ k d inside.
    let states = c.keep.new.self in (
      subst (λ n. n < length states) (sym (c.in_ok-initials.ensures.states k d inside)) (slice_get_within states c.in_ok-number.number c.in_ok-state.state c.in_ok-number.ensures.number),
      c.in_ok-initials.ensures.known k d inside,
    )

pub returns-clause-points : goal.returns-clause-points
returns-clause-points c =
    let t = c.args.task.now in
    let s = c.args.self.now in
    let atoms = c.initial_state.new.table in
    let states = c.keep.new.self in
    let networks = c.configurations_of.new.networks in
    let new : Tables = record s { atoms = atoms; states = states; networks = networks } in
    let number = c.in_ok-number.number in
    let items = c.in_ok-initials.initials.items in
    let network : Configuration → Network = λ x. network_at networks x.network in
    let opened : Network → Config = config_at t.initial_atoms in
    let state : state_of atoms (get_or states number []) ≡ t.initial_atoms =
    ap (state_of atoms) (words_of_number states number c.in_ok-state.state c.in_ok-number.ensures.number) ∙ c.in_ok-state.ensures.state ∙ c.initial_atoms-initial.ensures.value in
    let each : map (point new) items ≡ map (λ (x : Configuration). opened (network x)) items =
    map_all (λ (x : Configuration). x.state ≡ number) (point new) (λ (x : Configuration). opened (network x))
    (λ x same. ap (λ n. config_at (state_of atoms (get_or states n [])) (network x)) same ∙ ap (λ (a : State). config_at a (network x)) state) items c.in_ok-initials.ensures.states in
    let instances = c.deref.ensures.value ∙ c.in_ok-instances.ensures ∙ sym (distinct_initials t) in
    each
    ∙ sym (map-map opened network items)
    ∙ ap (map opened) (c.in_ok-initials.ensures.networks ∙ ap (map (λ (i : Instance). i.network)) instances ∙ map-map (λ (i : Instance). i.network) (λ (p : ℕ × Instance). p.1) (listed_initials t))
    ∙ map-map opened (λ (p : ℕ × Instance). p.1.network) (listed_initials t)

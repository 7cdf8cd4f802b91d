use Rattle.std.proofs.Common.{◌≡◌, ◌≤◌, ◌∙◌, List, ℕ, [], ap, length, refl, subst, sym, map}
use Rattle.std.specs.List.{AllZip}
use Rattle.htn_model.specs.State.{set_of}
use Rattle.htn_model.specs.Instances.{ground_atom}
use Rattle.htn_model.specs.Task as model
use Rattle.htn_task.specs.contracts.task.TaskParts.{the_view}
use Rattle.hddl_words.specs.declared.domain.DomainText.{DomainText}
use Rattle.hddl_meaning.specs.Mentions.{Text}
use Rattle.hddl_meaning.specs.Names.{object_names, type_names}
use Rattle.hddl_meaning.specs.Building.{Vocabulary, IsMethodOf, IsNetworkOf, action_of, atom_of, compound_of, equality_of, formulas_of, predicate_of, types_of, variables_of, vocabulary_of}
use Rattle.hddl_names.specs.Members.{AreNamedMembersOf, AreTyped}
use Rattle.hddl_build.proofs.TypeObjects.{ascends, has_members, lies_within}
use Rattle.hddl_build.proofs.task.parts_of.Goals as goal

pub returns : goal.returns
returns c =
    let d = c.args.domain.now in
    let p = c.args.problem.now in
    let is = c.requires.vocabulary in
    let htn = p.htn in
    let declared = c.in_ok-declared.declared in
    let schemas = c.in_ok-schemas.schemas in
    let start = c.in_ok-start.start in
    let first = start.initial_network in
    let t = the_view (record {
      objects = declared.objects;
      types = c.in_ok-types.types;
      predicates = declared.predicates;
      tasks = declared.tasks;
      methods = schemas.methods;
      actions = schemas.actions;
      initial_network = first;
      initial_atoms = start.initial_atoms;
      goal = start.goal;
    }) in
    let named = model.named_types t in
    let objects : declared.objects.items ≡ object_names d p = c.in_ok-declared.ensures.objects ∙ ap (λ (w : Vocabulary). w.objects) is in
    let same : c.args.types.now ≡ d = c.requires.types in
    let types : map (λ (x : model.ObjectType). x.name) c.in_ok-types.types.items ≡ type_names d =
    c.in_ok-types.ensures.names ∙ ap (λ (e : DomainText). type_names e) same in
    let lists : List (List ℕ) = map (λ (x : model.ObjectType). x.objects) c.in_ok-types.types.items in
    let are : AreNamedMembersOf d p named lists = subst (λ (e : DomainText). AreNamedMembersOf e p named lists) same c.in_ok-types.ensures.objects in
    record {
      objects = objects;
      types = types;
      ascending = ascends t lists refl d p named types objects refl are;
      members = has_members t lists refl d p named types objects refl are;
      within = lies_within t lists refl d p named types objects refl are;
      predicates = c.in_ok-declared.ensures.predicates ∙ ap (λ (w : Vocabulary). map (predicate_of w) d.predicates) is;
      tasks = c.in_ok-declared.ensures.tasks ∙ ap (λ (w : Vocabulary). map (compound_of w) d.tasks) is;
      methods = subst (λ (w : Vocabulary). AllZip (IsMethodOf w) d.methods schemas.methods.items) is c.in_ok-schemas.ensures.methods;
      actions = c.in_ok-schemas.ensures.actions ∙ ap (λ (w : Vocabulary). map (action_of w) d.actions) is;
      parameters = c.in_ok-start.ensures.network.parameters ∙ ap (λ (w : Vocabulary). types_of w htn.parameters) is;
      constraints = c.in_ok-start.ensures.network.constraints ∙ ap (λ (w : Vocabulary). map (equality_of w (variables_of htn.parameters)) htn.network.constraints) is;
      network = subst (λ (w : Vocabulary). IsNetworkOf w (variables_of htn.parameters) htn.network first.network) is c.in_ok-start.ensures.network.network;
      initial_atoms = c.in_ok-start.ensures.atoms ∙ ap (λ (w : Vocabulary). set_of (map (λ a. ground_atom [] (atom_of w [] a)) p.init)) is;
      goal = c.in_ok-start.ensures.goal ∙ ap (λ (w : Vocabulary). formulas_of w [] p.goal) is;
    }

pub types_for-requires-clause-vocabulary : goal.types_for-requires-clause-vocabulary
types_for-requires-clause-vocabulary c =
    c.requires.vocabulary ∙ ap (λ (e : DomainText). vocabulary_of e c.args.problem.now) (sym c.requires.types)

pub types_for-requires-clause-few : goal.types_for-requires-clause-few
types_for-requires-clause-few c =
    let same : c.args.vocabulary.now.objects ≡ object_names c.args.types.now c.args.problem.now =
    ap (λ (w : Vocabulary). w.objects) c.requires.vocabulary ∙ ap (λ (e : DomainText). object_names e c.args.problem.now) (sym c.requires.types) in
    subst (λ (l : List Text). length l ≤ 65536) same c.requires.numbered.objects

pub types_for-requires-clause-typed : goal.types_for-requires-clause-typed
types_for-requires-clause-typed c = subst (λ (e : DomainText). AreTyped e c.args.problem.now) (sym c.requires.types) c.requires.typed

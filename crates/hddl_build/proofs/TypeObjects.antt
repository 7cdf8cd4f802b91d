-- The objects of the types of a task.
use Rattle.std.proofs.Common.{◌≡◌, ℕ, ◌<◌, ◌↔◌, Bool, true, false, List, [], map, length, get_or, Some, None, refl, sym, ap, ap₂, ◌∙◌, subst, nat_eq, nat_lt, Contains}
use Rattle.std.specs.List.{list_any, slice_get}
use Rattle.std.specs.List.Sorted.{IsStrictlySortedBy}
use Rattle.std.specs.Ordering.{nat_cmp}
use Rattle.std.specs.Option.{option_map}
use Rattle.std.specs.Cmp.{nat_eq_equiv, unsigned_Decides}
use Rattle.std.proofs.lemmas.Option.{slice_get-map, get_or_from_slice_get, slice_get_past}
use Rattle.std.proofs.lemmas.Map.Views.{Contains-from_any, list_any-from_Contains}
use borrow.Author.Tests.{ltb-true, ltb-false}
use Rattle.htn_model.specs.Task as model
use Rattle.hddl_words.specs.declared.domain.DomainText.{DomainText}
use Rattle.hddl_words.specs.declared.problem.ProblemText.{ProblemText}
use Rattle.hddl_meaning.specs.Mentions.{Text}
use Rattle.hddl_meaning.specs.Names.{type_names, object_names}
use Rattle.hddl_meaning.specs.Types.{HasType}
use Rattle.hddl_names.specs.Members.{AreNamedMembersOf}

-- a test of numbers finds what a list contains
any_of : (o : ℕ) (l : List ℕ) → (list_any (nat_eq o) l ≡ true) ↔ Contains l o
any_of o l = (Contains-from_any (λ x y e. (unsigned_Decides x y).0 e) o l, list_any-from_Contains nat_eq_equiv o l)

-- what stands at a number stands below the length
below_length : {X : Type 0} (xs : List X) (k : ℕ) (x : X) → slice_get xs k ≡ Some x → k < length xs
below_length xs k x h = by (nat_lt k (length xs)) refl
  where
    by : (b : Bool) → nat_lt k (length xs) ≡ b → k < length xs
    by true below = ltb-true k (length xs) below
    by false past = absurd (let wrong : slice_get xs k ≡ None = slice_get_past xs k (ltb-false k (length xs) past) in cc)

module _ (t : model.Task) (lists : List (List ℕ)) (same : map (λ x. x.objects) t.types ≡ lists) where
  -- the list of a type has its objects
  list_at : (k : ℕ) (type : model.ObjectType) → slice_get t.types k ≡ Some type → get_or lists k [] ≡ type.objects
  list_at k type h =
      get_or_from_slice_get lists k type.objects []
      (ap (λ l. slice_get l k) (sym same) ∙ slice_get-map (λ x. x.objects) t.types k ∙ ap (option_map (λ x. x.objects)) h)

  -- an object has a type exactly where the type's list has it
  tested : (k o : ℕ) → (model.has_type t k o ≡ true) ↔ Contains (get_or lists k []) o
  tested k o =
      let as_list : model.has_type t k o ≡ list_any (nat_eq o) (get_or lists k []) = ap (λ l. list_any (nat_eq o) (get_or l k [])) same in
      (λ has. (any_of o (get_or lists k [])).0 (sym as_list ∙ has), λ among. as_list ∙ (any_of o (get_or lists k [])).1 among)

  module _ (d : DomainText) (p : ProblemText) (named : List ℕ) (names : map (λ x. x.name) t.types ≡ type_names d) (objects : t.objects ≡ object_names d p)
      (listed : named ≡ model.named_types t) (are : AreNamedMembersOf d p named lists) where
    -- the objects of a type ascend
    pub ascends : (k : ℕ) (type : model.ObjectType) → slice_get t.types k ≡ Some type → IsStrictlySortedBy nat_cmp type.objects
    ascends k type h = subst (IsStrictlySortedBy nat_cmp) (list_at k type h) (are.ascending k)

    -- an object has a type that the task names exactly where it is declared to have it
    pub has_members : (k o : ℕ) (type : model.ObjectType) (name : Text) → slice_get t.types k ≡ Some type → slice_get t.objects o ≡ Some name
        → (model.has_type t k o ≡ true) ↔ (Contains (model.named_types t) k × HasType d p name type.name)
    has_members k o type name h j =
        let type_name : slice_get (type_names d) k ≡ Some type.name =
        ap (λ l. slice_get l k) (sym names) ∙ slice_get-map (λ x. x.name) t.types k ∙ ap (option_map (λ x. x.name)) h in
        let object : slice_get (object_names d p) o ≡ Some name = ap (λ l. slice_get l o) (sym objects) ∙ j in
        let are_members = are.members k o (below_length (type_names d) k type.name type_name) (below_length (object_names d p) o name object) in
        let words : HasType d p (get_or (object_names d p) o []) (get_or (type_names d) k []) ≡ HasType d p name type.name =
        ap₂ (λ (x y : Text). HasType d p x y) (get_or_from_slice_get (object_names d p) o name [] object) (get_or_from_slice_get (type_names d) k type.name [] type_name) in (
          λ has. let member = are_members.0 ((tested k o).0 has) in (subst (λ (l : List ℕ). Contains l k) listed member.0, subst (λ (X : Type 0). X) words member.1),
          λ (there, typed). (tested k o).1 (are_members.1 (subst (λ (l : List ℕ). Contains l k) (sym listed) there, subst (λ (X : Type 0). X) (sym words) typed)),
        )

    -- what has a type is an object
    pub lies_within : (k o : ℕ) → model.has_type t k o ≡ true → o < length t.objects
    lies_within k o has = subst (λ (l : List Text). o < length l) (sym objects) (are.within k o ((tested k o).0 has))

-- The search for the values of an instance: conditions on no parameter, on one and on two, and the completions of a
-- partial choice.
use Rattle.std.specs.Prelude.{ℕ, Bool, nat_eq, true, false, not, max, min, nat_lt, cond, ◌+◌, ◌*◌, ◌≤◌, ◌==◌, ◌&&◌, ◌||◌, ◌≡◌, List, [], ◌∷◌, ◌++◌, map, drop, length, slice_index}
use Rattle.std.specs.Bool.{beq}
use Rattle.std.specs.List.{All, enumerate_from, filter, flat_map, list_all, list_any}
use Rattle.htn_model.specs.Atom.{Atom}
use Rattle.htn_model.specs.State.{State}
use Rattle.htn_model.specs.Literal.{atom, literal_holds}
use Rattle.htn_model.specs.Schema.{Term, parameter, object, EqualitySchema}
use Rattle.htn_model.specs.Task.{Task, has_type}
use Rattle.htn_model.specs.Instances.{Conditions, assignments, value_of, is_among}
use Rattle.htn_task.specs.Views.{terms_of}
use Rattle.htn_ground.specs.declared.relation.Relation.{Relation}
use Rattle.htn_ground.specs.declared.relation.Relation.TheVariants.{Same, Different}
use Rattle.htn_ground.specs.declared.fixed.FixedLiteral.{FixedLiteral}

-- ## Relations between two parameters

-- the relation holds between the values at its two places
abbrev pub relation_holds : Relation → List ℕ → Bool
relation_holds (Same a b) values = slice_index values a == slice_index values b
relation_holds (Different a b) values = not (slice_index values a == slice_index values b)

-- the relation is an equality, and not a negated one
abbrev pub is_equality : Relation → Bool
is_equality (Same a b) = true
is_equality (Different a b) = false

-- how many parameters the relation reaches over
abbrev pub relation_depth : Relation → ℕ
relation_depth (Same a b) = max a b + 1
relation_depth (Different a b) = max a b + 1

-- all relations hold of the values
abbrev pub relations_hold : List Relation → List ℕ → Bool
relations_hold relations values = list_all (λ r. relation_holds r values) relations

-- each relation is between two of the first `parameters` parameters
abbrev pub AreRelationsOf : List Relation → ℕ → Type 0
AreRelationsOf relations parameters = All (λ r. relation_depth r ≤ parameters) relations

-- the choices of which all relations hold, in their order
abbrev pub matches : List (List ℕ) → List Relation → List (List ℕ)
matches domains relations = filter (relations_hold relations) (assignments domains)

-- ## Conditions by the number of their parameters

-- the truth of an equality that names no parameter
abbrev pub constant_of : Bool → Term → Term → Bool
constant_of positive (object x) (object y) = beq positive (x == y)
constant_of positive (object x) (parameter b) = true
constant_of positive (parameter a) y = true

-- the truth of an equality for the object at parameter j, where it names one parameter
abbrev pub single_of : Bool → Term → Term → ℕ → ℕ → Bool
single_of positive (object x) (object y) j o = true
single_of positive (object x) (parameter b) j o = not (j == b) || beq positive (o == x)
single_of positive (parameter a) (object y) j o = not (j == a) || beq positive (o == y)
single_of positive (parameter a) (parameter b) j o = true

-- the relation of an equality that names two parameters
abbrev pub relations_of : Bool → Term → Term → List Relation
relations_of positive (object x) y = []
relations_of positive (parameter a) (object y) = []
relations_of positive (parameter a) (parameter b) = cond positive (Same a b) (Different a b) ∷ []

-- the truth of a place's type condition for an object at the place
abbrev pub place_constant : Task → Term × ℕ → Bool
place_constant t (object o, type) = has_type t type o
place_constant t (parameter p, type) = true

-- the object has the type of the place, if that holds this parameter
abbrev pub place_single : Task → Term × ℕ → ℕ → ℕ → Bool
place_single t (object x, type) j o = true
place_single t (parameter p, type) j o = not (j == p) || has_type t type o

-- the equalities between objects hold, and objects have the types of their places
abbrev pub constants_hold : Task → Conditions → Bool
constants_hold t c = list_all (λ e. constant_of e.is_positive e.left e.right) c.equalities && list_all (place_constant t) c.places

-- all equalities allow the object at the parameter, as far as they name no other
abbrev pub equality_singles : List EqualitySchema → ℕ → ℕ → Bool
equality_singles equalities j o = list_all (λ e. single_of e.is_positive e.left e.right j o) equalities

-- the object has the types of all places of the parameter
abbrev pub place_singles : Task → List (Term × ℕ) → ℕ → ℕ → Bool
place_singles t places j o = list_all (λ p. place_single t p j o) places

-- the truth of the conditions on one parameter for the object at parameter j
abbrev pub singles_of : Task → Conditions → ℕ → ℕ → Bool
singles_of t c j o = equality_singles c.equalities j o && place_singles t c.places j o

-- the conditions on two parameters
abbrev pub all_relations : List EqualitySchema → List Relation
all_relations equalities = flat_map (λ e. relations_of e.is_positive e.left e.right) equalities

-- the relations of the conditions' equalities
abbrev pub all_relations_of : Conditions → List Relation
all_relations_of c = all_relations c.equalities

-- all terms are objects or among the parameters
abbrev pub AreAmong : ℕ → EqualitySchema → Type 0
AreAmong count e = (is_among count e.left ≡ true) × (is_among count e.right ≡ true)

-- the terms of the conditions are objects and their own parameters
pub record AreBound (c : Conditions) : Type 0 where
  pub equalities : All (AreAmong (length c.parameters)) c.equalities
  pub places : All (λ p. is_among (length c.parameters) p.0 ≡ true) c.places

-- whether each value passes the test of its parameter, from parameter j on
abbrev pub each_passes : (ℕ → ℕ → Bool) → ℕ → List ℕ → Bool
each_passes test j [] = true
each_passes test j (o ∷ values) = test j o && each_passes test (j + 1) values

-- the lists of the objects that pass the tests of their parameters, from parameter j on
abbrev pub narrowed : (ℕ → ℕ → Bool) → ℕ → List (List ℕ) → List (List ℕ)
narrowed test j [] = []
narrowed test j (objects ∷ domains) = filter (test j) objects ∷ narrowed test (j + 1) domains

-- ## Completions

-- whether the relations hold that are between parameters with values
abbrev pub bound_relations_hold : List Relation → List ℕ → Bool
bound_relations_hold relations values = list_all (λ r. nat_lt (length values) (relation_depth r) || relation_holds r values) relations

-- the choices that begin with these values and of which all relations hold
abbrev pub completions : List (List ℕ) → List Relation → List ℕ → List (List ℕ)
completions domains relations values = filter (relations_hold relations) (map (λ rest. values ++ rest) (assignments (drop (length values) domains)))

-- the first parameter of a relation
abbrev pub relation_start : Relation → ℕ
relation_start (Same a b) = min a b
relation_start (Different a b) = min a b

-- whether some relation has its first parameter at this place
abbrev pub some_starts_at : List Relation → ℕ → Bool
some_starts_at relations place = list_any (λ r. nat_eq (relation_start r) place) relations

-- a parameter: the object that it stands for, if it has a value
abbrev pub term_after : List ℕ → ℕ → Term
term_after values p = cond (nat_lt p (length values)) (object (slice_index values p)) (parameter p)

-- the truth of a relation for the object at parameter j, where its other parameter has a value
abbrev pub relation_single : List ℕ → Relation → ℕ → ℕ → Bool
relation_single values (Same a b) = single_of true (term_after values a) (term_after values b)
relation_single values (Different a b) = single_of false (term_after values a) (term_after values b)

-- all relations whose other parameter has a value allow the object at the parameter
abbrev pub relation_singles : List Relation → List ℕ → ℕ → ℕ → Bool
relation_singles relations values j o = list_all (λ r. relation_single values r j o) relations

-- how many choices of one object of each list there are
abbrev pub product : List (List ℕ) → ℕ
product [] = 1
product (objects ∷ domains) = length objects * product domains

-- ## Static literals

-- the atom of a literal under values
abbrev pub fixed_atom : List ℕ → FixedLiteral → Atom
fixed_atom values l = record { predicate = l.predicate; arguments = map (value_of values) (terms_of l.arguments.items) }

-- the literal holds in the state under values
abbrev pub fixed_holds : State → List ℕ → FixedLiteral → Bool
fixed_holds state values l = literal_holds state (atom l.is_positive (fixed_atom values l))

-- whether the literal names only the first `count` parameters
abbrev pub is_bound : ℕ → FixedLiteral → Bool
is_bound count l = list_all (is_among count) (terms_of l.arguments.items)

-- whether some literal is false
abbrev pub is_ruled_out : State → List FixedLiteral → List ℕ → Bool
is_ruled_out state literals values = list_any (λ l. not (fixed_holds state values l)) literals

-- whether some literal that has values is false
abbrev pub is_ruled_out_so_far : State → List FixedLiteral → List ℕ → Bool
is_ruled_out_so_far state literals values = list_any (λ l. is_bound (length values) l && not (fixed_holds state values l)) literals

-- each literal names parameters
abbrev pub AreLiteralsOf : List FixedLiteral → ℕ → Type 0
AreLiteralsOf literals parameters = All (λ l. is_bound parameters l ≡ true) literals

-- the choices that are not ruled out, with their numbers among all from n on
abbrev pub live_from : State → List FixedLiteral → ℕ → List (List ℕ) → List (ℕ × List ℕ)
live_from state literals n choices = filter (λ p. not (is_ruled_out state literals p.1)) (enumerate_from n choices)

-- The program's literals as the model's.
use Rattle.std.specs.Prelude.{Bool, List, true, false, ◌++◌, map}
use Rattle.std.specs.Cmp.{IsEquivalence, IsPartialEquivalence, on_equiv, partial_equiv_from_equiv}
use Rattle.std.specs.Cmp.Lexicographic.{pointwise, lists_equiv}
use Rattle.std.specs.Hash as fed
use Rattle.std.specs.Hash.{HashWrites, Alike, items_Alike, on_Alike, same_Alike}
use Rattle.htn_model.specs.Atom.{atom_hash}
use Rattle.htn_model.specs.Literal as model
use Rattle.htn_model.specs.Literal.{literal_eq}
use Rattle.htn_model.specs.Equality.{literal_eq-decides, literal_eq-laws}
use Rattle.htn_task.specs.declared.literal.Literal.{Literal}
use Rattle.htn_task.specs.declared.literal.Literal.TheVariants.{Positive, Negative, Same, Different}

-- a literal as the model has it: an atom or an equality with its sign
abbrev pub literal_of : Literal → model.Literal
literal_of (Positive a) = model.atom true a
literal_of (Negative a) = model.atom false a
literal_of (Same x y) = model.equality true x y
literal_of (Different x y) = model.equality false x y

-- each literal as the model has it
abbrev pub literals_of : List Literal → List model.Literal
literals_of literals = map literal_of literals

-- what a literal feeds a hasher: its kind, and then its parts
abbrev pub literal_hash : model.Literal → HashWrites
literal_hash (model.atom positive a) = fed.bool true ++ (fed.bool positive ++ atom_hash a)
literal_hash (model.equality positive x y) = fed.bool false ++ (fed.bool positive ++ (fed.u16 x ++ fed.u16 y))

-- equal literals feed a hasher the same
pub literal_hash-Alike : Alike literal_eq literal_hash
literal_hash-Alike = same_Alike literal_hash literal_eq-decides

-- ## Lists of literals

-- whether two lists of literals are equal, one by one
abbrev pub literals_eq : List model.Literal → List model.Literal → Bool
literals_eq = pointwise literal_eq

-- what a list of literals feeds a hasher
abbrev pub literals_hash : List model.Literal → HashWrites
literals_hash = fed.slice literal_hash

-- equality of lists of literals is an equivalence
pub literals_eq-laws : IsEquivalence literals_eq
literals_eq-laws = lists_equiv literal_eq-laws

-- the test of lists of literals is an equivalence in the sense of `PartialEq`
pub literals_eq-partial : IsPartialEquivalence literals_eq
literals_eq-partial = partial_equiv_from_equiv literals_eq-laws

-- equal lists of literals feed a hasher the same
pub literals_hash-Alike : Alike literals_eq literals_hash
literals_hash-Alike = items_Alike literal_hash-Alike

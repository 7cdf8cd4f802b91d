-- Lists of texts.
use Rattle.std.specs.Prelude.{ℕ, List, ◌++◌, map, Vec}
use Rattle.std.specs.List.{All, flat_map}
use Rattle.htn_model.specs.PlanWord.{IsName}
use Rattle.hddl_words.specs.declared.term.NameGroup.{NameGroup}
use Rattle.hddl_meaning.specs.Mentions.{Text, Mention, mention_of}
use Rattle.hddl_meaning.specs.Names.{optional_mention}

-- the contents of vectors, as texts
abbrev pub texts_of : {A : Type 0} → List (Vec ℕ A) → List Text
texts_of vectors = map (λ v. v.items) vectors

-- the names of a typed list and their types, in the order of the text
abbrev pub mentions_in : List NameGroup → List Mention
mentions_in groups = flat_map (λ g. map mention_of g.names ++ optional_mention g.of_type) groups

-- each is a name as a plan file can hold it
abbrev pub AreNames : List Text → Type 0
AreNames names = All IsName names

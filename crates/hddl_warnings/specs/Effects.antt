-- Atoms of effects as texts.
use Rattle.std.specs.Prelude.{Bool, cond, ◌∷◌, ◌++◌}
use Rattle.std.specs.List.{flat_map}
use Rattle.hddl_words.specs.declared.term.Term.{Term}
use Rattle.hddl_words.specs.declared.term.AtomText.{AtomText}
use Rattle.hddl_meaning.specs.Mentions.{Text}
use Rattle.hddl_warnings.specs.Used.{name_text, term_text}

-- a blank and a term
abbrev pub term_tail : Term → Text
term_tail x = 32 ∷ term_text x

-- an atom in lower case, with one blank between its words
abbrev pub atom_text : AtomText → Text
atom_text a = name_text a.name ++ flat_map term_tail a.terms

-- `+` or `-` before an atom
abbrev pub effect_text : Bool → AtomText → Text
effect_text is_positive a = cond is_positive 43 45 ∷ atom_text a

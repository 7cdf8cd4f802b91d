-- The program's terms as the model's.
use Rattle.std.specs.Prelude.{List, map}
use Rattle.htn_model.specs.Schema as model
use Rattle.htn_task.specs.declared.term.Term.{Term}
use Rattle.htn_task.specs.declared.term.Term.TheVariants.{Parameter, Object}

-- a term as the model has it
abbrev pub term_of : Term → model.Term
term_of (Parameter p) = model.parameter p
term_of (Object o) = model.object o

-- each term as the model has it
abbrev pub terms_of : List Term → List model.Term
terms_of terms = map term_of terms

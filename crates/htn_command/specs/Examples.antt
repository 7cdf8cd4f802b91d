-- Command lines, read by the definitions.
use Rattle.std.specs.Prelude.{◌≡◌, List, [], ◌∷◌, Option, Some, None, codes, option_and_then}
use Rattle.clap.specs.Walk.{Text, first_of}
use Rattle.clap.specs.declared.error.kind.ErrorKind.TheVariants.{ArgumentConflict, DisplayHelp, DisplayVersion, InvalidValue, MissingRequiredArgument, UnknownArgument, ValueValidation}
use Rattle.htn_command.specs.CommandLine.{faults, read_by}

-- what the words give to a name
abbrev pub given : List Text → Text → Option Text
given words id = option_and_then (λ found. first_of id found.1) (read_by words)

-- a line that plans with defaults
abbrev pub short : List Text
short = codes "htnplan" ∷ codes "plan" ∷ codes "d" ∷ codes "p" ∷ []

-- a line that plans with two options, one of them by `=`
abbrev pub long : List Text
long = codes "htnplan" ∷ codes "plan" ∷ codes "--nodes=7" ∷ codes "d" ∷ codes "--workers" ∷ codes "2" ∷ codes "p" ∷ []

-- a line that plans for ten seconds, and shows how the search gets on
abbrev pub watched : List Text
watched = codes "htnplan" ∷ codes "plan" ∷ codes "d" ∷ codes "--seconds" ∷ codes "10" ∷ codes "p" ∷ codes "--progress" ∷ []

-- a line that verifies
abbrev pub verifying : List Text
verifying = codes "htnplan" ∷ codes "verify" ∷ codes "d" ∷ codes "p" ∷ codes "f" ∷ []

-- a line that checks a domain, with defaults
abbrev pub checking : List Text
checking = codes "htnplan" ∷ codes "check" ∷ codes "d" ∷ []

-- a line that checks the standard input and a problem, with all options
abbrev pub checking_strictly : List Text
checking_strictly =
    codes "htnplan" ∷ codes "check" ∷ codes "-" ∷ codes "--strict" ∷ codes "--format=json" ∷ codes "p" ∷ codes "--limit" ∷ codes "0" ∷ codes "--color" ∷ codes "never" ∷ []

-- a line that explains, with defaults
abbrev pub explaining : List Text
explaining = codes "htnplan" ∷ codes "explain" ∷ codes "d" ∷ codes "p" ∷ codes "f" ∷ []

-- a line that explains the plan of the standard input, with all options
abbrev pub explaining_states : List Text
explaining_states = codes "htnplan" ∷ codes "explain" ∷ codes "d" ∷ codes "p" ∷ codes "--states" ∷ codes "-" ∷ codes "--format=json" ∷ codes "--color" ∷ codes "never" ∷ []

-- a line that draws, with defaults
abbrev pub drawing : List Text
drawing = codes "htnplan" ∷ codes "tree" ∷ codes "d" ∷ codes "p" ∷ codes "f" ∷ []

-- a line that draws the plan of the standard input, with all options
abbrev pub drawing_dots : List Text
drawing_dots = codes "htnplan" ∷ codes "tree" ∷ codes "--color=always" ∷ codes "d" ∷ codes "p" ∷ codes "--format" ∷ codes "dot" ∷ codes "--details" ∷ codes "-" ∷ []

-- what it gives the names of `tree`
pub record DrawsAsGiven (words : List Text) (d p f form shown when : Option Text) : Type 0 where
  pub domain : given words (codes "DOMAIN") ≡ d
  pub problem : given words (codes "PROBLEM") ≡ p
  pub plan : given words (codes "PLAN") ≡ f
  pub format : given words (codes "format") ≡ form
  pub details : given words (codes "details") ≡ shown
  pub colour : given words (codes "color") ≡ when
  pub sound : faults words ≡ []

-- what it gives the names of `explain`
pub record ExplainsAsGiven (words : List Text) (d p f form shown when : Option Text) : Type 0 where
  pub domain : given words (codes "DOMAIN") ≡ d
  pub problem : given words (codes "PROBLEM") ≡ p
  pub plan : given words (codes "PLAN") ≡ f
  pub format : given words (codes "format") ≡ form
  pub states : given words (codes "states") ≡ shown
  pub colour : given words (codes "color") ≡ when
  pub sound : faults words ≡ []

-- what it gives the names of `check`
pub record ChecksAsGiven (words : List Text) (d p form most strict when : Option Text) : Type 0 where
  pub domain : given words (codes "DOMAIN") ≡ d
  pub problem : given words (codes "PROBLEM") ≡ p
  pub format : given words (codes "format") ≡ form
  pub limit : given words (codes "limit") ≡ most
  pub is_strict : given words (codes "strict") ≡ strict
  pub colour : given words (codes "color") ≡ when
  pub sound : faults words ≡ []

-- what each of these lines gives each argument, and the requests that they ask for
pub record ExamplesHold : Type 0 where
  pub domain : given short (codes "DOMAIN") ≡ Some (codes "d")
  pub problem : given long (codes "PROBLEM") ≡ Some (codes "p")
  pub default_nodes : given short (codes "nodes") ≡ Some (codes "100")
  pub nodes : given long (codes "nodes") ≡ Some (codes "7")
  pub workers : given long (codes "workers") ≡ Some (codes "2")
  pub unwatched : (given short (codes "seconds") ≡ None) × (given short (codes "progress") ≡ Some (codes "false"))
  pub watch : (given watched (codes "seconds") ≡ Some (codes "10")) × (given watched (codes "progress") ≡ Some (codes "true"))
  pub checked : (given verifying (codes "DOMAIN") ≡ Some (codes "d")) × (given verifying (codes "PROBLEM") ≡ Some (codes "p"))
  pub plan : given verifying (codes "PLAN") ≡ Some (codes "f")
  pub sound : (faults short ≡ []) × (faults long ≡ []) × (faults verifying ≡ []) × (faults watched ≡ [])
  pub no_worker : faults (codes "htnplan" ∷ codes "plan" ∷ codes "d" ∷ codes "p" ∷ codes "--workers" ∷ codes "0" ∷ []) ≡ ValueValidation ∷ []
  pub no_time_left : faults (codes "htnplan" ∷ codes "plan" ∷ codes "d" ∷ codes "p" ∷ codes "--seconds" ∷ codes "0" ∷ []) ≡ ValueValidation ∷ []
  pub too_long : faults (codes "htnplan" ∷ codes "plan" ∷ codes "d" ∷ codes "p" ∷ codes "--seconds=31536001" ∷ []) ≡ ValueValidation ∷ []
  pub no_problem : faults (codes "htnplan" ∷ codes "plan" ∷ codes "d" ∷ []) ≡ MissingRequiredArgument ∷ []
  pub help : faults (codes "htnplan" ∷ codes "plan" ∷ codes "-h" ∷ []) ≡ DisplayHelp ∷ []
  pub no_plan : faults (codes "htnplan" ∷ codes "verify" ∷ codes "d" ∷ codes "p" ∷ []) ≡ MissingRequiredArgument ∷ []
  pub two_plans : faults (codes "htnplan" ∷ codes "verify" ∷ codes "d" ∷ codes "p" ∷ codes "f" ∷ codes "g" ∷ []) ≡ UnknownArgument ∷ []
  pub version : faults (codes "htnplan" ∷ codes "--version" ∷ []) ≡ DisplayVersion ∷ []
  pub by_default : ChecksAsGiven checking (Some (codes "d")) None (Some (codes "text")) (Some (codes "20")) (Some (codes "false")) (Some (codes "auto"))
  pub by_options : ChecksAsGiven checking_strictly (Some (codes "-")) (Some (codes "p")) (Some (codes "json")) (Some (codes "0")) (Some (codes "true")) (Some (codes "never"))
  pub no_format : faults (codes "htnplan" ∷ codes "check" ∷ codes "d" ∷ codes "--format" ∷ codes "xml" ∷ []) ≡ InvalidValue ∷ []
  pub no_colour : faults (codes "htnplan" ∷ codes "check" ∷ codes "d" ∷ codes "--color" ∷ codes "red" ∷ []) ≡ InvalidValue ∷ []
  pub no_limit : faults (codes "htnplan" ∷ codes "check" ∷ codes "d" ∷ codes "--limit" ∷ codes "all" ∷ []) ≡ ValueValidation ∷ []
  pub two_inputs : faults (codes "htnplan" ∷ codes "check" ∷ codes "-" ∷ codes "-" ∷ []) ≡ ArgumentConflict ∷ []
  pub no_domain : faults (codes "htnplan" ∷ codes "check" ∷ []) ≡ MissingRequiredArgument ∷ []
  pub foreign_option : faults (codes "htnplan" ∷ codes "check" ∷ codes "d" ∷ codes "--nodes" ∷ codes "5" ∷ []) ≡ UnknownArgument ∷ []
  pub explained_by_default : ExplainsAsGiven explaining (Some (codes "d")) (Some (codes "p")) (Some (codes "f")) (Some (codes "text")) (Some (codes "false")) (Some (codes "auto"))
  pub explained_by_options : ExplainsAsGiven explaining_states (Some (codes "d")) (Some (codes "p")) (Some (codes "-")) (Some (codes "json")) (Some (codes "true")) (Some (codes "never"))
  pub explained_as : faults (codes "htnplan" ∷ codes "explain" ∷ codes "d" ∷ codes "p" ∷ codes "f" ∷ codes "--format" ∷ codes "svg" ∷ []) ≡ InvalidValue ∷ []
  pub explained_once : faults (codes "htnplan" ∷ codes "explain" ∷ codes "-" ∷ codes "p" ∷ codes "-" ∷ []) ≡ ArgumentConflict ∷ []
  pub unexplained : faults (codes "htnplan" ∷ codes "explain" ∷ codes "d" ∷ codes "p" ∷ []) ≡ MissingRequiredArgument ∷ []
  pub drawn_by_default : DrawsAsGiven drawing (Some (codes "d")) (Some (codes "p")) (Some (codes "f")) (Some (codes "text")) (Some (codes "false")) (Some (codes "auto"))
  pub drawn_by_options : DrawsAsGiven drawing_dots (Some (codes "d")) (Some (codes "p")) (Some (codes "-")) (Some (codes "dot")) (Some (codes "true")) (Some (codes "always"))
  pub no_drawing : faults (codes "htnplan" ∷ codes "tree" ∷ codes "d" ∷ codes "p" ∷ codes "f" ∷ codes "--format" ∷ codes "short" ∷ []) ≡ InvalidValue ∷ []
  pub no_time : faults (codes "htnplan" ∷ codes "tree" ∷ codes "d" ∷ codes "p" ∷ codes "f" ∷ codes "--color" ∷ codes "red" ∷ []) ≡ InvalidValue ∷ []
  pub input_twice : faults (codes "htnplan" ∷ codes "tree" ∷ codes "d" ∷ codes "-" ∷ codes "-" ∷ []) ≡ ArgumentConflict ∷ []
  pub undrawn : faults (codes "htnplan" ∷ codes "tree" ∷ codes "d" ∷ codes "p" ∷ []) ≡ MissingRequiredArgument ∷ []
  pub names_only : faults (codes "htnplan" ∷ codes "plan" ∷ codes "-" ∷ codes "-" ∷ []) ≡ []

-- What the matches of a parse give.
use Rattle.std.proofs.Common.{◌≡◌, ◌≢◌, ◌⊎◌, inl, inr, ◌∙◌, ◌<◌, ◌^◌, arith, true, false, cond, ap, sym, subst, slice_get, slice_index, ℕ, List, [], ◌∷◌, Option, Some, None, refl}
use Rattle.std.specs.Prelude.{Bool, find, is_some, option_and_then, option_map, unwrap_or, Box, codes}
use Rattle.std.specs.Box.{box_value}
use Rattle.std.specs.Borrow.{Bor}
use Rattle.std.specs.Str.Parse.{IsNumeral, digits_value, without_leading_plus}
use Rattle.clap.specs.Faults.{fault_of, is_simple_and_free}
use Rattle.clap.specs.Kinds.{HasKind, IsAmong, Kinds, or_else}
use Rattle.std.specs.Bool.{Decides}
use Rattle.std.specs.Str.{bytes_eq}
use Rattle.std.proofs.lemmas.Slice.Eq.{bytes_eq-Decides}
use Rattle.clap.specs.Matches.{first_value, found_of, one_text, subcommand_name_of}
use Rattle.clap.specs.Values.{kind_of, read_as}
use Rattle.clap.specs.Simple.{App, HasMatchesOf, is_simple, subcommand_of, subcommand_rows, subcommand_rows_of}
use Rattle.clap.specs.Walk.{Row, Text, first_of, one_of, row_text, rows_of}
use Rattle.clap.specs.declared.parser.matches.ArgMatches.{ArgMatches}
use Rattle.clap.specs.declared.parser.matches.ArgMatches.TheViews.{out-ArgMatches, out-SubCommand}
use Rattle.clap.specs.declared.parser.matches.Found.{Found}
use Rattle.clap.specs.declared.parser.matches.SubCommand.{SubCommand}
use Rattle.clap.specs.declared.error.Error.{Error}
use Rattle.clap.specs.declared.error.kind.ErrorKind.{ErrorKind}
use Rattle.clap.specs.declared.error.kind.ErrorKind.TheVariants.{DisplayHelp, DisplayVersion, OutOfMemory}
use Rattle.clap.proofs.WalkLemmas.{first_value-rows, one_text-rows}
use Rattle.word_machine.specs.Bounds.{AreInRange}
use Rattle.word_machine.specs.declared.bounds.Bounds.{Bounds}
use Rattle.htn_command.specs.CommandLine.{HelpIsDue, IsNumber, IsNumberIfAny, VersionIsDue, colour_named, drawing_named, faults, flag_named, format_named, check_fault, explain_fault, htnplan, own_fault, read_by, tree_fault}
use Rattle.htn_command.specs.Help.{IsOfWords, IsPossible, RefusesWords}
use Rattle.htn_command.specs.Misuse.{kinds_of}
use Rattle.htn_command.specs.Request.{AskNothing, IsGiven, IsOf}
use Rattle.diagnostics.specs.declared.format.Format.{Format}
use Rattle.htn_command.specs.declared.choice.Colour.{Colour}
use Rattle.htn_command.specs.declared.choice.Drawing.{Drawing}
use Rattle.htn_command.specs.declared.misuse.Misuse.{Misuse}
use Rattle.htn_command.specs.declared.refusal.Refusal.{Refusal}
use Rattle.htn_command.specs.declared.refusal.Refusal.TheVariants as refusal
use Rattle.htn_command.specs.declared.request.Request.{Request}
use Rattle.htn_command.specs.declared.request.Request.TheVariants.{Plan, Verify, Check, Explain, Tree}
use Rattle.htn_command.proofs.Building.{line_is_free, line_is_simple}

-- a command's name and its rows
pub name_and_rows : {Z : Type 0} (sub : Option (Box SubCommand Z)) (name : Text) (rows : List Row)
    → option_map (λ b. (out-SubCommand (box_value b)).name.now) sub ≡ Some name
    → option_map (λ p. p.1) (subcommand_rows sub) ≡ Some rows → subcommand_rows sub ≡ Some (name, rows)
name_and_rows None name rows is has = cc
name_and_rows (Some b) name rows is has = cc

-- what `get_one` reads is the number that stands there
pub number_read : (f : Found) (id : Text) (n m : ℕ) → m ≡ n → (one_text f id ≡ None → Some n ≡ None)
    → ((t : Text) → one_text f id ≡ Some t
    → (IsNumeral 10 (without_leading_plus t) × (digits_value 10 (without_leading_plus t) < 2 ^ 64)) × (n ≡ digits_value 10 (without_leading_plus t)))
    → IsNumber (one_of id (rows_of f)) m
number_read f id n m same none value = go (one_text f id) refl
  where
    go : (t : Option Text) → one_text f id ≡ t → IsNumber (one_of id (rows_of f)) m
    go None e =
        let bad = none e in
        cc
    go (Some t) e = let h = value t e in (t, sym (one_text-rows f id) ∙ e, h.0.0, sym h.1 ∙ sym same)

-- and fits 64 bits
pub number_fits : (f : Found) (id : Text) (n : ℕ) → (one_text f id ≡ None → Some n ≡ None)
    → ((t : Text) → one_text f id ≡ Some t
    → (IsNumeral 10 (without_leading_plus t) × (digits_value 10 (without_leading_plus t) < 2 ^ 64)) × (n ≡ digits_value 10 (without_leading_plus t)))
    → n < 2 ^ 64
number_fits f id n none value = go (one_text f id) refl
  where
    go : (t : Option Text) → one_text f id ≡ t → n < 2 ^ 64
    go None e =
        let bad = none e in
        absurd cc
    go (Some t) e = let h = value t e in subst (λ k. k < 2 ^ 64) (sym h.1) h.0.1

-- a parse by the command line names the command that the words name
pub parse_reads : (app : App) (words : List Text) (m : ArgMatches) → app ≡ htnplan → HasMatchesOf app words m → read_by words ≡ subcommand_rows_of m
unfolding read_by
parse_reads app words m is has =
    sym ((has (ap is_simple is ∙ line_is_simple)).1 ∙ ap (λ (a : App). subcommand_of a words) is)

-- words that it takes have no fault but those of their own
pub parse_is_sound : (app : App) (words : List Text) (m : ArgMatches) → app ≡ htnplan → (is_simple_and_free app ≡ true → fault_of app words ≡ [])
    → HasMatchesOf app words m → faults words ≡ own_fault (subcommand_rows_of m)
unfolding faults
parse_is_sound app words m is sound has =
    let none : fault_of htnplan words ≡ [] = ap (λ (a : App). fault_of a words) (sym is) ∙ sound (ap is_simple_and_free is ∙ line_is_free) in
    ap (λ ks. or_else ks (own_fault (read_by words))) none ∙ ap own_fault (parse_reads app words m is has)

-- a command other than `check`, `explain` and `tree` has no fault of its own
pub own_of_other : (m : ArgMatches) → (subcommand_name_of m ≡ Some (codes "check") → ⊥) → (subcommand_name_of m ≡ Some (codes "explain") → ⊥)
    → (subcommand_name_of m ≡ Some (codes "tree") → ⊥) → own_fault (subcommand_rows_of m) ≡ []
own_of_other m no_check no_explain no_tree = by (out-ArgMatches m).subcommand no_check no_explain no_tree
  where
    decided : (name other : Text) (kinds rest : Kinds) (b : Bool) → Decides b (name ≡ other) → (Some name ≡ Some other → ⊥) → cond b kinds rest ≡ rest
    decided name other kinds rest true is isn't = absurd (isn't (ap (λ (t : Text). Some t) (is.0 refl)))
    decided name other kinds rest false is isn't = refl

    by : {Z : Type 0} → (sub : Option (Box SubCommand Z)) → (option_map (λ b. (out-SubCommand (box_value b)).name.now) sub ≡ Some (codes "check") → ⊥)
        → (option_map (λ b. (out-SubCommand (box_value b)).name.now) sub ≡ Some (codes "explain") → ⊥)
        → (option_map (λ b. (out-SubCommand (box_value b)).name.now) sub ≡ Some (codes "tree") → ⊥) → own_fault (subcommand_rows sub) ≡ []
    by None isn't nor either = refl
    by (Some b) isn't nor either =
        let s = out-SubCommand (box_value b) in
        let rows = rows_of (found_of s.matches) in
        let is_tree = bytes_eq s.name.now (codes "tree") in
        let is_explain = bytes_eq s.name.now (codes "explain") in
        let drawn = cond is_tree (tree_fault rows) [] in
        decided s.name.now (codes "check") (check_fault rows) (cond is_explain (explain_fault rows) drawn) (bytes_eq s.name.now (codes "check")) (bytes_eq-Decides s.name.now (codes "check")) isn't
        ∙ decided s.name.now (codes "explain") (explain_fault rows) drawn is_explain (bytes_eq-Decides s.name.now (codes "explain")) nor
        ∙ decided s.name.now (codes "tree") (tree_fault rows) [] is_tree (bytes_eq-Decides s.name.now (codes "tree")) either

-- none isn't some
pub no_some : {X : Type 0} (o : Option X) → o ≡ None → is_some o ≡ true → ⊥
no_some None is some = absurd cc
no_some (Some x) is some = absurd cc

-- what is refused of no misuse is nothing
pub misuse_none : (found : Option Misuse) (kinds : Kinds) → kinds_of found ≡ kinds → ((m : Misuse) → found ≡ Some m → ⊥) → kinds ≡ []
misuse_none None kinds is none = sym is
misuse_none (Some m) kinds is none = absurd (none m refl)

-- a kind among those of `clap` is among the faults
among_first : (k : ErrorKind) (ks next : Kinds) → IsAmong k ks → IsAmong k (or_else ks next)
among_first k [] next is = absurd is
among_first k (x ∷ xs) next is = is

-- the one kind of the faults is possible
pub one_is_possible : (words : List Text) (k j : ErrorKind) → faults words ≡ k ∷ [] → j ≡ k → IsPossible words j
one_is_possible words k j is same = inr (subst (λ (ks : Kinds). IsAmong j ks) (sym is) (inl same))

-- words whose faults are one kind ask for nothing
pub faulty_words_ask_nothing : (words : List Text) (k : ErrorKind) → faults words ≡ k ∷ [] → AskNothing words
faulty_words_ask_nothing words k is request asked =
    let bad : k ∷ [] ≡ [] = sym is ∙ asked.sound in
    cc

-- ---- words that ask for nothing

-- the rows of a request are those that were found
pub given_rows : (found : Option (Text × List Row)) (rows : List Row) (request : Request) → IsOf found request
    → option_map (λ p. p.1) found ≡ Some rows → IsGiven rows request
given_rows found rows request h is =
    let same : Some h.0 ≡ Some rows = ap (option_map (λ p. p.1)) (sym h.1) ∙ is in
    subst (λ rs. IsGiven rs request) (ap (λ o. unwrap_or o rows) same) h.2

-- no number stands where `get_one` reads none
abbrev pub IsUnread : Found → Text → Type 0
IsUnread f id = (t : Text) → one_text f id ≡ Some t
    → IsNumeral 10 (without_leading_plus t) × (digits_value 10 (without_leading_plus t) < 2 ^ 64) → ⊥

-- where an option isn't read as a number, the line gives no number of 64 bits for it
no_number : (f : Found) (id : Text) (n : ℕ) → IsUnread f id → n < 2 ^ 64 → IsNumber (one_of id (rows_of f)) n → ⊥
no_number f id n unread less h =
    let value = h.3 in
    let fits : digits_value 10 (without_leading_plus h.0) < 2 ^ 64 = omega arith in
    unread h.0 (one_text-rows f id ∙ h.1) (h.2, fits)

-- where a line gives no value, it gives no text
no_text : (f : Found) (id text : Text) → None ≡ first_value f id → first_of id (rows_of f) ≡ Some text → ⊥
no_text f id text none has =
    let bad : None ≡ Some text = none ∙ first_value-rows f id ∙ has in
    cc

-- where the first value of an option names nothing, the line gives nothing that it names
no_named : {X : Type 0} → (f : Found) (id : Text) (named : Text → Option X) (x : X) → option_and_then named (first_value f id) ≡ None
    → option_and_then named (first_of id (rows_of f)) ≡ Some x → ⊥
no_named f id named x none has =
    let bad : None ≡ Some x = sym none ∙ ap (option_and_then named) (first_value-rows f id) ∙ has in
    cc

-- a text spells one number at most
pub one_number : (text : Option Text) (n m : ℕ) → IsNumber text n → IsNumber text m → n ≡ m
one_number text n m h k =
    let same : h.0 ≡ k.0 = ap (λ o. unwrap_or o k.0) (sym h.1 ∙ k.1) in
    sym h.3 ∙ ap (λ t. digits_value 10 (without_leading_plus t)) same ∙ k.3

-- and one number at most where it may be left out
pub one_if_any : (text : Option Text) (n m : Option ℕ) → IsNumberIfAny text n → IsNumberIfAny text m → n ≡ m
one_if_any text None None h k = refl
one_if_any text None (Some m) h k = let bad : None ≡ Some k.0.0 = sym h ∙ k.0.1 in cc
one_if_any text (Some n) None h k = let bad : None ≡ Some h.0.0 = sym k ∙ h.0.1 in cc
one_if_any text (Some n) (Some m) h k = ap Some (one_number text n m h.0 k.0)

-- an option without a first value has no text
pub no_first : (f : Found) (id : Text) → first_value f id ≡ None → one_of id (rows_of f) ≡ None
no_first f id none = by (find (λ r. bytes_eq r.id id) (rows_of f)) (sym (first_value-rows f id) ∙ none)
  where
    by : (o : Option Row) → option_and_then (λ r. slice_get r.values 0) o ≡ None → option_and_then row_text o ≡ None
    by None h = refl
    by (Some r) h = ap (option_map (read_as r.reading)) h

-- and one without a text has no first value
no_first_back : (f : Found) (id : Text) → one_of id (rows_of f) ≡ None → first_value f id ≡ None
no_first_back f id none = first_value-rows f id ∙ by (find (λ r. bytes_eq r.id id) (rows_of f)) none
  where
    unmapped : (g : Text → Text) (o : Option Text) → option_map g o ≡ None → o ≡ None
    unmapped g None h = refl
    unmapped g (Some t) h = absurd cc

    by : (o : Option Row) → option_and_then row_text o ≡ None → option_and_then (λ r. slice_get r.values 0) o ≡ None
    by None h = refl
    by (Some r) h = unmapped (read_as r.reading) (slice_get r.values 0) h

-- the commands have different names
pub plan_is_not_verify : {Z : Type 0} → codes "plan" ≡ codes "verify" → Z
plan_is_not_verify same =
    let bad : ◌≡◌ {A = ℕ} 112 118 = ap (λ (t : Text). slice_index t 0) same in
    absurd (omega arith)

pub check_is_not_plan : {Z : Type 0} → codes "check" ≡ codes "plan" → Z
check_is_not_plan same =
    let bad : ◌≡◌ {A = ℕ} 99 112 = ap (λ (t : Text). slice_index t 0) same in
    absurd (omega arith)

pub check_is_not_verify : {Z : Type 0} → codes "check" ≡ codes "verify" → Z
check_is_not_verify same =
    let bad : ◌≡◌ {A = ℕ} 99 118 = ap (λ (t : Text). slice_index t 0) same in
    absurd (omega arith)

pub plan_is_not_tree : {Z : Type 0} → codes "plan" ≡ codes "tree" → Z
plan_is_not_tree same =
    let bad : ◌≡◌ {A = ℕ} 112 116 = ap (λ (t : Text). slice_index t 0) same in
    absurd (omega arith)

pub verify_is_not_tree : {Z : Type 0} → codes "verify" ≡ codes "tree" → Z
verify_is_not_tree same =
    let bad : ◌≡◌ {A = ℕ} 118 116 = ap (λ (t : Text). slice_index t 0) same in
    absurd (omega arith)

pub check_is_not_tree : {Z : Type 0} → codes "check" ≡ codes "tree" → Z
check_is_not_tree same =
    let bad : ◌≡◌ {A = ℕ} 99 116 = ap (λ (t : Text). slice_index t 0) same in
    absurd (omega arith)

pub explain_is_not_plan : {Z : Type 0} → codes "explain" ≡ codes "plan" → Z
explain_is_not_plan same =
    let bad : ◌≡◌ {A = ℕ} 101 112 = ap (λ (t : Text). slice_index t 0) same in
    absurd (omega arith)

pub explain_is_not_verify : {Z : Type 0} → codes "explain" ≡ codes "verify" → Z
explain_is_not_verify same =
    let bad : ◌≡◌ {A = ℕ} 101 118 = ap (λ (t : Text). slice_index t 0) same in
    absurd (omega arith)

pub explain_is_not_check : {Z : Type 0} → codes "explain" ≡ codes "check" → Z
explain_is_not_check same =
    let bad : ◌≡◌ {A = ℕ} 101 99 = ap (λ (t : Text). slice_index t 0) same in
    absurd (omega arith)

pub explain_is_not_tree : {Z : Type 0} → codes "explain" ≡ codes "tree" → Z
explain_is_not_tree same =
    let bad : ◌≡◌ {A = ℕ} 101 116 = ap (λ (t : Text). slice_index t 0) same in
    absurd (omega arith)

-- where an option has a value that isn't read as a number, the line gives no number for it, and not none
pub unread_number : (f : Found) (id text : Text) → Some text ≡ first_value f id → IsUnread f id → (n : Option ℕ) → IsNumberIfAny (one_of id (rows_of f)) n → ⊥
unread_number f id text has unread None is = let bad : Some text ≡ None = has ∙ no_first_back f id is in absurd cc
unread_number f id text has unread (Some n) is = no_number f id n unread is.1 is.0

-- a command with its rows is none of another name
other_command : {Z : Type 0} → (row : Text × List Row) (other : Text × List Row) → Some row ≡ Some other → (row.0 ≡ other.0 → Z) → Z
other_command row other same differ = differ (ap (λ o. (unwrap_or o row).0) same)

module _ (f : Found) where
  -- what `plan` was given
  abbrev pub Planned : Request → Type 0
  Planned r = IsOf (Some (codes "plan", rows_of f)) r

  -- a request for a plan, whose rows these are
  plan_of : {Z : Type 0} → (r : Request) → Planned r
      → ((domain problem : Bor Text) (bounds : Bounds) (seconds : Option ℕ) (has_progress : Bool) → IsGiven (rows_of f) (Plan domain problem bounds seconds has_progress) → Z) → Z
  plan_of (Plan domain problem bounds seconds has_progress) is use_it = use_it domain problem bounds seconds has_progress (given_rows _ _ (Plan domain problem bounds seconds has_progress) is refl)
  plan_of (Verify domain problem plan) is use_it = other_command _ _ is.1 plan_is_not_verify
  plan_of (Check domain problem format limit is_strict colour) is use_it = other_command _ _ is.1 (λ same. check_is_not_plan (sym same))
  plan_of (Explain domain problem plan format has_states colour) is use_it = other_command _ _ is.1 (λ same. explain_is_not_plan (sym same))
  plan_of (Tree domain problem plan drawing has_details colour) is use_it = other_command _ _ is.1 plan_is_not_tree

  -- where the bound isn't read, no plan is asked for
  pub lacks_nodes : (r : Request) → IsUnread f (codes "nodes") → Planned r → ⊥
  lacks_nodes r unread is = plan_of r is (λ domain problem bounds seconds has_progress h.
      let within = h.5.nodes_within in no_number f (codes "nodes") bounds.nodes unread (omega arith) h.2)

  -- where the number of workers isn't read, no plan is asked for
  pub lacks_workers : (r : Request) → IsUnread f (codes "workers") → Planned r → ⊥
  lacks_workers r unread is = plan_of r is (λ domain problem bounds seconds has_progress h.
      let within = h.5.workers_within in no_number f (codes "workers") bounds.workers unread (omega arith) h.3)

  -- where the size of a piece isn't read, no plan is asked for
  pub lacks_piece : (r : Request) → IsUnread f (codes "piece") → Planned r → ⊥
  lacks_piece r unread is = plan_of r is (λ domain problem bounds seconds has_progress h.
      let within = h.5.piece_within in no_number f (codes "piece") bounds.piece unread (omega arith) h.4)

  -- where no domain is given, no plan is asked for
  pub lacks_domain : (r : Request) → None ≡ first_value f (codes "DOMAIN") → Planned r → ⊥
  lacks_domain r none is = plan_of r is (λ domain problem bounds seconds has_progress h. no_text f (codes "DOMAIN") domain.now none h.0)

  -- where no problem is given, no plan is asked for
  pub lacks_problem : (r : Request) → None ≡ first_value f (codes "PROBLEM") → Planned r → ⊥
  lacks_problem r none is = plan_of r is (λ domain problem bounds seconds has_progress h. no_text f (codes "PROBLEM") problem.now none h.1)

  -- where the seconds can't be read, no plan is asked for
  pub lacks_seconds : (r : Request) → ((n : Option ℕ) → IsNumberIfAny (one_of (codes "seconds") (rows_of f)) n → ⊥) → Planned r → ⊥
  lacks_seconds r unread is = plan_of r is (λ domain problem bounds seconds has_progress h. unread seconds h.6)

  -- where a word that isn't there or names nothing is to name whether progress is shown, no plan is asked for
  pub lacks_progress : (r : Request) → option_and_then flag_named (first_value f (codes "progress")) ≡ None → Planned r → ⊥
  lacks_progress r none is = plan_of r is (λ domain problem bounds seconds has_progress h. no_named f (codes "progress") flag_named has_progress none h.7)

  -- numbers out of range are not those of a request
  pub out_of_range : (nodes workers piece : ℕ) (r : Request) → IsNumber (one_of (codes "nodes") (rows_of f)) nodes
      → IsNumber (one_of (codes "workers") (rows_of f)) workers → IsNumber (one_of (codes "piece") (rows_of f)) piece
      → (AreInRange nodes workers piece → false ≡ true) → Planned r → ⊥
  out_of_range nodes workers piece r n w p never is = plan_of r is (λ domain problem bounds seconds has_progress h.
      let in_range : AreInRange nodes workers piece = rw (one_number _ _ _ n h.2, one_number _ _ _ w h.3, one_number _ _ _ p h.4) h.5 in
      let bad = never in_range in
      cc)

  -- what `verify` was given
  abbrev pub Verified : Request → Type 0
  Verified r = IsOf (Some (codes "verify", rows_of f)) r

  -- a request for a verdict lacks none of its files
  pub lacks_a_file : (r : Request) (id : Text) → None ≡ first_value f id → (id ≡ codes "DOMAIN") ⊎ ((id ≡ codes "PROBLEM") ⊎ (id ≡ codes "PLAN"))
      → Verified r → ⊥
  lacks_a_file (Plan domain problem bounds seconds has_progress) id none which is = other_command _ _ is.1 (λ same. plan_is_not_verify (sym same))
  lacks_a_file (Check domain problem format limit is_strict colour) id none which is = other_command _ _ is.1 (λ same. check_is_not_verify (sym same))
  lacks_a_file (Explain domain problem plan format has_states colour) id none which is = other_command _ _ is.1 (λ same. explain_is_not_verify (sym same))
  lacks_a_file (Tree domain problem plan drawing has_details colour) id none which is = other_command _ _ is.1 verify_is_not_tree
  lacks_a_file (Verify domain problem plan) id none which is =
      let h = given_rows _ _ (Verify domain problem plan) is refl in
      elim which [
        | inl e ↦ no_text f _ domain.now (rw (← e) none) h.0
        | inr more ↦ elim more [
          | inl e ↦ no_text f _ problem.now (rw (← e) none) h.1
          | inr e ↦ no_text f _ plan.now (rw (← e) none) h.2
        ]
      ]

  -- what `check` was given
  abbrev pub Checked : Request → Type 0
  Checked r = IsOf (Some (codes "check", rows_of f)) r

  -- a request for a check, whose rows these are
  pub check_of : {Z : Type 0} → (r : Request) → Checked r
      → ((domain : Bor Text) (problem : Option (Bor Text)) (format : Format) (limit : ℕ) (is_strict : Bool) (colour : Colour)
      → IsGiven (rows_of f) (Check domain problem format limit is_strict colour) → Z) → Z
  check_of (Plan domain problem bounds seconds has_progress) is use_it = other_command _ _ is.1 (λ same. check_is_not_plan same)
  check_of (Verify domain problem plan) is use_it = other_command _ _ is.1 (λ same. check_is_not_verify same)
  check_of (Explain domain problem plan format has_states colour) is use_it = other_command _ _ is.1 (λ same. explain_is_not_check (sym same))
  check_of (Tree domain problem plan drawing has_details colour) is use_it = other_command _ _ is.1 (λ same. check_is_not_tree same)
  check_of (Check domain problem format limit is_strict colour) is use_it =
      use_it domain problem format limit is_strict colour (given_rows _ _ (Check domain problem format limit is_strict colour) is refl)

  -- where no domain is given, no check is asked for
  pub lacks_checked_domain : (r : Request) → None ≡ first_value f (codes "DOMAIN") → Checked r → ⊥
  lacks_checked_domain r none is = check_of r is (λ domain problem format limit is_strict colour h. no_text f (codes "DOMAIN") domain.now none h.0)

  -- where the limit isn't read, no check is asked for
  pub lacks_limit : (r : Request) → IsUnread f (codes "limit") → Checked r → ⊥
  lacks_limit r unread is = check_of r is (λ domain problem format limit is_strict colour h. no_number f (codes "limit") limit unread h.4 h.3)

  -- where a word that isn't there or names nothing is to name a format, a flag or a time, no check is asked for
  pub lacks_format : (r : Request) → option_and_then format_named (first_value f (codes "format")) ≡ None → Checked r → ⊥
  lacks_format r none is = check_of r is (λ domain problem format limit is_strict colour h. no_named f (codes "format") format_named format none h.2)

  pub lacks_flag : (r : Request) → option_and_then flag_named (first_value f (codes "strict")) ≡ None → Checked r → ⊥
  lacks_flag r none is = check_of r is (λ domain problem format limit is_strict colour h. no_named f (codes "strict") flag_named is_strict none h.5)

  pub lacks_colour : (r : Request) → option_and_then colour_named (first_value f (codes "color")) ≡ None → Checked r → ⊥
  lacks_colour r none is = check_of r is (λ domain problem format limit is_strict colour h. no_named f (codes "color") colour_named colour none h.6)

  -- what `explain` was given
  abbrev pub Explained : Request → Type 0
  Explained r = IsOf (Some (codes "explain", rows_of f)) r

  -- a request for an explanation, whose rows these are
  pub explain_of : {Z : Type 0} → (r : Request) → Explained r
      → ((domain problem plan : Bor Text) (format : Format) (has_states : Bool) (colour : Colour)
      → IsGiven (rows_of f) (Explain domain problem plan format has_states colour) → Z) → Z
  explain_of (Plan domain problem bounds seconds has_progress) is use_it = other_command _ _ is.1 explain_is_not_plan
  explain_of (Verify domain problem plan) is use_it = other_command _ _ is.1 explain_is_not_verify
  explain_of (Check domain problem format limit is_strict colour) is use_it = other_command _ _ is.1 explain_is_not_check
  explain_of (Tree domain problem plan drawing has_details colour) is use_it = other_command _ _ is.1 explain_is_not_tree
  explain_of (Explain domain problem plan format has_states colour) is use_it =
      use_it domain problem plan format has_states colour (given_rows _ _ (Explain domain problem plan format has_states colour) is refl)

  -- where a file isn't given, no explanation is asked for
  pub lacks_explained_domain : (r : Request) → None ≡ first_value f (codes "DOMAIN") → Explained r → ⊥
  lacks_explained_domain r none is = explain_of r is (λ domain problem plan format has_states colour h. no_text f (codes "DOMAIN") domain.now none h.0)

  pub lacks_explained_problem : (r : Request) → None ≡ first_value f (codes "PROBLEM") → Explained r → ⊥
  lacks_explained_problem r none is = explain_of r is (λ domain problem plan format has_states colour h. no_text f (codes "PROBLEM") problem.now none h.1)

  pub lacks_explained_plan : (r : Request) → None ≡ first_value f (codes "PLAN") → Explained r → ⊥
  lacks_explained_plan r none is = explain_of r is (λ domain problem plan format has_states colour h. no_text f (codes "PLAN") plan.now none h.2)

  -- where a word that isn't there or names nothing is to name a format, a flag or a time, no explanation is asked for
  pub lacks_explained_format : (r : Request) → option_and_then format_named (first_value f (codes "format")) ≡ None → Explained r → ⊥
  lacks_explained_format r none is = explain_of r is (λ domain problem plan format has_states colour h. no_named f (codes "format") format_named format none h.3)

  pub lacks_states : (r : Request) → option_and_then flag_named (first_value f (codes "states")) ≡ None → Explained r → ⊥
  lacks_states r none is = explain_of r is (λ domain problem plan format has_states colour h. no_named f (codes "states") flag_named has_states none h.4)

  pub lacks_explained_colour : (r : Request) → option_and_then colour_named (first_value f (codes "color")) ≡ None → Explained r → ⊥
  lacks_explained_colour r none is = explain_of r is (λ domain problem plan format has_states colour h. no_named f (codes "color") colour_named colour none h.5)

  -- what `tree` was given
  abbrev pub Drawn : Request → Type 0
  Drawn r = IsOf (Some (codes "tree", rows_of f)) r

  -- a request for a tree, whose rows these are
  pub tree_of : {Z : Type 0} → (r : Request) → Drawn r
      → ((domain problem plan : Bor Text) (drawing : Drawing) (has_details : Bool) (colour : Colour) → IsGiven (rows_of f) (Tree domain problem plan drawing has_details colour) → Z) → Z
  tree_of (Plan domain problem bounds seconds has_progress) is use_it = other_command _ _ is.1 (λ same. plan_is_not_tree (sym same))
  tree_of (Verify domain problem plan) is use_it = other_command _ _ is.1 (λ same. verify_is_not_tree (sym same))
  tree_of (Check domain problem format limit is_strict colour) is use_it = other_command _ _ is.1 (λ same. check_is_not_tree (sym same))
  tree_of (Explain domain problem plan format has_states colour) is use_it = other_command _ _ is.1 (λ same. explain_is_not_tree (sym same))
  tree_of (Tree domain problem plan drawing has_details colour) is use_it =
      use_it domain problem plan drawing has_details colour (given_rows _ _ (Tree domain problem plan drawing has_details colour) is refl)

  -- where a file isn't given, no tree is asked for
  pub lacks_drawn_domain : (r : Request) → None ≡ first_value f (codes "DOMAIN") → Drawn r → ⊥
  lacks_drawn_domain r none is = tree_of r is (λ domain problem plan drawing has_details colour h. no_text f (codes "DOMAIN") domain.now none h.0)

  pub lacks_drawn_problem : (r : Request) → None ≡ first_value f (codes "PROBLEM") → Drawn r → ⊥
  lacks_drawn_problem r none is = tree_of r is (λ domain problem plan drawing has_details colour h. no_text f (codes "PROBLEM") problem.now none h.1)

  pub lacks_drawn_plan : (r : Request) → None ≡ first_value f (codes "PLAN") → Drawn r → ⊥
  lacks_drawn_plan r none is = tree_of r is (λ domain problem plan drawing has_details colour h. no_text f (codes "PLAN") plan.now none h.2)

  -- where a word that isn't there or names nothing is to name a drawing, a flag or a time, no tree is asked for
  pub lacks_drawing : (r : Request) → option_and_then drawing_named (first_value f (codes "format")) ≡ None → Drawn r → ⊥
  lacks_drawing r none is = tree_of r is (λ domain problem plan drawing has_details colour h. no_named f (codes "format") drawing_named drawing none h.3)

  pub lacks_details : (r : Request) → option_and_then flag_named (first_value f (codes "details")) ≡ None → Drawn r → ⊥
  lacks_details r none is = tree_of r is (λ domain problem plan drawing has_details colour h. no_named f (codes "details") flag_named has_details none h.4)

  pub lacks_time : (r : Request) → option_and_then colour_named (first_value f (codes "color")) ≡ None → Drawn r → ⊥
  lacks_time r none is = tree_of r is (λ domain problem plan drawing has_details colour h. no_named f (codes "color") colour_named colour none h.5)

-- words with a fault ask for nothing
pub faulty_ask_nothing : (app : App) (words : List Text) (e : Error) → app ≡ htnplan
    → (is_simple_and_free app ≡ true → HasKind (fault_of app words) e) → kind_of e ≢ OutOfMemory → AskNothing words
unfolding faults
faulty_ask_nothing app words e is kinds enough request asked = elim (kinds (ap is_simple_and_free is ∙ line_is_free)) [
  | inl memory ↦ enough memory
  | inr among ↦
      let there : IsAmong (kind_of e) (fault_of htnplan words) = subst (λ (a : App). IsAmong (kind_of e) (fault_of a words)) is among in
      subst (λ (ks : Kinds). IsAmong (kind_of e) ks) asked.sound (among_first (kind_of e) _ (own_fault (read_by words)) there)
]

-- the kind of an error is among those of the words, but for want of memory
pub among_faults : (app : App) (words : List Text) (e : Error) (k : ErrorKind) → app ≡ htnplan
    → (is_simple_and_free app ≡ true → HasKind (fault_of app words) e) → kind_of e ≡ k → (k ≡ OutOfMemory → ⊥) → IsAmong k (faults words)
unfolding faults
among_faults app words e k is kinds is_kind other = elim (kinds (ap is_simple_and_free is ∙ line_is_free)) [
  | inl memory ↦ absurd (other (sym is_kind ∙ memory))
  | inr among ↦
      let there : IsAmong k (fault_of app words) = subst (λ (k : ErrorKind). IsAmong k (fault_of app words)) is_kind among in
      among_first k _ (own_fault (read_by words)) (subst (λ (a : App). IsAmong k (fault_of a words)) is there)
]

-- help is due where the kind says so
pub help_is_due : (app : App) (words : List Text) (e : Error) → app ≡ htnplan
    → (is_simple_and_free app ≡ true → HasKind (fault_of app words) e) → kind_of e ≡ DisplayHelp → HelpIsDue words
help_is_due app words e is kinds help = among_faults app words e DisplayHelp is kinds help (λ bad. cc)

-- and so is the version
pub version_is_due : (app : App) (words : List Text) (e : Error) → app ≡ htnplan
    → (is_simple_and_free app ≡ true → HasKind (fault_of app words) e) → kind_of e ≡ DisplayVersion → VersionIsDue words
version_is_due app words e is kinds version = among_faults app words e DisplayVersion is kinds version (λ bad. cc)

-- the kind of an error is one of those that the words may have, but for want of memory
pub kind_is_possible : (app : App) (words : List Text) (e : Error) → app ≡ htnplan
    → (is_simple_and_free app ≡ true → HasKind (fault_of app words) e) → kind_of e ≢ OutOfMemory → IsPossible words (kind_of e)
unfolding faults
kind_is_possible app words e is kinds enough = elim (kinds (ap is_simple_and_free is ∙ line_is_free)) [
  | inl memory ↦ absurd (enough memory)
  | inr among ↦ inr (among_first (kind_of e) _ (own_fault (read_by words)) (subst (λ (a : App). IsAmong (kind_of e) (fault_of a words)) is among))
]

-- words that are refused as such are the reason
pub words_are_the_reason : (r : Refusal) → RefusesWords r → IsOfWords r
words_are_the_reason (refusal.Help error) h = tt
words_are_the_reason (refusal.Version error) h = tt
words_are_the_reason (refusal.Words error) h = tt
words_are_the_reason refusal.OutOfMemory h = h

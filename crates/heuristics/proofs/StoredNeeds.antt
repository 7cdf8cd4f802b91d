-- What is kept of networks stays right, and tells which configurations may end.
use Rattle.std.proofs.Common.{◌≡◌, ℕ, zero, suc, ◌+◌, ◌<◌, Bool, true, false, not, ◌&&◌, ◌||◌, List, [], ◌∷◌, ◌++◌, inl, inr, length, get_or, map, take, Option, None, Some, slice_get, refl, sym, ap, ap₂, ◌∙◌, subst, arith, length-append}
use Rattle.std.proofs.Math.Seq.{take-suc}
use Rattle.std.specs.List.{list_any}
use Rattle.std.proofs.lemmas.Bool.{or_parts, or_right}
use Rattle.std.proofs.lemmas.List.{get_or_read, map_push}
use Rattle.std.proofs.lemmas.List.Folds.{list_all-append}
use Rattle.std.proofs.lemmas.Option.{none-some, slice_get_read, slice_get_within}
use Rattle.htn_model.specs.Literal.{Literal, holds, literal_holds}
use Rattle.htn_model.specs.Problem.{Network, Problem}
use Rattle.htn_model.specs.State.{State}
use Rattle.network_table.specs.Networks.{IsGrown, IsWhole, network_at, numbered_at}
use Rattle.network_table.specs.Numbered.{config_at, Numbered, nothing}
use Rattle.network_table.specs.declared.table.NetworkTable.{NetworkTable}
use Rattle.network_table.proofs.Growing.{numbers_stay}
use Rattle.state_table.specs.Table.{IsLater, Table}
use Rattle.state_table.specs.declared.compiled.CompiledLiterals.{CompiledLiterals}
use Rattle.state_table.proofs.Keys.{at_push}
use Rattle.state_table.proofs.States.{later_more}
use Rattle.heuristics.specs.Needs.{has_blocked, may_end, needed, needed_goal, Outlook}
use Rattle.heuristics.specs.Places.{all_needed}
use Rattle.heuristics.specs.StoredNeeds.{IsKept, Keeps}

-- it is right by later tables of atoms
pub kept_later : (o : Outlook) (goal : List Literal) (atoms later : Table) (n : Network) (needed : Option CompiledLiterals) → IsLater atoms later → IsKept o goal atoms n needed → IsKept o goal later n needed
kept_later o goal atoms later n None grown kept = kept
kept_later o goal atoms later n (Some c) grown kept = (kept.0, λ after more. kept.1 after (later_more atoms later after grown more))

-- so is all that is kept, as more networks get numbers
pub keeps_later : (o : Outlook) (goal : List Literal) (atoms later : Table) (old new : NetworkTable) (needs : List (Option CompiledLiterals)) → IsLater atoms later → IsWhole old → IsGrown old new
    → Keeps o goal atoms old needs → Keeps o goal later new needs
keeps_later o goal atoms later old new needs grown whole networks keeps = record {
  within = (let long = length-append old.networks networks.more in let are = ap length networks.networks in let low = keeps.within in omega (arith, long, are, low));
  each = λ n needed at.
      (let inside = slice_get_within needs n needed at in
      let low = keeps.within in
      let known : n < length old.networks = omega (arith, inside, low) in
      subst (λ (x : Network). IsKept o goal later x needed) (sym (numbers_stay old new n whole networks known).1)
      (kept_later o goal atoms later (network_at old n) needed grown (keeps.each n needed at)));
}

-- one more network
pub keeps_push : (o : Outlook) (goal : List Literal) (atoms : Table) (networks : NetworkTable) (old new : List (Option CompiledLiterals)) (needed : Option CompiledLiterals)
    → length old < length networks.networks → IsKept o goal atoms (network_at networks (length old)) needed → new ≡ old ++ needed ∷ [] → Keeps o goal atoms networks old → Keeps o goal atoms networks new
keeps_push o goal atoms networks old new needed low right pushed keeps = record {
  within = (let long = length-append old (needed ∷ []) in let is = ap length pushed in omega (arith, low, long, is));
  each = λ n other at. elim (at_push old needed n other (sym (ap (λ l. slice_get l n) pushed) ∙ at)) [
    | inl before ↦ keeps.each n other before
    | inr here ↦ subst (λ k. IsKept o goal atoms (network_at networks k) other) (sym here.0) (subst (IsKept o goal atoms (network_at networks (length old))) here.1 right)
  ];
}

-- of no network nothing is kept
pub keeps_none : (o : Outlook) (goal : List Literal) (atoms : Table) (networks : NetworkTable) (needs : List (Option CompiledLiterals)) → needs ≡ [] → Keeps o goal atoms networks needs
keeps_none o goal atoms networks needs none = record {
  within = (let is = ap length none in omega (arith, is));
  each = λ n needed at. absurd (none-some needed (sym (ap (λ l. slice_get l n) none) ∙ at));
}

-- the network of a number
pub network_of_number : (t : NetworkTable) (n : ℕ) (x : Numbered) → n < length t.networks → x ≡ get_or t.networks n x → x ≡ numbered_at t n
network_of_number t n x low is =
    get_or_read t.networks n x low is nothing

-- what may end by what is needed
pub needed_ends : (problem : Problem) (o : Outlook) (state : State) (n : Network) (b : Bool) → has_blocked o n ≡ false → b ≡ holds state (all_needed o problem.goal n) → b ≡ may_end problem o (config_at state n)
needed_ends problem o state n b free is =
    is
    ∙ list_all-append (literal_holds state) (needed o n) (needed_goal o problem.goal n)
    ∙ sym (ap (λ x. not x && (holds state (needed o n) && holds state (needed_goal o problem.goal n))) free)

-- and what never does
pub blocked_ends : (problem : Problem) (o : Outlook) (state : State) (n : Network) → has_blocked o n ≡ true → false ≡ may_end problem o (config_at state n)
blocked_ends problem o state n blocked = sym (ap (λ x. not x && (holds state (needed o n) && holds state (needed_goal o problem.goal n))) blocked)

-- what is made of one more number
pub mapped_more : {X Y : Type 0} (f : X → Y) (h : ℕ → X) (ids : List ℕ) (k d : ℕ) → k < length ids
    → map f (map h (take (k + 1) ids)) ≡ map f (map h (take k ids)) ++ f (h (get_or ids k d)) ∷ []
mapped_more f h ids k d low =
    let e : k + 1 ≡ suc k = omega arith in
    ap (λ (j : ℕ). map f (map h (take j ids))) e
    ∙ ap (λ (l : List ℕ). map f (map h l)) (take-suc ids k d low)
    ∙ ap (map f) (map_push h (take k ids) (get_or ids k d))
    ∙ map_push f (map h (take k ids)) (h (get_or ids k d))

-- one more thing made of a node's place
pub places_more : {P X Y : Type 0} (f : P → Y) (g : X → Y) (h : ℕ → X) (old new : List P) (p : P) (ids : List ℕ) (k d : ℕ) → k < length ids → new ≡ old ++ p ∷ []
    → f p ≡ g (h (get_or ids k d)) → map f old ≡ map g (map h (take k ids)) → map f new ≡ map g (map h (take (k + 1) ids))
places_more f g h old new p ids k d low pushed same before =
    ap (map f) pushed ∙ map_push f old p ∙ ap₂ (λ l x. l ++ x ∷ []) before same ∙ sym (mapped_more g h ids k d low)

-- what stands at a number is kept of its network
pub kept_at : (o : Outlook) (goal : List Literal) (atoms : Table) (networks : NetworkTable) (needs : List (Option CompiledLiterals)) (n : ℕ) (found needed : Option CompiledLiterals)
    → n < length needs → found ≡ get_or needs n found → found ≡ needed → Keeps o goal atoms networks needs → IsKept o goal atoms (network_at networks n) needed
kept_at o goal atoms networks needs n found needed low read is keeps =
    subst (IsKept o goal atoms (network_at networks n)) is (keeps.each n found (slice_get_read needs (length needs) n found refl low read))

-- none of nothing passes
pub any_none : {X : Type 0} (test : X → Bool) (h : ℕ → X) (ids : List ℕ) → list_any test (map h (take 0 ids)) ≡ false
any_none test h [] = refl
any_none test h (id ∷ ids) = refl

-- neither does one of one more, where that one doesn't
next_none : {X : Type 0} (test : X → Bool) (h : ℕ → X) (ids : List ℕ) (k d : ℕ) → k < length ids → test (h (get_or ids k d)) ≡ false → list_any test (map h (take k ids)) ≡ false
    → list_any test (map h (take (suc k) ids)) ≡ false
next_none test h [] k d low here before = absurd (omega (arith, low))
next_none test h (id ∷ ids) zero d low here before = ap (λ b. b || list_any test (map h (take 0 ids))) here ∙ any_none test h ids
next_none test h (id ∷ ids) (suc k) d low here before =
    let parts = or_parts (test (h id)) (list_any test (map h (take k ids))) before in
    ap (λ b. b || list_any test (map h (take (suc k) ids))) parts.0 ∙ next_none test h ids k d (omega (arith, low)) here parts.1

-- the same, as a loop counts
pub any_more : {X : Type 0} (test : X → Bool) (h : ℕ → X) (ids : List ℕ) (k d : ℕ) → k < length ids → test (h (get_or ids k d)) ≡ false → list_any test (map h (take k ids)) ≡ false
    → list_any test (map h (take (k + 1) ids)) ≡ false
any_more test h ids k d low here before =
    let e : k + 1 ≡ suc k = omega arith in ap (λ (j : ℕ). list_any test (map h (take j ids))) e ∙ next_none test h ids k d low here before

-- where one passes one of all does
pub any_at : {X : Type 0} (test : X → Bool) (h : ℕ → X) (ids : List ℕ) (k d : ℕ) → k < length ids → test (h (get_or ids k d)) ≡ true → list_any test (map h ids) ≡ true
any_at test h [] k d low here = absurd (omega (arith, low))
any_at test h (id ∷ ids) zero d low here = ap (λ b. b || list_any test (map h ids)) here
any_at test h (id ∷ ids) (suc k) d low here = or_right (test (h id)) (list_any test (map h ids)) (any_at test h ids k d (omega (arith, low)) here)

-- Parts of states by their atoms.
use Rattle.std.proofs.Common.{◌≡◌, Bool, true, false, cond, not, ◌&&◌, ◌||◌, Option, Some, None, sym, refl, ap, ◌∙◌, subst}
use Rattle.std.specs.Prelude.{is_some}
use Rattle.std.specs.FinMap.{get-retain_keys}
use Rattle.htn_model.specs.Atom.{Atom}
use Rattle.htn_model.specs.State.{State, contains}
use Rattle.htn_model.specs.AtomOrder.{atom_cmp-same, same_state}
use Rattle.htn_model.proofs.Sets.{contains-union}
use Rattle.call_rules.specs.Frame.{Frame, IsInside, within, beyond, lift, StatesHaveParts}

-- a mark that is there only if a test holds
or_none : (b : Bool) (x : Option (Unit {0})) → is_some (cond b x None) ≡ (is_some x && b)
or_none true None = refl
or_none true (Some u) = refl
or_none false None = refl
or_none false (Some u) = refl

-- the part in a frame has an atom where the state and the frame have it
pub contains-within : (frame : Frame) (s : State) (a : Atom) → contains (within frame s) a ≡ (contains s a && frame a)
contains-within frame s a =
    ap is_some (get-retain_keys s frame a (λ x tie. ap frame (sym (atom_cmp-same a x tie)))) ∙ or_none (frame a) _

-- one of two by a test, as they are united
by_test : (test other part : Bool) → ((other && not test) || (part && test)) ≡ cond test part other
by_test true true true = refl
by_test true true false = refl
by_test true false true = refl
by_test true false false = refl
by_test false true true = refl
by_test false true false = refl
by_test false false true = refl
by_test false false false = refl

-- a lifted state has what is in the frame from the part, and all else from the state
pub contains-lift : (frame : Frame) (s part : State) (a : Atom)
    → contains (lift frame s part) a ≡ cond (frame a) (contains part a) (contains s a)
contains-lift frame s part a =
    contains-union (beyond frame s) (within frame part) a
    ∙ ap (λ b. b || contains (within frame part) a) (contains-within (λ x. not (frame x)) s a)
    ∙ ap (λ b. (contains s a && not (frame a)) || b) (contains-within frame part a)
    ∙ by_test (frame a) (contains s a) (contains part a)

-- the own part makes a state whole
pub whole : (frame : Frame) (s : State) → lift frame s (within frame s) ≡ s
whole frame s =
    same_state (lift frame s (within frame s)) s
    (λ a. contains-lift frame s (within frame s) a
    ∙ ap (λ b. cond (frame a) b (contains s a)) (contains-within frame s a)
    ∙ own (frame a) (contains s a))
  where
    own : (test is : Bool) → cond test (is && test) is ≡ is
    own true true = refl
    own true false = refl
    own false true = refl
    own false false = refl

-- the part of a lifted state in an inner frame
pub inner_part : (outer inner : Frame) (s part : State) → IsInside inner outer
    → within inner (lift outer s part) ≡ within inner part
inner_part outer inner s part inside =
    same_state (within inner (lift outer s part)) (within inner part)
    (λ a. contains-within inner (lift outer s part) a ∙ ap (λ b. b && inner a) (contains-lift outer s part a)
    ∙ by (inner a) (outer a) (contains part a) (contains s a) (inside a) ∙ sym (contains-within inner part a))
  where
    by : (i o p x : Bool) → (i ≡ true → o ≡ true) → (cond o p x && i) ≡ (p && i)
    by true true p x h = refl
    by true false p x h = let e = h refl in cc
    by false true p x h = refl
    by false false true true h = refl
    by false false true false h = refl
    by false false false true h = refl
    by false false false false h = refl

-- a part in an inner frame
pub narrowed_part : (outer inner : Frame) (s : State) → IsInside inner outer
    → within inner (within outer s) ≡ within inner s
narrowed_part outer inner s inside =
    same_state (within inner (within outer s)) (within inner s)
    (λ a. contains-within inner (within outer s) a ∙ ap (λ b. b && inner a) (contains-within outer s a)
    ∙ by (inner a) (outer a) (contains s a) (inside a) ∙ sym (contains-within inner s a))
  where
    by : (i o x : Bool) → (i ≡ true → o ≡ true) → ((x && o) && i) ≡ (x && i)
    by true true true h = refl
    by true true false h = refl
    by true false x h = let e = h refl in cc
    by false true true h = refl
    by false true false h = refl
    by false false true h = refl
    by false false false h = refl

-- what is lifted in an inner frame may be lifted there before
pub nested_lift : (outer inner : Frame) (s part own : State) → IsInside inner outer
    → lift inner (lift outer s part) own ≡ lift outer s (lift inner part own)
nested_lift outer inner s part own inside =
    same_state (lift inner (lift outer s part) own) (lift outer s (lift inner part own))
    (λ a. contains-lift inner (lift outer s part) own a
    ∙ ap (λ b. cond (inner a) (contains own a) b) (contains-lift outer s part a)
    ∙ by (inner a) (outer a) (contains s a) (contains part a) (contains own a) (inside a)
    ∙ sym (ap (λ b. cond (outer a) b (contains s a)) (contains-lift inner part own a))
    ∙ sym (contains-lift outer s (lift inner part own) a))
  where
    by : (i o x p q : Bool) → (i ≡ true → o ≡ true) → cond i q (cond o p x) ≡ cond o (cond i q p) x
    by true true x p q h = refl
    by true false x p q h = let e = h refl in cc
    by false true x p q h = refl
    by false false x p q h = refl

-- states that agree in a frame have the same atoms there
pub agree_at : (frame : Frame) (s t : State) (a : Atom) → within frame s ≡ within frame t
    → (contains s a && frame a) ≡ (contains t a && frame a)
agree_at frame s t a same =
    sym (contains-within frame s a) ∙ ap (λ (u : State). contains u a) same ∙ contains-within frame t a

-- states that agree in a frame agree there when the same is lifted
pub agreed_lift : (frame other : Frame) (s t part : State) → within frame s ≡ within frame t
    → within frame (lift other s part) ≡ within frame (lift other t part)
agreed_lift frame other s t part same =
    same_state (within frame (lift other s part)) (within frame (lift other t part))
    (λ a. contains-within frame (lift other s part) a ∙ ap (λ b. b && frame a) (contains-lift other s part a)
    ∙ by (other a) (frame a) (contains part a) (contains s a) (contains t a) (agree_at frame s t a same)
    ∙ sym (ap (λ b. b && frame a) (contains-lift other t part a))
    ∙ sym (contains-within frame (lift other t part) a))
  where
    by : (o f p x y : Bool) → (x && f) ≡ (y && f) → (cond o p x && f) ≡ (cond o p y && f)
    by true f p x y h = refl
    by false f p x y h = h

-- states have parts
pub states_have_parts : StatesHaveParts
states_have_parts = record {
  parted = contains-within;
  lifted = contains-lift;
  whole = whole;
  inner = inner_part;
  narrowed = narrowed_part;
  nested = nested_lift;
  agreed = agreed_lift;
}

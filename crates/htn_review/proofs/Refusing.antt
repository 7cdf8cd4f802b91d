-- Why a run is refused.
use Rattle.std.proofs.Common.{◌≢◌, ℕ, List, Result, Ok, Err, IfOk, IfErr, subst}
use Rattle.word_machine.specs.declared.bounds.Bounds.{Bounds}
use Rattle.htn_review.specs.Headline.{IsWant, Refuses}
use Rattle.htn_review.specs.Named.{IsNamedOf}
use Rattle.htn_review.specs.declared.outcome.RunFault.{RunFault}
use Rattle.htn_review.specs.declared.outcome.RunFault.TheVariants.{Output}
use Rattle.htn_review.specs.declared.outcome.RunFault.TheVariants as fault

-- a refusal is no fault of the output
pub refused_output : (domain problem : List ℕ) (bounds : Bounds) (f : RunFault) → Refuses domain problem bounds f → f ≢ Output
refused_output domain problem bounds f h e = let P : RunFault → Type 0 = λ x. Refuses domain problem bounds x in subst P e h

-- what follows of an answer follows of a result that may be one
pub ok_more : {T E : Type 0} (P Q : T → Type 0) (r : Result T E) → ((t : T) → P t → Q t) → IfOk r P → IfOk r Q
ok_more P Q (Ok t) more h = more t h
ok_more P Q (Err e) more h = tt

-- what follows of two things that an answer has follows of a result that may be one
pub ok_both : {T E : Type 0} (P Q R : T → Type 0) (r : Result T E) → ((t : T) → P t → Q t → R t) → IfOk r P → IfOk r Q → IfOk r R
ok_both P Q R (Ok t) more h k = more t h k
ok_both P Q R (Err e) more h k = tt

-- what follows of a fault follows of a result that may be one
pub err_more : {T E : Type 0} (P Q : E → Type 0) (r : Result T E) → ((e : E) → P e → Q e) → IfErr r P → IfErr r Q
err_more P Q (Ok t) more h = tt
err_more P Q (Err e) more h = more e h

-- a want is a refusal
pub want_refuses : (domain problem : List ℕ) (bounds : Bounds) (f : RunFault) → IsWant bounds f → Refuses domain problem bounds f
want_refuses domain problem bounds (fault.Domain f) h = absurd h
want_refuses domain problem bounds (fault.Problem f) h = absurd h
want_refuses domain problem bounds (fault.Check f) h = absurd h
want_refuses domain problem bounds (fault.Plan f) h = absurd h
want_refuses domain problem bounds fault.OutOfMemory h = tt
want_refuses domain problem bounds fault.NoThread h = h
want_refuses domain problem bounds fault.Output h = absurd h

-- what is no fault of two trees is named as it is
pub want_is_named : (domain problem : List ℕ) (bounds : Bounds) (f : RunFault) → (f ≢ Output → IsWant bounds f) → IsNamedOf domain problem f
want_is_named domain problem bounds (fault.Domain f) h = tt
want_is_named domain problem bounds (fault.Problem f) h = tt
want_is_named domain problem bounds (fault.Check f) h = absurd (h (λ e. cc))
want_is_named domain problem bounds (fault.Plan f) h = tt
want_is_named domain problem bounds fault.OutOfMemory h = tt
want_is_named domain problem bounds fault.NoThread h = tt
want_is_named domain problem bounds fault.Output h = tt

-- what holds of all faults holds of a result that may be one
pub at_error : {T E : Type 0} (P : E → Type 0) (r : Result T E) → ((e : E) → P e) → IfErr r P
at_error P (Ok x) h = tt
at_error P (Err e) h = h e

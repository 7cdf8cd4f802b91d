-- Facts of what a call returned.
use Rattle.std.specs.Prelude.{Option, Some, None, Result, Ok, Err, IfNone, IfOk, OnErr, OnOk}

-- what follows where it did not fail
pub then_on_ok : {A E P Q : Type 0} (r : Result A E) → (P → Q) → OnOk r P → OnOk r Q
then_on_ok (Ok a) implies p = implies p
then_on_ok (Err e) implies p = tt

-- what holds holds where it returned nothing
pub none_anyway : {A P : Type 0} (r : Option A) → P → IfNone r P
none_anyway None p = p
none_anyway (Some a) p = tt

-- what follows of two that hold where it did not fail
pub both_on_ok : {A E P Q R : Type 0} (r : Result A E) → (P → Q → R) → OnOk r P → OnOk r Q → OnOk r R
both_on_ok (Ok a) implies p q = implies p q
both_on_ok (Err e) implies p q = tt

-- what follows of two that hold of what it returned
pub both_if_ok : {A E : Type 0} (P Q R : A → Type 0) (r : Result A E) → ((a : A) → P a → Q a → R a) → IfOk r P → IfOk r Q → IfOk r R
both_if_ok P Q R (Ok a) implies p q = implies a p q
both_if_ok P Q R (Err e) implies p q = tt

-- what holds at any rate holds where a call failed
pub on_error : {A E P : Type 0} (r : Result A E) → P → OnErr r P
on_error (Ok a) p = tt
on_error (Err e) p = p

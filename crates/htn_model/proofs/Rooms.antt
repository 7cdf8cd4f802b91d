-- Room, acceptance and the verdicts.
use Rattle.htn_model.specs.Problem.{Problem, IsGrounded}
use Rattle.htn_model.specs.PlanFile.{Naming}
use Rattle.htn_model.specs.Shown.{FitIsAcceptance, ValidIsAcceptance, RoomIsVerdict}
use Rattle.htn_model.proofs.Accepted.{fitting_accepted}
use Rattle.htn_model.proofs.Fitted.{accepted_fits}
use Rattle.htn_model.proofs.Proper.{accepted_proper}

-- room is acceptance, for a forest of lines that run
pub fit_is_acceptance : (naming : Naming) (problem : Problem) → IsGrounded problem → FitIsAcceptance naming problem
fit_is_acceptance naming problem grounded = record { accepted = fitting_accepted naming problem grounded; fits = accepted_fits naming problem grounded }

-- the verdict `valid` is acceptance, for every file
pub valid_is_acceptance : (naming : Naming) (problem : Problem) → ValidIsAcceptance naming problem
valid_is_acceptance naming problem file = (
  (λ v. v.3),
  (λ a. let proper = accepted_proper naming problem file a in (proper.0, proper.1, proper.2, a)),
)

-- so room tells the last two verdicts apart
pub room_is_verdict : (naming : Naming) (problem : Problem) → IsGrounded problem → RoomIsVerdict naming problem
room_is_verdict naming problem grounded = record {
  is_valid = λ file states plans forest runs shows. (
    (λ fits. (valid_is_acceptance naming problem file).1 (fitting_accepted naming problem grounded file states plans forest runs shows fits)),
    (λ v. accepted_fits naming problem grounded file states plans forest runs shows v.3),
  );
  is_not = λ file states plans forest have ends runs shows. (
    (λ none. (forest, have, ends, (λ a. none (accepted_fits naming problem grounded file states plans forest runs shows a)))),
    (λ v fits. v.3 (fitting_accepted naming problem grounded file states plans forest runs shows fits)),
  );
}

use Rattle.htn_model.proofs.Rooms.{fit_is_acceptance, room_is_verdict}
use Rattle.htn_model.proofs.plans.fit_is_acceptance.Goals as goal

pub returns : goal.returns
returns c = record { same = fit_is_acceptance; verdict = room_is_verdict }

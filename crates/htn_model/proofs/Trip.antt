-- The truck's trip, computed.
use Rattle.std.proofs.Common.{[], ◌∷◌, refl}
use Rattle.htn_model.specs.Problem.{IsGrounded}
use Rattle.htn_model.specs.Tree.{IsSolution}
use Rattle.htn_model.specs.Code.{IsCode}
use Rattle.htn_model.specs.Sketch.{sketched}
use Rattle.htn_model.specs.Road.{trip, trip_plan, TripIsPlanned}
use Rattle.htn_model.proofs.Searches.{is_answer, no_answer}
use Rattle.htn_model.proofs.Grounds.{grounded_from}
use Rattle.htn_model.proofs.Examples.{solves}

-- the trip's problem is grounded
trip_grounded : IsGrounded (sketched trip)
trip_grounded = grounded_from trip refl

-- the code of the plan
trip_code : IsCode (sketched trip) trip_plan (0 ∷ 2 ∷ 0 ∷ 0 ∷ 6 ∷ 0 ∷ 0 ∷ 0 ∷ 0 ∷ [])
trip_code = (
  refl,
  (
    (_, _, refl),
    (
      0,
      _,
      refl,
      refl,
      (
        0,
        _,
        refl,
        refl,
        (
          (_, _, refl),
          (
            0,
            _,
            refl,
            refl,
            (
              0,
              _,
              refl,
              refl,
              (
                (_, _, refl),
                (0, _, refl, refl, (refl, refl)),
              ),
            ),
          ),
        ),
      ),
    ),
  ),
)

-- the plan is a solution
trip_solves : IsSolution (sketched trip) trip_plan
trip_solves =
    solves trip trip_plan _ _ refl refl
    ((_, refl, refl, (tt, ((_, refl), ((_, refl, refl, (tt, ((_, refl), ((_, refl, refl, (tt, tt)), tt)))), tt)))), tt)
    ([], _, refl, ([], _, refl, ([], _, refl, ([], _, refl, ([], _, refl, refl)))))
    ((refl, (refl, (refl, (refl, tt)))), ((refl, (refl, (refl, tt))), ((refl, (refl, tt)), ((refl, tt), (tt, tt)))))
    refl refl

-- the plan is the answer, and that is its code
pub trip_is_planned : TripIsPlanned
trip_is_planned = record {
  answer = is_answer trip 8 0 (2 ∷ 0 ∷ 0 ∷ 6 ∷ 0 ∷ 0 ∷ 0 ∷ 0 ∷ []) trip_plan trip_grounded refl refl trip_solves trip_code;
  code = trip_code;
  too_few = no_answer trip 7 trip_grounded refl;
}

-- When two questions are equal, and what they feed a hasher.
use Rattle.std.specs.Prelude.{◌≡◌, Bool, ◌++◌, nat_eq}
use Rattle.std.specs.Bool.{Decides}
use Rattle.std.specs.Cmp.{IsEquivalence, IsPartialEquivalence, partial_equiv_from_equiv, unsigned_Decides, decided, first_so, second_so}
use Rattle.std.specs.Ordering.{on, eq_of_both}
use Rattle.std.specs.Hash as fed
use Rattle.std.specs.Hash.{HashWrites, Alike, same_Alike}
use Rattle.std.proofs.Common.{ap}
use Rattle.htn_model.specs.AtomOrder.{both_true}
use Rattle.plan_room.specs.declared.rooms.Question.{Question}

-- equal lines and equal gaps
abbrev pub question_eq : Question → Question → Bool
question_eq = eq_of_both (on (λ q. q.line) nat_eq) (on (λ q. q.gap) nat_eq)

pub question_eq-decides : (p q : Question) → Decides (question_eq p q) (p ≡ q)
question_eq-decides p q =
    let lines = unsigned_Decides p.line q.line in
    let gaps = unsigned_Decides p.gap q.gap in (
      λ e. let line = lines.0 (first_so _ _ e) in let gap = gaps.0 (second_so _ _ e) in λ i. record { line = line i; gap = gap i },
      λ e. both_true _ _ (lines.1 (ap (λ (x : Question). x.line) e)) (gaps.1 (ap (λ (x : Question). x.gap) e)),
    )

pub question_eq-laws : IsEquivalence question_eq
question_eq-laws = decided question_eq question_eq-decides

pub question_eq-partial : IsPartialEquivalence question_eq
question_eq-partial = partial_equiv_from_equiv question_eq-laws

-- what a question feeds to a hasher
abbrev pub question_hash : Question → HashWrites
question_hash q = fed.usize q.line ++ fed.usize q.gap

pub question_hash-Alike : Alike question_eq question_hash
question_hash-Alike = same_Alike question_hash question_eq-decides

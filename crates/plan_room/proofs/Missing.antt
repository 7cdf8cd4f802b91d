-- With each answer fewer questions are left.
use Rattle.std.proofs.Common.{◌≡◌, ℕ, zero, suc, ◌≤◌, ◌<◌, inl, inr, Bool, true, false, cond, Option, Some, None, sym, refl, ap, ◌∙◌, subst, arith}
use Rattle.std.proofs.lemmas.Bool.{cases_eq}
use Rattle.plan_room.specs.Lines.{Lines}
use Rattle.plan_room.specs.Memo.{known}
use Rattle.plan_room.specs.Questions.{question_eq, question_eq-decides}
use Rattle.plan_room.specs.Frames.{sum_to, one_if_none, missing}
use Rattle.plan_room.specs.declared.rooms.Question.{Question}
use Rattle.plan_room.specs.declared.memo.Memo.{Memo}

-- a sum of no greater numbers is no greater
sum_le : (f g : ℕ → ℕ) (n : ℕ) → ((k : ℕ) → f k ≤ g k) → sum_to f n ≤ sum_to g n
sum_le f g zero all = omega arith
sum_le f g (suc n) all = let more = sum_le f g n all in let here = all n in omega arith

-- and smaller, where one of them is
sum_less : (f g : ℕ → ℕ) (n j : ℕ) → ((k : ℕ) → f k ≤ g k) → j < n → f j < g j → sum_to f n < sum_to g n
sum_less f g zero j all low less = absurd (omega arith)
sum_less f g (suc n) j all low less = elim (cases_eq j n) [
  | inl same ↦ (let more = sum_le f g n all in let here = subst (λ k. f k < g k) same less in omega arith)
  | inr other ↦ (let more = sum_less f g n j all (omega arith) less in let here = all n in omega arith)
]

-- an answer more doesn't count more
one_less : {X : Type 0} (b : Bool) (e : X) (o : Option X) → one_if_none (cond b (Some e) o) ≤ one_if_none o
one_less true e None = omega arith
one_less true e (Some x) = omega arith
one_less false e o = omega arith

module _ (l : Lines) (old new : Memo) (question : Question) (end : Option ℕ)
    (noted : (q : Question) → known new q ≡ cond (question_eq question q) (Some end) (known old q)) where
  -- no question is open that wasn't
  no_more : (q : Question) → one_if_none (known new q) ≤ one_if_none (known old q)
  no_more q = subst (λ o. one_if_none o ≤ one_if_none (known old q)) (sym (noted q)) (one_less (question_eq question q) end (known old q))

  -- the question has its answer now
  pub known_now : known new question ≡ Some end
  known_now = noted question ∙ ap (λ b. cond b (Some end) (known old question)) ((question_eq-decides question question).1 refl)

  -- so it isn't open any more, if it was
  fewer : known old question ≡ None → one_if_none (known new question) < one_if_none (known old question)
  fewer unknown = (let e = ap one_if_none known_now in let f = ap one_if_none unknown in omega arith)

  -- and fewer questions are
  pub missing_less : known old question ≡ None → question.line ≤ l.count → question.gap ≤ l.actions → missing l new < missing l old
  missing_less unknown line gap =
      sum_less (λ i. sum_to (λ g. one_if_none (known new (record { line = i; gap = g }))) (suc l.actions)) (λ i. sum_to (λ g. one_if_none (known old (record { line = i; gap = g }))) (suc l.actions))
      (suc l.count) question.line
      (λ i. sum_le (λ g. one_if_none (known new (record { line = i; gap = g }))) (λ g. one_if_none (known old (record { line = i; gap = g }))) (suc l.actions) (λ g. no_more (record { line = i; gap = g })))
      (omega arith)
      (sum_less (λ g. one_if_none (known new (record { line = question.line; gap = g }))) (λ g. one_if_none (known old (record { line = question.line; gap = g }))) (suc l.actions) question.gap
      (λ g. no_more (record { line = question.line; gap = g })) (omega arith) (fewer unknown))

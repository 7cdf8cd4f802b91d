-- The solution of the least word is the answer.
use Rattle.std.proofs.Common.{◌≡◌, ℕ, suc, List, [], ◌∷◌, length, Option, Some, None, inl, inr, refl, ap, ap₂, ◌∙◌, subst, arith}
use Rattle.htn_model.specs.Problem.{Problem, IsGrounded}
use Rattle.htn_model.specs.Tree.{Solution, IsSolution, total_size}
use Rattle.htn_model.specs.Code.{IsCode}
use Rattle.htn_model.specs.Answer.{IsNoGreater, IsNoWorse, IsAnswer, IsNoLater, IsLeastWord, AnswersBy}
use Rattle.htn_model.specs.OneToOne.{OneToOne, LeastWordAnswers}
use Rattle.htn_model.proofs.OneToOne.{one_to_one}

-- words of one length, neither of which is greater, are equal
one_least : (v w : List ℕ) → length v ≡ length w → IsNoGreater v w → IsNoGreater w v → v ≡ w
one_least [] [] long h g = refl
one_least [] (y ∷ w) long h g = absurd (omega arith)
one_least (x ∷ v) [] long h g = absurd (omega arith)
one_least (x ∷ v) (y ∷ w) long (inl h) (inl g) = absurd (omega arith)
one_least (x ∷ v) (y ∷ w) long (inl h) (inr g) = absurd (let e = g.0 in omega arith)
one_least (x ∷ v) (y ∷ w) long (inr h) (inl g) = absurd (let e = h.0 in omega arith)
one_least (x ∷ v) (y ∷ w) long (inr h) (inr g) = ap₂ ◌∷◌ h.0 (one_least v w (omega arith) h.1 g.1)

module _ (problem : Problem) (grounded : IsGrounded problem) where
  -- solutions and finishing words are one to one
  laws : OneToOne problem
  laws = one_to_one problem grounded

  -- the solution of the least word is no worse than another
  no_worse : (s other : Solution) (word v : List ℕ) → IsSolution problem s → IsCode problem s word → length word ≡ suc (total_size s.trees)
      → IsSolution problem other → IsCode problem other v → length v ≡ suc (total_size other.trees) → IsNoLater word v → IsNoWorse problem s other
  no_worse s other word v a p m b q n (inl shorter) = inl (omega arith)
  no_worse s other word v a p m b q n (inr same) =
      inr (
        (let e = same.0 in omega arith),
        λ x y g h. subst (λ l. IsNoGreater l y) (laws.one_code s word x a p g) (subst (λ l. IsNoGreater word l) (laws.one_code other v y b q h) same.1),
      )

  -- a code is longer by one than its solution has nodes
  long_code : (s : Solution) (word : List ℕ) → IsSolution problem s → IsCode problem s word → length word ≡ suc (total_size s.trees)
  long_code s word a p = let c = laws.code s a in ap length (laws.one_code s word c.0 a p c.1) ∙ c.2

  -- the solution of the least word is the answer
  answer : (bound : ℕ) (word : Option (List ℕ)) (s : Option Solution) → IsLeastWord problem bound word → AnswersBy problem word s → IsAnswer problem bound s
  answer bound None None least by = λ s solves. (let c = laws.code s solves in let l = least c.0 c.3 in let n = c.2 in omega arith)
  answer bound None (Some s) least by = absurd by
  answer bound (Some word) None least by = absurd by
  answer bound (Some word) (Some s) least by =
      let long = long_code s word by.0 by.1 in (
        by.0,
        (let l = least.1 in omega arith),
        λ other solves. (let c = laws.code other solves in no_worse s other word c.0 by.0 by.1 long solves c.1 c.2 (least.2 c.0 c.3)),
      )

  -- two answers have one code
  same_code : (r s : Solution) (v w : List ℕ) → IsSolution problem r → IsSolution problem s → IsCode problem r v → IsCode problem s w
      → length v ≡ suc (total_size r.trees) → length w ≡ suc (total_size s.trees) → IsNoWorse problem r s → IsNoWorse problem s r → v ≡ w
  same_code r s v w a b p q m n (inl h) (inl g) = absurd (omega arith)
  same_code r s v w a b p q m n (inl h) (inr g) = absurd (let e = g.0 in omega arith)
  same_code r s v w a b p q m n (inr h) (inl g) = absurd (let e = h.0 in omega arith)
  same_code r s v w a b p q m n (inr h) (inr g) = one_least v w (let e = h.0 in omega arith) (h.1 v w p q) (g.1 w v q p)

  -- a problem and a bound have one answer
  one_answer : (bound : ℕ) (r s : Option Solution) → IsAnswer problem bound r → IsAnswer problem bound s → r ≡ s
  one_answer bound None None h g = refl
  one_answer bound None (Some s) h g = absurd (let l = h s g.0 in let m = g.1 in omega arith)
  one_answer bound (Some r) None h g = absurd (let l = g r h.0 in let m = h.1 in omega arith)
  one_answer bound (Some r) (Some s) h g =
      let c = laws.code r h.0 in
      let d = laws.code s g.0 in
      let same = same_code r s c.0 d.0 h.0 g.0 c.1 d.1 c.2 d.2 (h.2 s g.0) (g.2 r h.0) in
      ap Some (laws.one_solution r s d.0 h.0 g.0 (subst (IsCode problem r) same c.1) d.1)

  -- the least word answers
  pub least_word_answers : LeastWordAnswers problem
  least_word_answers = record { answer = answer; one_answer = one_answer }

-- Values by their numbers, equal ones once.
use Rattle.std.specs.Prelude.{◌≡◌, ℕ, ◌<◌, ◌++◌, Bool, true, false, List, All, Contains, get_or, length}

-- some values of a batch were added
abbrev pub IsGrownBy : {X : Type 0} → List X → List X → List X → Type 0
IsGrownBy {X} batch old new = (more : List X) × (new ≡ old ++ more) × All (Contains batch) more

module _ {T : Type 0} (eq : T → T → Bool) where
  -- no two are equal
  abbrev pub AreApart : List T → Type 0
  AreApart values = (m n : ℕ) (d : T) → m < n → n < length values → eq (get_or values m d) (get_or values n d) ≡ false

  -- the number is that of a value which is equal to this one
  abbrev pub IsNumberOf : List T → T → ℕ → Type 0
  IsNumberOf values x number = (number < length values) × ((d : T) → eq x (get_or values number d) ≡ true)

  -- by their places, the numbers of others
  abbrev pub AreNumbersOf : List T → List T → List ℕ → Type 0
  AreNumbersOf values batch numbers =
      (length numbers ≡ length batch)
      × ((i : ℕ) (d : T) → i < length batch → IsNumberOf values (get_or batch i d) (get_or numbers i 0))

  -- values of a batch were added, each that had no equal; by its place in the batch, the number of each
  pub record HasInterned (batch old new : List T) (numbers : List ℕ) : Type 0 where
    pub grown : IsGrownBy batch old new
    pub numbers_are : AreNumbersOf new batch numbers

-- what a list has now was there or comes after
abbrev pub HasGrown : {X : Type 0} → List X → List X → Type 0
HasGrown {X} old new = (more : List X) × (new ≡ old ++ more)

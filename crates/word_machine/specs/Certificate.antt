-- Certificates of least finishing words: the way of a word, and why no word before it finishes.
use Rattle.std.specs.Prelude.{◌≡◌, ℕ, ◌<◌, ◌≤◌, List, [], ◌∷◌, length, Some, slice_get}
use Rattle.word_machine.specs.Words.{Leads}
use Rattle.word_machine.specs.Machine.{WordMachine, IsStep, IsDone}

module _ {Configuration : Type 0} (m : WordMachine Configuration) (low : Configuration → ℕ) where
  -- admissible: no numbers that lead from a configuration to a done one are fewer than the bound says of it
  abbrev pub IsBelow : Type 0
  IsBelow =
      (numbers : List ℕ) (c last : Configuration) → Leads (IsStep m) c numbers last → IsDone m last
      → low c ≤ length numbers

  -- each lesser number that leads on from a configuration leads to where more steps are left than these
  abbrev pub LesserTakeMore : Configuration → ℕ → ℕ → Type 0
  LesserTakeMore c number left = (lesser : ℕ) (d : Configuration) → lesser < number → IsStep m c lesser d → left < low d

  -- the numbers lead from a configuration to a done one, and all along their way each lesser number takes more steps
  abbrev pub IsLeastWay : Configuration → List ℕ → Type 0
  IsLeastWay c [] = IsDone m c
  IsLeastWay c (number ∷ numbers) =
      LesserTakeMore c number (length numbers)
      × (next : Configuration)
      × IsStep m c number next
      × IsLeastWay next numbers

  -- the numbers are a least way from the initial configuration at this place; those before it take more steps, and none
  -- takes fewer
  pub record IsCertificateFrom (initial : ℕ) (numbers : List ℕ) : Type 0 where
    pub from : Configuration
    pub at : slice_get m.initials initial ≡ Some from
    pub way : IsLeastWay from numbers
    pub before : (i : ℕ) (c : Configuration) → i < initial → slice_get m.initials i ≡ Some c → length numbers < low c
    pub none_fewer : (i : ℕ) (c : Configuration) → slice_get m.initials i ≡ Some c → length numbers ≤ low c

  -- a certificate that a word is the least finishing one: it names an initial configuration, and a least way from there
  abbrev pub IsCertificate : List ℕ → Type 0
  IsCertificate [] = ⊥
  IsCertificate (initial ∷ numbers) = IsCertificateFrom initial numbers

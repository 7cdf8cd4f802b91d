-- Tallies by numbers, as more get them.
use Rattle.std.proofs.Common.{◌≡◌, List, ◌++◌, refl, sym, ap, subst, arith, length-append}
use Rattle.std.proofs.lemmas.List.{get_or_append_left}
use Rattle.word_machine.specs.Meaning.{IsGrown, IsOneToOne}
use Rattle.tests.specs.declared.tallies.Tally.{Tally}
use Rattle.tests.specs.declared.tallies.Reached.{Reached}
use Rattle.tests.specs.declared.tallies.Reached.TheVariants.{Known, New}
use Rattle.tests.specs.Tallies.{AreDistinct, nothing, tally_meaning, written, is_written}

-- no tally has two numbers
pub one_to_one : (tallies : List Tally) → AreDistinct tallies → IsOneToOne (tally_meaning tallies)
one_to_one tallies distinct c d known known' same = ap (λ n. record { number = n }) (distinct c.number d.number known known' same)

-- what was written stays so
allowed : (tallies more : List Tally) (r : Reached) → is_written tallies r → is_written (tallies ++ more) r
allowed tallies more (Known c) known = omega (arith, length-append tallies more)
allowed tallies more (New tally) known = tt

-- a known configuration stands for the same tally after tallies are appended
same_reached : (tallies more : List Tally) (r : Reached) → is_written tallies r → written (tallies ++ more) r ≡ written tallies r
same_reached tallies more (Known c) known = get_or_append_left tallies more nothing c.number known
same_reached tallies more (New tally) known = refl

-- more tallies, and those before as they were
pub grown : (old more new : List Tally) → new ≡ old ++ more → IsGrown (tally_meaning old) (tally_meaning new)
grown old more new is = subst (λ l. IsGrown (tally_meaning old) (tally_meaning l)) (sym is) (record {
  known = λ c known. omega (arith, length-append old more);
  same = λ c known. get_or_append_left old more nothing c.number known;
  allowed = allowed old more;
  same_reached = same_reached old more;
})

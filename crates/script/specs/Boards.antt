-- The policies that a script can name, as its board takes them: in a bank, the first by periods,
-- the second a strip that is played.
use Rattle.std.specs.Prelude.{ℕ, List}
use Rattle.policy.specs.Banks.{bank_meaning}
use Rattle.policy.specs.Course.{Meaning}
use Rattle.periodic.specs.Meanings.{periodic_meaning}
use Rattle.periodic.specs.declared.phase.Phase.{Phase}
use Rattle.strip.specs.Meanings.{strip_meaning}
use Rattle.strip.specs.Positions.{Position}

-- where such a policy stands: the two of the bank, and the number of the used one
abbrev pub BankPosition : Type 0
BankPosition = List Phase × Position × ℕ

-- what they mean
abbrev pub policies : Meaning BankPosition
policies = bank_meaning periodic_meaning strip_meaning

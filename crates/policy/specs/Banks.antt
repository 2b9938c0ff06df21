-- A bank: the positions of two policies, and the number of the used one, 1 for the first.
use Rattle.std.specs.Prelude.{ℕ}
use Rattle.policy.specs.BankLaws
use Rattle.policy.specs.Course.{Meaning}

-- what a bank of two kinds means
abbrev pub bank_meaning : {A B : Type 0} → Meaning A → Meaning B → Meaning (A × B × ℕ)
bank_meaning first second =
    record {
      course = BankLaws.course first second;
      next = BankLaws.next first second;
      alike = BankLaws.alike first second;
      onward = BankLaws.onward first second;
      agree = BankLaws.agree first second;
    }

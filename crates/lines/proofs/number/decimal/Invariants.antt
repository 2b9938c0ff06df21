use Rattle.std.proofs.Common.{◌≡◌, ◌^◌, ◌<◌, drop}
use Rattle.lines.specs.Numeral.{decimal}
use Rattle.lines.proofs.number.decimal.Given as goal

-- what is left, read on from `value`, has the value of all the digits
abbrev pub invariant-loop-byte : goal.invariant-loop-byte
invariant-loop-byte l = record {
  same_value : decimal l.value (drop l.byte-index l.digits) ≡ decimal 0 l.digits;
  bound : l.value < 10 ^ l.byte-index;
}

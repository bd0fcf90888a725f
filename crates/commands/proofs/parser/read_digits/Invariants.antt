-- The value so far is that of the digits so far.
use Rattle.std.proofs.Common.{◌≡◌, take, Some}
use Rattle.commands.specs.Numbers.{read_digits}
use Rattle.commands.proofs.parser.read_digits.Given as goal

abbrev pub invariant-loop-byte : goal.invariant-loop-byte
invariant-loop-byte l = Some l.value ≡ read_digits l.radix (take l.byte-index l.text)

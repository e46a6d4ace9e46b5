-- What was passed over so far leaves the rest to decide.
use Rattle.std.proofs.Common.{◌≡◌, drop}
use Rattle.text_hex.specs.Hex.{without}
use Rattle.text_hex.proofs.next.Given as goal

abbrev pub invariant-loop-i : goal.invariant-loop-i
invariant-loop-i l = without l.passed (drop l.i l.text) ≡ without l.passed l.text

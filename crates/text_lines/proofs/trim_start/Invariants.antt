-- The blanks passed so far leave the trimmed line as it was.
use Rattle.std.proofs.Common.{◌≡◌, length}
use Rattle.text_lines.specs.Words.{trimmed}
use Rattle.text_lines.proofs.trim_start.Given as goal

abbrev pub invariant-loop-rest : goal.invariant-loop-rest
invariant-loop-rest l = trimmed l.rest ≡ trimmed l.line

abbrev pub decreases-loop-rest : goal.decreases-loop-rest
decreases-loop-rest l = length l.rest

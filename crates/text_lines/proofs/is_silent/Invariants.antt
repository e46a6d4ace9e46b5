-- The blanks passed so far leave the line's rest to decide.
use Rattle.std.proofs.Common.{◌≡◌, drop}
use Rattle.text_lines.specs.Lines.{silent}
use Rattle.text_lines.proofs.is_silent.Given as goal

abbrev pub invariant-loop-c : goal.invariant-loop-c
invariant-loop-c l = silent (drop l.c-index l.line) ≡ silent l.line

-- What is left to pass over leads from the line's rest to the word asked for.
use Rattle.std.proofs.Common.{◌-◌, ◌≡◌}
use Rattle.text_lines.specs.Words.{word_of}
use Rattle.text_lines.proofs.word.Given as goal

abbrev pub invariant-loop : goal.invariant-loop
invariant-loop l = word_of (l.k - l.counter) l.rest ≡ word_of l.k l.line

-- The letters looked at so far leave the word's rest to decide.
use Rattle.std.proofs.Common.{◌≡◌, drop}
use Rattle.text_lines.specs.Words.{each_once}
use Rattle.text_lines.proofs.once.Given as goal

abbrev pub invariant-loop-i : goal.invariant-loop-i
invariant-loop-i l = each_once l.letters (drop l.i l.word) ≡ each_once l.letters l.word

-- `Filling`: the bytes put so far are the first of the text's, and the rest of the text holds the others.
use Rattle.std.proofs.Common.{length}
use Rattle.text_hex.specs.Hex.{values, pairs, without}
use Rattle.text_hex.specs.HexLaws.{Filling}
use Rattle.text_hex.proofs.fill.Given as goal

abbrev pub invariant-loop-upper : goal.invariant-loop-upper
invariant-loop-upper l = Filling l.passed l.rest (pairs (values (without l.passed l.text))) l.initial.out l.out l.at

abbrev pub decreases-loop-upper : goal.decreases-loop-upper
decreases-loop-upper l = length l.rest

-- The number of the whole word is the number of its rest behind what was read.
use Rattle.std.proofs.Common.{◌≤◌, ◌≡◌, drop}
use Rattle.text_hex.specs.Hex.{values, number_in}
use Rattle.text_hex.specs.HexLaws.{numbered}
use Rattle.text_hex.proofs.read_number.Given as goal

abbrev pub invariant-loop-c : goal.invariant-loop-c
invariant-loop-c l = record {
  bounded : l.v ≤ l.most;
  leads : numbered l.base l.most l.v (values (drop l.c-index l.word)) ≡ number_in l.base l.most l.word;
}

-- The digits counted so far and those of the rest of the text make up the count of the whole.
use Rattle.std.proofs.Common.{◌≤◌, ◌≡◌, drop}
use Rattle.text_hex.specs.Hex.{without}
use Rattle.text_hex.specs.Scanning.{scanned}
use Rattle.text_hex.proofs.count_digits.Given as goal

abbrev pub invariant-loop-c : goal.invariant-loop-c
invariant-loop-c l = record {
  few : l.n ≤ l.c-index;
  counts : scanned l.n (without l.passed (drop l.c-index l.text)) ≡ scanned 0 (without l.passed l.text);
}

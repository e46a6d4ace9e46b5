-- `Printing`: the digits of the bytes so far stand from the position on.
use Rattle.text_print.specs.PrintLaws.{Printing}
use Rattle.text_print.proofs.lay_digits.Given as goal

abbrev pub invariant-loop-b : goal.invariant-loop-b
invariant-loop-b l = Printing l.pos l.bytes l.initial.out l.out l.at l.b-index

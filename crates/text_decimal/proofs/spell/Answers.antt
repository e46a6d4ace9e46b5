-- The digits that the kit spells are the fewest that hold the number.
use Rattle.std.proofs.Common.{◌∙◌, arith}
use Rattle.text_decimal.specs.DecimalLaws.{decimal_is}
use Rattle.text_decimal.proofs.spell.Goals as goal

pub returns-clause-out_after : goal.returns-clause-out_after
returns-clause-out_after c =
    c.decimal.ensures.digits ∙ decimal_is c.args.n c.decimal.result (omega arith) c.decimal.ensures.len

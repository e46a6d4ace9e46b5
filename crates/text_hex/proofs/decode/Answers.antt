-- Each answer has its law, over how many digits were counted.
use Rattle.std.proofs.Common.{◌∙◌, sym}
use Rattle.text_hex.specs.Hex.{without}
use Rattle.text_hex.specs.HexLaws.{digits_long, digits_fit, digits_put}
use Rattle.text_hex.proofs.decode.Goals as goal

pub returns-then-out-n-clause-value : goal.returns-then-out-n-clause-value
returns-then-out-n-clause-value c =
    (digits_long (without c.args.passed.now c.args.text.now) _ _ (sym c.in_ok-n.ensures.ok_part ∙ c.count_digits.ensures) c.if-n-ne0.false c.if-out-n.true).0

pub returns-then-out-n-clause-out_after : goal.returns-then-out-n-clause-out_after
returns-then-out-n-clause-out_after c =
    (digits_long (without c.args.passed.now c.args.text.now) _ _ (sym c.in_ok-n.ensures.ok_part ∙ c.count_digits.ensures) c.if-n-ne0.false c.if-out-n.true).1

pub fill-requires-clause-text_in_bounds : goal.fill-requires-clause-text_in_bounds
fill-requires-clause-text_in_bounds c =
    digits_fit (without c.args.passed.now c.args.text.now) _ _ (sym c.in_ok-n.ensures.ok_part ∙ c.count_digits.ensures) c.if-out-n.false

pub returns-clause-value : goal.returns-clause-value
returns-clause-value c =
    (digits_put (without c.args.passed.now c.args.text.now) _ _ (sym c.in_ok-n.ensures.ok_part ∙ c.count_digits.ensures) c.if-n-ne0.false c.if-out-n.false _ c.fill.ensures).0

-- Five times digits are laid over a line of `-`.
use Rattle.text_print.specs.PrintLaws.{usual_stores}
use Rattle.text_print.proofs.usual.Goals as goal

pub returns : goal.returns
returns c =
    usual_stores c.args.big _ _ _ _ _ c.lay_digits.ensures.out_after c.lay_digits-2.ensures.out_after c.lay_digits-3.ensures.out_after c.lay_digits-4.ensures.out_after c.lay_digits-5.ensures.out_after

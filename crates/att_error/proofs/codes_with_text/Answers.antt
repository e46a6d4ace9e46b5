-- The constants, one by one, are the codes of the table.
use Rattle.std.proofs.Common.{refl}
use Rattle.att_error.specs.Texts.{texts, codes}
use Rattle.att_error.proofs.codes_with_text.Goals as goal

pub returns : goal.returns
unfolding texts codes
returns c = refl

-- What is sliced is what follows start and end.
use Rattle.std.proofs.Common.{◌∙◌}
use Rattle.att_decode.proofs.Rows.{uuid_there}
use Rattle.att_decode.proofs.uuid_of.Goals as goal

pub returns-in-6 : goal.returns-in-6
returns-in-6 c = c.try_from.ensures ∙ uuid_there c.args.p.now c.in-6.is

-- The texts of the place that the record has.
use Rattle.till_show.specs.ShowLaws.{place_as}
use Rattle.till_show.proofs.place_text.Goals as goal

pub returns-in-Fixed : goal.returns-in-Fixed
returns-in-Fixed c = place_as _ _ c.args.line.now c.count.new.line c.in-Fixed.is c.count.ensures

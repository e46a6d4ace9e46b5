-- Rust's `==` of two slices is the test `same`, which equal types are.
use Rattle.std.proofs.Common.{◌∙◌}
use Rattle.codec.specs.CasesLaws.{same_eq}
use Rattle.ble_uuid.specs.Uuids.{equal_types}
use Rattle.ble_uuid.proofs.equal_types.Goals as goal

pub returns : goal.returns
unfolding equal_types
returns c = c.eq.ensures ∙ same_eq c.args.a.now c.args.b.now

-- Each field stands behind the one before it.
use Rattle.std.proofs.Common.{ap}
use Rattle.primitives.specs.Numbers.{bytes_of}
use Rattle.att_layout.specs.Layout.{field_bytes}
use Rattle.att_encode.proofs.WriteLaws.{two_fields, three_fields}
use Rattle.att_encode.proofs.write_fields.Goals as goal

pub returns-in_ok-at-in-Pair-clause-out_after : goal.returns-in_ok-at-in-Pair-clause-out_after
returns-in_ok-at-in-Pair-clause-out_after c =
    let x = c.in_ok-at-in-Pair.ensures in
    two_fields c.args.fields _ _ (bytes_of 2 c.in-Pair.v) (bytes_of 2 c.in-Pair.w) c.args.out.now _ _ (ap field_bytes c.in-Pair.is) c.requires x.value x.data_after c.write-in-Pair-2.ensures.data_after

pub returns-in_ok-at-in-Triple-2-clause-out_after : goal.returns-in_ok-at-in-Triple-2-clause-out_after
returns-in_ok-at-in-Triple-2-clause-out_after c =
    let x = c.in_ok-at-in-Triple.ensures in
    let y = c.in_ok-at-in-Triple-2.ensures in
    three_fields c.args.fields _ _ _ (bytes_of 2 c.in-Triple.v) (bytes_of 2 c.in-Triple.w) (bytes_of 2 c.in-Triple.x) c.args.out.now _ _ _ (ap field_bytes c.in-Triple.is) c.requires x.value x.data_after y.value y.data_after c.write-in-Triple-3.ensures.data_after

pub returns-in_ok-at-in-Error-2-clause-out_after : goal.returns-in_ok-at-in-Error-2-clause-out_after
returns-in_ok-at-in-Error-2-clause-out_after c =
    let x = c.in_ok-at-in-Error.ensures in
    let y = c.in_ok-at-in-Error-2.ensures in
    three_fields c.args.fields _ _ _ (bytes_of 1 c.in-Error.request) (bytes_of 2 c.in-Error.handle) (bytes_of 1 c.in-Error.code) c.args.out.now _ _ _ (ap field_bytes c.in-Error.is) c.requires x.value x.data_after y.value y.data_after c.write-in-Error-3.ensures.data_after

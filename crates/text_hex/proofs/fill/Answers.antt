-- Each turn puts the byte of two digits.
use Rattle.std.proofs.Common.{arith}
use Rattle.text_hex.specs.HexLaws.{two_to_put, one_more}
use Rattle.text_hex.proofs.fill.Goals as goal

pub value-requires : goal.value-requires
value-requires c = (two_to_put _ _ _ _ _ _ c.loop-upper.invariant _ _ _ _ c.in-Some.ensures.0 c.in-Some-next.ensures.0).upper

pub value-requires-in-loop-upper : goal.value-requires-in-loop-upper
value-requires-in-loop-upper c = (two_to_put _ _ _ _ _ _ c.loop-upper.invariant _ _ _ _ c.in-Some.ensures.0 c.in-Some-next.ensures.0).lower

pub overflow_mul-out : goal.overflow_mul-out
overflow_mul-out c =
    let w = two_to_put _ _ _ _ _ _ c.loop-upper.invariant _ _ _ _ c.in-Some.ensures.0 c.in-Some-next.ensures.0 in
    omega (arith, w.upper)

pub overflow_add-out : goal.overflow_add-out
overflow_add-out c =
    let w = two_to_put _ _ _ _ _ _ c.loop-upper.invariant _ _ _ _ c.in-Some.ensures.0 c.in-Some-next.ensures.0 in
    omega (arith, w.upper, w.lower)

pub bounds-out-at : goal.bounds-out-at
bounds-out-at c =
    let w = two_to_put _ _ _ _ _ _ c.loop-upper.invariant _ _ _ _ c.in-Some.ensures.0 c.in-Some-next.ensures.0 in
    omega (arith, w.inside)

pub loop-upper-preserved : goal.loop-upper-preserved
loop-upper-preserved c =
    let f = c.loop-upper.invariant in
    let w = two_to_put _ _ _ _ _ _ f _ _ _ _ c.in-Some.ensures.0 c.in-Some-next.ensures.0 in
    one_more _ _ _ _ _ _ f _ _ _ _ w (omega arith)

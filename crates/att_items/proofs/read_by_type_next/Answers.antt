-- The item found lies within the received bytes, and its bytes are read by the function of one item.
use Rattle.std.proofs.Common.{ℕ, List, Some, ap, arith, ◌∙◌}
use Rattle.att.specs.Typed.{show_att}
use Rattle.att_items.specs.Iterators.{Step, value_at, value_of}
use Rattle.att_items.proofs.StepLaws.{found_inside, cut, cut_length}
use Rattle.att_items.proofs.read_by_type_next.Goals as goal

pub value_at-requires-clause-handle : goal.value_at-requires-clause-handle
value_at-requires-clause-handle c =
    let x = c.args in
    let f = c.in_ok-found.found in
    let e = c.in_ok-found.ensures in
    let s = show_att x.att in
    omega (arith, cut_length 0x09 0x11 s x.src.now x.pos f e _ c.slice.ensures, (found_inside 0x09 0x11 s x.src.now x.pos f e).1)

pub returns : goal.returns
returns c =
    let x = c.args in
    let f = c.in_ok-found.found in
    let e = c.in_ok-found.ensures in
    c.value_at.ensures
    ∙ ap (λ (i : List ℕ). Some (value_at f.at i f.next)) (cut 0x09 0x11 (show_att x.att) x.src.now x.pos f e _ c.slice.ensures)
    ∙ ap (λ (q : Step). value_of q x.src.now) e

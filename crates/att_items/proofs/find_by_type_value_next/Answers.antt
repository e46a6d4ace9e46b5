-- The item found lies within the received bytes, and its bytes are read by the function of one item.
use Rattle.std.proofs.Common.{ℕ, List, Some, ap, arith, ◌∙◌}
use Rattle.att.specs.Typed.{show_att}
use Rattle.att_items.specs.Iterators.{Step, pair_at, pair_of}
use Rattle.att_items.proofs.StepLaws.{cut, cut_length, pair_length}
use Rattle.att_items.proofs.find_by_type_value_next.Goals as goal

pub pair_at-requires : goal.pair_at-requires
pair_at-requires c =
    let x = c.args in
    let f = c.in_ok-found.found in
    let e = c.in_ok-found.ensures in
    let s = show_att x.att in
    omega (arith, cut_length 0x07 0x07 s x.src.now x.pos f e _ c.slice.ensures, pair_length s x.src.now x.pos f e)

pub returns : goal.returns
returns c =
    let x = c.args in
    let f = c.in_ok-found.found in
    let e = c.in_ok-found.ensures in
    c.pair_at.ensures
    ∙ ap (λ (i : List ℕ). Some (pair_at i f.next)) (cut 0x07 0x07 (show_att x.att) x.src.now x.pos f e _ c.slice.ensures)
    ∙ ap (λ (q : Step). pair_of q x.src.now) e

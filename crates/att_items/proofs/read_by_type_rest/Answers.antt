-- The item found lies within the received bytes, and its rest stands behind the handle.
use Rattle.std.proofs.Common.{ap, drop, ◌∙◌}
use Rattle.cursor.proofs.ReadingLaws.{rest_drop}
use Rattle.att.specs.Typed.{show_att}
use Rattle.att_items.specs.Iterators.{Step, rest_of}
use Rattle.att_items.proofs.StepLaws.{cut}
use Rattle.att_items.proofs.read_by_type_rest.Goals as goal

pub returns-in-Some : goal.returns-in-Some
returns-in-Some c =
    let x = c.args in
    let e = c.in-Some.ensures in
    c.remaining.ensures
    ∙ rest_drop 2 c.slice.result.now
    ∙ ap (drop 2) (cut 0x09 0x11 (show_att x.att) x.src.now x.pos c.in-Some.i e _ c.slice.ensures)
    ∙ ap (λ (q : Step). rest_of q x.src.now) e

-- The item found lies within the received bytes, and its bytes are read by the function of one item.
use Rattle.std.proofs.Common.{ℕ, ◌≡◌, ◌⊎◌, List, Some, ap, subst, sym, ◌∙◌}
use Rattle.att.specs.Typed.{show_att}
use Rattle.att_items.specs.Iterators.{Step, information_at, information_of}
use Rattle.att_items.proofs.StepLaws.{cut, cut_length, information_length}
use Rattle.att_items.proofs.find_information_next.Goals as goal

pub information_at-requires : goal.information_at-requires
information_at-requires c =
    let x = c.args in
    let f = c.in_ok-found.found in
    let e = c.in_ok-found.ensures in
    let s = show_att x.att in
    subst (λ (n : ℕ). (n ≡ 4) ⊎ (n ≡ 18)) (sym (cut_length 0x05 0x05 s x.src.now x.pos f e _ c.slice.ensures)) (information_length s x.src.now x.pos f e)

pub returns : goal.returns
returns c =
    let x = c.args in
    let f = c.in_ok-found.found in
    let e = c.in_ok-found.ensures in
    c.information_at.ensures
    ∙ ap (λ (i : List ℕ). Some (information_at i f.next)) (cut 0x05 0x05 (show_att x.att) x.src.now x.pos f e _ c.slice.ensures)
    ∙ ap (λ (q : Step). information_of q x.src.now) e

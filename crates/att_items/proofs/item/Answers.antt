-- A size says that the packet is sent, and then its layout gives the item; without a size there is none.
use Rattle.std.proofs.Common.{ℕ, ◌+◌, ◌-◌, ◌<◌, ◌≤◌, ◌^◌, arith, length, rules, sym, ◌∙◌}
use Rattle.att.specs.Typed.{Shown, show_att, encoded_shown}
use Rattle.att_layout.specs.Layout.{layout_of}
use Rattle.att_items.proofs.StepLaws.{size_sent, no_size, sent_range, item_sent, item_refused}
use Rattle.att_items.proofs.item.Goals as goal

part_within : (s : Shown) (all : ℕ) → s.part.at ≤ all → s.part.len ≤ all - s.part.at → all < 2 ^ 64
    → (layout_of s).part.at + (layout_of s).part.len < 2 ^ 64
unfolding layout_of
part_within s all h k m = omega arith

pub of_layout-requires : goal.of_layout-requires
of_layout-requires c =
    let a = c.args in
    let s = show_att a.att in
    let r = sent_range s a.src.now (size_sent (encoded_shown s a.src.now) _ (sym c.in-Ok.ensures)) in
    rw c.lay_out-l.ensures (part_within s (length a.src.now) r.0 r.1 (search rules))

pub returns-in-Ok : goal.returns-in-Ok
returns-in-Ok c =
    let a = c.args in
    let s = show_att a.att in
    c.of_layout.ensures
    ∙ item_sent a.a a.b s a.src.now a.pos _ c.lay_out-l.ensures (size_sent (encoded_shown s a.src.now) _ (sym c.in-Ok.ensures))

pub returns-in-Err : goal.returns-in-Err
returns-in-Err c =
    let a = c.args in
    let s = show_att a.att in
    item_refused a.a a.b s a.src.now a.pos (no_size (encoded_shown s a.src.now) _ (sym c.in-Err.ensures))

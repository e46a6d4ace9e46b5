-- One text behind the other.
use Rattle.std.proofs.Common.{ℕ, ap, ◌*◌}
use Rattle.text_print.specs.declared.Line.{Line}
use Rattle.text_put.specs.PutLaws.{puts_then}
use Rattle.replay_values.specs.ValuesLaws.{number_as, count_as, raw_as}
use Rattle.ble_uuid.specs.Uuids.{own, att_bytes}
use Rattle.replay_values.proofs.uuid_reply.Goals as goal

pub returns : goal.returns
returns c =
    let u = c.args.u in
    let a : Line = c.args.reply.now in
    let d : Line = c.decimal.new.self in
    let e : Line = c.count.new.line in
    let f : Line = c.raw.new.reply in
    let g : Line = c.raw-2.new.reply in
    let h : Line = c.short.new.reply in
    puts_then _ _ a d h (number_as a d _ _ (ap (λ (n : ℕ). 8 * n) c.width.ensures) c.decimal.ensures)
    (puts_then _ _ d e h (count_as d e _ _ c.get_att_type.ensures c.count.ensures)
    (puts_then _ _ e f h (raw_as e f _ (att_bytes u) c.att_bytes.ensures c.raw.ensures)
    (puts_then _ _ f g h (raw_as f g _ (own u) c.as_raw.ensures c.raw-2.ensures) c.short.ensures)))

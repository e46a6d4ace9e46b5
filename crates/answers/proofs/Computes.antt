-- All definitions that the examples compute with, under one name: to unfold `book` is to unfold each of them.
use mathlib.Core.Bool.{Bool, true}
use Rattle.ble_uuid.specs.Uuids.{equal_types}
use Rattle.att.specs.Items.{items, items_of}
use Rattle.att.specs.Typed as typed
use Rattle.att.specs.Wire as wire
use Rattle.attributes.specs.Additions.{add_refusal, added}
use Rattle.attributes.specs.Soundness.{sound_table}
use Rattle.attributes.specs.Stores.{own_refusal, stored, stored_live}
use Rattle.answers.specs.Auditor as auditor
use Rattle.answers.specs.Cases.{cases}
use Rattle.answers.specs.Demand3 as demand
use Rattle.answers.specs.Replies as r
use Rattle.answers.specs.Serve as till

unfoldable pub book : Bool
unfolding equal_types items items_of wire.rows wire.shape_of wire.decodes wire.strict wire.read wire.send typed.builds typed.build_of typed.row_decoded typed.decoded typed.means_shown typed.encoded_shown add_refusal added sound_table own_refusal stored stored_live cases auditor.takes_write auditor.accepted_in auditor.accepted auditor.told till.sound till.ledger till.store till.unlikely till.serve_refusal till.answered till.asks till.serve till.own_outcome till.own_store till.after till.heard_of till.run till.hears demand.after_event demand.additions_after r.exchange r.reading r.read_reply r.blob_reply r.writing r.write r.more r.search r.in_range r.range_ok r.listing r.searched r.groups r.last_of r.group_end r.info r.infos r.find_information r.holds r.end_of r.pair r.pairs r.find_by_type_value r.value_part r.typed r.values r.read_by_type r.grouped r.group_values r.read_by_group_type r.served r.row_reply r.request r.silent r.commanded r.command r.reply_to r.mtu_ok r.link_ok
book = true

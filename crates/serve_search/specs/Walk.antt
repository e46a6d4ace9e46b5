-- The search as code goes about it, a record at a time. WalkLaws.antt says that this is the list of Search.antt.
use Rattle.std.specs.Prelude.{ℕ, ◌-◌, ◌&&◌, List, [], map, take, leb, Some, Ok}
use Rattle.codec.specs.Cases.{pick}
use Rattle.ble_uuid.specs.Uuids.{own}
use Rattle.attributes.specs.Ledger.{item}
use Rattle.attributes.specs.Records.{value_of}
use Rattle.attributes.specs.declared.Record.{Record}
use Rattle.answers.specs.Replies as book
use Rattle.answers.specs.Replies.{Part}
use Rattle.answers.specs.Serve.{State, views}
use Rattle.answers.specs.View.{View, view}
use Rattle.serve_collect.specs.Collect.{Walk, step, fold}
use Rattle.serve_collect.specs.declared.Head.TheVariants.{Handle}
use Rattle.serve_collect.specs.declared.Progress.TheVariants.{Seeking}
use Rattle.serve_offer.specs.Offers.{Offer, pair_offer, typed_offer, grouped_offer}
use Rattle.serve_search.specs.Search.{Asked, part_for, room_for}
use Rattle.serve_search.specs.declared.Ask.{Ask}
use Rattle.serve_search.specs.declared.Ask.TheVariants.{Info, Pair, Typed, Grouped}

-- what a record offers, and what stands behind the head of its item: the type for 04, nothing for 06, the cut value for 08 and 10
abbrev pub offer_for : Ask → Asked → State → Record → Offer
offer_for Info q s r = Some (Ok (Handle r.handle))
offer_for Pair q s r = pair_offer q.kind q.value s r
offer_for Typed q s r = typed_offer q.kind s.link r
offer_for Grouped q s r = grouped_offer q.kind s.table s.link r

abbrev pub tail_for : Ask → State → Record → List ℕ
tail_for Info s r = own r.kind
tail_for Pair s r = []
tail_for Typed s r = take (s.link.mtu - 4) (value_of r.place s.fixed s.live)
tail_for Grouped s r = take (s.link.mtu - 6) (value_of r.place s.fixed s.live)

-- what a record gives: nothing outside of the range that is asked
unfoldable pub given : Asked → (View → Part) → View → Part
given q f v = pick (leb q.from v.handle && leb v.handle q.to) (f v) book.Skip

abbrev pub given_by : Asked → State → Record → Part
given_by q s r = given q (part_for q.ask q.kind q.value (views s) s.link) (view s.link.encrypted (item s.fixed s.live r))

-- one record more
abbrev pub turn_of : Asked → State → Walk → Record → Walk
turn_of q s w r = step (room_for q.ask s.link) w (given_by q s r)

-- from a state on over some records, and from the start
abbrev pub walked_from : Asked → State → Walk → List Record → Walk
walked_from q s w rs = fold (step (room_for q.ask s.link)) w (map (given_by q s) rs)

abbrev pub walked : Asked → State → List Record → List ℕ → Walk
walked q s rs area = walked_from q s (Seeking, area) rs

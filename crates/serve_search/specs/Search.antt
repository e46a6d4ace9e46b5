-- Document 01, "How a packet is served": the search of 04, 06, 08 and 10 as the responder's book has it, and the list that code
-- hands back for it.
use Rattle.std.specs.Prelude.{ℕ, ◌-◌, List, map, replicate}
use Rattle.codec.specs.Cases.{pick}
use Rattle.answers.specs.Replies as book
use Rattle.answers.specs.Replies.{Part, search, in_range, info, pair, typed, grouped, mtu_ok}
use Rattle.answers.specs.Serve.{State, views}
use Rattle.answers.specs.View.{View}
use Rattle.answers.specs.declared.Link.{Link}
use Rattle.serve_collect.specs.Collect.{shown_found, shown_on}
use Rattle.serve_search.specs.declared.Ask.{Ask}
use Rattle.serve_search.specs.declared.Ask.TheVariants.{Info, Pair, Typed, Grouped}
use Rattle.serve_search.specs.declared.Listing.{Listing}
use Rattle.serve_search.specs.declared.Query.{Query}

-- what is asked, with the bytes that code lends
pub record Asked : Type 0 where
  pub ask : Ask
  pub from : ℕ
  pub to : ℕ
  pub kind : List ℕ
  pub value : List ℕ

abbrev pub asked : Query → Asked
asked q = record { ask = q.ask; from = q.from; to = q.to; kind = q.kind.now; value = q.value.now }

-- what a view gives to each request, and the room that its answer has for items
abbrev pub part_for : Ask → List ℕ → List ℕ → List View → Link → View → Part
part_for Info kind value vs l v = info v
part_for Pair kind value vs l v = pair vs kind value v
part_for Typed kind value vs l v = typed l kind v
part_for Grouped kind value vs l v = grouped vs l kind v

abbrev pub room_for : Ask → Link → ℕ
room_for Info l = l.mtu - 2
room_for Pair l = l.mtu - 1
room_for Typed l = l.mtu - 2
room_for Grouped l = l.mtu - 2

abbrev pub found_for : Asked → List View → Link → book.Found
found_for q vs l = search (room_for q.ask l) (map (part_for q.ask q.kind q.value vs l) (in_range q.from q.to vs))

-- what is handed back: the items are joined at the start of 247 bytes, and 00 stands behind them
unfoldable pub no_items : List ℕ
no_items = replicate 247 0

abbrev pub shown : book.Found → Listing
shown x = record { found = shown_found x; items = shown_on no_items x }

-- For an MTU that is not legal nothing is found.
unfoldable pub listing_for : Asked → State → Listing
listing_for q s = pick (mtu_ok s.link.mtu) (shown (found_for q (views s) s.link)) (shown book.None)

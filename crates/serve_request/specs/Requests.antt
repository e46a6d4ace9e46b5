-- Document 01, "How a packet is served": the reply to each typed request, in the words of those who answer it.
use Rattle.std.specs.Prelude.{ℕ, List, []}
use Rattle.primitives.specs.Numbers.{bytes_of}
use Rattle.ble_uuid.specs.Uuids.{on_air}
use Rattle.att.specs.Typed.{part_of}
use Rattle.att.specs.declared.AttReq.{AttReq}
use Rattle.att.specs.declared.AttReq.TheVariants as req
use Rattle.answers.specs.Replies.{Reply, error, exchange, read_reply, blob_reply}
use Rattle.answers.specs.Serve.{State, views}
use Rattle.serve_permit.specs.Permit.{store_to}
use Rattle.serve_search.specs.declared.Ask.TheVariants.{Info, Pair, Typed, Grouped}
use Rattle.serve_list.specs.Lists.{asking, list_reply}

abbrev pub request_reply : State → List ℕ → AttReq → Reply
request_reply s src (req.ExchangeMtu mtu) = exchange s.link mtu
request_reply s src (req.FindInformation a b) = list_reply (asking Info a b [] []) (views s) s.link
request_reply s src (req.FindByTypeValue a b k v) = list_reply (asking Pair a b (bytes_of 2 k) (part_of v src)) (views s) s.link
request_reply s src (req.ReadByType a b u) = list_reply (asking Typed a b (on_air u) []) (views s) s.link
request_reply s src (req.Read h) = read_reply (views s) s.link h
request_reply s src (req.ReadBlob h o) = blob_reply (views s) s.link h o
request_reply s src (req.ReadByGroupType a b u) = list_reply (asking Grouped a b (on_air u) []) (views s) s.link
request_reply s src (req.Write h d) = store_to s.table s.link h (part_of d src)
request_reply s src (req.PrepareWrite h o v) = error 0x16 0 0x06
request_reply s src (req.ExecuteWrite f) = error 0x18 0 0x06
request_reply s src (req.ReadMultiple hs) = error 0x20 0 0x06

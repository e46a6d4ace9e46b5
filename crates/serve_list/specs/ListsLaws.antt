-- Each list's reply is the book's, for a legal MTU; and the typed answer of what was found is the packet of that reply.
use Rattle.std.specs.Prelude.{ℕ, ◌-◌, ◌≤◌, ◌<◌, Bool, ◌&&◌, ◌≡◌, List, [], ◌∷◌, ◌++◌, length, take, drop, eqb}
use Rattle.std.proofs.Math.Bool.{true, false, not}
use Rattle.std.proofs.Math.Path.{refl, ap}
use Rattle.std.proofs.Common.{◌∙◌, arith, length-append}
use Rattle.std.proofs.Math.Dec.{leb}
use borrow.Author.Tests.{le-leb, lt-leb}
use Rattle.codec.specs.Buffer.{over}
use Rattle.codec.specs.Cases.{pick}
use Rattle.codec.specs.CasesLaws.{join}
use Rattle.primitives.specs.Numbers.{bytes_of}
use Rattle.att.specs.Items.{joined}
use Rattle.att.specs.Typed.{span, show_rsp, part_ok, means_shown}
use Rattle.att.specs.Wire.{rows, shape_of, Meaning, meaning, send}
use Rattle.att.specs.declared.AttRsp.{AttRsp}
use Rattle.att.specs.declared.Span.{Span}
use Rattle.answers.specs.Replies as book
use Rattle.answers.specs.Replies.{Reply, error, error_packet, range_ok, search, searched, listing, infos, pairs, values, group_values, groups, mtu_ok, find_information, find_by_type_value, read_by_type, read_by_group_type}
use Rattle.answers.specs.Serve.{State, views, ledger}
use Rattle.att.specs.Formats.{format_number}
use Rattle.att.specs.declared.FindInformationUuidFormat.TheVariants.{Uuid16, Uuid128}
use Rattle.answers.specs.View.{View}
use Rattle.answers.specs.declared.Link.{Link}
use Rattle.serve_collect.specs.Collect.{shown_found, shown_on}
use Rattle.serve_search.specs.Search.{Asked, found_for, no_items, shown, listing_for}
use Rattle.serve_search.specs.SearchLaws.{listed_items}
use Rattle.serve_search.specs.declared.Ask.{Ask}
use Rattle.serve_search.specs.declared.Ask.TheVariants.{Info, Pair, Typed, Grouped}
use Rattle.serve_search.specs.declared.Listing.{Listing}
use Rattle.serve_tell.specs.Tell.{packet_of, coded_of}
use Rattle.serve_tell.specs.TellLaws.{packet_is}
use Rattle.serve_list.specs.Lists.{asking, op_for, kind_ok, answer_for, found_in, list_reply, format_for, response_for, found_coded}

module _ (from to : ℕ) (vs : List View) (l : Link) (e : mtu_ok l.mtu ≡ true) where
  pub list_04 : (kind value : List ℕ) → list_reply (asking Info from to kind value) vs l ≡ find_information vs l from to
  unfolding list_reply found_in find_information searched
  list_04 kind value = rw e

  pub list_06 : (kind : ℕ) (value : List ℕ) → list_reply (asking Pair from to (bytes_of 2 kind) value) vs l ≡ find_by_type_value vs l from to kind value
  unfolding list_reply found_in find_by_type_value searched
  list_06 kind value = rw e

  pub list_08 : (kind value : List ℕ) → list_reply (asking Typed from to kind value) vs l ≡ read_by_type vs l from to kind
  unfolding list_reply found_in read_by_type searched
  list_08 kind value = rw e

  pub list_10 : (kind value : List ℕ) → list_reply (asking Grouped from to kind value) vs l ≡ read_by_group_type vs l from to kind
  unfolding list_reply found_in read_by_group_type searched
  list_10 kind value = rw e (by (range_ok from to) (groups kind) _ _ _) where
    by : (a b : Bool) (x y z : Reply) → pick a (pick b x y) z ≡ pick (a && not b) y (pick a x z)
    by true true x y z = refl
    by true false x y z = refl
    by false b x y z = refl

-- a list within what is handed over
items_fit : (is rest : List ℕ) → part_ok (span 0 (length is)) (is ++ rest) ≡ true
items_fit is rest =
    let h : length is ≤ length (is ++ rest) - 0 = rw (length-append is rest) (omega arith) in
    join (le-leb 0 (length (is ++ rest)) (omega arith)) (le-leb (length is) (length (is ++ rest) - 0) h)

-- a typed answer that shows the items, in its one range from the start on
sent_by : (r : AttRsp) (m : List ℕ → Meaning) (is : List (List ℕ)) (n : ℕ) → (show_rsp r).part ≡ span 0 (length (joined is))
    → ((src : List ℕ) → means_shown (show_rsp r) src ≡ m (take (length (joined is)) src))
    → packet_of r (over (joined is) no_items) ≡ send (m (joined is))
sent_by r m is n e f =
    let o = over (joined is) no_items in
    packet_is r o (ap (λ (p : Span). part_ok p o) e ∙ items_fit (joined is) (drop (length (joined is)) no_items))
    ∙ ap send (f o ∙ ap m (listed_items n is))

-- the number of a format
format_told : (n : ℕ) → format_number (format_for n) ≡ pick (eqb n 4) 1 2
format_told n = by (eqb n 4) where
  by : (t : Bool) → format_number (pick t Uuid16 Uuid128) ≡ pick t 1 2
  by true = refl
  by false = refl

listed_sent : (ask : Ask) (n : ℕ) (is : List (List ℕ)) → packet_of (response_for ask n (length (joined is))) (over (joined is) no_items) ≡ send (answer_for ask n (joined is))
unfolding means_shown shape_of rows infos pairs values group_values
listed_sent Info n is = sent_by (response_for Info n (length (joined is))) (infos n) is n refl (λ src. ap (λ (f : ℕ). meaning 0x05 (f ∷ []) (take (length (joined is)) src)) (format_told n))
listed_sent Pair n is = sent_by (response_for Pair n (length (joined is))) (pairs n) is n refl (λ src. refl)
listed_sent Typed n is = sent_by (response_for Typed n (length (joined is))) (values n) is n refl (λ src. refl)
listed_sent Grouped n is = sent_by (response_for Grouped n (length (joined is))) (group_values n) is n refl (λ src. refl)

found_coded_lem : (ask : Ask) (from : ℕ) (x : book.Found)
    → found_coded ask from (shown_found x) (shown_on no_items x) ≡ coded_of (listing (op_for ask) from (answer_for ask) x)
unfolding listing
found_coded_lem ask from book.None = refl
found_coded_lem ask from (book.Failed h code) = refl
found_coded_lem ask from (book.Listed n is) = listed_sent ask n is

-- what code finds is what there is to find
module _ (q : Asked) (s : State) where
  abbrev seen : List View
  seen = views s

  listing_found : listing_for q s ≡ shown (found_in q seen s.link)
  unfolding listing_for found_in ledger
  listing_found = by (mtu_ok s.link.mtu) (found_for q seen s.link) where
    by : (b : Bool) (x : book.Found) → pick b (shown x) (shown book.None) ≡ shown (pick b x book.None)
    by true x = refl
    by false x = refl

  -- the ways to a reply
  pub start_zero : q.from ≡ 0 → send (error_packet (op_for q.ask) q.from 0x01) ≡ coded_of (list_reply q seen s.link)
  unfolding list_reply range_ok
  start_zero e = rw e

  pub start_above : q.to < q.from → send (error_packet (op_for q.ask) q.from 0x01) ≡ coded_of (list_reply q seen s.link)
  unfolding list_reply range_ok
  start_above h = let a : leb 1 q.from ≡ true = le-leb 1 q.from (omega arith) in rw (a, lt-leb q.from q.to h)

  module _ (h : 0 < q.from) (k : q.from ≤ q.to) where
    range : range_ok q.from q.to ≡ true
    unfolding range_ok
    range = join (le-leb 1 q.from (omega arith)) (le-leb q.from q.to k)

    pub kind_refused : kind_ok q.ask q.kind ≡ false → send (error_packet (op_for q.ask) q.from 0x10) ≡ coded_of (list_reply q seen s.link)
    unfolding list_reply
    kind_refused e = rw (range, e)

    pub list_coded : (x : Listing) → kind_ok q.ask q.kind ≡ true → x ≡ listing_for q s
        → found_coded q.ask q.from x.found x.items ≡ coded_of (list_reply q seen s.link)
    unfolding list_reply
    list_coded x e f =
        ap (λ (y : Listing). found_coded q.ask q.from y.found y.items) (f ∙ listing_found) ∙ found_coded_lem q.ask q.from (found_in q seen s.link) ∙ rw (range, e)

-- the same type and value under the names that code has for them
pub asked_as : (ask : Ask) (from to : ℕ) (a b v w : List ℕ) (vs : List View) (l : Link) → a ≡ b → v ≡ w
    → coded_of (list_reply (asking ask from to a v) vs l) ≡ coded_of (list_reply (asking ask from to b w) vs l)
asked_as ask from to a b v w vs l e f = rw (e, f)

-- What a record offers is what its view gives; its item fits into the room; and the walk over the records gives the list.
use Prim.Native.Nat.{ℕ, suc, ◌+◌, ◌-◌, ◌≤◌, ◌<◌}
use Rattle.std.proofs.Math.Bool.{Bool, true, false}
use Rattle.std.specs.Prelude.{◌&&◌, ◌≡◌, take, drop, get_or, Some, None, Ok, Err}
use Rattle.std.proofs.Math.Path.{refl, ap, subst}
use Rattle.std.proofs.Common.{sym, ◌∙◌, arith, add-one, take_all, length-take, length-append, drop_of_length-le, length-take-le, drop-cons, get_or-take}
use Rattle.std.proofs.Math.Seq.{take-suc}
use Rattle.std.proofs.lemmas.List.{map-append, take-append-drop}
use mathlib.Core.List.{List, [], ◌∷◌, ◌++◌, map}
use Rattle.std.proofs.Math.ListN.{length, length-replicate}
use Rattle.std.proofs.Math.Dec.{leb}
use borrow.Author.Tests.{le-leb, lt-leb}
use Rattle.codec.specs.Cases.{pick}
use Rattle.ble_uuid.specs.Uuids.{own}
use Rattle.ble_uuid.specs.UuidsLaws.{own_most}
use Rattle.attributes.specs.Ledger.{item}
use Rattle.attributes.specs.Lists.{Each}
use Rattle.attributes.specs.Records.{entries, value_of}
use Rattle.attributes.specs.declared.Record.{Record}
use Rattle.answers.proofs.Lists.{each, each_map}
use Rattle.answers.specs.Replies as book
use Rattle.answers.specs.Replies.{Part, info, keep, in_range, mtu_ok}
use Rattle.answers.specs.Serve.{State, ledger, views}
use Rattle.answers.specs.View.{View, view, views_of}
use Rattle.serve_link.specs.LinkLaws.{legal_least, legal_most}
use Rattle.serve_collect.proofs.GatherLaws.{Ends, ended_stays, each_first, ended_first, fold_append, fold_keep, first_keep, search_is}
use Rattle.serve_collect.specs.CollectLaws.{head_most}
use Rattle.serve_collect.specs.Collect.{Fits, FirstFits, Gathered, Walk, head_of, taken, step, fold, is_ended, found_by, shown_found, shown_on}
use Rattle.serve_collect.specs.declared.Head.{Head}
use Rattle.serve_collect.specs.declared.Progress.{Progress}
use Rattle.serve_collect.specs.declared.Progress.TheVariants.{Seeking}
use Rattle.serve_offer.specs.OffersLaws.{pair_is, typed_is, grouped_is, typed_head}
use Rattle.serve_offer.specs.Offers.{Offer, meant}
use Rattle.serve_search.specs.Search.{Asked, part_for, room_for, found_for, no_items, listing_for}
use Rattle.serve_search.specs.Walk.{offer_for, tail_for, given, given_by, turn_of, walked}
use Rattle.serve_search.specs.declared.Ask.{Ask}
use Rattle.serve_search.specs.declared.Ask.TheVariants.{Info, Pair, Typed, Grouped}
use Rattle.serve_search.specs.declared.Listing.{Listing}

take_most : (n : ℕ) (b : List ℕ) → length (take n b) ≤ n
take_most n b = rw (length-take n b) (omega arith)

each_more : {A : Type 0} (Q : A → Type 0) (xs : List A) (x : A) → Each Q xs → Q x → Each Q (xs ++ x ∷ [])
each_more Q [] x a f = (f, tt)
each_more Q (y ∷ xs) x a f = (a.0, each_more Q xs x a.1 f)

module _ (q : Asked) (s : State) where
  -- what its view gives to the request
  abbrev part : Ask → Record → Part
  part ask r = part_for ask q.kind q.value (views s) s.link (view s.link.encrypted (item s.fixed s.live r))

  offer_is : (r : Record) (ask : Ask) → meant r.handle (offer_for ask q s r) (tail_for ask s r) ≡ part ask r
  unfolding info
  offer_is r Info = refl
  offer_is r Pair = pair_is q.kind q.value s r
  offer_is r Typed = typed_is q.kind q.value s r
  offer_is r Grouped = grouped_is q.kind q.value s r

  -- A type has no more than 16 bytes.
  offer_fits : (r : Record) (ask : Ask) (head : Head) → offer_for ask q s r ≡ Some (Ok head) → 23 ≤ s.link.mtu → length (own r.kind) ≤ 16
      → length (head_of head) + length (tail_for ask s r) ≤ room_for ask s.link
  offer_fits r Info head e m k = let z : head_of head ≡ head_of head = refl in omega (arith, head_most head)
  offer_fits r Pair head e m k = omega (arith, head_most head)
  offer_fits r Typed head e m k = omega (arith, typed_head q.kind q.value s r head e, take_most (s.link.mtu - 4) (value_of r.place s.fixed s.live))
  offer_fits r Grouped head e m k = omega (arith, head_most head, take_most (s.link.mtu - 6) (value_of r.place s.fixed s.live))

  part_fits : (r : Record) (ask : Ask) → 23 ≤ s.link.mtu → length (own r.kind) ≤ 16 → Fits (room_for ask s.link) (part ask r)
  part_fits r ask m k = subst (λ (p : Part). Fits (room_for ask s.link) p) (offer_is r ask) (by (offer_for ask q s r) refl)
    where
      by : (o : Offer) → offer_for ask q s r ≡ o → Fits (room_for ask s.link) (meant r.handle o (tail_for ask s r))
      by None e = tt
      by (Some (Ok head)) e = rw (length-append (head_of head) (tail_for ask s r)) (offer_fits r ask head e m k)
      by (Some (Err code)) e = tt

  pub given_fits : (r : Record) → 23 ≤ s.link.mtu → length (own r.kind) ≤ 16 → Fits (room_for q.ask s.link) (given_by q s r)
  unfolding given
  given_fits r m k = by (leb q.from r.handle && leb r.handle q.to) (part_fits r q.ask m k)
    where
      by : (b : Bool) → Fits (room_for q.ask s.link) (part q.ask r) → Fits (room_for q.ask s.link) (pick b (part q.ask r) book.Skip)
      by true f = f
      by false f = tt

  room_most : (ask : Ask) → s.link.mtu ≤ 247 → room_for ask s.link ≤ 247
  room_most Info h = omega arith
  room_most Pair h = omega arith
  room_most Typed h = omega arith
  room_most Grouped h = omega arith

  -- what the records give is what their views give, with nothing from outside of the range
  given_all : (rs : List Record)
      → map (given q (part_for q.ask q.kind q.value (views s) s.link)) (views_of s.link.encrypted (map (item s.fixed s.live) rs)) ≡ map (given_by q s) rs
  given_all [] = refl
  given_all (r ∷ rs) = ap (λ (ps : List Part). given_by q s r ∷ ps) (given_all rs)

  -- the whole walk, where the first item fits
  walk_first : (area : List ℕ) → s.link.mtu ≤ 247 → 247 ≤ length area → FirstFits (room_for q.ask s.link) (map (given_by q s) (entries s.table))
      → Ends (walked q s (entries s.table) area) (shown_found (found_for q (views s) s.link)) (shown_on area (found_for q (views s) s.link))
  unfolding given in_range ledger
  walk_first area k h first =
      let f : View → Part = part_for q.ask q.kind q.value (views s) s.link in
      let room : ℕ = room_for q.ask s.link in
      let test : View → Bool = λ v. leb q.from v.handle && leb v.handle q.to in
      let vs : List View = views s in
      let all = given_all (entries s.table) in
      let fits : FirstFits room (map f (keep test vs)) = first_keep room f test vs (subst (λ (ps : List Part). FirstFits room ps) (sym all) first) in
      subst (λ (w : Walk). Ends w (shown_found (found_for q vs s.link)) (shown_on area (found_for q vs s.link)))
      (fold_keep room f test (Seeking, area) vs ∙ ap (λ (ps : List Part). fold (step room) (Seeking, area) ps) all)
      (search_is room area (omega (arith, room_most q.ask k)) (map f (in_range q.from q.to vs)) fits)

  -- the whole walk: every item fits
  walk_is : (area : List ℕ) → 23 ≤ s.link.mtu → s.link.mtu ≤ 247 → 247 ≤ length area
      → Ends (walked q s (entries s.table) area) (shown_found (found_for q (views s) s.link)) (shown_on area (found_for q (views s) s.link))
  walk_is area m k h =
      let rs : List Record = entries s.table in
      let fits : Each (λ (r : Record). Fits (room_for q.ask s.link) (given_by q s r)) rs =
      each (λ (r : Record). Fits (room_for q.ask s.link) (given_by q s r)) rs (λ r. given_fits r m (own_most r.kind)) in
      walk_first area k h (each_first (room_for q.ask s.link) (map (given_by q s) rs) (each_map (Fits (room_for q.ask s.link)) (given_by q s) rs fits))

  -- The records so far, with one more.
  abbrev room : ℕ
  room = room_for q.ask s.link

  so_next : (rs : List Record) (i : ℕ) (d : Record) (area : List ℕ) → i < length rs
      → walked q s (take (suc i) rs) area ≡ turn_of q s (walked q s (take i rs) area) (get_or rs i d)
  so_next rs i d area h =
      ap (λ (l : List Record). walked q s l area) (take-suc rs i d h)
      ∙ ap (λ (ps : List Part). fold (step room) (Seeking, area) ps) (map-append (given_by q s) (take i rs) (get_or rs i d ∷ []))
      ∙ fold_append (step room) (Seeking, area) (map (given_by q s) (take i rs)) (given_by q s (get_or rs i d) ∷ [])

  -- Behind its end the list stays as it is, and its first item has fit.
  module _ (rs : List Record) (i : ℕ) (d : Record) (area : List ℕ) (w v : Walk) (h : i < length rs) (e : walked q s (take i rs) area ≡ w)
      (t : turn_of q s w (get_or rs i d) ≡ v) (k : is_ended v.0 ≡ true) where
    to_here : walked q s (take (suc i) rs) area ≡ v
    to_here = so_next rs i d area h ∙ ap (λ (x : Walk). turn_of q s x (get_or rs i d)) e ∙ t

    parted : map (given_by q s) (take (suc i) rs) ++ map (given_by q s) (drop (suc i) rs) ≡ map (given_by q s) rs
    parted = sym (map-append (given_by q s) (take (suc i) rs) (drop (suc i) rs)) ∙ ap (map (given_by q s)) (take-append-drop (suc i) rs)

    pub walk_ended : walked q s rs area ≡ v
    walk_ended =
        let rest : List Part = map (given_by q s) (drop (suc i) rs) in
        ap (λ (ps : List Part). fold (step room) (Seeking, area) ps) (sym parted)
        ∙ fold_append (step room) (Seeking, area) (map (given_by q s) (take (suc i) rs)) rest
        ∙ ap (λ (x : Walk). fold (step room) x rest) to_here
        ∙ ended_stays room v.0 v.1 rest k

    pub first_ended : Each (λ (r : Record). Fits room (given_by q s r)) (take i rs) → Fits room (given_by q s (get_or rs i d))
        → FirstFits room (map (given_by q s) rs)
    first_ended a f =
        let all : Each (λ (r : Record). Fits room (given_by q s r)) (take (suc i) rs) =
        subst (λ (l : List Record). Each (λ (r : Record). Fits room (given_by q s r)) l) (sym (take-suc rs i d h)) (each_more (λ (r : Record). Fits room (given_by q s r)) (take i rs) (get_or rs i d) a f) in
        let stop : is_ended (walked q s (take (suc i) rs) area).0 ≡ true = ap (λ (x : Walk). is_ended x.0) to_here ∙ k in
        subst (λ (ps : List Part). FirstFits room ps) parted
        (ended_first room (map (given_by q s) (take (suc i) rs)) (map (given_by q s) (drop (suc i) rs)) area (each_map (Fits room) (given_by q s) (take (suc i) rs) all) stop)

  pub first_all : (rs : List Record) (i : ℕ) → length rs ≤ i → Each (λ (r : Record). Fits room (given_by q s r)) (take i rs)
      → FirstFits room (map (given_by q s) rs)
  first_all rs i h a =
      each_first room (map (given_by q s) rs)
      (each_map (Fits room) (given_by q s) rs (subst (λ (l : List Record). Each (λ (r : Record). Fits room (given_by q s r)) l) (take_all i rs h) a))

  -- what is handed back of it
  pub listing_is : (w : Walk) (x : Gathered) → mtu_ok s.link.mtu ≡ true → w ≡ walked q s (entries s.table) no_items → x ≡ found_by w.0
      → ◌≡◌ {A = Listing} (record { found = x; items = w.1 }) (listing_for q s)
  unfolding listing_for no_items
  listing_is w x m e f =
      let n : 247 ≤ length no_items = omega (arith, length-replicate {A = ℕ} 247 0) in
      let t = walk_is no_items (legal_least s.link.mtu m) (legal_most s.link.mtu m) n in
      let g : x ≡ shown_found (found_for q (views s) s.link) = f ∙ ap (λ (v : Walk). found_by v.0) e ∙ t.0 in
      let i : w.1 ≡ shown_on no_items (found_for q (views s) s.link) = ap (λ (v : Walk). v.1) e ∙ t.1 in
      rw (m, g, i)

  pub listing_none : mtu_ok s.link.mtu ≡ false → ◌≡◌ {A = Listing} (record { found = None; items = no_items }) (listing_for q s)
  unfolding listing_for
  listing_none m = rw m

  -- a turn: outside of the range on either side, and for each offer
  module _ (w : Walk) (r : Record) where
    pub turn_before : r.handle < q.from → turn_of q s w r ≡ w
    unfolding given
    turn_before h = rw (lt-leb q.from r.handle h)

    pub turn_behind : q.from ≤ r.handle → q.to < r.handle → turn_of q s w r ≡ w
    unfolding given
    turn_behind m h = rw (le-leb q.from r.handle m, lt-leb r.handle q.to h)

    pub turn_within : (o : Offer) → q.from ≤ r.handle → r.handle ≤ q.to → offer_for q.ask q s r ≡ o
        → turn_of q s w r ≡ step (room_for q.ask s.link) w (meant r.handle o (tail_for q.ask s r))
    unfolding given
    turn_within o m h e =
        let a : leb q.from r.handle ≡ true = le-leb q.from r.handle m in
        let b : leb r.handle q.to ≡ true = le-leb r.handle q.to h in
        let p : Part = part q.ask r in
        ap (λ (c : Bool). step (room_for q.ask s.link) w (pick (c && leb r.handle q.to) p book.Skip)) a
        ∙ ap (λ (c : Bool). step (room_for q.ask s.link) w (pick c p book.Skip)) b
        ∙ ap (step (room_for q.ask s.link) w) (sym (offer_is r q.ask) ∙ ap (λ (x : Offer). meant r.handle x (tail_for q.ask s r)) e)

-- an item with the room and the tail as code has them
pub taken_same : (room n : ℕ) (head : Head) (tail b : List ℕ) (p : Progress) (area : List ℕ) (w : Walk) → n ≡ room → b ≡ tail
    → taken n (head_of head ++ b) p area ≡ w → taken room (head_of head ++ tail) p area ≡ w
taken_same room n head tail b p area w e f h = rw (← e, ← f) h

-- The walk over the first `n` records of an array, one at a time, where each gives a part.
module _ (room : ℕ) (gives : Record → Part) (w : Walk) (i n : ℕ) (rs : List Record) (q : n ≤ length rs) where
  pub walk_next : (d : Record) → i < n
      → fold (step room) w (map gives (drop i (take n rs))) ≡ fold (step room) (step room w (gives (get_or rs i d))) (map gives (drop (i + 1) (take n rs)))
  walk_next d p =
      let k : i < length (take n rs) = rw (length-take-le n rs) (omega arith) in
      rw (drop-cons (take n rs) i d k, get_or-take n rs i d p, add-one i)

  pub walk_over : n ≤ i → fold (step room) w (map gives (drop i (take n rs))) ≡ w
  walk_over p =
      let k : length (take n rs) ≤ i = rw (length-take-le n rs) p in
      rw (drop_of_length-le (take n rs) k)

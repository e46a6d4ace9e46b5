-- The auditor's sentence, what is told: what a client takes from an answer is what is held at that very handle, and a list has its
-- items in the order of the handles, each with its own value. By the walk over all replies. A sound table has each handle once, so
-- the value at a handle is that of the one attribute that has it; what was sent is read back as it was meant.
use Rattle.std.specs.Prelude.{Result, Ok, Err}
use Prim.Native.Nat.{ℕ, ◌+◌, ◌-◌, ◌≤◌, ◌<◌}
use mathlib.Core.Bool.{Bool, true, false, ◌&&◌, not}
use mathlib.Core.Path.{◌≡◌, refl, sym, ◌∙◌, ap}
use mathlib.Core.List.{List, [], ◌∷◌, ◌++◌, map}
use native.Mathlib.Omega.{arith}
use lib.ListN.{length, take, drop, length-append, length-take}
use lib.Dec.{leb, eqb}
use borrow.Author.Tests.{leb-true, eq-eqb, ne_eqb}
use Rattle.codec.specs.Cases.{pick, lookup}
use Rattle.codec.specs.CasesLaws.{impossible, both, same_equal}
use Rattle.codec.specs.declared.Refusal.{Refusal}
use Rattle.primitives.specs.Numbers.{bytes_of, number_of, number_at}
use Rattle.primitives.specs.NumbersLaws.{number_bytes}
use Rattle.ble_uuid.specs.Uuids.{own, width_of, equal_types}
use Rattle.ble_uuid.specs.declared.Uuid.TheVariants.{Uuid16, Uuid32, Uuid128}
use Rattle.ble_uuid.specs.declared.Uuid.{Uuid}
use Rattle.att.proofs.NoShift.{AllOf}
use Rattle.att.specs.Items.{items_of, joined}
use Rattle.att.specs.Proper.{Fields}
use Rattle.att.specs.Wire as wire
use Rattle.attributes.proofs.AdditionLaws.{each_passed}
use Rattle.attributes.specs.Ledger.{Item, item, value_at}
use Rattle.attributes.specs.Records.{entries, bare}
use Rattle.attributes.specs.Soundness.{type_ok, record_ok, slots_end, records_ok}
use Rattle.attributes.proofs.SoundnessLaws.{good, sound_parts}
use Rattle.attributes.specs.declared.Record.{Record}
use Rattle.answers.specs.View.{View, view, Reading, Value, NoRead, may_read, unreadable, reading_of}
use Rattle.answers.specs.Replies.{Packet, Silence, Effect, Nothing, Stores, Reply, Part, Skip, Take, Listed, doing, only, error_packet, error, write, search, keep, in_range, range_ok, searched, groups, outlines, group_end, end_of, info, infos, find_information, holds, pair, pairs, find_by_type_value, value_part, typed, values, read_reply, blob_reply, read_by_type, grouped, group_values, read_by_group_type, nth, commanded, reply_to, mtu_ok, link_ok}
use Rattle.answers.specs.Serve.{State, sound, ledger, views, Bytes, unlikely, coded_heard, spoken, serve_tests, serve_refusal, heard_by, answered, serve, Step, run}
use Rattle.attributes.specs.Lists.{Each}
use Rattle.answers.specs.Auditor.{accepted, last_for, Told, HasPart, HasWhole, about, TrueOf, told_by, read_heard, told, items_in, Starts, between, info_item, pair_item, value_item, group_item, holds_value, dues, due, Typed}
use Rattle.answers.proofs.ReplyLaws.{Leaves, by_pick, by_read, by_blob, by_searched, by_exchange, by_write, by_reply}
use Rattle.answers.proofs.Held.{held}
use Rattle.answers.proofs.Lists.{each, each_so, each_two, each_map, each_kept, each_keep, each_start, cut}
use Rattle.answers.proofs.Searches.{on_list, Sized, search_sizes, Given, given_if, search_starts, within_view}
use Rattle.answers.proofs.SentBack.{items_back, list_sent, list_read}
use Rattle.answers.proofs.Steps.{run_sound, run_skeleton}

-- What is known of each attribute of a sound table: its value is the one at its handle; its handle has two bytes; and the format of an
-- item of 05 tells the item's length.
abbrev format : ℕ → ℕ
format n = pick (eqb n 4) 1 2

abbrev Told05 : ℕ → Type 0
Told05 n = (wire.by_format (format n ∷ []) ≡ n) × (2 ≤ n)

record Known (all : List Item) (i : Item) : Type 0 where
  alone : value_at i.handle all ≡ i.value
  small : i.handle < 65536
  form : Told05 (2 + length i.kind)

module _ (fl ll : ℕ) (fixed live : List ℕ) where
  rise : (last at : ℕ) (rs : List Record) → records_ok fl ll last at rs ≡ true → Each (λ (i : Item). last < i.handle) (map (item fixed live) rs)
  rise last at [] o = tt
  rise last at (r ∷ rs) o =
      let g = both (record_ok fl ll last at r) _ o in
      let up = (good fl ll last at r g.0).rises in (
        up,
        each_so (λ (i : Item). r.handle < i.handle) (λ (i : Item). last < i.handle) (map (item fixed live) rs)
            (λ i h. omega (arith, h, up)) (rise r.handle (slots_end at r) rs g.1),
      )

  alone_all : (last at : ℕ) (rs : List Record) → records_ok fl ll last at rs ≡ true
      → Each (λ (i : Item). value_at i.handle (map (item fixed live) rs) ≡ i.value) (map (item fixed live) rs)
  alone_all last at [] o = tt
  alone_all last at (r ∷ rs) o =
      let g = both (record_ok fl ll last at r) _ o in (
        rw (eq-eqb r.handle r.handle refl),
        each_two (λ (i : Item). r.handle < i.handle) (λ (i : Item). value_at i.handle (map (item fixed live) rs) ≡ i.value)
            (λ (i : Item). value_at i.handle (map (item fixed live) (r ∷ rs)) ≡ i.value) (map (item fixed live) rs)
            (λ i h e. rw (ne_eqb r.handle i.handle (λ z. omega (arith, z, h))) e)
            (rise r.handle (slots_end at r) rs g.1) (alone_all r.handle (slots_end at r) rs g.1),
      )

form_told : (u : Uuid) → type_ok u ≡ true → length (own u) ≡ width_of u → Told05 (2 + length (own u))
form_told (Uuid16 b) o l = rw l (refl, omega arith)
form_told (Uuid32 b) o l = impossible (cc)
form_told (Uuid128 b) o l = rw l (refl, omega arith)

known_all : (fl ll last at : ℕ) (fixed live : List ℕ) (all : List Item) (rs : List Record) → records_ok fl ll last at rs ≡ true
    → Each (λ (r : Record). (r.handle < 65536) × (length (own r.kind) ≡ width_of r.kind)) (map bare rs)
    → Each (λ (i : Item). value_at i.handle all ≡ i.value) (map (item fixed live) rs) → Each (Known all) (map (item fixed live) rs)
known_all fl ll last at fixed live all [] o t a = tt
known_all fl ll last at fixed live all (r ∷ rs) o t a =
    let g = both (record_ok fl ll last at r) _ o in (
      record {
        alone = a.0;
        small = t.0.0;
        form = form_told r.kind (good fl ll last at r g.0).kind t.0.1;
      },
      known_all fl ll r.handle (slots_end at r) fixed live all rs g.1 t.1 a.1,
    )

known : (s : State) → sound s ≡ true → Typed s → Each (Known (ledger s)) (ledger s)
unfolding sound ledger
known s k t =
    let fl = length s.fixed in
    let ll = length s.live in
    let o = (sound_parts s.table fl ll k).records in
    known_all fl ll 0 0 s.fixed s.live (ledger s) (entries s.table) o t (alone_all fl ll s.fixed s.live 0 0 (entries s.table) o)

-- A reading that shows a value shows the attribute's.
shown_value : (e : Bool) (i : Item) (b : List ℕ) → reading_of e i ≡ Value b → i.value ≡ b
shown_value e i b h = by (may_read e i) h
  where
    by : (c : Bool) → pick c (Value i.value) (NoRead (unreadable i)) ≡ Value b → i.value ≡ b
    by true q = cc
    by false q = impossible (cc)

-- Of a request `q`, and what is read as its answer.
FairRead : State → wire.Meaning → wire.Read → Type 0
FairRead s q r =
    Starts (items_in r) (due s q) × Each (λ (x : Told). TrueOf (value_at (about x) (ledger s)) x) (told_by (wire.Means q) r)

module _ (s : State) (op room : ℕ) (ns t : List ℕ) where
  abbrev Truth : Told → Type 0
  Truth x = TrueOf (value_at (about x) (ledger s)) x

  abbrev q : wire.Meaning
  q = wire.meaning op ns t

  Fair : Reply → Type 0
  Fair r = FairRead s q (read_heard (spoken r.says op room))

  fair_read : (a : ℕ) (x : List ℕ) → FairRead s q (wire.Means (wire.shape_means a (wire.shape_of a) x)) → FairRead s q (wire.read (a ∷ x))
  unfolding FairRead wire.read
  fair_read a x f = by (wire.decodes a x)
    where
      by : (b : Bool) → FairRead s q (pick b (wire.Means (wire.shape_means a (wire.shape_of a) x)) wire.NotRead)
      by true = f
      by false = (refl, tt)

  -- an error tells nothing, nor does silence
  fair_01 : (x : List ℕ) → FairRead s q (wire.read (0x01 ∷ x))
  unfolding FairRead
  fair_01 x = fair_read 0x01 x (refl, tt)

  fair_packet : (m : wire.Meaning) (b : List ℕ) (e : Effect) → wire.send m ≡ wire.Sent b → FairRead s q (wire.read b) → Fair (doing (Packet m) e)
  unfolding Fair unlikely wire.send wire.shape_of wire.rows
  fair_packet m b e sent f = by (wire.send m) sent
    where
      fit : (c : Bool) (x : List ℕ) → FairRead s q (wire.read x)
          → FairRead s q (read_heard (pick c (Bytes x) (Bytes (unlikely op))))
      fit true x g = g
      fit false x g = fair_01 _

      by : (c : wire.Coded) → c ≡ wire.Sent b → FairRead s q (read_heard (coded_heard c op room))
      by (wire.Sent x) h = let z : b ≡ x = cc in fit (leb (length x) room) x (rw (← z) f)
      by wire.NotSent h = fair_01 _

  fair_error : (o h code : ℕ) → Fair (error o h code)
  unfolding wire.send wire.shape_of wire.rows
  fair_error o h code =
      fair_packet (error_packet o h code) (0x01 ∷ (wire.sent_fields (1 ∷ 2 ∷ 1 ∷ []) (o ∷ h ∷ code ∷ []) ++ [])) Nothing refl (fair_01 _)

  fair_quiet : (e : Effect) → Fair (doing Silence e)
  unfolding Fair FairRead
  fair_quiet e = (refl, tt)

  -- 03, 13: nothing is told of an attribute
  fair_03 : (n : ℕ) (e : Effect) → Fair (doing (Packet (wire.meaning 0x03 (n ∷ []) [])) e)
  unfolding FairRead wire.send wire.shape_of wire.rows
  fair_03 n e = fair_packet (wire.meaning 0x03 (n ∷ []) []) (0x03 ∷ (wire.sent_fields (2 ∷ []) (n ∷ []) ++ [])) e refl (fair_read 0x03 _ (refl, tt))

  fair_13 : (e : Effect) → Fair (doing (Packet (wire.meaning 0x13 [] [])) e)
  unfolding FairRead wire.send wire.shape_of wire.rows
  fair_13 e = fair_packet (wire.meaning 0x13 [] []) (0x13 ∷ []) e refl (fair_read 0x13 [] (refl, tt))

  -- 0B, 0D: what follows the opcode
  fair_value : (a : ℕ) (x : List ℕ) → wire.shape_of a ≡ wire.shape [] wire.Rest → FairRead s q (wire.Means (wire.meaning a [] x))
      → Fair (only (Packet (wire.meaning a [] x)))
  unfolding wire.send
  fair_value a x row f =
      fair_packet (wire.meaning a [] x) (a ∷ x) Nothing
      (ap (λ (w : wire.Shape). wire.shape_sends w (wire.meaning a [] x)) row) (fair_read a x (rw row f))

  -- a list
  fair_list : (a : ℕ) (ws ks : List ℕ) (width : List ℕ → ℕ) (least : ℕ) (is : List (List ℕ)) → wire.shape_of a ≡ wire.shape ws (wire.Items width least)
      → Fields ws ks → 2 ≤ width ks → AllOf (width ks) is
      → (items_of (wire.meaning a ks (joined is)) ≡ is → FairRead s q (wire.Means (wire.meaning a ks (joined is))))
      → Fair (only (Packet (wire.meaning a ks (joined is))))
  fair_list a ws ks width least is row fields long all f =
      fair_packet (wire.meaning a ks (joined is)) (a ∷ (wire.sent_fields ws ks ++ joined is)) Nothing
      (list_sent a ws ks width least is row fields long all)
      (rw (list_read a ws ks width least is row fields long all) (f (items_back a ws ks width least is row fields long all)))

-- What the attributes give to the searches, and how long an item is.
given_valued : (e : Bool) (i : Item) (front : List ℕ) (n : ℕ) → Given true (front ++ take n i.value) (value_part i.handle (reading_of e i) front n)
unfolding value_part
given_valued e i front n = by (may_read e i)
  where
    by : (b : Bool) → Given true (front ++ take n i.value) (value_part i.handle (pick b (Value i.value) (NoRead (unreadable i))) front n)
    by true = refl
    by false = tt

abbrev Told09 : ℕ → Type 0
Told09 n = (2 ≤ n) × (n < 256)

sized_valued : (a : ℕ) (r : Reading) (front : List ℕ) (n : ℕ) → 2 ≤ length front → length front + n < 256 → Sized Told09 (value_part a r front n)
unfolding value_part
sized_valued a (Value b) front n h k = (simp length-append (omega arith), simp (length-append, length-take) (omega arith))
sized_valued a (NoRead code) front n h k = tt

sized_if : (B : ℕ → Type 0) (c : Bool) (p : Part) → Sized B p → Sized B (pick c p Skip)
sized_if B true p h = h
sized_if B false p h = tt

-- 07 TELLS THE WHOLE VALUE: an attribute is listed for a value only where that is its value, and not a part of it.
pub listed_is_whole : (e : Bool) (i : Item) (value : List ℕ) → holds (reading_of e i) value ≡ true → value ≡ i.value
unfolding holds
listed_is_whole e i value h = by (may_read e i) h
  where
    by : (b : Bool) → holds (pick b (Value i.value) (NoRead (unreadable i))) value ≡ true → value ≡ i.value
    by true q = sym (same_equal i.value value q)
    by false q = impossible (cc)

format_small : (c : Bool) → pick c 1 2 < 256
format_small true = omega arith
format_small false = omega arith

abbrev of_kind : List ℕ → Item → Bool
of_kind kind i = equal_types i.kind kind

keep_all : (l : List Item) → keep (λ (i : Item). true) l ≡ l
keep_all [] = refl
keep_all (i ∷ l) = ap (λ (m : List Item). i ∷ m) (keep_all l)

module _ (s : State) (op room : ℕ) (ns t : List ℕ) (kn : Each (Known (ledger s)) (ledger s)) (most : s.link.mtu ≤ 247) where
  -- what is told is true where the value at the handle is the one that it was cut from
  cut_truth : (g h n : ℕ) (v : List ℕ) → g ≡ h → value_at h (ledger s) ≡ v → take n v ≡ take (length (take n v)) (value_at g (ledger s))
  cut_truth g h n v e a = cut n v ∙ ap (take (length (take n v))) (sym (ap (λ (x : ℕ). value_at x (ledger s)) e ∙ a))

  Shows : View → Type 0
  Shows v = (b : List ℕ) → v.reading ≡ Value b → value_at v.handle (ledger s) ≡ b

  shows_all : Each Shows (views s)
  unfolding Shows
  shows_all =
      each_map Shows (view s.link.encrypted) (ledger s)
      (each_so (Known (ledger s)) (λ (i : Item). Shows (view s.link.encrypted i)) (ledger s)
      (λ i a b h. a.alone ∙ shown_value s.link.encrypted i b h) kn)

  fair_0_a : Fair s op room ns t (read_reply (views s) s.link (nth ns 0))
  unfolding Shows FairRead wire.shape_of wire.rows
  fair_0_a =
      let l = s.link in
      by_read (Fair s op room ns t) Shows (views s) l (nth ns 0) shows_all (λ code. fair_error s op room ns t 0x0A (nth ns 0) code)
      (λ v b shows at_it held_there. fair_value s op room ns t 0x0B (take (l.mtu - 1) b) refl
      (refl, (cut_truth (nth ns 0) v.handle (l.mtu - 1) b (sym at_it) (shows b held_there), tt)))

  fair_0_c : Fair s op room ns t (blob_reply (views s) s.link (nth ns 0) (nth ns 1))
  unfolding Shows FairRead wire.shape_of wire.rows
  fair_0_c =
      let l = s.link in
      by_blob (Fair s op room ns t) Shows (views s) l (nth ns 0) (nth ns 1) shows_all (λ code. fair_error s op room ns t 0x0C (nth ns 0) code)
      (λ v b shows at_it held_there. fair_value s op room ns t 0x0D (take (l.mtu - 1) (drop (nth ns 1) b)) refl (
        refl,
        (
          cut (l.mtu - 1) (drop (nth ns 1) b)
              ∙ ap (λ (x : List ℕ). take (length (take (l.mtu - 1) (drop (nth ns 1) b))) (drop (nth ns 1) x))
              (sym (ap (λ (h : ℕ). value_at h (ledger s)) (sym at_it) ∙ shows b held_there)),
          tt,
        ),
      ))

  -- the lists: the start of what is due, and what is true of each item
  module _ (f : View → Part) (match : Item → Bool) (g : Item → List ℕ) (ok : (i : Item) → Given (match i) (g i) (f (view s.link.encrypted i)))
      (from to size n : ℕ) (is : List (List ℕ)) (found : search size (map f (in_range from to (views s))) ≡ Listed n is) where
    starts : Starts is (map g (keep match (between from to (ledger s))))
    starts =
        on_list (λ k xs. Starts xs (map g (keep match (between from to (ledger s)))))
        (search size (map f (map (view s.link.encrypted) (between from to (ledger s))))) n is
        (search_starts s.link.encrypted f match g ok size (between from to (ledger s)))
        (ap (λ (vs : List View). search size (map f vs)) (sym (within_view s.link.encrypted from to (ledger s))) ∙ found)

    each_item : (Q : List ℕ → Type 0) → ((i : Item) → Known (ledger s) i → match i ≡ true → Q (g i)) → Each Q is
    each_item Q h =
        let range = between from to (ledger s) in
        each_start Q is (map g (keep match range)) starts
        (each_map Q g (keep match range)
        (each_kept (λ (i : Item). Q (g i)) match range
        (each_so (Known (ledger s)) (λ (i : Item). match i ≡ true → Q (g i)) range h (each_keep (Known (ledger s)) _ (ledger s) kn))))

  sizes : (B : ℕ → Type 0) (f : View → Part) (vs : List View) (size n : ℕ) (is : List (List ℕ)) → Each (λ v. Sized B (f v)) vs
      → search size (map f vs) ≡ Listed n is → B n × AllOf n is
  sizes B f vs size n is a found = on_list (λ k xs. B k × AllOf k xs) (search size (map f vs)) n is (search_sizes B f size vs a) found

  due_row : (o : ℕ) (x : List (List ℕ)) → op ≡ o → lookup o (dues s ns t) [] ≡ x → due s (wire.meaning op ns t) ≡ x
  unfolding due
  due_row o x e h = ap (λ (k : ℕ). lookup k (dues s ns t) []) e ∙ h

  fair_08 : op ≡ 0x08 → Fair s op room ns t (read_by_type (views s) s.link (nth ns 0) (nth ns 1) t)
  unfolding read_by_type values typed FairRead wire.shape_of wire.rows
  fair_08 e =
      let l = s.link in
      let vs = views s in
      let from = nth ns 0 in
      let to = nth ns 1 in
      by_searched (Fair s op room ns t) 0x08 vs (l.mtu - 2) from to values (typed l t) (λ h code. fair_error s op room ns t 0x08 h code)
      (λ n is found.
      let ok : (i : Item) → Given (equal_types i.kind t) (value_item l i) (typed l t (view l.encrypted i)) = λ i.
      given_if (equal_types i.kind t) (value_item l i) (value_part i.handle (reading_of l.encrypted i) (bytes_of 2 i.handle) (l.mtu - 4))
      (λ q. given_valued l.encrypted i (bytes_of 2 i.handle) (l.mtu - 4)) in
      let size = sizes Told09 (typed l t) (in_range from to vs) (l.mtu - 2) n is
      (each (λ (v : View). Sized Told09 (typed l t v)) (in_range from to vs)
      (λ v. sized_if Told09 (equal_types v.kind t) (value_part v.handle v.reading (bytes_of 2 v.handle) (l.mtu - 4))
      (sized_valued v.handle v.reading (bytes_of 2 v.handle) (l.mtu - 4) (omega arith) (omega arith)))) found in
      fair_list s op room ns t 0x09 (1 ∷ []) (n ∷ []) wire.first 2 is refl (omega (arith, size.0.1), tt) size.0.0 size.1
      (λ back. rw (back, due_row 0x08 _ e refl) (
        starts (typed l t) (of_kind t) (value_item l) ok from to (l.mtu - 2) n is found,
        each_map (Truth s op room ns t) (λ (b : List ℕ). HasPart (number_at 2 0 b) 0 (drop 2 b)) is
            (each_item (typed l t) (of_kind t) (value_item l) ok from to (l.mtu - 2) n is found
            (λ (b : List ℕ). Truth s op room ns t (HasPart (number_at 2 0 b) 0 (drop 2 b)))
            (λ i a m. cut_truth (number_of (bytes_of 2 i.handle)) i.handle (l.mtu - 4) i.value (number_bytes 2 i.handle a.small) a.alone)),
      )))

  fair_10 : op ≡ 0x10 → Fair s op room ns t (read_by_group_type (views s) s.link (nth ns 0) (nth ns 1) t)
  unfolding read_by_group_type group_values grouped FairRead wire.shape_of wire.rows
  fair_10 e =
      let l = s.link in
      let vs = views s in
      let from = nth ns 0 in
      let to = nth ns 1 in
      by_pick (Fair s op room ns t) (range_ok from to && not (groups t)) (error 0x10 from 0x10)
      (searched 0x10 vs (l.mtu - 2) from to group_values (grouped vs l t))
      (fair_error s op room ns t 0x10 from 0x10)
      (by_searched (Fair s op room ns t) 0x10 vs (l.mtu - 2) from to group_values (grouped vs l t) (λ h code. fair_error s op room ns t 0x10 h code)
      (λ n is found.
      let ok : (i : Item) → Given (equal_types i.kind t) (group_item vs l i) (grouped vs l t (view l.encrypted i)) = λ i.
      let front = bytes_of 2 i.handle ++ bytes_of 2 (group_end (outlines vs) i.handle) in
      given_if (equal_types i.kind t) (group_item vs l i) (value_part i.handle (reading_of l.encrypted i) front (l.mtu - 6))
      (λ q. given_valued l.encrypted i front (l.mtu - 6)) in
      let size = sizes Told09 (grouped vs l t) (in_range from to vs) (l.mtu - 2) n is
      (each (λ (v : View). Sized Told09 (grouped vs l t v)) (in_range from to vs)
      (λ v. let front = bytes_of 2 v.handle ++ bytes_of 2 (group_end (outlines vs) v.handle) in
      sized_if Told09 (equal_types v.kind t) (value_part v.handle v.reading front (l.mtu - 6))
      (sized_valued v.handle v.reading front (l.mtu - 6) (omega arith) (omega arith)))) found in
      fair_list s op room ns t 0x11 (1 ∷ []) (n ∷ []) wire.first 4 is refl (omega (arith, size.0.1), tt) size.0.0 size.1
      (λ back. rw (back, due_row 0x10 _ e refl) (
        starts (grouped vs l t) (of_kind t) (group_item vs l) ok from to (l.mtu - 2) n is found,
        each_map (Truth s op room ns t) (λ (b : List ℕ). HasPart (number_at 2 0 b) 0 (drop 4 b)) is
            (each_item (grouped vs l t) (of_kind t) (group_item vs l) ok from to (l.mtu - 2) n is found
            (λ (b : List ℕ). Truth s op room ns t (HasPart (number_at 2 0 b) 0 (drop 4 b)))
            (λ i a m. cut_truth (number_of (bytes_of 2 i.handle)) i.handle (l.mtu - 6) i.value (number_bytes 2 i.handle a.small) a.alone)),
      ))))

  fair_06 : op ≡ 0x06 → Fair s op room ns t (find_by_type_value (views s) s.link (nth ns 0) (nth ns 1) (nth ns 2) t)
  unfolding find_by_type_value pairs pair FairRead wire.shape_of wire.rows
  fair_06 e =
      let l = s.link in
      let vs = views s in
      let from = nth ns 0 in
      let to = nth ns 1 in
      let kind = bytes_of 2 (nth ns 2) in
      by_searched (Fair s op room ns t) 0x06 vs (l.mtu - 1) from to pairs (pair vs kind t) (λ h code. fair_error s op room ns t 0x06 h code)
      (λ n is found.
      let ok : (i : Item) → Given (holds_value l.encrypted kind t i) (pair_item vs kind i) (pair vs kind t (view l.encrypted i)) = λ i.
      given_if (holds_value l.encrypted kind t i) (pair_item vs kind i) (Take (pair_item vs kind i)) (λ q. refl) in
      let size = sizes (λ k. k ≡ 4) (pair vs kind t) (in_range from to vs) (l.mtu - 1) n is
      (each (λ (v : View). Sized (λ k. k ≡ 4) (pair vs kind t v)) (in_range from to vs)
      (λ v. sized_if (λ k. k ≡ 4) (equal_types v.kind kind && holds v.reading t)
      (Take (bytes_of 2 v.handle ++ bytes_of 2 (end_of (outlines vs) kind v.handle))) refl)) found in
      let all : AllOf 4 is = rw size.0 at size.1 in
      fair_list s op room ns t 0x07 [] [] (λ ks. 4) 2 is refl tt (omega arith) all
      (λ back. rw (back, due_row 0x06 _ e refl) (
        starts (pair vs kind t) (holds_value l.encrypted kind t) (pair_item vs kind) ok from to (l.mtu - 1) n is found,
        each_map (Truth s op room ns t) (λ (b : List ℕ). HasWhole (number_at 2 0 b) t) is
            (each_item (pair vs kind t) (holds_value l.encrypted kind t) (pair_item vs kind) ok from to (l.mtu - 1) n is found
            (λ (b : List ℕ). Truth s op room ns t (HasWhole (number_at 2 0 b) t))
            (λ i a m.
            let h : number_of (bytes_of 2 i.handle) ≡ i.handle = number_bytes 2 i.handle a.small in
            listed_is_whole l.encrypted i t (both (equal_types i.kind kind) _ m).1 ∙ sym (ap (λ (k : ℕ). value_at k (ledger s)) h ∙ a.alone))),
      )))

  fair_04 : op ≡ 0x04 → Fair s op room ns t (find_information (views s) s.link (nth ns 0) (nth ns 1))
  unfolding find_information infos info FairRead wire.shape_of wire.rows
  fair_04 e =
      let l = s.link in
      let vs = views s in
      let from = nth ns 0 in
      let to = nth ns 1 in
      let range = between from to (ledger s) in
      by_searched (Fair s op room ns t) 0x04 vs (l.mtu - 2) from to infos info (λ h code. fair_error s op room ns t 0x04 h code)
      (λ n is found.
      let long : Each (λ (v : View). Sized Told05 (info v)) (map (view l.encrypted) range) =
      each_map (λ (v : View). Sized Told05 (info v)) (view l.encrypted) range
      (each_so (Known (ledger s)) (λ (i : Item). Sized Told05 (info (view l.encrypted i))) range
      (λ i a. let w : length (bytes_of 2 i.handle ++ i.kind) ≡ 2 + length i.kind = omega arith in rw w a.form)
      (each_keep (Known (ledger s)) _ (ledger s) kn)) in
      let size = sizes Told05 info (in_range from to vs) (l.mtu - 2) n is (rw (within_view l.encrypted from to (ledger s)) long) found in
      let width : wire.by_format (format n ∷ []) ≡ n = size.0.0 in
      fair_list s op room ns t 0x05 (1 ∷ []) (format n ∷ []) wire.by_format 2 is refl (format_small (eqb n 4), tt)
      (rw width size.0.1) (rw width size.1)
      (λ back. rw (back, due_row 0x04 _ e refl)
      (rw (keep_all range) at (starts info (λ (i : Item). true) info_item (λ i. refl) from to (l.mtu - 2) n is found), tt)))

  leaves : Leaves (views s) s.link op ns t (Fair s op room ns t)
  unfolding commanded
  leaves = record {
    requests = record {
      errors = λ h code. fair_error s op room ns t op h code;
      agrees = λ q. by_exchange (Fair s op room ns t) s.link (nth ns 0) (fair_error s op room ns t 0x02 0 0x06) (λ e. fair_03 s op room ns t 247 _);
      informs = fair_04;
      finds = fair_06;
      types = fair_08;
      reads = λ q. fair_0_a;
      blobs = λ q. fair_0_c;
      groupings = fair_10;
      writes = λ q. by_write (Fair s op room ns t) (views s) (nth ns 0) t (λ code. fair_error s op room ns t 0x12 (nth ns 0) code)
          (fair_13 s op room ns t (Stores (nth ns 0) t));
    };
    quiet = fair_quiet s op room ns t Nothing;
    commands = λ q. fair_quiet s op room ns t (write (views s) (nth ns 0) t).effect;
  }

-- The responder. A sound link has an MTU of at most 247; where a test of serving fails, nothing is told.
module _ (s : State) (k : sound s ≡ true) (typed : Typed s) where
  fair_reply : (op : ℕ) (p : List ℕ) (room : ℕ) → s.link.mtu ≤ 247
      → Fair s op room (wire.shape_means op (wire.shape_of op) p).numbers (wire.shape_means op (wire.shape_of op) p).tail (reply_to (views s) s.link (op ∷ p))
  fair_reply op p room most =
      by_reply _ (views s) s.link op p
      (leaves s op room (wire.shape_means op (wire.shape_of op) p).numbers (wire.shape_means op (wire.shape_of op) p).tail (known s k typed) most)

  link_most : (p : List ℕ) (room : ℕ) → serve_refusal s p room ≡ Ok tt → s.link.mtu ≤ 247
  unfolding serve_refusal link_ok mtu_ok
  link_most p room e = leb-true s.link.mtu 247 (both (leb 23 s.link.mtu) _ (each_passed (serve_tests s p room) e).1.0).1

  fair_answer : (op : ℕ) (p : List ℕ) (room : ℕ) (o : Result Unit Refusal) → serve_refusal s (op ∷ p) room ≡ o
      → FairRead s (wire.shape_means op (wire.shape_of op) p) (read_heard (heard_by o (spoken (reply_to (views s) s.link (op ∷ p)).says op room)))
  unfolding Fair FairRead
  fair_answer op p room (Ok u) e = fair_reply op p room (link_most (op ∷ p) room e)
  fair_answer op p room (Err why) e = (refl, tt)

  fair_serve : (p : List ℕ) (room : ℕ) (q : wire.Meaning) → wire.read p ≡ wire.Means q → FairRead s q (read_heard (serve s p room).heard)
  unfolding wire.read serve answered
  fair_serve [] room q e = impossible (cc)
  fair_serve (op ∷ p) room q e = rw (sym (meant (wire.decodes op p) e)) (fair_answer op p room (serve_refusal s (op ∷ p) room) refl)
    where
      meant : (b : Bool) → pick b (wire.Means (wire.shape_means op (wire.shape_of op) p)) wire.NotRead ≡ wire.Means q → wire.shape_means op (wire.shape_of op) p ≡ q
      meant true h = cc
      meant false h = impossible (cc)

-- IN A LIST, EACH HANDLE STANDS BEFORE ITS OWN VALUE: the items that a client reads in the answer to 04, 06, 08 or 10 are the first of
-- those that are due to its request, in order.
pub lists_in_order : (s : State) (p : List ℕ) (room : ℕ) (q : wire.Meaning) → sound s ≡ true → Typed s → wire.read p ≡ wire.Means q
    → Starts (items_in (read_heard (serve s p room).heard)) (due s q)
unfolding FairRead
lists_in_order s p room q k typed e = (fair_serve s k typed p room q e).0

-- WHAT IS TOLD OF A HANDLE IS WHAT IS HELD THERE, by 0A and 0C and in every list.
pub told_is_held : (s : State) (p : List ℕ) (room : ℕ) → sound s ≡ true → Typed s
    → Each (λ (x : Told). TrueOf (value_at (about x) (ledger s)) x) (told s p room)
unfolding told FairRead
told_is_held s p room k typed = by (wire.read p) refl
  where
    by : (r : wire.Read) → wire.read p ≡ r
        → Each (λ (x : Told). TrueOf (value_at (about x) (ledger s)) x) (told_by r (read_heard (serve s p room).heard))
    by (wire.Means q) e = (fair_serve s k typed p room q e).1
    by wire.NotRead e = tt

-- THE AUDITOR'S SENTENCE. Whatever own stores, packets and changes of encryption came before, all that a client is told of a handle is
-- of the value that was last written to this handle, or of the one that it held at the start, where none was.
pub expiry_is_not_lot : (s : State) (es : List Step) (p : List ℕ) (room : ℕ) → sound s ≡ true → Typed s
    → Each (λ (x : Told). TrueOf (last_for (about x) (value_at (about x) (ledger s)) (accepted s es)) x) (told (run s es) p room)
expiry_is_not_lot s es p room k typed =
    each_so (λ (x : Told). TrueOf (value_at (about x) (ledger (run s es))) x)
    (λ (x : Told). TrueOf (last_for (about x) (value_at (about x) (ledger s)) (accepted s es)) x) (told (run s es) p room)
    (λ x h. rw (held s es (about x) k) at h)
    (told_is_held (run s es) p room (run_sound s es k) (rw (run_skeleton s es) typed))

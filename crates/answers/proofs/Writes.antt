-- The auditor's sentence, what is written. What a packet asks for is what its own bytes say: by the walk over all replies, of which only
-- those to 12 and 52 store. And its write is accepted exactly where the book says so: by the rows of 12 and 52, whose tests are those
-- of `takes_write`, and by the walk for all other packets.
use Rattle.std.specs.Prelude.{Result, Ok, Err}
use Prim.Native.Nat.{ℕ, ◌≤◌}
use mathlib.Core.Bool.{Bool, true, false, ◌&&◌, ◌||◌, not}
use mathlib.Core.Path.{◌≡◌, refl, ◌∙◌, ap}
use mathlib.Core.List.{List, [], ◌∷◌, map}
use native.Mathlib.Omega.{arith}
use lib.ListN.{length, drop}
use lib.Dec.{leb, eqb}
use borrow.Author.Tests.{eqb-true, eqb-false, leb-true, le-leb}
use Rattle.codec.specs.Cases.{pick}
use Rattle.codec.specs.CasesLaws.{impossible, both}
use Rattle.codec.specs.declared.Refusal.{Refusal}
use Rattle.primitives.specs.Numbers.{number_at}
use Rattle.att.specs.Wire.{meaning, rows, shape_of, shape_means, strict, send}
use Rattle.attributes.proofs.AdditionLaws.{each_passed}
use Rattle.attributes.specs.FindLaws.{first_two, first_map}
use Rattle.attributes.specs.Ledger.{Item, item}
use Rattle.attributes.specs.Records.{Slot, Kept, Room, slot_of, slot_size, entries}
use Rattle.attributes.specs.Soundness.{record_ok, slots_end, records_ok}
use Rattle.attributes.proofs.SoundnessLaws.{good, sound_parts, plain, plain_place}
use Rattle.attributes.specs.Stores.{slot_refusal, store_refusal}
use Rattle.attributes.specs.declared.Record.{Record}
use Rattle.answers.specs.View.{View, view, view_at, Writing, UpTo, NoWrite, may_write, unwritable, writing_of}
use Rattle.answers.specs.Replies.{Says, Packet, Silence, Effect, Nothing, Stores, Reply, doing, only, error_packet, error, writing, write, keep, nth, served, row_reply, request, silent, commanded, command, reply_to, mtu_ok, link_ok}
use Rattle.answers.proofs.ReplyLaws.{Leaves, by_exchange, by_write, by_packets, by_reply, by_does, by_asks}
use Rattle.answers.specs.Serve.{State, sound, ledger, views, does, serve_tests, serve_refusal, asks}
use Rattle.answers.specs.Auditor.{write_in, AsksOnly, accepted_of, writable_at, takes_write}
use Rattle.answers.specs.declared.Link.{Link}

-- WHAT IS WRITTEN IS WHAT THE PACKET SAYS: nothing, the end of an exchange, or, for 12 and 52 alone, a store at the handle in the first
-- two payload bytes of exactly the bytes behind them.
module _ (vs : List View) (l : Link) (op : ℕ) (p : List ℕ) where
  Said : Reply → Type 0
  Said r = AsksOnly (op ∷ p) r.effect

  said_12 : op ≡ 0x12 → AsksOnly (op ∷ p) (Stores (nth (shape_means op (shape_of op) p).numbers 0) (shape_means op (shape_of op) p).tail)
  unfolding shape_of rows
  said_12 e = rw e

  said_52 : op ≡ 0x52 → AsksOnly (op ∷ p) (Stores (nth (shape_means op (shape_of op) p).numbers 0) (shape_means op (shape_of op) p).tail)
  unfolding shape_of rows
  said_52 e = rw e

  said_leaves : Leaves vs l op (shape_means op (shape_of op) p).numbers (shape_means op (shape_of op) p).tail Said
  unfolding Said commanded
  said_leaves =
      let m = shape_means op (shape_of op) p in
      record {
        requests = by_packets Said vs l op m.numbers m.tail (λ x. tt) (λ e. by_exchange Said l (nth m.numbers 0) tt (λ q. tt))
            (λ e. by_write Said vs (nth m.numbers 0) m.tail (λ code. tt) (said_12 e));
        quiet = tt;
        commands = λ e. by_write Said vs (nth m.numbers 0) m.tail (λ code. tt) (said_52 e);
      }

pub asks_what_it_says : (s : State) (p : List ℕ) (room : ℕ) → AsksOnly p (asks s p room)
unfolding Said reply_to
asks_what_it_says s [] room = by_asks (AsksOnly []) s [] room tt tt
asks_what_it_says s (op ∷ p) room =
    by_asks (AsksOnly (op ∷ p)) s (op ∷ p) room
    (by_reply (Said (views s) s.link op p) (views s) s.link op p (said_leaves (views s) s.link op p)) tt

-- Whether a link may write n bytes at a handle, by the views and by the ledger; and what comes of a write.
abbrev pub allows_by : ℕ → Writing → Bool
allows_by n (UpTo c) = leb n c
allows_by n (NoWrite c) = false

abbrev pub allows : ℕ → ℕ → List View → Bool
allows h n vs = view_at h (λ (v : View). allows_by n v.writing) false vs

pub allows_is : (e : Bool) (h : ℕ) (d : List ℕ) (is : List Item) → allows h (length d) (map (view e) is) ≡ writable_at e (h, d) is
allows_is e h d is =
    first_map (view e) (λ (v : View). v.handle) h (λ (v : View). allows_by (length d) v.writing) false is
    ∙ first_two (λ (a b : Bool). a ≡ b) (λ (i : Item). i.handle) h (λ (i : Item). allows_by (length d) (writing_of e i))
    (λ (i : Item). may_write e i && leb (length d) (slot_size i.slot)) false false is
    (λ i q. one (may_write e i) (slot_size i.slot) (unwritable i)) refl
  where
    one : (b : Bool) (c code : ℕ) → allows_by (length d) (pick b (UpTo c) (NoWrite code)) ≡ (b && leb (length d) c)
    one true c code = refl
    one false c code = refl

abbrev effect_if : Bool → ℕ → List ℕ → Effect
effect_if b h d = pick b (Stores h d) Nothing

nothing_done : (x : Says) (room : ℕ) → does x room Nothing ≡ Nothing
nothing_done x room = by_does (λ (e : Effect). e ≡ Nothing) x room Nothing refl refl

sent_13 : (room : ℕ) (e : Effect) → 1 ≤ room → does (Packet (meaning 0x13 [] [])) room e ≡ e
unfolding send shape_of rows
sent_13 room e big = rw (le-leb 1 room big)

writing_does : (h : ℕ) (d : List ℕ) (room : ℕ) → 1 ≤ room → (w : Writing)
    → does (writing h d w).says room (writing h d w).effect ≡ effect_if (allows_by (length d) w) h d
unfolding writing
writing_does h d room big (UpTo c) = by (leb (length d) c)
  where
    done : Bool → Reply
    done b = pick b (doing (Packet (meaning 0x13 [] [])) (Stores h d)) (error 0x12 h 0x0D)

    by : (b : Bool) → does (done b).says room (done b).effect ≡ effect_if b h d
    by true = sent_13 room (Stores h d) big
    by false = nothing_done (Packet (error_packet 0x12 h 0x0D)) room
writing_does h d room big (NoWrite code) = nothing_done (Packet (error_packet 0x12 h code)) room

write_does : (vs : List View) (h : ℕ) (d : List ℕ) (room : ℕ) → 1 ≤ room
    → does (write vs h d).says room (write vs h d).effect ≡ effect_if (allows h (length d) vs) h d
unfolding write
write_does vs h d room big =
    first_two (λ (r : Reply) (b : Bool). does r.says room r.effect ≡ effect_if b h d) (λ (v : View). v.handle) h
    (λ (v : View). writing h d v.writing) (λ (v : View). allows_by (length d) v.writing) (error 0x12 h 0x01) false vs
    (λ v q. writing_does h d room big v.writing) (nothing_done (Packet (error_packet 0x12 h 0x01)) room)

writing_effect : (h : ℕ) (d : List ℕ) (w : Writing) → (writing h d w).effect ≡ effect_if (allows_by (length d) w) h d
unfolding writing
writing_effect h d (UpTo c) = by (leb (length d) c)
  where
    by : (b : Bool) → (pick b (doing (Packet (meaning 0x13 [] [])) (Stores h d)) (error 0x12 h 0x0D)).effect ≡ effect_if b h d
    by true = refl
    by false = refl
writing_effect h d (NoWrite code) = refl

write_effect : (vs : List View) (h : ℕ) (d : List ℕ) → (write vs h d).effect ≡ effect_if (allows h (length d) vs) h d
unfolding write
write_effect vs h d =
    first_two (λ (r : Reply) (b : Bool). r.effect ≡ effect_if b h d) (λ (v : View). v.handle) h (λ (v : View). writing h d v.writing)
    (λ (v : View). allows_by (length d) v.writing) (error 0x12 h 0x01) false vs (λ v q. writing_effect h d v.writing) refl

-- What the link may write, the table takes: no fixed attribute of a sound table is writable.
taken : (n : ℕ) (s : Slot) (w c : Bool) → plain s w ≡ true → ((w && c) && leb n (slot_size s)) ≡ true → slot_refusal n s ≡ Ok tt
taken n s false c p e = impossible (cc)
taken n s true false p e = impossible (cc)
taken n Kept true true p e = impossible (cc)
taken n (Room c) true true p e = rw e

allowed : (enc : Bool) (h : ℕ) (d : List ℕ) (fl ll last at : ℕ) (fixed live : List ℕ) (rs : List Record) → records_ok fl ll last at rs ≡ true
    → writable_at enc (h, d) (map (item fixed live) rs) ≡ true → store_refusal h (length d) (map (item fixed live) rs) ≡ Ok tt
allowed enc h d fl ll last at fixed live [] o e = impossible (cc)
allowed enc h d fl ll last at fixed live (r ∷ rs) o e =
    let g = both (record_ok fl ll last at r) _ o in
    let flat = plain_place fl r.writable r.place (good fl ll last at r g.0).value in
    by (eqb r.handle h) e (allowed enc h d fl ll r.handle (slots_end at r) fixed live rs g.1)
    (taken (length d) (slot_of r.place) r.writable (not r.write_encrypted || enc) flat)
  where
    by : (b : Bool)
        → pick b (may_write enc (item fixed live r) && leb (length d) (slot_size (slot_of r.place))) (writable_at enc (h, d) (map (item fixed live) rs)) ≡ true
        → (writable_at enc (h, d) (map (item fixed live) rs) ≡ true → store_refusal h (length d) (map (item fixed live) rs) ≡ Ok tt)
        → ((may_write enc (item fixed live r) && leb (length d) (slot_size (slot_of r.place))) ≡ true → slot_refusal (length d) (slot_of r.place) ≡ Ok tt)
        → pick b (slot_refusal (length d) (slot_of r.place)) (store_refusal h (length d) (map (item fixed live) rs)) ≡ Ok tt
    by true e f g = g e
    by false e f g = f e

-- the rows of 12 and 52, with their tests in front
pub row_12 : (vs : List View) (l : Link) (p : List ℕ) → reply_to vs l (0x12 ∷ p)
    ≡ pick (leb (length (0x12 ∷ p)) l.mtu) (pick (strict (0x12 ∷ p)) (write vs (number_at 2 0 p) (drop 2 p)) (error 0x12 0 0x04)) (error 0x12 0 0x04)
unfolding reply_to silent request row_reply served shape_of rows
row_12 vs l p = refl

row_52 : (vs : List View) (l : Link) (p : List ℕ) → reply_to vs l (0x52 ∷ p)
    ≡ pick (strict (0x52 ∷ p) && leb (length (0x52 ∷ p)) l.mtu) (doing Silence (write vs (number_at 2 0 p) (drop 2 p)).effect) (only Silence)
unfolding reply_to silent command commanded shape_of rows
row_52 vs l p = refl

-- AND IT IS ACCEPTED EXACTLY WHERE THE BOOK SAYS SO.
module _ (s : State) (k : sound s ≡ true) where
  accept_if : (h : ℕ) (d : List ℕ) (b : Bool) → writable_at s.link.encrypted (h, d) (ledger s) ≡ b
      → accepted_of (effect_if b h d) (ledger s) ≡ pick b ((h, d) ∷ []) []
  unfolding ledger sound
  accept_if h d true e =
      rw (allowed s.link.encrypted h d (length s.fixed) (length s.live) 0 0 s.fixed s.live (entries s.table)
      (sound_parts s.table (length s.fixed) (length s.live) k).records e)
  accept_if h d false e = refl

  accept_write : (h : ℕ) (d : List ℕ) (x : Effect) → x ≡ effect_if (allows h (length d) (views s)) h d
      → accepted_of x (ledger s) ≡ pick (writable_at s.link.encrypted (h, d) (ledger s)) ((h, d) ∷ []) []
  accept_write h d x e =
      ap (λ (y : Effect). accepted_of y (ledger s)) (e ∙ ap (λ (b : Bool). effect_if b h d) (allows_is s.link.encrypted h d (ledger s)))
      ∙ accept_if h d (writable_at s.link.encrypted (h, d) (ledger s)) refl

  nothing_accepted : (x : Effect) → x ≡ Nothing → accepted_of x (ledger s) ≡ []
  nothing_accepted x e = ap (λ (y : Effect). accepted_of y (ledger s)) e

  -- room for 13, where no test fails
  roomy : (p : List ℕ) (room : ℕ) → serve_refusal s p room ≡ Ok tt → 1 ≤ room
  unfolding serve_refusal link_ok mtu_ok
  roomy p room e =
      let t = each_passed (serve_tests s p room) e in
      omega (arith, leb-true 23 s.link.mtu (both (leb 23 s.link.mtu) _ t.1.0).0, leb-true s.link.mtu room t.1.1.0)

  module _ (p : List ℕ) (room : ℕ) where
    request_12 : (o : Result Unit Refusal) → serve_refusal s (0x12 ∷ p) room ≡ o
        → accepted_of (asks s (0x12 ∷ p) room) (ledger s) ≡ keep (takes_write s (0x12 ∷ p) room) (write_in (0x12 ∷ p))
    unfolding asks takes_write
    request_12 (Err why) e = rw e
    request_12 (Ok u) e =
        rw e (by (leb (length (0x12 ∷ p)) s.link.mtu) (strict (0x12 ∷ p)) (reply_to (views s) s.link (0x12 ∷ p)) (row_12 (views s) s.link p))
      where
        by : (a c : Bool) (r : Reply) → r ≡ pick a (pick c (write (views s) (number_at 2 0 p) (drop 2 p)) (error 0x12 0 0x04)) (error 0x12 0 0x04)
            → accepted_of (does r.says room r.effect) (ledger s)
            ≡ pick (a && (c && writable_at s.link.encrypted (number_at 2 0 p, drop 2 p) (ledger s))) ((number_at 2 0 p, drop 2 p) ∷ []) []
        by true true r q = rw q (accept_write (number_at 2 0 p) (drop 2 p) _ (write_does (views s) (number_at 2 0 p) (drop 2 p) room (roomy (0x12 ∷ p) room e)))
        by true false r q = rw q (nothing_accepted _ (nothing_done (Packet (error_packet 0x12 0 0x04)) room))
        by false c r q = rw q (nothing_accepted _ (nothing_done (Packet (error_packet 0x12 0 0x04)) room))

    command_52 : (o : Result Unit Refusal) → serve_refusal s (0x52 ∷ p) room ≡ o
        → accepted_of (asks s (0x52 ∷ p) room) (ledger s) ≡ keep (takes_write s (0x52 ∷ p) room) (write_in (0x52 ∷ p))
    unfolding asks takes_write
    command_52 (Err why) e = rw e
    command_52 (Ok u) e =
        rw e (by (leb (length (0x52 ∷ p)) s.link.mtu) (strict (0x52 ∷ p)) (reply_to (views s) s.link (0x52 ∷ p)) (row_52 (views s) s.link p))
      where
        by : (a c : Bool) (r : Reply) → r ≡ pick (c && a) (doing Silence (write (views s) (number_at 2 0 p) (drop 2 p)).effect) (only Silence)
            → accepted_of (does r.says room r.effect) (ledger s)
            ≡ pick (a && (c && writable_at s.link.encrypted (number_at 2 0 p, drop 2 p) (ledger s))) ((number_at 2 0 p, drop 2 p) ∷ []) []
        by true true r q = rw q (accept_write (number_at 2 0 p) (drop 2 p) _ (write_effect (views s) (number_at 2 0 p) (drop 2 p)))
        by true false r q = rw q
        by false true r q = rw q
        by false false r q = rw q

    -- no other packet stores
    others : (op : ℕ) → (op ≡ 0x12 → ⊥) → (op ≡ 0x52 → ⊥) → accepted_of (asks s (op ∷ p) room) (ledger s) ≡ []
    others op a b =
        by_asks Silent s (op ∷ p) room (by_reply None (views s) s.link op p leaves) refl
      where
        Silent : Effect → Type 0
        Silent e = accepted_of e (ledger s) ≡ []

        None : Reply → Type 0
        None r = accepted_of r.effect (ledger s) ≡ []

        leaves : Leaves (views s) s.link op (shape_means op (shape_of op) p).numbers (shape_means op (shape_of op) p).tail None
        leaves =
            let m = shape_means op (shape_of op) p in
            record {
              requests = by_packets None (views s) s.link op m.numbers m.tail (λ x. refl)
                  (λ e. by_exchange None s.link (nth m.numbers 0) refl (λ q. refl)) (λ e. absurd (a e));
              quiet = refl;
              commands = λ e. absurd (b e);
            }

  pub accepted_packet : (p : List ℕ) (room : ℕ) → accepted_of (asks s p room) (ledger s) ≡ keep (takes_write s p room) (write_in p)
  unfolding reply_to
  accepted_packet [] room = by_asks (λ (e : Effect). accepted_of e (ledger s) ≡ []) s [] room refl refl
  accepted_packet (op ∷ p) room = by (eqb op 0x12) (eqb op 0x52) refl refl
    where
      by : (a b : Bool) → eqb op 0x12 ≡ a → eqb op 0x52 ≡ b
          → accepted_of (asks s (op ∷ p) room) (ledger s) ≡ keep (takes_write s (op ∷ p) room) (pick (a || b) ((number_at 2 0 p, drop 2 p) ∷ []) [])
      by true b e f = rw (eqb-true op 0x12 e) (request_12 p room (serve_refusal s (0x12 ∷ p) room) refl)
      by false true e f = rw (eqb-true op 0x52 f) (command_52 p room (serve_refusal s (0x52 ∷ p) room) refl)
      by false false e f = others p room op (eqb-false op 0x12 e) (eqb-false op 0x52 f)

-- A walk over all replies: what holds of each kind of answer holds of every reply. By the reply's own tests, in their order.
use Rattle.std.specs.Prelude.{ℕ, ◌-◌, min, max, Bool, ◌&&◌, ◌≡◌, length, take, drop, Result, Ok, Err}
use Rattle.std.proofs.Math.Bool.{true, false, not}
use Rattle.std.proofs.Math.Path.{refl}
use mathlib.Core.List.{List, [], ◌∷◌, map}
use Rattle.std.proofs.Math.Dec.{leb, eqb}
use Rattle.std.proofs.Common.{eqb-true}
use Rattle.codec.specs.Cases.{pick, lookup}
use Rattle.codec.specs.declared.Refusal.{Refusal}
use Rattle.primitives.specs.Numbers.{bytes_of}
use Rattle.att.specs.Items.{joined}
use Rattle.att.specs.Wire.{Meaning, meaning, shape_of, shape_means, strict, Coded, Sent, NotSent, send}
use Rattle.attributes.specs.FindLaws.{first_each}
use Rattle.attributes.specs.Lists.{Each}
use Rattle.answers.specs.View.{view_at, View, Reading, Value, NoRead, Writing, UpTo, NoWrite}
use Rattle.answers.specs.Replies.{Says, Packet, Effect, Nothing, Stores, Agrees, Found, None, Failed, Listed, listing, search, in_range, Silence, Reply, Part, Row, Serves, NotServed, doing, only, error_packet, error, exchange, value_told, blob_told, reading, read_reply, blob_reply, writing, write, range_ok, searched, groups, info, infos, find_information, pair, pairs, find_by_type_value, typed, values, read_by_type, grouped, group_values, read_by_group_type, nth, served, row_reply, request, silent, commanded, command, reply_to}
use Rattle.answers.specs.Serve.{State, views, coded_does, does, serve_refusal, effect_by, asks}
use Rattle.answers.specs.declared.Link.{Link}

-- Each kind of answer to a request `op` with the numbers `ns` and the tail `t`: an error, or what its row says.
pub record Requests (vs : List View) (l : Link) (op : ℕ) (ns t : List ℕ) (P : Reply → Type 0) : Type 0 where
  pub errors : (h code : ℕ) → P (error op h code)
  pub agrees : op ≡ 0x02 → P (exchange l (nth ns 0))
  pub informs : op ≡ 0x04 → P (find_information vs l (nth ns 0) (nth ns 1))
  pub finds : op ≡ 0x06 → P (find_by_type_value vs l (nth ns 0) (nth ns 1) (nth ns 2) t)
  pub types : op ≡ 0x08 → P (read_by_type vs l (nth ns 0) (nth ns 1) t)
  pub reads : op ≡ 0x0A → P (read_reply vs l (nth ns 0))
  pub blobs : op ≡ 0x0C → P (blob_reply vs l (nth ns 0) (nth ns 1))
  pub groupings : op ≡ 0x10 → P (read_by_group_type vs l (nth ns 0) (nth ns 1) t)
  pub writes : op ≡ 0x12 → P (write vs (nth ns 0) t)

-- And each kind of answer to any packet: silence, with what 52 does or without, too.
pub record Leaves (vs : List View) (l : Link) (op : ℕ) (ns t : List ℕ) (P : Reply → Type 0) : Type 0 where
  pub requests : Requests vs l op ns t P
  pub quiet : P (only Silence)
  pub commands : op ≡ 0x52 → P (commanded vs ns t)

any : (vs : List View) → Each (λ v. Unit) vs
any [] = tt
any (v ∷ vs) = (tt, any vs)

module _ (P : Reply → Type 0) where
  pub by_pick : (b : Bool) (x y : Reply) → P x → P y → P (pick b x y)
  by_pick true x y p q = p
  by_pick false x y p q = q

-- One attribute, by its handle: it is one of those, with what is known of each.
module _ (P : Reply → Type 0) (Q : View → Type 0) where
  by_known : (h : ℕ) (vs : List View) (f : View → Reply) (d : Reply) → Each Q vs → ((v : View) → Q v → v.handle ≡ h → P (f v)) → P d
      → P (view_at h f d vs)
  by_known h vs f d a g p = first_each P Q (λ (v : View). v.handle) h f d vs a g p

  first_of : (b : Bool) (m n : Meaning) → P (only (Packet m)) → P (only (Packet n)) → P (only (Packet (pick b m n)))
  first_of true m n p q = p
  first_of false m n p q = q

  by_reading : (op h : ℕ) (f : List ℕ → Reply) (r : Reading) → ((code : ℕ) → P (error op h code)) → ((b : List ℕ) → r ≡ Value b → P (f b))
      → P (reading op h f r)
  unfolding reading
  by_reading op h f (Value b) e g = g b refl
  by_reading op h f (NoRead code) e g = e code

  -- the view that has the handle, and the value that it shows
  pub by_read : (vs : List View) (l : Link) (h : ℕ) → Each Q vs → ((code : ℕ) → P (error 0x0A h code))
      → ((v : View) (b : List ℕ) → Q v → v.handle ≡ h → v.reading ≡ Value b → P (value_told l b))
      → P (read_reply vs l h)
  unfolding read_reply
  by_read vs l h a e g =
      by_known h vs (λ v. reading 0x0A h (value_told l) v.reading) (error 0x0A h 0x01) a
      (λ v q same. by_reading 0x0A h (value_told l) v.reading e (λ b shows. g v b q same shows))
      (e 0x01)

  pub by_blob : (vs : List View) (l : Link) (h offset : ℕ) → Each Q vs → ((code : ℕ) → P (error 0x0C h code))
      → ((v : View) (b : List ℕ) → Q v → v.handle ≡ h → v.reading ≡ Value b
      → P (only (Packet (meaning 0x0D [] (take (l.mtu - 1) (drop offset b))))))
      → P (blob_reply vs l h offset)
  unfolding blob_reply
  by_blob vs l h offset a e g =
      by_known h vs (λ v. reading 0x0C h (blob_told l h offset) v.reading) (error 0x0C h 0x01) a
      (λ v q same. by_reading 0x0C h (blob_told l h offset) v.reading e
      (λ b shows. first_of (leb offset (length b)) (meaning 0x0D [] (take (l.mtu - 1) (drop offset b))) (error_packet 0x0C h 0x07)
      (g v b q same shows) (e 0x07)))
      (e 0x01)

-- A search: an error, or what was found.
module _ (P : Reply → Type 0) where
  pub by_listing : (op from : ℕ) (answer : ℕ → List ℕ → Meaning) (x : Found) → ((h code : ℕ) → P (error op h code))
      → ((n : ℕ) (is : List (List ℕ)) → x ≡ Listed n is → P (only (Packet (answer n (joined is))))) → P (listing op from answer x)
  unfolding listing
  by_listing op from answer None e g = e from 0x0A
  by_listing op from answer (Failed h code) e g = e h code
  by_listing op from answer (Listed n is) e g = g n is refl

  pub by_searched : (op : ℕ) (vs : List View) (room from to : ℕ) (answer : ℕ → List ℕ → Meaning) (f : View → Part)
      → ((h code : ℕ) → P (error op h code))
      → ((n : ℕ) (is : List (List ℕ)) → search room (map f (in_range from to vs)) ≡ Listed n is → P (only (Packet (answer n (joined is)))))
      → P (searched op vs room from to answer f)
  unfolding searched
  by_searched op vs room from to answer f e g =
      by_pick P (range_ok from to) (listing op from answer (search room (map f (in_range from to vs)))) (error op from 0x01)
      (by_listing op from answer (search room (map f (in_range from to vs))) e g) (e from 0x01)

  -- an exchange, and a write
  pub by_exchange : (l : Link) (mtu : ℕ) → P (error 0x02 0 0x06)
      → (l.exchanged ≡ false → P (doing (Packet (meaning 0x03 (247 ∷ []) [])) (Agrees (max 23 (min 247 mtu))))) → P (exchange l mtu)
  unfolding exchange
  by_exchange l mtu e g = by l.exchanged refl
    where
      by : (b : Bool) → l.exchanged ≡ b → P (pick b (error 0x02 0 0x06) (doing (Packet (meaning 0x03 (247 ∷ []) [])) (Agrees (max 23 (min 247 mtu)))))
      by true q = e
      by false q = g q

  by_writing : (h : ℕ) (d : List ℕ) (w : Writing) → ((code : ℕ) → P (error 0x12 h code)) → P (doing (Packet (meaning 0x13 [] [])) (Stores h d))
      → P (writing h d w)
  unfolding writing
  by_writing h d (UpTo c) e g = by_pick P (leb (length d) c) (doing (Packet (meaning 0x13 [] [])) (Stores h d)) (error 0x12 h 0x0D) g (e 0x0D)
  by_writing h d (NoWrite code) e g = e code

  pub by_write : (vs : List View) (h : ℕ) (d : List ℕ) → ((code : ℕ) → P (error 0x12 h code)) → P (doing (Packet (meaning 0x13 [] [])) (Stores h d))
      → P (write vs h d)
  unfolding write
  by_write vs h d e g =
      by_known P (λ v. Unit) h vs (λ v. writing h d v.writing) (error 0x12 h 0x01) (any vs) (λ v u q. by_writing h d v.writing e g) (e 0x01)

-- Where only what is said matters, or only what is done: what holds of every packet without an effect holds of all that reads.
module _ (P : Reply → Type 0) (vs : List View) (l : Link) (op : ℕ) (ns t : List ℕ) where
  pub by_packets : ((m : Meaning) → P (only (Packet m))) → (op ≡ 0x02 → P (exchange l (nth ns 0))) → (op ≡ 0x12 → P (write vs (nth ns 0) t))
      → Requests vs l op ns t P
  unfolding find_information find_by_type_value read_by_type read_by_group_type
  by_packets g x w = record {
    errors = λ h code. g _;
    agrees = x;
    informs = λ q. by_searched P 0x04 vs (l.mtu - 2) (nth ns 0) (nth ns 1) infos info (λ h code. g _) (λ n is e. g _);
    finds = λ q. by_searched P 0x06 vs (l.mtu - 1) (nth ns 0) (nth ns 1) pairs (pair vs (bytes_of 2 (nth ns 2)) t) (λ h code. g _) (λ n is e. g _);
    types = λ q. by_searched P 0x08 vs (l.mtu - 2) (nth ns 0) (nth ns 1) values (typed l t) (λ h code. g _) (λ n is e. g _);
    reads = λ q. by_read P (λ v. Unit) vs l (nth ns 0) (any vs) (λ code. g _) (λ v b u e f. g _);
    blobs = λ q. by_blob P (λ v. Unit) vs l (nth ns 0) (nth ns 1) (any vs) (λ code. g _) (λ v b u e f. g _);
    groupings = λ q. by_pick P (range_ok (nth ns 0) (nth ns 1) && not (groups t)) (error 0x10 (nth ns 0) 0x10)
        (searched 0x10 vs (l.mtu - 2) (nth ns 0) (nth ns 1) group_values (grouped vs l t)) (g _)
        (by_searched P 0x10 vs (l.mtu - 2) (nth ns 0) (nth ns 1) group_values (grouped vs l t) (λ h code. g _) (λ n is e. g _));
    writes = w;
  }

-- The tests in front of the rows.
abbrev RowHolds : (Reply → Type 0) → Row → Type 0
RowHolds P (Serves r) = P r
RowHolds P NotServed = Unit

abbrev All : (Reply → Type 0) → ℕ → List (ℕ × Row) → Type 0
All P op [] = Unit
All P op (r ∷ rs) = (op ≡ r.0 → RowHolds P r.1) × All P op rs

by_lookup : (P : Reply → Type 0) (op : ℕ) (rows : List (ℕ × Row)) → All P op rows → RowHolds P (lookup op rows NotServed)
by_lookup P op [] a = tt
by_lookup P op (r ∷ rs) a = by (eqb op r.0) refl (by_lookup P op rs a.1)
  where
    by : (b : Bool) → eqb op r.0 ≡ b → RowHolds P (lookup op rs NotServed) → RowHolds P (pick b r.1 (lookup op rs NotServed))
    by true q x = a.0 (eqb-true op r.0 q)
    by false q x = x

by_row : (P : Reply → Type 0) (op : ℕ) (ok : Bool) (row : Row) → ((h code : ℕ) → P (error op h code)) → RowHolds P row → P (row_reply op ok row)
unfolding row_reply
by_row P op ok (Serves r) e x = by_pick P ok r (error op 0 0x04) x (e 0 0x04)
by_row P op ok NotServed e x = e 0 0x06

module _ (P : Reply → Type 0) (vs : List View) (l : Link) (op : ℕ) (p : List ℕ) where
  pub by_request : Requests vs l op (shape_means op (shape_of op) p).numbers (shape_means op (shape_of op) p).tail P → P (request vs l op p)
  unfolding request served
  by_request k =
      let m = shape_means op (shape_of op) p in
      by_pick P (leb (length (op ∷ p)) l.mtu) _ _
      (by_row P op (strict (op ∷ p)) (lookup op (served vs l m.numbers m.tail) NotServed) k.errors
      (by_lookup P op (served vs l m.numbers m.tail)
      (k.agrees, (k.informs, (k.finds, (k.types, (k.reads, (k.blobs, (k.groupings, (k.writes, tt))))))))))
      (k.errors 0 0x04)

  by_command : Leaves vs l op (shape_means op (shape_of op) p).numbers (shape_means op (shape_of op) p).tail P → P (command vs l op p)
  unfolding command
  by_command k = by (eqb op 0x52) (strict (op ∷ p) && leb (length (op ∷ p)) l.mtu) refl
    where
      by : (b c : Bool) → eqb op 0x52 ≡ b → P (pick (b && c) (commanded vs (shape_means op (shape_of op) p).numbers (shape_means op (shape_of op) p).tail) (only Silence))
      by true true q = k.commands (eqb-true op 0x52 q)
      by true false q = k.quiet
      by false c q = k.quiet

  pub by_reply : Leaves vs l op (shape_means op (shape_of op) p).numbers (shape_means op (shape_of op) p).tail P → P (reply_to vs l (op ∷ p))
  unfolding reply_to
  by_reply k = by_pick P (silent op) (command vs l op p) (request vs l op p) (by_command k) (by_request k.requests)

-- What comes of an effect behind the encoder is it, or nothing; and what a packet asks for is so too.
pub by_does : (Q : Effect → Type 0) (x : Says) (room : ℕ) (e : Effect) → Q e → Q Nothing → Q (does x room e)
by_does Q (Packet m) room e k n = by (send m)
  where
    fit : (b : Bool) → Q (pick b e Nothing)
    fit true = k
    fit false = n

    by : (c : Coded) → Q (coded_does c room e)
    by (Sent b) = fit (leb (length b) room)
    by NotSent = n
by_does Q Silence room e k n = k

pub by_asks : (Q : Effect → Type 0) (s : State) (p : List ℕ) (room : ℕ) → Q (reply_to (views s) s.link p).effect → Q Nothing → Q (asks s p room)
unfolding asks
by_asks Q s p room k n = by (serve_refusal s p room)
  where
    r : Reply
    r = reply_to (views s) s.link p

    by : (o : Result Unit Refusal) → Q (effect_by o (does r.says room r.effect))
    by (Ok u) = by_does Q r.says room r.effect k n
    by (Err why) = n

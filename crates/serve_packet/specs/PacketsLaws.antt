-- The way of a packet through its tests: each way's answer is the reply of the book. First the requests, then what gets no answer.
use Rattle.std.specs.Prelude.{ℕ, ◌-◌, ◌≤◌, ◌<◌, Bool, ◌&&◌, ◌≡◌, take, drop, get_or, eqb, Ok, Err}
use Rattle.std.proofs.Math.Bool.{true, false}
use Rattle.std.proofs.Math.Path.{refl, sym, ap}
use Rattle.std.proofs.Common.{◌∙◌, subst, arith, length-drop, take_all, le-leb}
use mathlib.Core.List.{List, [], ◌∷◌, map}
use Rattle.std.proofs.Math.ListN.{length}
use Rattle.std.proofs.Math.Dec.{leb}
use Rattle.std.proofs.lemmas.Bool.{lt-leb}
use Rattle.codec.specs.Cases.{pick, lookup}
use Rattle.codec.specs.CasesLaws.{impossible}
use Rattle.codec.specs.declared.Error.{Error}
use Rattle.att.proofs.RoundTrip.{strict_decodes}
use Rattle.att.proofs.TypedMeans.{decoded_means}
use Rattle.att.specs.Typed.{Parsed, builds, build_of, row_decoded, decoded, show_req, show_server, show_att, part_of, means_shown, meaning_of, read_of}
use Rattle.att.specs.Wire.{first, rows, shape_of, strict, Meaning, meaning, shape_means, Read, Means, NotRead, read}
use Rattle.att.specs.declared.Att.{Att}
use Rattle.att.specs.declared.Att.TheVariants.{Client, Server}
use Rattle.att.specs.declared.AttCfm.{AttCfm}
use Rattle.att.specs.declared.AttCfm.TheVariants as cfm
use Rattle.att.specs.declared.AttClient.TheVariants.{Request, Command, Confirmation}
use Rattle.att.specs.declared.AttCmd.{AttCmd}
use Rattle.att.specs.declared.AttReq.{AttReq}
use Rattle.att.specs.declared.AttReq.TheVariants as req
use Rattle.att.specs.declared.AttRsp.TheVariants as rsp
use Rattle.att.specs.declared.AttServer.{AttServer}
use Rattle.att.specs.declared.AttServer.TheVariants.{Response, Unsolicited}
use Rattle.att.specs.declared.AttUns.TheVariants as uns
use Rattle.attributes.specs.Records.{entries}
use Rattle.attributes.specs.declared.Table.{Table}
use Rattle.answers.specs.Replies.{Reply, Effect, Nothing, Silence, Row, Serves, NotServed, doing, only, error, nth, served, row_reply, request, quietly, commanded, command, write, link_ok}
use Rattle.answers.specs.Serve.{State, ledger, views}
use Rattle.answers.specs.View.{View}
use Rattle.answers.specs.declared.Link.{Link}
use Rattle.serve_link.specs.LinkLaws.{sound_legal}
use Rattle.serve_permit.specs.Permit.{store_to}
use Rattle.serve_permit.specs.PermitLaws.{store_is}
use Rattle.serve_list.specs.ListsLaws.{list_04, list_06, list_08, list_10}
use Rattle.serve_request.specs.Requests.{request_reply}
use Rattle.serve_packet.specs.Packets.{is_served, served_ops, served_op, typed_reply, request_to, command_to, command_of}

pub first_is : (l : List ℕ) (d : ℕ) → 0 < length l → get_or l 0 d ≡ first l
first_is [] d h = absurd (omega arith)
first_is (x ∷ l) d h = refl

-- The opcodes that are served are those of the book's rows.
through : {A B : Type 0} (f : A → B) (k : ℕ) (rs : List (ℕ × A)) (d : A) → f (lookup k rs d) ≡ lookup k (map (λ r. (r.0, f r.1)) rs) (f d)
through f k [] d = refl
through f k (r ∷ rs) d = by (eqb k r.0) (through f k rs d) where
  by : (b : Bool) → f (lookup k rs d) ≡ lookup k (map (λ r. (r.0, f r.1)) rs) (f d)
      → f (pick b r.1 (lookup k rs d)) ≡ pick b (f r.1) (lookup k (map (λ r. (r.0, f r.1)) rs) (f d))
  by true e = refl
  by false e = e

served_is : (vs : List View) (l : Link) (ns t : List ℕ) (op : ℕ) → is_served (lookup op (served vs l ns t) NotServed) ≡ served_op op
unfolding served served_op served_ops
served_is vs l ns t op = through is_served op (served vs l ns t) NotServed

row_unserved : (op : ℕ) (ok : Bool) (r : Row) → is_served r ≡ false → row_reply op ok r ≡ error op 0 0x06
unfolding row_reply
row_unserved op ok (Serves r) e = impossible (cc)
row_unserved op ok NotServed e = refl

row_loose : (op : ℕ) (r : Row) → is_served r ≡ true → row_reply op false r ≡ error op 0 0x04
unfolding row_reply
row_loose op (Serves r) e = refl
row_loose op NotServed e = impossible (cc)

-- what a strict packet was decoded to means what the wire reads in it
abbrev meant : Read → Meaning
meant (Means m) = m
meant NotRead = meaning 0 [] []

module _ (op : ℕ) (p : List ℕ) (s : strict (op ∷ p) ≡ true) where
  reads : read (op ∷ p) ≡ Means (shape_means op (shape_of op) p)
  unfolding read
  reads = rw (strict_decodes op p s)

  decoded_is : (a : Att) → decoded (op ∷ p) ≡ Ok a → meaning_of a (op ∷ p) ≡ shape_means op (shape_of op) p
  decoded_is a e =
      ap meant (sym (ap (λ (x : Parsed). read_of x (op ∷ p)) e) ∙ decoded_means (op ∷ p) ∙ reads)

  not_refused : (why : Error) → decoded (op ∷ p) ≡ Err why → ⊥
  not_refused why e =
      let z : NotRead ≡ Means (shape_means op (shape_of op) p) = sym (ap (λ (x : Parsed). read_of x (op ∷ p)) e) ∙ decoded_means (op ∷ p) ∙ reads in
      impossible (cc)

pub strict_packet : (src : List ℕ) → strict src ≡ true → (why : Error) → decoded src ≡ Err why → ⊥
unfolding strict
strict_packet [] s why e = impossible (cc)
strict_packet (o ∷ p) s why e = not_refused o p s why e

-- The tests of a request, over the bytes that code has.
module _ (vs : List View) (l : Link) (op : ℕ) where
  pub request_long : (src : List ℕ) → op ≡ first src → 0 < length src → l.mtu < length src → error op 0 0x04 ≡ request_to vs l src
  unfolding request
  request_long [] e h k = absurd (omega arith)
  request_long (o ∷ p) e h k = ap (λ (x : ℕ). error x 0 0x04) e ∙ rw (lt-leb (length (o ∷ p)) l.mtu k)

  pub request_unserved : (src : List ℕ) → op ≡ first src → 0 < length src → length src ≤ l.mtu → served_op op ≡ false
      → error op 0 0x06 ≡ request_to vs l src
  unfolding request
  request_unserved [] e h k q = absurd (omega arith)
  request_unserved (o ∷ p) e h k q =
      let m = shape_means o (shape_of o) p in
      let n = served_is vs l m.numbers m.tail o ∙ ap served_op (sym e) ∙ q in
      ap (λ (x : ℕ). error x 0 0x06) e
      ∙ sym (row_unserved o (strict (o ∷ p)) (lookup o (served vs l m.numbers m.tail) NotServed) n)
      ∙ rw (le-leb (length (o ∷ p)) l.mtu k)

  pub request_loose : (src : List ℕ) → op ≡ first src → 0 < length src → length src ≤ l.mtu → served_op op ≡ true → strict src ≡ false
      → error op 0 0x04 ≡ request_to vs l src
  unfolding request
  request_loose [] e h k q s = absurd (omega arith)
  request_loose (o ∷ p) e h k q s =
      let m = shape_means o (shape_of o) p in
      let n = served_is vs l m.numbers m.tail o ∙ ap served_op (sym e) ∙ q in
      ap (λ (x : ℕ). error x 0 0x04) e
      ∙ sym (row_loose o (lookup o (served vs l m.numbers m.tail) NotServed) n)
      ∙ rw (le-leb (length (o ∷ p)) l.mtu k, s)

  pub request_opcode : (src : List ℕ) → op ≡ first src → 0 < length src → strict src ≡ true → (a : Att) → decoded src ≡ Ok a → op ≡ (show_att a).opcode
  unfolding means_shown
  request_opcode [] e h s a d = absurd (omega arith)
  request_opcode (o ∷ p) e h s a d = e ∙ sym (ap (λ (m : Meaning). m.opcode) (decoded_is o p s a d))

  pub request_typed : (src : List ℕ) → op ≡ first src → 0 < length src → length src ≤ l.mtu → strict src ≡ true → (a : Att)
      → decoded src ≡ Ok a → typed_reply vs l op (meaning_of a src) ≡ request_to vs l src
  unfolding request typed_reply
  request_typed [] e h k s a d = absurd (omega arith)
  request_typed (o ∷ p) e h k s a d =
      ap (λ (m : Meaning). row_reply op true (lookup m.opcode (served vs l m.numbers m.tail) NotServed)) (decoded_is o p s a d)
      ∙ ap (λ (x : ℕ). row_reply x true (lookup o (served vs l (shape_means o (shape_of o) p).numbers (shape_means o (shape_of o) p).tail) NotServed)) e
      ∙ rw (le-leb (length (o ∷ p)) l.mtu k, s)

-- The typed packets: requests, and what is none.
module _ (till : State) (src : List ℕ) where
  abbrev l : Link
  l = till.link

  abbrev seen : List View
  seen = views till

  typed_at : link_ok l ≡ true → (r : AttReq) → request_reply till src r ≡ typed_reply seen l (show_req r).opcode (means_shown (show_req r) src)
  unfolding typed_reply row_reply served means_shown shape_of rows ledger
  typed_at e (req.ReadByGroupType s n u) = list_10 s n seen l (sound_legal l e) _ _
  typed_at e (req.ReadByType s n u) = list_08 s n seen l (sound_legal l e) _ _
  typed_at e (req.Read h) = refl
  typed_at e (req.Write h d) = sym (store_is l.encrypted till.fixed till.live h (part_of d src) (entries till.table))
  typed_at e (req.ExchangeMtu m) = refl
  typed_at e (req.FindByTypeValue s n k v) = list_06 s n seen l (sound_legal l e) k (part_of v src)
  typed_at e (req.FindInformation s n) = list_04 s n seen l (sound_legal l e) _ _
  typed_at e (req.PrepareWrite h o v) = refl
  typed_at e (req.ExecuteWrite f) = refl
  typed_at e (req.ReadMultiple hs) = refl
  typed_at e (req.ReadBlob h o) = refl

  module _ (op : ℕ) (a : Att) (q : op ≡ (show_att a).opcode) where
    pub typed_request : link_ok l ≡ true → (r : AttReq) → a ≡ Client (Request r)
        → (op ≡ (show_req r).opcode) × (request_reply till src r ≡ typed_reply seen l op (meaning_of a src))
    typed_request e r f =
        let o : op ≡ (show_req r).opcode = q ∙ ap (λ (x : Att). (show_att x).opcode) f in
        (o, typed_at e r ∙ ap (λ (n : ℕ). typed_reply seen l n (means_shown (show_req r) src)) (sym o) ∙ ap (λ (x : Att). typed_reply seen l op (meaning_of x src)) (sym f))

  module _ (op : ℕ) where
    server_unserved : (s : AttServer) → error op 0 0x06 ≡ typed_reply seen l op (means_shown (show_server s) src)
    unfolding typed_reply row_reply served means_shown
    server_unserved (Response (rsp.ExchangeMtu m)) = refl
    server_unserved (Response (rsp.FindByTypeValue i)) = refl
    server_unserved (Response (rsp.FindInformation f i)) = refl
    server_unserved (Response (rsp.Error r h c)) = refl
    server_unserved (Response (rsp.ReadByType n i)) = refl
    server_unserved (Response (rsp.ReadByGroupType n i)) = refl
    server_unserved (Response (rsp.Read d)) = refl
    server_unserved (Response (rsp.ReadBlob d)) = refl
    server_unserved (Response rsp.Write) = refl
    server_unserved (Unsolicited (uns.Notify h d)) = refl
    server_unserved (Unsolicited (uns.Indicate h d)) = refl

    pub typed_server : (a : Att) (s : AttServer) → a ≡ Server s → error op 0 0x06 ≡ typed_reply seen l op (meaning_of a src)
    typed_server a s f = server_unserved s ∙ ap (λ (x : Att). typed_reply seen l op (meaning_of x src)) (sym f)

    command_unserved : (c : AttCmd) → error op 0 0x06 ≡ typed_reply seen l op (meaning_of (Client (Command c)) src)
    unfolding typed_reply row_reply served means_shown
    command_unserved c = refl

    pub typed_command : (a : Att) (c : AttCmd) → a ≡ Client (Command c) → error op 0 0x06 ≡ typed_reply seen l op (meaning_of a src)
    typed_command a c f = command_unserved c ∙ ap (λ (x : Att). typed_reply seen l op (meaning_of x src)) (sym f)

    confirmation_unserved : (c : AttCfm) → error op 0 0x06 ≡ typed_reply seen l op (meaning_of (Client (Confirmation c)) src)
    unfolding typed_reply row_reply served means_shown
    confirmation_unserved cfm.ConfirmIndication = refl

    pub typed_confirmation : (a : Att) (c : AttCfm) → a ≡ Client (Confirmation c) → error op 0 0x06 ≡ typed_reply seen l op (meaning_of a src)
    typed_confirmation a c f = confirmation_unserved c ∙ ap (λ (x : Att). typed_reply seen l op (meaning_of x src)) (sym f)

-- What gets no answer.
module _ (t : Table) (l : Link) (op : ℕ) where
  pub command_other : (src : List ℕ) → op ≡ first src → eqb op 0x52 ≡ false → Nothing ≡ command_to t l src
  command_other [] e n = refl
  command_other (o ∷ p) e n = let z : eqb o 0x52 ≡ false = ap (λ (x : ℕ). eqb x 0x52) (sym e) ∙ n in rw z

  pub command_loose : (src : List ℕ) → op ≡ first src → op ≡ 0x52 → strict src ≡ false → Nothing ≡ command_to t l src
  command_loose [] e n s = refl
  command_loose (o ∷ p) e n s = by (eqb o 0x52) _ where
    by : (b : Bool) (x : Effect) → Nothing ≡ pick (b && (strict (o ∷ p) && leb (length (o ∷ p)) l.mtu)) x Nothing
    by true x = rw s
    by false x = refl

  pub command_long : (src : List ℕ) → l.mtu < length src → Nothing ≡ command_to t l src
  command_long [] k = refl
  command_long (o ∷ p) k = by (eqb o 0x52) (strict (o ∷ p)) _ where
    by : (b c : Bool) (x : Effect) → Nothing ≡ pick (b && (c && leb (length (o ∷ p)) l.mtu)) x Nothing
    by true true x = rw (lt-leb (length (o ∷ p)) l.mtu k)
    by true false x = refl
    by false c x = refl

  rest_is : (o : ℕ) (p : List ℕ) → take (length p - 2) (drop 3 (o ∷ p)) ≡ drop 2 p
  rest_is o p = take_all (length p - 2) (drop 2 p) (rw (length-drop 2 p) (omega arith))

  typed_52 : (p : List ℕ) → strict (0x52 ∷ p) ≡ true → (a : Att) → decoded (0x52 ∷ p) ≡ Ok a
      → command_of t l (0x52 ∷ p) a ≡ (store_to t l (nth (shape_means 0x52 (shape_of 0x52) p).numbers 0) (shape_means 0x52 (shape_of 0x52) p).tail).effect
  unfolding decoded row_decoded build_of builds shape_of rows
  typed_52 p s a d =
      let k = strict_decodes 0x52 p s in
      let c : AttCmd = record { handle = nth (shape_means 0x52 (shape_of 0x52) p).numbers 0; «data» = record { at = 3; len = length p - 2 } } in
      let z : decoded (0x52 ∷ p) ≡ Ok (Client (Command c)) = rw k in
      let f : Ok (Client (Command c)) ≡ Ok a = sym z ∙ d in
      let g : Client (Command c) ≡ a = cc in
      ap (command_of t l (0x52 ∷ p)) (sym g) ∙ ap (λ (d : List ℕ). (store_to t l c.handle d).effect) (rest_is 0x52 p)

  pub command_typed : (src : List ℕ) → op ≡ first src → op ≡ 0x52 → strict src ≡ true → length src ≤ l.mtu → (a : Att) → decoded src ≡ Ok a
      → command_of t l src a ≡ command_to t l src
  command_typed [] e n s k a d = impossible (omega (arith, e, n))
  command_typed (o ∷ p) e n s k a d = by o (sym e ∙ n) s d where
    by : (x : ℕ) → x ≡ 0x52 → strict (x ∷ p) ≡ true → decoded (x ∷ p) ≡ Ok a → command_of t l (x ∷ p) a ≡ command_to t l (x ∷ p)
    by x q s d =
        subst (λ (y : ℕ). strict (y ∷ p) ≡ true → decoded (y ∷ p) ≡ Ok a → command_of t l (y ∷ p) a ≡ command_to t l (y ∷ p)) (sym q)
        (λ s d. typed_52 p s a d ∙ rw (s, le-leb (length (0x52 ∷ p)) l.mtu k)) s d

-- the book's reply to such a packet
module _ (s : State) where
  pub command_is : (op : ℕ) (p : List ℕ) → command (views s) s.link op p ≡ doing Silence (command_to s.table s.link (op ∷ p))
  unfolding command commanded ledger
  command_is op p =
      let m = shape_means op (shape_of op) p in
      by (eqb op 0x52 && (strict (op ∷ p) && leb (length (op ∷ p)) s.link.mtu))
      (write (views s) (nth m.numbers 0) m.tail) _
      (store_is s.link.encrypted s.fixed s.live (nth m.numbers 0) m.tail (entries s.table))
    where
      by : (b : Bool) (w v : Reply) → w ≡ v → pick b (quietly w) (only Silence) ≡ doing Silence (pick b v.effect Nothing)
      by true w v e = ap quietly e
      by false w v e = refl

-- Every request is answered by a packet; what was told is what is heard; and the four refusals come first.
use Prim.Native.Nat.{ℕ, ◌≤◌, ◌<◌}
use Rattle.std.specs.Prelude.{Bool, ◌≡◌, refl, length, leb, Ok, Err}
use Rattle.std.proofs.Math.Bool.{true, false}
use Rattle.std.proofs.Math.Path.{sym, ap}
use Rattle.std.proofs.Common.{◌∙◌, subst, arith}
use mathlib.Core.List.{List, [], ◌∷◌}
use borrow.Author.Tests.{le-leb, lt-leb, leb-true}
use Rattle.codec.specs.CasesLaws.{both}
use Rattle.attributes.proofs.AdditionLaws.{each_passed}
use Rattle.codec.specs.Buffer.{over, laid}
use Rattle.codec.specs.Cases.{pick}
use Rattle.codec.specs.declared.Refusal.{Refusal}
use Rattle.codec.specs.declared.Refusal.TheVariants.{InsufficientSpace, InvalidValue, BadTable, BadLink}
use Rattle.att.specs.Wire.{first, rows, shape_of, shape_means, Coded, Sent, NotSent, send}
use Rattle.attributes.specs.Soundness.{sound_table}
use Rattle.answers.specs.Contract.{answer_of, out_after}
use Rattle.answers.specs.Replies.{Says, Packet, Silence, Effect, Nothing, Reply, doing, error, silent, reply_to, mtu_ok, link_ok}
use Rattle.answers.proofs.ReplyLaws.{by_exchange, by_write, by_packets, by_request}
use Rattle.answers.specs.Serve.{State, sound, views, Bytes, unlikely, coded_heard, coded_does, spoken, does, serve_tests, serve_refusal, answered, asks}
use Rattle.answers.specs.View.{View}
use Rattle.answers.specs.declared.Answer.{Answer}
use Rattle.answers.specs.declared.Answer.TheVariants as answer
use Rattle.answers.specs.declared.Link.{Link}
use Rattle.serve_tell.specs.Tell.{wrote, unlikely_wrote, wrote_by, out_by, coded_by, coded_of}
use Rattle.serve_change.specs.Changes.{done, meant_by, meaning_of, said_of}
use Rattle.serve_change.specs.declared.Pending.{Pending}
use Rattle.serve_change.specs.declared.Pending.TheVariants as effect
use Rattle.serve_change.specs.declared.Said.{Said}
use Rattle.serve_request.specs.RequestsLaws as says
use Rattle.serve_request.specs.RequestsLaws.{quietly}
use Rattle.serve_packet.specs.Packets.{request_to, command_to, replied_of, replied_to, out_behind}
use Rattle.serve_packet.specs.PacketsLaws.{command_is}

-- Every request is answered by a packet.
abbrev Spoken : Says → Type 0
Spoken (Packet m) = Unit
Spoken Silence = ⊥

abbrev Answered : Reply → Type 0
Answered r = Spoken r.says

request_answered : (vs : List View) (l : Link) (src : List ℕ) → 0 < length src → Answered (request_to vs l src)
request_answered vs l [] h = absurd (omega arith)
request_answered vs l (op ∷ p) h =
    let m = shape_means op (shape_of op) p in
    by_request Answered vs l op p
    (by_packets Answered vs l op m.numbers m.tail (λ x. tt) (λ q. by_exchange Answered l _ tt (λ e. tt)) (λ q. by_write Answered vs _ _ (λ code. tt) tt))

-- What was told is what is heard, where there is room for an error.
unlikely_length : (op : ℕ) → length (unlikely op) ≡ 5
unfolding unlikely send shape_of rows
unlikely_length op = refl

module _ (op room : ℕ) (h : 23 ≤ room) where
  fits : leb (length (unlikely op)) room ≡ true
  fits = le-leb (length (unlikely op)) room (omega (arith, unlikely_length op))

  coded_heard_lem : (c : Coded) (e : Effect) → ◌≡◌ {A = Answer × Effect} (answer.Sent (wrote_by c op room).len, pick (wrote_by c op room).meant e Nothing)
      (answer_of (coded_heard c op room), coded_does c room e)
  coded_heard_lem (Sent b) e = by (leb (length b) room) where
    by : (t : Bool) → ◌≡◌ {A = Answer × Effect} (
      answer.Sent (pick t (wrote (length b) true) (unlikely_wrote op room)).len,
      pick (pick t (wrote (length b) true) (unlikely_wrote op room)).meant e Nothing,
    )
        (answer_of (pick t (Bytes b) (Bytes (unlikely op))), pick t e Nothing)
    by true = refl
    by false = rw fits
  coded_heard_lem NotSent e = rw fits

  told_heard : (s : Says) (e : Effect) → Spoken s
      → ◌≡◌ {A = Answer × Effect} (answer.Sent (wrote_by (coded_by s) op room).len, pick (wrote_by (coded_by s) op room).meant e Nothing) (answer_of (spoken s op room), does s room e)
  told_heard (Packet m) e k = coded_heard_lem (send m) e
  told_heard Silence e k = absurd k

module _ (op : ℕ) (out : List ℕ) (h : 23 ≤ length out) where
  coded_out : (c : Coded) → out_by c op out ≡ out_after (coded_heard c op (length out)) out
  coded_out (Sent b) = by (leb (length b) (length out)) where
    by : (t : Bool) → pick t (over b out) (laid (unlikely op) out) ≡ out_after (pick t (Bytes b) (Bytes (unlikely op))) out
    by true = refl
    by false = rw (fits op (length out) h)
  coded_out NotSent = rw (fits op (length out) h)

  told_out : (s : Says) → Spoken s → out_by (coded_by s) op out ≡ out_after (spoken s op (length out)) out
  told_out (Packet m) k = coded_out (send m)
  told_out Silence k = absurd k

-- The reply to a packet.
module _ (till : State) where
  abbrev l : Link
  l = till.link

  abbrev seen : List View
  seen = views till

  pub silence : (op : ℕ) (src : List ℕ) (e : Pending) (room : ℕ) → op ≡ first src → 0 < length src → silent op ≡ true → meant_by src e ≡ command_to till.table l src
      → (◌≡◌ {A = Answer × Effect} (answer.Silent, meant_by src e) (replied_of (reply_to seen l src) (first src) room))
      × ((out : List ℕ) → out ≡ out_after (spoken (reply_to seen l src).says (first src) (length out)) out)
  unfolding reply_to
  silence op [] e room q h s m = absurd (omega arith)
  silence op (o ∷ p) e room q h s m =
      let z : silent o ≡ true = ap silent (sym q) ∙ s in
      let r : reply_to seen l (o ∷ p) ≡ doing Silence (command_to till.table l (o ∷ p)) = rw z (command_is till o p) in (
        ap (λ (x : Effect). (answer.Silent, x)) m ∙ sym (ap (λ (x : Reply). replied_of x o room) r),
        λ out. sym (ap (λ (x : Reply). out_after (spoken x.says o (length out)) out) r),
      )

  pub answering : (op : ℕ) (src : List ℕ) (s : Said) (out w : List ℕ) → op ≡ first src → 0 < length src → silent op ≡ false → 23 ≤ length out
      → meaning_of src s ≡ said_of (request_to seen l src) op (length out) → w ≡ out_by (coded_of (request_to seen l src)) op out
      → (◌≡◌ {A = Answer × Effect} (answer.Sent s.len, meant_by src s.effect) (replied_of (reply_to seen l src) (first src) (length out)))
      × (w ≡ out_after (spoken (reply_to seen l src).says (first src) (length out)) out)
  unfolding reply_to
  answering op [] s out w q h n k a b = absurd (omega arith)
  answering op (o ∷ p) s out w q h n k a b =
      let z : silent o ≡ false = ap silent (sym q) ∙ n in
      let r : reply_to seen l (o ∷ p) ≡ request_to seen l (o ∷ p) = rw z in
      let d = request_answered seen l (o ∷ p) h in (
        ap (λ (x : ℕ × Effect). (answer.Sent x.0, x.1)) a
            ∙ told_heard op (length out) k (request_to seen l (o ∷ p)).says (request_to seen l (o ∷ p)).effect d
            ∙ ap (λ (x : ℕ). replied_of (request_to seen l (o ∷ p)) x (length out)) q
            ∙ sym (ap (λ (x : Reply). replied_of x o (length out)) r),
        b ∙ told_out op out k (request_to seen l (o ∷ p)).says d
            ∙ ap (λ (x : ℕ). out_after (spoken (request_to seen l (o ∷ p)).says x (length out)) out) q
            ∙ sym (ap (λ (x : Reply). out_after (spoken x.says o (length out)) out) r),
      )

-- the reply that code gave, under its other names
pub as_typed : (src : List ℕ) (q r : Reply) (o op : ℕ) (out w : List ℕ) (s : Said) → op ≡ o → q ≡ r → says.Says src q o out s w → says.Says src r op out s w
as_typed src q r o op out w s e f h =
    subst (λ (x : Reply). says.Says src x op out s w) f (subst (λ (n : ℕ). says.Says src q n out s w) (sym e) h)

pub refused_as : (src : List ℕ) (r : Reply) (op c : ℕ) (out w : List ℕ) (s : Said) → (s ≡ done (wrote_by (coded_of (error op 0 c)) op (length out)) effect.Nothing) × (w ≡ out_by (coded_of (error op 0 c)) op out)
    → error op 0 c ≡ r → says.Says src r op out s w
refused_as src r op c out w s h e =
    subst (λ (x : Reply). says.Says src x op out s w) e
    (quietly src (error op 0 c) op out w (wrote_by (coded_of (error op 0 c)) op (length out)) s (refl, h.1) refl h.0)

-- Serving: the refusals in their order, and a reply with what it asks for.
module _ (s : State) (src out : List ℕ) where
  abbrev Speaks : Answer × Effect → List ℕ → Type 0
  Speaks x w = (x ≡ replied_to s src (length out)) × (w ≡ out_after (answered s src (length out)) out)

  pub refused : (why : Refusal) → serve_refusal s src (length out) ≡ Err why → Speaks (answer.Refused why, Nothing) out
  unfolding answered asks
  refused why e = (rw e, rw e)

  pub speak_table : sound_table s.table (length s.fixed) (length s.live) ≡ false → Speaks (answer.Refused BadTable, Nothing) out
  unfolding serve_refusal sound
  speak_table a = refused BadTable (rw a)

  module _ (a : sound_table s.table (length s.fixed) (length s.live) ≡ true) where
    pub speak_link : link_ok s.link ≡ false → Speaks (answer.Refused BadLink, Nothing) out
    unfolding serve_refusal sound
    speak_link b = refused BadLink (rw (a, b))

    module _ (b : link_ok s.link ≡ true) where
      pub speak_short : length out < s.link.mtu → Speaks (answer.Refused InsufficientSpace, Nothing) out
      unfolding serve_refusal sound
      speak_short c = refused InsufficientSpace (rw (a, b, lt-leb s.link.mtu (length out) c))

      module _ (c : s.link.mtu ≤ length out) where
        pub speak_empty : length src ≡ 0 → Speaks (answer.Refused InvalidValue, Nothing) out
        unfolding serve_refusal sound
        speak_empty d = refused InvalidValue (rw (a, b, le-leb s.link.mtu (length out) c, d))

        pub speak_reply : 0 < length src → (x : Answer × Effect) (w : List ℕ)
            → (x ≡ replied_of (reply_to (views s) s.link src) (first src) (length out)) × (w ≡ out_behind (reply_to (views s) s.link src) (first src) out)
            → Speaks x w
        unfolding answered asks serve_refusal sound
        speak_reply d x w h =
            let e : serve_refusal s src (length out) ≡ Ok tt = rw (a, b, le-leb s.link.mtu (length out) c, le-leb 1 (length src) (omega arith)) in
            (h.0 ∙ rw e, h.1 ∙ rw e)

  -- where no test fails
  pub passed : serve_refusal s src (length out) ≡ Ok tt → (link_ok s.link ≡ true) × (23 ≤ length out) × (0 < length src)
  unfolding serve_refusal link_ok mtu_ok
  passed e =
      let t = each_passed (serve_tests s src (length out)) e in
      let least : 23 ≤ s.link.mtu = leb-true 23 s.link.mtu (both (leb 23 s.link.mtu) _ t.1.0).0 in
      (t.1.0, omega (arith, least, leb-true s.link.mtu (length out) t.1.1.0), omega (arith, leb-true 1 (length src) t.1.1.1.0))

  pub speak_passed : serve_refusal s src (length out) ≡ Ok tt → (x : Answer × Effect) (w : List ℕ)
      → (x ≡ replied_of (reply_to (views s) s.link src) (first src) (length out)) × (w ≡ out_behind (reply_to (views s) s.link src) (first src) out)
      → Speaks x w
  unfolding answered asks
  speak_passed e x w h = (h.0 ∙ rw e, h.1 ∙ rw e)

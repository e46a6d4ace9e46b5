-- What a record offers is what its view gives to the search; and the ways to each offer, as code takes them.
use Rattle.std.specs.Prelude.{ℕ, ◌-◌, Bool, ◌&&◌, ◌≡◌, take, Option, Some, None, Result, Ok, Err}
use Rattle.std.proofs.Math.Bool.{true, false}
use Rattle.std.proofs.Math.Path.{refl, sym, ap}
use Rattle.std.proofs.Common.{◌∙◌}
use mathlib.Core.List.{List, [], ◌++◌}
use Rattle.std.proofs.Math.ListN.{length}
use Rattle.codec.specs.CasesLaws.{impossible}
use Rattle.codec.specs.Cases.{pick, same}
use Rattle.primitives.specs.Numbers.{bytes_of}
use Rattle.att_error.specs.declared.AttErrorCode.{AttErrorCode}
use Rattle.ble_uuid.specs.Uuids.{own, equal_types}
use Rattle.attributes.specs.Ledger.{item}
use Rattle.attributes.specs.Records.{entries, value_of}
use Rattle.attributes.specs.declared.Record.{Record}
use Rattle.attributes.specs.declared.Table.{Table}
use Rattle.answers.specs.Replies as book
use Rattle.answers.specs.Replies.{Part, Outline, outlines, groups, group_end, end_of, holds, value_part, pair, typed, grouped}
use Rattle.answers.specs.Serve.{State, ledger, views}
use Rattle.answers.specs.View.{Reading, view}
use Rattle.answers.specs.declared.Link.{Link}
use Rattle.serve_record.specs.Permissions.{permission_of, read_by}
use Rattle.serve_record.specs.PermissionsLaws.{reading_is}
use Rattle.serve_groups.specs.Groups.{outlines_of}
use Rattle.serve_groups.specs.GroupsLaws.{outlines_are}
use Rattle.serve_collect.specs.Collect.{head_of}
use Rattle.serve_offer.specs.Offers.{Offer, meant, pair_by, pair_offer, offer_by, typed_offer, grouped_offer}
use Rattle.serve_collect.specs.declared.Head.{Head}
use Rattle.serve_collect.specs.declared.Head.TheVariants.{Handle, Range}

module _ (kind value : List ℕ) (s : State) (r : Record) where
  -- the outlines of the table are those of its views
  seen_outlines : outlines_of s.table ≡ outlines (views s)
  unfolding ledger
  seen_outlines = sym (outlines_are s.link.encrypted s.fixed s.live (entries s.table))

  -- what 06 gives for a reading of the value
  abbrev pair_on : Reading → Part
  pair_on x =
      pick (equal_types (own r.kind) kind && holds x value)
      (book.Take (bytes_of 2 r.handle ++ bytes_of 2 (end_of (outlines (views s)) kind r.handle)))
      book.Skip

  equal_by : (b : Bool)
      → meant r.handle (pick b (Some (Ok (Range r.handle (end_of (outlines_of s.table) kind r.handle)))) None) []
      ≡ pick b (book.Take (bytes_of 2 r.handle ++ bytes_of 2 (end_of (outlines (views s)) kind r.handle))) book.Skip
  equal_by true = ap (λ (os : List Outline). book.Take (bytes_of 2 r.handle ++ bytes_of 2 (end_of os kind r.handle))) seen_outlines
  equal_by false = refl

  pub pair_is : meant r.handle (pair_offer kind value s r) [] ≡ pair (views s) kind value (view s.link.encrypted (item s.fixed s.live r))
  unfolding pair_offer pair holds
  pair_is =
      by (equal_types (own r.kind) kind) (permission_of s.link.encrypted r)
      ∙ ap pair_on (sym (reading_is s.link.encrypted r (value_of r.place s.fixed s.live)))
    where
      by : (b : Bool) (p : Result Unit AttErrorCode)
          → meant r.handle (pick b (pair_by p (same (value_of r.place s.fixed s.live) value) (Range r.handle (end_of (outlines_of s.table) kind r.handle))) None) []
          ≡ pick (b && holds (read_by p (value_of r.place s.fixed s.live)) value)
          (book.Take (bytes_of 2 r.handle ++ bytes_of 2 (end_of (outlines (views s)) kind r.handle)))
          book.Skip
      by true (Ok u) = equal_by (same (value_of r.place s.fixed s.live) value)
      by true (Err code) = refl
      by false p = refl

  -- 08 and 10 take the value behind a head
  valued_by : (head : Head) (n : ℕ) (b : Bool) (p : Result Unit AttErrorCode)
      → meant r.handle (pick b (offer_by p head) None) (take n (value_of r.place s.fixed s.live))
      ≡ pick b (value_part r.handle (read_by p (value_of r.place s.fixed s.live)) (head_of head) n) book.Skip
  unfolding value_part
  valued_by head n true (Ok u) = refl
  valued_by head n true (Err code) = refl
  valued_by head n false p = refl

  pub typed_is : meant r.handle (typed_offer kind s.link r) (take (s.link.mtu - 4) (value_of r.place s.fixed s.live)) ≡ typed s.link kind (view s.link.encrypted (item s.fixed s.live r))
  unfolding typed_offer typed
  typed_is =
      valued_by (Handle r.handle) (s.link.mtu - 4) (equal_types (own r.kind) kind) (permission_of s.link.encrypted r)
      ∙ ap (λ (x : Reading). pick (equal_types (own r.kind) kind) (value_part r.handle x (bytes_of 2 r.handle) (s.link.mtu - 4)) book.Skip)
      (sym (reading_is s.link.encrypted r (value_of r.place s.fixed s.live)))

  pub grouped_is : meant r.handle (grouped_offer kind s.table s.link r) (take (s.link.mtu - 6) (value_of r.place s.fixed s.live))
      ≡ grouped (views s) s.link kind (view s.link.encrypted (item s.fixed s.live r))
  unfolding grouped_offer grouped
  grouped_is =
      valued_by (Range r.handle (group_end (outlines_of s.table) r.handle)) (s.link.mtu - 6) (equal_types (own r.kind) kind) (permission_of s.link.encrypted r)
      ∙ ap (λ (x : Reading). pick (equal_types (own r.kind) kind)
      (value_part r.handle x (bytes_of 2 r.handle ++ bytes_of 2 (group_end (outlines_of s.table) r.handle)) (s.link.mtu - 6)) book.Skip)
      (sym (reading_is s.link.encrypted r (value_of r.place s.fixed s.live)))
      ∙ ap (λ (os : List Outline). pick (equal_types (own r.kind) kind)
      (value_part r.handle (view s.link.encrypted (item s.fixed s.live r)).reading (bytes_of 2 r.handle ++ bytes_of 2 (group_end os r.handle)) (s.link.mtu - 6)) book.Skip)
      seen_outlines

  pub typed_head : (head : Head) → typed_offer kind s.link r ≡ Some (Ok head) → length (head_of head) ≡ 2
  unfolding typed_offer
  typed_head head e = by (equal_types (own r.kind) kind) (permission_of s.link.encrypted r) e
    where
      by : (b : Bool) (p : Result Unit AttErrorCode) → pick b (offer_by p (Handle r.handle)) None ≡ Some (Ok head) → length (head_of head) ≡ 2
      by true (Ok u) e = let q : head ≡ Handle r.handle = cc in rw q
      by true (Err code) e = impossible (cc)
      by false p e = impossible (cc)

-- the ways to an offer
module _ (kind : List ℕ) (r : Record) where
  pub pair_other : (value : List ℕ) (s : State) → equal_types (own r.kind) kind ≡ false
      → None ≡ pair_offer kind value s r
  unfolding pair_offer
  pair_other value s e = rw e

  pub typed_other : (l : Link) → equal_types (own r.kind) kind ≡ false → None ≡ typed_offer kind l r
  unfolding typed_offer
  typed_other l e = rw e

  pub grouped_other : (t : Table) (l : Link) → equal_types (own r.kind) kind ≡ false → None ≡ grouped_offer kind t l r
  unfolding grouped_offer
  grouped_other t l e = rw e

module _ (kind : List ℕ) (r : Record) (e : equal_types (own r.kind) kind ≡ true) where
  pub pair_by_lem : (value : List ℕ) (s : State) (p : Result Unit AttErrorCode) → permission_of s.link.encrypted r ≡ p
      → pair_by p (same (value_of r.place s.fixed s.live) value) (Range r.handle (end_of (outlines_of s.table) kind r.handle)) ≡ pair_offer kind value s r
  unfolding pair_offer
  pair_by_lem value s p q = rw (e, q)

  pub typed_by : (l : Link) (p : Result Unit AttErrorCode) → permission_of l.encrypted r ≡ p → offer_by p (Handle r.handle) ≡ typed_offer kind l r
  unfolding typed_offer
  typed_by l p q = rw (e, q)

  pub grouped_by : (t : Table) (l : Link) (p : Result Unit AttErrorCode) → permission_of l.encrypted r ≡ p
      → offer_by p (Range r.handle (group_end (outlines_of t) r.handle)) ≡ grouped_offer kind t l r
  unfolding grouped_offer
  grouped_by t l p q = rw (e, q)

-- an equal value is taken, another is not
pub pair_held : (equal : Bool) (head : Head) → equal ≡ true → Some (Ok head) ≡ pair_by (Ok tt) equal head
pair_held equal head e = rw e

pub pair_differs : (equal : Bool) (head : Head) → equal ≡ false → None ≡ pair_by (Ok tt) equal head
pair_differs equal head e = rw e

-- the end beside a handle in 06
pub end_grouped : (t : Table) (kind : List ℕ) (h : ℕ) → groups kind ≡ true → group_end (outlines_of t) h ≡ end_of (outlines_of t) kind h
unfolding end_of
end_grouped t kind h e = rw e

pub end_alone : (t : Table) (kind : List ℕ) (h : ℕ) → groups kind ≡ false → h ≡ end_of (outlines_of t) kind h
unfolding end_of
end_alone t kind h e = rw e

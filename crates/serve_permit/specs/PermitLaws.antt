-- A reply at a handle is made from what the link may do there and, where it may read, from the value held there.
use Rattle.std.specs.Prelude.{ℕ, Bool, true, false, ◌≡◌, refl, List, [], ◌∷◌, map, length, eqb, leb, Result, Ok, Err}
use Rattle.std.proofs.Common.{ap, ◌∙◌}
use Rattle.codec.specs.Cases.{pick}
use Rattle.attributes.specs.Records.{record_at, slot_of, slot_size, value_of}
use Rattle.attributes.specs.FindLaws.{first_two, first_map, item_first}
use Rattle.attributes.specs.Ledger.{Item, item, holding, value_at}
use Rattle.attributes.specs.declared.Record.{Record}
use Rattle.serve_record.specs.Permissions.{permission_of, read_by}
use Rattle.serve_record.specs.PermissionsLaws.{reading_is}
use Rattle.answers.specs.View.{View, view, view_at, UpTo, NoWrite, may_write, unwritable, reading_of, writing_of}
use Rattle.att_error.specs.declared.AttErrorCode.{AttErrorCode}
use Rattle.att.specs.Typed.{code}
use Rattle.att.specs.Wire.{meaning}
use Rattle.answers.specs.Replies.{Reply, Packet, Stores, doing, reading, writing, write, error}
use Rattle.serve_permit.specs.Permit.{read_at, writable_by, write_at, store_by, store_at, store_reply}

-- a reply that reads
abbrev pub reading_by : ℕ → ℕ → (List ℕ → Reply) → List ℕ → Result Unit AttErrorCode → Reply
reading_by op h k v (Ok u) = k v
reading_by op h k v (Err c) = error op h c.value

reads_by : (op h : ℕ) (k : List ℕ → Reply) (v : List ℕ) (p : Result Unit AttErrorCode) → reading op h k (read_by p v) ≡ reading_by op h k v p
unfolding reading
reads_by op h k v (Ok u) = refl
reads_by op h k v (Err c) = refl

pub read_is : (encrypted : Bool) (fixed live : List ℕ) (op h : ℕ) (k : List ℕ → Reply) (rs : List Record)
    → view_at h (λ v. reading op h k v.reading) (error op h 0x01) (map (view encrypted) (map (item fixed live) rs))
    ≡ reading_by op h k (value_at h (map (item fixed live) rs)) (read_at encrypted h rs)
unfolding read_at
read_is encrypted fixed live op h k [] = refl
read_is encrypted fixed live op h k (r ∷ rs) = by (eqb r.handle h) (read_is encrypted fixed live op h k rs) where
  by : (b : Bool)
      → view_at h (λ v. reading op h k v.reading) (error op h 0x01) (map (view encrypted) (map (item fixed live) rs))
      ≡ reading_by op h k (value_at h (map (item fixed live) rs)) (record_at h (permission_of encrypted) (Err (code 0x01)) rs)
      → pick b (reading op h k (reading_of encrypted (item fixed live r)))
      (view_at h (λ v. reading op h k v.reading) (error op h 0x01) (map (view encrypted) (map (item fixed live) rs)))
      ≡ reading_by op h k (pick b (value_of r.place fixed live) (value_at h (map (item fixed live) rs)))
      (pick b (permission_of encrypted r) (record_at h (permission_of encrypted) (Err (code 0x01)) rs))
  by true ih =
      ap (reading op h k) (reading_is encrypted r (value_of r.place fixed live)) ∙ reads_by op h k (value_of r.place fixed live) (permission_of encrypted r)
  by false ih = ih

-- a reply that writes
abbrev write_reply : ℕ → (ℕ → Reply) → Result ℕ AttErrorCode → Reply
write_reply h k (Ok c) = k c
write_reply h k (Err c) = error 0x12 h c.value

abbrev write_accepted : ℕ → List ℕ → ℕ → Reply
write_accepted h d c = writing h d (UpTo c)

writes_by : (encrypted : Bool) (h : ℕ) (d v : List ℕ) (r : Record)
    → writing h d (writing_of encrypted (holding r v)) ≡ write_reply h (write_accepted h d) (writable_by encrypted r)
unfolding writing writable_by
writes_by encrypted h d v r = by (may_write encrypted (holding r []))
  where
    by : (b : Bool) → writing h d (pick b (UpTo (slot_size (slot_of r.place))) (NoWrite (unwritable (holding r []))))
        ≡ write_reply h (write_accepted h d) (pick b (Ok (slot_size (slot_of r.place))) (Err (code (unwritable (holding r [])))))
    by true = refl
    by false = refl

write_is : (encrypted : Bool) (fixed live : List ℕ) (h : ℕ) (d : List ℕ) (rs : List Record)
    → view_at h (λ v. writing h d v.writing) (error 0x12 h 0x01) (map (view encrypted) (map (item fixed live) rs))
    ≡ write_reply h (write_accepted h d) (write_at encrypted h rs)
unfolding write_at
write_is encrypted fixed live h d rs =
    first_map (view encrypted) (λ (v : View). v.handle) h (λ (v : View). writing h d v.writing) (error 0x12 h 0x01) (map (item fixed live) rs)
    ∙ item_first fixed live h (λ (i : Item). writing h d (writing_of encrypted i)) (error 0x12 h 0x01) rs
    ∙ first_two (λ (x : Reply) (w : Result ℕ AttErrorCode). x ≡ write_reply h (write_accepted h d) w) (λ (r : Record). r.handle) h
    (λ (r : Record). writing h d (writing_of encrypted (item fixed live r))) (writable_by encrypted) (error 0x12 h 0x01) (Err (code 0x01)) rs
    (λ r q. writes_by encrypted h d (value_of r.place fixed live) r) refl

stores_by : (h : ℕ) (d : List ℕ) (w : Result ℕ AttErrorCode) → write_reply h (write_accepted h d) w ≡ store_reply h d (store_by (length d) w)
unfolding writing
stores_by h d (Ok c) = by (leb (length d) c) where
  by : (b : Bool) → pick b (doing (Packet (meaning 0x13 [] [])) (Stores h d)) (error 0x12 h 0x0D) ≡ store_reply h d (pick b (Ok tt) (Err (code 0x0D)))
  by true = refl
  by false = refl
stores_by h d (Err c) = refl

pub store_is : (encrypted : Bool) (fixed live : List ℕ) (h : ℕ) (d : List ℕ) (rs : List Record)
    → write (map (view encrypted) (map (item fixed live) rs)) h d ≡ store_reply h d (store_at encrypted h (length d) rs)
unfolding write store_at
store_is encrypted fixed live h d rs = write_is encrypted fixed live h d rs ∙ stores_by h d (write_at encrypted h rs)

-- the ways to a room
module _ (encrypted : Bool) (r : Record) where
  pub not_marked : r.writable ≡ false → Err (code 0x03) ≡ writable_by encrypted r
  unfolding writable_by
  not_marked a = rw a

  pub unencrypted : r.writable ≡ true → r.write_encrypted ≡ true → encrypted ≡ false → Err (code 0x0F) ≡ writable_by encrypted r
  unfolding writable_by
  unencrypted a b c = rw (a, b, c)

  pub on_encrypted : (n : ℕ) → r.writable ≡ true → r.write_encrypted ≡ true → encrypted ≡ true → n ≡ slot_size (slot_of r.place)
      → Ok n ≡ writable_by encrypted r
  unfolding writable_by
  on_encrypted n a b c e = rw (a, b, c, e)

  pub for_all : (n : ℕ) → r.writable ≡ true → r.write_encrypted ≡ false → n ≡ slot_size (slot_of r.place) → Ok n ≡ writable_by encrypted r
  unfolding writable_by
  for_all n a b e = rw (a, b, e)

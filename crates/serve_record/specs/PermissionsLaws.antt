-- The view's reading is what the permission makes of the value.
use Rattle.std.specs.Prelude.{ℕ, Bool, true, false, ◌≡◌, refl, List, [], Ok, Err}
use Rattle.codec.specs.Cases.{pick}
use Rattle.att.specs.Typed.{code}
use Rattle.attributes.specs.Ledger.{holding}
use Rattle.attributes.specs.declared.Record.{Record}
use Rattle.answers.specs.View.{Value, NoRead, may_read, unreadable, reading_of}
use Rattle.serve_record.specs.Permissions.{permission_of, read_by}

pub reading_is : (encrypted : Bool) (r : Record) (v : List ℕ) → reading_of encrypted (holding r v) ≡ read_by (permission_of encrypted r) v
unfolding permission_of
reading_is encrypted r v = by (may_read encrypted (holding r []))
  where
    by : (b : Bool) → pick b (Value v) (NoRead (unreadable (holding r []))) ≡ read_by (pick b (Ok tt) (Err (code (unreadable (holding r []))))) v
    by true = refl
    by false = refl

-- the ways to a permission
module _ (encrypted : Bool) (r : Record) where
  pub not_marked : r.readable ≡ false → Err (code 0x02) ≡ permission_of encrypted r
  unfolding permission_of
  not_marked a = rw a

  pub unencrypted : r.readable ≡ true → r.read_encrypted ≡ true → encrypted ≡ false → Err (code 0x0F) ≡ permission_of encrypted r
  unfolding permission_of
  unencrypted a b c = rw (a, b, c)

  pub on_encrypted : r.readable ≡ true → r.read_encrypted ≡ true → encrypted ≡ true → Ok tt ≡ permission_of encrypted r
  unfolding permission_of
  on_encrypted a b c = rw (a, b, c)

  pub for_all : r.readable ≡ true → r.read_encrypted ≡ false → Ok tt ≡ permission_of encrypted r
  unfolding permission_of
  for_all a b = rw (a, b)

-- What a store does to the values of a ledger: an accepted one is the value at its handle, and every other value is as it was.
use Rattle.std.specs.Prelude.{ℕ, Bool, true, false, ◌&&◌, ◌≡◌, refl, List, [], ◌∷◌, Ok, Err, map, length, leb, eqb}
use Rattle.std.proofs.Common.{sym, ◌∙◌, eqb-true}
use Rattle.codec.specs.Cases.{pick}
use Rattle.codec.specs.CasesLaws.{both}
use Rattle.codec.specs.declared.Refusal.TheVariants.{TooLong}
use Rattle.attributes.specs.Ledger.{Item, valued, value_at}
use Rattle.attributes.specs.Records.{Slot, Kept, Room, fits}
use Rattle.attributes.specs.Stores.{takes, put, slot_refusal, store_refusal, live_by}

-- a slot takes a value exactly when the till's store there is accepted
pub slot_takes : (n : ℕ) (s : Slot) (x y : List ℕ) → live_by (slot_refusal n s) x y ≡ pick (fits n s) x y
slot_takes n Kept x y = refl
slot_takes n (Room c) x y = by (leb n c)
  where
    by : (b : Bool) → live_by (pick b (Ok tt) (Err TooLong)) x y ≡ pick b x y
    by true = refl
    by false = refl

module _ (h : ℕ) (v : List ℕ) where
  -- at the handle itself
  here_by : (i : Item) (is : List Item) (x z : Bool) → fits (length v) i.slot ≡ z
      → value_at h (map (put h v) is) ≡ live_by (store_refusal h (length v) is) v (value_at h is) → eqb i.handle h ≡ x
      → pick (eqb (pick (x && z) (valued i v) i).handle h) (pick (x && z) (valued i v) i).value (value_at h (map (put h v) is))
      ≡ live_by (pick x (slot_refusal (length v) i.slot) (store_refusal h (length v) is)) v (pick x i.value (value_at h is))
  here_by i is true true f k e = rw (e, slot_takes (length v) i.slot, f)
  here_by i is true false f k e = rw (e, slot_takes (length v) i.slot, f)
  here_by i is false z f k e = rw e k

  pub put_here : (is : List Item) → value_at h (map (put h v) is) ≡ live_by (store_refusal h (length v) is) v (value_at h is)
  put_here [] = refl
  put_here (i ∷ is) = here_by i is (eqb i.handle h) (fits (length v) i.slot) refl (put_here is) refl

  -- at another
  pub put_other : (k : ℕ) (is : List Item) → (h ≡ k → ⊥) → value_at k (map (put h v) is) ≡ value_at k is
  put_other k [] d = refl
  put_other k (i ∷ is) d = other_by (takes h (length v) i.handle i.slot) (eqb i.handle k) refl refl (put_other k is d)
    where
      other_by : (b x : Bool) → takes h (length v) i.handle i.slot ≡ b → eqb i.handle k ≡ x → value_at k (map (put h v) is) ≡ value_at k is
          → pick (eqb (pick b (valued i v) i).handle k) (pick b (valued i v) i).value (value_at k (map (put h v) is))
          ≡ pick x i.value (value_at k is)
      other_by false x f e g = rw (e, g)
      other_by true true f e g = absurd (d (sym (eqb-true i.handle h (both (eqb i.handle h) _ f).0) ∙ eqb-true i.handle k e))
      other_by true false f e g = rw (e, g)

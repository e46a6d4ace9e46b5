-- Laws of UUIDs. The array of a UUID that code holds is as long as its form is wide; here that is the side condition `Whole`.
use Rattle.std.specs.Prelude.{ℕ, ◌≤◌, ◌-◌, ◌≡◌, refl, true, List, ◌++◌, length, take, drop, Ok, Err}
use Rattle.std.proofs.Common.{sym, ap, ◌∙◌, arith, length-take, length-take-le, le-leb}
use Rattle.std.proofs.lemmas.List.{take_all}
use Rattle.std.proofs.Math.Seq.{take-append_seam}
use Rattle.std.specs.Cmp.{IsEquivalence, IsPartialEquivalence, equiv}
use Rattle.codec.specs.Buffer.{laid}
use Rattle.codec.specs.Cases.{None, same}
use Rattle.codec.specs.CasesLaws.{missing, same_refl, same_equal, same_is}
use Rattle.codec.specs.declared.Error.TheVariants.{InvalidValue}
use Rattle.ble_uuid.specs.Uuids.{width_of, array_of, own, on_air, equal_types, equal, zeros, padded, raw_of, lengths, sliced, uuid_of, base, att_bytes}
use Rattle.ble_uuid.specs.declared.Uuid.{Uuid}
use Rattle.ble_uuid.specs.declared.Uuid.TheVariants.{Uuid16, Uuid32, Uuid128}

abbrev pub Whole : Uuid → Type 0
Whole (Uuid16 b) = length b ≡ 2
Whole (Uuid32 b) = length b ≡ 4
Whole (Uuid128 b) = length b ≡ 16

pub width_most : (u : Uuid) → width_of u ≤ 16
width_most (Uuid16 b) = omega arith
width_most (Uuid32 b) = omega arith
width_most (Uuid128 b) = omega arith

-- a whole array is all the form's own
pub own_array : (u : Uuid) → Whole u → own u ≡ array_of u
own_array (Uuid16 b) e = take_all 2 b (omega (arith, e))
own_array (Uuid32 b) e = take_all 4 b (omega (arith, e))
own_array (Uuid128 b) e = take_all 16 b (omega (arith, e))

pub own_length : (u : Uuid) → Whole u → length (own u) ≡ width_of u
own_length (Uuid16 b) e = length-take-le 2 b (omega (arith, e))
own_length (Uuid32 b) e = length-take-le 4 b (omega (arith, e))
own_length (Uuid128 b) e = length-take-le 16 b (omega (arith, e))

pub own_most : (u : Uuid) → length (own u) ≤ 16
own_most u = rw (length-take (width_of u) (array_of u)) (omega (arith, width_most u))

-- the part of the form's width, as code lends it
pub part_own : (u : Uuid) (n : ℕ) → n ≡ width_of u → take (n - 0) (array_of u) ≡ own u
part_own u n e = let z : n - 0 ≡ width_of u = omega arith in ap (λ (k : ℕ). take k (array_of u)) z

-- sixteen bytes, of which the first are those given
pub padded_own : (l : List ℕ) → take (length l) (padded l) ≡ l
padded_own l = take-append_seam l (drop (length l) zeros)

pub laid_padded : (l : List ℕ) → length l ≤ 16 → laid l zeros ≡ padded l
laid_padded l h = rw (le-leb (length l) 16 h)

pub raw_is : (b l : List ℕ) (n : ℕ) → b ≡ padded l → n ≡ length l → record { bytes = b; len = n } ≡ raw_of l
raw_is b l n e f = rw (e, f)

-- the UUIDs of bytes of each length, and the refusal of any other
pub sliced_short : (l : List ℕ) → length l ≡ 2 → sliced l ≡ Ok (Uuid16 l)
unfolding sliced
sliced_short l e = rw e

pub sliced_wide : (l : List ℕ) → length l ≡ 4 → sliced l ≡ Ok (Uuid32 l)
unfolding sliced
sliced_wide l e = rw e

pub sliced_long : (l : List ℕ) → length l ≡ 16 → sliced l ≡ Ok (Uuid128 l)
unfolding sliced
sliced_long l e = rw e

pub sliced_refused : (l : List ℕ) → None (length l) Unit (lengths l) → sliced l ≡ Err InvalidValue
unfolding sliced
sliced_refused l n = missing (length l) (lengths l) (Err InvalidValue) n

-- bytes that are a UUID are its own
pub own_short : (l : List ℕ) → length l ≡ 2 → own (uuid_of l) ≡ l
own_short l e = rw (sliced_short l e) (take_all 2 l (omega (arith, e)))

pub own_wide : (l : List ℕ) → length l ≡ 4 → own (uuid_of l) ≡ l
own_wide l e = rw (sliced_wide l e) (take_all 4 l (omega (arith, e)))

pub own_long : (l : List ℕ) → length l ≡ 16 → own (uuid_of l) ≡ l
own_long l e = rw (sliced_long l e) (take_all 16 l (omega (arith, e)))

pub own_sliced : (u : Uuid) (l : List ℕ) → length l ≡ width_of u → own (uuid_of l) ≡ l
own_sliced (Uuid16 b) l e = own_short l e
own_sliced (Uuid32 b) l e = own_wide l e
own_sliced (Uuid128 b) l e = own_long l e

-- the same once over the form: the UUID of u's form with another array
abbrev pub of_form : Uuid → List ℕ → Uuid
of_form (Uuid16 b) l = Uuid16 l
of_form (Uuid32 b) l = Uuid32 l
of_form (Uuid128 b) l = Uuid128 l

pub own_formed : (u : Uuid) (l : List ℕ) → length l ≡ width_of u → own (of_form u l) ≡ l
own_formed (Uuid16 b) l e = own_array (Uuid16 l) e
own_formed (Uuid32 b) l e = own_array (Uuid32 l) e
own_formed (Uuid128 b) l e = own_array (Uuid128 l) e

pub sliced_formed : (u : Uuid) (l : List ℕ) → length l ≡ width_of u → sliced l ≡ Ok (of_form u l)
sliced_formed (Uuid16 b) l e = sliced_short l e
sliced_formed (Uuid32 b) l e = sliced_wide l e
sliced_formed (Uuid128 b) l e = sliced_long l e

-- a 32-bit UUID on the base
pub att_wide : (b v : List ℕ) → length v ≡ 4 → b ≡ padded (base ++ v) → record { bytes = b; len = 16 } ≡ raw_of (att_bytes (Uuid32 v))
att_wide b v h f = raw_is b (base ++ v) 16 f (omega (arith, h)) ∙ sym (ap (λ (l : List ℕ). raw_of (base ++ l)) (take_all 4 v (omega (arith, h))))

-- only a 32-bit UUID could be carried in other bytes than its own
pub on_air_own : (u : Uuid) → ((b : List ℕ) → u ≡ Uuid32 b → ⊥) → on_air u ≡ own u
unfolding on_air
on_air_own u n = refl

-- equal types: an equivalence, and in the base the same bytes
pub types_refl : (a : List ℕ) → equal_types a a ≡ true
unfolding equal_types
types_refl a = same_refl a

pub types_own : (a b : List ℕ) → equal_types a b ≡ true → a ≡ b
unfolding equal_types
types_own a b e = same_equal a b e

pub own_types : (a b : List ℕ) → a ≡ b → equal_types a b ≡ true
own_types a b e = rw e (types_refl b)

pub types_sym : (a b : List ℕ) → equal_types a b ≡ equal_types b a
unfolding equal_types
types_sym a b = same_is (same a b) b a (λ e. sym (same_equal a b e), λ e. rw e (same_refl a))

pub equal_refl : (u : Uuid) → equal u u ≡ true
equal_refl u = types_refl (own u)

pub equal_sym : (u v : Uuid) → equal u v ≡ equal v u
equal_sym u v = types_sym (own u) (own v)

pub equal_own : (u v : Uuid) → equal u v ≡ true → own u ≡ own v
equal_own u v e = types_own (own u) (own v) e

pub own_equal : (u v : Uuid) → own u ≡ own v → equal u v ≡ true
own_equal u v e = own_types (own u) (own v) e

pub equal_partial : IsPartialEquivalence equal
equal_partial = record {
  symm = equal_sym;
  trans = λ u v w e f. own_equal u w (equal_own u v e ∙ equal_own v w f);
}

pub equal_equivalence : IsEquivalence equal
equal_equivalence = equiv equal_partial equal_refl

-- a form is told by its length, so equal own bytes are those of one form: the UUIDs are the same
pub forms_equal : (u v : Uuid) → Whole u → Whole v → own u ≡ own v → u ≡ v
forms_equal u v e f h = by u v e f (sym (own_array u e) ∙ h ∙ own_array v f) where
  by : (u v : Uuid) → Whole u → Whole v → array_of u ≡ array_of v → u ≡ v
  by (Uuid16 a) (Uuid16 b) e f h = ap Uuid16 h
  by (Uuid32 a) (Uuid32 b) e f h = ap Uuid32 h
  by (Uuid128 a) (Uuid128 b) e f h = ap Uuid128 h
  by (Uuid16 a) (Uuid32 b) e f h = absurd (let k = ap length h in omega (arith, k, e, f))
  by (Uuid16 a) (Uuid128 b) e f h = absurd (let k = ap length h in omega (arith, k, e, f))
  by (Uuid32 a) (Uuid16 b) e f h = absurd (let k = ap length h in omega (arith, k, e, f))
  by (Uuid32 a) (Uuid128 b) e f h = absurd (let k = ap length h in omega (arith, k, e, f))
  by (Uuid128 a) (Uuid16 b) e f h = absurd (let k = ap length h in omega (arith, k, e, f))
  by (Uuid128 a) (Uuid32 b) e f h = absurd (let k = ap length h in omega (arith, k, e, f))

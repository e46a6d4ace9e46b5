-- The premises of demand 3, one by one: together they are what it asks for, by induction over the two sequences; and none of them can
-- be left out, by computing what two runs hear that meet all the others.
use Prim.Native.Nat.{ℕ}
use mathlib.Core.Bool.{Bool, true, false}
use mathlib.Core.Path.{◌≡◌, refl, sym, ◌∙◌, ap}
use mathlib.Core.List.{List, [], ◌∷◌, ◌++◌}
use lib.Dec.{eqb}
use Rattle.codec.specs.Cases.{pick, same}
use Rattle.codec.specs.CasesLaws.{impossible, same_refl}
use Rattle.codec.specs.Refusals.{refusal_number}
use Rattle.attributes.specs.Lists.{Each}
use Rattle.attributes.specs.declared.Addition.{Addition}
use Rattle.answers.specs.View.{may_read_at}
use Rattle.answers.specs.Demand3.{made, BuiltBy, Alike, Twins, none, packet, stores}
use Rattle.answers.specs.Premises.{kinds, packets, outputs, handles, readable_stores, encryptions, Run, Meets, premises, Needs, left_unsound, right_unsound, one_more, other_value, encrypted_link, exchanged_link, wider_link, other_order, other_packet, shorter_output, other_handle, other_store, later_encrypted, needed}
use Rattle.answers.specs.Serve.{Heard, Bytes, Silent, Refused, hears, Step, Send, Store, Encrypt, run}
use Rattle.answers.proofs.Computes.{book}
use Rattle.answers.proofs.Plain.{nothing_leaks}

-- the sequences
no_front : {A : Type 0} (xs ys : List A) → xs ++ ys ≡ [] → (xs ≡ []) × (ys ≡ [])
no_front [] ys e = (refl, e)
no_front (x ∷ xs) ys e = impossible (cc)

module _ (encrypted : Bool) (adds : List Addition) where
  twins : (es fs : List Step) → kinds es ≡ kinds fs → packets es ≡ packets fs → outputs es ≡ outputs fs → handles es ≡ handles fs
      → readable_stores encrypted adds es ≡ readable_stores encrypted adds fs → encryptions es ≡ [] → Twins encrypted adds es fs
  twins [] [] k p o h r n = none
  twins [] (Send q u ∷ fs) k p o h r n = impossible (cc)
  twins [] (Store q u ∷ fs) k p o h r n = impossible (cc)
  twins [] (Encrypt q ∷ fs) k p o h r n = impossible (cc)
  twins (Send q u ∷ es) [] k p o h r n = impossible (cc)
  twins (Send q u ∷ es) (Store x y ∷ fs) k p o h r n = impossible (cc)
  twins (Send q u ∷ es) (Encrypt x ∷ fs) k p o h r n = impossible (cc)
  twins (Send q u ∷ es) (Send x y ∷ fs) k p o h r n =
      let a : q ≡ x = cc in
      let b : u ≡ y = cc in
      let d : kinds es ≡ kinds fs = cc in
      let e : packets es ≡ packets fs = cc in
      let f : outputs es ≡ outputs fs = cc in
      rw (← a, ← b) (packet q u (twins es fs d e f h r n))
  twins (Store q u ∷ es) [] k p o h r n = impossible (cc)
  twins (Store q u ∷ es) (Send x y ∷ fs) k p o h r n = impossible (cc)
  twins (Store q u ∷ es) (Encrypt x ∷ fs) k p o h r n = impossible (cc)
  twins (Store q u ∷ es) (Store x y ∷ fs) k p o h r n =
      let a : q ≡ x = cc in
      let d : kinds es ≡ kinds fs = cc in
      let g : handles es ≡ handles fs = cc in
      let t = both (may_read_at encrypted q (made adds)) (rw (← a) at r) in
      rw (← a) (stores q u y t.0 (twins es fs d p o g t.1 n))
    where
      both : (b : Bool) → pick b (u ∷ readable_stores encrypted adds es) (readable_stores encrypted adds es) ≡ pick b (y ∷ readable_stores encrypted adds fs) (readable_stores encrypted adds fs)
          → (b ≡ true → u ≡ y) × (readable_stores encrypted adds es ≡ readable_stores encrypted adds fs)
      both true e = (λ z. cc, cc)
      both false e = (λ z. impossible (cc), e)
  twins (Encrypt q ∷ es) fs k p o h r n = impossible (cc)

-- DEMAND 3 FROM ITS PREMISES: where all of them are met, the link hears the same, and the tills are alike to the end.
pub all_suffice : (adds : List Addition) (a b : Run) → BuiltBy adds a.0 → Each (Meets adds a b) premises
    → (hears a.0 a.1 ≡ hears b.0 b.1) × Alike adds (run a.0 a.1) (run b.0 b.1)
all_suffice adds a b built m =
    let quiet = no_front (encryptions a.1) (encryptions b.1) m.1.1.1.1.1.1.1.1.1.1.0 in
    nothing_leaks adds a.0 b.0 a.1 b.1
    (record {
      sound_left = m.0;
      sound_right = m.1.0;
      built_left = built;
      built_right = m.1.1.0;
      values = m.1.1.1.0;
      links = m.1.1.1.1.0;
    })
    (twins a.0.link.encrypted adds a.1 b.1 m.1.1.1.1.1.0 m.1.1.1.1.1.1.0 m.1.1.1.1.1.1.1.0
    m.1.1.1.1.1.1.1.1.0 m.1.1.1.1.1.1.1.1.1.0 quiet.0)

-- what the premise on readable values says, for a symbolic handle
only_first : (b : Bool) (x y : List ℕ) → pick b true false ≡ true → pick b x [] ≡ pick b x y
only_first true x y e = refl
only_first false x y e = impossible (cc)

never : {A : Type 0} (b : Bool) → pick b false false ≡ true → A
never true e = impossible (cc)
never false e = impossible (cc)

-- what is heard, as numbers: where these differ, what is heard does
flat : List Heard → List ℕ
flat [] = []
flat (Bytes b ∷ hs) = 0 ∷ (b ++ flat hs)
flat (Silent ∷ hs) = 1 ∷ flat hs
flat (Refused why ∷ hs) = 2 ∷ refusal_number why ∷ flat hs

different : (x y : List Heard) → same (flat x) (flat y) ≡ false → x ≡ y → ⊥
different x y n e =
    let z : ◌≡◌ {A = Bool} true false = sym (same_refl (flat y)) ∙ ap (λ (l : List Heard). same (flat l) (flat y)) (sym e) ∙ n in
    impossible (cc)

-- Each pair: the additions built the left table, the other premises in their order, and a difference in what is heard.
left_unsound_lem : Needs left_unsound
unfolding book flat
left_unsound_lem = (refl, (refl, (refl, (λ h d. refl, (refl, (refl, (refl, (refl, (refl, (refl, (refl, tt)))))))))), λ e. different _ _ refl e)

right_unsound_lem : Needs right_unsound
unfolding book flat
right_unsound_lem = (refl, (refl, (refl, (λ h d. refl, (refl, (refl, (refl, (refl, (refl, (refl, (refl, tt)))))))))), λ e. different _ _ refl e)

one_more_lem : Needs one_more
unfolding book flat
one_more_lem = (refl, (refl, (refl, (λ h d. only_first (eqb 1 h) (0x41 ∷ []) (pick (eqb 2 h) (0x42 ∷ []) []) d, (refl, (refl, (refl, (refl, (refl, (refl, (refl, tt)))))))))), λ e. different _ _ refl e)

other_value_lem : Needs other_value
unfolding book flat
other_value_lem = (refl, (refl, (refl, (refl, (refl, (refl, (refl, (refl, (refl, (refl, (refl, tt)))))))))), λ e. different _ _ refl e)

encrypted_link_lem : Needs encrypted_link
unfolding book flat
encrypted_link_lem = (refl, (refl, (refl, (refl, (λ h d. refl, (refl, (refl, (refl, (refl, (refl, (refl, tt)))))))))), λ e. different _ _ refl e)

exchanged_link_lem : Needs exchanged_link
unfolding book flat
exchanged_link_lem = (refl, (refl, (refl, (refl, (λ h d. refl, (refl, (refl, (refl, (refl, (refl, (refl, tt)))))))))), λ e. different _ _ refl e)

wider_link_lem : Needs wider_link
unfolding book flat
wider_link_lem = (refl, (refl, (refl, (refl, (λ h d. refl, (refl, (refl, (refl, (refl, (refl, (refl, tt)))))))))), λ e. different _ _ refl e)

other_order_lem : Needs other_order
unfolding book flat
other_order_lem = (refl, (refl, (refl, (refl, (λ h d. refl, (refl, (refl, (refl, (refl, (refl, (refl, tt)))))))))), λ e. different _ _ refl e)

other_packet_lem : Needs other_packet
unfolding book flat
other_packet_lem = (refl, (refl, (refl, (refl, (λ h d. refl, (refl, (refl, (refl, (refl, (refl, (refl, tt)))))))))), λ e. different _ _ refl e)

shorter_output_lem : Needs shorter_output
unfolding book flat
shorter_output_lem = (refl, (refl, (refl, (refl, (λ h d. refl, (refl, (refl, (refl, (refl, (refl, (refl, tt)))))))))), λ e. different _ _ refl e)

other_handle_lem : Needs other_handle
unfolding book flat
other_handle_lem = (refl, (refl, (refl, (refl, (λ h d. refl, (refl, (refl, (refl, (refl, (refl, (refl, tt)))))))))), λ e. different _ _ refl e)

other_store_lem : Needs other_store
unfolding book flat
other_store_lem = (refl, (refl, (refl, (refl, (λ h d. refl, (refl, (refl, (refl, (refl, (refl, (refl, tt)))))))))), λ e. different _ _ refl e)

later_encrypted_lem : Needs later_encrypted
unfolding book flat
later_encrypted_lem = (refl, (refl, (refl, (refl, (λ h d. never (eqb 1 h) d, (refl, (refl, (refl, (refl, (refl, (refl, tt)))))))))), λ e. different _ _ refl e)

-- AND NONE OF THEM CAN BE LEFT OUT: two runs for each, which meet all the others and are heard to differ.
pub premises_needed : Each Needs needed
premises_needed = (left_unsound_lem, (right_unsound_lem, (one_more_lem, (other_value_lem, (encrypted_link_lem, (exchanged_link_lem, (wider_link_lem, (other_order_lem, (other_packet_lem, (shorter_output_lem, (other_handle_lem, (other_store_lem, (later_encrypted_lem, tt)))))))))))))

-- The till's own lookup and store look at no mark: two sound tables that differ in marks alone answer the same. What the first record
-- with a handle gives is the same of the records without their marks, where it does not depend on them.
use Rattle.std.specs.Prelude.{ℕ, true, ◌≡◌, List, [], Ok, Err, length}
use Rattle.std.proofs.Common.{sym, ◌∙◌, ap}
use Rattle.codec.specs.declared.Refusal.TheVariants.{UnknownHandle}
use Rattle.attributes.specs.FindLaws.{first_map, item_first}
use Rattle.attributes.specs.Ledger.{Item, ledger_of, item_at, lookup_refusal, looked_up}
use Rattle.attributes.specs.Marks.{unmarked, without_marks}
use Rattle.attributes.specs.Records.{entries, slot_of, value_of, record_at}
use Rattle.attributes.specs.Soundness.{sound_table}
use Rattle.attributes.proofs.StoreLaws.{own_tests_lem}
use Rattle.attributes.specs.Stores.{slot_refusal, own_refusal}
use Rattle.attributes.specs.declared.Place.{Place}
use Rattle.attributes.specs.declared.Record.{Record}
use Rattle.attributes.specs.declared.Table.{Table}

-- what the place alone decides
by_place : {A : Type 0} (h : ℕ) (gives : Place → A) (none : A) (t u : Table) → without_marks t ≡ without_marks u
    → record_at h (λ (r : Record). gives r.place) none (entries t) ≡ record_at h (λ (r : Record). gives r.place) none (entries u)
by_place h gives none t u e =
    sym (first_map unmarked (λ (r : Record). r.handle) h (λ (r : Record). gives r.place) none (entries t))
    ∙ ap (record_at h (λ (r : Record). gives r.place) none) e
    ∙ first_map unmarked (λ (r : Record). r.handle) h (λ (r : Record). gives r.place) none (entries u)

module _ (t u : Table) (h : ℕ) (fixed live : List ℕ) (st : sound_table t (length fixed) (length live) ≡ true) (su : sound_table u (length fixed) (length live) ≡ true)
    (same : without_marks t ≡ without_marks u) where
  in_ledger : {A : Type 0} (gives : Item → A) (by : Place → A) (none : A)
      → ((q : Table) → item_at h gives none (ledger_of q fixed live) ≡ record_at h (λ (r : Record). by r.place) none (entries q))
      → item_at h gives none (ledger_of t fixed live) ≡ item_at h gives none (ledger_of u fixed live)
  in_ledger gives by none is = is t ∙ by_place h by none t u same ∙ sym (is u)

  -- THE LOOKUP
  pub lookup_ignores_marks : (looked_up t h fixed live ≡ looked_up u h fixed live) × (lookup_refusal t h fixed live ≡ lookup_refusal u h fixed live)
  unfolding looked_up lookup_refusal
  lookup_ignores_marks =
      rw (st, su) (
        in_ledger (λ (i : Item). i.value) (λ (p : Place). value_of p fixed live) []
            (λ q. item_first fixed live h (λ (i : Item). i.value) [] (entries q)),
        in_ledger (λ (i : Item). Ok tt) (λ (p : Place). Ok tt) (Err UnknownHandle)
            (λ q. item_first fixed live h (λ (i : Item). Ok tt) (Err UnknownHandle) (entries q)),
      )

  -- THE OWN STORE's refusal
  pub store_ignores_marks : (n : ℕ) → own_refusal t h n fixed live ≡ own_refusal u h n fixed live
  store_ignores_marks n =
      own_tests_lem t h n fixed live true st
      ∙ in_ledger (λ (i : Item). slot_refusal n i.slot) (λ (p : Place). slot_refusal n (slot_of p)) (Err UnknownHandle)
      (λ q. item_first fixed live h (λ (i : Item). slot_refusal n i.slot) (Err UnknownHandle) (entries q))
      ∙ sym (own_tests_lem u h n fixed live true su)

-- Adding, looking up and a new table, at each of the tests.
use Rattle.std.specs.Prelude.{ℕ, ◌≤◌, ◌<◌, ◌≡◌, refl, List, [], Result, Ok, Err, Some, None, length, ltb}
use Rattle.std.proofs.Math.Bool.{true, false}
use Rattle.std.proofs.Common.{sym, ap, ◌∙◌, arith, le-leb}
use Rattle.std.proofs.lemmas.Bool.{lt-leb, lt-ltb, le-ltb}
use Rattle.codec.specs.declared.Refusal.{Refusal}
use Rattle.codec.specs.declared.Refusal.TheVariants.{TableFull, BadHandle, BadType, BadValue, NoRoom, UnknownHandle, BadTable}
use Rattle.attributes.specs.Additions.{changed_by, empty_table, new_table, last_handle, used, fresh, add_refusal, appended, added}
use Rattle.attributes.specs.FindLaws.{item_first, missing_in, found_gives}
use Rattle.attributes.specs.Ledger.{Item, lookup_refusal, looked_up}
use Rattle.attributes.specs.Records.{entries, find_in}
use Rattle.attributes.specs.Soundness.{type_ok, value_ok, space_ok, sound_table}
use Rattle.attributes.specs.declared.Addition.{Addition}
use Rattle.attributes.specs.declared.Record.{Record}
use Rattle.attributes.specs.declared.Table.{Table}
use Rattle.table_rules.specs.Walks.{walked_table}
use Rattle.table_rules.proofs.WalkLaws.{walked_is}
use Rattle.table_rules.specs.declared.Walked.{Walked}

-- Adding.
module _ (t : Table) (a : Addition) (fl ll : ℕ) where
  refuses : (why : Refusal) → add_refusal t a fl ll ≡ Err why → Err why ≡ added t a fl ll
  unfolding added
  refuses why e = sym (ap (λ (o : Result Unit Refusal). changed_by o (appended t (fresh (used 0 (entries t)) a))) e)

  pub add_unsound : sound_table t fl ll ≡ false → Err BadTable ≡ added t a fl ll
  unfolding add_refusal
  add_unsound s = refuses BadTable (rw s)

  module _ (s : sound_table t fl ll ≡ true) where
    pub add_65th : 64 ≤ t.count → Err TableFull ≡ added t a fl ll
    unfolding add_refusal
    add_65th h = refuses TableFull (rw (s, le-ltb t.count 64 h))

    module _ (free : t.count < 64) (w : Walked) (e : Some w ≡ walked_table t fl ll) where
      walked : Some w ≡ Some (record { last = last_handle 0 (entries t); used = used 0 (entries t) })
      walked = e ∙ walked_is t fl ll s

      last_is : w.last ≡ last_handle 0 (entries t)
      last_is = let k = walked in cc

      used_is : w.used ≡ used 0 (entries t)
      used_is = let k = walked in cc

      pub add_handle : a.handle ≤ w.last → Err BadHandle ≡ added t a fl ll
      unfolding add_refusal
      add_handle h = refuses BadHandle (rw (s, lt-ltb t.count 64 free, le-ltb (last_handle 0 (entries t)) a.handle (omega (arith, h, last_is))))

      module _ (up : w.last < a.handle) where
        above : ltb (last_handle 0 (entries t)) a.handle ≡ true
        above = lt-ltb (last_handle 0 (entries t)) a.handle (omega (arith, up, last_is))

        pub add_type : type_ok a.kind ≡ false → Err BadType ≡ added t a fl ll
        unfolding add_refusal
        add_type h = refuses BadType (rw (s, lt-ltb t.count 64 free, above, h))

        module _ (kind : type_ok a.kind ≡ true) where
          pub add_value : value_ok fl a.writable a.room ≡ false → Err BadValue ≡ added t a fl ll
          unfolding add_refusal
          add_value h = refuses BadValue (rw (s, lt-ltb t.count 64 free, above, kind, h))

          module _ (value : value_ok fl a.writable a.room ≡ true) where
            pub add_space : space_ok ll w.used a.room ≡ false → Err NoRoom ≡ added t a fl ll
            unfolding add_refusal
            add_space h =
                let k : space_ok ll (used 0 (entries t)) a.room ≡ false = ap (λ (x : ℕ). space_ok ll x a.room) (sym used_is) ∙ h in
                refuses NoRoom (rw (s, lt-ltb t.count 64 free, above, kind, value, k))

            pub add_done : space_ok ll w.used a.room ≡ true → (r : Record) (q : Table) → r ≡ fresh w.used a → q ≡ appended t r → Ok q ≡ added t a fl ll
            unfolding added add_refusal
            add_done h r q er eq =
                let k : space_ok ll (used 0 (entries t)) a.room ≡ true = ap (λ (x : ℕ). space_ok ll x a.room) (sym used_is) ∙ h in
                let o : add_refusal t a fl ll ≡ Ok tt = rw (s, lt-ltb t.count 64 free, above, kind, value, k) in
                ap (λ (x : Table). Ok x) (eq ∙ ap (appended t) (er ∙ ap (λ (x : ℕ). fresh x a) used_is))
                ∙ sym (ap (λ (x : Result Unit Refusal). changed_by x (appended t (fresh (used 0 (entries t)) a))) o)

-- The till's lookup.
module _ (t : Table) (h : ℕ) (fixed live : List ℕ) where
  pub look_bad : sound_table t (length fixed) (length live) ≡ false
      → ([] ≡ looked_up t h fixed live) × (Err BadTable ≡ lookup_refusal t h fixed live)
  unfolding looked_up lookup_refusal
  look_bad s = rw s (refl, refl)

  module _ (s : sound_table t (length fixed) (length live) ≡ true) where
    pub look_missing : find_in h (entries t) ≡ None → Err UnknownHandle ≡ lookup_refusal t h fixed live
    unfolding lookup_refusal
    look_missing e =
        rw s (sym (item_first fixed live h (λ (i : Item). Ok tt) (Err UnknownHandle) (entries t)
        ∙ missing_in h (λ (r : Record). Ok tt) (Err UnknownHandle) (entries t) e))

    pub look_there : (i : ℕ) (d : Record) → find_in h (entries t) ≡ Some i → Ok tt ≡ lookup_refusal t h fixed live
    unfolding lookup_refusal
    look_there i d e =
        rw s (sym (item_first fixed live h (λ (j : Item). Ok tt) (Err UnknownHandle) (entries t)
        ∙ found_gives h t.count i t.records d e (λ (r : Record). Ok tt) (Err UnknownHandle)))

-- a new table
module _ (fl ll : ℕ) where
  pub new_refused : 32768 < ll → Err BadTable ≡ new_table fl ll
  unfolding new_table
  new_refused h = rw (lt-leb ll 32768 h)

  pub new_done : ll ≤ 32768 → Ok (empty_table fl ll) ≡ new_table fl ll
  unfolding new_table
  new_done h = rw (le-leb ll 32768 h)

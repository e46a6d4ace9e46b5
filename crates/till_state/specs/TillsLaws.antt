-- What a till holds after a call: what the contracts say, step by step.
use Rattle.std.specs.Prelude.{ℕ, ◌-◌, min, ◌≡◌, false, List, [], ◌++◌, length, take, drop, Result, Ok, Err}
use Rattle.std.proofs.Common.{sym, arith}
use Rattle.answers.specs.Serve.{first_link}
use Rattle.answers.specs.declared.Link.{Link}
use Rattle.attributes.specs.Additions.{new_table}
use Rattle.attributes.specs.Stores.{stored, stored_live}
use Rattle.attributes.specs.declared.Table.{Table}
use Rattle.codec.specs.Buffer.{laid}
use Rattle.codec.specs.declared.Refusal.{Refusal}
use Rattle.till_state.specs.Tills.{first_till, with_table, tabled, in_use as used, live_after}
use Rattle.till_state.specs.declared.Till.{Till}

pub begun : (x : Table) (l : Link) (s : List ℕ) → s ≡ [] → new_table (length s) (length s) ≡ Ok x → l ≡ first_link false
    → ◌≡◌ {A = Till} (record { table = x; link = l; fixed = 0; live = 0; output = 247 }) first_till
unfolding new_table
begun x l s e f g =
    let h = rw e at f in
    let k : x ≡ first_till.table = cc in
    rw (k, g)

pub laid_as : (s t l m : List ℕ) → s ≡ t → m ≡ laid s l → m ≡ laid t l
laid_as s t l m e h = rw e at h

-- what a call on the table answered, a table or why it was refused, is what is answered of the till
pub moving : (t : Till) (c d : Result Table Refusal) → c ≡ d → tabled t c ≡ tabled t d
moving t c d f = rw f

pub moving_on : (t u : Till) (x : Table) (c d : Result Table Refusal) → u ≡ with_table t x → c ≡ d → c ≡ Ok x → Ok u ≡ tabled t d
moving_on t u x c d e f h = rw (e, sym f, h)

pub accepted : (t u : Till) (x : Table) (c : Result Table Refusal) → u ≡ with_table t x → c ≡ Ok x → Ok u ≡ tabled t c
accepted t u x c e h = rw (e, h)

pub refused : (t : Till) (c : Result Table Refusal) (why : Refusal) → c ≡ Err why → Err why ≡ tabled t c
refused t c why h = rw h

-- the live bytes in use were lent, and came back as the store leaves them, whether it was accepted or refused
pub in_use : (t : Till) (c : Result Table Refusal) (h n : ℕ) (v fixed live ys : List ℕ) → n ≡ min t.live (length live)
    → (c ≡ stored t.table h v fixed (take (n - 0) (drop 0 live))) × (ys ≡ stored_live t.table h v fixed (take (n - 0) (drop 0 live)))
    → (tabled t c ≡ tabled t (stored t.table h v fixed (used t.live live)))
    × (take 0 live ++ (ys ++ drop (n - 0) (drop 0 live)) ≡ live_after t h v fixed live)
in_use t c h n v fixed live ys e g =
    let z : n - 0 ≡ n = omega arith in
    let k = rw (z, e) at g in
    (moving t c _ k.0, rw (z, e, k.1))

pub in_use_on : (t u : Till) (x : Table) (c : Result Table Refusal) (h n : ℕ) (v fixed live ys : List ℕ) → n ≡ min t.live (length live) → u ≡ with_table t x → c ≡ Ok x
    → (c ≡ stored t.table h v fixed (take (n - 0) (drop 0 live))) × (ys ≡ stored_live t.table h v fixed (take (n - 0) (drop 0 live)))
    → (Ok u ≡ tabled t (stored t.table h v fixed (used t.live live)))
    × (take 0 live ++ (ys ++ drop (n - 0) (drop 0 live)) ≡ live_after t h v fixed live)
in_use_on t u x c h n v fixed live ys e f o g =
    let z : n - 0 ≡ n = omega arith in
    let k = rw (z, e) at g in
    (moving_on t u x c _ f k.0 o, rw (z, e, k.1))

-- Demand 3 in plain words, `nothing_leaks`. It is about `serve`, the definition that the responder's code is proved to meet.
--
-- What equal views mean: of two sound tables with the same records, lengths apart, a link has equal views exactly when every
-- attribute that it may read is equal in length and bytes (`views_show`, `views_need`). By induction over the records; handles rise,
-- so the value at a handle is the value of the one record that has it.
use Prim.Native.Nat.{ℕ, ◌<◌}
use mathlib.Core.Bool.{Bool, true, false}
use mathlib.Core.Path.{◌≡◌, refl, sym, ◌∙◌, ap, ap₂}
use mathlib.Core.List.{List, [], ◌∷◌, map}
use native.Mathlib.Omega.{arith}
use lib.ListN.{length}
use lib.Dec.{eqb}
use borrow.Author.Tests.{eqb-true, eq-eqb, ne_eqb}
use Rattle.codec.specs.Cases.{pick}
use Rattle.codec.specs.CasesLaws.{impossible, both}
use Rattle.attributes.proofs.Built.{built_add}
use Rattle.attributes.proofs.AdditionLaws.{add_full}
use Rattle.attributes.specs.Additions.{add_refusal}
use Rattle.attributes.specs.FindLaws.{first_map}
use Rattle.attributes.specs.Ledger.{holding, item, value_at}
use Rattle.attributes.specs.Records.{entries, bare, skeleton}
use Rattle.attributes.specs.Soundness.{record_ok, slots_end, records_ok}
use Rattle.attributes.proofs.SoundnessLaws.{good, sound_parts}
use Rattle.attributes.proofs.StoreLaws.{grown_slot}
use Rattle.attributes.specs.declared.Addition.{Addition}
use Rattle.attributes.specs.declared.Record.{Record}
use Rattle.attributes.specs.declared.Table.{Table}
use Rattle.answers.specs.View.{View, view, view_at, Reading, Value, NoRead, unreadable, may_read_at}
use Rattle.answers.specs.Serve.{State, sound, ledger, views, Step, run, hears}
use Rattle.answers.specs.Demand3.{made, BuiltBy, Event, Adds, Does, after_event, additions_after, History, started, next, Alike, Twins}
use Rattle.answers.specs.declared.Link.{Link}
use Rattle.answers.proofs.Steps.{after_skeleton, after_full}
use Rattle.answers.proofs.Demand3.{Agree, may_of, may_read_in, may_layout, demand3}

-- what reading shows, by whether the link may read
abbrev shown : Bool → List ℕ → ℕ → Reading
shown b x code = pick b (Value x) (NoRead code)

shows : (b : Bool) (x y : List ℕ) (code : ℕ) → (b ≡ true → x ≡ y) → shown b x code ≡ shown b y code
shows true x y code f = ap Value (f refl)
shows false x y code f = refl

-- a handle that the link may read is one of the records', and above those before them
above : (e : Bool) (h fl ll last at : ℕ) (rs : List Record) → records_ok fl ll last at rs ≡ true → may_read_in e h rs ≡ true → last < h
above e h fl ll last at [] o k = impossible (cc)
above e h fl ll last at (r ∷ rs) o k =
    let g = both (record_ok fl ll last at r) _ o in
    let up = (good fl ll last at r g.0).rises in
    by (eqb r.handle h) refl (λ q. omega (arith, up, above e h fl ll r.handle (slots_end at r) rs g.1 q)) up
  where
    by : (b : Bool) → eqb r.handle h ≡ b → (may_read_in e h rs ≡ true → last < h) → last < r.handle → last < h
    by true q f up = omega (arith, eqb-true r.handle h q, up)
    by false q f up = f (rw q at k)

-- the value that the views show
abbrev value_in : Reading → List ℕ
value_in (Value x) = x
value_in (NoRead c) = []

abbrev seen_at : ℕ → List View → List ℕ
seen_at h vs = view_at h (λ (v : View). value_in v.reading) [] vs

value_shown : (b : Bool) (x : List ℕ) (code : ℕ) → b ≡ true → x ≡ value_in (shown b x code)
value_shown true x code e = refl
value_shown false x code e = impossible (cc)

module _ (e : Bool) (fl ll : ℕ) where
  -- records without their lengths are as sound in their handles
  above_bare : (h last at : ℕ) (rs : List Record) → records_ok fl ll last at rs ≡ true → may_read_in e h (map bare rs) ≡ true → last < h
  above_bare h last at rs o k = above e h fl ll last at rs o (same_may rs ∙ k)
    where
      same_may : (rs : List Record) → may_read_in e h rs ≡ may_read_in e h (map bare rs)
      same_may rs = sym (first_map bare (λ (r : Record). r.handle) h (may_of e) false rs)

  module _ (h : ℕ) (fixed live : List ℕ) where
    seen_value : (rs : List Record) → may_read_in e h (map bare rs) ≡ true
        → value_at h (map (item fixed live) rs) ≡ seen_at h (map (view e) (map (item fixed live) rs))
    seen_value [] k = refl
    seen_value (r ∷ rs) k = by (eqb r.handle h) k (seen_value rs)
      where
        by : (b : Bool) → pick b (may_of e r) (may_read_in e h (map bare rs)) ≡ true
            → (may_read_in e h (map bare rs) ≡ true → value_at h (map (item fixed live) rs) ≡ seen_at h (map (view e) (map (item fixed live) rs)))
            → pick b (item fixed live r).value (value_at h (map (item fixed live) rs))
            ≡ pick b (value_in (view e (item fixed live r)).reading) (seen_at h (map (view e) (map (item fixed live) rs)))
        by true q f = value_shown (may_of e r) (item fixed live r).value (unreadable (item fixed live r)) q
        by false q f = f q

  bare_view : (r : Record) (x : List ℕ) → view e (holding (bare r) x) ≡ view e (holding r x)
  bare_view r x = rw (grown_slot r.place 0)

  head_view : (r t : Record) (x y : List ℕ) → bare r ≡ bare t → (may_of e t ≡ true → x ≡ y) → view e (holding r x) ≡ view e (holding t y)
  head_view r t x y q f =
      sym (bare_view r x) ∙ ap (λ (z : Record). view e (holding z x)) q
      ∙ ap (λ (z : Reading). record { handle = t.handle; kind = (holding t []).kind; reading = z; writing = (view e (holding (bare t) [])).writing })
      (shows (may_of e t) x y (unreadable (holding t [])) f) ∙ bare_view t y

  module _ (fixed live fixed' live' : List ℕ) where
    -- equal values of what may be read, in two lists of the same records, lengths apart
    Same : List Record → List Record → Type 0
    Same rs ts = (h : ℕ) → may_read_in e h (map bare rs) ≡ true → value_at h (map (item fixed live) rs) ≡ value_at h (map (item fixed' live') ts)

    first : (r t : Record) (rs ts : List Record) → bare r ≡ bare t → Same (r ∷ rs) (t ∷ ts) → may_of e t ≡ true
        → (item fixed live r).value ≡ (item fixed' live' t).value
    unfolding Same
    first r t rs ts q f m =
        let k : may_of e r ≡ true = ap (may_of e) q ∙ m in
        let self : eqb r.handle r.handle ≡ true = eq-eqb r.handle r.handle refl in
        let other : eqb t.handle r.handle ≡ true = eq-eqb t.handle r.handle (ap (λ (z : Record). z.handle) (sym q)) in
        rw (self, other) at (f r.handle (rw (self, k)))

    others : (last at : ℕ) (r t : Record) (rs ts : List Record) → records_ok fl ll r.handle at rs ≡ true → bare r ≡ bare t
        → Same (r ∷ rs) (t ∷ ts) → Same rs ts
    unfolding Same
    others last at r t rs ts o q f h d =
        let up = above_bare h r.handle at rs o d in
        let left : eqb r.handle h ≡ false = ne_eqb r.handle h (λ z. omega (arith, z, up)) in
        let right : eqb t.handle h ≡ false = ap (λ (z : Record). eqb z.handle h) (sym q) ∙ left in
        rw (left, right) at (f h (rw left d))

    same_views : (last at : ℕ) (rs ts : List Record) → records_ok fl ll last at rs ≡ true → map bare rs ≡ map bare ts → Same rs ts
        → map (view e) (map (item fixed live) rs) ≡ map (view e) (map (item fixed' live') ts)
    same_views last at [] [] o k f = refl
    same_views last at [] (t ∷ ts) o k f = impossible (cc)
    same_views last at (r ∷ rs) [] o k f = impossible (cc)
    same_views last at (r ∷ rs) (t ∷ ts) o k f =
        let g = both (record_ok fl ll last at r) _ o in
        let head : bare r ≡ bare t = cc in
        let tail : map bare rs ≡ map bare ts = cc in
        ap₂ (λ (w : View) (l : List View). w ∷ l)
        (head_view r t (item fixed live r).value (item fixed' live' t).value head (first r t rs ts head f))
        (same_views r.handle (slots_end at r) rs ts g.1 tail (others last (slots_end at r) r t rs ts g.1 head f))

-- Of states.
abbrev pub SameValues : State → State → Type 0
SameValues s t =
    (h : ℕ) → may_read_in s.link.encrypted h (skeleton s.table) ≡ true → value_at h (ledger s) ≡ value_at h (ledger t)

module _ (s t : State) (ks : sound s ≡ true) (kt : sound t ≡ true) (records : skeleton s.table ≡ skeleton t.table) (links : s.link ≡ t.link) where
  pub views_show : views s ≡ views t → SameValues s t
  unfolding ledger sound
  views_show q h d =
      seen_value s.link.encrypted (length s.fixed) (length s.live) h s.fixed s.live (entries s.table) d
      ∙ ap (seen_at h) q
      ∙ sym (seen_value t.link.encrypted (length t.fixed) (length t.live) h t.fixed t.live (entries t.table) (rw (records, links) at d))

  pub views_need : SameValues s t → views s ≡ views t
  unfolding ledger sound Same
  views_need f =
      same_views s.link.encrypted (length s.fixed) (length s.live) s.fixed s.live t.fixed t.live 0 0
      (entries s.table) (entries t.table) (sound_parts s.table (length s.fixed) (length s.live) ks).records records f
      ∙ ap (λ (b : Bool). map (view b) (ledger t)) (ap (λ (l : Link). l.encrypted) links)

-- To the relation over views, and back.
may_built : (e : Bool) (h : ℕ) (adds : List Addition) (s : State) → BuiltBy adds s → may_read_in e h (skeleton s.table) ≡ may_read_at e h (made adds)
may_built e h adds s b = ap (may_read_in e h) b ∙ may_layout e h 0 adds

pub alike : (adds : List Addition) (s t : State) → BuiltBy adds s → Agree s t → Alike adds s t
alike adds s t b a = record {
  sound_left = a.sound_left;
  sound_right = a.sound_right;
  built_left = b;
  built_right = sym a.records ∙ b;
  values = λ h d. views_show s t a.sound_left a.sound_right a.records a.links a.seen h (may_built s.link.encrypted h adds s b ∙ d);
  links = a.links;
}

agree : (adds : List Addition) (s t : State) → Alike adds s t → Agree s t
agree adds s t a =
    let records : skeleton s.table ≡ skeleton t.table = a.built_left ∙ sym a.built_right in
    record {
      sound_left = a.sound_left;
      sound_right = a.sound_right;
      records = records;
      seen = views_need s t a.sound_left a.sound_right records a.links
          (λ h d. a.values h (sym (may_built s.link.encrypted h adds s a.built_left) ∙ d));
      links = a.links;
    }

-- DEMAND 3. All that the link hears is equal, byte for byte, refusals and silences too; and afterwards the tills are alike again.
pub nothing_leaks : (adds : List Addition) (s t : State) (es fs : List Step) → Alike adds s t → Twins s.link.encrypted adds es fs
    → (hears s es ≡ hears t fs) × Alike adds (run s es) (run t fs)
nothing_leaks adds s t es fs a x =
    let d = demand3 s.link.encrypted adds s t refl a.built_left (agree adds s t a) x in
    (d.0, alike adds (run s es) (run t fs) d.2 d.1)

-- Its words "built by": a table that was added to, served, stored to and added to again was built by the additions that were accepted.
built_so : {adds : List Addition} {s : State} → History adds s → BuiltBy adds s × (length s.table.records ≡ 64)
unfolding after_event additions_after
built_so (started s e) = (ap skeleton e, ap (λ (t : Table). length t.records) e)
built_so (next {adds = adds} {s = s} e h) = one adds s e (built_so h)
  where
    one : (adds : List Addition) (s : State) (e : Event) → BuiltBy adds s × (length s.table.records ≡ 64)
        → BuiltBy (additions_after adds s e) (after_event s e) × (length (after_event s e).table.records ≡ 64)
    one adds s (Adds a) b = (
      built_add s.table a (length s.fixed) (length s.live) adds b.1 b.0 (add_refusal s.table a (length s.fixed) (length s.live)) refl,
      add_full s.table a b.1 (length s.fixed) (length s.live),
    )
    one adds s (Does e) b = (after_skeleton s e ∙ b.0, after_full s e b.1)

pub built_by_accepted : (adds : List Addition) (s : State) → History adds s → BuiltBy adds s
built_by_accepted adds s h = (built_so h).0

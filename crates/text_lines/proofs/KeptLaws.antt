-- Laws of lines and words that the code's proofs do not cite: what a step, a word and a mark do at each kind of character.
use Rattle.std.specs.Prelude.{ℕ, zero, suc, ◌+◌, ◌-◌, ◌≤◌, ◌<◌, min, ◌≡◌, refl, Bool, false, ◌||◌, List, [], ◌∷◌, ◌++◌, length, take, drop, get_or, set, leb, eqb}
use Rattle.std.proofs.Math.Path.{sym}
use Rattle.std.proofs.Common.{ap, ◌∙◌, append-nil, append_assoc, arith, add-one, length-drop, length-take, drop_of_length-le, drop-cons, take-suc, take_all, length-take-le, take-take, get_or-drop}
use Rattle.std.proofs.Math.Bool.{true}
use Rattle.std.proofs.Math.Seq.{take-length, set_out}
use Rattle.std.proofs.Math.Dec.{ltb}
use borrow.Author.Tests.{lt-ltb, le-ltb, le-leb, lt-leb, eq-eqb, ne_eqb, leb-true, leb-false}
use Rattle.codec.specs.Cases.{pick}
use Rattle.text_lines.specs.Lines.{blank, uncarriaged, silent, seen_of, judged, end_of, step_of, held_after, last_of, reading_of}
use Rattle.text_lines.specs.Words.{trimmed, front, behind, word_of, member, each_once, marks_of}
use Rattle.text_lines.specs.declared.Lines.{Lines}
use Rattle.text_lines.specs.declared.Stepped.{Stepped}
use Rattle.text_lines.specs.declared.Seen.TheVariants.{Line, TooLong, Passed}

-- a line's next character
pub next_character : (l : List ℕ) (i : ℕ) → i < length l → drop i l ≡ get_or l i 0 ∷ drop (i + 1) l
next_character l i h = rw (add-one i, drop-cons l i 0)

-- a line without characters, one whose end is CR, and one whose end is not
pub no_characters : (l : List ℕ) → length l ≡ 0 → uncarriaged l ≡ take 0 l
unfolding uncarriaged
no_characters [] h = refl
no_characters (c ∷ cs) h = absurd (omega arith)

pub cr_ends : (l : List ℕ) (n : ℕ) → length l ≡ suc n → get_or l n 0 ≡ 13 → uncarriaged l ≡ take n l
unfolding uncarriaged
cr_ends [] n h e = absurd (omega arith)
cr_ends (c ∷ []) zero h e = rw (eq-eqb c 13 e)
cr_ends (c ∷ []) (suc n) h e = absurd (omega arith)
cr_ends (c ∷ d ∷ cs) zero h e = absurd (omega arith)
cr_ends (c ∷ d ∷ cs) (suc n) h e = ap (λ (l : List ℕ). c ∷ l) (cr_ends (d ∷ cs) n (omega arith) e)

pub other_ends : (l : List ℕ) (n : ℕ) → length l ≡ suc n → (get_or l n 0 ≡ 13 → ⊥) → uncarriaged l ≡ l
unfolding uncarriaged
other_ends [] n h e = absurd (omega arith)
other_ends (c ∷ []) zero h e = rw (ne_eqb c 13 e)
other_ends (c ∷ []) (suc n) h e = absurd (omega arith)
other_ends (c ∷ d ∷ cs) zero h e = absurd (omega arith)
other_ends (c ∷ d ∷ cs) (suc n) h e = ap (λ (l : List ℕ). c ∷ l) (other_ends (d ∷ cs) n (omega arith) e)

-- a blank, and what is none
pub blank_space : (c : ℕ) → c ≡ 32 → blank c ≡ true
blank_space c h = rw (eq-eqb c 32 h)

pub blank_tab : (c : ℕ) → (c ≡ 32 → ⊥) → c ≡ 9 → blank c ≡ true
blank_tab c n h = rw (ne_eqb c 32 n, eq-eqb c 9 h)

pub no_blank : (c : ℕ) → (c ≡ 32 → ⊥) → (c ≡ 9 → ⊥) → blank c ≡ false
no_blank c n m = rw (ne_eqb c 32 n, ne_eqb c 9 m)

module _ (l : List ℕ) (i : ℕ) (h : i < length l) where
  pub silent_blank : blank (get_or l i 0) ≡ true → silent (drop i l) ≡ silent (drop (i + 1) l)
  unfolding silent
  silent_blank b = rw (next_character l i h, b)

  pub silent_first : blank (get_or l i 0) ≡ false → silent (drop i l) ≡ eqb (get_or l i 0) 35
  unfolding silent
  silent_first b = rw (next_character l i h, b)

  pub trimmed_blank : blank (get_or l i 0) ≡ true → trimmed (drop i l) ≡ trimmed (drop (i + 1) l)
  unfolding trimmed
  trimmed_blank b = rw (next_character l i h, b)

  pub trimmed_first : blank (get_or l i 0) ≡ false → trimmed (drop i l) ≡ drop i l
  unfolding trimmed
  trimmed_first b = rw (next_character l i h, b)

  pub behind_blank : blank (get_or l i 0) ≡ true → (behind (drop i l) ≡ drop i l) × (front (drop i l) ≡ [])
  unfolding behind front
  behind_blank b = (rw (next_character l i h, b), rw (next_character l i h, b))

  pub behind_more : blank (get_or l i 0) ≡ false
      → (behind (drop i l) ≡ behind (drop (i + 1) l)) × (front (drop i l) ≡ get_or l i 0 ∷ front (drop (i + 1) l))
  unfolding behind front
  behind_more b = (rw (next_character l i h, b), rw (next_character l i h, b))

pub silent_none : (l : List ℕ) (i : ℕ) → length l ≤ i → silent (drop i l) ≡ true
unfolding silent
silent_none l i h = rw (drop_of_length-le l h)

pub trimmed_none : (l : List ℕ) (i : ℕ) → length l ≤ i → trimmed (drop i l) ≡ drop i l
unfolding trimmed
trimmed_none l i h = rw (drop_of_length-le l h)

pub behind_none : (l : List ℕ) (i : ℕ) → length l ≤ i → (behind (drop i l) ≡ drop i l) × (front (drop i l) ≡ [])
unfolding behind front
behind_none l i h = (rw (drop_of_length-le l h), rw (drop_of_length-le l h))

pub word_more : (line : List ℕ) (from i : ℕ) → from ≤ i → i < length line
    → take (i + 1 - from) (drop from line) ≡ take (i - from) (drop from line) ++ (get_or line i 0 ∷ [])
word_more line from i h k =
    let e : i + 1 - from ≡ suc (i - from) = omega arith in
    let d : from + (i - from) ≡ i = omega arith in
    let l : i - from < length (drop from line) = rw (length-drop from line) (omega arith) in
    rw (e, take-suc (drop from line) (i - from) 0 l, get_or-drop from line (i - from) 0, d)

-- a word that is read on by one character
pub word_on : (line : List ℕ) (from i : ℕ) → from ≤ i → (h : i < length line) → blank (get_or line i 0) ≡ false
    → take (i - from) (drop from line) ++ front (drop i line) ≡ front (drop from line)
    → take (i + 1 - from) (drop from line) ++ front (drop (i + 1) line) ≡ front (drop from line)
word_on line from i f h b e =
    rw (word_more line from i f h, append_assoc)
    (ap (λ (l : List ℕ). take (i - from) (drop from line) ++ l) (sym (behind_more line i h b).1) ∙ e)

-- a word that ends
pub word_ends : (line : List ℕ) (from i : ℕ) → front (drop i line) ≡ []
    → take (i - from) (drop from line) ++ front (drop i line) ≡ front (drop from line) → take (i - from) (drop from line) ≡ front (drop from line)
word_ends line from i n e = sym (append-nil (take (i - from) (drop from line))) ∙ ap (λ (l : List ℕ). take (i - from) (drop from line) ++ l) (sym n) ∙ e

trimmed_twice : (l : List ℕ) → trimmed (trimmed l) ≡ trimmed l
unfolding trimmed
trimmed_twice [] = refl
trimmed_twice (c ∷ cs) = by (blank c) refl (trimmed_twice cs)
  where
    by : (t : Bool) → blank c ≡ t → trimmed (trimmed cs) ≡ trimmed cs → trimmed (pick t (trimmed cs) (c ∷ cs)) ≡ pick t (trimmed cs) (c ∷ cs)
    by true e r = r
    by false e r = rw e

words_trimmed : (k : ℕ) (l : List ℕ) → word_of k l ≡ word_of k (trimmed l)
unfolding word_of
words_trimmed zero l = ap front (sym (trimmed_twice l))
words_trimmed (suc k) l = ap (λ (m : List ℕ). word_of k (behind m)) (sym (trimmed_twice l))

-- at the start of a word, and from one word to the next
pub words_start : (k at : ℕ) (l line : List ℕ) → drop at line ≡ trimmed l
    → (trimmed (drop at line) ≡ drop at line) × (word_of k l ≡ word_of k (drop at line))
words_start k at l line e = rw e (trimmed_twice l, words_trimmed k l)

pub words_next : (k : ℕ) (l : List ℕ) → 0 < k → trimmed l ≡ l → word_of k l ≡ word_of (k - 1) (behind l)
unfolding word_of
words_next zero l h t = absurd (omega arith)
words_next (suc k) l h t = let e : suc k - 1 ≡ k = omega arith in rw (e, t)

pub words_here : (k : ℕ) (l : List ℕ) → k ≡ 0 → trimmed l ≡ l → word_of k l ≡ front l
unfolding word_of
words_here zero l h t = ap front t
words_here (suc k) l h t = absurd (omega arith)

-- a letter in a word
module _ (c i : ℕ) (w : List ℕ) (h : i < length w) where
  pub member_here : get_or w i 0 ≡ c → member c (drop i w) ≡ true
  member_here e = rw (next_character w i h, eq-eqb (get_or w i 0) c e)

  pub member_on : (get_or w i 0 ≡ c → ⊥) → member c (drop i w) ≡ member c (drop (i + 1) w)
  member_on e = rw (next_character w i h, ne_eqb (get_or w i 0) c e)

pub member_none : (c i : ℕ) (w : List ℕ) → length w ≤ i → member c (drop i w) ≡ false
member_none c i w h = rw (drop_of_length-le w h)

module _ (letters w : List ℕ) (i : ℕ) (h : i < length w) where
  pub once_other : member (get_or w i 0) letters ≡ false → each_once letters (drop i w) ≡ false
  unfolding each_once
  once_other e = rw (next_character w i h, e)

  pub once_twice : member (get_or w i 0) letters ≡ true → member (get_or w i 0) (drop (i + 1) w) ≡ true → each_once letters (drop i w) ≡ false
  unfolding each_once
  once_twice e f = rw (next_character w i h, e, f)

  pub once_on : member (get_or w i 0) letters ≡ true → member (get_or w i 0) (drop (i + 1) w) ≡ false
      → each_once letters (drop i w) ≡ each_once letters (drop (i + 1) w)
  unfolding each_once
  once_on e f = rw (next_character w i h, e, f)

pub once_none : (letters w : List ℕ) (i : ℕ) → length w ≤ i → each_once letters (drop i w) ≡ true
unfolding each_once
once_none letters w i h = rw (drop_of_length-le w h)

pub marks_dash : (letters w : List ℕ) → length w ≡ 1 → get_or w 0 0 ≡ 45 → true ≡ marks_of letters w
unfolding marks_of
marks_dash letters [] h e = absurd (omega arith)
marks_dash letters (c ∷ []) h e = rw (eq-eqb c 45 e)
marks_dash letters (c ∷ d ∷ cs) h e = absurd (omega arith)

pub marks_letters : (letters w : List ℕ) → ((length w ≡ 1) → (get_or w 0 0 ≡ 45 → ⊥)) → each_once letters w ≡ marks_of letters w
unfolding marks_of
marks_letters letters [] h = refl
marks_letters letters (c ∷ []) h = rw (ne_eqb c 45 (h refl))
marks_letters letters (c ∷ d ∷ cs) h = refl

-- a line at its end: `held` of its characters stand in the buffer, and `n` of them are not the CR
pub record Whole (lines : Lines) (buf : List ℕ) (n : ℕ) : Type 0 where
  pub inside : n ≤ length buf
  pub says : judged lines buf ≡ seen_of (length buf - 1) (take n buf)

pub whole_line : (lines : Lines) (buf : List ℕ) (held n : ℕ) → lines.long ≡ false → held ≡ min lines.len (length buf)
    → uncarriaged (take (held - 0) (drop 0 buf)) ≡ take n (take (held - 0) (drop 0 buf)) → n ≤ length (take (held - 0) (drop 0 buf)) → Whole lines buf n
unfolding judged
whole_line lines buf held n f m u s =
    let z : held - 0 ≡ held = omega arith in
    let h : n ≤ held = omega (arith, length-take (held - 0) (drop 0 buf)) in
    let t : take lines.len buf ≡ take held buf = rw m (take_least lines.len buf) in
    let v : uncarriaged (take held buf) ≡ take n (take held buf) = rw z at u in
    record { inside = omega (arith, m); says = rw (f, t, v, take-take n held buf h) }
  where
    take_least : (k : ℕ) (l : List ℕ) → take k l ≡ take (min k (length l)) l
    take_least k l = by (leb k (length l)) refl
      where
        by : (t : Bool) → leb k (length l) ≡ t → take k l ≡ take (min k (length l)) l
        by true e = let m : min k (length l) ≡ k = omega (arith, leb-true k (length l) e) in rw m
        by false e =
            let m : min k (length l) ≡ length l = omega (arith, leb-false k (length l) e) in
            rw (m, take-length l) (take_all k l (omega (arith, leb-false k (length l) e)))

module _ (lines : Lines) (buf : List ℕ) (n : ℕ) (w : Whole lines buf n) where
  count : length (take n buf) ≡ n
  count = length-take-le n buf w.inside

  pub whole_long : length buf ≤ n → 0 < n → TooLong ≡ judged lines buf
  whole_long h k = rw (w.says, count, lt-leb n (length buf - 1) (omega arith))

  pub whole_passed : n ≤ length buf - 1 → silent (take (n - 0) (drop 0 buf)) ≡ true → Passed ≡ judged lines buf
  whole_passed h s =
      let z : n - 0 ≡ n = omega arith in
      let t : silent (take n buf) ≡ true = rw z at s in
      rw (w.says, count, le-leb n (length buf - 1) h, t)

  pub whole_kept : n ≤ length buf - 1 → silent (take (n - 0) (drop 0 buf)) ≡ false → Line n ≡ judged lines buf
  whole_kept h s =
      let z : n - 0 ≡ n = omega arith in
      let t : silent (take n buf) ≡ false = rw z at s in
      rw (w.says, count, le-leb n (length buf - 1) h, t)

-- a line of more characters than there is room for
pub long_line : (lines : Lines) (buf : List ℕ) → lines.long ≡ true → TooLong ≡ judged lines buf
unfolding judged
long_line lines buf e = rw e

pub word_none : (line : List ℕ) (from : ℕ) → take (from - from) (drop from line) ++ front (drop from line) ≡ front (drop from line)
word_none line from = let e : from - from ≡ 0 = omega arith in rw e

-- a byte of the input, and the input's end
module _ (lines : Lines) (buf : List ℕ) (s : Stepped) where
  pub step_lf : (c : ℕ) → c ≡ 10 → s ≡ end_of lines buf → (s ≡ step_of lines c buf) × (buf ≡ held_after lines c buf)
  unfolding step_of held_after
  step_lf c h e = rw (eq-eqb c 10 h) (e, refl)

  pub step_kept : (c : ℕ) → (c ≡ 10 → ⊥) → lines.len < length buf → s ≡ reading_of lines (lines.len + 1) lines.long
      → (s ≡ step_of lines c buf) × (set buf lines.len c ≡ held_after lines c buf)
  unfolding step_of held_after
  step_kept c n h e = rw (ne_eqb c 10 n, lt-ltb lines.len (length buf) h) (e, refl)

  pub step_full : (c : ℕ) → (c ≡ 10 → ⊥) → length buf ≤ lines.len → s ≡ reading_of lines lines.len true
      → (s ≡ step_of lines c buf) × (buf ≡ held_after lines c buf)
  unfolding step_of held_after
  step_full c n h e = rw (ne_eqb c 10 n, le-ltb lines.len (length buf) h) (e, sym (set_out buf lines.len c h))

  pub last_long : lines.long ≡ true → s ≡ end_of lines buf → s ≡ last_of lines buf
  unfolding last_of
  last_long l e = let t : (lines.long || ltb 0 lines.len) ≡ true = rw l in rw t e

  pub last_some : lines.long ≡ false → 0 < lines.len → s ≡ end_of lines buf → s ≡ last_of lines buf
  unfolding last_of
  last_some l h e = let t : (lines.long || ltb 0 lines.len) ≡ true = rw (l, lt-ltb 0 lines.len h) in rw t e

  pub last_none : lines.long ≡ false → lines.len ≤ 0 → s ≡ reading_of lines lines.len lines.long → s ≡ last_of lines buf
  unfolding last_of
  last_none l h e = e ∙ rw (l, le-ltb 0 lines.len h)

-- Document 01, "How a packet is served": a search a part at a time, as code goes about it. How far it is, and the bytes of the items
-- so far. proofs/GatherLaws.antt says that this is the search of the responder's book.
use Rattle.std.specs.Prelude.{ℕ, ◌+◌, ◌-◌, ◌≤◌, Bool, true, false, ◌&&◌, List, [], ◌∷◌, ◌++◌, length, leb, eqb, Option, Some, None, Result, Ok, Err}
use Rattle.codec.specs.Buffer.{over, laid_at}
use Rattle.codec.specs.Cases.{pick}
use Rattle.primitives.specs.Numbers.{bytes_of}
use Rattle.att_error.specs.declared.AttErrorCode.{AttErrorCode}
use Rattle.att.specs.Items.{joined}
use Rattle.att.specs.Typed.{code}
use Rattle.answers.specs.Replies as book
use Rattle.answers.specs.Replies.{Part}
use Rattle.serve_collect.specs.declared.Failed.{Failed}
use Rattle.serve_collect.specs.declared.Head.{Head}
use Rattle.serve_collect.specs.declared.Head.TheVariants.{Handle, Range}
use Rattle.serve_collect.specs.declared.Listed.{Listed}
use Rattle.serve_collect.specs.declared.Progress.{Progress}
use Rattle.serve_collect.specs.declared.Progress.TheVariants.{Seeking, Taking, Ended}

abbrev pub head_of : Head → List ℕ
head_of (Handle h) = bytes_of 2 h
head_of (Range h e) = bytes_of 2 h ++ bytes_of 2 e

abbrev pub listed : ℕ → ℕ → Listed
listed n used = record { item_len = n; used = used }

abbrev pub failed : ℕ → AttErrorCode → Failed
failed h c = record { handle = h; code = c }

-- what a search finds: nothing, a list, or a first match that may not be read
abbrev pub Gathered : Type 0
Gathered = Option (Result Listed Failed)

-- how far a search is, and the area of the items
abbrev pub Walk : Type 0
Walk = Progress × List ℕ

-- where an item of `len` bytes goes: behind those so far, if it is of their length and fits
unfoldable pub fit_at : ℕ → ℕ → ℕ → Option ℕ
fit_at room len at = pick (leb at room && leb len (room - at)) (Some at) None

abbrev pub spot_for : ℕ → ℕ → Progress → Option ℕ
spot_for room len Seeking = fit_at room len 0
spot_for room len (Taking x) = pick (eqb len x.item_len) (fit_at room len x.used) None
spot_for room len (Ended x) = None

abbrev pub stopped : Progress → Progress
stopped Seeking = Seeking
stopped (Taking x) = Ended (Some (Ok x))
stopped (Ended x) = Ended x

abbrev pub failing : ℕ → AttErrorCode → Progress → Progress
failing h c Seeking = Ended (Some (Err (failed h c)))
failing h c (Taking x) = Ended (Some (Ok x))
failing h c (Ended x) = Ended x

abbrev pub taken_at : Option ℕ → List ℕ → Progress → List ℕ → Walk
taken_at (Some at) b p area = (Taking (listed (length b) (at + length b)), laid_at at b area)
taken_at None b p area = (stopped p, area)

unfoldable pub taken : ℕ → List ℕ → Progress → List ℕ → Walk
taken room b p area = taken_at (spot_for room (length b) p) b p area

-- one part more
abbrev pub step : ℕ → Walk → Part → Walk
step room w book.Skip = w
step room w (book.Take b) = taken room b w.0 w.1
step room w (book.Fail h n) = (failing h (code n) w.0, w.1)

abbrev pub fold : {A B : Type 0} → (B → A → B) → B → List A → B
fold g b [] = b
fold g b (x ∷ l) = fold g (g b x) l

-- A part whose item by itself fits into the room; and parts of which the first item does, if any comes before one that fails.
abbrev pub Fits : ℕ → Part → Type 0
Fits room book.Skip = Unit
Fits room (book.Take b) = length b ≤ room
Fits room (book.Fail h n) = Unit

abbrev pub FirstFits : ℕ → List Part → Type 0
FirstFits room [] = Unit
FirstFits room (book.Skip ∷ ps) = FirstFits room ps
FirstFits room (book.Take b ∷ ps) = length b ≤ room
FirstFits room (book.Fail h n ∷ ps) = Unit

-- whether the list has ended, so that nothing behind it counts
abbrev pub is_ended : Progress → Bool
is_ended Seeking = false
is_ended (Taking x) = false
is_ended (Ended x) = true

-- what a walk ends with, and what is shown of the book's list: its items, joined over an area
abbrev pub found_by : Progress → Gathered
found_by Seeking = None
found_by (Taking x) = Some (Ok x)
found_by (Ended x) = x

abbrev pub shown_found : book.Found → Gathered
shown_found book.None = None
shown_found (book.Failed h n) = Some (Err (failed h (code n)))
shown_found (book.Listed n is) = Some (Ok (listed n (length (joined is))))

abbrev pub shown_on : List ℕ → book.Found → List ℕ
shown_on area book.None = area
shown_on area (book.Failed h code) = area
shown_on area (book.Listed n is) = over (joined is) area

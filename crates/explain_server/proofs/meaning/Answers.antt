-- The text stands whole in the bytes that it is spelt into, and no text is refused by them.
use Rattle.std.proofs.Common.{ℕ, ◌≡◌, List, [], ◌∷◌, sym, ◌∙◌, replicate}
use Rattle.codec.specs.Ascii.{ascii}
use Rattle.att_error.specs.Texts.{text_of}
use Rattle.text_print.specs.declared.Line.{Line}
use Rattle.text_print.specs.Lines.{Puts}
use Rattle.text_put.specs.PutLaws.{stands, puts_then}
use Rattle.explain_server.specs.Servers.{meaning_texts}
use Rattle.explain_server.specs.ServersLaws.{text_fits}
use Rattle.explain_server.proofs.meaning.Goals.{in-Ok, in_default}
use Rattle.explain_server.proofs.meaning.Goals as goal

between : (code : ℕ) (name : List ℕ) (a b d e f : Line) → Puts (ascii " (" ∷ []) a b → Puts (name ∷ []) b d → name ≡ text_of code → e ≡ d
    → Puts (ascii ")" ∷ []) e f → Puts (meaning_texts code) a f
between code name a b d e f p q n g r =
    puts_then (ascii " (" ∷ []) (text_of code ∷ ascii ")" ∷ []) a b f p (puts_then (text_of code ∷ []) (ascii ")" ∷ []) b d f (rw n at q) (rw g at r))

pub returns : goal.returns
returns c =
    elim c.match-write_text.branch [
      | in-Ok w ↦
          let g = stands (text_of c.args.code) (replicate 256 0) _ _ (sym w.in-Ok.ensures.value) w.in-Ok.ensures.out_after in
          between c.args.code w.first.result.now c.args.line.now c.text.new.self w.text-in-Ok.new.self c.match-write_text.line c.text-2.new.self c.text.ensures w.text-in-Ok.ensures (w.first.ensures ∙ g) w.line-is c.text-2.ensures
      | in_default w ↦ absurd (text_fits c.args.code _ (sym w.in_default.ensures.value))
    ]

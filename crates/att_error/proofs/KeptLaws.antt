-- A law of the error texts that the code's proofs do not cite.
use Rattle.std.specs.Prelude.{ℕ, ◌≡◌, List, Result}
use Rattle.codec.specs.Buffer.{laid, written}
use Rattle.codec.specs.declared.Error.{Error}
use Rattle.att_error.specs.Texts.{text_of}

-- a text that was written for the number `k`, where the code is `k`
pub told : (code k : ℕ) (out m : List ℕ) (r : Result ℕ Error) → code ≡ k → (r ≡ written (text_of k) out) × (m ≡ laid (text_of k) out)
    → (r ≡ written (text_of code) out) × (m ≡ laid (text_of code) out)
told code k out m r e h = rw e h

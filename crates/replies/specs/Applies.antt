-- When each answer applies to a reply, in the words of the answer table and by the bytes themselves: a slip made alike in the code and in
-- the chain of Replies.antt is refused.
-- Assumes nothing.
use Rattle.std.specs.Prelude.{ℕ, ◌+◌, ◌*◌, ◌≡◌, Bool, cond, not, ◌&&◌, List, [], ◌∷◌, ltb, eqb, length, take, get_or}
use Rattle.laws.specs.Lines.{Line, lowest}
use Rattle.pec.specs.Pec.{pec}
use Rattle.replies.specs.Replies.{reply_answer}

-- the answers of a reply s to a read of a code with k data bytes, which are an account or not (data sheet 18.7)
abbrev pub reply_lines : ℕ → ℕ → Bool → Bool → List ℕ → List Line
reply_lines code k check energy s =
    (20, not (eqb (length s) (cond check (k + 1) k)))  -- other than the data, or with a PEC the data and one byte
    ∷ (21, check && not (eqb (pec (0xC0 ∷ code ∷ 0xC1 ∷ take k s)) (get_or s k 0)))  -- the byte behind the data is not the PEC
    ∷ (22, energy && not (eqb (get_or s 0 0) 0x06))  -- the first byte of an account is not 06h
    ∷ (23, energy && ltb 0x7FFF (get_or s 1 0 + get_or s 2 0 * 256))  -- its accumulator, low byte first, is over 7FFFh
    ∷ []

unfoldable pub RepliesApply : Type 0
RepliesApply =
    (code k : ℕ) (check energy : Bool) (s : List ℕ) → reply_answer code k check energy s ≡ lowest (reply_lines code k check energy s)

-- What a host holds against a reply by itself (data sheet 18.7): one chain of tests for the totalizer and for every read of the host.
-- Assumes nothing.
use Rattle.std.specs.Prelude.{ℕ, ◌+◌, Bool, true, cond, List, [], ◌∷◌, ◌++◌, ltb, eqb, length, take, get_or}
use Rattle.pec.specs.Pec.{pec}
use Rattle.account.specs.Account.{account_of}

-- the device's address byte when the host writes, and when it reads (data sheet 2.1)
abbrev pub write_address : ℕ
write_address = 0xC0

abbrev pub read_address : ℕ
read_address = 0xC1

-- the header that every read has (data sheet 2.3)
abbrev pub read_header : ℕ → List ℕ
read_header code = write_address ∷ code ∷ read_address ∷ []

-- the bytes to clock for k data bytes, with or without the packet check (data sheet 2.7)
unfoldable pub clocked_for : ℕ → Bool → ℕ
clocked_for k check = k + cond check 1 0

-- the packet check of a reply with k data bytes to a read of the code, over the header and the data (data sheet 2.6)
unfoldable pub reply_check : ℕ → ℕ → List ℕ → ℕ
reply_check code k s = pec (read_header code ++ take k s)

-- the packet check behind the data is right, or none was asked for
unfoldable pub check_holds : ℕ → ℕ → Bool → List ℕ → Bool
check_holds code k check s = cond check (eqb (reply_check code k s) (get_or s k 0)) true

-- an account: the count byte is 06h, the accumulator has 15 bits
unfoldable pub account_answer : List ℕ → ℕ
account_answer s = cond (eqb (get_or s 0 0) 6) (cond (ltb (account_of s).accumulator 32768) 0 23) 22

-- the tests in order, 0 where the reply passes them
unfoldable pub reply_answer : ℕ → ℕ → Bool → Bool → List ℕ → ℕ
reply_answer code k check energy s =
    cond (eqb (length s) (clocked_for k check))
    (cond (check_holds code k check s) (cond energy (account_answer s) 0) 21)
    20

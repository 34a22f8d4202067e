-- The codes mean the lines of the table of causes: by computation at each line, and at each of the 256 codes.
-- Assumes nothing.
use Prim.Native.Nat.{ℕ, zero, suc, ◌<◌}
use mathlib.Core.Path.{◌≡◌, refl, subst}
use mathlib.Core.Bool.{Bool, true}
use native.Mathlib.Omega.{arith}
use lib.Dec.{T, ltb, eqb, ltb→lt, eqb→eq}
use Rattle.laws.proofs.Every.{both, both_left, both_right, each}
use Rattle.cause.specs.Causes.{causes, warnings, limit_of, response_of}
use Rattle.command.specs.declared.meaning.Command.{Command}
use Rattle.command.specs.declared.meaning.Command.TheVariants.{SelectPage, Operation, ClearFaults, WriteProtect, Capability, VoutMode, VoutCommand, Limit, Response, StatusByte, StatusWord, Status, ReadEin, Reading, Revision, Absent, Coefficients}
use Rattle.command.specs.Meaning.{command_of, setting_of, fault_of, reading_of}
use Rattle.command.specs.Causes.{LineMeant, CausesAgree}

lines : (n : ℕ) → n < 11 → LineMeant n
unfolding causes warnings command_of fault_of reading_of
lines zero h = record { limit = refl; status = refl; reading = refl }
lines (suc zero) h = record { limit = refl; status = refl; reading = refl }
lines (suc (suc zero)) h = record { limit = refl; status = refl; reading = refl }
lines (suc (suc (suc zero))) h = record { limit = refl; status = refl; reading = refl }
lines (suc (suc (suc (suc zero)))) h = record { limit = refl; status = refl; reading = refl }
lines (suc (suc (suc (suc (suc zero))))) h = record { limit = refl; status = refl; reading = refl }
lines (suc (suc (suc (suc (suc (suc zero)))))) h = record { limit = refl; status = refl; reading = refl }
lines (suc (suc (suc (suc (suc (suc (suc zero))))))) h = record { limit = refl; status = refl; reading = refl }
lines (suc (suc (suc (suc (suc (suc (suc (suc zero)))))))) h = record { limit = refl; status = refl; reading = refl }
lines (suc (suc (suc (suc (suc (suc (suc (suc (suc zero))))))))) h = record { limit = refl; status = refl; reading = refl }
lines (suc (suc (suc (suc (suc (suc (suc (suc (suc (suc zero)))))))))) h = record { limit = refl; status = refl; reading = refl }
lines (suc (suc (suc (suc (suc (suc (suc (suc (suc (suc (suc n))))))))))) h = absurd (omega arith)

responses-meant : (n : ℕ) → n < 6 → command_of (response_of n).response_code ≡ Response n
unfolding causes command_of fault_of
responses-meant zero h = refl
responses-meant (suc zero) h = refl
responses-meant (suc (suc zero)) h = refl
responses-meant (suc (suc (suc zero))) h = refl
responses-meant (suc (suc (suc (suc zero)))) h = refl
responses-meant (suc (suc (suc (suc (suc zero))))) h = refl
responses-meant (suc (suc (suc (suc (suc (suc n)))))) h = absurd (omega arith)

-- a command's number is a line's, and the code stands in that line
abbrev in_table : ℕ → Command → Bool
in_table c (Limit n) = both (ltb n 11) (eqb c (limit_of n).limit_code)
in_table c (Response n) = both (ltb n 6) (eqb c (response_of n).response_code)
in_table c SelectPage = true
in_table c Operation = true
in_table c ClearFaults = true
in_table c WriteProtect = true
in_table c Capability = true
in_table c VoutMode = true
in_table c VoutCommand = true
in_table c StatusByte = true
in_table c StatusWord = true
in_table c (Status j) = true
in_table c ReadEin = true
in_table c (Reading q) = true
in_table c Revision = true
in_table c Absent = true
in_table c Coefficients = true

codes : (c : ℕ) → c < 256 → T (in_table c (command_of c))
unfolding causes warnings command_of setting_of fault_of reading_of
codes c h = each (λ c. in_table c (command_of c)) 256 tt c h

in_line : (m n c code : ℕ) → T (both (ltb n m) (eqb c code)) → (n < m) × (c ≡ code)
in_line m n c code t = (ltb→lt n m (both_left (ltb n m) (eqb c code) t), eqb→eq c code (both_right (ltb n m) (eqb c code) t))

pub causes-agree : CausesAgree
unfolding CausesAgree
causes-agree = (
  lines,
  responses-meant,
  λ c h. record {
    limit = λ n e. in_line 11 n c (limit_of n).limit_code (subst (λ (k : Command). T (in_table c k)) e (codes c h));
    response = λ n e. in_line 6 n c (response_of n).response_code (subst (λ (k : Command). T (in_table c k)) e (codes c h));
  },
)

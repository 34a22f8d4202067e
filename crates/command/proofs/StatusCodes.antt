-- The codes 7Ah to 7Eh are the status registers that are written and read, and no other code is one.
-- Assumes nothing.
use Prim.Native.Nat.{ℕ, ◌-◌, ◌≤◌}
use mathlib.Core.Path.{◌≡◌, sym, ◌∙◌}
use mathlib.Core.Bool.{Bool, true, false, cond, ◌&&◌, and-eq-true_iff, false≢true}
use native.Mathlib.Omega.{arith}
use lib.Dec.{eqb, ltb, leb}
use borrow.Author.Tests.{eqb-false, ltb-true, ltb-false, leb-true, lt-ltb, le-ltb, le-leb, ne_eqb}
use Rattle.laws.proofs.Branches.{either}
use Rattle.command.specs.declared.meaning.Command.{Command}
use Rattle.command.specs.declared.meaning.Command.TheVariants.{StatusByte, StatusWord, Status, Absent}
use Rattle.command.specs.Meaning.{command_of, setting_of, fault_of, reading_of}

abbrev pub is_status : ℕ → Bool
is_status c = leb 0x7A c && leb c 0x7E

-- the command of a code that is none of them
unfoldable pub other_of : ℕ → Command
other_of c =
    cond (ltb c 0x31) (setting_of c)
    (cond (ltb c 0x40) Absent
    (cond (ltb c 0x5B) (fault_of c)
    (cond (ltb c 0x78) Absent
    (cond (eqb c 0x78) StatusByte
    (cond (eqb c 0x79) StatusWord
    (cond (ltb c 0x86) Absent
    (cond (ltb c 0x99) (reading_of c)
    Absent)))))))

module _ (c : ℕ) where
  pub status_bounds : is_status c ≡ true → (0x7A ≤ c) × (c ≤ 0x7E)
  status_bounds y =
      let b = (and-eq-true_iff (leb 0x7A c) (leb c 0x7E)).0 y in
      (leb-true 0x7A c b.0, leb-true c 0x7E b.1)

  pub status_command : is_status c ≡ true → command_of c ≡ Status (c - 0x7A)
  unfolding command_of
  status_command y =
      let b = status_bounds y in
      rw (
        le-ltb c 0x31 (omega arith),
        le-ltb c 0x40 (omega arith),
        le-ltb c 0x5B (omega arith),
        le-ltb c 0x78 (omega arith),
        ne_eqb c 0x78 (λ e. omega arith),
        ne_eqb c 0x79 (λ e. omega arith),
        lt-ltb c 0x7F (omega arith),
      )

  pub other_command : is_status c ≡ false → command_of c ≡ other_of c
  unfolding command_of other_of
  other_command n =
      either (ltb c 0x78) (λ e. rw e)
      (λ a. either (eqb c 0x78) (λ e. rw (a, e))
      (λ b. either (eqb c 0x79) (λ e. rw (a, b, e))
      (λ d. either (ltb c 0x7F)
      (λ l. let low = ltb-false c 0x78 a in
      let x = eqb-false c 0x78 b in
      let y = eqb-false c 0x79 d in
      let high = ltb-true c 0x7F l in
      absurd (false≢true (sym n ∙ rw (le-leb 0x7A c (omega arith), le-leb c 0x7E (omega arith)))))
      (λ l. rw (a, b, d, l)))))

-- What a refusal leaves, bit by bit of STATUS_CML.
-- Assumes nothing.
use Rattle.std.specs.Prelude.{ℕ, ◌<◌, ◌≡◌, Bool, not, ◌&&◌, ◌||◌, [], ◌∷◌}
use Rattle.laws.specs.Bits.{bit}
use Rattle.laws.specs.Lists.{any_of}
use Rattle.unpaged.specs.declared.Unpaged.{Unpaged}
use Rattle.unpaged.specs.Unpaged.{refused}
use Rattle.unpaged.specs.Applies.{is_in}

-- bit k of a byte is 0 in x and 1 in y
abbrev pub turns : ℕ → ℕ → ℕ → Bool
turns x y k = not (bit x k) && bit y k

-- some bit of a byte does
abbrev pub any_turns : ℕ → ℕ → Bool
any_turns x y = any_of (turns x y) (7 ∷ 6 ∷ 5 ∷ 4 ∷ 3 ∷ 2 ∷ 1 ∷ 0 ∷ [])

-- u becomes v by this answer (data sheet 6.9, 8.1, 11.6)
pub record Refusal (u : Unpaged) (answer : ℕ) (v : Unpaged) : Type 0 where
  -- unsupported command, protected
  pub bit7 : bit v.cml 7 ≡ (bit u.cml 7 || is_in answer (3 ∷ 8 ∷ []))
  -- too many data bytes, invalid data
  pub bit6 : bit v.cml 6 ≡ (bit u.cml 6 || is_in answer (6 ∷ 9 ∷ []))
  -- wrong PEC
  pub bit5 : bit v.cml 5 ≡ (bit u.cml 5 || is_in answer (7 ∷ []))
  pub bit4 : bit v.cml 4 ≡ bit u.cml 4
  pub bit3 : bit v.cml 3 ≡ bit u.cml 3
  pub bit2 : bit v.cml 2 ≡ bit u.cml 2
  -- too few data bytes, read too short or too long
  pub bit1 : bit v.cml 1 ≡ (bit u.cml 1 || is_in answer (5 ∷ 10 ∷ 11 ∷ []))
  pub bit0 : bit v.cml 0 ≡ bit u.cml 0
  -- the alert rises where that bit was 0, and never falls
  pub alert : v.alert ≡ (u.alert || any_turns u.cml v.cml)
  -- nothing else changes
  pub page : v.page ≡ u.page
  pub protect : v.protect ≡ u.protect
  pub energy : v.energy ≡ u.energy

unfoldable pub RefusalsLeave : Type 0
RefusalsLeave = (u : Unpaged) (answer : ℕ) → answer < 256 → Refusal u answer (refused u answer)

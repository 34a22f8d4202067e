-- What a write of each code clears and untrips, and that a response's number is below 6: what `command_of` and `write_of` say of every code.
-- Assumes nothing.
use Prim.Native.Nat.{ℕ, zero, suc, ◌+◌, ◌-◌, ◌%◌, ◌<◌, ◌≤◌}
use mathlib.Core.Path.{◌≡◌, refl, sym, ap, ◌∙◌}
use mathlib.Core.Bool.{Bool, true, false, ◌&&◌, ◌||◌, or-false, or-true, false≢true}
use mathlib.Core.List.{[], ◌∷◌}
use lib.Dec.{ltb, eqb}
use lib.ListN.{get_or}
use native.Mathlib.Omega.{arith}
use borrow.Author.Tests.{eqb-true, eqb-false, eq-eqb, ne_eqb, le-leb}
use Rattle.laws.specs.Bits.{bit}
use Rattle.laws.proofs.Branches.{either, cond_same, cond-apply}
use Rattle.laws.proofs.Bits.{cond-bit, zero_bit}
use Rattle.laws.proofs.Every.{agree}
use Rattle.cause.specs.Causes.{causes, warnings}
use Rattle.command.specs.declared.meaning.Command.{Command}
use Rattle.command.specs.declared.meaning.Command.TheVariants.{Status}
use Rattle.command.specs.Meaning.{command_of, setting_of, fault_of, reading_of}
use Rattle.command.proofs.StatusCodes.{is_status, other_of, status_bounds, status_command, other_command}
use Rattle.page.specs.Causes.{weigh}
use Rattle.writes.specs.declared.asked.Setting.{Setting}
use Rattle.writes.specs.declared.asked.Write.{Write}
use Rattle.writes.specs.Asked.{page_masks, clear_faults, register_masks, clear_status, write_of}
use Rattle.writes.specs.Left.{clearing}
use Rattle.history.specs.Clearing.{clears_page, clears_status_cml, reworks_alert}
use Rattle.history.specs.Tripping.{untripping}
use Rattle.history.specs.Retry.{resting}

-- of a write: the page bits that it clears, the bits of STATUS_CML,
abbrev pub cleared_bit : Write → ℕ → ℕ → Bool
cleared_bit Write.Nothing j k = false
cleared_bit (Write.SelectPage x) j k = false
cleared_bit (Write.Protect x) j k = false
cleared_bit (Write.Change s) j k = false
cleared_bit (Write.Clear m) j k = bit (get_or (page_masks m) j 0) k
cleared_bit (Write.ClearCml m) j k = false

abbrev pub cleared_cml : Write → ℕ → Bool
cleared_cml Write.Nothing k = false
cleared_cml (Write.SelectPage x) k = false
cleared_cml (Write.Protect x) k = false
cleared_cml (Write.Change s) k = false
cleared_cml (Write.Clear m) k = bit m.cml k
cleared_cml (Write.ClearCml m) k = bit m k

-- that it untrips,
abbrev pub switches_off : Setting → Bool
switches_off (Setting.Operation x) = eqb x 0x00 || eqb x 0x40
switches_off (Setting.VoutCommand w) = false
switches_off (Setting.Limit k w) = false
switches_off (Setting.Response k x) = false

abbrev pub untrips_by : Write → Bool
untrips_by Write.Nothing = false
untrips_by (Write.SelectPage x) = false
untrips_by (Write.Protect x) = false
untrips_by (Write.Change s) = switches_off s
untrips_by (Write.Clear m) = false
untrips_by (Write.ClearCml m) = false

-- the machines that it puts to rest,
abbrev pub rests_setting : Setting → ℕ → Bool
rests_setting (Setting.Operation x) k = eqb x 0x00 || eqb x 0x40
rests_setting (Setting.VoutCommand w) k = false
rests_setting (Setting.Limit m w) k = false
rests_setting (Setting.Response m x) k = eqb k (m % 6)

abbrev pub rests_by : Write → ℕ → Bool
rests_by Write.Nothing k = false
rests_by (Write.SelectPage x) k = false
rests_by (Write.Protect x) k = false
rests_by (Write.Change s) k = rests_setting s k
rests_by (Write.Clear m) k = false
rests_by (Write.ClearCml m) k = false

-- and that a response which it sets is one of six
abbrev pub small_setting : Setting → Bool
small_setting (Setting.Operation x) = true
small_setting (Setting.VoutCommand w) = true
small_setting (Setting.Limit k w) = true
small_setting (Setting.Response k x) = ltb k 6

abbrev pub small_response : Write → Bool
small_response Write.Nothing = true
small_response (Write.SelectPage x) = true
small_response (Write.Protect x) = true
small_response (Write.Change s) = small_setting s
small_response (Write.Clear m) = true
small_response (Write.ClearCml m) = true

-- the masks of CLEAR_FAULTS
every_register : (j : ℕ) → j < 4 → ◌≡◌ {A = ℕ} (get_or (255 ∷ 255 ∷ 255 ∷ 255 ∷ []) j 0) 255
every_register j h = agree (λ j. get_or (255 ∷ 255 ∷ 255 ∷ 255 ∷ []) j 0) (λ j. 255) 4 tt j h

-- the masks of a status register: the one with the place m alone
register-mask : (m x j : ℕ) → j < 4 → get_or (page_masks (register_masks m x)) j 0 ≡ weigh (eqb m j) x
unfolding register_masks
register-mask m x zero h = refl
register-mask m x (suc zero) h = refl
register-mask m x (suc (suc zero)) h = refl
register-mask m x (suc (suc (suc zero))) h = refl
register-mask m x (suc (suc (suc (suc j)))) h = absurd (omega arith)

weighed-bit : (b : Bool) (x k : ℕ) → bit (weigh b x) k ≡ (b && bit x k)
unfolding weigh
weighed-bit b x k = cond-bit b x k

-- a write to the status register at place m
module _ (m x : ℕ) where
  status_bit_lem : (j k : ℕ) → j < 4 → cleared_bit (clear_status m x) j k ≡ (eqb m j && bit x k)
  unfolding clear_status
  status_bit_lem j k h =
      either (eqb m 4)
      (λ y. let e = eqb-true m 4 y in rw (y, ne_eqb m j (λ z. omega arith)))
      (λ n. rw n (ap (λ (b : ℕ). bit b k) (register-mask m x j h) ∙ weighed-bit (eqb m j) x k))

  status_cml : (k : ℕ) → cleared_cml (clear_status m x) k ≡ (eqb m 4 && bit x k)
  unfolding clear_status register_masks
  status_cml k = either (eqb m 4) (λ y. rw y) (λ n. rw n (zero_bit k))

  status_kind : (clearing (clear_status m x) ≡ true) × (untrips_by (clear_status m x) ≡ false) × (small_response (clear_status m x) ≡ true)
  unfolding clear_status clearing
  status_kind = either (eqb m 4) (λ y. rw y (refl, refl, refl)) (λ n. rw n (refl, refl, refl))

  status_rests : (k : ℕ) → rests_by (clear_status m x) k ≡ false
  unfolding clear_status
  status_rests k = either (eqb m 4) (λ y. rw y) (λ n. rw n)

-- the place of a code from 7Ah on
place : (code j : ℕ) → 0x7A ≤ code → eqb (code - 0x7A) j ≡ eqb code (0x7A + j)
place code j h =
    either (eqb code (0x7A + j))
    (λ y. let e = eqb-true code (0x7A + j) y in eq-eqb (code - 0x7A) j (omega arith) ∙ sym y)
    (λ n. let e = eqb-false code (0x7A + j) n in ne_eqb (code - 0x7A) j (λ z. omega arith) ∙ sym n)

module _ (code x w : ℕ) where
  -- a fact of a code is one of the status registers 7Ah to 7Eh, or one of every other code
  by_register : (F : Command → Bool) (r : Bool) → (is_status code ≡ true → F (Status (code - 0x7A)) ≡ r) → (is_status code ≡ false → F (other_of code) ≡ r)
      → F (command_of code) ≡ r
  by_register F r f g =
      either (is_status code) (λ y. ap F (status_command code y) ∙ f y) (λ n. ap F (other_command code n) ∙ g n)

  pub cleared-code : (j k : ℕ) → j < 4 → cleared_bit (write_of (command_of code) x w) j k ≡ clears_page code x j k
  unfolding other_of setting_of fault_of reading_of write_of clear_faults clears_page
  cleared-code j k h =
      by_register (λ c. cleared_bit (write_of c x w) j k) (clears_page code x j k)
      (λ y. let b = status_bounds code y in
      status_bit_lem (code - 0x7A) x j k h ∙ rw (place code j b.0, ne_eqb code 0x03 (λ e. omega arith)))
      (λ n. either (eqb code 0x03)
      (λ e. let same = eqb-true code 0x03 e in
      rw (same, ne_eqb 0x03 (0x7A + j) (λ z. omega arith)) (ap (λ (m : ℕ). bit m k) (every_register j h) ∙ sym (or-false (bit 0xFF k))))
      (λ e. rw (e, ne_eqb code (0x7A + j) (not_status n j h)) (simp (cond-apply (λ c. cleared_bit (write_of c x w) j k), cond_same))))
    where
      not_status : is_status code ≡ false → (j : ℕ) → j < 4 → code ≡ 0x7A + j → ⊥
      not_status n j h e = false≢true (sym n ∙ rw (le-leb 0x7A code (omega arith), le-leb code 0x7E (omega arith)))

  pub cleared-cml_code : (k : ℕ) → cleared_cml (write_of (command_of code) x w) k ≡ clears_status_cml code x k
  unfolding other_of setting_of fault_of reading_of write_of clear_faults clears_status_cml
  cleared-cml_code k =
      by_register (λ c. cleared_cml (write_of c x w) k) (clears_status_cml code x k)
      (λ y. let b = status_bounds code y in
      status_cml (code - 0x7A) x k ∙ rw (place code 4 b.0, ne_eqb code 0x03 (λ e. omega arith)))
      (λ n. either (eqb code 0x03) (λ e. rw (eqb-true code 0x03 e) (sym (or-false (bit 0xFF k))))
      (λ e. rw (e, ne_eqb code 0x7E (λ z. false≢true (sym n ∙ rw z))) (simp (cond-apply (λ c. cleared_cml (write_of c x w) k), cond_same))))

  pub clearing-code : clearing (write_of (command_of code) x w) ≡ reworks_alert code
  unfolding other_of setting_of fault_of reading_of write_of clear_faults reworks_alert clearing
  clearing-code =
      by_register (λ c. clearing (write_of c x w)) (reworks_alert code) (λ y. (status_kind (code - 0x7A) x).0 ∙ rw (y, or-true (eqb code 0x03)))
      (λ n. either (eqb code 0x03) (λ e. rw (eqb-true code 0x03 e))
      (λ e. rw (e, n) (simp (cond-apply (λ c. clearing (write_of c x w)), cond_same))))

  pub untripping-code : untrips_by (write_of (command_of code) x w) ≡ untripping code x
  unfolding other_of setting_of fault_of reading_of write_of clear_faults
  untripping-code =
      by_register (λ c. untrips_by (write_of c x w)) (untripping code x)
      (λ y. let b = status_bounds code y in (status_kind (code - 0x7A) x).1 ∙ rw (ne_eqb code 0x01 (λ e. omega arith)))
      (λ n. either (eqb code 0x01) (λ e. rw (eqb-true code 0x01 e)) (λ e. simp (e, cond-apply (λ c. untrips_by (write_of c x w)), cond_same)))

  pub response-code : small_response (write_of (command_of code) x w) ≡ true
  unfolding other_of setting_of fault_of reading_of write_of clear_faults
  response-code =
      by_register (λ c. small_response (write_of c x w)) true (λ y. (status_kind (code - 0x7A) x).2) (λ n. simp (cond-apply (λ c. small_response (write_of c x w)), cond_same))

  -- which machines are put to rest: each by OPERATION, and by the code of its response
  module _ (k r : ℕ) (of : (code : ℕ) → resting k code x ≡ (untripping code x || eqb code r)) (low : 0x40 ≤ r) (high : r < 0x5B) where
    rests-by : (eqb code r ≡ true → is_status code ≡ false → rests_by (write_of (other_of code) x w) k ≡ true)
        → (eqb code 0x01 ≡ false → eqb code r ≡ false → is_status code ≡ false → rests_by (write_of (other_of code) x w) k ≡ false)
        → rests_by (write_of (command_of code) x w) k ≡ resting k code x
    unfolding other_of setting_of write_of
    rests-by own other =
        by_register (λ c. rests_by (write_of c x w) k) (resting k code x)
        (λ y. let b = status_bounds code y in
        status_rests (code - 0x7A) x k ∙ sym (of code ∙ rw (ne_eqb code 0x01 (λ e. omega arith), ne_eqb code r (λ e. omega arith))))
        (λ n. either (eqb code 0x01)
        (λ e. let same = eqb-true code 0x01 e in
        rw (of code, same, ne_eqb 0x01 r (λ z. omega arith)) (sym (or-false (eqb x 0x00 || eqb x 0x40))))
        (λ e. either (eqb code r) (λ y. own y n ∙ sym (of code ∙ rw (e, y))) (λ y. other e y n ∙ sym (of code ∙ rw (e, y)))))

  rests-at : (k r : ℕ) → Type 0
  rests-at k r = rests_by (write_of (command_of code) x w) k ≡ resting k code x

  rests-0 : rests-at 0 0x41
  unfolding rests-at resting causes warnings other_of setting_of fault_of reading_of write_of clear_faults
  rests-0 =
      rests-by 0 0x41 (λ c. refl) (omega arith) (omega arith) (λ y n. rw (eqb-true code 0x41 y))
      (λ a e n. simp (a, e, cond-apply (λ c. rests_by (write_of c x w) 0), cond_same))

  rests-1 : rests-at 1 0x47
  unfolding rests-at resting causes warnings other_of setting_of fault_of reading_of write_of clear_faults
  rests-1 =
      rests-by 1 0x47 (λ c. refl) (omega arith) (omega arith) (λ y n. rw (eqb-true code 0x47 y))
      (λ a e n. simp (a, e, cond-apply (λ c. rests_by (write_of c x w) 1), cond_same))

  rests-2 : rests-at 2 0x50
  unfolding rests-at resting causes warnings other_of setting_of fault_of reading_of write_of clear_faults
  rests-2 =
      rests-by 2 0x50 (λ c. refl) (omega arith) (omega arith) (λ y n. rw (eqb-true code 0x50 y))
      (λ a e n. simp (a, e, cond-apply (λ c. rests_by (write_of c x w) 2), cond_same))

  rests-3 : rests-at 3 0x54
  unfolding rests-at resting causes warnings other_of setting_of fault_of reading_of write_of clear_faults
  rests-3 =
      rests-by 3 0x54 (λ c. refl) (omega arith) (omega arith) (λ y n. rw (eqb-true code 0x54 y))
      (λ a e n. simp (a, e, cond-apply (λ c. rests_by (write_of c x w) 3), cond_same))

  rests-4 : rests-at 4 0x56
  unfolding rests-at resting causes warnings other_of setting_of fault_of reading_of write_of clear_faults
  rests-4 =
      rests-by 4 0x56 (λ c. refl) (omega arith) (omega arith) (λ y n. rw (eqb-true code 0x56 y))
      (λ a e n. simp (a, e, cond-apply (λ c. rests_by (write_of c x w) 4), cond_same))

  rests-5 : rests-at 5 0x5A
  unfolding rests-at resting causes warnings other_of setting_of fault_of reading_of write_of clear_faults
  rests-5 =
      rests-by 5 0x5A (λ c. refl) (omega arith) (omega arith) (λ y n. rw (eqb-true code 0x5A y))
      (λ a e n. simp (a, e, cond-apply (λ c. rests_by (write_of c x w) 5), cond_same))

  pub rests-code : (k : ℕ) → k < 6 → rests_by (write_of (command_of code) x w) k ≡ resting k code x
  unfolding rests-at
  rests-code zero h = rests-0
  rests-code (suc zero) h = rests-1
  rests-code (suc (suc zero)) h = rests-2
  rests-code (suc (suc (suc zero))) h = rests-3
  rests-code (suc (suc (suc (suc zero)))) h = rests-4
  rests-code (suc (suc (suc (suc (suc zero))))) h = rests-5
  rests-code (suc (suc (suc (suc (suc (suc k)))))) h = absurd (omega arith)

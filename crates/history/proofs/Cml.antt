-- The bits of STATUS_CML: each call's answer sets them, and a listed clearing clears them.
-- Assumes nothing.
use Prim.Native.Nat.{ℕ}
use mathlib.Core.Path.{◌≡◌, refl, sym, ap, ◌∙◌}
use mathlib.Core.Bool.{Bool, false, not, ◌&&◌, ◌||◌, and-true, or-false, false≢true}
use mathlib.Core.List.{List}
use lib.ListN.{get_or}
use Rattle.laws.specs.Bits.{bit}
use Rattle.laws.proofs.Bits.{or_bit, zero_bit, without-bit}
use Rattle.laws.proofs.Branches.{either}
use Rattle.unpaged.specs.declared.Unpaged.{Unpaged}
use Rattle.unpaged.specs.Unpaged.{cml_bits, refused}
use Rattle.writes.specs.declared.asked.Write.{Write}
use Rattle.writes.specs.Asked.{word_of, asked}
use Rattle.writes.specs.Left.{unpaged_left}
use Rattle.writes.specs.Accepted.{code_of}
use Rattle.device.specs.declared.Device.{Device}
use Rattle.device.specs.Device.{alert_risen}
use Rattle.device.specs.Step.{Call, write, read, measure, sample, alert_response, tick, effect, refused_device, measured, ticked_device}
use Rattle.history.specs.Run.{next, answer, cml_bit}
use Rattle.history.specs.Clearing.{accepted_write, clears_status_cml, clears_cml, FallsCml}
use Rattle.history.specs.Latching.{LatchesCml}
use Rattle.history.proofs.Codes.{cleared_cml, cleared-cml_code}
use Rattle.history.proofs.Outcomes.{done_next, refused-next, by_answer, write_next, written-cml}
use Rattle.history.proofs.PageAfter.{refused-tests, accepted-test}

-- an accepted write clears just the bits of its mask
write_bit : (w : Write) (u : Unpaged) (k : ℕ) → bit (unpaged_left w u).cml k ≡ (bit u.cml k && not (cleared_cml w k))
unfolding unpaged_left
write_bit Write.Nothing u k = sym (and-true (bit u.cml k))
write_bit (Write.SelectPage x) u k = sym (and-true (bit u.cml k))
write_bit (Write.Protect x) u k = sym (and-true (bit u.cml k))
write_bit (Write.Change s) u k = sym (and-true (bit u.cml k))
write_bit (Write.Clear m) u k = without-bit u.cml m.cml k
write_bit (Write.ClearCml m) u k = without-bit u.cml m k

no_bits : (k : ℕ) → bit (cml_bits 0) k ≡ false
unfolding cml_bits
no_bits k = zero_bit k

module _ (d : Device) (k : ℕ) where
  abbrev Claim : Call → Type 0
  Claim c = cml_bit (next d c) k ≡ (cml_bit d k && not (clears_cml d c k) || bit (cml_bits (answer d c)) k)

  -- with answer 0 no bit is set
  spares : (c : Call) → answer d c ≡ 0 → cml_bit (next d c) k ≡ (cml_bit d k && not (clears_cml d c k)) → Claim c
  spares c z e = e ∙ rw (z, no_bits k) (sym (or-false (cml_bit d k && not (clears_cml d c k))))

  -- and none falls where STATUS_CML stays
  keeps : (c : Call) → answer d c ≡ 0 → (effect d c).unpaged.cml ≡ d.unpaged.cml → ((test : ℕ → ℕ → Bool) → accepted_write d c test ≡ false) → Claim c
  unfolding clears_cml
  keeps c z e h =
      spares c z
      (ap (λ (x : Device). cml_bit x k) (done_next d c z)
      ∙ rw (e, h (λ code x. clears_status_cml code x k)) (sym (and-true (cml_bit d k))))

  written-bit : (s : List ℕ) → answer d (write s) ≡ 0 → Claim (write s)
  unfolding clears_cml asked
  written-bit s z =
      let w = asked s in
      let code = code_of s in
      let x = get_or s 2 0 in
      spares (write s) z
      (ap (λ (e : Device). cml_bit e k) (write_next d s z) ∙ ap (λ (m : ℕ). bit m k) (written-cml d w) ∙ write_bit w d.unpaged k
      ∙ ap (λ (b : Bool). cml_bit d k && not b)
      (cleared-cml_code code x (word_of x (get_or s 3 0)) k ∙ sym (accepted-test d s (λ code x. clears_status_cml code x k) z)))

  answered-bit : (c : Call) → answer d c ≡ 0 → Claim c
  unfolding accepted_write effect measured alert_risen ticked_device
  answered-bit (write s) z = written-bit s z
  answered-bit (read header n) z = keeps (read header n) z refl (λ t. refl)
  answered-bit (measure page quantity word) z = keeps (measure page quantity word) z refl (λ t. refl)
  answered-bit (sample n) z = keeps (sample n) z refl (λ t. refl)
  answered-bit (alert_response n) z = keeps (alert_response n) z refl (λ t. refl)
  answered-bit tick z = keeps tick z refl (λ t. refl)

  refused-bit : (c : Call) → (answer d c ≡ 0 → ⊥) → Claim c
  unfolding refused_device refused clears_cml
  refused-bit c h =
      ap (λ (e : Device). cml_bit e k) (refused-next d c h)
      ∙ or_bit d.unpaged.cml (cml_bits (answer d c)) k
      ∙ rw (refused-tests d c h (λ code x. clears_status_cml code x k)) (ap (λ (b : Bool). b || bit (cml_bits (answer d c)) k) (sym (and-true (cml_bit d k))))

pub latches-cml : LatchesCml
unfolding LatchesCml
latches-cml d c k = by_answer d c (answered-bit d k c) (refused-bit d k c)

pub falls-cml : FallsCml
unfolding FallsCml LatchesCml
falls-cml d c k b f =
    either (clears_cml d c k) (λ y. y) (λ n. absurd (false≢true (sym f ∙ latches-cml d c k ∙ rw (b, n))))

-- What a write of each code leaves of a page's settings, and a measurement of its words; and that the lists of a page keep their lengths.
-- Assumes nothing.
use Prim.Native.Nat.{ℕ, ◌<◌, ◌%◌}
use mathlib.Core.Path.{◌≡◌, refl, sym, ap, ◌∙◌}
use mathlib.Core.Bool.{true, false, cond, beq}
use mathlib.Core.List.{List}
use native.Mathlib.Omega.{arith}
use lib.Dec.{eqb}
use lib.ListN.{get_or, length-set}
use lib.Seq.{get_or-set_same, get_or-set_other}
use borrow.Author.Tests.{eqb-true, eqb-false}
use Rattle.laws.proofs.Branches.{either, cond_same, cond-apply}
use Rattle.laws.proofs.Every.{below, each, agree-test}
use Rattle.cause.specs.Causes.{causes, warnings, limit_of, response_of}
use Rattle.command.specs.declared.meaning.Command.TheVariants.{Limit, Response}
use Rattle.command.specs.Meaning.{command_of, setting_of, fault_of, reading_of}
use Rattle.command.specs.Causes.{CausesAgree}
use Rattle.command.proofs.Causes.{causes-agree}
use Rattle.page.specs.declared.Page.{Page}
use Rattle.page.specs.Causes.{moved, settled, ticked}
use Rattle.page.specs.Settings.{set_measurement, set_operation, set_vout_command, set_limit, set_response, clear_bits}
use Rattle.page.specs.Status.{reading}
use Rattle.page.proofs.Chosen.{Sized}
use Rattle.writes.specs.declared.asked.Setting.{Setting}
use Rattle.writes.specs.declared.asked.Write.{Write}
use Rattle.writes.specs.Asked.{clear_faults, write_of, clear_status}
use Rattle.writes.specs.Left.{applied, changed, cleared, page_left}

-- ---- lengths

module _ (p : Page) (z : Sized p) where
  applied-sized : (s : Setting) → Sized (applied s p)
  unfolding applied set_operation set_vout_command set_limit set_response
  applied-sized (Setting.Operation x) = record { limits = z.limits; responses = z.responses; words = z.words; measured = z.measured }
  applied-sized (Setting.VoutCommand w) = record { limits = z.limits; responses = z.responses; words = z.words; measured = z.measured }
  applied-sized (Setting.Limit k w) = record {
    limits = length-set p.limits (k % 11) w ∙ z.limits;
    responses = z.responses;
    words = z.words;
    measured = z.measured;
  }
  applied-sized (Setting.Response k x) = record {
    limits = z.limits;
    responses = length-set p.responses (k % 6) x ∙ z.responses;
    words = z.words;
    measured = z.measured;
  }

  pub settled-sized : Sized (settled p)
  unfolding settled moved
  settled-sized = record { limits = z.limits; responses = z.responses; words = z.words; measured = z.measured }

  cleared-sized : (ms : List ℕ) → Sized (settled (clear_bits p ms))
  unfolding settled moved clear_bits
  cleared-sized ms = record { limits = z.limits; responses = z.responses; words = z.words; measured = z.measured }

  pub measured-sized : (q w : ℕ) → Sized (settled (set_measurement p q w))
  unfolding settled moved set_measurement
  measured-sized q w = record {
    limits = z.limits;
    responses = z.responses;
    words = length-set p.words (q % 4) w ∙ z.words;
    measured = length-set p.measured (q % 4) true ∙ z.measured;
  }

pub ticked-sized : (p : Page) → Sized p → Sized (ticked p)
unfolding ticked moved
ticked-sized p z = record { limits = z.limits; responses = z.responses; words = z.words; measured = z.measured }

pub left-sized : (p : Page) → Sized p → (w : Write) → Sized (page_left w p)
unfolding page_left changed cleared
left-sized p z Write.Nothing = z
left-sized p z (Write.SelectPage x) = z
left-sized p z (Write.Protect x) = z
left-sized p z (Write.Change s) = settled-sized (applied s p) (applied-sized p z s)
left-sized p z (Write.Clear m) = cleared-sized p z _
left-sized p z (Write.ClearCml m) = z

-- ---- settings, by the written code

-- Of a write: the limit that it sets, and its word; the response, and its byte. There are eleven limits and six responses, so 11 and 6 are none.
abbrev limit_number : Write → ℕ
limit_number Write.Nothing = 11
limit_number (Write.SelectPage x) = 11
limit_number (Write.Protect x) = 11
limit_number (Write.Change (Setting.Operation x)) = 11
limit_number (Write.Change (Setting.VoutCommand w)) = 11
limit_number (Write.Change (Setting.Limit k w)) = k % 11
limit_number (Write.Change (Setting.Response k x)) = 11
limit_number (Write.Clear m) = 11
limit_number (Write.ClearCml m) = 11

abbrev response_number : Write → ℕ
response_number Write.Nothing = 6
response_number (Write.SelectPage x) = 6
response_number (Write.Protect x) = 6
response_number (Write.Change (Setting.Operation x)) = 6
response_number (Write.Change (Setting.VoutCommand w)) = 6
response_number (Write.Change (Setting.Limit k w)) = 6
response_number (Write.Change (Setting.Response k x)) = k % 6
response_number (Write.Clear m) = 6
response_number (Write.ClearCml m) = 6

module _ (p : Page) (z : Sized p) (k : ℕ) (small : k < 11) where
  -- a write that sets no other limit than k leaves it
  other_limit : (w : Write) → eqb (limit_number w) k ≡ false → get_or (page_left w p).limits k 0 ≡ get_or p.limits k 0
  unfolding page_left changed cleared settled moved clear_bits applied set_operation set_vout_command set_limit set_response
  other_limit Write.Nothing n = refl
  other_limit (Write.SelectPage x) n = refl
  other_limit (Write.Protect x) n = refl
  other_limit (Write.Change (Setting.Operation x)) n = refl
  other_limit (Write.Change (Setting.VoutCommand w)) n = refl
  other_limit (Write.Change (Setting.Limit j w)) n =
      let other = eqb-false (j % 11) k n in get_or-set_other p.limits (j % 11) k w 0 (λ e. other (sym e))
  other_limit (Write.Change (Setting.Response j x)) n = refl
  other_limit (Write.Clear m) n = refl
  other_limit (Write.ClearCml m) n = refl

  -- limit k, set
  own_limit : (w : ℕ) → get_or (page_left (Write.Change (Setting.Limit k w)) p).limits k 0 ≡ w
  unfolding page_left changed settled moved applied set_limit
  own_limit w =
      let same : k % 11 ≡ k = omega arith in
      let long = z.limits in
      rw same (get_or-set_same p.limits k w 0 (omega arith))

module _ (p : Page) (z : Sized p) (k : ℕ) (small : k < 6) where
  -- so with responses
  other_response : (w : Write) → eqb (response_number w) k ≡ false → get_or (page_left w p).responses k 0 ≡ get_or p.responses k 0
  unfolding page_left changed cleared settled moved clear_bits applied set_operation set_vout_command set_limit set_response
  other_response Write.Nothing n = refl
  other_response (Write.SelectPage x) n = refl
  other_response (Write.Protect x) n = refl
  other_response (Write.Change (Setting.Operation x)) n = refl
  other_response (Write.Change (Setting.VoutCommand w)) n = refl
  other_response (Write.Change (Setting.Limit j w)) n = refl
  other_response (Write.Change (Setting.Response j x)) n =
      let other = eqb-false (j % 6) k n in get_or-set_other p.responses (j % 6) k x 0 (λ e. other (sym e))
  other_response (Write.Clear m) n = refl
  other_response (Write.ClearCml m) n = refl

  own_response : (x : ℕ) → get_or (page_left (Write.Change (Setting.Response k x)) p).responses k 0 ≡ x
  unfolding page_left changed settled moved applied set_response
  own_response x =
      let same : k % 6 ≡ k = omega arith in
      let long = z.responses in
      rw same (get_or-set_same p.responses k x 0 (omega arith))

-- by computation at each code
limit-number : (x w k c : ℕ) → k < 11 → c < 256 → eqb (limit_number (write_of (command_of c) x w)) k ≡ eqb c (limit_of k).limit_code
unfolding command_of setting_of fault_of reading_of write_of clear_faults clear_status causes warnings
limit-number x w k c hk hc =
    agree-test (λ c. eqb (limit_number (write_of (command_of c) x w)) k) (λ c. eqb c (limit_of k).limit_code) 256
    (each (λ k. below (λ c. beq (eqb (limit_number (write_of (command_of c) x w)) k) (eqb c (limit_of k).limit_code)) 256) 11 tt k hk) c hc

response-number : (x w k c : ℕ) → k < 6 → c < 256 → eqb (response_number (write_of (command_of c) x w)) k ≡ eqb c (response_of k).response_code
unfolding command_of setting_of fault_of reading_of write_of clear_faults clear_status causes warnings
response-number x w k c hk hc =
    agree-test (λ c. eqb (response_number (write_of (command_of c) x w)) k) (λ c. eqb c (response_of k).response_code) 256
    (each (λ k. below (λ c. beq (eqb (response_number (write_of (command_of c) x w)) k) (eqb c (response_of k).response_code)) 256) 6 tt k hk) c hc

-- a write to a status register leaves the settings alone
module _ (p : Page) (m x : ℕ) where
  status_operation : (page_left (clear_status m x) p).operation ≡ p.operation
  unfolding page_left cleared settled moved clear_bits clear_status
  status_operation = either (eqb m 4) (λ y. rw y) (λ n. rw n)

  status_command : (page_left (clear_status m x) p).command ≡ p.command
  unfolding page_left cleared settled moved clear_bits clear_status
  status_command = either (eqb m 4) (λ y. rw y) (λ n. rw n)

module _ (code x w : ℕ) where
  abbrev after : Page → Page
  after p = page_left (write_of (command_of code) x w) p

  pub operation_code : (p : Page) → (after p).operation ≡ cond (eqb code 0x01) x p.operation
  unfolding command_of setting_of fault_of reading_of write_of clear_faults page_left changed cleared settled moved clear_bits applied set_operation set_vout_command set_limit set_response
  operation_code p =
      either (eqb code 0x01) (λ y. rw (eqb-true code 0x01 y)) (λ n. simp (n, cond-apply (λ c. (page_left (write_of c x w) p).operation), status_operation p, cond_same))

  pub command_code : (p : Page) → (after p).command ≡ cond (eqb code 0x21) w p.command
  unfolding command_of setting_of fault_of reading_of write_of clear_faults page_left changed cleared settled moved clear_bits applied set_operation set_vout_command set_limit set_response
  command_code p =
      either (eqb code 0x21) (λ y. rw (eqb-true code 0x21 y)) (λ n. simp (n, cond-apply (λ c. (page_left (write_of c x w) p).command), status_command p, cond_same))

  pub limit-code : (p : Page) → Sized p → (k : ℕ) → k < 11 → code < 256
      → get_or (after p).limits k 0 ≡ cond (eqb code (limit_of k).limit_code) w (get_or p.limits k 0)
  unfolding write_of CausesAgree
  limit-code p z k h byte =
      either (eqb code (limit_of k).limit_code)
      (λ y. let same = eqb-true code (limit_of k).limit_code y in
      let means : command_of code ≡ Limit k = ap command_of same ∙ (causes-agree.0 k h).limit in
      rw (y, means) (own_limit p z k h w))
      (λ n. rw n (other_limit p z k h (write_of (command_of code) x w) (limit-number x w k code h byte ∙ n)))

  pub response-code : (p : Page) → Sized p → (k : ℕ) → k < 6 → code < 256
      → get_or (after p).responses k 0 ≡ cond (eqb code (response_of k).response_code) x (get_or p.responses k 0)
  unfolding write_of CausesAgree
  response-code p z k h byte =
      either (eqb code (response_of k).response_code)
      (λ y. let same = eqb-true code (response_of k).response_code y in
      let means : command_of code ≡ Response k = ap command_of same ∙ causes-agree.1 k h in
      rw (y, means) (own_response p z k h x))
      (λ n. rw n (other_response p z k h (write_of (command_of code) x w) (response-number x w k code h byte ∙ n)))

-- ---- the latest word of a quantity after a measurement

pub measured-reading : (p : Page) → Sized p → (quantity word q : ℕ) → quantity < 4 → q < 4
    → reading (settled (set_measurement p quantity word)) q ≡ cond (eqb quantity q) word (reading p q)
unfolding settled moved set_measurement reading
measured-reading p z quantity word q small few =
    either (eqb quantity q)
    (λ y. let same = eqb-true quantity q y in
    let a = z.measured in
    let b = z.words in
    let e : quantity % 4 ≡ q % 4 = omega arith in
    rw (y, e, get_or-set_same p.measured (q % 4) true false (omega arith), get_or-set_same p.words (q % 4) word 0 (omega arith)))
    (λ n. let other = eqb-false quantity q n in
    rw (
      n,
      get_or-set_other p.measured (quantity % 4) (q % 4) true false (λ e. other (omega arith)),
      get_or-set_other p.words (quantity % 4) (q % 4) word 0 (λ e. other (omega arith)),
    ))

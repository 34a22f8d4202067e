-- A buffer that passed the test for answer 15, and one that did not.
-- Assumes nothing.
use Prim.Native.Nat.{ℕ}
use mathlib.Core.Path.{◌≡◌, sym, ap, ap₂, ◌∙◌}
use mathlib.Core.Bool.{Bool, true, false, cond, and-eq-true_iff}
use mathlib.Core.List.{List, []}
use lib.ListN.{length, get_or}
use lib.Dec.{eqb}
use borrow.Author.Tests.{eqb-true}
use Rattle.bus.specs.Part.{part_valid}
use Rattle.bus.specs.Automaton.{Event}
use Rattle.reads.specs.Reply.{reply_of}
use Rattle.page.specs.declared.Page.{Page}
use Rattle.page.specs.Page.{power_on_page}
use Rattle.unpaged.specs.declared.Unpaged.{Unpaged}
use Rattle.unpaged.specs.Unpaged.{shown}
use Rattle.device.specs.Device.{device_valid, page_shown}
use Rattle.device.specs.Step.{Call, clocked, step}
use Rattle.device.proofs.States.{valid_parts}
use Rattle.device.proofs.Calls.{shown-of_any}
use Rattle.records.specs.Records.{counted, surveyed}
use Rattle.stream.specs.Stream.{state_valid, eight_valid}
use Rattle.layout.specs.Layout.{unpaged_form, pages_in, size, unpaged_at}
use Rattle.layout.specs.State.{decode, ready, part_of, device_of}
use Rattle.layout.proofs.Decoded.{unpaged-of, pages_of}
use Rattle.std.proofs.Common.{Option, None, Some, MatchOption, MutBor, ◌≢◌}
use Rattle.std.specs.Array.{IsWholeChunk}
use Rattle.std.specs.Int.{from_bool}
use Rattle.buffer.specs.Buffer.{store_device, stores, call_fed, call_sends, taken_of, event_fed, gives, refuses, event_gives, call_gives}
use Rattle.buffer.specs.Private.{Held}

module _ (s : List ℕ) where
  -- the page that a read looks at, taken out by its number i
  pub shown-taken : Held s → (u : Unpaged) → u ≡ unpaged_form.get s unpaged_at → (i : ℕ) → i ≡ shown u → (p : Page) → p ≡ get_or (pages_in s) i power_on_page
      → p ≡ page_shown (device_of s)
  shown-taken h u eu i ei p ep =
      ep ∙ ap₂ (λ (l : List Page) (j : ℕ). get_or l j power_on_page) (sym (pages_of s)) (ei ∙ ap shown (eu ∙ sym (unpaged-of s)))
      ∙ shown-of_any (device_of s) power_on_page h.valid

  pub held : ready s ≡ true → Held s
  unfolding ready state_valid
  held h =
      let both = (and-eq-true_iff (eqb (length s) size) (state_valid (decode s))).0 h in
      record {
        long = eqb-true (length s) size both.0;
        valid = ((and-eq-true_iff (part_valid (part_of s)) (device_valid (device_of s))).0 both.1).1;
      }

  -- the rules of lent records are told of eight valid pages
  pub all_seen : Held s → eight_valid ≡ surveyed (pages_in s)
  unfolding counted
  all_seen h = rw (rw (pages_of s) at (valid_parts (device_of s) h.valid).pages)

-- ---- a buffer that is not ready, and one that is

module _ (s : List ℕ) (n : ready s ≡ false) where
  pub event_refused : (e : Event) → (refuses e ≡ event_gives s e) × (s ≡ event_fed s e)
  unfolding event_gives event_fed
  event_refused e = (rw n, rw n)

  pub call_refused : (c : Call) → (15 ≡ call_gives s c) × (s ≡ call_fed s c)
  unfolding call_gives call_fed
  call_refused c = (rw n, rw n)

  pub none-sent : (c : Call) (r : List ℕ) → r ≡ reply_of [] (clocked c) → r ≡ call_sends s c
  unfolding call_sends
  none-sent c r e = rw n e

-- the buffer t that is ready
module _ (s t : List ℕ) (h : (ready s ≡ true) × (t ≡ s)) where
  pub was_ready : ready t ≡ true
  was_ready = ap ready h.1 ∙ h.0

  pub was_held : Held t
  was_held = held t was_ready

  pub event_taken : (e : Event) (x : ℕ) (n : List ℕ) → x ≡ gives t e → n ≡ taken_of t e → (x ≡ event_gives s e) × (n ≡ event_fed s e)
  unfolding event_gives event_fed
  event_taken e x n a b = (rw h.0 (a ∙ ap (λ (u : List ℕ). gives u e) h.1), rw h.0 (b ∙ ap (λ (u : List ℕ). taken_of u e) h.1))

  pub call_taken : (c : Call) (x : ℕ) (n : List ℕ) → x ≡ (step (device_of t) c).done.answer
      → n ≡ store_device (stores (device_of t) c) t (step (device_of t) c).done.device → (x ≡ call_gives s c) × (n ≡ call_fed s c)
  unfolding call_gives call_fed
  call_taken c x n a b = (
    rw h.0 (a ∙ ap (λ (u : List ℕ). (step (device_of u) c).done.answer) h.1),
    rw h.0 (b ∙ ap (λ (u : List ℕ). store_device (stores (device_of u) c) u (step (device_of u) c).done.device) h.1),
  )

  pub call_sent : (c : Call) (r : List ℕ) → r ≡ (step (device_of t) c).reply → r ≡ call_sends s c
  unfolding call_sends
  call_sent c r e = rw h.0 (e ∙ ap (λ (u : List ℕ). (step (device_of u) c).reply) h.1)

-- the array that a buffer is, where it passed the test
pub ready_cases : (s : List ℕ) → ready s ≡ true → (r : Option (MutBor (List ℕ))) → MatchOption r (length s ≢ size) (λ y. IsWholeChunk s y.now size)
    → MatchOption r (ready s ≡ false) (λ t. (ready s ≡ true) × (t.now ≡ s))
ready_cases s h None n = absurd (n (held s h).long)
ready_cases s h (Some t) w = (h, w.same)

-- the byte of a mark
pub byte_is : (b : Bool) (x : ℕ) → x ≡ from_bool b → x ≡ cond b 1 0
byte_is true x e = e
byte_is false x e = e

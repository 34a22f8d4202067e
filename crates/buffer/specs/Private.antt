-- What the private functions behind the test for 15 ask of a buffer, and promise. No promise of a public function speaks of it.
-- Assumes nothing.
use Rattle.std.specs.Prelude.{ℕ, ◌≤◌, ◌≡◌, Bool, true, ◌&&◌, Option, Some, None, List, length, get_or, eqb, map}
use Rattle.laws.specs.Lists.{all_of}
use Rattle.page.specs.Choice.{page_granted}
use Rattle.reads.specs.Reply.{reply_of}
use Rattle.writes.specs.declared.asked.Write.{Write}
use Rattle.writes.specs.Left.{page_left}
use Rattle.device.specs.declared.Device.{Device}
use Rattle.device.specs.Device.{device, device_valid}
use Rattle.device.specs.Step.{Call, clocked, done, step}
use Rattle.lent.specs.declared.turns.Sending.{Sending}
use Rattle.layout.specs.Form.{octet, store_all}
use Rattle.unpaged.specs.Unpaged.{power_on_unpaged}
use Rattle.bus.specs.Part.{idle}
use Rattle.layout.specs.Layout.{part_form, unpaged_form, page_form, pages_in, pages_from, size, unpaged_at, choices_size, choices_in}
use Rattle.layout.specs.State.{device_of}

-- the right length, and a valid device
pub record Held (s : List ℕ) : Type 0 where
  pub long : length s ≡ size
  pub valid : device_valid (device_of s) ≡ true

-- a device of which the unpaged part alone is stored
abbrev pub store_unpaged : List ℕ → Device → List ℕ
store_unpaged s d = unpaged_form.store s unpaged_at d.unpaged

-- no transaction, and the unpaged part as power-on leaves it
abbrev pub fresh : List ℕ → List ℕ
fresh s = unpaged_form.store (part_form.store s 0 idle) unpaged_at power_on_unpaged

-- every page changed by a write, where there is one
abbrev pub every_stored : List ℕ → Option Write → List ℕ
every_stored s None = s
every_stored s (Some w) = store_all page_form s pages_from (map (page_left w) (pages_in s))

-- what a call that changes no page leaves and sends
pub record Answers (s : List ℕ) (c : Call) (t : Sending) : Type 0 where
  pub left : done (device t.outcome.unpaged (device_of s).pages) t.outcome.answer ≡ (step (device_of s) c).done
  pub sends : reply_of t.stream (clocked c) ≡ (step (device_of s) c).reply

-- the same, and at most eleven bytes kept
pub record Keeping (s : List ℕ) : Type 0 where
  pub holds : Held s
  pub few : get_or s 1 0 ≤ 11

-- the reply
abbrev pub store_reply : List ℕ → List ℕ → List ℕ
store_reply s r = store_all octet s 14 r

-- choices as bytes that power-on grants: as long as eight have to be, and each of them granted
unfoldable pub choices_granted : List ℕ → Bool
choices_granted cs = eqb (length cs) choices_size && all_of page_granted (choices_in cs)

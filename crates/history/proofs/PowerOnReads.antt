-- What is read right after power-on: by computation at each row.
-- Assumes nothing.
use Prim.Native.Nat.{ℕ, zero, suc, ◌<◌}
use mathlib.Core.Path.{◌≡◌, refl, sym, ap, ap₂, ◌∙◌}
use mathlib.Core.Bool.{true, false, ◌&&◌, and-eq-true_iff}
use mathlib.Core.List.{List, [], ◌∷◌, map}
use native.Mathlib.Omega.{arith}
use lib.Dec.{ltb, ltb→lt}
use lib.ListN.{length, get_or, replicate, get_or-map}
use borrow.Author.Tests.{ltb-true}
use Rattle.laws.proofs.Every.{each, agree-test}
use Rattle.account.specs.Account.{ein_bytes}
use Rattle.cause.specs.Causes.{causes, warnings}
use Rattle.command.specs.Table.{table, entry_of, lookup}
use Rattle.command.specs.Meaning.{command_of, setting_of, fault_of, reading_of}
use Rattle.command.specs.Paged.{paged}
use Rattle.page.specs.declared.Page.{Page}
use Rattle.page.specs.Page.{power_on_page, no_page}
use Rattle.page.specs.Causes.{weigh}
use Rattle.page.specs.Status.{supplies, status_byte, status_high, reading}
use Rattle.unpaged.specs.declared.Unpaged.{Unpaged}
use Rattle.unpaged.specs.Unpaged.{power_on_unpaged, every_page, shown}
use Rattle.unpaged.specs.Applies.{is_in}
use Rattle.unpaged.specs.Events.{alert_answer}
use Rattle.reads.specs.Data.{status_register, read_data}
use Rattle.reads.specs.Reply.{alert_stream}
use Rattle.device.specs.declared.Device.{Device}
use Rattle.device.specs.Device.{usual, supported, power_on, device_valid, page_shown}
use Rattle.device.specs.Step.{alert_response, answer_of, sent, step}
use Rattle.device.proofs.States.{answered-of}
use Rattle.device.proofs.PowerOn.{usual-granted, usual-device, powered, powered-valid}
use Rattle.history.specs.Run.{answer}
use Rattle.history.specs.ReadBack.{Reads}
use Rattle.history.specs.PowerOnReads.{at_power_on, row_at, PowerOnReads}
use Rattle.history.proofs.ReadBack.{reads_data}

-- ---- the rows

abbrev read_of : ℕ × List ℕ → List ℕ
read_of r = read_data power_on_unpaged power_on_page (command_of r.0)

every_row : map read_of at_power_on ≡ map (λ r. r.1) at_power_on
unfolding
    read_data status_register reading status_byte status_high supplies weigh ein_bytes command_of setting_of fault_of reading_of power_on_page power_on_unpaged
    causes warnings
every_row = refl

row_read : (m : ℕ) → read_of (row_at m) ≡ (row_at m).1
unfolding read_data command_of setting_of power_on_unpaged
row_read m =
    sym (get_or-map read_of at_power_on m (0x00, 0x00 ∷ []))
    ∙ ap (λ (l : List (List ℕ)). get_or l m (0x00 ∷ [])) every_row
    ∙ get_or-map (λ (r : ℕ × List ℕ). r.1) at_power_on m (0x00, 0x00 ∷ [])

module _ (m : ℕ) (h : m < length at_power_on) where
  row_small : (row_at m).0 < 256
  row_small = ltb→lt (row_at m).0 256 (each (λ m. ltb (row_at m).0 256) 36 tt m h)

  row-readable : (lookup (row_at m).0).read ≡ true
  unfolding lookup entry_of table
  row-readable = agree-test (λ m. (lookup (row_at m).0).read) (λ m. true) 36 tt m h

-- ---- the device

first_page : (n : ℕ) → 0 < n → get_or (replicate n power_on_page) 0 no_page ≡ power_on_page
first_page zero h = absurd (omega arith)
first_page (suc n) h = refl

module _ (n : ℕ) (ok : supported n ≡ true) where
  abbrev d : Device
  d = power_on (usual n)

  valid : device_valid d ≡ true
  valid = powered-valid (usual n) (usual-granted n ∙ ok)

  some : 0 < n
  unfolding supported
  some = ltb-true 0 n ((and-eq-true_iff (ltb 0 n) (ltb n 97)).0 ok).0

  the_unpaged : d.unpaged ≡ power_on_unpaged
  the_unpaged = ap (λ (e : Device). e.unpaged) (usual-device n)

  the_page : page_shown d ≡ power_on_page
  unfolding shown power_on_unpaged
  the_page = ap (λ (e : Device). page_shown e) (usual-device n) ∙ first_page n some

  one_page : (code : ℕ) → (every_page d.unpaged && paged code) ≡ false
  one_page code = rw (powered (usual n)).selected

  row_reads : (m : ℕ) → m < length at_power_on → Reads d (row_at m).0 (row_at m).1
  row_reads m h =
      reads_data d valid (row_at m).0 (row_small m h) (row-readable m h) (one_page (row_at m).0) (row_at m).1
      (ap₂ (λ (u : Unpaged) (p : Page). read_data u p (command_of (row_at m).0)) the_unpaged the_page ∙ row_read m)

  no_alert : answer d (alert_response 1) ≡ 14
  unfolding step answer_of alert_answer
  no_alert = answered-of d (alert_response 1) valid ∙ rw (powered (usual n)).alert

  no_reply : (step d (alert_response 1)).reply ≡ 0xFF ∷ []
  unfolding step sent alert_stream
  no_reply = rw no_alert

all_rows : (c : ℕ) → c < 256 → (lookup c).read ≡ is_in c (map (λ r. r.0) at_power_on)
unfolding lookup entry_of table
all_rows c h = agree-test (λ c. (lookup c).read) (λ c. is_in c (map (λ r. r.0) at_power_on)) 256 tt c h

pub power_on-reads : PowerOnReads
unfolding PowerOnReads
power_on-reads n ok = record { reads = row_reads n ok; all = all_rows; alert = no_alert n ok; no_address = no_reply n ok }

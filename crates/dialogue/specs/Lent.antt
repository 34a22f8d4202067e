-- The same over lent records, as many as there are (data sheet 18.9, 18.11): what the exported calls hand back, by their promises.
-- Assumes nothing.
use Rattle.std.specs.Prelude.{ℕ, ◌≡◌, Bool, true, false, List}
use Rattle.page.specs.declared.Page.{Page}
use Rattle.unpaged.specs.declared.Unpaged.{Unpaged}
use Rattle.device.specs.Device.{device, device_valid}
use Rattle.device.specs.Step.{write, read, step}
use Rattle.lent.specs.declared.Outcome.{Outcome}
use Rattle.lent.specs.Lent.{beside}
use Rattle.replies.specs.Replies.{read_header}
use Rattle.host.specs.Build.{write_frame, read_count}
use Rattle.host.specs.Parse.{parsed}
use Rattle.dialogue.specs.Transactions.{Buildable, writing, reading}
use Rattle.dialogue.specs.Understood.{command_done, unreadable, Heard}

-- `tongsorrel_lent_write` gets an unpaged part u, records ps and the bytes that were built; it hands back o and leaves the records qs
unfoldable pub LentUnderstood : Type 0
LentUnderstood =
    (u : Unpaged) (ps qs : List Page) (o : Outcome) (code : ℕ) (bytes : List ℕ) (check : Bool)
    → device_valid (device u ps) ≡ true → Buildable (writing code bytes check)
    → beside o qs ≡ (step (device u ps) (write (write_frame code bytes check))).done
    → beside o qs ≡ command_done (device u ps) code bytes

-- `tongsorrel_lent_read` gets the header that was built and a reply buffer of the count; it leaves this reply in it
unfoldable pub LentHeard : Type 0
LentHeard =
    (u : Unpaged) (ps : List Page) (code : ℕ) (check : Bool) (reply : List ℕ)
    → device_valid (device u ps) ≡ true → Buildable (reading code check) → unreadable (device u ps) code ≡ false
    → reply ≡ (step (device u ps) (read (read_header code) (read_count code check))).reply
    → Heard (device u ps) code (parsed code check reply)

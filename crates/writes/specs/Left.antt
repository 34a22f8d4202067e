-- What an accepted write leaves of the unpaged part, and of each page that it acts on, by the kinds of `Write`.
-- Assumes nothing.
use Rattle.std.specs.Prelude.{Bool, true, false}
use Rattle.laws.specs.Bits.{without}
use Rattle.page.specs.declared.Page.{Page}
use Rattle.page.specs.Causes.{settled}
use Rattle.page.specs.Settings.{set_operation, set_vout_command, set_limit, set_response, clear_bits}
use Rattle.unpaged.specs.declared.Unpaged.{Unpaged}
use Rattle.unpaged.specs.Unpaged.{with_page, with_protect, with_cml}
use Rattle.writes.specs.declared.asked.Masks.{Masks}
use Rattle.writes.specs.declared.asked.Setting.{Setting}
use Rattle.writes.specs.declared.asked.Write.{Write}
use Rattle.writes.specs.Asked.{page_masks}

-- a page with one setting changed,
unfoldable pub applied : Setting → Page → Page
applied (Setting.Operation x) p = set_operation p x
applied (Setting.VoutCommand w) p = set_vout_command p w
applied (Setting.Limit k w) p = set_limit p k w
applied (Setting.Response k x) p = set_response p k x

-- and brought up to date: bit and trip of a cause that the change made present come in the same call (data sheet 6.4, 7.1)
unfoldable pub changed : Setting → Page → Page
changed s p = settled (applied s p)

-- a page with bits cleared; a present cause sets its bit again in the same call (data sheet 6.6)
unfoldable pub cleared : Masks → Page → Page
cleared m p = settled (clear_bits p (page_masks m))

-- a page that the write acts on
unfoldable pub page_left : Write → Page → Page
page_left Write.Nothing p = p
page_left (Write.SelectPage x) p = p
page_left (Write.Protect x) p = p
page_left (Write.Change s) p = changed s p
page_left (Write.Clear m) p = cleared m p
page_left (Write.ClearCml m) p = p

-- the unpaged part; its alert depends on every page and is set where the pages are (device, specs/Step.antt)
unfoldable pub unpaged_left : Write → Unpaged → Unpaged
unpaged_left Write.Nothing u = u
unpaged_left (Write.SelectPage x) u = with_page u x
unpaged_left (Write.Protect x) u = with_protect u x
unpaged_left (Write.Change s) u = u
unpaged_left (Write.Clear m) u = with_cml u (without u.cml m.cml)
unpaged_left (Write.ClearCml m) u = with_cml u (without u.cml m)

-- the writes after which the alert is worked out anew
unfoldable pub clearing : Write → Bool
clearing Write.Nothing = false
clearing (Write.SelectPage x) = false
clearing (Write.Protect x) = false
clearing (Write.Change s) = false
clearing (Write.Clear m) = true
clearing (Write.ClearCml m) = true

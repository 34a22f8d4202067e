-- Which causes and warnings are present on a page, and what they leave: all worked out from their table.
-- Assumes nothing.
use Rattle.std.specs.Prelude.{ℕ, ◌^◌, Bool, true, false, cond, ◌&&◌, ◌||◌, List, [], ◌∷◌, ◌++◌, map, get_or, eqb}
use Rattle.std.specs.Int.Bits.{bit_or}
use Rattle.laws.specs.Lists.{any_of}
use Rattle.std.specs.declared.cmp.Ordering.{Ordering}
use Rattle.std.specs.declared.cmp.Ordering.TheVariants.{Less, Equal, Greater}
use Rattle.linear11.specs.Linear11.{word_order}
use Rattle.value.specs.declared.format.Format.{Format}
use Rattle.value.specs.Format.{format_order}
use Rattle.retry.specs.Machines.{all_at_call, all_at_tick, any_trips, any_trips_now}
use Rattle.cause.specs.Causes.{Side, above, below, VOUT, Limit, causes, faults, warnings, limits, trips_at, lasts_at, register}
use Rattle.page.specs.declared.Page.{Page}
use Rattle.page.specs.Page.{format_in, with_machines, with_status, with_tripped}

-- how a word stands to a limit of that quantity (data sheet 5.2, 5.5): VOUT's as plain numbers, the others by their values in the quantity's format
unfoldable pub order_by : List Format → ℕ → ℕ → ℕ → Ordering
order_by fs quantity word limit = cond (eqb quantity VOUT) (word_order word limit) (format_order (format_in fs quantity) word limit)

-- the order is that of the side; equal is on neither
unfoldable pub on_side : Side → Ordering → Bool
on_side above Less = false
on_side above Equal = false
on_side above Greater = true
on_side below Less = true
on_side below Equal = false
on_side below Greater = false

-- the latest word of the limit's quantity, if there is one, is past the limit on its side (data sheet 6.2)
unfoldable pub crossed : Page → Limit → Bool
crossed p l =
    get_or p.measured l.quantity false
    && on_side l.side (order_by p.formats l.quantity (get_or p.words l.quantity 0) (get_or p.limits l.number 0))

-- the causes in the order of their numbers, each present or not
unfoldable pub present_causes : Page → List Bool
present_causes p = map (crossed p) faults

-- the warnings, likewise (data sheet 6.14)
unfoldable pub present_warnings : Page → List Bool
present_warnings p = map (crossed p) warnings

-- both, in the order of the limits' numbers
abbrev pub present_limits : Page → List Bool
present_limits p = present_causes p ++ present_warnings p

-- the cause or the warning of limit n is present
abbrev pub present : Page → ℕ → Bool
present p n = get_or (present_limits p) n false

-- a bit of a register, by its weight, or none
unfoldable pub weigh : Bool → ℕ → ℕ
weigh set mask = cond set mask 0

-- the register j with the bits of those limits of ls that are crossed (c, by number) and are shown in it
unfoldable pub marked : List Bool → ℕ → List Limit → ℕ → ℕ
marked c j [] x = x
marked c j (l ∷ ls) x =
    marked c j ls (cond (eqb (register l) j) (bit_or x (weigh (get_or c l.number false) (2 ^ l.bit_number))) x)

-- the four registers with the bits of the limits that are crossed by c
unfoldable pub raised : List ℕ → List Bool → List ℕ
raised s c = map (λ j. marked c j limits (get_or s j 0)) (0 ∷ 1 ∷ 2 ∷ 3 ∷ [])

-- some cause of c has a response, of those in r, that trips the page without a retry machine
unfoldable pub trips_at_once : List Bool → List ℕ → Bool
trips_at_once c r =
    any_of (λ x. get_or c x.limit.number false && trips_at x.response.actions (get_or r x.limit.number 0)) causes

-- some cause of c has one that keeps the page off for as long as the cause is present
unfoldable pub off_while_lasts : List Bool → List ℕ → Bool
off_while_lasts c r =
    any_of (λ x. get_or c x.limit.number false && lasts_at x.response.actions (get_or r x.limit.number 0)) causes

-- the page is shut down: by a present cause at once, or by a machine that has tripped it
abbrev pub shut_down : Page → Bool
shut_down p = trips_at_once (present_causes p) p.responses || any_trips p.machines

-- A page whose machines become ms in a step. It trips where one of them trips it in that step, or a present cause does at once (data sheet 7.1).
unfoldable pub moved : Page → List ℕ → Page
moved p ms =
    with_tripped (with_machines p ms) (p.tripped || trips_at_once (present_causes p) p.responses || any_trips_now p.machines ms)

-- A page brought up to date with its present causes and warnings at the end of a call: their bits are set, and the machines of present causes
-- start (data sheet 6.4, 6.14, 7.8).
unfoldable pub settled : Page → Page
settled p = with_status (moved p (all_at_call p.responses (present_causes p) p.machines)) (raised p.status (present_limits p))

-- A tick on a page: its machines move on; no bit is set (data sheet 7.9).
unfoldable pub ticked : Page → Page
ticked p = moved p (all_at_tick p.responses (present_causes p) p.machines)

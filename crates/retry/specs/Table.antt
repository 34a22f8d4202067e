-- The ticks of some response bytes, worked out by hand (data sheet 3.6, 7.8, 7.10): what a machine is at its start and after each tick.
-- Assumes nothing.
use Rattle.std.specs.Prelude.{ℕ, ◌≡◌, Bool, true, false, not, ◌||◌, List, [], ◌∷◌, map, replicate}
use Rattle.retry.specs.Machine.{Machine, rest, waiting, held, trying, tripped, holds, trips}
use Rattle.retry.specs.Steps.{tick, call, after, run}

-- a call with the cause present
abbrev pub begun : ℕ → Machine
begun response = after response rest (call false true)

-- the machine m, and after each tick, at which the cause is present or not
unfoldable pub onwards : ℕ → Machine → List Bool → List Machine
onwards response m [] = m ∷ []
onwards response m (present ∷ ps) = m ∷ onwards response (after response m (tick present)) ps

abbrev pub course_of : ℕ → List Bool → List Machine
course_of response ps = onwards response (begun response) ps

-- the machine at tick n of a cause that lasts
abbrev pub at_tick_of : ℕ → ℕ → Machine
at_tick_of response n = run response (begun response) (replicate n (tick true))

-- the machine has its page on
abbrev pub page_on : Machine → Bool
page_on m = not (holds m || trips m)

pub record Table : Type 0 where
  -- ---- no retries: 80h and 87h trip at the start, 40h and 41h at tick 1, 42h at tick 2
  pub h80 : course_of 0x80 [] ≡ (tripped ∷ [])
  pub h87 : course_of 0x87 [] ≡ (tripped ∷ [])
  pub h40 : course_of 0x40 (true ∷ []) ≡ (waiting 1 ∷ tripped ∷ [])
  pub h41 : course_of 0x41 (true ∷ []) ≡ (waiting 1 ∷ tripped ∷ [])
  pub h42 : course_of 0x42 (true ∷ true ∷ []) ≡ (waiting 2 ∷ waiting 1 ∷ tripped ∷ [])
  -- ---- one retry, delays 0 and 1: on at tick 1, tripped at tick 2; delay 2: on at tick 2
  pub h88 : course_of 0x88 (true ∷ true ∷ []) ≡ (held 1 1 ∷ trying 1 ∷ tripped ∷ [])
  pub h89 : course_of 0x89 (true ∷ true ∷ []) ≡ (held 1 1 ∷ trying 1 ∷ tripped ∷ [])
  pub h8_a : course_of 0x8A (true ∷ true ∷ true ∷ []) ≡ (held 1 2 ∷ held 1 1 ∷ trying 1 ∷ tripped ∷ [])
  -- ---- two retries: on at ticks 1 and 3, tripped at tick 4; after a wait of a tick, on at ticks 2 and 4, tripped at tick 5
  pub h90 : course_of 0x90 (true ∷ true ∷ true ∷ true ∷ []) ≡ (held 2 1 ∷ trying 2 ∷ held 1 1 ∷ trying 1 ∷ tripped ∷ [])
  pub h50 : course_of 0x50 (true ∷ true ∷ true ∷ true ∷ true ∷ [])
      ≡ (waiting 1 ∷ held 2 1 ∷ trying 2 ∷ held 1 1 ∷ trying 1 ∷ tripped ∷ [])
  -- ---- for ever: BAh is on at ticks 2, 5, 8 .., B8h at every odd tick
  pub h_ba : course_of 0xBA (true ∷ true ∷ true ∷ true ∷ true ∷ true ∷ [])
      ≡ (held 7 2 ∷ held 7 1 ∷ trying 7 ∷ held 7 2 ∷ held 7 1 ∷ trying 7 ∷ held 7 2 ∷ [])
  pub h_b8 : (at_tick_of 0xB8 99 ≡ trying 7) × (at_tick_of 0xB8 100 ≡ held 7 1)
  -- ---- six retries, delay 7: B7h is on for the last time at tick 47, 77h at tick 54, and each trips one tick later
  pub h_b7 : (at_tick_of 0xB7 46 ≡ held 1 1) × (at_tick_of 0xB7 47 ≡ trying 1) × (at_tick_of 0xB7 48 ≡ tripped)
  pub h77 : (at_tick_of 0x77 53 ≡ held 1 1) × (at_tick_of 0x77 54 ≡ trying 1) × (at_tick_of 0x77 55 ≡ tripped)
  -- ---- actions 00 and 11: nothing
  pub h3_f : course_of 0x3F (true ∷ []) ≡ (rest ∷ rest ∷ [])
  pub h_c0 : course_of 0xC0 (true ∷ []) ≡ (rest ∷ rest ∷ [])
  pub h_ff : course_of 0xFF (true ∷ []) ≡ (rest ∷ rest ∷ [])
  -- ---- a cause that has gone at a look: rest, and when it comes back two tries again
  pub h48_gone : course_of 0x48 (false ∷ []) ≡ (waiting 1 ∷ rest ∷ [])
  pub h88_gone : course_of 0x88 (false ∷ false ∷ []) ≡ (held 1 1 ∷ trying 1 ∷ rest ∷ [])
  pub h90_anew : course_of 0x90 (true ∷ true ∷ true ∷ false ∷ true ∷ [])
      ≡ (held 2 1 ∷ trying 2 ∷ held 1 1 ∷ trying 1 ∷ rest ∷ held 2 1 ∷ [])
  -- ---- one that has gone and come back before the look counts as there
  pub h4_a_back : course_of 0x4A (false ∷ true ∷ []) ≡ (waiting 2 ∷ waiting 1 ∷ held 1 2 ∷ [])
  pub h88_back : course_of 0x88 (false ∷ true ∷ []) ≡ (held 1 1 ∷ trying 1 ∷ tripped ∷ [])
  -- ---- the page: on while the machine waits or tries, off while it is held and once it is tripped
  pub page_ba : map page_on (course_of 0xBA (true ∷ true ∷ true ∷ true ∷ true ∷ true ∷ []))
      ≡ (false ∷ false ∷ true ∷ false ∷ false ∷ true ∷ false ∷ [])
  pub page4_a : map page_on (course_of 0x4A (true ∷ true ∷ true ∷ true ∷ true ∷ []))
      ≡ (true ∷ true ∷ false ∷ false ∷ true ∷ false ∷ [])

-- The machines of a page side by side, one for each cause by its number (data sheet 6.1), with the responses and the present causes in the same
-- order. That of IOUT_OC, number 1, is always at rest: the actions of its response byte are 00 and 11.
-- Assumes nothing.
use Rattle.std.specs.Prelude.{ℕ, ◌<◌, ◌≡◌, Bool, false, cond, List, [], ◌∷◌, map, eqb, get_or}
use Rattle.laws.specs.Lists.{all_of, any_of}
use Rattle.retry.specs.Byte.{byte_at_call, byte_at_tick, byte_holds, byte_trips, trips_now, byte_valid}

abbrev pub numbers : List ℕ
numbers = 0 ∷ 1 ∷ 2 ∷ 3 ∷ 4 ∷ 5 ∷ []

unfoldable pub all_at_call : List ℕ → List Bool → List ℕ → List ℕ
all_at_call responses present machines = map (λ k. byte_at_call (get_or responses k 0) (get_or present k false) (get_or machines k 0)) numbers

unfoldable pub all_at_tick : List ℕ → List Bool → List ℕ → List ℕ
all_at_tick responses present machines = map (λ k. byte_at_tick (get_or responses k 0) (get_or present k false) (get_or machines k 0)) numbers

-- some machine holds the page off
unfoldable pub any_holds : List ℕ → Bool
any_holds machines = any_of (λ k. byte_holds (get_or machines k 0)) numbers

-- some machine has tripped the page
unfoldable pub any_trips : List ℕ → Bool
any_trips machines = any_of (λ k. byte_trips (get_or machines k 0)) numbers

-- some machine trips the page in a step
unfoldable pub any_trips_now : List ℕ → List ℕ → Bool
any_trips_now before after = any_of (λ k. trips_now (get_or before k 0) (get_or after k 0)) numbers

-- a value that runs give machine k
abbrev pub machine_valid : ℕ → ℕ → Bool
machine_valid k b = cond (eqb k 1) (eqb b 0) (byte_valid b)

unfoldable pub all_valid : List ℕ → Bool
all_valid machines = all_of (λ k. machine_valid k (get_or machines k 0)) numbers

-- Machines do not meet: each moves by its own response byte and cause alone.
unfoldable pub EachAlone : Type 0
EachAlone =
    (responses : List ℕ) (present : List Bool) (machines : List ℕ) (k : ℕ) → k < 6
    → (get_or (all_at_call responses present machines) k 0 ≡ byte_at_call (get_or responses k 0) (get_or present k false) (get_or machines k 0))
    × (get_or (all_at_tick responses present machines) k 0 ≡ byte_at_tick (get_or responses k 0) (get_or present k false) (get_or machines k 0))

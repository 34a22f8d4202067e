-- Response bytes of one action, one number of retries and one delay do alike at every step; one of them is the byte with delay 1 to that with
-- delay 0.
-- Assumes nothing.
use Prim.Native.Nat.{ℕ, ◌+◌, ◌%◌}
use mathlib.Core.Path.{◌≡◌, refl}
use mathlib.Core.Bool.{Bool, cond}
use mathlib.Core.List.{List, [], ◌∷◌}
use native.Mathlib.Omega.{arith}
use borrow.Author.Tests.{eq-eqb, ne_eqb}
use Rattle.retry.specs.Response.{action, retries, delay}
use Rattle.retry.specs.Machine.{Machine, rest, waiting, held, trying, tripped, hold, look, started, less_one, at_call, at_tick}
use Rattle.retry.specs.Steps.{Step, tick, call, after, run}
use Rattle.retry.specs.Claim.{ZeroAsOne}

module _ (r q : ℕ) (a : action r ≡ action q) (k : retries r ≡ retries q) (d : delay r ≡ delay q) where
  hold-alike : (n : ℕ) → hold r n ≡ hold q n
  unfolding hold
  hold-alike n = rw d

  look-alike : (c : Bool) (n : ℕ) → look r c n ≡ look q c n
  unfolding look
  look-alike c n = rw (hold-alike n)

  started-alike : started r ≡ started q
  unfolding started
  started-alike = rw (a, k, d, hold-alike (retries q))

  call_alike : (c : Bool) (m : Machine) → at_call r c m ≡ at_call q c m
  unfolding at_call
  call_alike c rest = rw started-alike
  call_alike c (waiting t) = refl
  call_alike c (held n t) = refl
  call_alike c (trying n) = refl
  call_alike c tripped = refl

  tick_alike : (c : Bool) (m : Machine) → at_tick r c m ≡ at_tick q c m
  unfolding at_tick
  tick_alike c rest = call_alike c rest
  tick_alike c (waiting t) = rw (k, look-alike c (retries q))
  tick_alike c (held n t) = refl
  tick_alike c (trying n) = look-alike c (less_one n)
  tick_alike c tripped = refl

  after-alike : (m : Machine) (s : Step) → after r m s ≡ after q m s
  unfolding after
  after-alike m (tick c) = tick_alike c m
  after-alike m (call rested c) = call_alike c (cond rested rest m)

  run-alike : (m : Machine) (ss : List Step) → run r m ss ≡ run q m ss
  unfolding run
  run-alike m [] = refl
  run-alike m (s ∷ ss) = rw (after-alike m s) (run-alike (after q m s) ss)

one_tick : (r : ℕ) → r % 8 ≡ 0 → delay r ≡ delay (r + 1)
unfolding delay
one_tick r z = rw (eq-eqb (r % 8) 0 z, ne_eqb ((r + 1) % 8) 0 (omega (arith, z))) (omega (arith, z))

pub zero_as_one : ZeroAsOne
unfolding ZeroAsOne
zero_as_one r ss z = run-alike r (r + 1) (omega (arith, z)) (omega (arith, z)) (one_tick r z) rest ss

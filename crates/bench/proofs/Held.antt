-- What is fed in parts.
-- Assumes nothing.
use Prim.Native.Nat.{ℕ, ◌-◌, ◌+◌, ◌≤◌}
use mathlib.Core.Path.{◌≡◌, sym, ap}
use mathlib.Core.List.{List, ◌++◌}
use native.Mathlib.Omega.{arith}
use lib.ListN.{take, drop}
use lib.Seq.{take-add}
use Rattle.device.specs.declared.Device.{Device}
use Rattle.device.specs.Device.{usual, power_on}
use Rattle.frame.specs.Blocks.{feed}
use Rattle.frame.proofs.Feeding.{feed-append}
use Rattle.bench.specs.Held.{Leaves, Reached}

-- after some characters, more of them
pub fed-on : (d : Device) (line : List ℕ) (n : ℕ) (s t : List ℕ) (e : Device) (line' : List ℕ) (k : ℕ) → Leaves (feed d line n s) e line' k
    → (f : Device) (line'' : List ℕ) (m : ℕ) → Leaves (feed e line' k t) f line'' m → Leaves (feed d line n (s ++ t)) f line'' m
fed-on d line n s t e line' k h f line'' m g = rw (feed-append s d line n t, h.0, h.1, h.2) g

-- a part of a block after the part before it
pub part-on : (d : Device) (line : List ℕ) (n : ℕ) (block : List ℕ) (at next : ℕ) → at ≤ next → (e : Device) (line' : List ℕ) (k : ℕ)
    → Leaves (feed d line n (take at block)) e line' k → (f : Device) (line'' : List ℕ) (m : ℕ)
    → Leaves (feed e line' k (take (next - at) (drop at block))) f line'' m → Leaves (feed d line n (take next block)) f line'' m
part-on d line n block at next h e line' k p f line'' m q =
    let both : at + (next - at) ≡ next = omega arith in
    rw (sym (ap (λ (i : ℕ). take i block) both), take-add at (next - at) block)
    (fed-on d line n (take at block) (take (next - at) (drop at block)) e line' k p f line'' m q)

pub reached-on : (d : Device) (line : List ℕ) (n : ℕ) (t : List ℕ) → Reached d line n → (f : Device) (line'' : List ℕ) (m : ℕ) → Leaves (feed d line n t) f line'' m
    → Reached f line'' m
reached-on d line n t r f line'' m g =
    (r.0, r.1 ++ t, fed-on (power_on (usual 8)) r.0 0 r.1 t d line n r.2 f line'' m g)

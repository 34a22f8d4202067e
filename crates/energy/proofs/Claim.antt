-- The energy claim for one account: the invariant over any list of events.
-- Assumes nothing.
use Prim.Native.Nat.{ℕ}
use mathlib.Core.List.{List, [], ◌∷◌}
use Rattle.account.specs.declared.Account.{Account}
use Rattle.energy.specs.Reply.{energy_reply, Copy, intact, changed, IsCopy, AreCopies}
use Rattle.energy.specs.Events.{Log, log_copy, log_copies, Event, sample, read, Run, step, run, power_on, IsEvent, AreEvents}
use Rattle.energy.specs.Claim.{Claim}
use Rattle.energy.proofs.Copies.{changed-refused}
use Rattle.energy.proofs.Invariant.{Good, at_start, after-sample, after-changed}
use Rattle.energy.proofs.Intact.{after-intact}

after-copy : (code : ℕ) (a : Account) (l : Log) (c : Copy) → IsCopy (energy_reply code a) c → Good a l
    → Good a (log_copy code (energy_reply code a) l c)
after-copy code a l intact m g = after-intact code a l.totalizer l.history g
after-copy code a l (changed s) m g =
    rw (changed-refused code l.totalizer a g.last-valid s m.0 m.1) (after-changed a l.totalizer l.history g s)

pub after-copies : (code : ℕ) (a : Account) (l : Log) (cs : List Copy) → AreCopies (energy_reply code a) cs → Good a l
    → Good a (log_copies code (energy_reply code a) l cs)
unfolding log_copies AreCopies
after-copies code a l [] m g = g
after-copies code a l (c ∷ cs) m g = after-copies code a (log_copy code (energy_reply code a) l c) cs m.1 (after-copy code a l c m.0 g)

after-event : (code : ℕ) (r : Run) (e : Event) → IsEvent code r e → Good r.account r.log
    → Good (step code r e).account (step code r e).log
after-event code r (sample n) m g = after-sample r.account r.log n g
after-event code r (read cs) m g = after-copies code r.account r.log cs m g

after-events : (code : ℕ) (r : Run) (es : List Event) → AreEvents code r es → Good r.account r.log
    → Good (run code r es).account (run code r es).log
unfolding run AreEvents
after-events code r [] m g = g
after-events code r (e ∷ es) m g = after-events code (step code r e) es m.1 (after-event code r e m.0 g)

pub claim : Claim
unfolding Claim
claim code es m = (after-events code power_on es m at_start).claims

-- What is under way is what the orders say.
-- Assumes nothing.
use Prim.Native.Nat.{ℕ, zero, suc, ◌+◌}
use mathlib.Core.Path.{◌≡◌, refl, sym, ap, ◌∙◌}
use mathlib.Core.List.{List, [], ◌∷◌, ◌++◌, map, append-nil}
use native.Mathlib.Omega.{arith}
use lib.ListN.{replicate}
use lib.Seq.{append_snoc}
use Rattle.bus.specs.Automaton.{Event, start, byte, again, clock, stop}
use Rattle.bus.specs.Orders.{Inner}
use Rattle.bus.specs.Places.{Begins, clocks, turn}
use Rattle.bus.specs.Places as places
use Rattle.stream.specs.Stream.{Turn, on, call}
use Rattle.traffic.specs.Runs.{events_in}
use Rattle.traffic.specs.Underway.{Underway, nothing, bytes, turned, asked, with_event, underway, Since, a_write, a_turn, a_read, a_breach, ByOrders}
use Rattle.traffic.proofs.Runs.{within-inner}

-- ---- calls aside

abbrev pub with_events : Underway → List Event → Underway
with_events u [] = u
with_events u (e ∷ es) = with_events (with_event u e) es

pub calls_aside : (ts : List Turn) (u : Underway) → underway u ts ≡ with_events u (events_in ts)
calls_aside [] u = refl
calls_aside (on e ∷ ts) u = calls_aside ts (with_event u e)
calls_aside (call c ∷ ts) u = calls_aside ts u

pub events-append : (es fs : List Event) (u : Underway) → with_events u (es ++ fs) ≡ with_events (with_events u es) fs
events-append [] fs u = refl
events-append (e ∷ es) fs u = events-append es fs (with_event u e)

nothing-on : (es : List Event) → Inner es → with_events nothing es ≡ nothing
nothing-on [] i = refl
nothing-on (start ∷ es) i = absurd i
nothing-on (byte b ∷ es) i = nothing-on es i
nothing-on (again ∷ es) i = nothing-on es i
nothing-on (clock ∷ es) i = nothing-on es i
nothing-on (stop ∷ es) i = absurd i

-- ---- from the events to the orders

-- clocked bytes behind a header, or a breach
data Clocks (es : List Event) (u : Underway) (h : List ℕ) (n : ℕ) : Type 0 where
  some : (m k : ℕ) → es ≡ replicate m clock → u ≡ asked h k → k ≡ m + n → Clocks es u h n
  none : u ≡ nothing → Clocks es u h n

one_clock : (es : List Event) (u : Underway) (h : List ℕ) (n : ℕ) → Clocks es u h (suc n) → Clocks (clock ∷ es) u h n
one_clock es u h n (some m k e r q) = some (suc m) k (ap (λ (l : List Event). clock ∷ l) e) r (omega arith)
one_clock es u h n (none r) = none r

while_asked : (es : List Event) (h : List ℕ) (n : ℕ) → Inner es → Clocks es (with_events (asked h n) es) h n
while_asked [] h n i = some 0 n refl refl (omega arith)
while_asked (start ∷ es) h n i = absurd i
while_asked (byte b ∷ es) h n i = none (nothing-on es i)
while_asked (again ∷ es) h n i = none (nothing-on es i)
while_asked (clock ∷ es) h n i = one_clock es (with_events (asked h (suc n)) es) h n (while_asked es h (suc n) i)
while_asked (stop ∷ es) h n i = absurd i

-- the events es behind the bytes acc
data Rest (acc : List ℕ) (es : List Event) (u : Underway) : Type 0 where
  written : (bs : List ℕ) → es ≡ map byte bs → u ≡ bytes (acc ++ bs) → Rest acc es u
  turns : (bs : List ℕ) → es ≡ map byte bs ++ (again ∷ []) → u ≡ turned (acc ++ bs) → Rest acc es u
  reads : (bs : List ℕ) (b n : ℕ) → es ≡ map byte bs ++ (again ∷ byte b ∷ replicate n clock) → u ≡ asked ((acc ++ bs) ++ b ∷ []) n
      → Rest acc es u
  breaks : u ≡ nothing → Rest acc es u

asked-rest : (acc : List ℕ) (b : ℕ) (es : List Event) (u : Underway) → Clocks es u (acc ++ b ∷ []) 0 → Rest acc (again ∷ byte b ∷ es) u
asked-rest acc b es u (some m k e r q) =
    let same : k ≡ m = omega arith in
    reads [] b m (ap (λ (l : List Event). again ∷ byte b ∷ l) e)
    (r ∙ ap (λ (n : ℕ). asked (acc ++ b ∷ []) n) same ∙ ap (λ (l : List ℕ). asked (l ++ b ∷ []) m) (sym (append-nil acc)))
asked-rest acc b es u (none r) = breaks r

while_turned : (es : List Event) (acc : List ℕ) → Inner es → Rest acc (again ∷ es) (with_events (turned acc) es)
while_turned [] acc i = turns [] refl (ap turned (sym (append-nil acc)))
while_turned (start ∷ es) acc i = absurd i
while_turned (byte b ∷ es) acc i =
    asked-rest acc b es (with_events (asked (acc ++ b ∷ []) 0) es) (while_asked es (acc ++ b ∷ []) 0 i)
while_turned (again ∷ es) acc i = breaks (nothing-on es i)
while_turned (clock ∷ es) acc i = breaks (nothing-on es i)
while_turned (stop ∷ es) acc i = absurd i

one_byte : (acc : List ℕ) (b : ℕ) (es : List Event) (u : Underway) → Rest (acc ++ b ∷ []) es u → Rest acc (byte b ∷ es) u
one_byte acc b es u (written bs e r) =
    written (b ∷ bs) (ap (λ (l : List Event). byte b ∷ l) e) (r ∙ ap bytes (append_snoc acc b bs))
one_byte acc b es u (turns bs e r) =
    turns (b ∷ bs) (ap (λ (l : List Event). byte b ∷ l) e) (r ∙ ap turned (append_snoc acc b bs))
one_byte acc b es u (reads bs c n e r) =
    reads (b ∷ bs) c n (ap (λ (l : List Event). byte b ∷ l) e) (r ∙ ap (λ (l : List ℕ). asked (l ++ c ∷ []) n) (append_snoc acc b bs))
one_byte acc b es u (breaks r) = breaks r

while_bytes : (es : List Event) (acc : List ℕ) → Inner es → Rest acc es (with_events (bytes acc) es)
while_bytes [] acc i = written [] refl (ap bytes (sym (append-nil acc)))
while_bytes (start ∷ es) acc i = absurd i
while_bytes (byte b ∷ es) acc i = one_byte acc b es (with_events (bytes (acc ++ b ∷ [])) es) (while_bytes es (acc ++ b ∷ []) i)
while_bytes (again ∷ es) acc i = while_turned es acc i
while_bytes (clock ∷ es) acc i = breaks (nothing-on es i)
while_bytes (stop ∷ es) acc i = absurd i

-- ---- and back: the beginning of an order is not nothing

bytes_on : (bs acc : List ℕ) (es : List Event) → with_events (bytes acc) (map byte bs ++ es) ≡ with_events (bytes (acc ++ bs)) es
bytes_on [] acc es = ap (λ (l : List ℕ). with_events (bytes l) es) (sym (append-nil acc))
bytes_on (b ∷ bs) acc es =
    bytes_on bs (acc ++ b ∷ []) es ∙ ap (λ (l : List ℕ). with_events (bytes l) es) (append_snoc acc b bs)

pub told-bytes : (es : List Event) (bs : List ℕ) → es ≡ map byte bs → with_events (bytes []) es ≡ bytes bs
told-bytes es bs e = ap (with_events (bytes [])) (e ∙ sym (append-nil (map byte bs))) ∙ bytes_on bs [] []

pub told-turned : (es : List Event) (bs : List ℕ) → es ≡ map byte bs ++ (again ∷ []) → with_events (bytes []) es ≡ turned bs
told-turned es bs e = ap (with_events (bytes [])) e ∙ bytes_on bs [] (again ∷ [])

clocks_on : (m : ℕ) (h : List ℕ) (n : ℕ) → with_events (asked h n) (replicate m clock) ≡ nothing → ⊥
clocks_on zero h n e = let z : ◌≡◌ {A = ℕ} 0 1 = cc in omega arith
clocks_on (suc m) h n e = clocks_on m h (suc n) e

pub not_nothing : (es : List Event) → Begins es → with_events (bytes []) es ≡ nothing → ⊥
not_nothing es (places.bytes bs e) q =
    let r : bytes bs ≡ nothing = sym (told-bytes es bs e) ∙ q in
    let z : ◌≡◌ {A = ℕ} 0 1 = cc in omega arith
not_nothing es (turn bs e) q =
    let r : turned bs ≡ nothing = sym (told-turned es bs e) ∙ q in
    let z : ◌≡◌ {A = ℕ} 0 1 = cc in omega arith
not_nothing es (clocks bs b n e) q =
    clocks_on n (bs ++ b ∷ []) 0
    (sym (bytes_on bs [] (again ∷ byte b ∷ replicate n clock)) ∙ ap (with_events (bytes [])) (sym e) ∙ q)

-- ---- the claim

since : (es : List Event) → Rest [] es (with_events (bytes []) es) → Since es (with_events (bytes []) es)
since es (written bs e r) = a_write bs e r
since es (turns bs e r) = a_turn bs e r
since es (reads bs b n e r) = a_read bs b n e r
since es (breaks r) = a_breach (λ begins. not_nothing es begins r) r

pub by_orders : ByOrders
unfolding ByOrders
by_orders u ts h =
    let es = events_in ts in
    let i = within-inner ts h in (
      rw (calls_aside ts (bytes [])) (since es (while_bytes es [] i)),
      calls_aside ts nothing ∙ nothing-on es i,
    )

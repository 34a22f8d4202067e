-- Who gets NACK, in one statement.
-- Assumes nothing.
use Prim.Native.Nat.{ℕ}
use mathlib.Core.Path.{◌≡◌, refl, sym, ap, ◌∙◌, subst}
use mathlib.Core.Bool.{true, false}
use mathlib.Core.List.{List, [], ◌∷◌, ◌++◌}
use Rattle.bus.specs.Automaton.{start, byte}
use Rattle.bus.specs.Ack.{NackedFirst, NackedSecond}
use Rattle.bus.proofs.Nacks.{nacked_first, nacked_second}
use Rattle.device.specs.declared.Device.{Device}
use Rattle.stream.specs.Stream.{State, state_valid, byte_ack, Turn, on, after, feed}
use Rattle.stream.proofs.Fold.{hear_start, heard-first, heard-second}
use Rattle.stream.proofs.Claims.{valid_both}
use Rattle.traffic.specs.Runs.{Within, events_in}
use Rattle.traffic.specs.Underway.{Underway, nothing, bytes, turned, asked, with_byte, goes_on, underway, Since, a_write, a_turn, a_read, a_breach, ByOrders}
use Rattle.traffic.specs.Breach.{BreachBetween}
use Rattle.traffic.specs.Nacks.{Nacked, misplaced, first, second, NackExactly}
use Rattle.traffic.proofs.Underway.{with_events, calls_aside, events-append, told-bytes, told-turned, not_nothing, by_orders}
use Rattle.traffic.proofs.Follow.{Matches, maker, moves}
use Rattle.traffic.proofs.Breach.{breach_between}

matches_on : (ts : List Turn) (s : State) (u : Underway) (d : Device) → Matches s u d → (e : Device) × Matches (feed s ts) (underway u ts) e
unfolding feed
matches_on [] s u d k = (d, k)
matches_on (t ∷ ts) s u d k = matches_on ts (after s t) (goes_on u t) (maker s u d t) (moves s u d t k)

module _ (s : State) (ts : List Turn) (b : ℕ) (v : state_valid s ≡ true) (h : Within ts) where
  t : State
  t = feed (after s (on start)) ts

  matched : (u : Underway) → with_events (bytes []) (events_in ts) ≡ u → (e : Device) × Matches t u e
  unfolding t
  matched u q =
      let both = valid_both s v in
      let m = matches_on ts (after s (on start)) (bytes []) s.device (hear_start s both.0 both.1) in
      (m.0, subst (λ (x : Underway). Matches (feed (after s (on start)) ts) x m.0) (calls_aside ts (bytes []) ∙ q) m.1)

  -- a byte behind es breaks the order
  breaks : (u : Underway) → underway (bytes []) ts ≡ u → with_byte u b ≡ nothing → Nacked (events_in ts) b
  breaks u r n =
      misplaced (λ begins. not_nothing (events_in ts ++ byte b ∷ []) begins
      (events-append (events_in ts) (byte b ∷ []) (bytes [])
      ∙ ap (λ (x : Underway). with_byte x b) (sym (calls_aside ts (bytes [])) ∙ r) ∙ n))

  to : Since (events_in ts) (underway (bytes []) ts) → byte_ack t b ≡ false → Nacked (events_in ts) b
  unfolding NackedFirst NackedSecond
  to (a_write bs e r) q =
      first bs e ((nacked_first bs b).0 (sym (heard-first t bs b (matched (bytes bs) (told-bytes (events_in ts) bs e)).1) ∙ q))
  to (a_turn bs e r) q =
      second bs e ((nacked_second bs b).0 (sym (heard-second t bs b (matched (turned bs) (told-turned (events_in ts) bs e)).1) ∙ q))
  to (a_read bs c n e r) q = breaks (asked (bs ++ c ∷ []) n) r refl
  to (a_breach none r) q = breaks nothing r refl

  from : Nacked (events_in ts) b → byte_ack t b ≡ false
  unfolding NackedFirst NackedSecond BreachBetween feed t
  from (misplaced out) = (breach_between s ts v h).0.nack b out
  from (first bs e r) = heard-first t bs b (matched (bytes bs) (told-bytes (events_in ts) bs e)).1 ∙ (nacked_first bs b).1 r
  from (second bs e r) = heard-second t bs b (matched (turned bs) (told-turned (events_in ts) bs e)).1 ∙ (nacked_second bs b).1 r

pub nack_exactly : NackExactly
unfolding NackExactly ByOrders feed t
nack_exactly s ts b v h = (to s ts b v h (by_orders nothing ts h).0, from s ts b v h)

-- The invariant is kept by an intact copy: the first one, a later one with room in both totals, one without, and any after that.
-- Assumes nothing.
use Prim.Native.Nat.{ℕ, ◌%◌, ◌^◌, ◌<◌}
use mathlib.Core.Path.{◌≡◌, refl, sym, ap, ap₂, ◌∙◌}
use mathlib.Core.Logic.{inl, inr, ⊎_elim}
use mathlib.Core.Bool.{Bool, true, false, ◌&&◌}
use mathlib.Core.List.{List, ◌∷◌, ◌++◌}
use native.Mathlib.Omega.{arith}
use lib.Dec.{ltb}
use lib.ListN.{length, length-append}
use borrow.Author.Tests.{ltb-true, ltb-false, le-ltb}
use Rattle.laws.proofs.Branches.{either}
use Rattle.account.specs.declared.Account.{Account}
use Rattle.account.specs.Account.{energy_reading}
use Rattle.account.proofs.Laws.{in_range}
use Rattle.totalizer.specs.declared.Totalizer.{Totalizer}
use Rattle.totalizer.specs.declared.Taken.{Taken}
use Rattle.totalizer.specs.Totalizer.{totalizer, answered, gap, next_energy, next_samples, added, totalize}
use Rattle.totalizer.proofs.Outcomes.{reading-lt, refused-closed, start, later}
use Rattle.energy.specs.Reply.{intact, energy_reply}
use Rattle.energy.specs.Events.{Entry, got}
use Rattle.energy.specs.Tally.{is_intact, is_accepted, some, up_to, since, since_first, sum_of, SumAndNumber, tally, samples_between, in_bounds}
use Rattle.energy.specs.Claim.{answer_due}
use Rattle.energy.proofs.Copies.{intact_booked}
use Rattle.energy.proofs.Parts.{sum-append, none_yet, split}
use Rattle.energy.proofs.Invariant.{Open, Shut, Over, Kept, totals_of, copied}

-- ---- two numbers below 2^64

abbrev fits : SumAndNumber → Bool
fits y = ltb y.sum (2 ^ 64) && ltb y.number (2 ^ 64)

not_fits : (y : SumAndNumber) → Over y → fits y ≡ false
not_fits y o =
    ⊎_elim (λ p. rw (le-ltb y.sum (2 ^ 64) p))
    (λ p. either (ltb y.sum (2 ^ 64)) (λ e. rw (e, le-ltb y.number (2 ^ 64) p)) (λ e. rw e)) o

over : (y : SumAndNumber) → fits y ≡ false → Over y
over y e =
    either (ltb y.sum (2 ^ 64)) (λ f. inr (ltb-false y.number (2 ^ 64) (rw f at e))) (λ f. inl (ltb-false y.sum (2 ^ 64) f))

pair : (x y : SumAndNumber) → x.sum ≡ y.sum → x.number ≡ y.number → x ≡ y
pair x y p q = ap₂ (λ (s n : ℕ). record { sum = s; number = n }) p q

-- what a test of two numbers and more says
parts : (x m y n : ℕ) (b : Bool) → (ltb x m && ltb y n && b) ≡ true → (x < m) × (y < n) × (b ≡ true)
parts x m y n b e =
    either (ltb x m)
    (λ f.
    either (ltb y n) (λ k. (ltb-true x m f, ltb-true y n k, rw (f, k) at e))
    (λ k. absurd (let z : false ≡ true = rw (f, k) at e in let w : ◌≡◌ {A = ℕ} 0 1 = cc in omega arith)))
    (λ f. absurd (let z : false ≡ true = rw f at e in let w : ◌≡◌ {A = ℕ} 0 1 = cc in omega arith))

module _ (code : ℕ) (a : Account) (t : Totalizer) (h : List Entry) (g : Kept a t h) where
  -- ---- at a closed totalizer: the tally only grows

  grows : (k : Taken) → some is_intact h ≡ true → Over (tally h) → Over (tally (got intact k ∷ h))
  unfolding tally
  grows k any o = rw any (⊎_elim (λ p. inl (omega arith)) (λ p. inr (omega arith)) o)

  after-shut : Shut t h → Kept a t (got intact (answered 24 t) ∷ h)
  unfolding samples_between in_bounds answer_due
  after-shut s =
      let o = grows (answered 24 t) s.begun s.over in
      copied a t h g intact (answered 24 t) (rw (not_fits (tally (got intact (answered 24 t) ∷ h)) o)) g.last-valid
      (record { total = g.totalled.total; samples = g.totalled.samples })
      (inr (record { is_shut = s.is_shut; begun = refl; over = o }))

  module _ (o : Open a t h) where
    -- the totalizer after an accepted copy
    abbrev accepted : Bool → ℕ → ℕ → Totalizer
    accepted c e n = totalizer true c a e n

    open_again : (c : Bool) (e n : ℕ) → c ≡ false → Open a (accepted c e n) (got intact (answered 0 (accepted c e n)) ∷ h)
    open_again c e n f =
        record {
          is_open = f;
          begun = refl;
          same_some = refl;
          same_since = refl;
          latest = refl;
          energy_is = omega (arith, reading-lt a g.account-valid);
          count_is = omega (arith, in_range a g.account-valid);
        }

    -- ---- the first

    module _ (none : some is_intact h ≡ false) where
      zero_tally : (k : Taken) → tally (got intact k ∷ h) ≡ record { sum = 0; number = 0 }
      unfolding tally
      zero_tally k = rw none

      after-start : Kept a (accepted false 0 0) (got intact (answered 0 (accepted false 0 0)) ∷ h)
      unfolding samples_between answer_due
      after-start =
          let k = answered 0 (accepted false 0 0) in
          copied a t h g intact k (rw (zero_tally k)) g.account-valid
          (record { total = sym (zero_tally k); samples = λ e. rw (none_yet is_accepted h (sym o.same_some ∙ none)) })
          (inl (open_again false 0 0 refl))

    -- ---- a later one

    module _ (any : some is_intact h ≡ true) where
      -- the difference of two readings is the samples between them
      energy_gap : gap 8388608 (energy_reading t.last) (energy_reading a) ≡ sum_of (since is_intact h) % 8388608
      energy_gap = omega (arith, o.energy_is, reading-lt t.last g.last-valid)

      count_gap : gap 16777216 t.last.count a.count ≡ length (since is_intact h) % 16777216
      count_gap = omega (arith, o.count_is, in_range t.last g.last-valid)

      abbrev next : SumAndNumber
      next = record { sum = next_energy t a; number = next_samples t a }

      now : totals_of t ≡ tally h
      now = g.totalled.total ∙ o.latest

      next-tally : (k : Taken) → next ≡ tally (got intact k ∷ h)
      unfolding next_energy next_samples tally
      next-tally k =
          let p : next_energy t a ≡ (tally (got intact k ∷ h)).sum =
          rw any (omega (arith, energy_gap, ap (λ (y : SumAndNumber). y.sum) now)) in
          let q : next_samples t a ≡ (tally (got intact k ∷ h)).number =
          rw any (omega (arith, count_gap, ap (λ (y : SumAndNumber). y.number) now)) in
          pair next (tally (got intact k ∷ h)) p q

      -- with every gap below the modulus the differences are the samples themselves
      plain : (u : Totalizer) → in_bounds (got intact (answered 0 u) ∷ h) ≡ true → next ≡ samples_between (got intact (answered 0 u) ∷ h)
      unfolding next_energy next_samples samples_between in_bounds
      plain u e =
          let some-accepted : some is_accepted h ≡ true = sym o.same_some ∙ any in
          let b = parts (sum_of (since is_accepted h)) _ (length (since is_accepted h)) _ (in_bounds h) (rw some-accepted at e) in
          let before = g.totalled.samples b.2 in
          let rest = since_first is_accepted (up_to is_accepted h) in
          let p : next_energy t a ≡ sum_of (since is_accepted h ++ rest) =
          omega
          (arith, b.0, energy_gap, ap (λ (y : SumAndNumber). y.sum) before, ap sum_of o.same_since, sum-append (since is_accepted h) rest) in
          let q : next_samples t a ≡ length (since is_accepted h ++ rest) =
          omega
          (arith, b.1, count_gap, ap (λ (y : SumAndNumber). y.number) before, ap length o.same_since, length-append (since is_accepted h) rest) in
          rw (split is_accepted h some-accepted) (cc)

      after-later : fits next ≡ true
          → Kept a (accepted t.closed (next_energy t a) (next_samples t a))
          (got intact (answered 0 (accepted t.closed (next_energy t a) (next_samples t a))) ∷ h)
      unfolding answer_due
      after-later e =
          let u = accepted t.closed (next_energy t a) (next_samples t a) in
          copied a t h g intact (answered 0 u) (rw (sym (next-tally (answered 0 u)), e)) g.account-valid
          (record { total = next-tally (answered 0 u); samples = plain u })
          (inl (open_again t.closed (next_energy t a) (next_samples t a) o.is_open))

      after-full : fits next ≡ false
          → Kept a (totalizer t.started true t.last t.energy t.samples)
          (got intact (answered 24 (totalizer t.started true t.last t.energy t.samples)) ∷ h)
      unfolding answer_due samples_between in_bounds
      after-full e =
          let k = answered 24 (totalizer t.started true t.last t.energy t.samples) in
          copied a t h g intact k (rw (sym (next-tally k), e)) g.last-valid
          (record { total = g.totalled.total; samples = g.totalled.samples })
          (inr (record { is_shut = refl; begun = refl; over = rw (sym (next-tally k)) (over next e) }))

  pub after-intact : Kept a (totalize code t (energy_reply code a)).totalizer (got intact (totalize code t (energy_reply code a)) ∷ h)
  unfolding added
  after-intact =
      rw (intact_booked code t a g.last-valid g.account-valid)
      (⊎_elim
      (λ o.
      either t.started
      (λ e.
      let any = sym o.begun ∙ e in
      rw (later t a o.is_open e)
      (either (fits (next o any)) (λ f. rw f (after-later o any f)) (λ f. rw f (after-full o any f))))
      (λ e. rw (start t a o.is_open e) (after-start o (sym o.begun ∙ e))))
      (λ s. rw (refused-closed t a s.is_shut) (after-shut s)) g.state)

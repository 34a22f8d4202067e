-- The course of a machine while its cause lasts: where it stands after n ticks, having let its page on j times. A tick keeps to it, a call
-- changes nothing, and from it the ticks are read off.
-- Assumes nothing.
use Prim.Native.Nat.{ℕ, zero, suc, ◌+◌, ◌-◌, ◌≤◌, ◌<◌}
use mathlib.Core.Path.{◌≡◌, refl, sym, ap, ◌∙◌}
use mathlib.Core.Logic.{◌↔◌}
use mathlib.Core.Bool.{true, false, cond, ◌||◌, and-eq-true_iff, or-true, or-false, false≢true}
use mathlib.Core.List.{List, [], ◌∷◌}
use native.Mathlib.Nat.{add-zero, zero-add, lt_irrefl, lt_of_not-le, not-suc-le-zero, suc-ne-zero, suc-mul, mul-le-mul_right}
use native.Mathlib.Omega.{arith}
use lib.Dec.{eqb, ltb, leb}
use borrow.Author.Tests.{eqb-true, eqb-false, ltb-true, ltb-false, le-leb, leb-true, leb-false, ne_eqb}
use Rattle.laws.specs.Lists.{all_of}
use Rattle.laws.proofs.Branches.{either}
use Rattle.retry.specs.Response.{action, waits_first, holds_at_once, retries, delay}
use Rattle.retry.specs.Machine.{Machine, rest, waiting, held, trying, tripped, hold, look, started, less_one, at_call, at_tick, lets_on, at_rest, trips}
use Rattle.retry.specs.Steps.{Step, tick, call, after, run, starts, lasts, ticks_in, times_on}
use Rattle.retry.specs.Claim.{look_tick, on_tick, allows}
use Rattle.retry.proofs.Bytes.{delay-low}

-- ---- the ticks of the looks rise

module _ (r : ℕ) where
  look-next : (i : ℕ) → look_tick r (suc i) ≡ look_tick r i + (delay r + 1)
  unfolding look_tick
  look-next i = let e = suc-mul i (delay r + 1) in omega (arith, e)

  look-rises : (i j : ℕ) → i ≤ j → look_tick r i ≤ look_tick r j
  unfolding look_tick
  look-rises i j h = let e = mul-le-mul_right (delay r + 1) h in omega (arith, e)

  -- the tries left when j were in vain
  unfoldable pub left : ℕ → ℕ
  left j = cond (eqb (retries r) 7) 7 (retries r - j)

  left-none : left 0 ≡ retries r
  unfolding left
  left-none = either (eqb (retries r) 7) (λ e. rw e (sym (eqb-true (retries r) 7 e))) (λ e. rw e (omega arith))

  left-next : (j : ℕ) → less_one (left j) ≡ left (suc j)
  unfolding left less_one
  left-next j =
      either (eqb (retries r) 7) (λ e. rw e)
      (λ e. let h = eqb-false (retries r) 7 e in rw (e, ne_eqb (retries r - j) 7 (omega arith)) (omega arith))

  -- with 6 or fewer retries: some left, fewer than all were in vain; none left, all were
  left-some : (j : ℕ) → (left j ≡ 0 → ⊥) → (retries r ≡ 7 → ⊥) → j < retries r
  unfolding left
  left-some j some h = let k = rw (ne_eqb (retries r) 7 h) at some in lt_of_not-le (λ l. k (omega arith))

  left-ends : (j : ℕ) → left j ≡ 0 → retries r ≤ j
  unfolding left
  left-ends j none =
      either (eqb (retries r) 7) (λ e. absurd (suc-ne-zero 6 (rw e at none))) (λ e. let h = rw e at none in omega arith)

  left-finite : (j : ℕ) → left j ≡ 0 → retries r ≡ 7 → ⊥
  unfolding left
  left-finite j none seven = suc-ne-zero 6 (rw seven at none)

  -- ---- the course

  unfoldable pub Course : ℕ → ℕ → Machine → Type 0
  Course n j rest = ⊥
  Course n j (waiting t) = (j ≡ 0) × (0 < t) × (n + t ≡ look_tick r 0)
  Course n j (held q t) = (q ≡ left j) × (q ≡ 0 → ⊥) × (0 < t) × (t ≤ delay r) × (n + t ≡ look_tick r j + delay r)
  Course n j (trying q) = (0 < j) × (q ≡ left (j - 1)) × (q ≡ 0 → ⊥) × (n + 1 ≡ look_tick r j)
  Course n j tripped = (j ≡ retries r) × (retries r ≡ 7 → ⊥) × (look_tick r j ≤ n)

  -- a hold, after the look at its tick
  course_hold : (n j : ℕ) → n ≡ look_tick r j → ((retries r ≡ 7 → ⊥) → j ≤ retries r) → Course n j (hold r (left j))
  unfolding hold Course
  course_hold n j e few =
      either (eqb (left j) 0)
      (λ f. let z = eqb-true (left j) 0 f in
      let h = left-ends j z in
      let g = few (left-finite j z) in
      rw f (omega arith, left-finite j z, omega arith))
      (λ f. rw f (refl, eqb-false (left j) 0 f, delay-low r, omega arith, ap (λ (x : ℕ). x + delay r) e))

  -- a tick keeps to it
  course_tick : (n j : ℕ) (m : Machine) → Course n j m
      → Course (suc n) (cond (lets_on m (at_tick r true m)) (suc j) j) (at_tick r true m)
  unfolding Course at_tick look
  course_tick n j rest h = absurd h
  course_tick n j (waiting t) h =
      either (ltb 1 t)
      (λ e. let l = ltb-true 1 t e in
      let s = h.2 in
      rw e (h.0, omega arith, omega arith))
      (λ e. let l = ltb-false 1 t e in
      let s = h.2 in
      let low = h.1 in
      rw (e, sym left-none, h.0) (course_hold (suc n) 0 (omega arith) (λ k. omega arith)))
  course_tick n j (held q t) h =
      let s = h.4 in
      let low = h.2 in
      let high = h.3 in
      either (ltb 1 t)
      (λ e. let l = ltb-true 1 t e in rw e (h.0, h.1, omega arith, omega arith, omega arith))
      (λ e. let l = ltb-false 1 t e in let next = look-next j in let back : j ≡ suc j - 1 = omega arith in
      rw e (omega arith, h.0 ∙ ap left back, h.1, omega arith))
  course_tick n zero (trying q) h = absurd (not-suc-le-zero h.0)
  course_tick n (suc j) (trying q) h =
      let s = h.3 in
      let back : suc j - 1 ≡ j = omega arith in
      let q-left : q ≡ left j = h.1 ∙ ap left back in
      rw (q-left, left-next j) (course_hold (suc n) (suc j) (omega arith) (λ k. left-some j (λ z. h.2 (q-left ∙ z)) k))
  course_tick n j tripped h = let s = h.2 in (h.0, h.1, omega arith)

  -- a call changes nothing
  course_call : (n j : ℕ) (m : Machine) → Course n j m → at_call r true m ≡ m
  unfolding Course at_call
  course_call n j rest h = absurd h
  course_call n j (waiting t) h = refl
  course_call n j (held q t) h = refl
  course_call n j (trying q) h = refl
  course_call n j tripped h = refl

  lets-on-itself : (m : Machine) → lets_on m m ≡ false
  lets-on-itself rest = refl
  lets-on-itself (waiting t) = refl
  lets-on-itself (held q t) = refl
  lets-on-itself (trying q) = refl
  lets-on-itself tripped = refl

  one_on : (a b : ℕ) → a + suc b ≡ suc a + b
  one_on a b = omega arith

  course_run : (n j : ℕ) (m : Machine) (ss : List Step) → Course n j m → all_of lasts ss ≡ true
      → Course (n + ticks_in ss) (j + times_on r m ss) (run r m ss)
  unfolding after run ticks_in times_on
  course_run n j m [] h l = rw (add-zero n, add-zero j) h
  course_run n j m (tick true ∷ ss) h l =
      either (lets_on m (at_tick r true m))
      (λ e. rw (e, one_on n (ticks_in ss), one_on j (times_on r (at_tick r true m) ss))
      (course_run (suc n) (suc j) (at_tick r true m) ss (rw e at (course_tick n j m h)) l))
      (λ e. rw (e, one_on n (ticks_in ss)) (course_run (suc n) j (at_tick r true m) ss (rw e at (course_tick n j m h)) l))
  course_run n j m (tick false ∷ ss) h l = absurd (false≢true l)
  course_run n j m (call true true ∷ ss) h l = absurd (false≢true l)
  course_run n j m (call true false ∷ ss) h l = absurd (false≢true l)
  course_run n j m (call false true ∷ ss) h l = rw (course_call n j m h, lets-on-itself m) (course_run n j m ss h l)
  course_run n j m (call false false ∷ ss) h l = absurd (false≢true l)

  -- ---- the start

  first_look : waits_first r ≡ true → look_tick r 0 ≡ delay r
  unfolding look_tick
  first_look e = rw e (omega arith)

  no_wait : waits_first r ≡ false → look_tick r 0 ≡ 0
  unfolding look_tick
  no_wait e = rw e (omega arith)

  pub wait_on : action r ≡ 1 → waits_first r ≡ true
  wait_on e = rw e

  wait_off : action r ≡ 2 → waits_first r ≡ false
  wait_off e = rw e

  course_start : (holds_at_once r || waits_first r) ≡ true → Course 0 0 (started r)
  unfolding started Course
  course_start h =
      either (holds_at_once r)
      (λ e. rw (e, sym left-none) (course_hold 0 0 (sym (no_wait (wait_off (eqb-true (action r) 2 e)))) (λ k. omega arith)))
      (λ e. let f : waits_first r ≡ true = rw e at h in rw (e, f) (refl, delay-low r, zero-add (delay r) ∙ sym (first_look f)))

  rest_alone : (m : Machine) → at_rest m ≡ true → m ≡ rest
  rest_alone rest h = refl
  rest_alone (waiting t) h = absurd (false≢true h)
  rest_alone (held q t) h = absurd (false≢true h)
  rest_alone (trying q) h = absurd (false≢true h)
  rest_alone tripped h = absurd (false≢true h)

  pub after-start : (m : Machine) (s : Step) → starts r m s ≡ true → (after r m s ≡ started r) × ((holds_at_once r || waits_first r) ≡ true)
  unfolding after at_call at_tick
  after-start m (tick true) h =
      let p = (and-eq-true_iff (at_rest m) (holds_at_once r || waits_first r)).0 h in (rw (rest_alone m p.0), p.1)
  after-start m (call true true) h = (refl, h)
  after-start m (call false true) h =
      let p = (and-eq-true_iff (at_rest m) (holds_at_once r || waits_first r)).0 h in (rw (rest_alone m p.0), p.1)
  after-start m (tick false) h = absurd (false≢true h)
  after-start m (call true false) h = absurd (false≢true h)
  after-start m (call false false) h = absurd (false≢true h)

  -- from the start, through steps that last
  pub course : (m : Machine) (s : Step) (ss : List Step) → starts r m s ≡ true → all_of lasts ss ≡ true
      → Course (ticks_in ss) (times_on r (after r m s) ss) (run r (after r m s) ss)
  course m s ss h l =
      let p = after-start m s h in
      rw (p.0, sym (zero-add (ticks_in ss)), sym (zero-add (times_on r (started r) ss))) (course_run 0 0 (started r) ss (course_start p.1) l)

  -- ---- what the course says

  pub allowed : (i : ℕ) → ((retries r ≡ 7 → ⊥) → i ≤ retries r) → allows r i ≡ true
  allowed i h =
      either (eqb (retries r) 7) (λ e. rw e (or-true (leb i (retries r))))
      (λ e. rw (le-leb i (retries r) (h (eqb-false (retries r) 7 e))))

  pub allowed_few : (i : ℕ) → allows r i ≡ true → (retries r ≡ 7 → ⊥) → i ≤ retries r
  allowed_few i h few = leb-true i (retries r) (rw (ne_eqb (retries r) 7 few, or-false) at h)

  -- a look that comes before that after j + 1 tries comes after at most j
  look-early : (i j : ℕ) → look_tick r i < look_tick r (suc j) → i ≤ j
  look-early i j h =
      either (leb i j) (λ e. leb-true i j e)
      (λ e. let l = leb-false i j e in
      let k = look-rises (suc j) i l in
      absurd (lt_irrefl (look_tick r i) (omega arith)))

  pub exact : (n j : ℕ) (m : Machine) → Course n j m → (i : ℕ) → 1 ≤ i → (i ≤ j) ↔ ((allows r i ≡ true) × (on_tick r i ≤ n))
  unfolding Course
  exact n j rest h i low = absurd h
  exact n j (waiting t) h i low =
      let none = h.0 in
      let soon = h.1 in
      let s = h.2 in
      let first = look-next 0 in
      let later = look-rises 1 i low in
      (λ l. absurd (lt_irrefl i (omega arith)), λ p. let o = p.1 in absurd (lt_irrefl n (omega arith)))
  exact n j (held q t) h i low =
      let soon = h.2 in
      let high = h.3 in
      let s = h.4 in
      let next = look-next j in (
        λ l. let k = look-rises i j l in
            (allowed i (λ few. let z = left-some j (λ z. h.1 (h.0 ∙ z)) few in omega arith), omega arith),
        λ p. let o = p.1 in look-early i j (omega arith),
      )
  exact n zero (trying q) h i low = absurd (not-suc-le-zero h.0)
  exact n (suc j) (trying q) h i low =
      let s = h.3 in
      let next = look-next (suc j) in
      let back : suc j - 1 ≡ j = omega arith in (
        λ l. let k = look-rises i (suc j) l in
            (allowed i (λ few. let z = left-some j (λ z. h.2 (h.1 ∙ ap left back ∙ z)) few in omega arith), omega arith),
        λ p. let o = p.1 in look-early i (suc j) (omega arith),
      )
  exact n j tripped h i low =
      let all = h.0 in
      let s = h.2 in (
        λ l. let k = look-rises i j l in (allowed i (λ few. omega arith), omega arith),
        λ p. let k = allowed_few i p.0 h.1 in omega arith,
      )

  pub tripped-exact : (n j : ℕ) (m : Machine) → Course n j m → (trips m ≡ true) ↔ ((retries r ≤ 6) × (look_tick r (retries r) ≤ n))
  unfolding Course
  tripped-exact n j rest h = absurd h
  tripped-exact n j (waiting t) h =
      let soon = h.1 in
      let s = h.2 in
      let later = look-rises 0 (retries r) (omega arith) in
      (λ e. absurd (false≢true e), λ p. let o = p.1 in absurd (lt_irrefl n (omega arith)))
  tripped-exact n j (held q t) h =
      let soon = h.2 in
      let s = h.4 in
      let next = look-next j in (
        λ e. absurd (false≢true e),
        λ p. let o = p.1 in
            let k = p.0 in
            let later = look-rises (suc j) (retries r) (left-some j (λ z. h.1 (h.0 ∙ z)) (λ seven. lt_irrefl 6 (omega arith))) in
            absurd (lt_irrefl n (omega arith)),
      )
  tripped-exact n zero (trying q) h = absurd (not-suc-le-zero h.0)
  tripped-exact n (suc j) (trying q) h =
      let s = h.3 in
      let back : suc j - 1 ≡ j = omega arith in (
        λ e. absurd (false≢true e),
        λ p. let o = p.1 in
            let k = p.0 in
            let later = look-rises (suc j) (retries r)
            (left-some j (λ z. h.2 (h.1 ∙ ap left back ∙ z)) (λ seven. lt_irrefl 6 (omega arith))) in
            absurd (lt_irrefl n (omega arith)),
      )
  tripped-exact n j tripped h =
      let s : look_tick r (retries r) ≤ n = rw (sym h.0) h.2 in
      let few = h.1 in
      (λ e. (omega arith, s), λ p. refl)

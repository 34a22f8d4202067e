-- Which causes and warnings are present, limit by limit: the code's tests, in exact values.
-- Assumes nothing.
use Prim.Native.Nat.{ℕ, zero, suc, ◌<◌}
use mathlib.Core.Path.{◌≡◌, refl}
use mathlib.Core.Logic.{◌↔◌}
use mathlib.Core.Bool.{true, false, ◌&&◌, and-eq-true_iff, false≢true}
use mathlib.Core.List.{List}
use native.Mathlib.Nat.{mul-one}
use native.Mathlib.Omega.{arith}
use lib.Dec.{eqb, ltb→lt, lt→ltb}
use lib.IntN.{pos, ◌*ℤ◌}
use lib.ListN.{get_or}
use lib.Signed.{◌<ℤ◌}
use Rattle.laws.proofs.Branches.{either, and_yes}
use Rattle.std.specs.declared.cmp.Ordering.{Ordering}
use Rattle.std.specs.declared.cmp.Ordering.TheVariants.{Less, Equal, Greater}
use Rattle.linear11.specs.Comparison.{ComparesExactly}
use Rattle.linear11.proofs.Comparison.{compares_exactly}
use Rattle.value.specs.declared.format.Format.{Format}
use Rattle.value.specs.Format.{value_order}
use Rattle.value.specs.Format as format
use Rattle.value.specs.Claims.{ByProduct, OrderExact}
use Rattle.value.proofs.Claims.{claims}
use Rattle.cause.specs.Causes.{Side, above, below, VOUT, causes, warnings}
use Rattle.page.specs.declared.Page.{Page}
use Rattle.page.specs.Page.{format_in}
use Rattle.page.specs.Causes.{order_by, on_side, crossed, present_causes, present_warnings}
use Rattle.page.specs.Presence.{value_of, Past, Beyond, PresentExactly}

-- the order that counts on each side
above-is : (o : Ordering) → on_side above o ≡ true → o ≡ Greater
unfolding on_side
above-is Less h = absurd (false≢true h)
above-is Equal h = absurd (false≢true h)
above-is Greater h = refl

below-is : (o : Ordering) → on_side below o ≡ true → o ≡ Less
unfolding on_side
below-is Less h = refl
below-is Equal h = absurd (false≢true h)
below-is Greater h = absurd (false≢true h)

-- output voltage words as fractions over 1
whole-less : (a b : ℕ) → (pos a *ℤ pos 1) <ℤ (pos b *ℤ pos 1) → a < b
whole-less a b h = ltb→lt a b (rw (mul-one, mul-one) at h.lt)

less-whole : (a b : ℕ) → a < b → (pos a *ℤ pos 1) <ℤ (pos b *ℤ pos 1)
less-whole a b h = record { lt = rw (mul-one, mul-one) (lt→ltb a b h) }

module _ (fs : List Format) (q word limit : ℕ) where
  -- the order of the values, by cross products
  by_product : ByProduct (format.value_of (format_in fs q) word) (format.value_of (format_in fs q) limit)
  unfolding OrderExact
  by_product = claims.order_exact (format.value_of (format_in fs q) word) (format.value_of (format_in fs q) limit)

  -- the test on a side, as an order of values
  past : (s : Side) → on_side s (order_by fs q word limit) ≡ true → Past s (value_of fs q word) (value_of fs q limit)
  unfolding order_by value_of Past ComparesExactly value_order
  past above h =
      either (eqb q VOUT)
      (λ y. rw y (less-whole limit word ((compares_exactly word limit).1.above.0 (above-is _ (rw y at h)))))
      (λ n. rw n (by_product.above.0 (above-is _ (rw n at h))))
  past below h =
      either (eqb q VOUT)
      (λ y. rw y (less-whole word limit ((compares_exactly word limit).1.below.0 (below-is _ (rw y at h)))))
      (λ n. rw n (by_product.below.0 (below-is _ (rw n at h))))

  test : (s : Side) → Past s (value_of fs q word) (value_of fs q limit) → on_side s (order_by fs q word limit) ≡ true
  unfolding order_by on_side value_of Past ComparesExactly value_order
  test above h =
      either (eqb q VOUT) (λ y. rw (y, (compares_exactly word limit).1.above.1 (whole-less limit word (rw y at h))))
      (λ n. rw (n, by_product.above.1 (rw n at h)))
  test below h =
      either (eqb q VOUT) (λ y. rw (y, (compares_exactly word limit).1.below.1 (whole-less word limit (rw y at h))))
      (λ n. rw (n, by_product.below.1 (rw n at h)))

-- a line of the data sheet, where limit n is tested as it says
line : (p : Page) (n q : ℕ) (s : Side)
    → ((get_or p.measured q false && on_side s (order_by p.formats q (get_or p.words q 0) (get_or p.limits n 0))) ≡ true) ↔ Beyond p n (q, s)
line p n q s =
    let word = get_or p.words q 0 in
    let limit = get_or p.limits n 0 in
    let seen = get_or p.measured q false in
    let crosses = on_side s (order_by p.formats q word limit) in (
      λ h. let b = (and-eq-true_iff seen crosses).0 h in record { measured = b.0; past = past p.formats q word limit s b.1 },
      λ b. and_yes seen crosses b.measured (test p.formats q word limit s b.past),
    )

pub present-exactly : PresentExactly
unfolding PresentExactly present_causes present_warnings crossed causes warnings
present-exactly p zero h = line p 0 0 above
present-exactly p (suc zero) h = line p 1 1 above
present-exactly p (suc (suc zero)) h = line p 2 3 above
present-exactly p (suc (suc (suc zero))) h = line p 3 3 below
present-exactly p (suc (suc (suc (suc zero)))) h = line p 4 2 above
present-exactly p (suc (suc (suc (suc (suc zero))))) h = line p 5 2 below
present-exactly p (suc (suc (suc (suc (suc (suc zero)))))) h = line p 6 0 above
present-exactly p (suc (suc (suc (suc (suc (suc (suc zero))))))) h = line p 7 1 above
present-exactly p (suc (suc (suc (suc (suc (suc (suc (suc zero)))))))) h = line p 8 3 above
present-exactly p (suc (suc (suc (suc (suc (suc (suc (suc (suc zero))))))))) h = line p 9 2 above
present-exactly p (suc (suc (suc (suc (suc (suc (suc (suc (suc (suc zero)))))))))) h = line p 10 2 below
present-exactly p (suc (suc (suc (suc (suc (suc (suc (suc (suc (suc (suc n))))))))))) h = absurd (omega arith)

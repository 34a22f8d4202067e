-- What a history says by itself: the tally (data sheet 15.6), and the samples between accepted replies. Of the totalizer it looks at the
-- answers alone, and the tally not even at these.
-- Assumes nothing.
use Rattle.std.specs.Prelude.{ℕ, ◌+◌, ◌%◌, Bool, true, false, cond, ◌&&◌, ◌||◌, List, [], ◌∷◌, map, eqb, ltb, length}
use Rattle.laws.specs.Lists.{all_of}
use Rattle.totalizer.specs.declared.Taken.{Taken}
use Rattle.energy.specs.Reply.{Copy, intact, changed}
use Rattle.energy.specs.Events.{Entry, took, got}

-- ---- which copies

abbrev pub is_intact : Copy → Taken → Bool
is_intact intact k = true
is_intact (changed s) k = false

-- answer 0
abbrev pub is_accepted : Copy → Taken → Bool
is_accepted c k = eqb k.answer 0

-- ---- parts of a history, its latest entry first, at the copies of which p holds

module _ (p : Copy → Taken → Bool) where
  -- there is one
  abbrev pub some : List Entry → Bool
  some [] = false
  some (took n ∷ h) = some h
  some (got c k ∷ h) = p c k || some h

  -- the history up to the latest one, or none of it
  abbrev pub up_to : List Entry → List Entry
  up_to [] = []
  up_to (took n ∷ h) = up_to h
  up_to (got c k ∷ h) = cond (p c k) (got c k ∷ h) (up_to h)

  -- the samples taken since the latest one
  abbrev pub since : List Entry → List ℕ
  since [] = []
  since (took n ∷ h) = n ∷ since h
  since (got c k ∷ h) = cond (p c k) [] (since h)

  -- the samples taken since the first one
  abbrev pub since_first : List Entry → List ℕ
  since_first [] = []
  since_first (took n ∷ h) = cond (some h) (n ∷ since_first h) []
  since_first (got c k ∷ h) = since_first h

  -- for each one but the first, the samples taken between the one before it and itself
  abbrev pub gaps : List Entry → List (List ℕ)
  gaps [] = []
  gaps (took n ∷ h) = gaps h
  gaps (got c k ∷ h) = cond (p c k) (cond (some h) (since h ∷ gaps h) []) (gaps h)

-- ---- sums and numbers

abbrev pub sum_of : List ℕ → ℕ
sum_of [] = 0
sum_of (n ∷ ns) = n + sum_of ns

pub record SumAndNumber : Type 0 where
  pub sum : ℕ
  pub number : ℕ

-- both sums over the gaps between intact copies, each gap reduced by the modulus of its counter (data sheet 15.6)
unfoldable pub tally : List Entry → SumAndNumber
tally h =
    record {
      sum = sum_of (map (λ g. sum_of g % 8388608) (gaps is_intact h));
      number = sum_of (map (λ g. length g % 16777216) (gaps is_intact h));
    }

-- the sum and number of samples taken between the first and the latest accepted reply
unfoldable pub samples_between : List Entry → SumAndNumber
samples_between h =
    record {
      sum = sum_of (since_first is_accepted (up_to is_accepted h));
      number = length (since_first is_accepted (up_to is_accepted h));
    }

-- no gap between accepted copies reaches a modulus (data sheet 15.7)
unfoldable pub in_bounds : List Entry → Bool
in_bounds h = all_of (λ g. ltb (sum_of g) 8388608 && ltb (length g) 16777216) (gaps is_accepted h)

-- A copy that differs within eight adjacent bits has another packet check, and so does not pass for the message.
-- Assumes nothing.
use mathlib.Core.Path.{◌≡◌, refl, sym, ap, ap₂, ◌∙◌}
use mathlib.Core.Logic.{inl, inr}
use mathlib.Core.Bool.{Bool, false}
use Prim.Native.Nat.{ℕ, suc, ◌+◌, ◌-◌, ◌*◌, ◌<◌, min}
use native.Mathlib.Omega.{arith}
use mathlib.Core.List.{List, [], ◌∷◌, ◌++◌}
use lib.ListN.{length, take, drop, get_or, length-take, length-drop, take-append-drop}
use lib.Seq.{ext_get_or, get_or-take, get_or-drop, drop-drop, take_all, take-suc}
use Rattle.laws.specs.Lists.{Bytes}
use Rattle.pec.specs.Pec.{pec_from}
use Rattle.pec.specs.Burst.{bits8, bus_bits, Changed, BurstFound, NotBoth}
use Rattle.pec.proofs.Laws.{own_check}
use Rattle.pec.proofs.Bits.{fold, fold-append, fold-lt, bytes_bits}
use Rattle.pec.proofs.Window.{window, kept}

bits_length : (s : List ℕ) → length (bus_bits s) ≡ length s * 8
unfolding bus_bits bits8
bits_length [] = refl
bits_length (b ∷ bs) = omega (arith, bits_length bs)

module _ (s t : List ℕ) (c : Changed s t) where
  same_bits : length (bus_bits s) ≡ length (bus_bits t)
  same_bits = bits_length s ∙ ap (λ (n : ℕ). n * 8) c.same_length ∙ sym (bits_length t)

  front : take c.first (bus_bits s) ≡ take c.first (bus_bits t)
  front =
      ext_get_or false _ _ (length-take c.first (bus_bits s) ∙ ap (min c.first) same_bits ∙ sym (length-take c.first (bus_bits t)))
      (λ i h.
      let l : i < c.first = omega (arith, length-take c.first (bus_bits s)) in
      get_or-take c.first (bus_bits s) i false l ∙ c.outside i (inl l) ∙ sym (get_or-take c.first (bus_bits t) i false l))

  rest : drop (c.first + 8) (bus_bits s) ≡ drop (c.first + 8) (bus_bits t)
  rest =
      ext_get_or false _ _
      (length-drop (c.first + 8) (bus_bits s) ∙ ap (λ (n : ℕ). n - (c.first + 8)) same_bits ∙ sym (length-drop (c.first + 8) (bus_bits t)))
      (λ i h. get_or-drop (c.first + 8) (bus_bits s) i false ∙ c.outside (c.first + 8 + i) (inr (omega arith)) ∙ sym (get_or-drop (c.first + 8) (bus_bits t) i false))

-- a run of bits in three parts
abbrev mid : ℕ → List Bool → List Bool
mid k l = take 8 (drop k l)

three : (k : ℕ) (l : List Bool) → l ≡ take k l ++ (mid k l ++ drop (k + 8) l)
three k l =
    sym (take-append-drop k l)
    ∙ ap (λ (x : List Bool). take k l ++ x) (sym (take-append-drop 8 (drop k l)) ∙ ap (λ (x : List Bool). mid k l ++ x) (drop-drop 8 k l))

-- THE BURST LAW: a copy of any length that differs within eight adjacent bits has another check, from whatever register both start
pub burst : (s t : List ℕ) → Changed s t → Bytes s → Bytes t → (r : ℕ) → r < 256 → pec_from r s ≡ pec_from r t → ⊥
burst s t c hs ht r hr e =
    c.changed (three k B ∙ ap₂ (λ (x y : List Bool). x ++ (y ++ drop (k + 8) B)) (front s t c) windows ∙ ap (λ (x : List Bool). take k B' ++ (mid k B' ++ x)) (rest s t c) ∙ sym (three k B'))
  where
    k : ℕ
    k = c.first

    B : List Bool
    B = bus_bits s

    B' : List Bool
    B' = bus_bits t

    r₁ : ℕ
    r₁ = fold r (take k B)

    r₁_lt : r₁ < 256
    r₁_lt = fold-lt r (take k B) hr

    parts : (l : List Bool) → fold r l ≡ fold (fold (fold r (take k l)) (mid k l)) (drop (k + 8) l)
    parts l =
        ap (fold r) (three k l) ∙ fold-append r (take k l) (mid k l ++ drop (k + 8) l)
        ∙ fold-append (fold r (take k l)) (mid k l) (drop (k + 8) l)

    ends : fold (fold r₁ (mid k B)) (drop (k + 8) B) ≡ fold (fold r₁ (mid k B')) (drop (k + 8) B)
    ends =
        sym (parts B) ∙ sym (bytes_bits r s hr hs) ∙ e ∙ bytes_bits r t hr ht ∙ parts B'
        ∙ ap₂ (λ (x y : List Bool). fold (fold (fold r x) (mid k B')) y) (sym (front s t c)) (sym (rest s t c))

    windows : mid k B ≡ mid k B'
    windows =
        window (mid k B) (mid k B') r₁ r₁_lt
        (omega (arith, length-take 8 (drop k B), length-take 8 (drop k B'), length-drop k B, length-drop k B', same_bits s t c))
        (omega (arith, length-take 8 (drop k B)))
        (kept (drop (k + 8) B) (fold r₁ (mid k B)) (fold r₁ (mid k B')) (fold-lt r₁ (mid k B) r₁_lt) (fold-lt r₁ (mid k B') r₁_lt) ends)

-- a message whose last byte is the check of those before it has the check 0
closes : (r n : ℕ) (s : List ℕ) → length s ≡ suc n → pec_from r (take n s) ≡ get_or s n 0 → pec_from r s ≡ 0
closes r n s l e = ap (pec_from r) whole ∙ own_check r (take n s)
  where
    whole : s ≡ take n s ++ (pec_from r (take n s) ∷ [])
    whole =
        sym (take_all (suc n) s (omega arith)) ∙ take-suc s n 0 (omega arith)
        ∙ ap (λ (x : ℕ). take n s ++ (x ∷ [])) (sym e)

-- Of a message and a changed copy, not both end in the check of what stands before it. r is the check of a header that both have.
pub not_both : (r n : ℕ) (s t : List ℕ) → r < 256 → length s ≡ suc n → Bytes s → Bytes t → Changed s t
    → pec_from r (take n s) ≡ get_or s n 0 → pec_from r (take n t) ≡ get_or t n 0 → ⊥
not_both r n s t hr l hs ht c p q =
    burst s t c hs ht r hr (closes r n s l p ∙ sym (closes r n t (sym c.same_length ∙ l) q))

pub burst-found : BurstFound
unfolding BurstFound
burst-found = burst

pub never_both : NotBoth
unfolding NotBoth
never_both = not_both

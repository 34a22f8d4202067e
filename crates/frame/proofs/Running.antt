-- A run over a block: what holds before each line, and what a line makes of it.
-- Assumes nothing.
use Prim.Native.Nat.{ℕ, suc, ◌+◌, ◌-◌, ◌<◌, ◌≤◌}
use mathlib.Core.Path.{◌≡◌, refl, sym, ap, ◌∙◌}
use mathlib.Core.Bool.{true, false, cond, false≢true}
use mathlib.Core.Logic.{◌⊎◌, inl, inr}
use mathlib.Core.List.{List, [], ◌∷◌, ◌++◌, append_assoc, append-nil}
use native.Mathlib.Omega.{arith}
use lib.Dec.{eqb}
use lib.ListN.{length, take, drop, length-append, length-drop, drop_of_length-le}
use lib.Seq.{sets, sets-eq, length-sets, length-take-le, take_at, drop_at, drop-drop, take-add}
use Rattle.std.proofs.Common.{Some, None}
use Rattle.std.proofs.lemmas.List.{take_rest}
use Rattle.laws.proofs.Branches.{either}
use Rattle.device.specs.declared.Device.{Device}
use Rattle.frame.specs.declared.LineDone.{LineDone}
use Rattle.frame.specs.declared.gather.Gathered.{Gathered}
use Rattle.frame.specs.Gather.{up_to, ends, count_of, gathered_of, held_in}
use Rattle.frame.specs.Line.{line_outcome, text_of, line_done}
use Rattle.frame.specs.Blocks.{Fed, fed, after, feed, progress, Ran}
use Rattle.frame.proofs.Gathering.{no_line, a_line}
use Rattle.frame.proofs.Feeding.{feed-gathers, feed-line, feed-append}

-- ---- a text put behind the first m characters of a buffer

module _ (o t ys : List ℕ) (m : ℕ) (h : m + length t ≤ length o) (e : ys ≡ sets (take (length o - m) (drop m o)) 0 t) where
  put_text : take m o ++ (ys ++ drop (length o - m) (drop m o)) ≡ (take m o ++ t) ++ drop (m + length t) o
  put_text =
      let over : drop (length o - m) (drop m o) ≡ [] = drop_of_length-le (drop m o) {i = length o - m} (omega (arith, length-drop m o)) in
      let k : 0 + length t ≤ length (drop m o) = omega (arith, length-drop m o) in
      let n : m + (0 + length t) ≡ m + length t = omega arith in
      let z : drop (0 + length t) (drop m o) ≡ drop (m + length t) o = drop-drop (0 + length t) m o ∙ ap (λ (i : ℕ). drop i o) n in
      rw (e, take_rest o m, over, append-nil, sets-eq t (drop m o) 0 k, z) (sym (append_assoc (take m o) t (drop (m + length t) o)))

  front_length : length (take m o ++ t) ≡ m + length t
  front_length = omega (arith, length-append (take m o) t, length-take-le m o (omega arith))

  pub text_front : take (m + length t) (take m o ++ (ys ++ drop (length o - m) (drop m o))) ≡ take m o ++ t
  text_front = rw put_text (take_at (take m o ++ t) (drop (m + length t) o) (m + length t) front_length)

  pub text_rest : drop (m + length t) (take m o ++ (ys ++ drop (length o - m) (drop m o))) ≡ drop (m + length t) o
  text_rest = rw put_text (drop_at (take m o ++ t) (drop (m + length t) o) (m + length t) front_length)

  pub text_length : length (take m o ++ (ys ++ drop (length o - m) (drop m o))) ≡ length o
  text_length =
      rw put_text
      (omega (arith, length-append (take m o ++ t) (drop (m + length t) o), front_length, length-drop (m + length t) o))

-- ---- the characters that a line takes

-- at most all of them
pub used_le : (s : List ℕ) → length (up_to s) + cond (ends s) 1 0 ≤ length s
unfolding up_to ends
used_le [] = omega arith
used_le (c ∷ s) = either (eqb c 10) (λ e. rw e (omega arith)) (λ e. rw e (omega (arith, used_le s)))

-- and all where there is no LF
pub used_all : (s : List ℕ) → ends s ≡ false → length (up_to s) ≡ length s
unfolding up_to ends
used_all [] e = refl
used_all (c ∷ s) e = either (eqb c 10) (λ t. absurd (false≢true (sym (rw t at e)))) (λ t. rw t (ap suc (used_all s (rw t at e))))

-- ---- the run

-- of the block from place `at` the text up to place i stands in the first m characters of `out`; e, line and k are what was left there
pub record Running (d : Device) (line₀ : List ℕ) (n : ℕ) (block : List ℕ) (at : ℕ) (out₀ line out : List ℕ) (e : Device) (k i m : ℕ) : Type 0 where
  pub feeds : feed d line₀ n (take (i - at) (drop at block)) ≡ fed e line k (take m out)
  pub kept : drop m out ≡ drop m out₀
  pub same_line : length line ≡ length line₀
  pub same_out : length out ≡ length out₀
  pub fits : m ≤ length out₀
  pub from : at ≤ i
  pub moved : (m ≡ 0) ⊎ (at < i)
  pub within : at ≤ length block → i ≤ length block

-- the characters from `at` to j are those to i and those from i
pieces : (b : List ℕ) (at i j : ℕ) → at ≤ i → i ≤ j → take (j - at) (drop at b) ≡ take (i - at) (drop at b) ++ take (j - i) (drop i b)
pieces b at i j h k =
    let e : j - at ≡ (i - at) + (j - i) = omega arith in
    let f : at + (i - at) ≡ i = omega arith in
    rw e
    (take-add (i - at) (j - i) (drop at b)
    ∙ ap (λ (x : List ℕ). take (i - at) (drop at b) ++ take (j - i) x) (drop-drop (i - at) at b ∙ ap (λ (y : ℕ). drop y b) f))

nothing : (d : Device) (line : List ℕ) (n : ℕ) (block : List ℕ) (at : ℕ) → feed d line n (take (at - at) (drop at block)) ≡ fed d line n []
unfolding feed
nothing d line n block at = let z : at - at ≡ 0 = omega arith in rw z

module _ {d : Device} {line₀ : List ℕ} {n : ℕ} {block : List ℕ} {at : ℕ} {out₀ : List ℕ} where
  -- it begins
  pub starts : Running d line₀ n block at out₀ line₀ out₀ d n at 0
  starts =
      record {
        feeds = nothing d line₀ n block at;
        kept = refl;
        same_line = refl;
        same_out = refl;
        fits = omega arith;
        from = omega arith;
        moved = inl refl;
        within = λ h. h;
      }

  module _ {line out : List ℕ} {e : Device} {k i m : ℕ} (r : Running d line₀ n block at out₀ line out e k i m) where
    -- it gets on from i to j
    further : (j : ℕ) → i ≤ j → (e' : Device) (line' : List ℕ) (k' : ℕ) (x : List ℕ)
        → feed e line k (take (j - i) (drop i block)) ≡ fed e' line' k' x → feed d line₀ n (take (j - at) (drop at block)) ≡ fed e' line' k' (take m out ++ x)
    further j h e' line' k' x f =
        let t = take (j - i) (drop i block) in
        rw (pieces block at i j r.from h)
        (feed-append (take (i - at) (drop at block)) d line₀ n t
        ∙ ap (λ (y : Fed). after y.text (feed y.device y.line y.length t)) r.feeds
        ∙ ap (after (take m out)) f)

    module _ (in_block : i < length block) (g : Gathered) (ge : g ≡ gathered_of (length line) k (take (length block - i) (drop i block))) (line' : List ℕ)
        (le : line' ≡ sets line k (up_to (take (length block - i) (drop i block)))) where
      gathered-is : g ≡ gathered_of (length line) k (drop i block)
      gathered-is = rw take_rest at ge

      line-is : line' ≡ sets line k (up_to (drop i block))
      line-is = rw take_rest at le

      length-is : g.length ≡ count_of (length line) k (length (up_to (drop i block)))
      unfolding gathered_of
      length-is = rw gathered-is

      -- the block ends within a line
      pub stops_open : g.next ≡ None → Ran d line₀ n block at out₀ (progress e g.length (length block) m) line' out
      stops_open h =
          let o : ends (drop i block) ≡ false = no_line (length line) k (drop i block) (sym (ap (λ (x : Gathered). x.next) gathered-is) ∙ h) in
          let f : feed e line k (take (length block - i) (drop i block)) ≡ fed e line' g.length [] =
          rw (take_rest, line-is, length-is) (feed-gathers (drop i block) e line k o) in
          record {
            feeds = further (length block) (omega arith) e line' g.length [] f ∙ (rw append-nil);
            fits = r.fits;
            kept = r.kept;
            from = omega (arith, r.from);
            within = λ a. omega arith;
            moves = λ a b. omega (arith, r.from);
          }

      -- a line ends in it
      module _ (j : ℕ) (h : g.next ≡ Some j) where
        found : (ends (drop i block) ≡ true) × (j ≡ suc (length (up_to (drop i block))))
        found = a_line (length line) k (drop i block) j (sym (ap (λ (x : Gathered). x.next) gathered-is) ∙ h)

        -- not beyond the block
        pub next-within : i + j ≤ length block
        next-within =
            let o = found.0 in
            let u : length (up_to (drop i block)) + cond (ends (drop i block)) 1 0 ≤ length (drop i block) = used_le (drop i block) in
            let v : length (up_to (drop i block)) + 1 ≤ length (drop i block) = rw o at u in
            omega (arith, found.1, length-drop i block)

        pub goes-past : length block - (i + j) < length block - i
        goes-past = omega (arith, next-within, found.1)

        -- and is run: its text is behind the others
        module _ (room : 513 ≤ length out - m) (w : List ℕ) (we : w ≡ held_in line' g.length) (t : LineDone)
            (te : t ≡ line_done (line_outcome e w)) (short : t.length ≤ 513) (ys : List ℕ)
            (ye : ys ≡ sets (take (length out - m) (drop m out)) 0 (text_of (line_outcome e w))) where
          goes : feed e line k (take (i + j - i) (drop i block)) ≡ fed t.device line' 0 (text_of (line_outcome e w) ++ [])
          goes =
              let p : i + j - i ≡ suc (length (up_to (drop i block))) = omega (arith, found.1) in
              rw (te, we, p, length-is, line-is) (feed-line (drop i block) e line k found.0)

          text_is : t.length ≡ length (text_of (line_outcome e w))
          text_is = ap (λ (x : LineDone). x.length) te

          pub goes_on : Running d line₀ n block at out₀ line' (take m out ++ (ys ++ drop (length out - m) (drop m out))) t.device 0 (i + j) (m + t.length)
          goes_on =
              let x = text_of (line_outcome e w) in
              let f : m + length x ≤ length out = omega (arith, text_is, r.same_out, r.fits) in
              let tail : drop (m + length x) out ≡ drop (m + length x) out₀ =
              sym (drop-drop (length x) m out) ∙ ap (drop (length x)) r.kept ∙ drop-drop (length x) m out₀ in
              record {
                feeds = further (i + j) (omega arith) t.device line' 0 (x ++ []) goes ∙ (rw (text_is, text_front out x ys m f ye, append-nil));
                kept = rw text_is (text_rest out x ys m f ye ∙ tail);
                same_line = ap length line-is ∙ length-sets line k (up_to (drop i block)) ∙ r.same_line;
                same_out = text_length out x ys m f ye ∙ r.same_out;
                fits = omega (arith, text_is, r.same_out);
                from = omega (arith, r.from);
                moved = inr (omega (arith, r.from, found.1));
                within = λ a. next-within;
              }

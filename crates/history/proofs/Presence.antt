-- When a cause or a warning is present in a run, by the calls of the run.
-- Assumes nothing.
use Prim.Native.Nat.{ℕ, zero, suc, ◌<◌, ◌%◌}
use mathlib.Core.Path.{◌≡◌, refl, sym, ap, ap₂, ◌∙◌}
use mathlib.Core.Bool.{true, false}
use mathlib.Core.List.{List, [], ◌∷◌}
use native.Mathlib.Omega.{arith}
use lib.Dec.{ltb, ltb→lt}
use lib.ListN.{length, get_or}
use Rattle.laws.proofs.Every.{agree, each}
use Rattle.cause.specs.Causes.{causes, warnings, limit_of}
use Rattle.command.specs.Meaning.{command_of}
use Rattle.command.specs.Causes.{CausesAgree}
use Rattle.command.proofs.Causes.{causes-agree}
use Rattle.page.specs.declared.Page.{Page}
use Rattle.page.specs.declared.PageChoice.{PageChoice}
use Rattle.page.specs.Choice.{chosen_page}
use Rattle.page.specs.Presence.{line_of, Beyond, PresentExactly}
use Rattle.page.specs.Status.{reading}
use Rattle.page.proofs.Presence.{present-exactly}
use Rattle.unpaged.specs.declared.Unpaged.{Unpaged}
use Rattle.unpaged.specs.Unpaged.{power_on_unpaged}
use Rattle.reads.specs.Data.{word_bytes, read_data}
use Rattle.device.specs.Device.{Choice, number_of, choice_at, power_on, page_of}
use Rattle.device.specs.Step.{Call}
use Rattle.history.specs.Run.{reached}
use Rattle.history.specs.ReadBack.{latest, AllOnBus, stored, stored_at, starts_as, stores, written_data}
use Rattle.history.specs.Formats.{FormatsStay}
use Rattle.history.specs.Presence.{limit_row, data_word, limit_now, ever_measured, word_now, Crossed, PresentMeans}
use Rattle.history.proofs.Formats.{formats_stay}
use Rattle.history.proofs.ReadBack.{stored-page, measured-word, ever_measured_lem}
use Rattle.history.proofs.Stored.{PageField, limit-field, Row, each_at, rows}

-- ---- the limits among the stored codes

-- where each limit stands in the list of stored codes
abbrev places : List ℕ
places = 4 ∷ 7 ∷ 10 ∷ 13 ∷ 15 ∷ 19 ∷ 6 ∷ 9 ∷ 12 ∷ 17 ∷ 18 ∷ []

row_at : (m : ℕ) → m < 11 → stored_at (get_or places m 0) ≡ limit_row m
row_at zero h = refl
row_at (suc zero) h = refl
row_at (suc (suc zero)) h = refl
row_at (suc (suc (suc zero))) h = refl
row_at (suc (suc (suc (suc zero)))) h = refl
row_at (suc (suc (suc (suc (suc zero))))) h = refl
row_at (suc (suc (suc (suc (suc (suc zero)))))) h = refl
row_at (suc (suc (suc (suc (suc (suc (suc zero))))))) h = refl
row_at (suc (suc (suc (suc (suc (suc (suc (suc zero)))))))) h = refl
row_at (suc (suc (suc (suc (suc (suc (suc (suc (suc zero))))))))) h = refl
row_at (suc (suc (suc (suc (suc (suc (suc (suc (suc (suc zero)))))))))) h = refl
row_at (suc (suc (suc (suc (suc (suc (suc (suc (suc (suc (suc m))))))))))) h = absurd (omega arith)

module _ (m : ℕ) (h : m < 11) where
  place_small : get_or places m 0 < length stored
  place_small = ltb→lt (get_or places m 0) 21 (each (λ m. ltb (get_or places m 0) 21) 11 tt m h)

  code_at : (limit_of m).limit_code ≡ (limit_row m).0
  unfolding causes warnings
  code_at = agree (λ m. (limit_of m).limit_code) (λ m. (limit_row m).0) 11 tt m h

  limit-data : (u : Unpaged) (p : Page) → read_data u p (command_of (limit_of m).limit_code) ≡ word_bytes (get_or p.limits m 0)
  unfolding read_data CausesAgree
  limit-data u p = let same : m % 11 ≡ m = omega arith in rw ((causes-agree.0 m h).limit, same)

  field : PageField (limit_of m).limit_code
  field = limit-field m h

  field_word : (p : Page) → data_word (field.get p) ≡ get_or p.limits m 0
  field_word p =
      let w = get_or p.limits m 0 in
      ap data_word (sym (field.shown power_on_unpaged p) ∙ limit-data power_on_unpaged p) ∙ word_back w
    where
      word_back : (w : ℕ) → data_word (word_bytes w) ≡ w
      word_back w = omega arith

  field_start : (c : PageChoice) → field.get (chosen_page c) ≡ starts_as c (limit_row m)
  field_start c =
      sym (field.shown power_on_unpaged (chosen_page c))
      ∙ ap (λ (k : ℕ). read_data power_on_unpaged (chosen_page c) (command_of k)) code_at
      ∙ (rw (row_at m h) at (each_at (Row c) (0x00, []) stored (rows c) (get_or places m 0) place_small).powered)

-- ---- the words of a run

module _ (x : Choice) (cs : List Call) (i m : ℕ) (b : AllOnBus cs) (small : i < number_of x) (h : m < 11) where
  abbrev p : Page
  p = page_of (reached x cs) i

  abbrev q : ℕ
  q = (line_of m).0

  few : q < 4
  few = ltb→lt q 4 (each (λ m. ltb (line_of m).0 4) 11 tt m h)

  limit-now : get_or p.limits m 0 ≡ limit_now x cs i (limit_row m)
  limit-now =
      sym (field_word m h p)
      ∙ ap data_word
      (stored-page x cs i small (limit_of m).limit_code (field m h) b
      ∙ ap₂ (λ (code : ℕ) (start : List ℕ). latest (stores i code) written_data (power_on x) cs start) (code_at m h)
      (field_start m h (choice_at x i)))

  format_now : p.formats ≡ (choice_at x i).formats
  unfolding FormatsStay
  format_now = formats_stay x cs i small

  mark-now : get_or p.measured q false ≡ ever_measured x cs i q
  mark-now = ever_measured_lem x cs i small q few

  -- a quantity that was measured reads its latest word
  reads_word : get_or p.measured q false ≡ true → reading p q ≡ get_or p.words q 0
  unfolding reading
  reads_word seen = let same : q % 4 ≡ q = omega (arith, few) in rw (same, seen)

  word-now : get_or p.measured q false ≡ true → get_or p.words q 0 ≡ word_now x cs i q
  word-now seen = sym (reads_word seen) ∙ measured-word x cs i small q few

  crossed : Beyond p m (line_of m) → Crossed x cs i (limit_row m) (line_of m)
  crossed k = record { measured = sym mark-now ∙ k.measured; past = rw (format_now, word-now k.measured, limit-now) at k.past }

  beyond : Crossed x cs i (limit_row m) (line_of m) → Beyond p m (line_of m)
  beyond k =
      let seen : get_or p.measured q false ≡ true = mark-now ∙ k.measured in
      record { measured = seen; past = rw (format_now, word-now seen, limit-now) k.past }

pub present-means : PresentMeans
unfolding PresentMeans PresentExactly
present-means x cs i m b small h =
    let exact = present-exactly (page_of (reached x cs) i) m h in
    (λ e. crossed x cs i m b small h (exact.0 e), λ k. exact.1 (beyond x cs i m b small h k))

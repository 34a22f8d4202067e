-- The codes that keep what is written to them: what a read of each gives, and what a write of any code leaves of it.
-- Assumes nothing.
use Prim.Native.Nat.{ℕ, zero, suc, ◌<◌, ◌+◌, ◌*◌, ◌/◌, ◌%◌}
use mathlib.Core.Path.{◌≡◌, refl, ap, ◌∙◌}
use mathlib.Core.Bool.{true, false, cond}
use mathlib.Core.List.{List, [], ◌∷◌}
use native.Mathlib.Nat.{not-suc-le-zero, le_of_suc-le-suc}
use native.Mathlib.Omega.{arith}
use lib.Dec.{eqb}
use lib.ListN.{length, get_or, take}
use borrow.Author.Tests.{eqb-true}
use Rattle.laws.proofs.Branches.{either, cond-apply}
use Rattle.laws.proofs.Every.{agree, agree-test}
use Rattle.cause.specs.Causes.{causes, warnings, limit_of, response_of}
use Rattle.command.specs.Table.{table, entry_of, lookup}
use Rattle.command.specs.Meaning.{command_of, setting_of, fault_of}
use Rattle.command.specs.Causes.{CausesAgree}
use Rattle.command.proofs.Causes.{causes-agree}
use Rattle.value.specs.Format.{linear_format}
use Rattle.page.specs.declared.Page.{Page}
use Rattle.page.specs.Page.{power_on_page}
use Rattle.page.specs.declared.PageChoice.{PageChoice}
use Rattle.page.specs.Choice.{chosen_limits, chosen_page}
use Rattle.page.specs.Causes.{moved, settled, ticked}
use Rattle.page.specs.Settings.{set_measurement}
use Rattle.page.proofs.Chosen.{Sized}
use Rattle.unpaged.specs.declared.Unpaged.{Unpaged}
use Rattle.unpaged.specs.Unpaged.{power_on_unpaged}
use Rattle.writes.specs.Asked.{write_of, word_of}
use Rattle.writes.specs.Left.{page_left, unpaged_left}
use Rattle.reads.specs.Data.{word_bytes, read_data}
use Rattle.history.specs.ReadBack.{stored, starts_as, is_unpaged}
use Rattle.history.proofs.Effects.{page-code, protect_code}
use Rattle.history.proofs.Fields.{operation_code, command_code, limit-code, response-code}

-- the data of a write of c, as a code that has one byte or a word keeps them
byte-data : (code c x y old new : ℕ) → (lookup code).length ≡ 1 → new ≡ cond (eqb c code) x old
    → ◌≡◌ {A = List ℕ} (new ∷ []) (cond (eqb c code) (take (lookup c).length (x ∷ y ∷ [])) (old ∷ []))
byte-data code c x y old new one e =
    either (eqb c code)
    (λ same. let n : new ≡ x = e ∙ rw same in
    let k : (lookup c).length ≡ 1 = ap (λ (z : ℕ). (lookup z).length) (eqb-true c code same) ∙ one in
    rw (same, n, k))
    (λ other. let n : new ≡ old = e ∙ rw other in rw (other, n))

word-data : (code c x y old new : ℕ) → x < 256 → (lookup code).length ≡ 2 → new ≡ cond (eqb c code) (word_of x y) old
    → word_bytes new ≡ cond (eqb c code) (take (lookup c).length (x ∷ y ∷ [])) (word_bytes old)
unfolding word_of
word-data code c x y old new small two e =
    either (eqb c code)
    (λ same. let n : new ≡ x + y * 256 = e ∙ rw same in
    let k : (lookup c).length ≡ 2 = ap (λ (z : ℕ). (lookup z).length) (eqb-true c code same) ∙ two in
    let low : (x + y * 256) % 256 ≡ x = omega arith in
    let high : (x + y * 256) / 256 ≡ y = omega arith in
    rw (same, n, k, low, high))
    (λ other. let n : new ≡ old = e ∙ rw other in rw (other, n))

-- a code that each page has,
pub record PageField (code : ℕ) : Type 0 where
  pub get : Page → List ℕ
  pub shown : (u : Unpaged) (p : Page) → read_data u p (command_of code) ≡ get p
  pub paged : is_unpaged code ≡ false
  pub write_sets : (p : Page) → Sized p → (c x y : ℕ) → c < 256 → x < 256
      → get (page_left (write_of (command_of c) x (word_of x y)) p) ≡ cond (eqb c code) (take (lookup c).length (x ∷ y ∷ [])) (get p)
  pub measure_keeps : (p : Page) (q w : ℕ) → get (settled (set_measurement p q w)) ≡ get p
  pub tick_keeps : (p : Page) → get (ticked p) ≡ get p

-- and one of the device
pub record DeviceField (code : ℕ) : Type 0 where
  pub get : ℕ → ℕ → List ℕ
  pub shown : (u : Unpaged) (p : Page) → read_data u p (command_of code) ≡ get u.page u.protect
  pub unpaged : is_unpaged code ≡ true
  pub write_sets : (u : Unpaged) (c x y w : ℕ)
      → get (unpaged_left (write_of (command_of c) x w) u).page (unpaged_left (write_of (command_of c) x w) u).protect
      ≡ cond (eqb c code) (take (lookup c).length (x ∷ y ∷ [])) (get u.page u.protect)

page-field : DeviceField 0x00
unfolding command_of setting_of read_data lookup table entry_of
page-field = record {
  get = λ page protect. page ∷ [];
  shown = λ u p. refl;
  unpaged = refl;
  write_sets = λ u c x y w. byte-data 0x00 c x y u.page _ refl (page-code u c x w);
}

protect_field : DeviceField 0x10
unfolding command_of setting_of read_data lookup table entry_of
protect_field = record {
  get = λ page protect. protect ∷ [];
  shown = λ u p. refl;
  unpaged = refl;
  write_sets = λ u c x y w. byte-data 0x10 c x y u.protect _ refl (protect_code u c x w);
}

operation_field : PageField 0x01
unfolding command_of setting_of read_data lookup table entry_of settled moved ticked set_measurement
operation_field = record {
  get = λ p. p.operation ∷ [];
  shown = λ u p. refl;
  paged = refl;
  write_sets = λ p z c x y b h. byte-data 0x01 c x y p.operation _ refl (operation_code c x (word_of x y) p);
  measure_keeps = λ p q w. refl;
  tick_keeps = λ p. refl;
}

command_field : PageField 0x21
unfolding command_of setting_of read_data lookup table entry_of settled moved ticked set_measurement
command_field = record {
  get = λ p. word_bytes p.command;
  shown = λ u p. refl;
  paged = refl;
  write_sets = λ p z c x y b h. word-data 0x21 c x y p.command _ h refl (command_code c x (word_of x y) p);
  measure_keeps = λ p q w. refl;
  tick_keeps = λ p. refl;
}

module _ (k : ℕ) (small : k < 11) where
  limit-length : (lookup (limit_of k).limit_code).length ≡ 2
  unfolding causes warnings lookup table entry_of
  limit-length = agree (λ k. (lookup (limit_of k).limit_code).length) (λ k. 2) 11 tt k small

  limit-paged : is_unpaged (limit_of k).limit_code ≡ false
  unfolding causes warnings
  limit-paged = agree-test (λ k. is_unpaged (limit_of k).limit_code) (λ k. false) 11 tt k small

  pub limit-field : PageField (limit_of k).limit_code
  unfolding read_data settled moved ticked set_measurement CausesAgree
  limit-field =
      let same : k % 11 ≡ k = omega arith in
      record {
        get = λ p. word_bytes (get_or p.limits k 0);
        shown = λ u p. rw ((causes-agree.0 k small).limit, same);
        paged = limit-paged;
        write_sets = λ p z c x y b h. word-data _ c x y (get_or p.limits k 0) _ h limit-length (limit-code c x (word_of x y) p z k small b);
        measure_keeps = λ p q w. refl;
        tick_keeps = λ p. refl;
      }

module _ (k : ℕ) (small : k < 6) where
  response-length : (lookup (response_of k).response_code).length ≡ 1
  unfolding causes warnings lookup table entry_of
  response-length = agree (λ k. (lookup (response_of k).response_code).length) (λ k. 1) 6 tt k small

  response-paged : is_unpaged (response_of k).response_code ≡ false
  unfolding causes warnings
  response-paged = agree-test (λ k. is_unpaged (response_of k).response_code) (λ k. false) 6 tt k small

  response-field : PageField (response_of k).response_code
  unfolding read_data settled moved ticked set_measurement CausesAgree
  response-field =
      let same : k % 6 ≡ k = omega arith in
      record {
        get = λ p. get_or p.responses k 0 ∷ [];
        shown = λ u p. rw (causes-agree.1 k small, same);
        paged = response-paged;
        write_sets = λ p z c x y b h. byte-data _ c x y (get_or p.responses k 0) _ response-length (response-code c x (word_of x y) p z k small b);
        measure_keeps = λ p q w. refl;
        tick_keeps = λ p. refl;
      }

pub data Field (code : ℕ) : Type 0 where
  on_page : PageField code → Field code
  on_device : DeviceField code → Field code

-- each row of the table: its field, and its data after power-on
pub record Row (c : PageChoice) (r : ℕ × List ℕ) : Type 0 where
  pub field : Field r.0
  pub powered : read_data power_on_unpaged (chosen_page c) (command_of r.0) ≡ starts_as c r

-- P of every element of a list
infixr 5 ◌also◌
pub data Each {A : Type 0} (P : A → Type 0) : List A → Type 0 where
  none : Each P []
  ◌also◌ : {x : A} {l : List A} → P x → Each P l → Each P (x ∷ l)

pub each_at : {A : Type 0} (P : A → Type 0) (past : A) (l : List A) → Each P l → (m : ℕ) → m < length l → P (get_or l m past)
each_at P past [] none m h = absurd (not-suc-le-zero h)
each_at P past (x ∷ l) (e also es) zero h = e
each_at P past (x ∷ l) (e also es) (suc m) h = each_at P past l es m (le_of_suc-le-suc h)

-- a limit of format f, chosen as that of cause n or else w
starts : (c : PageChoice) (f n w : ℕ)
    → word_bytes (cond (get_or c.formats f linear_format).direct (get_or c.limits n 0) w)
    ≡ cond (get_or c.formats f linear_format).direct (word_bytes (get_or c.limits n 0)) (word_bytes w)
starts c f n w = cond-apply word_bytes (get_or c.formats f linear_format).direct (get_or c.limits n 0) w

pub rows : (c : PageChoice) → Each (Row c) stored
unfolding causes warnings command_of setting_of fault_of read_data power_on_unpaged power_on_page chosen_page chosen_limits starts_as
rows c =
    record { field = on_device page-field; powered = refl }
    also record { field = on_page operation_field; powered = refl }
    also record { field = on_device protect_field; powered = refl }
    also record { field = on_page command_field; powered = refl }
    also record { field = on_page (limit-field 0 (omega arith)); powered = refl }
    also record { field = on_page (response-field 0 (omega arith)); powered = refl }
    also record { field = on_page (limit-field 6 (omega arith)); powered = refl }
    also record { field = on_page (limit-field 1 (omega arith)); powered = starts c 0 1 0xD280 }
    also record { field = on_page (response-field 1 (omega arith)); powered = refl }
    also record { field = on_page (limit-field 7 (omega arith)); powered = starts c 0 1 0xD280 }
    also record { field = on_page (limit-field 2 (omega arith)); powered = starts c 2 2 0xEB70 }
    also record { field = on_page (response-field 2 (omega arith)); powered = refl }
    also record { field = on_page (limit-field 8 (omega arith)); powered = starts c 2 2 0xEB70 }
    also record { field = on_page (limit-field 3 (omega arith)); powered = starts c 2 3 0xEEC0 }
    also record { field = on_page (response-field 3 (omega arith)); powered = refl }
    also record { field = on_page (limit-field 4 (omega arith)); powered = starts c 1 4 0xD3FF }
    also record { field = on_page (response-field 4 (omega arith)); powered = refl }
    also record { field = on_page (limit-field 9 (omega arith)); powered = starts c 1 4 0xD3FF }
    also record { field = on_page (limit-field 10 (omega arith)); powered = starts c 1 5 0xC3F5 }
    also record { field = on_page (limit-field 5 (omega arith)); powered = starts c 1 5 0xC3F5 }
    also record { field = on_page (response-field 5 (omega arith)); powered = refl }
    also none

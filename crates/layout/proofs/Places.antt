-- A value stored at a place: it is read back there, and nothing that stands elsewhere changes.
-- Assumes nothing.
use Prim.Native.Nat.{ℕ, zero, suc, ◌+◌, ◌*◌, ◌-◌, ◌<◌, ◌≤◌}
use mathlib.Core.Path.{◌≡◌, refl, sym, ap, ap₂, ◌∙◌}
use mathlib.Core.Bool.{not}
use mathlib.Core.List.{List, ◌∷◌, ◌++◌, append_assoc}
use native.Mathlib.Omega.{arith}
use native.Mathlib.Nat.{mul-le-mul_right, not-suc-le-zero, le_of_suc-le-suc}
use lib.ListN.{length, get_or, set, take, drop, length-append, length-drop, take-append-drop, get_or-append}
use lib.Seq.{length-take-le, take-add, get_or-append-add, get_or-take, get_or-drop}
use lib.Dec.{eqb}
use Rattle.layout.specs.Form.{Form, octet, word, mark, both, array, via, get_all}
use Rattle.layout.specs.Layout.{part_fields, part_to, part_from, part_form, long_to, long_from, long, account_fields, account_to, account_from, account_form, unpaged_fields, unpaged_to, unpaged_from, unpaged_form, format_fields, format_to, format_from, format_form, formats_form, setting_fields, value_fields, page_fields, page_to, page_from, page_form, device_to, device_from, device_form, choice_fields, choice_to, choice_from, choice_form}
use Rattle.layout.proofs.Laws.{Back}

-- ---- reading looks at the bytes of the place alone

unfoldable pub Local : {A : Type 0} → Form A → Type 0
Local f = (s t : List ℕ) (o : ℕ) → ((i : ℕ) → o ≤ i → i < o + f.width → get_or s i 0 ≡ get_or t i 0) → f.get s o ≡ f.get t o

pub octet-local : Local octet
unfolding Local
octet-local s t o h = h o (omega arith) (omega arith)

word-local : Local word
unfolding Local
word-local s t o h = ap₂ (λ (x y : ℕ). x + y * 256) (h o (omega arith) (omega arith)) (h (o + 1) (omega arith) (omega arith))

mark-local : Local mark
unfolding Local
mark-local s t o h = ap (λ (x : ℕ). not (eqb x 0)) (h o (omega arith) (omega arith))

both-local : {A B : Type 0} (f : Form A) (g : Form B) → Local f → Local g → Local (both f g)
unfolding Local
both-local {A} {B} f g kf kg s t o h =
    ap₂ (λ (x : A) (y : B). (x, y)) (kf s t o (λ i lo hi. h i lo (omega arith))) (kg s t (o + f.width) (λ i lo hi. h i (omega arith) (omega arith)))

pub all_local : {A : Type 0} (f : Form A) → Local f → (n : ℕ) → Local (array n f)
unfolding Local
all_local f k zero s t o h = refl
all_local {A} f k (suc n) s t o h =
    let e : suc n * f.width ≡ f.width + n * f.width = omega arith in
    ap₂ (λ (x : A) (l : List A). x ∷ l) (k s t o (λ i lo hi. h i lo (omega arith)))
    (all_local f k n s t (o + f.width) (λ i lo hi. h i (omega arith) (omega arith)))

via-local : {A B : Type 0} (to : B → A) (from : A → B) (f : Form A) → Local f → Local (via to from f)
unfolding Local
via-local to from f k s t o h = ap from (k s t o h)

part-fields_local : Local part_fields
part-fields_local = both-local _ _ octet-local (both-local _ _ octet-local (both-local _ _ (all_local octet octet-local 11) (both-local _ _ octet-local (all_local octet octet-local 8))))

pub part-local : Local part_form
unfolding part_form
part-local = via-local part_to part_from part_fields part-fields_local

pair_local : Local (both word word)
pair_local = both-local word word word-local word-local

long-local : Local long
long-local = via-local long_to long_from (both word word) pair_local

account-fields_local : Local account_fields
account-fields_local = both-local _ _ word-local (both-local _ _ word-local long-local)

account-local : Local account_form
unfolding account_form
account-local = via-local account_to account_from account_fields account-fields_local

unpaged-fields_local : Local unpaged_fields
unpaged-fields_local = both-local _ _ octet-local (both-local _ _ octet-local (both-local _ _ octet-local (both-local _ _ mark-local account-local)))

pub unpaged-local : Local unpaged_form
unfolding unpaged_form
unpaged-local = via-local unpaged_to unpaged_from unpaged_fields unpaged-fields_local

settings_local : Local setting_fields
settings_local = both-local _ _ octet-local (both-local _ _ word-local (both-local _ _ (all_local word word-local 11) (both-local _ _ (all_local octet octet-local 6) (all_local octet octet-local 6))))

values_local : Local value_fields
values_local = both-local _ _ (all_local word word-local 4) (both-local _ _ (all_local mark mark-local 4) (both-local _ _ (all_local octet octet-local 4) mark-local))

format_fields-local : Local format_fields
format_fields-local = both-local _ _ mark-local (both-local _ _ word-local (both-local _ _ word-local octet-local))

format_local : Local format_form
unfolding format_form
format_local = via-local format_to format_from format_fields format_fields-local

formats_local : Local formats_form
formats_local = all_local format_form format_local 3

page-fields_local : Local page_fields
page-fields_local = both-local setting_fields (both value_fields formats_form) settings_local (both-local value_fields formats_form values_local formats_local)

pub page-local : Local page_form
unfolding page_form
page-local = via-local page_to page_from page_fields page-fields_local

device-fields_local : Local (both unpaged_form (array 8 page_form))
device-fields_local = both-local unpaged_form (array 8 page_form) unpaged-local (all_local page_form page-local 8)

pub device-local : Local device_form
unfolding device_form
device-local = via-local device_to device_from (both unpaged_form (array 8 page_form)) device-fields_local

choice-fields_local : Local choice_fields
choice-fields_local = both-local formats_form (array 6 word) formats_local (all_local word word-local 6)

pub choice-local : Local choice_form
unfolding choice_form
choice-local = via-local choice_to choice_from choice_fields choice-fields_local

-- ---- storing changes the bytes of the place alone

module _ {A : Type 0} (f : Form A) (k : Back f) (s : List ℕ) (o : ℕ) (x : A) (fits : f.Fits x) (room : o + f.width ≤ length s) where
  before : List ℕ
  before = take o s

  here : List ℕ
  here = take f.width (drop o s)

  behind : List ℕ
  behind = drop (o + f.width) s

  parts : s ≡ before ++ here ++ behind
  unfolding before here behind
  parts =
      sym (take-append-drop (o + f.width) s) ∙ ap (λ (t : List ℕ). t ++ drop (o + f.width) s) (take-add o f.width s)

  at_o : length before ≡ o
  unfolding before
  at_o = length-take-le o s (omega arith)

  wide : length here ≡ f.width
  unfolding here
  wide = let e = length-drop o s in length-take-le f.width (drop o s) (omega arith)

  after : f.store s o x ≡ before ++ f.put x ++ behind
  after = ap₂ (λ (t : List ℕ) (n : ℕ). f.store t n x) parts (sym at_o) ∙ k.stored x fits before here behind wide

  pub stored-parts : f.store s o x ≡ take o s ++ f.put x ++ drop (o + f.width) s
  unfolding before behind
  stored-parts = after

  pub read_back : f.get (f.store s o x) o ≡ x
  read_back = ap₂ (λ (t : List ℕ) (n : ℕ). f.get t n) after (sym at_o) ∙ k.back x fits before behind

  pub below : (i : ℕ) → i < o → get_or (f.store s o x) i 0 ≡ get_or s i 0
  unfolding before
  below i h =
      let n = at_o in
      ap (λ (t : List ℕ). get_or t i 0) (after ∙ append_assoc before (f.put x) behind)
      ∙ get_or-append before (f.put x ++ behind) 0 i (omega arith) ∙ get_or-take o s i 0 h

  pub above : (i : ℕ) → o + f.width ≤ i → get_or (f.store s o x) i 0 ≡ get_or s i 0
  unfolding behind
  above i h =
      let n = at_o in
      let m = k.sized x fits in
      let l = length-append before (f.put x) in
      let j = i - (o + f.width) in
      let e : i ≡ length (before ++ f.put x) + j = omega arith in
      let d : o + f.width + j ≡ i = omega arith in
      ap₂ (λ (t : List ℕ) (n : ℕ). get_or t n 0) after e
      ∙ get_or-append-add (before ++ f.put x) behind j 0 ∙ get_or-drop (o + f.width) s j 0 ∙ ap (λ (n : ℕ). get_or s n 0) d

  pub store_length : length (f.store s o x) ≡ length s
  unfolding behind
  store_length =
      let n = at_o in
      let m = k.sized x fits in
      ap length after
      ∙ length-append (before ++ f.put x) behind
      ∙ ap (λ (j : ℕ). j + length behind) (length-append before (f.put x))
      ∙ (let d = length-drop (o + f.width) s in omega arith)

-- a value stored over another
pub store_over : {A : Type 0} (f : Form A) → Back f → (s : List ℕ) (o : ℕ) (x y : A) → f.Fits x → f.Fits y → o + f.width ≤ length s
    → f.store (f.store s o x) o y ≡ f.store s o y
store_over f k s o x y fx fy room =
    ap₂ (λ (t : List ℕ) (n : ℕ). f.store t n y) (stored-parts f k s o x fx room) (sym (length-take-le o s (omega arith)))
    ∙ k.stored y fy (take o s) (f.put x) (drop (o + f.width) s) (k.sized x fx)
    ∙ sym (stored-parts f k s o y fy room)

-- ---- an element of an array stored: the array with that element set

module _ {A : Type 0} (f : Form A) (k : Back f) (close : Local f) where
  pub get_at : (n i : ℕ) (s : List ℕ) (o : ℕ) (d : A) → i < n → get_or (get_all f n s o) i d ≡ f.get s (o + i * f.width)
  get_at zero i s o d h = absurd (not-suc-le-zero h)
  get_at (suc n) zero s o d h = let e : o + 0 * f.width ≡ o = omega arith in rw e
  get_at (suc n) (suc i) s o d h =
      let e : o + suc i * f.width ≡ o + f.width + i * f.width = omega arith in
      rw e (get_at n i s (o + f.width) d (le_of_suc-le-suc h))

  module _ (x : A) (fits : f.Fits x) where
    -- the elements behind the place where x is stored
    pub behind_kept : (n : ℕ) (s : List ℕ) (o : ℕ) → o + f.width ≤ length s → get_all f n (f.store s o x) (o + f.width) ≡ get_all f n s (o + f.width)
    unfolding Local
    behind_kept n s o room = all_local f close n (f.store s o x) s (o + f.width) (λ i lo hi. above f k s o x fits room i lo)

    -- and one before it
    pub before_kept : (s : List ℕ) (o m : ℕ) → o + f.width ≤ m → m + f.width ≤ length s → f.get (f.store s m x) o ≡ f.get s o
    unfolding Local
    before_kept s o m apart room = close (f.store s m x) s o (λ i lo hi. below f k s m x fits room i (omega arith))

    pub array-set : (n i : ℕ) (s : List ℕ) (o : ℕ) → i < n → o + n * f.width ≤ length s
        → get_all f n (f.store s (o + i * f.width) x) o ≡ set (get_all f n s o) i x
    array-set zero i s o h room = absurd (not-suc-le-zero h)
    array-set (suc n) zero s o h room =
        let e : o + 0 * f.width ≡ o = omega arith in
        let one : o + f.width ≤ length s = omega (arith, mul-le-mul_right {m = 1} {n = suc n} f.width (omega arith)) in
        rw e (ap₂ (λ (y : A) (l : List A). y ∷ l) (read_back f k s o x fits one) (behind_kept n s o one))
    array-set (suc n) (suc i) s o h room =
        let m = o + suc i * f.width in
        let e : m ≡ o + f.width + i * f.width = omega arith in
        let small = le_of_suc-le-suc h in
        let apart : o + f.width ≤ m = omega arith in
        let least : m + f.width ≤ length s = omega (arith, mul-le-mul_right {m = suc (suc i)} {n = suc n} f.width h) in
        let rest : o + f.width + n * f.width ≤ length s = omega arith in
        ap₂ (λ (y : A) (l : List A). y ∷ l) (before_kept s o m apart least)
        (ap (λ (j : ℕ). get_all f n (f.store s j x) (o + f.width)) e ∙ array-set n i s (o + f.width) small rest)

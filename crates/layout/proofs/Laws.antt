-- Decoding what was encoded gives it back, wherever it stands.
-- Assumes nothing.
use Prim.Native.Nat.{ℕ, zero, suc, ◌+◌, ◌-◌, ◌*◌, ◌/◌, ◌%◌, ◌<◌, ◌≤◌}
use mathlib.Core.Path.{◌≡◌, refl, sym, ap, ap₂, ◌∙◌}
use mathlib.Core.Bool.{Bool, true, false, cond, not}
use mathlib.Core.List.{List, [], ◌∷◌, ◌++◌, append_assoc}
use native.Mathlib.Omega.{arith}
use native.Mathlib.Numerals.{add-one}
use lib.ListN.{length, get_or, set, take, drop, length-append, length-drop, take-append-drop, drop_of_length-le}
use lib.Seq.{get_or-append_seam, get_or-append-add, set-append_seam, append_snoc, length-take-le, drop-cons, take-length}
use Rattle.std.proofs.lemmas.List.{take_more_set}
use lib.Dec.{eqb}
use Rattle.laws.specs.Lists.{all_of}
use Rattle.value.specs.declared.format.Format.{Format}
use Rattle.unpaged.specs.declared.Unpaged.{Unpaged}
use Rattle.layout.specs.Form.{Form, store_byte, store_word, store_mark, octet, word, mark, both, array, via, put_all, get_all, store_all, FitAll}
use Rattle.layout.specs.Layout.{part_fields, part_to, part_from, part_form, long_to, long_from, long, account_fields, account_to, account_from, account_form, unpaged_fields, unpaged_to, unpaged_from, unpaged_form, format_to, format_from, format_fields, format_form, formats_form, setting_fields, value_fields, page_to, page_from, page_fields, page_form, device_to, device_from, device_form, state_to, state_from, state_form, choice_to, choice_from, choice_fields, choice_form}

-- the value stands between any bytes a and b
pub record Back {A : Type 0} (f : Form A) : Type 0 where
  pub sized : (x : A) → f.Fits x → length (f.put x) ≡ f.width
  pub back : (x : A) → f.Fits x → (a b : List ℕ) → f.get (a ++ f.put x ++ b) (length a) ≡ x
  -- and storing it puts its bytes in the place of as many
  pub stored : (x : A) → f.Fits x → (a c b : List ℕ) → length c ≡ f.width → f.store (a ++ c ++ b) (length a) x ≡ a ++ f.put x ++ b

seam : (a : List ℕ) (x : ℕ) (l b : List ℕ) → get_or (a ++ (x ∷ l) ++ b) (length a) 0 ≡ x
seam a x l b = ap (λ (t : List ℕ). get_or t (length a) 0) (append_assoc a (x ∷ l) b) ∙ get_or-append_seam a x (l ++ b) 0

next : (a : List ℕ) (x y : ℕ) (l b : List ℕ) → get_or (a ++ (x ∷ y ∷ l) ++ b) (length a + 1) 0 ≡ y
next a x y l b = ap (λ (t : List ℕ). get_or t (length a + 1) 0) (append_assoc a (x ∷ y ∷ l) b) ∙ get_or-append-add a (x ∷ y ∷ (l ++ b)) 1 0

-- one byte, and two
set-one : (x : ℕ) (a c b : List ℕ) → length c ≡ 1 → set (a ++ c ++ b) (length a) x ≡ a ++ (x ∷ []) ++ b
set-one x a [] b e = absurd (omega arith)
set-one x a (y ∷ []) b e =
    ap (λ (t : List ℕ). set t (length a) x) (append_assoc a (y ∷ []) b) ∙ set-append_seam a y b x ∙ sym (append_assoc a (x ∷ []) b)
set-one x a (y ∷ z ∷ c) b e = absurd (omega arith)

set-two : (x y : ℕ) (a c b : List ℕ) → length c ≡ 2 → set (set (a ++ c ++ b) (length a) x) (length a + 1) y ≡ a ++ (x ∷ y ∷ []) ++ b
set-two x y a [] b e = absurd (omega arith)
set-two x y a (u ∷ c) b e =
    let n : length a + 1 ≡ length (a ++ x ∷ []) = sym (length-append a (x ∷ [])) in
    let m : length c ≡ 1 = omega arith in
    ap₂ (λ (t : List ℕ) (k : ℕ). set t k y)
    (ap (λ (t : List ℕ). set t (length a) x) (append_assoc a (u ∷ c) b) ∙ set-append_seam a u (c ++ b) x ∙ sym (append_snoc a x (c ++ b)) ∙ sym (append_assoc (a ++ x ∷ []) c b)) n
    ∙ set-one y (a ++ x ∷ []) c b m
    ∙ ap (λ (t : List ℕ). t ++ b) (append_assoc a (x ∷ []) (y ∷ []))

pub octet-back : Back octet
unfolding store_byte
octet-back = record { sized = λ x h. refl; back = λ x h a b. seam a x [] b; stored = λ x h a c b e. set-one x a c b e }

pub word_back : Back word
unfolding store_word
word_back = record {
  sized = λ x h. refl;
  back = λ w h a b. rw (seam a (w % 256) (w / 256 ∷ []) b, next a (w % 256) (w / 256) [] b) (join w);
  stored = λ w h a c b e. set-two (w % 256) (w / 256) a c b e;
}
  where
    join : (w : ℕ) → w % 256 + w / 256 * 256 ≡ w
    join w = omega arith

pub mark-back : Back mark
unfolding store_mark
mark-back = record { sized = λ x h. refl; back = λ x h a b. ap (λ (n : ℕ). not (eqb n 0)) (seam a (cond x 1 0) [] b) ∙ same x; stored = λ x h a c b e. set-one (cond x 1 0) a c b e }
  where
    same : (x : Bool) → not (eqb (cond x 1 0) 0) ≡ x
    same true = refl
    same false = refl

around : (a p q b : List ℕ) {c : List ℕ} → c ≡ p ++ q → a ++ c ++ b ≡ a ++ p ++ (q ++ b)
around a p q b e =
    ap (λ (t : List ℕ). a ++ t ++ b) e ∙ ap (λ (t : List ℕ). t ++ b) (sym (append_assoc a p q)) ∙ append_assoc (a ++ p) q b

module _ {A B : Type 0} (f : Form A) (g : Form B) (kf : Back f) (kg : Back g) where
  both_first : (x : A) (y : B) → f.Fits x → (a b : List ℕ) → f.get (a ++ (f.put x ++ g.put y) ++ b) (length a) ≡ x
  both_first x y h a b =
      ap (λ (t : List ℕ). f.get t (length a)) (append_assoc a (f.put x ++ g.put y) b ∙ ap (λ (t : List ℕ). a ++ t) (append_assoc (f.put x) (g.put y) b)
      ∙ sym (append_assoc a (f.put x) (g.put y ++ b)))
      ∙ kf.back x h a (g.put y ++ b)

  both-second : (x : A) (y : B) → f.Fits x → g.Fits y → (a b : List ℕ) → g.get (a ++ (f.put x ++ g.put y) ++ b) (length a + f.width) ≡ y
  both-second x y h k a b =
      let n : length a + f.width ≡ length (a ++ f.put x) = ap (λ (m : ℕ). length a + m) (sym (kf.sized x h)) ∙ sym (length-append a (f.put x)) in
      ap₂ (λ (t : List ℕ) (m : ℕ). g.get t m) (ap (λ (t : List ℕ). t ++ b) (sym (append_assoc a (f.put x) (g.put y)))) n
      ∙ kg.back y k (a ++ f.put x) b

  both_stored : (x : A) (y : B) → f.Fits x → g.Fits y → (a c b : List ℕ) → length c ≡ f.width + g.width
      → g.store (f.store (a ++ c ++ b) (length a) x) (length a + f.width) y ≡ a ++ (f.put x ++ g.put y) ++ b
  both_stored x y h k a c b e =
      let w = f.width in
      let n : length a + w ≡ length (a ++ f.put x) = ap (λ (m : ℕ). length a + m) (sym (kf.sized x h)) ∙ sym (length-append a (f.put x)) in
      let first : length (take w c) ≡ w = length-take-le w c (omega arith) in
      let rest : length (drop w c) ≡ g.width = length-drop w c ∙ omega arith in
      ap₂ (λ (t : List ℕ) (m : ℕ). g.store t m y)
      (ap (λ (t : List ℕ). f.store t (length a) x) (around a (take w c) (drop w c) b (sym (take-append-drop w c)))
      ∙ kf.stored x h a (take w c) (drop w c ++ b) first ∙ sym (append_assoc (a ++ f.put x) (drop w c) b)) n
      ∙ kg.stored y k (a ++ f.put x) (drop w c) b rest
      ∙ ap (λ (t : List ℕ). t ++ b) (append_assoc a (f.put x) (g.put y))

  pub both-back : Back (both f g)
  both-back = record {
    sized = λ x h. length-append (f.put x.0) (g.put x.1) ∙ ap₂ ◌+◌ (kf.sized x.0 h.0) (kg.sized x.1 h.1);
    back = λ x h a b. ap₂ (λ (u : A) (v : B). (u, v)) (both_first x.0 x.1 h.0 a b) (both-second x.0 x.1 h.0 h.1 a b);
    stored = λ x h a c b e. both_stored x.0 x.1 h.0 h.1 a c b e;
  }

module _ {A : Type 0} (f : Form A) where
  -- one element more of an array that is read
  get_all_more : (n : ℕ) (s : List ℕ) (o : ℕ) → get_all f (n + 1) s o ≡ get_all f n s o ++ f.get s (o + n * f.width) ∷ []
  get_all_more zero s o = let e : o + 0 * f.width ≡ o = omega arith in rw e refl
  get_all_more (suc n) s o =
      let e : o + suc n * f.width ≡ o + f.width + n * f.width = omega arith in
      rw (add-one, e) (ap (λ (l : List A). f.get s o ∷ l) (sym (ap (λ (m : ℕ). get_all f m s (o + f.width)) (add-one n)) ∙ get_all_more n s (o + f.width)))

  -- a turn of the loop that reads an array
  pub load_turn : (n : ℕ) (s : List ℕ) (o at : ℕ) (l : List A) (x : A) → n < length l → at ≡ o + n * f.width → take n l ≡ get_all f n s o
      → x ≡ f.get s at → take (n + 1) (set l n x) ≡ get_all f (n + 1) s o
  load_turn n s o at l x h e k r = rw (take_more_set l n x h, get_all_more n s o, k, r, e)

  pub load_end : (n i : ℕ) (s : List ℕ) (o : ℕ) (l : List A) → length l ≡ n → n ≤ i → i ≤ length l → take i l ≡ get_all f i s o → l ≡ get_all f n s o
  load_end n i s o l e h k t =
      let m : i ≡ length l = omega arith in
      sym (take-length l) ∙ ap (λ (j : ℕ). take j l) (sym m) ∙ t ∙ ap (λ (j : ℕ). get_all f j s o) (m ∙ e)

  -- a turn of the loop that tests an array: what is left to test gives the whole
  pub tested_turn : (p : A → Bool) (n i : ℕ) (s : List ℕ) (at next : ℕ) (whole r : Bool) → i < n → r ≡ p (f.get s at) → r ≡ true → next ≡ at + f.width
      → all_of p (get_all f (n - i) s at) ≡ whole → all_of p (get_all f (n - (i + 1)) s next) ≡ whole
  tested_turn p n i s at next whole r h e y k w =
      let m : n - i ≡ suc (n - (i + 1)) = omega arith in
      rw k (rw (m, sym e ∙ y) at w)

  -- and one that is not valid decides
  pub tested_not : (p : A → Bool) (n i : ℕ) (s : List ℕ) (at : ℕ) (whole : Bool) → i < n → p (f.get s at) ≡ false
      → all_of p (get_all f (n - i) s at) ≡ whole → false ≡ whole
  tested_not p n i s at whole h e w =
      let m : n - i ≡ suc (n - (i + 1)) = omega arith in
      rw (m, e) at w

  -- a turn of the loop that stores an array: what is left to store gives the whole
  pub store_step : (s : List ℕ) (k i : ℕ) (l : List A) → i < length l
      → store_all f (f.store s k (get_or l i f.none)) (k + f.width) (drop (i + 1) l) ≡ store_all f s k (drop i l)
  store_step s k i l h = rw (add-one, drop-cons l i f.none h)

  pub store_end : (s : List ℕ) (k i : ℕ) (l : List A) → length l ≤ i → store_all f s k (drop i l) ≡ s
  store_end s k i l h = rw (drop_of_length-le l {i = i} h)

module _ {A : Type 0} (f : Form A) (k : Back f) where
  all_sized : (l : List A) → FitAll f l → length (put_all f l) ≡ length l * f.width
  all_sized [] h = sym (zero_times f.width)
    where
      zero_times : (n : ℕ) → 0 * n ≡ 0
      zero_times n = omega arith
  all_sized (x ∷ l) h =
      length-append (f.put x) (put_all f l) ∙ ap₂ ◌+◌ (k.sized x h.0) (all_sized l h.1) ∙ one_more (length l) f.width
    where
      one_more : (n w : ℕ) → w + n * w ≡ suc n * w
      one_more n w = omega arith

  all_back : (l : List A) → FitAll f l → (a b : List ℕ) → get_all f (length l) (a ++ put_all f l ++ b) (length a) ≡ l
  all_back [] h a b = refl
  all_back (x ∷ l) h a b =
      let n : length a + f.width ≡ length (a ++ f.put x) = ap (λ (m : ℕ). length a + m) (sym (k.sized x h.0)) ∙ sym (length-append a (f.put x)) in
      ap₂ (λ (u : A) (v : List A). u ∷ v)
      (ap (λ (t : List ℕ). f.get t (length a)) (append_assoc a (f.put x ++ put_all f l) b ∙ ap (λ (t : List ℕ). a ++ t) (append_assoc (f.put x) (put_all f l) b)
      ∙ sym (append_assoc a (f.put x) (put_all f l ++ b)))
      ∙ k.back x h.0 a (put_all f l ++ b))
      (ap₂ (λ (t : List ℕ) (m : ℕ). get_all f (length l) t m) (ap (λ (t : List ℕ). t ++ b) (sym (append_assoc a (f.put x) (put_all f l)))) n
      ∙ all_back l h.1 (a ++ f.put x) b)

  all_stored : (l : List A) → FitAll f l → (a c b : List ℕ) → length c ≡ length l * f.width → store_all f (a ++ c ++ b) (length a) l ≡ a ++ put_all f l ++ b
  all_stored [] h a [] b e = refl
  all_stored [] h a (y ∷ c) b e = absurd (omega arith)
  all_stored (x ∷ l) h a c b e =
      let w = f.width in
      let n : length a + w ≡ length (a ++ f.put x) = ap (λ (m : ℕ). length a + m) (sym (k.sized x h.0)) ∙ sym (length-append a (f.put x)) in
      let whole : length c ≡ w + length l * w = e ∙ one_more (length l) w in
      let first : length (take w c) ≡ w = length-take-le w c (omega arith) in
      let rest : length (drop w c) ≡ length l * w = length-drop w c ∙ omega arith in
      ap₂ (λ (t : List ℕ) (m : ℕ). store_all f t m l)
      (ap (λ (t : List ℕ). f.store t (length a) x) (around a (take w c) (drop w c) b (sym (take-append-drop w c)))
      ∙ k.stored x h.0 a (take w c) (drop w c ++ b) first ∙ sym (append_assoc (a ++ f.put x) (drop w c) b)) n
      ∙ all_stored l h.1 (a ++ f.put x) (drop w c) b rest
      ∙ ap (λ (t : List ℕ). t ++ b) (append_assoc a (f.put x) (put_all f l))
    where
      one_more : (n w : ℕ) → suc n * w ≡ w + n * w
      one_more n w = omega arith

  pub array_back : (n : ℕ) → Back (array n f)
  array_back n = record {
    sized = λ l h. all_sized l h.1 ∙ ap (λ (m : ℕ). m * f.width) h.0;
    back = λ l h a b. ap (λ (m : ℕ). get_all f m (a ++ put_all f l ++ b) (length a)) (sym h.0) ∙ all_back l h.1 a b;
    stored = λ l h a c b e. all_stored l h.1 a c b (e ∙ ap (λ (m : ℕ). m * f.width) (sym h.0));
  }

module _ {A B : Type 0} (to : B → A) (from : A → B) (f : Form A) (k : Back f) (same : (x : B) → from (to x) ≡ x) where
  pub via-back : Back (via to from f)
  via-back = record {
    sized = λ x h. k.sized (to x) h;
    back = λ x h a b. ap from (k.back (to x) h a b) ∙ same x;
    stored = λ x h a c b e. k.stored (to x) h a c b e;
  }

-- ---- the layout

pub part-back : Back part_form
unfolding part_form
part-back =
    via-back part_to part_from part_fields
    (both-back _ _ octet-back (both-back _ _ octet-back (both-back _ _ (array_back octet octet-back 11) (both-back _ _ octet-back (array_back octet octet-back 8)))))
    (λ p. refl)

long-back : Back long
long-back = via-back long_to long_from (both word word) (both-back _ _ word_back word_back) joined
  where
    joined : (n : ℕ) → long_from (long_to n) ≡ n
    joined n = omega arith

account-back : Back account_form
unfolding account_form
account-back = via-back account_to account_from account_fields (both-back _ _ word_back (both-back _ _ word_back long-back)) (λ a. refl)

pub unpaged-back : Back unpaged_form
unfolding unpaged_form
unpaged-back =
    via-back unpaged_to unpaged_from unpaged_fields
    (both-back _ _ octet-back (both-back _ _ octet-back (both-back _ _ octet-back (both-back _ _ mark-back account-back))))
    (λ u. refl)

-- every unpaged part fits
pub unpaged-fits : (u : Unpaged) → unpaged_form.Fits u
unfolding unpaged_form account_form
unpaged-fits u = (tt, (tt, (tt, (tt, (tt, (tt, (tt, tt)))))))

settings_back : Back setting_fields
settings_back = both-back _ _ octet-back (both-back _ _ word_back (both-back _ _ (array_back word word_back 11) (both-back _ _ (array_back octet octet-back 6) (array_back octet octet-back 6))))

values_back : Back value_fields
values_back =
    both-back _ _ (array_back word word_back 4) (both-back _ _ (array_back mark mark-back 4) (both-back _ _ (array_back octet octet-back 4) mark-back))

pub format_back : Back format_form
unfolding format_form
format_back = via-back format_to format_from format_fields (both-back _ _ mark-back (both-back _ _ word_back (both-back _ _ word_back octet-back))) (λ f. refl)

-- every format fits
pub format_fits : (f : Format) → format_form.Fits f
unfolding format_form
format_fits f = (tt, (tt, (tt, tt)))

pub page-back : Back page_form
unfolding page_form
page-back =
    via-back page_to page_from page_fields
    (both-back setting_fields (both value_fields formats_form) settings_back (both-back value_fields formats_form values_back (array_back format_form format_back 3)))
    (λ p. refl)

pub device-back : Back device_form
unfolding device_form
device-back = via-back device_to device_from (both unpaged_form (array 8 page_form)) (both-back unpaged_form (array 8 page_form) unpaged-back (array_back page_form page-back 8)) (λ d. refl)

pub state-back : Back state_form
unfolding state_form
state-back = via-back state_to state_from (both part_form device_form) (both-back part_form device_form part-back device-back) (λ s. refl)

pub choice-back : Back choice_form
unfolding choice_form
choice-back =
    via-back choice_to choice_from choice_fields (both-back formats_form (array 6 word) (array_back format_form format_back 3) (array_back word word_back 6)) (λ c. refl)

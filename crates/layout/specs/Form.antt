-- How values stand in a buffer of bytes. A form has a width, the bytes of a value, and the value that stands at a place; forms are put together
-- from a byte, a word (low byte first) and a mark (one byte, 0 or 1; any other byte reads as 1).
-- Assumes nothing.
use Rattle.std.specs.Prelude.{ℕ, zero, suc, ◌+◌, ◌*◌, ◌/◌, ◌%◌, ◌≡◌, Bool, false, cond, not, List, [], ◌∷◌, ◌++◌, length, get_or, set, eqb}

pub record Form (A : Type 0) : Type 1 where
  pub width : ℕ
  pub put : A → List ℕ
  pub get : List ℕ → ℕ → A
  -- the value stored at a place, byte by byte
  pub store : List ℕ → ℕ → A → List ℕ
  -- what stands past the end of an array
  pub none : A
  -- the values that the code's type has
  pub Fits : A → Type 0

-- kept shut, so that a line of such calls stays small
unfoldable pub store_byte : List ℕ → ℕ → ℕ → List ℕ
store_byte s o x = set s o x

unfoldable pub store_word : List ℕ → ℕ → ℕ → List ℕ
store_word s o w = set (set s o (w % 256)) (o + 1) (w / 256)

unfoldable pub store_mark : List ℕ → ℕ → Bool → List ℕ
store_mark s o b = set s o (cond b 1 0)

abbrev pub octet : Form ℕ
octet = record { width = 1; put = λ x. x ∷ []; get = λ s o. get_or s o 0; store = store_byte; none = 0; Fits = λ x. Unit }

abbrev pub word : Form ℕ
word = record {
  width = 2;
  put = λ w. w % 256 ∷ w / 256 ∷ [];
  get = λ s o. get_or s o 0 + get_or s (o + 1) 0 * 256;
  store = store_word;
  none = 0;
  Fits = λ x. Unit;
}

abbrev pub mark : Form Bool
mark = record { width = 1; put = λ b. cond b 1 0 ∷ []; get = λ s o. not (eqb (get_or s o 0) 0); store = store_mark; none = false; Fits = λ b. Unit }

-- one after the other
abbrev pub both : {A B : Type 0} → Form A → Form B → Form (A × B)
both f g = record {
  width = f.width + g.width;
  put = λ x. f.put x.0 ++ g.put x.1;
  get = λ s o. (f.get s o, g.get s (o + f.width));
  store = λ s o x. g.store (f.store s o x.0) (o + f.width) x.1;
  none = (f.none, g.none);
  Fits = λ x. f.Fits x.0 × g.Fits x.1;
}

-- an array of n
abbrev pub put_all : {A : Type 0} → Form A → List A → List ℕ
put_all f [] = []
put_all f (x ∷ l) = f.put x ++ put_all f l

abbrev pub get_all : {A : Type 0} → Form A → ℕ → List ℕ → ℕ → List A
get_all f zero s o = []
get_all f (suc n) s o = f.get s o ∷ get_all f n s (o + f.width)

abbrev pub store_all : {A : Type 0} → Form A → List ℕ → ℕ → List A → List ℕ
store_all f s o [] = s
store_all f s o (x ∷ l) = store_all f (f.store s o x) (o + f.width) l

abbrev pub FitAll : {A : Type 0} → Form A → List A → Type 0
FitAll f [] = Unit
FitAll f (x ∷ l) = f.Fits x × FitAll f l

abbrev pub array : {A : Type 0} → ℕ → Form A → Form (List A)
array n f = record {
  width = n * f.width;
  put = put_all f;
  get = get_all f n;
  store = store_all f;
  none = [];
  Fits = λ l. (length l ≡ n) × FitAll f l;
}

-- another type's values by those of a form
abbrev pub via : {A B : Type 0} → (B → A) → (A → B) → Form A → Form B
via to from f = record {
  width = f.width;
  put = λ x. f.put (to x);
  get = λ s o. from (f.get s o);
  store = λ s o x. f.store s o (to x);
  none = from f.none;
  Fits = λ x. f.Fits (to x);
}

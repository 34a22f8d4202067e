-- A page whose arrays have the lengths of the code's arrays fits its place in a buffer.
-- Assumes nothing.
use Prim.Native.Nat.{ℕ}
use mathlib.Core.Path.{◌≡◌, refl}
use mathlib.Core.List.{List, [], ◌∷◌}
use lib.ListN.{length}
use Rattle.page.specs.declared.Page.{Page}
use Rattle.layout.specs.Form.{Form, octet, word, mark, FitAll}
use Rattle.layout.specs.Layout.{format_form, page_form}
use Rattle.layout.proofs.Laws.{format_fits}

pub record Shape (p : Page) : Type 0 where
  pub limits : length p.limits ≡ 11
  pub responses : length p.responses ≡ 6
  pub machines : length p.machines ≡ 6
  pub words : length p.words ≡ 4
  pub measured : length p.measured ≡ 4
  pub status : length p.status ≡ 4
  pub formats : length p.formats ≡ 3

pub all_fit : {A : Type 0} (f : Form A) → ((x : A) → f.Fits x) → (l : List A) → FitAll f l
all_fit f h [] = tt
all_fit f h (x ∷ l) = (h x, all_fit f h l)

pub shape_fits : (p : Page) → Shape p → page_form.Fits p
unfolding page_form
shape_fits p h = (
  (tt, (tt, ((h.limits, all_fit word (λ x. tt) p.limits), ((h.responses, all_fit octet (λ x. tt) p.responses), (h.machines, all_fit octet (λ x. tt) p.machines))))),
  (
    ((h.words, all_fit word (λ x. tt) p.words), ((h.measured, all_fit mark (λ x. tt) p.measured), ((h.status, all_fit octet (λ x. tt) p.status), tt))),
    (h.formats, all_fit format_form format_fits p.formats),
  ),
)

-- every page that is read from a buffer
pub got_shape : (s : List ℕ) (o : ℕ) → Shape (page_form.get s o)
unfolding page_form
got_shape s o = record { limits = refl; responses = refl; machines = refl; words = refl; measured = refl; status = refl; formats = refl }

-- Every page selected: each page is left as the write leaves it; and the codes without a page, by computation at each of the 256.
-- Assumes nothing.
use Prim.Native.Nat.{ℕ, ◌<◌}
use mathlib.Core.Path.{◌≡◌, refl, sym, ap, ◌∙◌}
use mathlib.Core.Bool.{Bool, true, false, not, ◌&&◌, or-true, false≢true}
use mathlib.Core.List.{List, []}
use lib.Dec.{eqb}
use lib.ListN.{length, get_or, replicate}
use borrow.Author.Tests.{eqb-true, eq-eqb, lt-ltb}
use Rattle.laws.proofs.Branches.{either}
use Rattle.laws.proofs.Every.{agree-test}
use Rattle.laws.proofs.Places.{get_or-map_at}
use Rattle.account.specs.Account.{ein_bytes}
use Rattle.command.specs.Table.{table, entry_of, lookup}
use Rattle.command.specs.Meaning.{command_of, setting_of, fault_of, reading_of}
use Rattle.command.specs.Paged.{paged}
use Rattle.page.specs.declared.Page.{Page}
use Rattle.page.specs.Page.{no_page}
use Rattle.page.specs.Causes.{weigh}
use Rattle.page.specs.Status.{supplies, status_byte, reading}
use Rattle.unpaged.specs.declared.Unpaged.{Unpaged}
use Rattle.unpaged.specs.Unpaged.{power_on_unpaged, valid_page, unpaged_valid, acts_on}
use Rattle.unpaged.specs.Applies.{is_in}
use Rattle.writes.specs.Asked.{asked}
use Rattle.writes.specs.Answers.{data_answer, length_answer, code_answer, addressed_answer, write_answer}
use Rattle.writes.specs.Left.{page_left}
use Rattle.reads.specs.Data.{status_register, read_data}
use Rattle.device.specs.declared.Device.{Device}
use Rattle.device.specs.Device.{device_valid, page_of}
use Rattle.device.specs.Step.{write, answer_of, answered, refused_device, step}
use Rattle.device.proofs.Touches.{written-pages}
use Rattle.history.specs.Run.{next, answer}
use Rattle.history.specs.EveryPage.{selecting, AsSelected, unpaged_codes, ByPage, PagedAgrees}
use Rattle.history.proofs.Outcomes.{refused-next, by_answer, write_next}

-- ---- as selected

-- a page that a write acts on, and one that a refused write leaves
module _ (d : Device) (s : List ℕ) (i : ℕ) (there : i < length d.pages) where
  accepted-at : acts_on d.unpaged i ≡ true → answer d (write s) ≡ 0 → page_of (next d (write s)) i ≡ page_left (asked s) (page_of d i)
  accepted-at acts z =
      ap (λ (e : Device). page_of e i) (write_next d s z)
      ∙ rw (written-pages d (asked s)) (get_or-map_at no_page (acts_on d.unpaged) (page_left (asked s)) d.pages i there ∙ rw acts)

  refused-at : (answer d (write s) ≡ 0 → ⊥) → page_of (next d (write s)) i ≡ page_of d i
  unfolding refused_device
  refused-at r = ap (λ (e : Device). page_of e i) (refused-next d (write s) r)

module _ (d : Device) (s : List ℕ) (i : ℕ) (every : d.unpaged.page ≡ 0xFF) (there : i < length d.pages) where
  same_valid : device_valid d ≡ device_valid (selecting i d)
  unfolding device_valid unpaged_valid valid_page
  same_valid = rw (every, lt-ltb i (length d.pages) there, or-true)

  same_answer : answer d (write s) ≡ answer (selecting i d) (write s)
  unfolding step answered answer_of write_answer addressed_answer code_answer length_answer data_answer
  same_answer = rw (same_valid)

  acts_here : acts_on d.unpaged i ≡ true
  unfolding acts_on
  acts_here = rw every (or-true (eqb i 0xFF))

  acts_there : acts_on (selecting i d).unpaged i ≡ true
  unfolding acts_on
  acts_there = rw (eq-eqb i i refl)

  same_page : page_of (next d (write s)) i ≡ page_of (next (selecting i d) (write s)) i
  same_page =
      by_answer d (write s)
      (λ z. accepted-at d s i there acts_here z ∙ sym (accepted-at (selecting i d) s i there acts_there (sym same_answer ∙ z)))
      (λ r. refused-at d s i there r ∙ sym (refused-at (selecting i d) s i there (λ z. r (same_answer ∙ z))))

pub as_selected : AsSelected
unfolding AsSelected
as_selected d s i every there = (same_answer d s i every there, same_page d s i every there)

-- ---- codes without a page

-- two pages that differ in every field
abbrev filled : ℕ → Bool → Page
filled x m = record {
  operation = x;
  command = x;
  limits = replicate 11 x;
  responses = replicate 6 x;
  machines = replicate 6 0;
  words = replicate 4 x;
  measured = replicate 4 m;
  status = replicate 4 x;
  tripped = false;
  formats = [];
}

abbrev first_of : Page → ℕ → ℕ
first_of p c = get_or (read_data power_on_unpaged p (command_of c)) 0 0

-- the first data bytes differ where a code is read and not listed
differs : (c : ℕ) → c < 256 → ((lookup c).read && not (is_in c unpaged_codes)) ≡ not (eqb (first_of (filled 0 false) c) (first_of (filled 1 true) c))
unfolding
    lookup entry_of table command_of setting_of fault_of reading_of read_data status_register reading status_byte supplies weigh power_on_unpaged
    ein_bytes
differs c h =
    agree-test (λ c. (lookup c).read && not (is_in c unpaged_codes)) (λ c. not (eqb (first_of (filled 0 false) c) (first_of (filled 1 true) c))) 256 tt c h

is_listed : (c : ℕ) → c < 256 → paged c ≡ not (is_in c unpaged_codes)
unfolding paged
is_listed c h = agree-test paged (λ c. not (is_in c unpaged_codes)) 256 tt c h

-- a listed code looks at no page
same_data : (c : ℕ) → is_in c unpaged_codes ≡ true → (u : Unpaged) (p q : Page) → read_data u p (command_of c) ≡ read_data u q (command_of c)
unfolding command_of setting_of reading_of read_data status_register
same_data c h u p q =
    either (eqb c 0x00) (λ e. rw (eqb-true c 0x00 e))
    (λ a. either (eqb c 0x10) (λ e. rw (eqb-true c 0x10 e))
    (λ b. either (eqb c 0x19) (λ e. rw (eqb-true c 0x19 e))
    (λ f. either (eqb c 0x20) (λ e. rw (eqb-true c 0x20 e))
    (λ g. either (eqb c 0x7E) (λ e. rw (eqb-true c 0x7E e))
    (λ j. either (eqb c 0x86) (λ e. rw (eqb-true c 0x86 e))
    (λ k. either (eqb c 0x98) (λ e. rw (eqb-true c 0x98 e))
    (λ l. absurd (false≢true (rw (a, b, f, g, j, k, l) at h)))))))))

paged-data : (c : ℕ) → c < 256 → is_in c unpaged_codes ≡ false → (lookup c).read ≡ true → ByPage c
paged-data c h n r =
    record {
      unpaged = power_on_unpaged;
      one = filled 0 false;
      other = filled 1 true;
      differ = λ e.
          let x = first_of (filled 0 false) c in
          let y = first_of (filled 1 true) c in
          let z : not (eqb x y) ≡ true = sym (differs c h) ∙ rw (r, n) in
          let same = eq-eqb x y (ap (λ (l : List ℕ). get_or l 0 0) e) in
          false≢true (rw same at z);
    }

pub paged-agrees : PagedAgrees
unfolding PagedAgrees
paged-agrees c h = record { listed = is_listed c h; same = same_data c; by_page = paged-data c h }

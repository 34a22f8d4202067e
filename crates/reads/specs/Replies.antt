-- What stands in the reply of a read, by its answer: data, packet check and FFh in closed form, with their number of data bytes.
-- Assumes nothing.
use Rattle.std.specs.Prelude.{ℕ, ◌+◌, ◌-◌, ◌/◌, ◌%◌, ◌<◌, ◌≡◌, ◌⊎◌, true, false, List, [], ◌∷◌, ◌++◌, length, get_or, take, replicate}
use Rattle.pec.specs.Pec.{pec}
use Rattle.cause.specs.Causes.{limit_of, read_codes}
use Rattle.command.specs.Table.{lookup}
use Rattle.command.specs.Meaning.{command_of}
use Rattle.page.specs.declared.Page.{Page}
use Rattle.page.specs.Page.{format_in}
use Rattle.unpaged.specs.declared.Unpaged.{Unpaged}
use Rattle.unpaged.specs.Applies.{is_in}
use Rattle.reads.specs.Answers.{read_answer}
use Rattle.reads.specs.Request.{request_of}
use Rattle.reads.specs.Data.{read_data, read_stream}
use Rattle.reads.specs.Reply.{reply_of}
use Rattle.reads.specs.Applies.{code}

-- the packet check of a read covers every byte of the header and the data (data sheet 2.6)
abbrev pub check_of : List ℕ → List ℕ → ℕ
check_of header bytes = pec (header ++ bytes)

-- the header of a plain read, and that of a process call of COEFFICIENTS
abbrev pub plain_header : ℕ → List ℕ
plain_header c = 0xC0 ∷ c ∷ 0xC1 ∷ []

abbrev pub coefficients_header : ℕ → ℕ → List ℕ
coefficients_header c direction = 0xC0 ∷ 0x30 ∷ 0x02 ∷ c ∷ direction ∷ 0xC1 ∷ []

-- the reply of n bytes with this answer, to a header whose data are these bytes, k of them (data sheet 11.3)
pub record Reply (answer k n : ℕ) (header bytes reply : List ℕ) : Type 0 where
  -- so many bytes as are clocked, and so many data as are due
  pub clocked : length reply ≡ n
  pub as_due : length bytes ≡ k
  -- done: the data, or data and PEC
  pub plain : answer ≡ 0 → n ≡ k → reply ≡ bytes
  pub checked : answer ≡ 0 → n ≡ k + 1 → reply ≡ bytes ++ (check_of header bytes ∷ [])
  -- too short: the first bytes of the data
  pub short : answer ≡ 10 → reply ≡ take n bytes
  -- too long: data, PEC, then FFh
  pub long : answer ≡ 11 → reply ≡ bytes ++ (check_of header bytes ∷ replicate (n - (k + 1)) 0xFF)
  -- every other answer: FFh throughout
  pub nothing : is_in answer (0 ∷ 10 ∷ 11 ∷ []) ≡ false → reply ≡ replicate n 0xFF

-- a read of n bytes with this header
abbrev pub reply_to : Unpaged → Page → List ℕ → ℕ → List ℕ
reply_to u p header n = reply_of (read_stream u p (read_answer u p header n) (request_of header) header) n

-- m, b and R of the format of limit i, a cause's or a warning's, low bytes first, behind their count (PMBus Part II, 14.1)
abbrev pub limit_coefficients : Page → ℕ → List ℕ
limit_coefficients p i =
    let f = format_in p.formats (limit_of i).quantity in
    0x05 ∷ f.m % 256 ∷ f.m / 256 ∷ f.b % 256 ∷ f.b / 256 ∷ f.r ∷ []

-- A code that is read; the coefficients of a limit, those by which the page holds measured words against it, in both directions; those of the
-- limit's quantity as it is measured, which is read alone; and FFh throughout for every answer that comes with no data.
pub record RepliesFollow : Type 0 where
  pub of_code : (u : Unpaged) (p : Page) (c n : ℕ) → c < 256 → (lookup c).read ≡ true
      → Reply (read_answer u p (plain_header c) n) (lookup c).length n (plain_header c) (read_data u p (command_of c)) (reply_to u p (plain_header c) n)
  pub of_limit : (u : Unpaged) (p : Page) (i direction n : ℕ) → i < 11
      → let h = coefficients_header (limit_of i).limit_code direction in Reply (read_answer u p h n) 6 n h (limit_coefficients p i) (reply_to u p h n)
  pub of_measured : (u : Unpaged) (p : Page) (i direction n : ℕ) → i < 11
      → let h = coefficients_header (get_or read_codes (limit_of i).quantity 0) direction in
      Reply (read_answer u p h n) 6 n h (limit_coefficients p i) (reply_to u p h n)
  pub no_data : (u : Unpaged) (p : Page) (header : List ℕ) (n : ℕ) → is_in (read_answer u p header n) (0 ∷ 10 ∷ 11 ∷ []) ≡ false
      → reply_to u p header n ≡ replicate n 0xFF
  -- and those three answers go to headers of the two forms alone
  pub data_headers : (u : Unpaged) (p : Page) (header : List ℕ) (n : ℕ) → is_in (read_answer u p header n) (0 ∷ 10 ∷ 11 ∷ []) ≡ true
      → ((header ≡ plain_header (code header)) × ((lookup (code header)).read ≡ true))
      ⊎ (header ≡ coefficients_header (get_or header 3 0) (get_or header 4 0))

-- The answer of a read (data sheet 11.3), from the unpaged part u, the page shown p, the header and the number of bytes clocked n.
-- Assumes nothing.
use Rattle.std.specs.Prelude.{ℕ, ◌+◌, Bool, cond, not, ◌&&◌, ◌||◌, List, Result, Ok, Err, ltb, eqb}
use Rattle.command.specs.Paged.{paged}
use Rattle.page.specs.declared.Page.{Page}
use Rattle.unpaged.specs.declared.Unpaged.{Unpaged}
use Rattle.unpaged.specs.Unpaged.{every_page}
use Rattle.reads.specs.declared.request.Request.{Request}
use Rattle.reads.specs.declared.request.Request.TheVariants.{Plain, Coefficients}
use Rattle.reads.specs.Request.{request_of}
use Rattle.reads.specs.Coefficients.{has_coefficients}

-- of a request with k data bytes: 9 where it is refused; else 10 and 11 by its length
unfoldable pub data_answer : Bool → ℕ → ℕ → ℕ
data_answer refused k n = cond refused 9 (cond (ltb n k) 10 (cond (ltb (k + 1) n) 11 0))

-- by what is asked for: a paged code is refused where every page is selected, and so are coefficients there, and those that the page has not
unfoldable pub request_answer : Unpaged → Page → Result Request ℕ → ℕ → ℕ
request_answer u p (Err answer) n = answer
request_answer u p (Ok (Plain code k)) n = data_answer (every_page u && paged code) k n
request_answer u p (Ok (Coefficients code direction)) n = data_answer (every_page u || not (has_coefficients p code direction)) 6 n

unfoldable pub read_answer : Unpaged → Page → List ℕ → ℕ → ℕ
read_answer u p header n = request_answer u p (request_of header) n

-- the answers with data to send (data sheet 2.9)
unfoldable pub answers_data : ℕ → Bool
answers_data answer = eqb answer 0 || eqb answer 10 || eqb answer 11

-- A page as power-on leaves it, and a page with one group of fields changed.
-- Assumes nothing.
use Rattle.std.specs.Prelude.{ℕ, ◌-◌, ◌<◌, ◌≡◌, Bool, false, ◌&&◌, List, [], ◌∷◌, map, get_or, ltb, Option, MatchOption}
use Rattle.value.specs.declared.format.Format.{Format}
use Rattle.value.specs.Format.{linear_format}
use Rattle.cause.specs.declared.Quantity.{Quantity}
use Rattle.cause.specs.Kinds.{quantity_number}
use Rattle.cause.specs.Causes.{VOUT, power_on_limits, starts_with, responses}
use Rattle.page.specs.declared.Page.{Page}

-- the machines of a page, none of them under way
abbrev pub resting : List ℕ
resting = 0 ∷ 0 ∷ 0 ∷ 0 ∷ 0 ∷ 0 ∷ []

-- Data sheet 1.4 and 3.1: the output off, the limits and responses as the table of causes and warnings has them, nothing measured, no bit set, not
-- tripped, every quantity in Linear11.
unfoldable pub power_on_page : Page
power_on_page = record {
  operation = 0x00;
  command = 0x2666;
  limits = starts_with power_on_limits;
  responses = map (λ r. r.power_on_response) responses;
  machines = resting;
  words = 0 ∷ 0 ∷ 0 ∷ 0 ∷ [];
  measured = false ∷ false ∷ false ∷ false ∷ [];
  status = 0 ∷ 0 ∷ 0 ∷ 0 ∷ [];
  tripped = false;  -- at power-on
  formats = linear_format ∷ linear_format ∷ linear_format ∷ [];
}

-- the format of a quantity from IOUT on, by its number
abbrev pub format_in : List Format → ℕ → Format
format_in fs q = get_or fs (q - 1) linear_format

-- a quantity is in DIRECT form: VOUT never is, and a number past the quantities neither
abbrev pub is_direct : List Format → ℕ → Bool
is_direct fs q = ltb VOUT q && ltb q 4 && (format_in fs q).direct

-- the quantity with the number n, and none for every number past the four
abbrev pub Numbered : Option Quantity → ℕ → Type 0
Numbered quantity n = MatchOption quantity (3 < n) (λ q. quantity_number q ≡ n)

-- what stands past the end of a list of pages
abbrev pub no_page : Page
no_page = record {
  operation = 0;
  command = 0;
  limits = [];
  responses = [];
  machines = [];
  words = [];
  measured = [];
  status = [];
  tripped = false;
  formats = [];
}

abbrev pub with_operation : Page → ℕ → Page
with_operation p x = record {
  operation = x;
  command = p.command;
  limits = p.limits;
  responses = p.responses;
  machines = p.machines;
  words = p.words;
  measured = p.measured;
  status = p.status;
  tripped = p.tripped;
  formats = p.formats;
}

abbrev pub with_command : Page → ℕ → Page
with_command p w = record {
  operation = p.operation;
  command = w;
  limits = p.limits;
  responses = p.responses;
  machines = p.machines;
  words = p.words;
  measured = p.measured;
  status = p.status;
  tripped = p.tripped;
  formats = p.formats;
}

abbrev pub with_limits : Page → List ℕ → Page
with_limits p l = record {
  operation = p.operation;
  command = p.command;
  limits = l;
  responses = p.responses;
  machines = p.machines;
  words = p.words;
  measured = p.measured;
  status = p.status;
  tripped = p.tripped;
  formats = p.formats;
}

abbrev pub with_responses : Page → List ℕ → Page
with_responses p l = record {
  operation = p.operation;
  command = p.command;
  limits = p.limits;
  responses = l;
  machines = p.machines;
  words = p.words;
  measured = p.measured;
  status = p.status;
  tripped = p.tripped;
  formats = p.formats;
}

abbrev pub with_machines : Page → List ℕ → Page
with_machines p l = record {
  operation = p.operation;
  command = p.command;
  limits = p.limits;
  responses = p.responses;
  machines = l;
  words = p.words;
  measured = p.measured;
  status = p.status;
  tripped = p.tripped;
  formats = p.formats;
}

abbrev pub with_words : Page → List ℕ → List Bool → Page
with_words p l m = record {
  operation = p.operation;
  command = p.command;
  limits = p.limits;
  responses = p.responses;
  machines = p.machines;
  words = l;
  measured = m;
  status = p.status;
  tripped = p.tripped;
  formats = p.formats;
}

abbrev pub with_status : Page → List ℕ → Page
with_status p l = record {
  operation = p.operation;
  command = p.command;
  limits = p.limits;
  responses = p.responses;
  machines = p.machines;
  words = p.words;
  measured = p.measured;
  status = l;
  tripped = p.tripped;
  formats = p.formats;
}

abbrev pub with_tripped : Page → Bool → Page
with_tripped p b = record {
  operation = p.operation;
  command = p.command;
  limits = p.limits;
  responses = p.responses;
  machines = p.machines;
  words = p.words;
  measured = p.measured;
  status = p.status;
  tripped = b;
  formats = p.formats;
}

abbrev pub with_formats : Page → List Format → Page
with_formats p l = record {
  operation = p.operation;
  command = p.command;
  limits = p.limits;
  responses = p.responses;
  machines = p.machines;
  words = p.words;
  measured = p.measured;
  status = p.status;
  tripped = p.tripped;
  formats = l;
}

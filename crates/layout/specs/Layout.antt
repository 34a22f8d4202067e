-- The layout of the state: fields one after the other, in the order of these lines.
-- Assumes nothing.
use Rattle.std.specs.Prelude.{ℕ, ◌+◌, ◌*◌, ◌/◌, ◌%◌, Bool, List}
use Rattle.account.specs.declared.Account.{Account}
use Rattle.value.specs.declared.format.Format.{Format}
use Rattle.page.specs.declared.Page.{Page}
use Rattle.page.specs.declared.PageChoice.{PageChoice}
use Rattle.unpaged.specs.declared.Unpaged.{Unpaged}
use Rattle.bus.specs.declared.Part.{Part}
use Rattle.device.specs.declared.Device.{Device}
use Rattle.stream.specs.Stream.{State}
use Rattle.layout.specs.Form.{Form, octet, word, mark, both, array, via}

-- ---- what is kept of a transaction: phase, count, bytes, clocked, reply

abbrev pub PartFields : Type 0
PartFields = ℕ × (ℕ × (List ℕ × (ℕ × List ℕ)))

abbrev pub part_fields : Form PartFields
part_fields = both octet (both octet (both (array 11 octet) (both octet (array 8 octet))))

abbrev pub part_to : Part → PartFields
part_to p = (p.phase, (p.count, (p.bytes, (p.clocked, p.reply))))

abbrev pub part_from : PartFields → Part
part_from x = record { phase = x.0; count = x.1.0; bytes = x.1.1.0; clocked = x.1.1.1.0; reply = x.1.1.1.1 }

-- 22 bytes
unfoldable pub part_form : Form Part
part_form = via part_to part_from part_fields

-- ---- the unpaged part: PAGE, WRITE_PROTECT, STATUS_CML, alert; accumulator, rollover count, sample count in four bytes

abbrev pub long_to : ℕ → ℕ × ℕ
long_to n = (n % 65536, n / 65536)

abbrev pub long_from : ℕ × ℕ → ℕ
long_from x = x.0 + x.1 * 65536

abbrev pub long : Form ℕ
long = via long_to long_from (both word word)

abbrev pub AccountFields : Type 0
AccountFields = ℕ × (ℕ × ℕ)

abbrev pub account_fields : Form AccountFields
account_fields = both word (both word long)

abbrev pub account_to : Account → AccountFields
account_to a = (a.accumulator, (a.rollover, a.count))

abbrev pub account_from : AccountFields → Account
account_from x = record { accumulator = x.0; rollover = x.1.0; count = x.1.1 }

-- 8 bytes
unfoldable pub account_form : Form Account
account_form = via account_to account_from account_fields

abbrev pub UnpagedFields : Type 0
UnpagedFields = ℕ × (ℕ × (ℕ × (Bool × Account)))

abbrev pub unpaged_fields : Form UnpagedFields
unpaged_fields = both octet (both octet (both octet (both mark account_form)))

abbrev pub unpaged_to : Unpaged → UnpagedFields
unpaged_to u = (u.page, (u.protect, (u.cml, (u.alert, u.energy))))

abbrev pub unpaged_from : UnpagedFields → Unpaged
unpaged_from x = record { page = x.0; protect = x.1.0; cml = x.1.1.0; alert = x.1.1.1.0; energy = x.1.1.1.1 }

-- 12 bytes
unfoldable pub unpaged_form : Form Unpaged
unpaged_form = via unpaged_to unpaged_from unpaged_fields

-- ---- the format of a quantity: whether it is DIRECT, m, b, R

abbrev pub FormatFields : Type 0
FormatFields = Bool × (ℕ × (ℕ × ℕ))

abbrev pub format_fields : Form FormatFields
format_fields = both mark (both word (both word octet))

abbrev pub format_to : Format → FormatFields
format_to f = (f.direct, (f.m, (f.b, f.r)))

abbrev pub format_from : FormatFields → Format
format_from x = record { direct = x.0; m = x.1.0; b = x.1.1.0; r = x.1.1.1 }

-- 6 bytes
unfoldable pub format_form : Form Format
format_form = via format_to format_from format_fields

-- IOUT, VIN, temperature: 18 bytes
abbrev pub formats_form : Form (List Format)
formats_form = array 3 format_form

-- ---- a page

abbrev pub SettingFields : Type 0
SettingFields = ℕ × (ℕ × (List ℕ × (List ℕ × List ℕ)))

-- OPERATION, VOUT_COMMAND, limits, responses, retry machines: 37 bytes
abbrev pub setting_fields : Form SettingFields
setting_fields = both octet (both word (both (array 11 word) (both (array 6 octet) (array 6 octet))))

abbrev pub ValueFields : Type 0
ValueFields = List ℕ × (List Bool × (List ℕ × Bool))

-- words, measured, status registers, tripped: 17 bytes
abbrev pub value_fields : Form ValueFields
value_fields = both (array 4 word) (both (array 4 mark) (both (array 4 octet) mark))

abbrev pub settings_to : Page → SettingFields
settings_to p = (p.operation, (p.command, (p.limits, (p.responses, p.machines))))

abbrev pub values_to : Page → ValueFields
values_to p = (p.words, (p.measured, (p.status, p.tripped)))

abbrev pub PageFields : Type 0
PageFields = SettingFields × (ValueFields × List Format)

abbrev pub page_fields : Form PageFields
page_fields = both setting_fields (both value_fields formats_form)

abbrev pub page_to : Page → PageFields
page_to p = (settings_to p, (values_to p, p.formats))

abbrev pub page_from : PageFields → Page
page_from x = record {
  operation = x.0.0;
  command = x.0.1.0;
  limits = x.0.1.1.0;
  responses = x.0.1.1.1.0;
  machines = x.0.1.1.1.1;
  words = x.1.0.0;
  measured = x.1.0.1.0;
  status = x.1.0.1.1.0;
  tripped = x.1.0.1.1.1;
  formats = x.1.1;
}

-- 72 bytes
unfoldable pub page_form : Form Page
page_form = via page_to page_from page_fields

-- ---- the whole state

abbrev pub device_to : Device → Unpaged × List Page
device_to d = (d.unpaged, d.pages)

abbrev pub device_from : Unpaged × List Page → Device
device_from x = record { unpaged = x.0; pages = x.1 }

-- 588 bytes
unfoldable pub device_form : Form Device
device_form = via device_to device_from (both unpaged_form (array 8 page_form))

abbrev pub state_to : State → Part × Device
state_to s = (s.part, s.device)

abbrev pub state_from : Part × Device → State
state_from x = record { part = x.0; device = x.1 }

unfoldable pub state_form : Form State
state_form = via state_to state_from (both part_form device_form)

-- the length of a state buffer, where its pages begin, and the pages that stand there
abbrev pub size : ℕ
size = 610

abbrev pub pages_from : ℕ
pages_from = 34

abbrev pub unpaged_at : ℕ
unpaged_at = 22

abbrev pub page_wide : ℕ
page_wide = 72

abbrev pub pages_in : List ℕ → List Page
pages_in s = (array 8 page_form).get s pages_from

-- ---- what is chosen at power-on: for each page its formats and the fault limits of the six causes

abbrev pub ChoiceFields : Type 0
ChoiceFields = List Format × List ℕ

abbrev pub choice_fields : Form ChoiceFields
choice_fields = both formats_form (array 6 word)

abbrev pub choice_to : PageChoice → ChoiceFields
choice_to c = (c.formats, c.limits)

abbrev pub choice_from : ChoiceFields → PageChoice
choice_from x = record { formats = x.0; limits = x.1 }

unfoldable pub choice_form : Form PageChoice
choice_form = via choice_to choice_from choice_fields

-- the length of one choice, of all eight, and the choices that stand in a list of bytes
abbrev pub choice_wide : ℕ
choice_wide = 30

abbrev pub choices_size : ℕ
choices_size = 240

abbrev pub choices_in : List ℕ → List PageChoice
choices_in s = (array 8 choice_form).get s 0

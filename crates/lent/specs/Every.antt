-- A write that is still to be made on every record, where there is one: the records after it, and whether a bit rose on any.
-- Assumes nothing.
use Rattle.std.specs.Prelude.{Bool, false, Option, Some, None, List, map}
use Rattle.laws.specs.Lists.{any_pair}
use Rattle.page.specs.declared.Page.{Page}
use Rattle.page.specs.Status.{risen}
use Rattle.writes.specs.declared.asked.Write.{Write}
use Rattle.writes.specs.Left.{page_left}

abbrev pub swept : Option Write → List Page → List Page
swept None ps = ps
swept (Some w) ps = map (page_left w) ps

abbrev pub rising : Option Write → List Page → Bool
rising None ps = false
rising (Some w) ps = any_pair risen ps (map (page_left w) ps)

-- A part is valid exactly by its three numbers.
-- Assumes nothing.
use mathlib.Core.Path.{◌≡◌}
use mathlib.Core.Bool.{true, ◌&&◌, and-eq-true_iff}
use lib.Dec.{ltb}
use borrow.Author.Tests.{ltb-true, lt-ltb}
use Rattle.bus.specs.declared.Part.{Part}
use Rattle.bus.specs.Part.{part_valid}
use Rattle.bus.specs.Fields.{Fields, ValidFields}

pub fields_of : (p : Part) → part_valid p ≡ true → Fields p
unfolding part_valid
fields_of p v =
    let a = (and-eq-true_iff (ltb p.phase 5 && ltb p.count 12) (ltb p.clocked 10)).0 v in
    let b = (and-eq-true_iff (ltb p.phase 5) (ltb p.count 12)).0 a.0 in
    record { phase = ltb-true _ _ b.0; count = ltb-true _ _ b.1; clocked = ltb-true _ _ a.1 }

pub valid_of : (p : Part) → Fields p → part_valid p ≡ true
unfolding part_valid
valid_of p f = rw (lt-ltb p.phase 5 f.phase, lt-ltb p.count 12 f.count, lt-ltb p.clocked 10 f.clocked)

pub valid_fields : ValidFields
unfolding ValidFields
valid_fields p = (fields_of p, valid_of p)

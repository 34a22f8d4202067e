-- Which parts are valid, field by field (data sheet 17.11); the bytes kept and the reply may be any.
-- Assumes nothing.
use Rattle.std.specs.Prelude.{◌<◌, ◌≡◌, ◌↔◌, true}
use Rattle.bus.specs.declared.Part.{Part}
use Rattle.bus.specs.Part.{part_valid}

pub record Fields (p : Part) : Type 0 where
  pub phase : p.phase < 5
  pub count : p.count < 12
  pub clocked : p.clocked < 10

unfoldable pub ValidFields : Type 0
ValidFields = (p : Part) → (part_valid p ≡ true) ↔ Fields p

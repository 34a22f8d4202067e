-- An answer that sets no bit of STATUS_CML leaves the device as it was; no refusal has the number 0.
-- Assumes nothing.
use Prim.Native.Nat.{ℕ}
use mathlib.Core.Path.{◌≡◌, refl, ap, ◌∙◌}
use mathlib.Core.Bool.{false, or-false}
use lib.Bits.{bit_or, or_zero_r, or_self}
use borrow.Author.Tests.{eq-eqb}
use lib.Dec.{eqb}
use Rattle.answer.specs.declared.Refusal.{Refusal}
use Rattle.answer.specs.declared.Refusal.TheVariants.{WrongAddress, Malformed, UnsupportedCommand, TooFewData, TooManyData, WrongPec, Protected, InvalidData, ReadTooShort, ReadTooLong, NoSuchPlace, SampleTooLarge, AlertDown, InvalidState, WrongReplyLength, WrongReplyPec, WrongCountByte, AccumulatorTooLarge, TotalFull, OutOfRange, NoRoom, InvalidFormat}
use Rattle.answer.specs.Answer.{number_of}
use Rattle.unpaged.specs.declared.Unpaged.{Unpaged}
use Rattle.unpaged.specs.Unpaged.{cml_bits, refused}
use Rattle.device.specs.declared.Device.{Device}
use Rattle.device.specs.Step.{refused_device}

unpaged-stays : (u : Unpaged) (a : ℕ) → cml_bits a ≡ 0 → refused u a ≡ u
unfolding refused
unpaged-stays u a e =
    let same : bit_or u.cml (cml_bits a) ≡ u.cml = ap (bit_or u.cml) e ∙ or_zero_r u.cml in
    rw (same, or_self u.cml, eq-eqb u.cml u.cml refl, or-false u.alert)

pub device-stays : (d : Device) (a : ℕ) → cml_bits a ≡ 0 → refused_device d a ≡ d
unfolding refused_device
device-stays d a e = rw (unpaged-stays d.unpaged a e)

pub refusal-nonzero : (r : Refusal) → eqb (number_of r) 0 ≡ false
refusal-nonzero WrongAddress = refl
refusal-nonzero Malformed = refl
refusal-nonzero UnsupportedCommand = refl
refusal-nonzero TooFewData = refl
refusal-nonzero TooManyData = refl
refusal-nonzero WrongPec = refl
refusal-nonzero Protected = refl
refusal-nonzero InvalidData = refl
refusal-nonzero ReadTooShort = refl
refusal-nonzero ReadTooLong = refl
refusal-nonzero NoSuchPlace = refl
refusal-nonzero SampleTooLarge = refl
refusal-nonzero AlertDown = refl
refusal-nonzero InvalidState = refl
refusal-nonzero WrongReplyLength = refl
refusal-nonzero WrongReplyPec = refl
refusal-nonzero WrongCountByte = refl
refusal-nonzero AccumulatorTooLarge = refl
refusal-nonzero TotalFull = refl
refusal-nonzero OutOfRange = refl
refusal-nonzero NoRoom = refl
refusal-nonzero InvalidFormat = refl

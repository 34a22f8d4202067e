-- The test of a page, on the bytes that it looks at.
-- Assumes nothing.
use Prim.Native.Nat.{ℕ, ◌+◌}
use mathlib.Core.Path.{◌≡◌, refl}
use mathlib.Core.Bool.{◌&&◌}
use mathlib.Core.List.{List}
use native.Mathlib.Omega.{arith}
use lib.Bits.{bit_or}
use lib.ListN.{get_or}
use Rattle.retry.specs.Machines.{all_valid}
use Rattle.page.specs.Status.{any, any_status}
use Rattle.page.specs.Settings.{valid_operation, valid_response, formats_valid, page_valid}
use Rattle.page.proofs.Written.{page-valid}
use Rattle.layout.specs.Form.{octet, array}
use Rattle.layout.specs.Layout.{formats_form, page_form}

pub page-tests : (s : List ℕ) (o : ℕ)
    → (valid_operation (get_or s o 0) && valid_response 1 (get_or s (o + 25 + 1) 0) && all_valid ((array 6 octet).get s (o + 31)) && formats_valid (formats_form.get s (o + 54)))
    ≡ page_valid (page_form.get s o)
unfolding page_form
page-tests s o =
    let response_at : o + 25 + 1 ≡ o + 1 + 2 + 22 + 1 = omega arith in
    let machines_at : o + 31 ≡ o + 1 + 2 + 22 + 6 = omega arith in
    let formats_at : o + 54 ≡ o + 37 + 17 = omega arith in
    rw (response_at, machines_at, formats_at) (page-valid (page_form.get s o))

-- of the four status bytes alone: whether some bit is 1
pub status-tests : (s : List ℕ) (o : ℕ)
    → any (bit_or (bit_or (bit_or (get_or s (o + 49) 0) (get_or s (o + 49 + 1) 0)) (get_or s (o + 49 + 2) 0)) (get_or s (o + 49 + 3) 0))
    ≡ any_status (page_form.get s o)
unfolding page_form any_status
status-tests s o =
    let vout_at : o + 49 ≡ o + 37 + 8 + 4 = omega arith in
    let iout_at : o + 49 + 1 ≡ o + 37 + 8 + 4 + 1 = omega arith in
    let input_at : o + 49 + 2 ≡ o + 37 + 8 + 4 + 1 + 1 = omega arith in
    let temperature_at : o + 49 + 3 ≡ o + 37 + 8 + 4 + 1 + 1 + 1 = omega arith in
    rw (temperature_at, input_at, iout_at, vout_at) refl

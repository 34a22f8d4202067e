-- Valid states, by their parts, and that a call with another answer than 15 came to one.
-- Assumes nothing.
use mathlib.Core.Path.{◌≡◌, sym, ◌∙◌}
use mathlib.Core.Bool.{true, ◌&&◌, and-eq-true_iff}
use native.Mathlib.Omega.{arith}
use lib.ListN.{length}
use Rattle.laws.specs.Lists.{all_of}
use Rattle.laws.proofs.Branches.{either}
use Rattle.account.specs.Account.{account_valid}
use Rattle.page.specs.Settings.{page_valid}
use Rattle.unpaged.specs.Unpaged.{valid_page, valid_protect, unpaged_valid}
use Rattle.device.specs.declared.Device.{Device}
use Rattle.device.specs.Device.{supported, device_valid}
use Rattle.device.specs.Step.{Call, answer_of, answered}

pub record Valid (d : Device) : Type 0 where
  pub number : supported (length d.pages) ≡ true
  pub page : valid_page (length d.pages) d.unpaged.page ≡ true
  pub protect : valid_protect d.unpaged.protect ≡ true
  pub energy : account_valid d.unpaged.energy ≡ true
  pub pages : all_of page_valid d.pages ≡ true

module _ (d : Device) where
  pub valid_parts : device_valid d ≡ true → Valid d
  unfolding device_valid unpaged_valid
  valid_parts v =
      let u = d.unpaged in
      let n = length d.pages in
      let a = (and-eq-true_iff (supported n && unpaged_valid n u) (all_of page_valid d.pages)).0 v in
      let b = (and-eq-true_iff (supported n) (unpaged_valid n u)).0 a.0 in
      let e = (and-eq-true_iff (valid_page n u.page && valid_protect u.protect) (account_valid u.energy)).0 b.1 in
      let f = (and-eq-true_iff (valid_page n u.page) (valid_protect u.protect)).0 e.0 in
      record { number = b.0; page = f.0; protect = f.1; energy = e.1; pages = a.1 }

  pub parts_valid : Valid d → device_valid d ≡ true
  unfolding device_valid unpaged_valid
  parts_valid v = rw (v.number, v.page, v.protect, v.energy, v.pages)

  module _ (c : Call) where
    pub answered-valid : answered d c ≡ 0 → device_valid d ≡ true
    unfolding answered
    answered-valid z = either (device_valid d) (λ v. v) (λ v. let n : 15 ≡ 0 = rw v at z in absurd (omega arith))

    pub answered-of : device_valid d ≡ true → answered d c ≡ answer_of d c
    unfolding answered
    answered-of v = rw v

    pub answer-zero : answered d c ≡ 0 → answer_of d c ≡ 0
    answer-zero z = sym (answered-of (answered-valid z)) ∙ z

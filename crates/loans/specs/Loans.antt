-- What a call may be lent by mistake in place of the device.
-- Assumes nothing.
use Rattle.std.specs.Prelude.{◌≡◌}
use Rattle.device.specs.declared.Device.{Device}

-- While the device is d the call gets `lent d`: any unpaged part, and any records, all, some or none of which are the device's own. When these
-- come back as e the device is `back d e`; come back as they were lent, they leave it as it was.
pub record Loan : Type 0 where
  pub lent : Device → Device
  pub back : Device → Device → Device
  pub same : (d : Device) → back d (lent d) ≡ d

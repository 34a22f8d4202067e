-- `device::power_on` meets its contract.
-- Assumes nothing.
use Rattle.device.proofs.PowerOn.{usual-device}
use Rattle.device.proofs.power_on.Goals as goal

pub returns : goal.returns
returns c = rw (usual-device 8) cc

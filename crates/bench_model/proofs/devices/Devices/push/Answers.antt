use Rattle.bench_model.proofs.DeviceLemmas.{AreDevices-push}
use Rattle.bench_model.proofs.devices.Devices.push.Goals as goal

pub invariant_of-self-2 : goal.invariant_of-self-2
invariant_of-self-2 c =
    rw c.in_ok-push.ensures.ok (AreDevices-push _ _ c.self.invariant
    (rw c.device.view_is at c.device.invariant) (rw (← c.self.view_is) at c.requires.name)
    (rw (← c.self.view_is) at c.requires.triple))

use Rattle.std.proofs.Common.{◌≤◌}
use Rattle.cap_boot.specs.Opening.{AreSynced, SyncsDevices}
use Rattle.cap_boot.proofs.opening.sync_devices.Given as goal

abbrev pub invariant-loop-device : goal.invariant-loop-device
invariant-loop-device g l =
    let state = g.F.BenchState.state in
    record {
      synced : AreSynced l.device (state l.flash);
      syncs : SyncsDevices (state l.initial.flash) (state l.flash);
      faults : (state l.initial.flash).counts.flash_faults ≤ (state l.flash).counts.flash_faults;
    }

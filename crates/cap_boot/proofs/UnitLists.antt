-- The units of a delivery, appended one after another.
use Rattle.std.proofs.Common.{ℕ, List, filter, map}
use Rattle.std.specs.List.{enumerate_from}
use Rattle.bench_model.specs.Devices.{DeviceValue}
use Rattle.reference_machine.specs.Deliveries.{is_target}
use Rattle.reference_machine.specs.Formats.{ItemHead}

-- the numbers of the targets among the devices from a number on
abbrev pub targets_from : ItemHead → ℕ → List DeviceValue → List ℕ
targets_from h n ds = map (λ p. p.0) (filter (λ p. is_target h p.1) (enumerate_from n ds))

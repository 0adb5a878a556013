-- A store without variables is that of a board as it leaves the factory.
use Rattle.std.proofs.Common.{◌≡◌, ℕ, List, [], ◌∷◌, Option, Some, None, refl, ap}
use Rattle.std.proofs.Common.{filter_map, find, option_map, slice_get, unwrap_or, sym, ◌==◌, ◌+◌}
use Rattle.std.specs.List.{range_with_len}
use Rattle.bench_model.specs.Boards.{BoardValue}
use Rattle.bench_model.specs.Devices.{DeviceValue}
use Rattle.cu_base.specs.declared.device_state.DevState.{DevState}
use Rattle.report_tables.specs.Results.{result_bytes}
use Rattle.reference_machine.specs.Machine.{fresh}
use Rattle.reference_machine.specs.declared.snapshot.CapsuleResult.{CapsuleResult}
use Rattle.reference_machine.specs.Results.{state_of}
use Rattle.reference_machine.specs.Spent.{Image, factory_floor, factory_image}
use Rattle.var_log.specs.Banks.{empty_store}
use Rattle.var_log.specs.Changes.{no_variables}
use Rattle.stored_vars.specs.Holds.{device_of}
use Rattle.stored_vars.specs.Stands.{Holds, Stores, result_on}

-- the version of a factory image is that of its device
factory_version : (o : Option DeviceValue)
    → unwrap_or (option_map (λ (x : DeviceValue). x.version) o) 0
    ≡ unwrap_or (option_map (λ (i : Image). i.version) (option_map factory_image o)) 0
factory_version None = refl
factory_version (Some d) = refl

device_fresh : (board : BoardValue) (d : ℕ) → device_of board no_variables d ≡ state_of board [] d
device_fresh board d =
    ap {B = DevState}
    (λ v. record {
      version = v;
      floor = factory_floor board d;
      last_version = 0;
      last_status = 0;
    }) (factory_version (slice_get board.devices d))

-- nothing comes of numbers of which each gives nothing
none_mapped : {X : Type 0} (f : ℕ → Option X) → ((n : ℕ) → f n ≡ None) → (ns : List ℕ)
    → filter_map f ns ≡ []
none_mapped f none [] = refl
none_mapped f none (n ∷ ns) = rw (none n) (none_mapped f none ns)

result_fresh : (board : BoardValue) (n : ℕ) → result_on board [] n ≡ None
result_fresh board n =
    ap (λ l. option_map (λ (r : CapsuleResult). result_bytes r.variable)
    (find (λ (r : CapsuleResult). r.number == n) l))
    (none_mapped _ (λ k. refl) (range_with_len 0 (board.result_max + 1)))

holds_fresh : (board : BoardValue) → Holds no_variables (fresh board)
holds_fresh board = record {
  devices = λ d within. device_fresh board d;
  claims = λ d within. refl;
  results = λ n within. sym (result_fresh board n);
  greatest = refl;
  last = refl;
  staged = refl;
  serial = refl;
  asked = refl;
  progress = λ serial. refl;
  others = λ guid name there. absurd cc;
}

pub empty_is_fresh : (board : BoardValue) → Stores empty_store (fresh board)
empty_is_fresh board = record { variables = holds_fresh board; number = refl }

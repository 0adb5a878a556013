-- The checks of a try before that of the dependencies, as far as an image decides them with its
-- device's floor in force.
use Rattle.std.specs.Prelude.{◌≡◌, ◌<◌, ◌^◌, ℕ, List, Option, Some, option_map, unwrap_or}
use Rattle.bench_model.specs.Boards.{BoardValue}
use Rattle.delivery_formats.specs.Seen.{machine_parts}
use Rattle.delivery_formats.specs.TrueFormats.{true_formats}
use Rattle.image_parts.specs.Values.{parts_seen}
use Rattle.image_parts.specs.declared.value.Parts as cut
use Rattle.reference_machine.specs.Deliveries.{BootUnit}
use Rattle.reference_machine.specs.Formats.{Parts}
use Rattle.reference_machine.specs.Machine.{Machine}
use Rattle.reference_machine.specs.Spent.{floor_of}
use Rattle.reference_machine.specs.Verdicts.{refusal_with}
use Rattle.cap_boot.specs.declared.verdict.Refusal.{Refusal}

-- the parts of a cut image, as the machine sees them
abbrev pub parts_of : cut.Parts → Parts
parts_of p = machine_parts (parts_seen p)

-- the version of the parts that an image has, 0 where it has none
abbrev pub version_in : Option Parts → ℕ
version_in parts = unwrap_or (option_map (λ p. p.version) parts) 0

-- the lowest supported version of the parts that an image has, 0 where it has none
abbrev pub lowest_in : Option Parts → ℕ
lowest_in parts = unwrap_or (option_map (λ p. p.lowest) parts) 0

-- whatever machine has this board and floor, a try of this image with these parts on the device is
-- refused with this status
abbrev pub IsStatus : BoardValue → ℕ → ℕ → List ℕ → Option Parts → ℕ → Type 0
IsStatus board device floor image parts status = (m : Machine) (u : BootUnit) → m.board ≡ board
    → u.key.device ≡ device → u.image ≡ image → floor_of m.board m.list device ≡ floor
    → refusal_with true_formats m u parts ≡ Some status

-- a refusal is that of the image by its parts, whose versions have their widths
pub record IsRefused (board : BoardValue) (device floor : ℕ) (image : List ℕ) (support : ℕ)
    (r : Refusal) : Type 0 where
  pub is : IsStatus board device floor image (true_formats.parts image support) r.status
  pub version : r.version ≡ version_in (true_formats.parts image support)
  pub status_fits : r.status < 2 ^ 32
  pub version_fits : version_in (true_formats.parts image support) < 2 ^ 32
  pub lowest_fits : lowest_in (true_formats.parts image support) < 2 ^ 32

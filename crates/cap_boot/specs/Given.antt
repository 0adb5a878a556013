-- The setting of a boot of this program: its formats are those of the crates of formats.
use Rattle.std.specs.Prelude.{ℕ, List, Option}
use Rattle.bench_model.specs.Boards.{BoardValue}
use Rattle.cu_base.specs.declared.time.EfiTime.{EfiTime}
use Rattle.delivery_formats.specs.TrueFormats.{true_formats}
use Rattle.fmp_slot.specs.Held.{HeldSlot}
use Rattle.cap_boot.specs.Stands.{Setting}

-- the setting of a board, a moment and a form of slots
abbrev pub setting : BoardValue → EfiTime → (List ℕ → Option HeldSlot) → Setting
setting board now slot_of = record {
  formats = true_formats;
  board = board;
  now = now;
  slot_of = slot_of;
}

-- What a board leaves the factory with, byte by byte. Of a region all bytes that no head names are
-- 0xFF.
use Rattle.std.specs.Prelude.{◌≡◌, ℕ, ◌+◌, ◌-◌, ◌*◌, Bool, false, List, [], ◌∷◌, ◌++◌, length, map}
use Rattle.std.specs.Prelude.{replicate, get_or, None, option_map, if◌then◌else◌}
use Rattle.cu_base.specs.Fields.{bytes_of}
use Rattle.bench_model.specs.declared.orders.Order.TheVariants.{LayOut}
use Rattle.bench_model.specs.declared.outside_limits.TheConstants.{ORDER_ROOM, SLOT_LEAD}
use Rattle.bench_model.specs.Bench.{BenchValue, Contents, with_order}
use Rattle.bench_model.specs.Boards.{BoardValue}
use Rattle.bench_model.specs.Devices.{DeviceValue}
use Rattle.bench_model.specs.Plans.{no_plan}

-- a head with 0xFF behind it, to this size
abbrev pub filled : ℕ → List ℕ → List ℕ
filled size head = head ++ replicate (size - length head) 255

-- the head of a bank: an open gate, the name 'CUV', the format of the log and generation 1
abbrev pub bank_head : ℕ → List ℕ
bank_head format = 0x5A ∷ 67 ∷ 85 ∷ 86 ∷ bytes_of 4 format ++ bytes_of 8 1

-- the head of a slot that the factory sealed: the seal, the name 'CUS', format 2, the ticket of
-- route 255, five zeros and the serial 0, version and floor, no payload, no dependency section, and
-- zeros (the first of them the stage of two banks)
abbrev pub slot_head : ℕ → ℕ → List ℕ
slot_head version floor =
    0x5A ∷ 67 ∷ 85 ∷ 83 ∷ bytes_of 4 2 ++ 255 ∷ 0 ∷ 0 ∷ replicate 5 0 ++ bytes_of 8 0
    ++ bytes_of 4 version ++ bytes_of 4 floor ++ bytes_of 4 0 ++ bytes_of 4 0 ++ replicate 24 0

-- the bytes of a device's region: one slot, or two
abbrev pub region_size : Bool → ℕ → ℕ
region_size two_banks capacity =
    if two_banks then 2 * (SLOT_LEAD + capacity) else SLOT_LEAD + capacity

-- the region of a device: the one slot, or the first of two, is sealed by the factory
abbrev pub first_device : Bool → DeviceValue → List ℕ
first_device two_banks d = filled (region_size two_banks d.capacity) (slot_head d.version d.floor)

-- all regions: bank 0 with an empty open log, bank 1 blank, and the devices in order
abbrev pub first_regions : BoardValue → List (List ℕ)
first_regions b =
    filled b.bank (bank_head b.store) ∷ filled b.bank [] ∷ map (first_device b.two_banks) b.devices

-- the contents of a board as it leaves the factory
abbrev pub first_contents : Bool → BoardValue → Contents
first_contents told b = record {
  told = told;
  regions = length (first_regions b);
  bytes = λ k. get_or (first_regions b) k [];
  dirty = λ k at. false;
  rest = record {
    begun = λ d. [];
    open_device = None;
    folder = record { files = []; last_serial = 0 };
    memory = [];
  };
}

-- the bench is that of the board as it leaves the factory; its counts stay, and its plan is empty
pub record LaysOut (b : BoardValue) (old new : BenchValue) : Type 0 where
  pub contents : new.contents ≡ first_contents old.contents.told b
  pub orders : new.orders ≡ record (with_order LayOut old) { room = ORDER_ROOM }
  pub plan : new.plan ≡ option_map (λ p. no_plan) old.plan
  pub counts : new.counts ≡ old.counts

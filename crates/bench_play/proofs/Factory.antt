-- A bench as its board leaves the factory stands for the fresh board.
use Rattle.std.proofs.Common.{◌≡◌, inl, inr, ℕ, zero, suc, ◌-◌, ◌^◌, ◌<◌, ◌≤◌, Bool}
use Rattle.std.proofs.Common.{◌⊎◌, true, false, List, [], ◌∷◌, ◌++◌, length, map, get_or, replicate}
use Rattle.std.proofs.Common.{refl, sym, ap, subst, ◌∙◌, arith, Option, None, Some}
use Rattle.std.specs.Prelude.{option_map}
use Rattle.std.proofs.Common.{nat_le}
use Rattle.std.proofs.lemmas.Bool.Decides.{nat_tests}
use Rattle.bench_model.specs.declared.outside_limits.TheConstants.{SLOT_LEAD}
use Rattle.std.proofs.lemmas.List.{get_or-map}
use Rattle.std.proofs.lemmas.Option.{slice_get_cases}
use Rattle.bench_model.specs.Bench.{region_at, region_of}
use Rattle.bench_model.specs.Boards.{BoardValue, IsBoard}
use Rattle.bench_model.specs.Devices.{DeviceValue}
use Rattle.bench_model.specs.Factory.{bank_head, filled, first_contents, first_device}
use Rattle.bench_model.specs.Factory.{first_regions}
use Rattle.bench_model.specs.Factory.{region_size, slot_head}
use Rattle.bench_model.specs.Regions.{IsImage}
use Rattle.bench_play.specs.FirstBench.{HaveWidths}
use Rattle.cap_boot.specs.Stands.{OutsideIs, Setting, StandsForEither, StoreFits}
use Rattle.cap_boot.specs.Stands.{image_in}
use Rattle.cap_boot.specs.Tickets.IsSublist.{none}
use Rattle.cap_boot.proofs.Stable.{stable_image}
use Rattle.cu_base.specs.Fields.{bytes_of, number}
use Rattle.cu_base.proofs.Fields.{number-bytes_of}
use Rattle.dev_claims.proofs.Fresh.{empty_is_fresh}
use Rattle.fmp_slot.specs.Held.{HeldSlot}
use Rattle.fmp_slot.specs.Layout.{slot_of}
use Rattle.reference_machine.specs.Machine.{fresh}
use Rattle.reference_machine.specs.Spent.{Element, Image, factory_image, image_of}
use Rattle.var_log.proofs.BankLemmas.{made_of, same_bank, same_store, store_at, store_is}
use Rattle.var_log.proofs.Splits.{closed_end}
use Rattle.var_log.specs.Banks.{StoreValue, empty_store, entries_of, generation_of, is_open}
use Rattle.var_log.specs.Banks.{log_bank, store_in}
use Rattle.var_log.specs.Banks.{store_of}
use Rattle.var_log.specs.Records.{Entry}

-- ---- the banks

padded : (n : ℕ) → 0 < n → replicate {A = ℕ} n 255 ≡ 255 ∷ replicate (n - 1) 255
padded zero some = absurd (omega arith)
padded (suc n) some =
    let e : n ≡ suc n - 1 = omega arith in
    ap (λ (k : ℕ). 255 ∷ replicate {A = ℕ} k 255) e

first_alone : (banks : ℕ → List ℕ) → is_open (banks 0) ≡ true → is_open (banks 1) ≡ false
    → log_bank banks ≡ Some 0
first_alone banks first second = rw (first, second) refl

empty_store_is : (bank : List ℕ) → entries_of bank ≡ [] → generation_of bank ≡ 1
    → store_in bank ≡ empty_store
unfolding made_of
empty_store_is bank empty one =
    store_is bank ∙ ap (λ (es : List Entry). made_of es (generation_of bank)) empty
    ∙ ap (made_of []) one

store_first : (banks : ℕ → List ℕ) (bank : List ℕ) → banks 0 ≡ bank → is_open bank ≡ true
    → entries_of bank ≡ [] → generation_of bank ≡ 1 → is_open (banks 1) ≡ false
    → store_of banks ≡ Some empty_store
store_first banks bank is opens empty one shut =
    store_at banks 0 (first_alone banks (ap is_open is ∙ opens) shut)
    ∙ ap (λ (b : List ℕ). Some (store_in b)) is ∙ ap Some (empty_store_is bank empty one)

blank_shut : (n : ℕ) → 0 < n → is_open (filled n []) ≡ false
blank_shut n some =
    let whole : n - 0 ≡ n = omega arith in
    let e : filled n [] ≡ 255 ∷ replicate {A = ℕ} (n - 1) 255 =
    ap (λ (k : ℕ). replicate {A = ℕ} k 255) whole ∙ padded n some in
    ap is_open e ∙ refl

bank_is : (format n : ℕ) → 65536 ≤ n
    → filled n (bank_head format) ≡ bank_head format ++ 255 ∷ replicate (n - 17) 255
bank_is format n low =
    ap (λ (l : List ℕ). bank_head format ++ l)
    (padded (n - 16) (omega arith)
    ∙ (let e : n - 16 - 1 ≡ n - 17 = omega arith in
    ap (λ (k : ℕ). 255 ∷ replicate {A = ℕ} k 255) e))

first_store : (board : BoardValue) (format : ℕ) → board.store ≡ format → IsBoard board
    → (format ≡ 1) ⊎ (format ≡ 2)
    → store_of (first_contents true board).bytes ≡ Some empty_store
first_store board format is kept (inl one) =
    let rest = replicate (board.bank - 17) 255 in
    let head : board.store ≡ 1 = is ∙ one in
    store_first (first_contents true board).bytes (bank_head 1 ++ 255 ∷ rest)
    (bank_is board.store board.bank kept.bank_low
    ∙ ap (λ (f : ℕ). bank_head f ++ 255 ∷ rest) head) refl
    (closed_end (length (bank_head 1 ++ 255 ∷ rest)) 1 None (255 ∷ rest) refl) refl
    (blank_shut board.bank (omega (arith, kept.bank_low)))
first_store board format is kept (inr two) =
    let rest = replicate (board.bank - 17) 255 in
    let head : board.store ≡ 2 = is ∙ two in
    store_first (first_contents true board).bytes (bank_head 2 ++ 255 ∷ rest)
    (bank_is board.store board.bank kept.bank_low
    ∙ ap (λ (f : ℕ). bank_head f ++ 255 ∷ rest) head) refl
    (closed_end (length (bank_head 2 ++ 255 ∷ rest)) 2 None (255 ∷ rest) refl) refl
    (blank_shut board.bank (omega (arith, kept.bank_low)))

-- ---- a device

-- the image of a factory, by its version and floor
abbrev image_by : ℕ → ℕ → Image
image_by version floor = record {
  ticket = record { route = 255; capsule = 0; item = 0; serial = 0 };
  version = version;
  floor = floor;
  dependency = [];
  payload = [];
}

fits : (room : ℕ) → nat_le 0 room ≡ true
fits room = grind (arith, nat_tests)

slot_is : (version floor : ℕ) (rest : List ℕ)
    → image_in slot_of (slot_head version floor ++ rest)
    ≡ Some (image_by (number (bytes_of 4 version)) (number (bytes_of 4 floor)))
slot_is version floor rest = rw (fits (length (slot_head version floor ++ rest) - SLOT_LEAD)) refl

factory_slot : (d : DeviceValue) → d.version < 2 ^ 32 → d.floor < 2 ^ 32
    → image_in slot_of (first_device false d) ≡ Some (factory_image d)
factory_slot d version floor =
    slot_is d.version d.floor (replicate (region_size false d.capacity - 64) 255)
    ∙ ap (λ (n : ℕ). Some (image_by n (number (bytes_of 4 d.floor))))
    (number-bytes_of 4 d.version version)
    ∙ ap (λ (n : ℕ). Some (image_by d.version n)) (number-bytes_of 4 d.floor floor)

device_image : (board : BoardValue) → board.two_banks ≡ false → HaveWidths board → (i : ℕ)
    → i < length board.devices
    → image_in slot_of ((first_contents true board).bytes (region_of i))
    ≡ image_of board [] i
device_image board one widths i lt = elim (slice_get_cases board.devices i).1 [
  | inl found ↦ (
      let d = found.0 in
      let there : get_or (map (first_device board.two_banks) board.devices) i []
      ≡ first_device board.two_banks d =
      get_or-map (first_device board.two_banks) board.devices i d [] lt
      ∙ ap (first_device board.two_banks) found.3 in
      let at : region_of i ≡ suc (suc i) = omega arith in
      let w = widths.each i d found.2 in
      ap (λ (k : ℕ). image_in slot_of (get_or (first_regions board) k [])) at
      ∙ ap (image_in slot_of) there
      ∙ ap (λ (b : Bool). image_in slot_of (first_device b d)) one
      ∙ factory_slot d w.0 w.1
      ∙ sym (ap (option_map factory_image) found.2)
      )
  | inr past ↦ absurd (omega (arith, past.0, lt))
]

-- nothing is dirty, so that the bytes as read are the one image
clean_image : (board : BoardValue) (k : ℕ) (image : List ℕ)
    → IsImage (region_at (first_contents true board) k) image
    → image ≡ (first_contents true board).bytes k
clean_image board k image is =
    stable_image (region_at (first_contents true board) k) image (record { clean = λ at. refl }) is

outside_first : (x : Setting) (board : BoardValue) → x.board ≡ board → x.slot_of ≡ slot_of
    → board.two_banks ≡ false → HaveWidths board
    → OutsideIs x (first_contents true board) (fresh board)
outside_first x board is form one widths = record {
  board = sym is;
  devices = λ d lt bytes im.
      let slot : image_in x.slot_of bytes ≡ image_of board [] d =
      ap (λ (f : List ℕ → Option HeldSlot). image_in f bytes) form
      ∙ ap (image_in slot_of) (clean_image board (region_of d) bytes im)
      ∙ device_image board one widths d
      (subst (λ (b : BoardValue). d < length b.devices) is lt) in
      record {
        slot = slot;
        begun = record {
          are = record {
            distinct = λ i j t before within. absurd (omega (arith, within));
            within = none;
            started = λ before rest e split on was. absurd (no_part before rest e split);
          };
          tells = tt;
        };
      };
  folder = refl;
  memory = refl;
}
  where
    no_part : (before rest : List Element) (e : Element) → [] ≡ before ++ e ∷ rest → ⊥
    no_part [] rest e split = cc
    no_part (b ∷ before) rest e split = cc

format_cases : (n : ℕ) → 1 ≤ n → n ≤ 2 → (n ≡ 1) ⊎ (n ≡ 2)
format_cases zero low high = absurd (omega arith)
format_cases (suc zero) low high = inl refl
format_cases (suc (suc zero)) low high = inr refl
format_cases (suc (suc (suc n))) low high = absurd (omega arith)

-- a board of one-bank devices as it leaves the factory
pub first_stands : (x : Setting) (board : BoardValue) → x.board ≡ board → x.slot_of ≡ slot_of
    → IsBoard board → board.two_banks ≡ false → HaveWidths board
    → StandsForEither x (first_contents true board) (fresh board) (fresh board)
first_stands x board is form kept one widths = record {
  told = refl;
  stores = λ image im.
      let first = clean_image board 0 (image 0) (im 0) in
      let second = clean_image board 1 (image 1) (im 1) in
      let bytes = (first_contents true board).bytes in
      let same : store_of image ≡ Some empty_store =
      same_store bytes image (same_bank (bytes 0) (image 0) first)
      (same_bank (bytes 1) (image 1) second)
      ∙ first_store board board.store refl kept
      (format_cases board.store kept.store_low kept.store_high) in
      inl (subst (λ (o : Option StoreValue). StoreFits o (fresh board)) (sym same)
      (empty_is_fresh board));
  before = outside_first x board is form one widths;
  after = outside_first x board is form one widths;
}

-- Thin deliveries.
use Rattle.std.proofs.Common.{◌≡◌, ℕ, ◌+◌, ◌*◌, ◌≤◌, ◌<◌, ◌==◌, ◌&&◌, nat_le, if◌then◌else◌, Option}
use Rattle.std.proofs.Common.{Some, None, unwrap_or, Bool, true, false, List, length, take, get_or}
use Rattle.std.proofs.Common.{◌^◌, cond, drop, drop-cons, refl, ap, ◌∙◌, sym, arith}
use Rattle.std.proofs.lemmas.Bool.{leb-true}
use Rattle.std.proofs.lemmas.List.{length-take, length-drop}
use Rattle.cu_base.specs.declared.guid.Guid.{Guid}
use Rattle.cu_base.specs.Fields.{field, number_at, number}
use Rattle.cu_base.specs.declared.limits.TheConstants.{MAX_CAPSULE_BYTES}
use Rattle.std.specs.List.{list_any}
use Rattle.bench_model.specs.Boards.{BoardValue}
use Rattle.bench_model.specs.Devices.{DeviceValue}
use Rattle.reference_machine.specs.Deliveries.{is_target}
use Rattle.reference_machine.specs.Formats.{Item}
use Rattle.reset_play.specs.Plays.{is_thin_on}
use Rattle.reset_play.specs.Thin.{is_thin, has_thin_header, has_thin_body, has_thin_image}
use Rattle.reset_play.specs.Thin.{thin_item}
use Rattle.reset_play.specs.ThinValues.{thin_head, thin_said}

second : (a b : Bool) → a && b ≡ true → b ≡ true
second true b h = h
second false b h = grind (arith, h)

sum_within : (x y n : ℕ) → (92 + x + y == n) ≡ true → 92 + x ≤ n
sum_within x y n h = grind (arith, h)

-- the image of a thin delivery ends within it
pub image_end : (b : List ℕ) → is_thin b ≡ true → 92 + number_at b 68 4 ≤ length b
image_end b h =
    let image : has_thin_image b ≡ true =
    second
    (nat_le 92 (length b) && nat_le (length b) MAX_CAPSULE_BYTES && has_thin_header b
    && has_thin_body b) (has_thin_image b) h in
    let end : (92 + number_at b 68 4 + number_at b 72 4 == length b) ≡ true =
    second (number_at b 44 4 == 3 && number_at b 84 8 == 0) _ image in
    sum_within (number_at b 68 4) (number_at b 72 4) (length b) end

-- the number in one byte
pub one_byte : (b : List ℕ) (at d : ℕ) → at < length b → get_or b at d ≡ number_at b at 1
one_byte b at d h = let e : get_or b at d + 256 * 0 ≡ get_or b at d =
    omega arith in sym (ap (λ (l : List ℕ). number (take 1 l)) (drop-cons b at d h) ∙ e)

-- an item of these fields is that of the delivery
pub item_read : (b : List ℕ) (guid : Guid) (index instance : ℕ) (image : List ℕ)
    → guid.bytes ≡ field b 48 16 → index ≡ number_at b 64 1 → instance ≡ number_at b 76 8
    → image ≡ field b 92 (number_at b 68 4) →
    ◌≡◌ {A = Item} (record { head = thin_head guid index instance; image = image }) (thin_item b)
item_read b guid index instance image eg ei en em = λ i. record {
  head = thin_head (record { bytes = eg i }) (ei i) (en i);
  image = em i;
}

target_said : (b : Bool) (item said : Item) (devices : List DeviceValue)
    → Some item ≡ (if b then Some said else None)
    → list_any (is_target item.head) devices ≡ (b && list_any (is_target said.head) devices)
target_said true item said devices h =
    ap (λ (o : Option Item). list_any (is_target (unwrap_or o said).head) devices) h
target_said false item said devices h = grind (arith, h)

-- a delivery that says an item is thin, and has a target where the item has one
pub thin_on : (board : BoardValue) (b : List ℕ) (item : Item) → Some item ≡ thin_said b
    → list_any (is_target item.head) board.devices ≡ is_thin_on board b
thin_on board b item h = target_said (is_thin b) item (thin_item b) board.devices h

nothing_said : (b : Bool) (said : Item) (devices : List DeviceValue)
    → None ≡ (if b then Some said else None) → false ≡ (b && list_any (is_target said.head) devices)
nothing_said true said devices h = grind (arith, h)
nothing_said false said devices h = refl

-- a delivery that says none is not
pub not_thin_on : (board : BoardValue) (b : List ℕ) → None ≡ thin_said b
    → false ≡ is_thin_on board b
not_thin_on board b h = nothing_said (is_thin b) (thin_item b) board.devices h

first : (a b : Bool) → a && b ≡ true → a ≡ true
first true b h = refl
first false b h = h

-- a thin delivery is no longer than a capsule may be
thin_small : (b : List ℕ) → is_thin b ≡ true → length b ≤ MAX_CAPSULE_BYTES
thin_small b h =
    leb-true (length b) MAX_CAPSULE_BYTES
    (second (nat_le 92 (length b)) (nat_le (length b) MAX_CAPSULE_BYTES)
    (first _ (has_thin_header b) (first _ (has_thin_body b) (first _ (has_thin_image b) h))))

-- so its image is a short one
image_small : (b image : List ℕ) → is_thin b ≡ true → image ≡ (thin_item b).image
    → length image < 2 ^ 32
image_small b image h e =
    let rest : List ℕ = drop 92 b in
    omega (
      arith,
      ap length e,
      length-take (number_at b 68 4) rest,
      length-drop 92 b,
      thin_small b h,
    )

pub said_small : (b : List ℕ) (item : Item) → is_thin b ≡ true → Some item ≡ thin_said b
    → length item.image < 2 ^ 32
said_small b item h e =
    image_small b item.image h
    (ap (λ (o : Option Item). (unwrap_or o item).image)
    (e ∙ ap (λ (t : Bool). cond t (Some (thin_item b)) None) h))

-- Sample plays on a board with one device, and their texts.
use Rattle.std.specs.Prelude.{false, ℕ, ◌+◌, not, List, [], ◌∷◌, ◌++◌, length, map, filter}
use Rattle.std.specs.Prelude.{flat_map, find, codes, bytes_eq, option_map, unwrap_or}
use Rattle.sha2.specs.Sha256.{sha256}
use Rattle.cu_base.specs.declared.digest.Digest.{Digest}
use Rattle.reference_machine.specs.declared.event.Event.{Event}
use Rattle.reference_machine.specs.declared.event.Event.TheVariants as events
use Rattle.bench_model.specs.Boards.{BoardValue}
use Rattle.bench_model.specs.Devices.{DeviceValue}
use Rattle.reference_machine.specs.Events.{trace_of}
use Rattle.reference_machine.specs.Machine.{fresh}
use Rattle.reset_play.specs.Texts.{trace_text}
use Rattle.delivery_formats.specs.TrueFormats.{true_formats}

-- a number below 256 in four bytes
abbrev pub small : ℕ → List ℕ
small n = n ∷ 0 ∷ 0 ∷ 0 ∷ []

-- aaaaaaaa-0000-0000-0000-000000000001
abbrev pub sample_type : List ℕ
sample_type = 0xAA ∷ 0xAA ∷ 0xAA ∷ 0xAA ∷ 0 ∷ 0 ∷ 0 ∷ 0 ∷ 0 ∷ 0 ∷ 0 ∷ 0 ∷ 0 ∷ 0 ∷ 0 ∷ 1 ∷ []

-- an image: signature, HeaderSize, version, lowest supported version, and the payload
abbrev pub sample_image : ℕ → ℕ → List ℕ → List ℕ
sample_image version lowest payload =
    codes "MSS1" ++ small 16 ++ small version ++ small lowest ++ payload

-- a capsule of 92 bytes and an image: capsule header, FMP header, offset, image header
abbrev pub sample_capsule : ℕ → List ℕ → List ℕ
sample_capsule size image =
    0xED ∷ 0xD5 ∷ 0xCB ∷ 0x6D ∷ 0x2D ∷ 0xE8 ∷ 0x44 ∷ 0x4C ∷ 0xBD ∷ 0xA1 ∷ 0x71 ∷ 0x94 ∷ 0x19 ∷ 0x9A
    ∷ 0xD9 ∷ 0x2A ∷ small 28
    ++ 0 ∷ 0 ∷ 5 ∷ 0 ∷ small (92 + size) ++ small 1 ++ 0 ∷ 0 ∷ 1 ∷ 0 ∷ small 16 ++ small 0
    ++ small 3 ++ sample_type ++ 1 ∷ 0 ∷ 0 ∷ 0 ∷ small size ++ small 0 ++ small 0 ++ small 0
    ++ small 0 ++ small 0 ++ image

-- version 4 with floor 3, and versions 2 and 1 with floor 0, each with the payload `PQ`; one of
-- version 5 that is not listed, and one of version 6 that is longer than the device takes
abbrev pub sample_images : List (List ℕ × List ℕ)
sample_images =
    (codes "c4", sample_image 4 3 (codes "PQ")) ∷ (codes "c2", sample_image 2 0 (codes "PQ"))
    ∷ (codes "c1", sample_image 1 0 (codes "PQ"))
    ∷ (codes "c5", sample_image 5 0 (codes "PQ"))
    ∷ (codes "c6", sample_image 6 0 (codes "PQRST")) ∷ []

-- an input that is no capsule
abbrev pub sample_inputs : List (List ℕ × List ℕ)
sample_inputs =
    (codes "x", codes "no capsule")
    ∷ map (λ p. (p.0, sample_capsule (length p.1) p.1)) sample_images

-- the bytes of a sample input
abbrev pub bytes_of : List ℕ → List ℕ
bytes_of name = unwrap_or (option_map (λ p. p.1) (find (λ p. bytes_eq p.0 name) sample_inputs)) []

-- the image of version 5 is not listed
abbrev pub sample_digests : List Digest
sample_digests =
    map (λ p. record { bytes = sha256 p.1 })
    (filter (λ p. not (bytes_eq p.0 (codes "c5"))) sample_images)

-- one device, of version 3 and floor 2, that takes payloads of at most 4 bytes
abbrev pub sample_device : DeviceValue
sample_device = record {
  name = codes "sys";
  type_id = record { bytes = sample_type };
  index = 1;
  instance = 0;
  fw_type = 1;
  capacity = 4;
  version = 3;
  floor = 2;
  flags = 0;
}

-- the sample board
abbrev pub sample_board : ℕ → BoardValue
sample_board result_max =
    record {
      bank = 65536;
      store = 2;
      two_banks = false;
      result_max = result_max;
      digests = sample_digests;
      devices = sample_device ∷ [];
    }

-- the event that drops a sample file
abbrev pub drop : List ℕ → List ℕ → Event
drop file input = events.Drop file input

-- the text of a play on the sample board on which nothing fails
abbrev pub sample_text : ℕ → List Event → List ℕ
sample_text result_max script =
    trace_text (sample_board result_max) script
    (map (λ said. said.answer)
    (trace_of true_formats bytes_of (fresh (sample_board result_max)) script))

-- a file of an equal upper-cased name is replaced; the same bytes delivered again are another
-- delivery
abbrev pub redelivery : List Event
redelivery =
    drop (codes "a.cap") (codes "c4") ∷ drop (codes "A.CAP") (codes "c4") ∷ events.Signal
    ∷ events.Boot
    ∷ drop (codes "a.cap") (codes "c4") ∷ events.Signal ∷ events.Boot ∷ []

-- two files in one boot, of which the second has a version below the floor
abbrev pub lower_version : List Event
lower_version =
    drop (codes "a.cap") (codes "c2") ∷ drop (codes "b.cap") (codes "c1") ∷ events.Signal
    ∷ events.Boot ∷ []

-- files go by upper-cased names; a payload that is too long is refused, and an image that is not
-- listed, before its version is
abbrev pub refusals : List Event
refusals =
    drop (codes "C.cap") (codes "x") ∷ drop (codes "B.cap") (codes "c5")
    ∷ drop (codes "a.cap") (codes "c6")
    ∷ events.Boot ∷ events.Signal ∷ events.Boot ∷ events.Boot ∷ events.Show ∷ []

-- more results than there are numbers
abbrev pub wrapping : List Event
wrapping =
    drop (codes "c.cap") (codes "c4") ∷ drop (codes "b.cap") (codes "c4")
    ∷ drop (codes "a.cap") (codes "c4")
    ∷ events.Signal ∷ events.Boot ∷ events.Show ∷ []

-- lines as a text
abbrev pub text_of : List (List ℕ) → List ℕ
text_of lines = flat_map (λ l. l ++ 10 ∷ []) lines

-- what the first is to print
abbrev pub redelivery_lines : List (List ℕ)
redelivery_lines =
    codes "1 drop ok 1"
    ∷ codes "2 drop ok 2"
    ∷ codes "3 signal ok"
    ∷ codes "  try file:A.CAP 0 0 sys 0 4 Capsule0000"
    ∷ codes "4 boot ok"
    ∷ codes "5 drop ok 3"
    ∷ codes "6 signal ok"
    ∷ codes "  try file:a.cap 0 0 sys 0 4 Capsule0001"
    ∷ codes "7 boot ok"
    ∷ codes "done 7"
    ∷ []

-- what the second is to print
abbrev pub lower_version_lines : List (List ℕ)
lower_version_lines =
    codes "1 drop ok 1"
    ∷ codes "2 drop ok 2"
    ∷ codes "3 signal ok"
    ∷ codes "  try file:a.cap 0 0 sys 0 2 Capsule0000"
    ∷ codes "  try file:b.cap 0 0 sys 25 1 Capsule0001"
    ∷ codes "4 boot ok"
    ∷ codes "done 4"
    ∷ []

-- what the third is to print
abbrev pub refusals_lines : List (List ℕ)
refusals_lines =
    codes "1 drop ok 1"
    ∷ codes "2 drop ok 2"
    ∷ codes "3 drop ok 3"
    ∷ codes "4 boot ok"
    ∷ codes "5 signal ok"
    ∷ codes "  try file:a.cap 0 0 sys 9 6 Capsule0000"
    ∷ codes "  try file:B.cap 0 0 sys 26 5 Capsule0001"
    ∷ codes "  bad file:C.cap - - - 1 - Capsule0002"
    ∷ codes "6 boot ok"
    ∷ codes "7 boot ok"
    ∷ codes "  esrt aaaaaaaa-0000-0000-0000-000000000001 1 3 2 0 5 5"
    ∷ codes "  result Capsule0000 9 6dcbd5ed-e82d-4c44-bda1-7194199ad92a 0 1 a.cap sys"
    ∷ codes "  result Capsule0001 26 6dcbd5ed-e82d-4c44-bda1-7194199ad92a 0 1 B.cap sys"
    ∷ codes "  result Capsule0002 1 00000000-0000-0000-0000-000000000000"
    ∷ codes "  last Capsule0002"
    ∷ codes "8 show ok"
    ∷ codes "done 8"
    ∷ []

-- what the fourth is to print
abbrev pub wrapping_lines : List (List ℕ)
wrapping_lines =
    codes "1 drop ok 1"
    ∷ codes "2 drop ok 2"
    ∷ codes "3 drop ok 3"
    ∷ codes "4 signal ok"
    ∷ codes "  try file:a.cap 0 0 sys 0 4 Capsule0000"
    ∷ codes "  try file:b.cap 0 0 sys 0 4 Capsule0001"
    ∷ codes "  try file:c.cap 0 0 sys 0 4 Capsule0000"
    ∷ codes "5 boot ok"
    ∷ codes "  esrt aaaaaaaa-0000-0000-0000-000000000001 1 4 3 0 4 0"
    ∷ codes "  result Capsule0000 0 6dcbd5ed-e82d-4c44-bda1-7194199ad92a 0 1 c.cap sys"
    ∷ codes "  result Capsule0001 0 6dcbd5ed-e82d-4c44-bda1-7194199ad92a 0 1 b.cap sys"
    ∷ codes "  last Capsule0000"
    ∷ codes "6 show ok"
    ∷ codes "done 6"
    ∷ []

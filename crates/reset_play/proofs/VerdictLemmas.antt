-- The verdict on an image.
use Rattle.std.proofs.Common.{◌≡◌, ℕ, ◌==◌, true, cond, List, [], ◌∷◌, length, refl, Option}
use Rattle.std.proofs.Common.{Some, None, is_some, option_map, unwrap_or, IsTrue, ap, ◌∙◌, sym}
use Rattle.cu_base.specs.Refusals.{first_refusal}
use Rattle.bench_model.specs.Boards.{BoardValue}
use Rattle.bench_model.specs.Devices.{DeviceValue}
use Rattle.cu_base.specs.Bytes.{IsBytes}
use Rattle.image_parts.specs.declared.fault.PartRefusal.{PartRefusal}
use Rattle.image_parts.specs.declared.fault.PartRefusal.TheVariants.{Part, Memory}
use Rattle.image_parts.specs.declared.fault.PartWhy.{PartWhy}
use Rattle.image_parts.specs.Refusals.{IsRefusalOf}
use Rattle.image_parts.specs.Support.{has_section}
use Rattle.image_parts.specs.Cuts.{head_rows, parts_at}
use Rattle.reference_machine.specs.Deliveries.{BootUnit}
use Rattle.reference_machine.specs.Formats.{Parts}
use Rattle.reference_machine.specs.Machine.{Machine}
use Rattle.reference_machine.specs.Verdicts.{refusal, refusal_with, keeps_dependencies}
use Rattle.delivery_formats.specs.Seen.{machine_parts}
use Rattle.delivery_formats.proofs.FormatLemmas.{no_parts_seen}
use Rattle.reset_play.specs.Plays.{has_one_device}
use Rattle.delivery_formats.specs.TrueFormats.{true_formats}
use Rattle.reset_play.proofs.OneUnit.{two_not_one}

-- the verdict on an image is that on its parts
pub parts_read : (image : List ℕ) (m : Machine) (u : BootUnit) (parts : Option Parts)
    → u.image ≡ image → u.head.support ≡ 0 → parts ≡ true_formats.parts image 0
    → refusal_with true_formats m u parts ≡ refusal true_formats m u
parts_read image m u parts ei es ep =
    ap (refusal_with true_formats m u)
    (ep ∙ sym (ap (λ (l : List ℕ). true_formats.parts l 0) ei)
    ∙ sym (ap (true_formats.parts u.image) es))

-- no image of support 0 has a dependency section
pub no_section : (image : List ℕ)
    → [] ≡ unwrap_or (option_map (λ (p : Parts). p.dependency) (true_formats.parts image 0)) []
no_section image = by (first_refusal (head_rows image 0 0))
  where
    by : (r : Option (ℕ × PartWhy))
        → [] ≡ unwrap_or (option_map (λ (p : Parts). p.dependency)
        (option_map machine_parts (cond (is_some r) None (Some (parts_at image 0 0))))) []
    by None = refl
    by (Some x) = refl

pub none_due : (image : List ℕ) (p : Parts) → Some p ≡ true_formats.parts image 0 → p.dependency
    ≡ []
none_due image p e =
    ap (λ (o : Option Parts). unwrap_or (option_map (λ (q : Parts). q.dependency) o) []) e
    ∙ sym (no_section image)

-- an image that is not split has none
pub refused_none : (image : List ℕ) (e : PartRefusal) → IsBytes image → IsRefusalOf e image 0
    → (e ≡ Memory → IsTrue (has_section 0)) → None ≡ true_formats.parts image 0
refused_none image (Part fault) is refused memory =
    sym ((no_parts_seen image 0 is).1 (fault.at, fault.why, refused))
refused_none image Memory is refused memory = absurd (let due = memory refl in cc)

-- on a board of one device an image without a section keeps all dependencies
keeps_on : (m : Machine) (devices : List DeviceValue) (p : Parts) → m.board.devices ≡ devices
    → (length devices == 1) ≡ true → p.dependency ≡ [] → keeps_dependencies true_formats m 0 p
    ≡ true
keeps_on m [] p e one none = absurd cc
keeps_on m (d ∷ []) p e one none = rw (e, none) refl
keeps_on m (d ∷ f ∷ rest) p e one none = absurd (two_not_one (length rest) one)

pub dependencies_hold : (m : Machine) (board : BoardValue) (d : ℕ) (p : Parts) → m.board ≡ board
    → IsTrue (has_one_device board) → d ≡ 0 → p.dependency ≡ []
    → keeps_dependencies true_formats m d p ≡ true
dependencies_hold m board d p eb one ed none =
    ap (λ (n : ℕ). keeps_dependencies true_formats m n p) ed
    ∙ keeps_on m board.devices p (ap (λ (b : BoardValue). b.devices) eb) one none

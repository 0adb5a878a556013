-- A try that a check before that of the dependencies refuses.
use Rattle.std.proofs.Common.{◌≡◌, ◌<◌, ◌∙◌, ℕ, List, None, Option, Some, ap, length, refl}
use Rattle.std.proofs.Common.{subst, sym}
use Rattle.bench_model.specs.Boards.{BoardValue}
use Rattle.capsule_grammar.specs.declared.value.Image.{Image}
use Rattle.cu_base.specs.Bytes.{IsBytes}
use Rattle.cu_base.specs.declared.device_state.DevState.{DevState}
use Rattle.cu_base.specs.declared.guid.Guid.{Guid}
use Rattle.cu_base.specs.declared.status.EfiStatus.{EfiStatus}
use Rattle.cu_base.specs.declared.time.EfiTime.{EfiTime}
use Rattle.delivery_formats.proofs.FormatLemmas.{no_parts_seen}
use Rattle.delivery_formats.specs.TrueFormats.{true_formats}
use Rattle.fmp_slot.specs.Held.{HeldSlot}
use Rattle.image_parts.specs.Refusals.{IsRefusalOf}
use Rattle.image_parts.specs.declared.fault.PartFault.{PartFault}
use Rattle.image_parts.specs.declared.fault.PartRefusal.{PartRefusal}
use Rattle.image_parts.specs.declared.fault.PartRefusal.TheVariants.{Part}
use Rattle.reference_machine.specs.Boots.{BootState, course_of_try}
use Rattle.reference_machine.specs.Spent.{floor_of}
use Rattle.reference_machine.specs.declared.unit.End.TheVariants.{Refused}
use Rattle.reference_machine.specs.declared.unit.Kind.TheVariants.{Try}
use Rattle.reference_machine.specs.declared.unit.UnitKey.{UnitKey}
use Rattle.stored_vars.specs.Holds.{device_of}
use Rattle.var_store.specs.Stores.{variables_of}
use Rattle.cap_boot.specs.declared.verdict.Refusal.{Refusal}
use Rattle.cap_boot.specs.Checks.{IsRefused}
use Rattle.cap_boot.specs.Closing.{IsClosedBy}
use Rattle.cap_boot.specs.Given.{setting}
use Rattle.cap_boot.specs.Situations.{IsAt, Situation}
use Rattle.cap_boot.specs.Units.{try_unit}

-- an image that is not cut has no parts
pub no_parts : (image : List ℕ) (support : ℕ) (e : PartRefusal) (f : PartFault) → IsBytes image
    → e ≡ Part f → IsRefusalOf e image support → None ≡ true_formats.parts image support
no_parts image support e f is same refused =
    let told : IsRefusalOf (Part f) image support =
    subst (λ (r : PartRefusal). IsRefusalOf r image support) same refused in
    sym ((no_parts_seen image support is).1 (f.at, f.why, told))

-- a try that is refused is closed so
pub closed_refused : (board : BoardValue) (now : EfiTime) (slot_of : List ℕ → Option HeldSlot)
    (y : Situation) (key : UnitKey) (capsule : Guid) (image : Image) (bytes : List ℕ) (floor : ℕ)
    (r : Refusal) (status : EfiStatus) → key.device < length board.devices
    → floor ≡ (device_of board (variables_of y.store) key.device).floor → bytes ≡ image.image
    → IsRefused board key.device floor bytes image.header.support r
    → IsClosedBy (setting board now slot_of) (try_unit key capsule image)
    (record {
      kind = Try;
      key = key;
      version = r.version;
      end = Some (Refused r.status);
      status = status;
      result = 0;
    })
    (record { capsule = capsule; type_id = image.header.type_id; index = image.header.index }) y
closed_refused board now slot_of y key capsule image bytes floor r status on in_force same by =
    record {
      kind = refl;
      key = refl;
      version = is.version;
      ids_are = refl;
      course = λ b way at.
          ap course_of_try
          (is.is b.machine (try_unit key capsule image) at.outside.board refl refl (floor_is b at));
      ends = (on, is.status_fits);
      version_fits = is.version_fits;
      floor_fits = is.lowest_fits;
    }
  where
    is : IsRefused board key.device floor image.image image.header.support r
    is = subst (λ (l : List ℕ). IsRefused board key.device floor l image.header.support r) same by

    floor_is : (b : BootState) → IsAt (setting board now slot_of) b y
        → floor_of b.machine.board b.machine.list key.device ≡ floor
    floor_is b at =
        sym (ap (λ (s : DevState). s.floor) (at.stores.variables.devices key.device
        (subst (λ (c : BoardValue). key.device < length c.devices) (sym at.outside.board) on)))
        ∙ ap (λ (c : BoardValue). (device_of c (variables_of y.store) key.device).floor)
        at.outside.board
        ∙ sym in_force

use Rattle.std.proofs.Common.{rules, ◌≡◌, ◌∙◌, Err, ap, map, refl}
use Rattle.std.specs.Prelude.{option_map}
use Rattle.delivery_formats.specs.Seen.{machine_capsule}
use Rattle.delivery_formats.specs.TrueFormats.{true_formats}
use Rattle.cap_boot.specs.declared.fault.BootFault.TheVariants.{Memory}
use Rattle.cap_boot.specs.Given.{setting}
use Rattle.cap_boot.specs.Units.{boot_unit, delivery_of}
use Rattle.cap_boot.proofs.Delivered.{decoded_done, few_found, few_listed}
use Rattle.cap_boot.proofs.Works.{as_result, gave_up}
use Rattle.cap_boot.proofs.doing.do_capsules.Goals as goal

pub returns-in_err-units-clause-does : goal.returns-in_err-units-clause-does
returns-in_err-units-clause-does g c =
    let is : c.from_residual.result ≡ Err Memory = search rules in
    as_result _ is (gave_up _ _ _ _ _ _)

pub do_units-requires-clause-few : goal.do_units-requires-clause-few
do_units-requires-clause-few g c =
    let d = delivery_of c.args.source.now in
    few_listed true_formats c.args.board.now d c.as_slice.result.now
    (option_map (λ o. map machine_capsule o.now.items) c.args.capsules) c.requires.rule
    (few_found (λ o. o.now.items) machine_capsule c.args.capsules 8 c.requires.few)
    (ap (map (boot_unit d)) c.as_slice.ensures ∙ c.in_ok-units.ensures.value d)

pub returns-clause-does : goal.returns-clause-does
returns-clause-does g c =
    let x = setting c.args.board.now c.args.now.now g.S.SlotForm.slot_of in
    let d = delivery_of c.args.source.now in
    decoded_done x c.args.board.now d c.as_slice.result.now
    (option_map (λ o. map machine_capsule o.now.items) c.args.capsules) c.args.from refl
    (ap (map (boot_unit d)) c.as_slice.ensures ∙ c.in_ok-units.ensures.value d)
    c.in_ok-do_units.ensures.does

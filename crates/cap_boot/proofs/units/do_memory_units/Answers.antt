use Rattle.std.proofs.Common.{rules, ◌≡◌, ◌∙◌, Err, List, ap, map}
use Rattle.std.specs.Prelude.{option_and_then, option_map}
use Rattle.bench_model.specs.declared.segment.Segment.{Segment}
use Rattle.delivery_formats.specs.Seen.{machine_capsule}
use Rattle.delivery_formats.specs.TrueFormats.{true_formats}
use Rattle.scatter_list.specs.Coalesced.{coalesced_of}
use Rattle.cap_boot.specs.declared.fault.BootFault.TheVariants.{Memory}
use Rattle.cap_boot.specs.Given.{setting}
use Rattle.cap_boot.specs.Situations.{situation}
use Rattle.cap_boot.proofs.Delivered.{memory_done, seen_by}
use Rattle.cap_boot.proofs.Works.{as_result, gave_up}
use Rattle.cap_boot.proofs.units.do_memory_units.Goals as goal

pub returns-in_err-capsules-clause-does : goal.returns-in_err-capsules-clause-does
returns-in_err-capsules-clause-does g c =
    let is : c.from_residual.result ≡ Err Memory = search rules in
    as_result _ is (gave_up _ _ _ _ _ _)

pub returns-in_err-do_capsules-clause-does : goal.returns-in_err-do_capsules-clause-does
returns-in_err-do_capsules-clause-does g c =
    let x = setting c.args.board.now c.args.now.now g.S.SlotForm.slot_of in
    let y = situation c.args.store.now (g.W.BenchState.state c.args.bench.now) c.args.report.now in
    let is : c.from_residual-in_err-do_capsules.result
    ≡ Err c.in_err-do_capsules.field-0.0 = search rules in
    as_result x is (memory_done x c.args.pair
    (option_map (λ o. map machine_capsule o.now.items) c.as_ref.result)
    {y = y}
    (seen_by c.as_ref.result c.in_ok-capsules.capsules (λ l. map machine_capsule l.items)
    c.as_ref.ensures.value ∙ c.in_ok-capsules.ensures.value
    ∙ ap (λ (memory : List Segment). option_and_then true_formats.capsules
    (coalesced_of memory c.args.pair.address)) (g.met.W.Platform.memory_is c.args.bench.now))
    c.in_err-do_capsules.ensures.does)

pub returns-clause-does : goal.returns-clause-does
returns-clause-does g c =
    let x = setting c.args.board.now c.args.now.now g.S.SlotForm.slot_of in
    let y = situation c.args.store.now (g.W.BenchState.state c.args.bench.now) c.args.report.now in
    memory_done x c.args.pair (option_map (λ o. map machine_capsule o.now.items) c.as_ref.result)
    {y = y}
    (seen_by c.as_ref.result c.in_ok-capsules.capsules (λ l. map machine_capsule l.items)
    c.as_ref.ensures.value ∙ c.in_ok-capsules.ensures.value
    ∙ ap (λ (memory : List Segment). option_and_then true_formats.capsules
    (coalesced_of memory c.args.pair.address)) (g.met.W.Platform.memory_is c.args.bench.now))
    c.in_ok-do_capsules.ensures.does

use Rattle.std.proofs.Common.{rules, ◌≡◌, ◌∙◌, Err, ap, map, refl, sym}
use Rattle.std.specs.Prelude.{option_map}
use Rattle.bench_model.specs.Bench.{Contents}
use Rattle.bench_model.specs.Files.{ListedFile, file_bytes}
use Rattle.delivery_formats.specs.Seen.{machine_capsule}
use Rattle.stored_vars.specs.Holds.{units_of}
use Rattle.var_store.specs.Stores.{variables_of}
use Rattle.cap_boot.specs.declared.fault.BootFault.TheVariants.{Memory}
use Rattle.cap_boot.specs.Given.{setting}
use Rattle.cap_boot.specs.Situations.{situation}
use Rattle.cap_boot.proofs.Delivered.{seen_by}
use Rattle.cap_boot.proofs.FileUnits.{file_done, reading_failed, told_same}
use Rattle.cap_boot.proofs.Frames.{starts_as}
use Rattle.cap_boot.proofs.Works.{as_result}
use Rattle.cap_boot.proofs.units.do_file_units.Goals as goal

pub returns-in_err-bytes-clause-does : goal.returns-in_err-bytes-clause-does
returns-in_err-bytes-clause-does g c =
    let state = g.W.BenchState.state in
    let x = setting c.args.board.now c.args.now.now g.S.SlotForm.slot_of in
    let y = situation c.args.store.now (state c.args.bench.now) c.args.report.now in
    let z = situation c.args.store.now (state c.bytes_in.new.volume) c.args.report.now in
    let is : c.from_residual.result ≡ Err c.in_err-bytes.field-0.0 = search rules in
    as_result x is (reading_failed x c.args.file.now.serial y z c.in_err-bytes.field-0.0
    c.in_err-bytes.ensures.refused refl c.bytes_in.ensures.frame.contents refl)

pub returns-in_err-capsules-clause-does : goal.returns-in_err-capsules-clause-does
returns-in_err-capsules-clause-does g c =
    let state = g.W.BenchState.state in
    let x = setting c.args.board.now c.args.now.now g.S.SlotForm.slot_of in
    let y = situation c.args.store.now (state c.args.bench.now) c.args.report.now in
    let z = situation c.args.store.now (state c.bytes_in.new.volume) c.args.report.now in
    let is : c.from_residual-in_err-capsules.result ≡ Err Memory = search rules in
    as_result x is (reading_failed x c.args.file.now.serial y z Memory tt refl
    c.bytes_in.ensures.frame.contents refl)

pub returns-in_err-do_capsules-clause-does : goal.returns-in_err-do_capsules-clause-does
returns-in_err-do_capsules-clause-does g c =
    let state = g.W.BenchState.state in
    let x = setting c.args.board.now c.args.now.now g.S.SlotForm.slot_of in
    let old = state c.args.bench.now in
    let new = state c.bytes_in.new.volume in
    let a = c.args.file.now in
    let z = situation c.args.store.now new c.args.report.now in
    let same = c.bytes_in.ensures.frame.contents in
    let is : c.from_residual-in_err-do_capsules.result
    ≡ Err c.in_err-do_capsules.field-0.0 = search rules in
    as_result x is (starts_as x {y = z} refl same refl
    (file_done x a z (told_same a old new same c.requires.there) c.progress-from.result
    c.file.inside.serial c.as_str.result.now c.as_slice.result.now
    (option_map (λ o. map machine_capsule o.now.items) c.as_ref.result)
    (ap (λ (e : ListedFile). e.serial) c.file.view_is)
    (c.as_str.ensures ∙ ap (λ (e : ListedFile). e.name) c.file.view_is)
    (λ told. c.as_slice.ensures
    ∙ c.in_ok-bytes.ensures.value (ap (λ (s : Contents). s.told) (sym same) ∙ told)
    ∙ ap (λ (s : Contents). file_bytes a.serial s.rest.folder.files) (sym same))
    (seen_by c.as_ref.result c.in_ok-capsules.capsules (λ l. map machine_capsule l.items)
    c.as_ref.ensures.value ∙ c.in_ok-capsules.ensures.value)
    (c.progress-from.ensures.value
    ∙ ap (λ (e : ListedFile). units_of (variables_of c.args.store.now) e.serial) c.file.view_is)
    c.in_err-do_capsules.ensures.does))

pub returns-clause-does : goal.returns-clause-does
returns-clause-does g c =
    let state = g.W.BenchState.state in
    let x = setting c.args.board.now c.args.now.now g.S.SlotForm.slot_of in
    let old = state c.args.bench.now in
    let new = state c.bytes_in.new.volume in
    let a = c.args.file.now in
    let z = situation c.args.store.now new c.args.report.now in
    let same = c.bytes_in.ensures.frame.contents in
    starts_as x {y = z} refl same refl
    (file_done x a z (told_same a old new same c.requires.there) c.progress-from.result
    c.file.inside.serial c.as_str.result.now c.as_slice.result.now
    (option_map (λ o. map machine_capsule o.now.items) c.as_ref.result)
    (ap (λ (e : ListedFile). e.serial) c.file.view_is)
    (c.as_str.ensures ∙ ap (λ (e : ListedFile). e.name) c.file.view_is)
    (λ told. c.as_slice.ensures
    ∙ c.in_ok-bytes.ensures.value (ap (λ (s : Contents). s.told) (sym same) ∙ told)
    ∙ ap (λ (s : Contents). file_bytes a.serial s.rest.folder.files) (sym same))
    (seen_by c.as_ref.result c.in_ok-capsules.capsules (λ l. map machine_capsule l.items)
    c.as_ref.ensures.value ∙ c.in_ok-capsules.ensures.value)
    (c.progress-from.ensures.value
    ∙ ap (λ (e : ListedFile). units_of (variables_of c.args.store.now) e.serial) c.file.view_is)
    c.in_ok-do_capsules.ensures.does)

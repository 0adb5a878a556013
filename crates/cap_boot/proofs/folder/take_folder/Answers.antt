use Rattle.std.proofs.Common.{rules, ◌≡◌, Err, refl, sym, ap, ◌∙◌}
use Rattle.bench_model.specs.Bench.{Contents}
use Rattle.std.proofs.Common.{List, subst}
use Rattle.std.specs.List.{AllPairs}
use Rattle.bench_model.specs.Files.{File, FolderValue, HaveOtherSerials, ListedFile, listed}
use Rattle.reference_machine.specs.Boots.{folder_tasks}
use Rattle.reference_machine.specs.Names.{is_taken_before}
use Rattle.reference_machine.specs.Order.{in_order}
use Rattle.cap_boot.specs.declared.fault.BootFault.TheVariants.{Memory}
use Rattle.cap_boot.specs.Given.{setting}
use Rattle.cap_boot.specs.Going.{IsNone, nothing}
use Rattle.cap_boot.specs.Keeps.{KeepsNothing}
use Rattle.cap_boot.specs.Situations.{situation}
use Rattle.delivery_formats.specs.TrueFormats.{true_formats}
use Rattle.cap_boot.proofs.Folders.{files_then, folder_from, have_files, keeps_none, listing_failed}
use Rattle.cap_boot.proofs.Folders.{lists_files, nothing_kept, prune_first}
use Rattle.cap_boot.proofs.Frames.{starts_as}
use Rattle.cap_boot.proofs.Works.{as_result, gave_up, goes_narrow, stopped_first, then_goes}
use Rattle.cap_boot.proofs.folder.take_folder.Goals as goal

pub returns-in_err-listing-clause-does : goal.returns-in_err-listing-clause-does
returns-in_err-listing-clause-does g c =
    let state = g.W.BenchState.state in
    let x = setting c.args.board.now c.args.now.now g.S.SlotForm.slot_of in
    let y = situation c.args.store.now (state c.args.bench.now) c.args.report.now in
    let z = situation c.args.store.now (state c.files_in_order.new.volume) c.args.report.now in
    let is : c.from_residual.result ≡ Err c.in_err-listing.field-0.0 = search rules in
    as_result x is (listing_failed x y z c.in_err-listing.field-0.0
    c.in_err-listing.ensures.refused refl c.files_in_order.ensures.frame.contents refl
    c.requires.asked)

pub returns-in_err-serials-clause-does : goal.returns-in_err-serials-clause-does
returns-in_err-serials-clause-does g c =
    let state = g.W.BenchState.state in
    let x = setting c.args.board.now c.args.now.now g.S.SlotForm.slot_of in
    let z = situation c.args.store.now (state c.files_in_order.new.volume) c.args.report.now in
    let is : c.from_residual-in_err-serials.result ≡ Err Memory = search rules in
    as_result x is (starts_as x {y = z} refl c.files_in_order.ensures.frame.contents refl
    (gave_up x IsNone KeepsNothing (folder_tasks true_formats) nothing z))

pub prune_progress-requires-clause-serials : goal.prune_progress-requires-clause-serials
prune_progress-requires-clause-serials g c =
    let state = g.W.BenchState.state in
    let old = state c.args.bench.now in
    let mid = state c.files_in_order.new.volume in
    let before = λ (a b : File). is_taken_before a.name b.name in
    lists_files mid before c.as_slice.result.now c.as_slice-2.result.now
    (c.as_slice.ensures.value ∙ c.in_ok-listing.ensures.value
    ∙ ap (λ (s : Contents). listed (in_order before s.rest.folder.files))
    (sym c.files_in_order.ensures.frame.contents))
    (c.as_slice-2.ensures ∙ c.in_ok-serials.ensures)

pub returns-in_err-prune_progress-clause-does : goal.returns-in_err-prune_progress-clause-does
returns-in_err-prune_progress-clause-does g c =
    let state = g.W.BenchState.state in
    let x = setting c.args.board.now c.args.now.now g.S.SlotForm.slot_of in
    let y = situation c.args.store.now (state c.files_in_order.new.volume) c.args.report.now in
    let before = λ (a b : File). is_taken_before a.name b.name in
    let is : c.from_residual-in_err-prune_progress.result
    ≡ Err c.in_err-prune_progress.field-0.0 = search rules in
    let are = c.as_slice.ensures.value ∙ c.in_ok-listing.ensures.value
    ∙ ap (λ (s : Contents). listed (in_order before s.rest.folder.files))
    (sym c.files_in_order.ensures.frame.contents) in
    as_result x is (folder_from x {y = y} refl c.files_in_order.ensures.frame.contents refl
    c.requires.asked (stopped_first x (prune_first x c.as_slice.result.now c.requires.asked are
    (c.in_err-prune_progress.ensures.does x))))

pub take_files-requires-clause-there : goal.take_files-requires-clause-there
take_files-requires-clause-there g c =
    let state = g.W.BenchState.state in
    let before = λ (a b : File). is_taken_before a.name b.name in
    have_files (state c.prune_progress.new.bench) before c.as_slice-3.result.now
    (c.as_slice-3.ensures.value ∙ c.in_ok-listing.ensures.value
    ∙ ap (λ (s : Contents). listed (in_order before s.rest.folder.files))
    (sym c.files_in_order.ensures.frame.contents)
    ∙ ap (λ (v : FolderValue). listed (in_order before v.files))
    (sym c.prune_progress.ensures.folder))
    (subst (λ (l : List ListedFile). AllPairs HaveOtherSerials l) (sym c.as_slice-3.ensures.value)
    c.as_slice-3.ensures.rule.serials)

pub returns-in_err-take_files-clause-does : goal.returns-in_err-take_files-clause-does
returns-in_err-take_files-clause-does g c =
    let state = g.W.BenchState.state in
    let x = setting c.args.board.now c.args.now.now g.S.SlotForm.slot_of in
    let y = situation c.args.store.now (state c.files_in_order.new.volume) c.args.report.now in
    let before = λ (a b : File). is_taken_before a.name b.name in
    let is : c.from_residual-in_err-take_files.result
    ≡ Err c.in_err-take_files.field-0.0 = search rules in
    let files = c.as_slice-3.result.now in
    let are = c.as_slice-3.ensures.value ∙ c.in_ok-listing.ensures.value
    ∙ ap (λ (s : Contents). listed (in_order before s.rest.folder.files))
    (sym c.files_in_order.ensures.frame.contents) in
    as_result x is (folder_from x {y = y} refl c.files_in_order.ensures.frame.contents refl
    c.requires.asked (then_goes x keeps_none (prune_first x files c.requires.asked are
    (c.in_ok-prune_progress.ensures.does x))
    (stopped_first x (files_then x files c.in_err-take_files.ensures.does))))

pub returns-in_err-clear-clause-does : goal.returns-in_err-clear-clause-does
returns-in_err-clear-clause-does g c =
    let state = g.W.BenchState.state in
    let x = setting c.args.board.now c.args.now.now g.S.SlotForm.slot_of in
    let y = situation c.args.store.now (state c.files_in_order.new.volume) c.args.report.now in
    let before = λ (a b : File). is_taken_before a.name b.name in
    let is : c.from_residual-in_err-clear.result ≡ Err c.in_err-clear.field-0.0 = search rules in
    let files = c.as_slice-3.result.now in
    let are = c.as_slice-3.ensures.value ∙ c.in_ok-listing.ensures.value
    ∙ ap (λ (s : Contents). listed (in_order before s.rest.folder.files))
    (sym c.files_in_order.ensures.frame.contents) in
    as_result x is (folder_from x {y = y} refl c.files_in_order.ensures.frame.contents refl
    c.requires.asked (then_goes x nothing_kept (then_goes x keeps_none
    (prune_first x files c.requires.asked are (c.in_ok-prune_progress.ensures.does x))
    (files_then x files c.in_ok-take_files.ensures.does))
    (goes_narrow x (λ start rest may. tt) (c.in_err-clear.ensures.does x))))

pub returns-clause-does : goal.returns-clause-does
returns-clause-does g c =
    let state = g.W.BenchState.state in
    let x = setting c.args.board.now c.args.now.now g.S.SlotForm.slot_of in
    let y = situation c.args.store.now (state c.files_in_order.new.volume) c.args.report.now in
    let before = λ (a b : File). is_taken_before a.name b.name in
    let files = c.as_slice-3.result.now in
    let are = c.as_slice-3.ensures.value ∙ c.in_ok-listing.ensures.value
    ∙ ap (λ (s : Contents). listed (in_order before s.rest.folder.files))
    (sym c.files_in_order.ensures.frame.contents) in
    folder_from x {y = y} refl c.files_in_order.ensures.frame.contents refl
    c.requires.asked (then_goes x nothing_kept (then_goes x keeps_none
    (prune_first x files c.requires.asked are (c.in_ok-prune_progress.ensures.does x))
    (files_then x files c.in_ok-take_files.ensures.does))
    (goes_narrow x (λ start rest may. tt) (c.in_ok-clear.ensures.does x)))

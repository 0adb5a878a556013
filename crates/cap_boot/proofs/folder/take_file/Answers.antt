use Rattle.std.proofs.Common.{rules, ◌≡◌, Err, ap}
use Rattle.bench_model.specs.Files.{ListedFile}
use Rattle.cap_boot.specs.Given.{setting}
use Rattle.cap_boot.proofs.Listings.{told_in, told_there}
use Rattle.cap_boot.proofs.Takes.{removal_of, taken_others, units_first}
use Rattle.cap_boot.proofs.Works.{as_result, stopped_first, then_goes}
use Rattle.cap_boot.proofs.folder.take_file.Goals as goal

pub returns-in_err-do_file_units-clause-does : goal.returns-in_err-do_file_units-clause-does
returns-in_err-do_file_units-clause-does g c =
    let x = setting c.args.board.now c.args.now.now g.S.SlotForm.slot_of in
    let is : c.from_residual.result ≡ Err c.in_err-do_file_units.field-0.0 = search rules in
    as_result x is (stopped_first x
    (units_first x c.args.file.now.serial
    (told_there c.args.file.now (g.W.BenchState.state c.args.bench.now) c.requires.there)
    c.in_err-do_file_units.ensures.does))

pub returns-in_err-remove-clause-does : goal.returns-in_err-remove-clause-does
returns-in_err-remove-clause-does g c =
    let x = setting c.args.board.now c.args.now.now g.S.SlotForm.slot_of in
    let s = c.args.file.now.serial in
    let is : c.from_residual-in_err-remove.result ≡ Err c.in_err-remove.field-0.0 = search rules in
    as_result x is (then_goes x (taken_others s)
    (units_first x s
    (told_there c.args.file.now (g.W.BenchState.state c.args.bench.now) c.requires.there)
    c.in_ok-do_file_units.ensures.does)
    (removal_of x c.file.inside.serial s (ap (λ (a : ListedFile). a.serial) c.file.view_is)
    (c.in_err-remove.ensures.does x c.do_file_units.new.store)))

pub returns-clause-does : goal.returns-clause-does
returns-clause-does g c =
    let x = setting c.args.board.now c.args.now.now g.S.SlotForm.slot_of in
    let s = c.args.file.now.serial in
    then_goes x (taken_others s)
    (units_first x s
    (told_there c.args.file.now (g.W.BenchState.state c.args.bench.now) c.requires.there)
    c.in_ok-do_file_units.ensures.does)
    (removal_of x c.file.inside.serial s (ap (λ (a : ListedFile). a.serial) c.file.view_is)
    (c.in_ok-remove.ensures.does x c.do_file_units.new.store))

pub remove-requires : goal.remove-requires
remove-requires g c =
    let state = g.W.BenchState.state in
    record {
      there = told_in c.args.file.now c.file.inside.serial (state c.args.bench.now)
          (state c.do_file_units.new.bench) c.requires.there
          (ap (λ (a : ListedFile). a.serial) c.file.view_is) c.do_file_units.ensures.folder;
    }

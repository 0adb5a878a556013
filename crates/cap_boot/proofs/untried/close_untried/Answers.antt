use Rattle.std.proofs.Common.{rules, ◌≡◌, Err, arith, refl, sym}
use Rattle.bench_model.specs.Boards.{IsBoard}
use Rattle.std.proofs.Common.{subst}
use Rattle.cap_boot.specs.Units.{listed_unit}
use Rattle.cap_boot.specs.Situations.{situation}
use Rattle.cap_boot.proofs.UntriedUnits.{closed_untried, no_device}
use Rattle.cap_boot.proofs.Works.{as_result}
use Rattle.cap_boot.proofs.untried.close_untried.Goals as goal

pub close-requires-clause-state : goal.close-requires-clause-state
close-requires-clause-state g c on =
    let few = no_device c.args.board.now c.requires.rule in
    let none : ⊥ = omega (arith, few, on, c.requires.device) in absurd none

pub returns-in_err-close-clause-does : goal.returns-in_err-close-clause-does
returns-in_err-close-clause-does g c x d n on_board at_now key =
    let y = situation c.args.store.now (g.W.BenchState.state c.args.bench.now) c.args.report.now in
    let u = c.args.unit.now in
    let is : c.from_residual.result ≡ Err c.in_err-close.field-0.0 = search rules in
    as_result x is (c.in_err-close.ensures.does x (listed_unit d n u) on_board at_now
    (closed_untried x y d n u.capsule u.item u.guid u.matter _ _
    (subst IsBoard (sym on_board) c.requires.rule) c.requires.untried c.kind_of.ensures key refl
    refl c.ids_of.ensures))

pub returns-clause-does : goal.returns-clause-does
returns-clause-does g c x d n on_board at_now key =
    let y = situation c.args.store.now (g.W.BenchState.state c.args.bench.now) c.args.report.now in
    let u = c.args.unit.now in
    c.in_ok-close.ensures.does x (listed_unit d n u) on_board at_now
    (closed_untried x y d n u.capsule u.item u.guid u.matter _ _
    (subst IsBoard (sym on_board) c.requires.rule) c.requires.untried c.kind_of.ensures key refl
    refl c.ids_of.ensures)

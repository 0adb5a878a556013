use Rattle.std.proofs.Common.{rules, ◌≡◌, Err, refl}
use Rattle.cap_boot.specs.declared.fault.BootFault.TheVariants.{Memory}
use Rattle.cap_boot.specs.Given.{setting}
use Rattle.cap_boot.specs.Units.{delivery_of}
use Rattle.cap_boot.proofs.Doings.{tries_listed}
use Rattle.cap_boot.proofs.Works.{as_result, gave_up}
use Rattle.cap_boot.proofs.doing.do_unit.Goals as goal

pub returns-in_err-key-clause-does : goal.returns-in_err-key-clause-does
returns-in_err-key-clause-does g c =
    let is : c.from_residual.result ≡ Err Memory = search rules in
    as_result _ is (gave_up _ _ _ _ _ _)

pub returns-in_ok-do_try-in-Try-clause-does : goal.returns-in_ok-do_try-in-Try-clause-does
returns-in_ok-do_try-in-Try-clause-does g c =
    let x = setting c.args.board.now c.args.now.now g.S.SlotForm.slot_of in
    tries_listed x (delivery_of c.args.source.now) c.args.number c.args.unit.now _
    c.in-Try.image.now c.in_ok-key.key c.in-Try.is c.in_ok-key.ensures.key refl
    c.in_ok-do_try-in-Try.ensures.does

pub returns-in_ok-close_untried-in-Bad : goal.returns-in_ok-close_untried-in-Bad
returns-in_ok-close_untried-in-Bad g c =
    let x = setting c.args.board.now c.args.now.now g.S.SlotForm.slot_of in
    record {
      ready = c.in_ok-close_untried-in-Bad.ensures.ready;
      frame = c.close_untried.ensures.frame;
      folder = c.close_untried.ensures.folder;
      does = c.in_ok-close_untried-in-Bad.ensures.does x (delivery_of c.args.source.now)
          c.args.number refl refl c.in_ok-key.ensures.key;
      cause = c.in_ok-close_untried-in-Bad.ensures.cause;
    }

use Rattle.std.proofs.Common.{◌≡◌, ◌++◌, None, Some, IsTrue, find, sym, ap, subst, ◌∙◌, refl}
use Rattle.cu_base.specs.declared.time.EfiTime.{EfiTime}
use Rattle.reference_machine.specs.declared.unit.End.TheVariants.{Refused, Sealed}
use Rattle.reference_machine.specs.declared.unit.Kind.TheVariants.{Try}
use Rattle.reference_machine.specs.Boots.{BootState, element_of}
use Rattle.reference_machine.specs.Boots.BootBatch.{Settles}
use Rattle.reference_machine.specs.Boots.BootTask.{Commits}
use Rattle.reference_machine.specs.Formats.{Item}
use Rattle.bench_model.specs.Files.{File}
use Rattle.reference_machine.specs.Machine.{Machine, first_moment}
use Rattle.reset_play.specs.Plays.{is_thin_on}
use Rattle.reference_machine.specs.Report.{report_value}
use Rattle.reference_machine.specs.Spent.{Element, is_open}
use Rattle.reference_machine.specs.Spent.Standing.{Closed}
use Rattle.delivery_formats.specs.TrueFormats.{true_formats}
use Rattle.reset_play.specs.Thin.{is_thin, thin_item}
use Rattle.reference_machine.specs.Verdicts.{refusal}
use Rattle.reset_play.specs.Whole.{open_rest, task_done, file_unit}
use Rattle.reset_play.proofs.Held.{none_held, held_none}
use Rattle.reference_machine.proofs.Tests.{both_left}
use Rattle.reset_play.proofs.PlayParts.{tried_refused, tried_claimed}
use Rattle.reset_play.proofs.thin_play.platform.ListPlatform.try_file.Goals as goal

pub item_in-item-requires : goal.item_in-item-requires
item_in-item-requires c =
    let on : IsTrue (is_thin_on c.args.self.now.board c.file.inside.bytes.now) =
    subst (λ (x : File). IsTrue (is_thin_on c.args.self.now.board x.bytes))
    (sym c.file.view_is) c.requires.thin in
    both_left (is_thin c.file.inside.bytes.now) _ on

pub returns-in_ok-close-in-Some-clause-ok : goal.returns-in_ok-close-in-Some-clause-ok
returns-in_ok-close-in-Some-clause-ok c =
    let rests : find is_open (c.self.inside.done.items ++ open_rest c.self.inside.claimed) ≡ None =
    subst (λ (m : Machine). find is_open m.list ≡ None) (sym c.self.view_is) c.requires.rests in
    let none : c.self.inside.claimed ≡ None =
    none_held c.self.inside.done.items c.self.inside.claimed c.self.invariant.closed_before
    c.self.invariant.open_last rests in
    let list : c.args.self.now.list ≡ c.as_slice.result.now =
    ap (λ (m : Machine). m.list) (sym c.self.view_is)
    ∙ held_none c.self.inside.done.items c.self.inside.claimed none ∙ sym c.as_slice.ensures in
    let board : c.args.self.now.board ≡ c.self.inside.board.now =
    ap (λ (m : Machine). m.board) (sym c.self.view_is) in
    let image : (file_unit c.args.file.now).image ≡ c.item_in-item.result.image.now =
    ap (λ (x : File). (thin_item x.bytes).image) (sym c.file.view_is)
    ∙ sym (ap (λ (i : Item). i.image) c.item_in-item.ensures.value) in
    let is : refusal true_formats c.args.self.now (file_unit c.args.file.now)
    ≡ Some c.in-Some.status =
    sym (c.refusal.ensures c.args.self.now (file_unit c.args.file.now) board list image refl refl)
    ∙ c.in-Some.is in
    let now : first_moment ≡ c.args.self.now.now = ap (λ (m : Machine). m.now) c.self.view_is in
    c.in_ok-close-in-Some.ensures.ok
    ∙ tried_refused c.args.self.now
    (report_value c.args.report.now) c.args.file.now c.in-Some.status _ is (
    ap (λ (p : Element). record p {
      standing = Closed
          (Some (Refused c.in-Some.status)) first_moment;
    })
    (c.attempt.view_is ∙ c.in_ok-attempt.ensures)
    ∙ ap (λ (t : EfiTime). element_of true_formats (file_unit c.args.file.now)
    (Closed (Some (Refused c.in-Some.status)) t)) now
    )

pub returns-in_ok-settle-in-None-clause-ok : goal.returns-in_ok-settle-in-None-clause-ok
returns-in_ok-settle-in-None-clause-ok c =
    let rests : find is_open (c.self.inside.done.items ++ open_rest c.self.inside.claimed) ≡ None =
    subst (λ (m : Machine). find is_open m.list ≡ None) (sym c.self.view_is) c.requires.rests in
    let none : c.self.inside.claimed ≡ None =
    none_held c.self.inside.done.items c.self.inside.claimed c.self.invariant.closed_before
    c.self.invariant.open_last rests in
    let list : c.args.self.now.list ≡ c.as_slice.result.now =
    ap (λ (m : Machine). m.list) (sym c.self.view_is)
    ∙ held_none c.self.inside.done.items c.self.inside.claimed none ∙ sym c.as_slice.ensures in
    let board : c.args.self.now.board ≡ c.self.inside.board.now =
    ap (λ (m : Machine). m.board) (sym c.self.view_is) in
    let image : (file_unit c.args.file.now).image ≡ c.item_in-item.result.image.now =
    ap (λ (x : File). (thin_item x.bytes).image) (sym c.file.view_is)
    ∙ sym (ap (λ (i : Item). i.image) c.item_in-item.ensures.value) in
    let is : refusal true_formats c.args.self.now (file_unit c.args.file.now) ≡ None =
    sym (c.refusal.ensures c.args.self.now (file_unit c.args.file.now) board list image refl refl)
    ∙ c.in-None.is in
    c.in_ok-settle-in-None.ensures.ok
    ∙ ap (λ (b : BootState). task_done true_formats b (Commits
    (Settles Try Sealed))) c.claim.ensures.value
    ∙ tried_claimed c.args.self.now
    (report_value c.args.report.now) c.args.file.now c.in_ok-attempt.attempt is
    c.in_ok-attempt.ensures

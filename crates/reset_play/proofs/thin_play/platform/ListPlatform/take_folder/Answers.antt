use Rattle.std.proofs.Common.{rules, arith, ◌≡◌, ◌++◌, IsTrue, List, Bool, true, None, find, length}
use Rattle.std.proofs.Common.{sym, ap, subst, ◌∙◌}
use Rattle.std.specs.List.{list_all}
use Rattle.bench_model.specs.Boards.{BoardValue}
use Rattle.reference_machine.specs.Boots.{files_in_order}
use Rattle.bench_model.specs.Files.{File}
use Rattle.reference_machine.specs.Machine.{Machine}
use Rattle.reference_machine.specs.Names.{is_taken_before}
use Rattle.reference_machine.specs.Order.{in_order}
use Rattle.reset_play.specs.Plays.{has_one_device, is_thin_on}
use Rattle.reference_machine.specs.Spent.{Element, is_open}
use Rattle.reset_play.specs.Whole.{between_tasks, open_rest, marks_of}
use Rattle.reset_play.proofs.Held.{none_held, held_none}
use Rattle.reference_machine.proofs.Ordered.{ordered_length}
use Rattle.reset_play.proofs.OneUnit.{ordered_all}
use Rattle.reset_play.proofs.PlayParts.{folder_parts}
use Rattle.reset_play.proofs.thin_play.platform.ListPlatform.take_folder.Goals as goal

pub do_files-requires-clause-few : goal.do_files-requires-clause-few
do_files-requires-clause-few c =
    let before : File → File → Bool = λ a b. is_taken_before a.name b.name in
    let ordered : c.deref-3.result.now ≡ in_order before c.self.inside.files.items =
    c.deref-3.ensures.value ∙ c.in_ok-ordered.ensures
    ∙ ap (in_order before) c.deref.ensures.value in
    let long : length c.deref-3.result.now ≡ length c.self.inside.files.items =
    ap length ordered ∙ ordered_length before c.self.inside.files.items in
    omega (arith, c.self.invariant.few)

pub do_files-requires-clause-thin : goal.do_files-requires-clause-thin
do_files-requires-clause-thin c =
    let before : File → File → Bool = λ a b. is_taken_before a.name b.name in
    let ordered : c.deref-3.result.now ≡ in_order before c.self.inside.files.items =
    c.deref-3.ensures.value ∙ c.in_ok-ordered.ensures
    ∙ ap (in_order before) c.deref.ensures.value in
    let board : c.prune.new.self.board ≡ c.self.inside.board.now =
    c.prune.ensures.frame.1 ∙ ap (λ (m : Machine). m.board) (sym c.self.view_is) in
    subst (λ (b : BoardValue). IsTrue
    (list_all (λ (x : File). is_thin_on b x.bytes) c.deref-3.result.now)) (sym board)
    (subst (λ (xs : List File). IsTrue
    (list_all (λ (x : File). is_thin_on c.self.inside.board.now x.bytes) xs)) (sym ordered)
    (ordered_all (λ
    (x : File). is_thin_on c.self.inside.board.now x.bytes) before c.self.inside.files.items
    c.self.invariant.thin))

pub returns-clause-ok : goal.returns-clause-ok
returns-clause-ok c =
    let before : File → File → Bool = λ a b. is_taken_before a.name b.name in
    let asked : c.self.inside.asked ≡ true = search rules in
    let is_signalled : c.args.self.now.is_signalled ≡ true =
    ap (λ (m : Machine). m.is_signalled) (sym c.self.view_is) ∙ asked in
    let one : IsTrue (has_one_device c.args.self.now.board) =
    subst (λ (m : Machine). IsTrue
    (has_one_device m.board)) c.self.view_is c.self.invariant.one in
    let all : IsTrue
    (list_all (λ (x : File). is_thin_on c.args.self.now.board x.bytes) c.args.self.now.files) =
    subst (λ (m : Machine). IsTrue
    (list_all (λ (x : File). is_thin_on m.board x.bytes) m.files)) c.self.view_is
    c.self.invariant.thin in
    let ordered : c.deref-3.result.now ≡ in_order before c.self.inside.files.items =
    c.deref-3.ensures.value ∙ c.in_ok-ordered.ensures
    ∙ ap (in_order before) c.deref.ensures.value in
    let is : c.deref-3.result.now ≡ files_in_order c.args.self.now =
    ordered ∙ ap (λ (m : Machine). in_order before m.files) c.self.view_is in
    let rests : find is_open (c.self.inside.done.items ++ open_rest c.self.inside.claimed) ≡ None =
    subst (λ (m : Machine). find is_open m.list ≡ None) (sym c.self.view_is) c.requires.rests in
    let none : c.self.inside.claimed ≡ None =
    none_held c.self.inside.done.items c.self.inside.claimed c.self.invariant.closed_before
    c.self.invariant.open_last rests in
    let list : c.as_slice.result.now ≡ c.args.self.now.list =
    c.as_slice.ensures ∙ sym (held_none c.self.inside.done.items c.self.inside.claimed none)
    ∙ ap (λ (m : Machine). m.list) c.self.view_is in
    let marked : c.as_slice-2.result.now ≡ marks_of c.args.self.now.list c.deref-3.result.now =
    c.as_slice-2.ensures ∙ c.in_ok-marks.ensures
    ∙ ap (λ (l : List Element). marks_of l c.deref-2.result.now) list
    ∙ ap (marks_of c.args.self.now.list)
    (c.deref-2.ensures.value ∙ sym c.deref-3.ensures.value) in
    folder_parts c.args.self.now c.deref-3.result.now c.as_slice-2.result.now
    (between_tasks c.args.self.now c.args.report.now)
    (between_tasks c.prune.new.self c.prune.new.report)
    (between_tasks c.do_files.new.self c.do_files.new.report)
    (between_tasks c.clear.new.self c.clear.new.report)
    is_signalled one all is marked c.in_ok-prune.ensures.ok c.in_ok-do_files.ensures.ok
    c.clear.ensures.value

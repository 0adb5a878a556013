use Rattle.std.proofs.Common.{◌≡◌, ◌+◌, ◌<◌, ◌∷◌, ◌++◌, [], List, ℕ, IsTrue, not, false, filter}
use Rattle.std.proofs.Common.{length, sym, ap, subst, ◌∙◌}
use Rattle.std.specs.List.{list_any}
use Rattle.bench_model.specs.declared.outside_limits.TheConstants.{MAX_FILES}
use Rattle.bench_model.specs.Files.{File, is_folder_full, is_same_name}
use Rattle.reference_machine.specs.Events.{plain}
use Rattle.reference_machine.specs.Machine.{Machine, folder_of}
use Rattle.reset_play.specs.Plays.{is_thin_on}
use Rattle.reference_machine.specs.TraceValues.{entry_value}
use Rattle.reference_machine.specs.TraceValues.AnswerValue.{Serial}
use Rattle.reset_play.specs.Whole.{IsListPlatform, open_rest}
use Rattle.reset_play.proofs.FolderFiles.{fewer_files, one_file_more, room_left, dropped_same}
use Rattle.reset_play.proofs.thin_play.platform.ListPlatform.drop_file.Goals as goal

pub invariant_of-self : goal.invariant_of-self
invariant_of-self c =
    subst (λ (xs : List File). IsListPlatform c.self.inside.board.now xs c.self.inside.done.items
    c.self.inside.claimed) (sym c.in_err-put.ensures.err)
    (fewer_files c.self.inside.board.now
    (λ x. not (is_same_name x.name c.in_ok-from_str.field-0)) c.self.inside.files.items
    c.self.inside.done.items c.self.inside.claimed c.self.invariant)

pub invariant_of-self-2 : goal.invariant_of-self-2
invariant_of-self-2 c =
    let name : c.in_ok-from_str.field-0 ≡ c.args.name.now =
    c.in_ok-from_str.ensures ∙ c.as_str.ensures in
    let full : is_folder_full (folder_of c.args.self.now) c.args.name.now (length c.args.bytes.now)
    ≡ false =
    sym c.is_full.ensures.value ∙ c.if-is_full.false in
    let room : list_any
    (λ (x : File). is_same_name x.name c.in_ok-from_str.field-0) c.self.inside.files.items
    ≡ false → length c.self.inside.files.items < MAX_FILES =
    λ h. room_left c.self.inside.files.items _ _ _
    (subst (λ (m : Machine). is_folder_full (folder_of m) c.args.name.now
    (length c.args.bytes.now) ≡ false)
    (sym c.self.view_is) full)
    (subst (λ (n : List ℕ). list_any
    (λ (x : File). is_same_name x.name n) c.self.inside.files.items ≡ false) name h) in
    let on : IsTrue (is_thin_on c.self.inside.board.now c.args.bytes.now) =
    subst (λ (m : Machine). IsTrue (is_thin_on m.board c.args.bytes.now))
    (sym c.self.view_is) c.requires in
    subst (λ (xs : List File). IsListPlatform c.self.inside.board.now xs c.self.inside.done.items
    c.self.inside.claimed) (sym c.in_ok-put.ensures.ok)
    (one_file_more c.self.inside.board.now
    (λ x. is_same_name x.name c.in_ok-from_str.field-0) c.self.inside.files.items
    (record {
      name = c.in_ok-from_str.field-0;
      serial = c.self.inside.last_file + 1;
      bytes = c.args.bytes.now;
    }) c.self.inside.done.items c.self.inside.claimed c.self.invariant on room)

pub returns-clause-ok : goal.returns-clause-ok
returns-clause-ok c =
    let name : c.in_ok-from_str.field-0 ≡ c.args.name.now =
    c.in_ok-from_str.ensures ∙ c.as_str.ensures in
    let full : is_folder_full (folder_of c.args.self.now) c.args.name.now (length c.args.bytes.now)
    ≡ false =
    sym c.is_full.ensures.value ∙ c.if-is_full.false in
    let put : List ℕ → List File =
    λ n. filter (λ (x : File). not (is_same_name x.name n)) c.self.inside.files.items
    ++ record { name = n; serial = c.self.inside.last_file + 1; bytes = c.args.bytes.now }
    ∷ [] in
    let files : c.put.new.files.items ≡ put c.args.name.now =
    c.in_ok-put.ensures.ok ∙ ap put name in
    let told : entry_value c.plain_entry-2.result ≡ plain (Serial (c.self.inside.last_file + 1)) =
    c.plain_entry-2.ensures in
    rw (full, ← c.self.view_is)
    (dropped_same (entry_value c.plain_entry-2.result)
    (plain (Serial (c.self.inside.last_file + 1))) c.self.inside.board.now c.put.new.files.items
    (put c.args.name.now) (c.self.inside.last_file + 1) c.self.inside.asked
    (c.self.inside.done.items
    ++ open_rest c.self.inside.claimed) c.self.inside.in_progress.items c.self.inside.batches told
    files)

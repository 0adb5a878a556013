use Rattle.std.proofs.Common.{◌≡◌, ◌-◌, sym, subst, arith, length, List, ℕ, false, Err, rules}
use Rattle.var_log.specs.declared.change.Change.{Change}
use Rattle.var_log.specs.Logs.{LogValue, ReclaimLeaves, is_full, is_bank_full, log_reclaimed}
use Rattle.var_log.specs.Opens.{IsOpened, IsReadFrom}
use Rattle.var_log.specs.Records.{body_of, record_size}
use Rattle.var_log.proofs.OpenLemmas.{Look, failed_anew, frame_anew, kept_anew, lives_after}
use Rattle.var_log.proofs.OpenLemmas.{lives_now, long_as}
use Rattle.var_log.proofs.OpenLemmas.{moves_anew, opened_anew, ok_holds, opened_as_read, read_as}
use Rattle.var_log.proofs.log.VarLog.open.Goals as goal

pub returns-then-format-ne-OLD_FORMAT-clause-value : goal.returns-then-format-ne-OLD_FORMAT-clause-value
returns-then-format-ne-OLD_FORMAT-clause-value g c = λ told.
    let s0 = g.F.BenchState.state c.args.flash.now in
    let s1 = g.F.BenchState.state c.sync_banks.new.flash in
    let s2 = g.F.BenchState.state c.read_log.new.flash in
    let banks = s0.contents.bytes in
    let log = c.in_ok-format.field-0.log in
    let live = c.in_ok-format.field-0.live.items in
    let format = c.in_ok-format.field-0.format in
    let look : Look s0 s1 s2 format log live = record {
      banks = c.requires.banks;
      first = ok_holds c.sync_banks.result (sym c.if-is_err.ensures.value) c.sync_banks.ensures.first;
      second = ok_holds c.sync_banks.result (sym c.if-is_err.ensures.value) c.sync_banks.ensures.second;
      bytes = c.sync_banks.ensures.bytes;
      images = c.sync_banks.ensures.images;
      told = c.sync_banks.ensures.frame.told;
      counts = c.in_ok-format.ensures.frame;
      size = c.in_ok-format.ensures.size;
      found = c.in_ok-format.ensures.found;
    } in
    opened_as_read banks format log live (read_as s0 s1 s2 format log live look told) (search rules)

pub returns-in-Ok-clause-value : goal.returns-in-Ok-clause-value
returns-in-Ok-clause-value g c = λ told.
    let s0 = g.F.BenchState.state c.args.flash.now in
    let s1 = g.F.BenchState.state c.sync_banks.new.flash in
    let s2 = g.F.BenchState.state c.read_log.new.flash in
    let s3 = g.F.BenchState.state c.reclaim_live.new.flash in
    let banks = s0.contents.bytes in
    let log = c.in_ok-format.field-0.log in
    let live = c.in_ok-format.field-0.live.items in
    let format = c.in_ok-format.field-0.format in
    let look : Look s0 s1 s2 format log live = record {
      banks = c.requires.banks;
      first = ok_holds c.sync_banks.result (sym c.if-is_err.ensures.value) c.sync_banks.ensures.first;
      second = ok_holds c.sync_banks.result (sym c.if-is_err.ensures.value) c.sync_banks.ensures.second;
      bytes = c.sync_banks.ensures.bytes;
      images = c.sync_banks.ensures.images;
      told = c.sync_banks.ensures.frame.told;
      counts = c.in_ok-format.ensures.frame;
      size = c.in_ok-format.ensures.size;
      found = c.in_ok-format.ensures.found;
    } in
    let read = read_as s0 s1 s2 format log live look in
    let one : format ≡ 1 = search rules in
    let old : IsReadFrom banks 1 log live = subst (λ (f : ℕ). IsReadFrom banks f log live) one (read told) in
    let long = long_as s0 s1 s2 format log live look in
    let given : c.as_slice.result.now ≡ live = c.as_slice.ensures.value in
    let n = record_size 2 (length (body_of live)) in
    let fits : is_bank_full n 0 log ≡ false =
    subst (λ (cs : List Change). is_bank_full (record_size 2 (length (body_of cs))) 0 log ≡ false) given
    (sym c.in-Ok.ensures.full) in
    let is : c.reclaim_live.new.self ≡ log_reclaimed log n =
    subst (λ (cs : List Change). c.reclaim_live.new.self
    ≡ log_reclaimed log (record_size 2 (length (body_of cs)))) given
    c.in-Ok.ensures.value in
    subst (λ (l : LogValue). IsOpened banks l live) (sym is) (opened_anew banks log live old (long) fits)

pub returns-in-Ok-clause-images : goal.returns-in-Ok-clause-images
returns-in-Ok-clause-images g c =
    let s0 = g.F.BenchState.state c.args.flash.now in
    let s1 = g.F.BenchState.state c.sync_banks.new.flash in
    let s2 = g.F.BenchState.state c.read_log.new.flash in
    let s3 = g.F.BenchState.state c.reclaim_live.new.flash in
    let banks = s0.contents.bytes in
    let log = c.in_ok-format.field-0.log in
    let live = c.in_ok-format.field-0.live.items in
    let format = c.in_ok-format.field-0.format in
    let look : Look s0 s1 s2 format log live = record {
      banks = c.requires.banks;
      first = ok_holds c.sync_banks.result (sym c.if-is_err.ensures.value) c.sync_banks.ensures.first;
      second = ok_holds c.sync_banks.result (sym c.if-is_err.ensures.value) c.sync_banks.ensures.second;
      bytes = c.sync_banks.ensures.bytes;
      images = c.sync_banks.ensures.images;
      told = c.sync_banks.ensures.frame.told;
      counts = c.in_ok-format.ensures.frame;
      size = c.in_ok-format.ensures.size;
      found = c.in_ok-format.ensures.found;
    } in
    kept_anew s0 s1 s2 format log live look s3 c.in-Ok.ensures.frame.told c.in-Ok.ensures.images

pub returns-in-Ok-clause-live : goal.returns-in-Ok-clause-live
returns-in-Ok-clause-live g c =
    let s0 = g.F.BenchState.state c.args.flash.now in
    let s1 = g.F.BenchState.state c.sync_banks.new.flash in
    let s2 = g.F.BenchState.state c.read_log.new.flash in
    let s3 = g.F.BenchState.state c.reclaim_live.new.flash in
    let banks = s0.contents.bytes in
    let log = c.in_ok-format.field-0.log in
    let live = c.in_ok-format.field-0.live.items in
    let format = c.in_ok-format.field-0.format in
    let look : Look s0 s1 s2 format log live = record {
      banks = c.requires.banks;
      first = ok_holds c.sync_banks.result (sym c.if-is_err.ensures.value) c.sync_banks.ensures.first;
      second = ok_holds c.sync_banks.result (sym c.if-is_err.ensures.value) c.sync_banks.ensures.second;
      bytes = c.sync_banks.ensures.bytes;
      images = c.sync_banks.ensures.images;
      told = c.sync_banks.ensures.frame.told;
      counts = c.in_ok-format.ensures.frame;
      size = c.in_ok-format.ensures.size;
      found = c.in_ok-format.ensures.found;
    } in
    lives_after s2 s3 live c.in-Ok.ensures.frame.told c.in-Ok.ensures.images
    (lives_now s0 s1 s2 format log live look)

pub returns-in-Ok-clause-frame : goal.returns-in-Ok-clause-frame
returns-in-Ok-clause-frame g c =
    let s0 = g.F.BenchState.state c.args.flash.now in
    let s1 = g.F.BenchState.state c.sync_banks.new.flash in
    let s2 = g.F.BenchState.state c.read_log.new.flash in
    let s3 = g.F.BenchState.state c.reclaim_live.new.flash in
    let banks = s0.contents.bytes in
    let log = c.in_ok-format.field-0.log in
    let live = c.in_ok-format.field-0.live.items in
    let format = c.in_ok-format.field-0.format in
    let look : Look s0 s1 s2 format log live = record {
      banks = c.requires.banks;
      first = ok_holds c.sync_banks.result (sym c.if-is_err.ensures.value) c.sync_banks.ensures.first;
      second = ok_holds c.sync_banks.result (sym c.if-is_err.ensures.value) c.sync_banks.ensures.second;
      bytes = c.sync_banks.ensures.bytes;
      images = c.sync_banks.ensures.images;
      told = c.sync_banks.ensures.frame.told;
      counts = c.in_ok-format.ensures.frame;
      size = c.in_ok-format.ensures.size;
      found = c.in_ok-format.ensures.found;
    } in
    frame_anew s0 s1 s2 s3 (1 - log.bank) (omega arith) c.sync_banks.ensures.frame
    c.in_ok-format.ensures.frame c.in-Ok.ensures.frame
    c.in-Ok.ensures.long

pub returns-in-Ok-clause-moves : goal.returns-in-Ok-clause-moves
returns-in-Ok-clause-moves g c = λ told.
    let s0 = g.F.BenchState.state c.args.flash.now in
    let s1 = g.F.BenchState.state c.sync_banks.new.flash in
    let s2 = g.F.BenchState.state c.read_log.new.flash in
    let s3 = g.F.BenchState.state c.reclaim_live.new.flash in
    let banks = s0.contents.bytes in
    let log = c.in_ok-format.field-0.log in
    let live = c.in_ok-format.field-0.live.items in
    let format = c.in_ok-format.field-0.format in
    let look : Look s0 s1 s2 format log live = record {
      banks = c.requires.banks;
      first = ok_holds c.sync_banks.result (sym c.if-is_err.ensures.value) c.sync_banks.ensures.first;
      second = ok_holds c.sync_banks.result (sym c.if-is_err.ensures.value) c.sync_banks.ensures.second;
      bytes = c.sync_banks.ensures.bytes;
      images = c.sync_banks.ensures.images;
      told = c.sync_banks.ensures.frame.told;
      counts = c.in_ok-format.ensures.frame;
      size = c.in_ok-format.ensures.size;
      found = c.in_ok-format.ensures.found;
    } in
    let read = read_as s0 s1 s2 format log live look in
    let one : format ≡ 1 = search rules in
    let old : IsReadFrom banks 1 log live = subst (λ (f : ℕ). IsReadFrom banks f log live) one (read told) in
    let long = long_as s0 s1 s2 format log live look in
    let given : c.as_slice.result.now ≡ live = c.as_slice.ensures.value in
    moves_anew banks log live s0.counts.moves s1.counts.moves s2.counts.moves s3.counts.moves old
    (ok_holds c.sync_banks.result (sym c.if-is_err.ensures.value) c.sync_banks.ensures.moves)
    c.in_ok-format.ensures.moves c.in-Ok.ensures.moves

pub returns-in-Err-clause-value : goal.returns-in-Err-clause-value
returns-in-Err-clause-value g c = λ told.
    let s0 = g.F.BenchState.state c.args.flash.now in
    let s1 = g.F.BenchState.state c.sync_banks.new.flash in
    let s2 = g.F.BenchState.state c.read_log.new.flash in
    let s3 = g.F.BenchState.state c.reclaim_live.new.flash in
    let banks = s0.contents.bytes in
    let log = c.in_ok-format.field-0.log in
    let live = c.in_ok-format.field-0.live.items in
    let format = c.in_ok-format.field-0.format in
    let look : Look s0 s1 s2 format log live = record {
      banks = c.requires.banks;
      first = ok_holds c.sync_banks.result (sym c.if-is_err.ensures.value) c.sync_banks.ensures.first;
      second = ok_holds c.sync_banks.result (sym c.if-is_err.ensures.value) c.sync_banks.ensures.second;
      bytes = c.sync_banks.ensures.bytes;
      images = c.sync_banks.ensures.images;
      told = c.sync_banks.ensures.frame.told;
      counts = c.in_ok-format.ensures.frame;
      size = c.in_ok-format.ensures.size;
      found = c.in_ok-format.ensures.found;
    } in
    let read = read_as s0 s1 s2 format log live look in
    let one : format ≡ 1 = search rules in
    let old : IsReadFrom banks 1 log live = subst (λ (f : ℕ). IsReadFrom banks f log live) one (read told) in
    let long = long_as s0 s1 s2 format log live look in
    let given : c.as_slice.result.now ≡ live = c.as_slice.ensures.value in
    let e = c.in-Err.fault in
    let new = c.reclaim_live.new.self in
    failed_anew banks log new live e old long
    (subst (λ (cs : List Change). ReclaimLeaves {T = Unit {0}} (record_size 2 (length (body_of cs)))
    log new (Err e)) given
    c.in-Err.ensures.value)
    (subst (λ (cs : List Change). is_full {T = Unit {0}} (Err e)
    ≡ is_bank_full (record_size 2 (length (body_of cs))) 0 log) given
    c.in-Err.ensures.full)

pub returns-in-Err-clause-images : goal.returns-in-Err-clause-images
returns-in-Err-clause-images g c =
    let s0 = g.F.BenchState.state c.args.flash.now in
    let s1 = g.F.BenchState.state c.sync_banks.new.flash in
    let s2 = g.F.BenchState.state c.read_log.new.flash in
    let s3 = g.F.BenchState.state c.reclaim_live.new.flash in
    let banks = s0.contents.bytes in
    let log = c.in_ok-format.field-0.log in
    let live = c.in_ok-format.field-0.live.items in
    let format = c.in_ok-format.field-0.format in
    let look : Look s0 s1 s2 format log live = record {
      banks = c.requires.banks;
      first = ok_holds c.sync_banks.result (sym c.if-is_err.ensures.value) c.sync_banks.ensures.first;
      second = ok_holds c.sync_banks.result (sym c.if-is_err.ensures.value) c.sync_banks.ensures.second;
      bytes = c.sync_banks.ensures.bytes;
      images = c.sync_banks.ensures.images;
      told = c.sync_banks.ensures.frame.told;
      counts = c.in_ok-format.ensures.frame;
      size = c.in_ok-format.ensures.size;
      found = c.in_ok-format.ensures.found;
    } in
    kept_anew s0 s1 s2 format log live look s3 c.in-Err.ensures.frame.told c.in-Err.ensures.images

pub returns-in-Err-clause-frame : goal.returns-in-Err-clause-frame
returns-in-Err-clause-frame g c =
    let s0 = g.F.BenchState.state c.args.flash.now in
    let s1 = g.F.BenchState.state c.sync_banks.new.flash in
    let s2 = g.F.BenchState.state c.read_log.new.flash in
    let s3 = g.F.BenchState.state c.reclaim_live.new.flash in
    let banks = s0.contents.bytes in
    let log = c.in_ok-format.field-0.log in
    let live = c.in_ok-format.field-0.live.items in
    let format = c.in_ok-format.field-0.format in
    let look : Look s0 s1 s2 format log live = record {
      banks = c.requires.banks;
      first = ok_holds c.sync_banks.result (sym c.if-is_err.ensures.value) c.sync_banks.ensures.first;
      second = ok_holds c.sync_banks.result (sym c.if-is_err.ensures.value) c.sync_banks.ensures.second;
      bytes = c.sync_banks.ensures.bytes;
      images = c.sync_banks.ensures.images;
      told = c.sync_banks.ensures.frame.told;
      counts = c.in_ok-format.ensures.frame;
      size = c.in_ok-format.ensures.size;
      found = c.in_ok-format.ensures.found;
    } in
    frame_anew s0 s1 s2 s3 (1 - log.bank) (omega arith) c.sync_banks.ensures.frame
    c.in_ok-format.ensures.frame c.in-Err.ensures.frame
    c.in-Err.ensures.long

use Rattle.std.proofs.Common.{rules, ◌≤◌, length}
use Rattle.dev_claims.proofs.Pushed.{short_name, short_part}
use Rattle.dev_claims.proofs.closing.fmp_part.Goals as goal
use Rattle.dev_claims.proofs.closing.fmp_part.Goals.{in-Try, in-NoTarget}

pub returns-clause-size : goal.returns-clause-size
returns-clause-size c =
    let named : length c.args.line.now.key.name ≤ 40 =
    short_name c.args.line.now.key.name c.requires.name in
    let file : length c.in_ok-from_str.field-0 ≤ 40 = search (rules, named) in
    let target : length c.in_ok-from_str-2.field-0 ≤ 16 = elim c.match-line.branch [
      | in-Try w ↦ search rules
      | in-NoTarget w ↦ search rules
    ] in
    let id : length c.guid_at.result.bytes ≤ 16 = search rules in
    short_part c.args.line.now.key.ticket.item c.args.ids.now.index c.guid_at.result
    c.in_ok-from_str.field-0 c.in_ok-from_str-2.field-0 id file target

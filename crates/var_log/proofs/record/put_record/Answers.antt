use Rattle.std.proofs.Common.{rules, ap, ◌∙◌, ◌++◌, ◌∷◌, [], List, ℕ, length, replicate}
use Rattle.std.specs.List.{flat_map}
use Rattle.var_log.specs.declared.limits.TheConstants.{OPEN_GATE}
use Rattle.var_log.specs.Records.{change_bytes, body_of, padding}
use Rattle.var_log.proofs.Spelled.{assembled}
use Rattle.var_log.proofs.record.put_record.Goals as goal

pub returns-clause-ok : goal.returns-clause-ok
returns-clause-ok c =
    let cs = c.args.changes.now in
    assembled c.args.out.now.items c.put.new.out.items c.put-2.new.out.items c.put-3.new.out.items
    c.put-4.new.out.items c.put_changes.new.out.items c.put_zeros.new.out.items c.put-5.new.out.items
    (flat_map change_bytes cs) (replicate (padding 2 (length (body_of cs))) 0)
    (length (body_of cs)) c.args.number (length cs)
    (c.in_ok-put.ensures.ok
    ∙ ap (λ (l : List ℕ). l ++ OPEN_GATE ∷ 0 ∷ 0 ∷ 0 ∷ []) c.reserve.ensures)
    (search rules) (search rules) (search rules) c.in_ok-put_changes.ensures.ok (search rules)
    c.in_ok-put-5.ensures.ok

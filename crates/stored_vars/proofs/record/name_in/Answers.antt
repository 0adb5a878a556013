use Rattle.std.proofs.Common.{◌∙◌, ap, sym, subst, get_or}
use Rattle.std.specs.Str.{IsUtf8}
use Rattle.stored_vars.specs.Records.{is_key_name, name_at}
use Rattle.stored_vars.proofs.RecordLemmas.{key_name_is_text, name_cut}
use Rattle.stored_vars.proofs.record.name_in.Goals.{in_default-via-in-Ok+else-is_key_name}
use Rattle.stored_vars.proofs.record.name_in.Goals.{in_default-via-in_default}
use Rattle.stored_vars.proofs.record.name_in.Goals as goal

pub returns-in_default : goal.returns-in_default
returns-in_default c = λ is.
    let cut = name_cut c.args.bytes.now c.min-size.result (get_or c.args.bytes.now 44 0)
    c.requires c.min-size.ensures in
    elim c.in_default.branch [
      | in_default-via-in-Ok+else-is_key_name w ↦
          let other = sym w.if-is_key_name.false ∙ w.is_key_name.ensures.value
          ∙ ap is_key_name (w.in-Ok.ensures.cases.0 ∙ cut) ∙ is in
          absurd cc
      | in_default-via-in_default w ↦
          w.in_default.ensures.cases.0
          (subst IsUtf8 (sym cut) (key_name_is_text (name_at c.args.bytes.now) is))
    ]

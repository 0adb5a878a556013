use Rattle.std.proofs.Common.{◌∙◌, ap, sym, refl, arith, true, false, option_map, Some}
use Rattle.std.proofs.lemmas.Bool.{le-leb}
use Rattle.var_log.specs.Changes.{is_name}
use Rattle.var_log.specs.Seen.{first_seen}
use Rattle.var_log.proofs.ReadLemmas.{delete_case, leb-no, is_no, as_delete}
use Rattle.var_log.proofs.seen.first_delete.Goals as goal

pub returns-then-bytes-n : goal.returns-then-bytes-n
returns-then-bytes-n c = record {
  value = sym (delete_case c.args.bytes.now c.args.n false _ c.requires.kind c.requires.name
      (leb-no _ _ (omega arith)) refl);
}

pub returns-in_err-name : goal.returns-in_err-name
returns-in_err-name c = record {
  value = ap (option_map first_seen) c.from_residual.ensures
      ∙ sym (delete_case c.args.bytes.now c.args.n true false c.requires.kind c.requires.name
      (le-leb _ _ (omega arith))
      (is_no _ (λ is. c.in_err-name.ensures (ap is_name c.part.ensures ∙ is))));
}

pub returns : goal.returns
returns c = record {
  value = ap Some (as_delete _ _ _ _ _ _
      (c.key_of.ensures.name ∙ c.in_ok-name.ensures.1 ∙ c.part.ensures)
      (c.key_of.ensures.guid ∙ c.guid_at-guid.ensures) c.behind.ensures)
      ∙ sym (delete_case c.args.bytes.now c.args.n true true c.requires.kind c.requires.name
      (le-leb _ _ (omega arith)) (ap is_name (sym c.part.ensures) ∙ c.in_ok-name.ensures.0));
}

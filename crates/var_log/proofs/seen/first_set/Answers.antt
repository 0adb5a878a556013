use Rattle.std.proofs.Common.{◌∙◌, ◌+◌, ℕ, drop, ap, sym, refl, arith, true, false, option_map}
use Rattle.std.proofs.Common.{Some}
use Rattle.std.proofs.lemmas.Bool.{le-leb}
use Rattle.var_log.proofs.ReadLemmas.{set_case, leb-no, is_no, as_set}
use Rattle.cu_base.specs.Fields.{field}
use Rattle.var_log.specs.Seen.{first_seen}
use Rattle.var_log.specs.Changes.{is_name}
use Rattle.var_log.proofs.seen.first_set.Goals.{then-size-gt-MAX_DATA-via-then-size-gt-MAX_DATA}
use Rattle.var_log.proofs.seen.first_set.Goals.{then-size-gt-MAX_DATA-via-else-size-gt-MAX_DATA+then-bytes-n-2}
use Rattle.var_log.proofs.seen.first_set.Goals as goal

pub returns-then-bytes-n : goal.returns-then-bytes-n
returns-then-bytes-n c = record {
  value = sym (set_case c.args.bytes.now c.args.n false _ _ _ c.requires.kind c.requires.name
      (leb-no _ _ (omega arith)) refl refl refl);
}

pub returns-in_err-name : goal.returns-in_err-name
returns-in_err-name c = record {
  value = ap (option_map first_seen) c.from_residual.ensures
      ∙ sym (set_case c.args.bytes.now c.args.n true false _ _ c.requires.kind c.requires.name
      (le-leb _ _ (omega arith)) (is_no _ (λ is. c.in_err-name.ensures (ap is_name c.part.ensures ∙ is))) refl refl);
}

pub returns-then-size-gt-MAX_DATA : goal.returns-then-size-gt-MAX_DATA
returns-then-size-gt-MAX_DATA c =
    let size = c.u32_at-size.ensures in
    record {
      value = elim c.then-size-gt-MAX_DATA.branch [
        | then-size-gt-MAX_DATA-via-then-size-gt-MAX_DATA w ↦
            sym (set_case c.args.bytes.now c.args.n true true false _ c.requires.kind c.requires.name
            (le-leb _ _ (omega arith)) (ap is_name (sym c.part.ensures) ∙ c.in_ok-name.ensures.0)
            (leb-no _ _ (omega (arith, size))) refl)
        | then-size-gt-MAX_DATA-via-else-size-gt-MAX_DATA+then-bytes-n-2 w ↦
            sym (set_case c.args.bytes.now c.args.n true true true false c.requires.kind c.requires.name
            (le-leb _ _ (omega arith)) (ap is_name (sym c.part.ensures) ∙ c.in_ok-name.ensures.0)
            (le-leb _ _ (omega (arith, size)))
            (leb-no _ _ (omega (arith, size))))
      ];
    }

pub returns : goal.returns
returns c =
    let size = c.u32_at-size.ensures in
    let bytes = c.args.bytes.now in
    let n = c.args.n in
    record {
      value = ap Some (as_set _ _ _ _ _ _ _ _ _ _ (c.key_of.ensures.name ∙ c.in_ok-name.ensures.1 ∙ c.part.ensures)
          (c.key_of.ensures.guid ∙ c.guid_at-guid.ensures)
          (c.part-2.ensures ∙ ap (field bytes (26 + n)) size)
          (c.behind.ensures ∙ ap (λ (k : ℕ). drop (26 + n + k) bytes) size) c.u32_at.ensures)
          ∙ sym (set_case bytes n true true true true c.requires.kind c.requires.name
          (le-leb _ _ (omega arith)) (ap is_name (sym c.part.ensures) ∙ c.in_ok-name.ensures.0)
          (le-leb _ _ (omega (arith, size)))
          (le-leb _ _ (omega (arith, size))));
    }

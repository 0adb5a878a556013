use Rattle.std.proofs.Common.{◌∙◌, ap, sym, arith, length}
use Rattle.var_log.specs.declared.change.Change.{Change}
use Rattle.var_log.specs.Changes.{has_sizes, keeps_limits}
use Rattle.var_log.specs.Records.{change_bytes}
use Rattle.var_log.proofs.Sizes.{name_small, data_small, set_sized, delete_sized}
use Rattle.var_log.proofs.Spelled.{and_first, length_of_set, length_of_delete}
use Rattle.var_log.proofs.record.change_len.Goals as goal

pub returns-in-Set : goal.returns-in-Set
returns-in-Set c =
    let limits = ap keeps_limits (sym c.in-Set.is) ∙ c.requires.limits in
    let long = ap length (sym c.id.ensures.value) ∙ c.id.ensures.long in
    record {
      value = omega (
        arith,
        ap length c.as_str.ensures,
        ap length c.id.ensures.value,
        c.len.ensures,
        ap (λ (d : Change). length (change_bytes d)) c.in-Set.is,
        length_of_set c.in-Set.name c.in-Set.guid.bytes c.in-Set.value c.in-Set.attributes,
      );
      bound = omega (
        arith,
        ap length c.as_str.ensures,
        c.id.ensures.long,
        c.len.ensures,
        name_small c.in-Set.name (and_first _ _ limits),
        data_small c.in-Set.name c.in-Set.value c.in-Set.attributes c.in-Set.guid.bytes limits,
      );
      sizes = ap has_sizes c.in-Set.is
          ∙ set_sized c.in-Set.name c.in-Set.guid.bytes c.in-Set.value c.in-Set.attributes long (omega arith);
    }

pub returns-in-Delete : goal.returns-in-Delete
returns-in-Delete c =
    let limits = ap keeps_limits (sym c.in-Delete.is) ∙ c.requires.limits in
    let long = ap length (sym c.id-in-Delete.ensures.value) ∙ c.id-in-Delete.ensures.long in
    record {
      value = omega (
        arith,
        ap length c.as_str-in-Delete.ensures,
        ap length c.id-in-Delete.ensures.value,
        ap (λ (d : Change). length (change_bytes d)) c.in-Delete.is,
        length_of_delete c.in-Delete.name c.in-Delete.guid.bytes,
      );
      bound = omega (
        arith,
        ap length c.as_str-in-Delete.ensures,
        c.id-in-Delete.ensures.long,
        name_small c.in-Delete.name limits,
      );
      sizes = ap has_sizes c.in-Delete.is ∙ delete_sized c.in-Delete.name c.in-Delete.guid.bytes long;
    }

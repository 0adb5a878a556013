use Rattle.std.proofs.Common.{List, ℕ, ◌++◌, ◌∙◌, refl, ap, arith}
use Rattle.std.specs.List.{concat, flat_map}
use Rattle.cu_base.specs.Fields.{bytes_of}
use Rattle.cu_base.specs.Bytes.{IsBytes}
use Rattle.fmp_headers.specs.FmpHeader.{fmp_header_bytes}
use Rattle.capsule_grammar.specs.Reading.{fmp_of}
use Rattle.capsule_grammar.specs.Rebuilt.{emptied_fmp, kept_items}
use Rattle.capsule_grammar.specs.Refusals.{driver_count, image_count, list_end}
use Rattle.capsule_grammar.specs.Spelling.{fmp_bytes, offsets}
use Rattle.capsule_grammar.proofs.Read.{same_header}
use Rattle.capsule_grammar.proofs.RebuiltLemmas.{three_grown, fmp_kept}
use Rattle.capsule_grammar.proofs.rebuilding.put_kept_list.Goals as goal

pub returns : goal.returns
returns c =
    let body = c.args.body.now in
    let is : IsBytes body = λ i. omega (arith, c.type_inv.body i) in
    let header = fmp_header_bytes
    (record { drivers = driver_count body; items = image_count body }) in
    let list = flat_map (bytes_of 8) (offsets (list_end body) (kept_items body)) in
    three_grown c.args.out.now header list
    (concat (kept_items body)) c.write_into.new.out c.put_kept_offsets.new.out
    (c.put_kept_offsets.new.out ++ concat (kept_items body)) (fmp_bytes (emptied_fmp (fmp_of body)))
    (c.in_ok-write_into.ensures.ok
    ∙ ap (λ (l : List ℕ). c.args.out.now ++ l)
    (same_header c.driver_count.result (driver_count body) c.image_count.result
    (image_count body) c.driver_count.ensures c.image_count.ensures))
    c.in_ok-put_kept_offsets.ensures refl (fmp_kept body is c.requires)

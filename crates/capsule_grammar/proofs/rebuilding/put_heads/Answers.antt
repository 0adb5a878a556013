use Rattle.std.proofs.Common.{◌≡◌, ◌-◌, List, ℕ, ◌++◌, ◌∙◌, refl, sym, ap, subst}
use Rattle.std.specs.List.{concat}
use Rattle.cu_base.specs.Fields.{field}
use Rattle.fmp_headers.specs.CapsuleHeader.{header_size, capsule_header_bytes}
use Rattle.fmp_headers.specs.declared.capsule.CapsuleHeader.{CapsuleHeader}
use Rattle.capsule_grammar.specs.declared.value.Body.TheVariants.{Fmp}
use Rattle.capsule_grammar.specs.Accepted.{IsFmpBody}
use Rattle.capsule_grammar.specs.Reading.{fmp_of}
use Rattle.capsule_grammar.specs.Rebuilt.{emptied_fmp, kept_items}
use Rattle.capsule_grammar.specs.Refusals.{body_of}
use Rattle.capsule_grammar.specs.Spelling.{fmp_bytes}
use Rattle.capsule_grammar.proofs.RebuiltLemmas.{whole_is}
use Rattle.capsule_grammar.proofs.rebuilding.put_heads.Goals as goal

pub put_kept_list-requires : goal.put_kept_list-requires
put_kept_list-requires c = subst IsFmpBody (sym c.body.ensures) c.requires.fmp

pub returns : goal.returns
returns c =
    let bytes = c.args.bytes.now in
    let v = emptied_fmp (fmp_of (body_of bytes)) in
    let told = c.capsule_header-header.result in
    let here = c.capsule_header-header.ensures in
    let h : CapsuleHeader = record {
      guid = told.guid;
      header_size = told.header_size;
      flags = told.flags;
      image_size = c.args.size;
    } in
    let head : told.header_size ≡ header_size bytes =
    ap (λ (x : CapsuleHeader). x.header_size) here in
    let items = concat (kept_items (body_of bytes)) in
    whole_is bytes (capsule_header_bytes h) (field bytes 28 (header_size bytes - 28)) (fmp_bytes v)
    (Fmp v) h c.args.out.now c.write_into.new.out c.push_slice.new.self
    (c.put_kept_list.new.out ++ items)
    c.requires.front refl refl (ap (λ (x : CapsuleHeader). x.guid.bytes) here)
    (ap (λ (x : CapsuleHeader). x.flags) here) head c.requires.sized refl
    c.in_ok-write_into.ensures.ok
    (c.in_ok-push_slice.ensures.ok
    ∙ ap (λ (n : ℕ). c.write_into.new.out ++ field bytes 28 (n - 28)) head)
    (subst (λ (l : List ℕ). c.put_kept_list.new.out ++ concat (kept_items l)
    ≡ c.push_slice.new.self ++ fmp_bytes (emptied_fmp (fmp_of l)))
    c.body.ensures c.in_ok-put_kept_list.ensures)

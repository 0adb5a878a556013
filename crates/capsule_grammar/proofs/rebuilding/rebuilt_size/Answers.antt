use Rattle.std.proofs.Common.{◌≡◌, ◌+◌, ◌-◌, List, ℕ, ◌∙◌, length, sym, ap, subst, arith}
use Rattle.std.specs.List.{concat}
use Rattle.cu_base.specs.Bytes.{IsBytes}
use Rattle.fmp_headers.specs.CapsuleHeader.{header_size, image_size}
use Rattle.fmp_headers.specs.declared.capsule.CapsuleHeader.{CapsuleHeader}
use Rattle.cu_base.proofs.Fields.{IsBytes-field}
use Rattle.capsule_grammar.specs.Accepted.{IsFmpBody}
use Rattle.capsule_grammar.specs.Rebuilt.{kept_items}
use Rattle.capsule_grammar.specs.Refusals.{body_of, list_end}
use Rattle.capsule_grammar.proofs.RebuiltLemmas.{fmp_size_kept}
use Rattle.capsule_grammar.proofs.rebuilding.rebuilt_size.Goals as goal

pub kept_size-requires-clause-body : goal.kept_size-requires-clause-body
kept_size-requires-clause-body c = subst IsFmpBody (sym c.body.ensures) c.requires.fmp

pub returns : goal.returns
returns c =
    let bytes = c.args.bytes.now in
    let is : IsBytes bytes = λ i. omega (arith, c.type_inv.bytes i) in
    let body_is = IsBytes-field bytes (header_size bytes)
    (image_size bytes - header_size bytes) is in
    let head : c.capsule_header.result.header_size ≡ header_size bytes =
    ap (λ (x : CapsuleHeader). x.header_size) c.capsule_header.ensures in
    let left : c.kept_size.result ≡ list_end (body_of bytes) + length
    (concat (kept_items (body_of bytes))) =
    c.kept_size.ensures.value
    ∙ ap (λ (l : List ℕ). list_end l + length (concat (kept_items l))) c.body.ensures in
    omega (arith, head, left, fmp_size_kept (body_of bytes) body_is c.requires.fmp)

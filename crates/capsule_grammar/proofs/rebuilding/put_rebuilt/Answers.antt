use Rattle.std.proofs.Common.{◌≡◌, true, false, ℕ, List, ◌++◌, take, sym, ◌∙◌, ap, arith}
use Rattle.cu_base.specs.Fields.{field}
use Rattle.cu_base.specs.Bytes.{IsBytes}
use Rattle.fmp_headers.specs.declared.capsule.CapsuleHeader.{CapsuleHeader}
use Rattle.capsule_grammar.specs.Pieces.{joined}
use Rattle.capsule_grammar.specs.Refusals.{is_fmp_guid}
use Rattle.capsule_grammar.specs.Spelling.{spelling}
use Rattle.capsule_grammar.proofs.PieceLemmas.{joined_more}
use Rattle.capsule_grammar.proofs.Read.{fmp_case, front_of}
use Rattle.capsule_grammar.proofs.RebuiltLemmas.{emptied_is, other_is}
use Rattle.capsule_grammar.proofs.rebuilding.put_rebuilt.Goals as goal

pub capsule_header-requires : goal.capsule_header-requires
capsule_header-requires c = front_of c.args.bytes.now c.in_ok-size.ensures.refused

pub put_fmp_pieces-requires-clause-fmp : goal.put_fmp_pieces-requires-clause-fmp
put_fmp_pieces-requires-clause-fmp c =
    let told = ap (λ (h : CapsuleHeader). is_fmp_guid h.guid.bytes)
    (sym c.capsule_header.ensures) in
    fmp_case c.args.bytes.now c.in_ok-size.ensures.refused
    (told ∙ sym c.is_fmp_guid.ensures ∙ c.if-is_fmp_guid.true)

pub returns-in_ok-push-clause-ok : goal.returns-in_ok-push-clause-ok
returns-in_ok-push-clause-ok c =
    let bytes = c.args.bytes.now in
    let is : IsBytes bytes = λ i. omega (arith, c.type_inv.bytes i) in
    let told = ap (λ (h : CapsuleHeader). is_fmp_guid h.guid.bytes)
    (sym c.capsule_header.ensures) in
    let other : is_fmp_guid (field bytes 0 16) ≡ false =
    told ∙ sym c.is_fmp_guid.ensures ∙ c.if-is_fmp_guid.false in
    joined_more c.args.pieces.now.items _ _ c.in_ok-push.ensures.ok
    ∙ ap (λ (l : List ℕ). joined c.args.pieces.now.items ++ l)
    (ap (λ (n : ℕ). take n bytes) c.in_ok-size.ensures.ok
    ∙ sym (other_is bytes is c.in_ok-size.ensures.refused other))

pub returns-in_ok-put_fmp_pieces-clause-ok : goal.returns-in_ok-put_fmp_pieces-clause-ok
returns-in_ok-put_fmp_pieces-clause-ok c =
    let bytes = c.args.bytes.now in
    let told = ap (λ (h : CapsuleHeader). is_fmp_guid h.guid.bytes)
    (sym c.capsule_header.ensures) in
    let fmp : is_fmp_guid (field bytes 0 16) ≡ true =
    told ∙ sym c.is_fmp_guid.ensures ∙ c.if-is_fmp_guid.true in
    c.in_ok-put_fmp_pieces.ensures
    ∙ ap (λ (l : List ℕ). joined c.args.pieces.now.items ++ l)
    (ap spelling (sym (emptied_is bytes fmp)))

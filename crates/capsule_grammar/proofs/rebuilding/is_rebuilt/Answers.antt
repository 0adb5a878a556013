use Rattle.std.proofs.Common.{◌≡◌, true, false, ℕ, List, ◌+◌, length, sym, refl, ◌∙◌, ap, subst}
use Rattle.std.proofs.Common.{arith}
use Rattle.std.specs.List.{concat}
use Rattle.std.proofs.lemmas.Bool.{eqb-true, eq-eqb}
use Rattle.cu_base.specs.Fields.{field}
use Rattle.cu_base.specs.Bytes.{IsBytes}
use Rattle.fmp_headers.specs.declared.capsule.CapsuleHeader.{CapsuleHeader}
use Rattle.capsule_grammar.specs.Accepted.{IsFmpBody}
use Rattle.capsule_grammar.specs.Rebuilt.{kept_items}
use Rattle.capsule_grammar.specs.Refusals.{is_fmp_guid, body_of, list_end}
use Rattle.capsule_grammar.proofs.Read.{fmp_case, front_of}
use Rattle.capsule_grammar.proofs.RebuiltLemmas.{other_is}
use Rattle.capsule_grammar.proofs.SameLemmas.{fmp_rebuilt, fmp_keeps_length}
use Rattle.capsule_grammar.proofs.rebuilding.is_rebuilt.Goals as goal

pub capsule_header-requires : goal.capsule_header-requires
capsule_header-requires c = front_of c.args.bytes.now c.requires

pub returns-then-not-is_fmp_guid : goal.returns-then-not-is_fmp_guid
returns-then-not-is_fmp_guid c =
    let bytes = c.args.bytes.now in
    let is : IsBytes bytes = λ i. omega (arith, c.type_inv.bytes i) in
    let told = ap (λ (h : CapsuleHeader). is_fmp_guid h.guid.bytes)
    (sym c.capsule_header.ensures) in
    let other : is_fmp_guid (field bytes 0 16) ≡ false =
    told ∙ sym c.is_fmp_guid.ensures ∙ c.if-not-is_fmp_guid.true in
    (λ t. other_is bytes is c.requires other, λ e. refl)

pub body-body-requires : goal.body-body-requires
body-body-requires c = front_of c.args.bytes.now c.requires

pub kept_size-requires-clause-body : goal.kept_size-requires-clause-body
kept_size-requires-clause-body c =
    let bytes = c.args.bytes.now in
    let told = ap (λ (h : CapsuleHeader). is_fmp_guid h.guid.bytes)
    (sym c.capsule_header.ensures) in
    let fmp : is_fmp_guid (field bytes 0 16) ≡ true =
    told ∙ sym c.is_fmp_guid.ensures ∙ c.if-not-is_fmp_guid.false in
    subst IsFmpBody (sym c.body-body.ensures) (fmp_case bytes c.requires fmp)

pub returns : goal.returns
returns c =
    let bytes = c.args.bytes.now in
    let body = body_of bytes in
    let is : IsBytes bytes = λ i. omega (arith, c.type_inv.bytes i) in
    let told = ap (λ (h : CapsuleHeader). is_fmp_guid h.guid.bytes)
    (sym c.capsule_header.ensures) in
    let fmp : is_fmp_guid (field bytes 0 16) ≡ true =
    told ∙ sym c.is_fmp_guid.ensures ∙ c.if-not-is_fmp_guid.false in
    let same = c.body-body.ensures in
    let long = ap length same in
    let left = ap (λ (l : List ℕ). list_end l + length (concat (kept_items l))) same in
    let size : c.kept_size.result ≡ list_end body + length (concat (kept_items body)) =
    c.kept_size.ensures.value ∙ left in (
      λ t. fmp_rebuilt bytes is c.requires fmp (sym size ∙ eqb-true _ _ t ∙ long),
      λ e. eq-eqb _ _ (size ∙ fmp_keeps_length bytes is c.requires fmp e ∙ sym long),
    )

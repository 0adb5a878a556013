use Rattle.std.proofs.Common.{ℕ, take, length, ◌∙◌, ap, sym, subst, arith}
use Rattle.cu_base.specs.Bytes.{IsBytes}
use Rattle.capsule_grammar.specs.Fits.{IsCapsule}
use Rattle.capsule_grammar.specs.Spelling.{spelling}
use Rattle.capsule_grammar.proofs.Read.{fmp_case, read_is_capsule, read_is_spelled, read_length}
use Rattle.capsule_grammar.proofs.decoding.decode_front.Goals as goal

pub read-requires-clause-fmp : goal.read-requires-clause-fmp
read-requires-clause-fmp c = λ fmp. fmp_case c.args.bytes.now c.in_ok-size.ensures.refused fmp

pub returns-clause-ok : goal.returns-clause-ok
returns-clause-ok c =
    let bytes = c.args.bytes.now in
    let is : IsBytes bytes = λ i. omega (arith, c.type_inv.bytes i) in
    let none = c.in_ok-size.ensures.refused in
    let same = sym c.in_ok-capsule.ensures in
    record {
      capsule = subst IsCapsule same (read_is_capsule bytes is none);
      size = c.in_ok-size.ensures.ok ∙ sym (read_length bytes is none)
          ∙ ap (λ x. length (spelling x)) same;
      spelled = ap (λ (n : ℕ). take n bytes) c.in_ok-size.ensures.ok
          ∙ sym (read_is_spelled bytes is none) ∙ ap spelling same;
    }

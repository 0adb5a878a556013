use Rattle.std.proofs.Common.{◌≡◌, ℕ, ◌≤◌, List, length, take, sym, ◌∙◌, subst}
use Rattle.std.proofs.lemmas.List.{take_all}
use Rattle.fmp_headers.specs.CapsuleHeader.{image_size}
use Rattle.capsule_grammar.specs.Reading.{capsule_of}
use Rattle.capsule_grammar.specs.Rebuilt.{emptied}
use Rattle.capsule_grammar.specs.Spelling.{spelling}
use Rattle.capsule_tool.proofs.rebuild.rebuilt.Goals as goal

same_bytes : (bytes : List ℕ) → length bytes ≤ image_size bytes
    → spelling (emptied (capsule_of bytes)) ≡ take (image_size bytes) bytes
    → spelling (emptied (capsule_of bytes)) ≡ bytes
same_bytes bytes le e = e ∙ take_all (image_size bytes) bytes le

pub returns-then-is_rebuilt : goal.returns-then-is_rebuilt
returns-then-is_rebuilt c =
    let same = subst (λ (b : List ℕ). spelling (emptied (capsule_of b)) ≡ take (image_size b) b)
    c.as_slice.ensures (c.is_rebuilt.ensures.0 c.if-is_rebuilt.true) in
    c.bytes.ensures ∙ sym (same_bytes c.args.bytes c.requires.whole same)

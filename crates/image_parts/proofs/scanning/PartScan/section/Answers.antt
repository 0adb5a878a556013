use Rattle.std.proofs.Common.{◌≡◌, ℕ, List, take, true, sym, ap, subst, ◌∙◌}
use Rattle.image_parts.specs.Parts.{IsPartsOf}
use Rattle.image_parts.specs.Scan.{ScanValue, StandsFor}
use Rattle.image_parts.specs.Section.{BeginsWithSection}
use Rattle.image_parts.specs.Support.{has_section}
use Rattle.image_parts.proofs.Scanned.{scan_made, section_bytes_are}
use Rattle.image_parts.proofs.scanning.PartScan.section.Goals as goal

pub returns : goal.returns
returns c = λ image p h is.
    let v = scan_made c.self.inside.size c.self.inside.support c.self.inside.came
    c.self.inside.front c.self.inside.window in
    let stands : StandsFor v image =
    subst (λ (x : ScanValue). StandsFor x image) (sym c.self.view_is) h in
    let parts : IsPartsOf image v.support p =
    subst (λ (x : ScanValue). IsPartsOf image x.support p) (sym c.self.view_is) is in
    let due : has_section v.support ≡ true = sym c.has_section.ensures ∙ c.if-not-has_section.false in
    let n = c.section_length.result in
    let begins : BeginsWithSection v.window n =
    subst (λ (l : List ℕ). BeginsWithSection l n) c.as_slice-window.ensures
    c.section_length.ensures.section in
    ap (take n) c.as_slice-window.ensures
    ∙ section_bytes_are v image p n stands parts due begins

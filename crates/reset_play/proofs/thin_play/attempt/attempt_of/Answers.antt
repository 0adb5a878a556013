use Rattle.std.proofs.Common.{◌∙◌, ℕ, List, [], Option, option_map, unwrap_or, ap}
use Rattle.reference_machine.specs.Formats.{Parts}
use Rattle.reset_play.specs.ThinValues.{item_of}
use Rattle.reset_play.proofs.PlayParts.{attempt_is}
use Rattle.reset_play.proofs.thin_play.attempt.attempt_of.Goals as goal

abbrev version : Option Parts → ℕ
version p = unwrap_or (option_map (λ q. q.version) p) 0

abbrev lowest : Option Parts → ℕ
lowest p = unwrap_or (option_map (λ q. q.lowest) p) 0

abbrev payload : Option Parts → List ℕ
payload p = unwrap_or (option_map (λ q. q.payload) p) []

pub returns : goal.returns
returns c = attempt_is c.args.file.now
    (item_of c.args.item.now) c.in_ok-key.key c.told_by-version.result.0 c.told_by-version.result.1
    c.told_by-version.result.2.now c.requires.item c.in_ok-key.ensures
    (c.told_by-version.ensures.version ∙ ap version c.requires.parts)
    (c.told_by-version.ensures.lowest ∙ ap lowest c.requires.parts)
    (c.told_by-version.ensures.payload ∙ ap payload c.requires.parts)

use Rattle.std.proofs.Common.{◌≡◌, ◌∙◌, ℕ, List, [], Option, Some, IsTrue, unwrap_or, sym, ap}
use Rattle.std.proofs.Common.{subst}
use Rattle.cu_io.specs.Named.{bytes_named}
use Rattle.reset_play.specs.Plays.{is_thin_on}
use Rattle.reset_play.proofs.thin_play.running.drop_input.Goals as goal

pub drop_file-requires : goal.drop_file-requires
drop_file-requires c =
    let found : Some c.in-Some.bytes.now ≡ bytes_named c.args.loaded.now.items c.args.input.now =
    c.in-Some.ensures ∙ ap (bytes_named c.args.loaded.now.items) c.as_str.ensures in
    subst (λ (o : Option (List ℕ)). IsTrue (is_thin_on c.args.platform.now.board (unwrap_or o [])))
    (sym found) c.requires

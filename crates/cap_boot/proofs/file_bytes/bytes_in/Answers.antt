use Rattle.std.proofs.Common.{◌≡◌, ◌∙◌, ap, arith, length, take}
use Rattle.std.proofs.lemmas.Grind.{common_steps}
use Rattle.bench_model.specs.Bench.{Contents}
use Rattle.bench_model.specs.Files.{ListedFile}
use Rattle.cap_boot.proofs.FileBytes.{bytes_more}
use Rattle.cap_boot.proofs.Listings.{told_in}
use Rattle.cap_boot.proofs.file_bytes.bytes_in.Goals as goal

pub push_piece-requires-clause-there : goal.push_piece-requires-clause-there
push_piece-requires-clause-there g c =
    let state = g.V.BenchState.state in
    told_in c.args.file.now c.file.inside.serial (state c.args.volume.now)
    (state c.loop-at.volume) c.requires.there (ap (λ (a : ListedFile). a.serial) c.file.view_is)
    (ap (λ (s : Contents). s.rest.folder) c.loop-at.invariant.frame.contents)

pub loop-at-preserved : goal.loop-at-preserved
loop-at-preserved g c =
    let state = g.V.BenchState.state in
    let l = c.loop-at in
    let size = c.min-size.result in
    let long : length (take size l.piece) ≡ size = grind (arith, common_steps) in
    record {
      frame = record {
        contents = c.push_piece.ensures.frame.contents ∙ l.invariant.frame.contents;
        spare = c.push_piece.ensures.frame.spare ∙ l.invariant.frame.spare;
        orders = c.push_piece.ensures.frame.orders ∙ l.invariant.frame.orders;
      };
      faults = omega (arith, l.invariant.faults, c.push_piece.ensures.cause.later);
      within = omega (
        arith,
        l.invariant.within,
        c.min-size.ensures,
        ap (λ (a : ListedFile). a.size) c.file.view_is,
      );
      so_far = bytes_more (state c.args.volume.now) (state l.volume) c.args.file.now
          c.file.inside.serial l.at size _ l.bytes c.push_piece.new.bytes
          l.invariant.frame.contents (ap (λ (a : ListedFile). a.serial) c.file.view_is) long
          l.invariant.so_far c.in_ok-push_piece.ensures.ok;
    }

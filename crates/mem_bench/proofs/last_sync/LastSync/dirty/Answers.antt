use Rattle.std.proofs.Common.{◌≡◌, ◌/◌, ◌∙◌, ap, arith, length, replicate, true}
use Rattle.std.proofs.Common.{List, Bool, sym}
use Rattle.std.proofs.lemmas.List.{get_or_read}
use Rattle.mem_bench.specs.declared.last_sync.BlockState.TheVariants.{Clean, Fresh, Changed}
use Rattle.mem_bench.specs.declared.room.TheConstants.{BLOCK}
use Rattle.mem_bench.specs.Regions.{overlaid}
use Rattle.mem_bench.specs.Rooms.{marks_by, state_at}
use Rattle.mem_bench.proofs.RoomLemmas.{changed_dirty, fresh_dirty}
use Rattle.mem_bench.proofs.last_sync.LastSync.dirty.Goals as goal

pub returns-in-Clean-clause-marks : goal.returns-in-Clean-clause-marks
returns-in-Clean-clause-marks c =
    ap (λ (xs : List Bool). marks_by c.save.new.self.states.items xs (length c.args.bytes.now))
    c.mark.ensures.items
    ∙ changed_dirty c.save.new.self.states.items c.save.new.self.marks.items
    (length c.args.bytes.now) c.args.at c.args.n
    (omega (arith, c.requires.long, c.requires.there, c.requires.inside)) c.requires.inside
    (omega (
      arith,
      c.save.new.self.rule.there (c.args.at / BLOCK) c.save.ensures.changed,
      c.save.new.self.rule.sized,
      c.requires.inside,
    )) c.save.ensures.changed
    ∙ ap (λ (xs : List Bool). overlaid c.args.at (replicate c.args.n true) xs) c.save.ensures.marks

pub returns-in-Changed-clause-marks : goal.returns-in-Changed-clause-marks
returns-in-Changed-clause-marks c =
    let is : state_at c.args.self.now.states.items c.args.at ≡ Changed =
    sym (get_or_read c.args.self.now.states.items (c.args.at / BLOCK) c.index.result.now
    (omega (arith, c.requires.long, c.requires.there)) c.index.ensures Clean) ∙ c.in-Changed.is in
    ap (λ (xs : List Bool). marks_by c.args.self.now.states.items xs (length c.args.bytes.now))
    c.mark-in-Changed.ensures.items
    ∙ changed_dirty c.args.self.now.states.items c.args.self.now.marks.items
    (length c.args.bytes.now) c.args.at c.args.n
    (omega (arith, c.requires.long, c.requires.there, c.requires.inside)) c.requires.inside
    (omega (
      arith,
      c.args.self.now.rule.there (c.args.at / BLOCK) is,
      c.args.self.now.rule.sized,
      c.requires.inside,
    )) is

pub returns-in-Fresh-clause-marks : goal.returns-in-Fresh-clause-marks
returns-in-Fresh-clause-marks c =
    let is : state_at c.args.self.now.states.items c.args.at ≡ Fresh =
    sym (get_or_read c.args.self.now.states.items (c.args.at / BLOCK) c.index.result.now
    (omega (arith, c.requires.long, c.requires.there)) c.index.ensures Clean) ∙ c.in-Fresh.is in
    fresh_dirty c.args.self.now.states.items c.args.self.now.marks.items
    (length c.args.bytes.now) c.args.at c.args.n
    (omega (arith, c.requires.long, c.requires.there, c.requires.inside)) c.requires.inside
    is

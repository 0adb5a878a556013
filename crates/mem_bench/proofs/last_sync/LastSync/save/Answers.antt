use Rattle.std.proofs.Common.{◌≡◌, ◌+◌, ◌-◌, ◌*◌, ◌∙◌, ap, arith, length, length-append, take}
use Rattle.std.proofs.Common.{drop, ◌++◌, ℕ, List, Bool, replicate, false}
use Rattle.std.proofs.Math.ListN.{set}
use Rattle.std.proofs.lemmas.List.{length-replicate}
use Rattle.mem_bench.specs.declared.last_sync.BlockState.TheVariants.{Changed}
use Rattle.mem_bench.specs.declared.room.TheConstants.{BLANK, BLOCK}
use Rattle.mem_bench.specs.Regions.{overlaid}
use Rattle.mem_bench.specs.Rooms.{marks_by, synced_by}
use Rattle.mem_bench.proofs.RoomLemmas.{saved_marks, saved_synced}
use Rattle.mem_bench.proofs.last_sync.LastSync.save.Goals as goal

-- the bytes that are saved
saved : (c : goal.After-self-2-1) → c.put.new.items.items
    ≡ overlaid (c.args.block * BLOCK) (take BLOCK (drop (c.args.block * BLOCK) c.args.bytes.now))
    (c.args.self.now.saved.items
    ++ replicate (c.args.block * BLOCK + BLOCK - length c.args.self.now.saved.items) BLANK)
saved c =
    let size : c.args.block * BLOCK + BLOCK - c.args.block * BLOCK ≡ BLOCK = omega arith in
    c.put.ensures.items
    ∙ ap (λ (n : ℕ). overlaid (c.args.block * BLOCK)
    (take n (drop (c.args.block * BLOCK) c.args.bytes.now)) c.lengthen.new.items.items) size
    ∙ ap (λ (xs : List ℕ). overlaid (c.args.block * BLOCK)
    (take BLOCK (drop (c.args.block * BLOCK) c.args.bytes.now)) xs) c.lengthen.ensures.items

pub returns-clause-synced : goal.returns-clause-synced
returns-clause-synced c =
    let m : ℕ = c.args.block * BLOCK + BLOCK - length c.args.self.now.saved.items in
    ap (λ (xs : List ℕ). synced_by (set c.args.self.now.states.items c.args.block Changed) xs
    c.args.bytes.now) (saved c)
    ∙ saved_synced c.args.self.now.states.items c.args.self.now.saved.items
    c.args.self.now.marks.items c.args.self.now.rule c.args.block c.requires.there c.requires.clean
    c.args.bytes.now (c.args.block * BLOCK + BLOCK - length c.args.self.now.saved.items)
    c.requires.long
    (omega (
      arith,
      length-append c.args.self.now.saved.items (replicate m BLANK),
      length-replicate m BLANK,
    ))

pub returns-clause-marks : goal.returns-clause-marks
returns-clause-marks c =
    let m : ℕ = c.args.block * BLOCK + BLOCK - length c.args.self.now.marks.items in
    ap (λ (xs : List Bool). marks_by (set c.args.self.now.states.items c.args.block Changed) xs
    (length c.args.bytes.now)) (c.mark.ensures.items
    ∙ ap (λ (xs : List Bool). overlaid (c.args.block * BLOCK) (replicate BLOCK false) xs)
    c.lengthen-2.ensures.items)
    ∙ saved_marks c.args.self.now.states.items c.args.self.now.saved.items
    c.args.self.now.marks.items c.args.self.now.rule c.args.block c.requires.there c.requires.clean
    (length c.args.bytes.now)
    (c.args.block * BLOCK + BLOCK - length c.args.self.now.marks.items)
    c.requires.long
    (omega (
      arith,
      length-append c.args.self.now.marks.items (replicate m false),
      length-replicate m false,
    ))

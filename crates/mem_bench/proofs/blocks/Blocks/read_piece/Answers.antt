use Rattle.std.proofs.Common.{◌≡◌, ◌+◌, ◌-◌, ◌*◌, ◌/◌, ◌%◌, ℕ, get_or, length, ◌∙◌, ap, arith}
use Rattle.std.proofs.lemmas.List.{get_or_read}
use Rattle.mem_bench.specs.declared.room.TheConstants.{BLOCK}
use Rattle.cu_base.specs.Fields.{field}
use Rattle.mem_bench.proofs.SeenLemmas.{blank_read, kept_read}
use Rattle.mem_bench.proofs.blocks.Blocks.read_piece.Goals as goal

-- the number that was read from the table
number_is : (c : goal.Else-number-eq0) → c.index-number.result.now
    ≡ get_or c.args.self.now.table.items (c.args.place / BLOCK) 0
number_is c =
    get_or_read c.args.self.now.table.items (c.args.place / BLOCK) c.index-number.result.now
    c.requires.there c.index-number.ensures 0

pub overflow_mul-number : goal.overflow_mul-number
overflow_mul-number c =
    omega (
      arith,
      number_is c,
      c.args.self.now.rule.within (c.args.place / BLOCK),
      c.args.self.now.rule.count,
      c.args.self.now.small,
    )

pub overflow_add-number : goal.overflow_add-number
overflow_add-number c =
    omega (
      arith,
      number_is c,
      c.args.self.now.rule.within (c.args.place / BLOCK),
      c.args.self.now.rule.count,
      c.args.self.now.small,
    )

pub returns-then-number-eq0 : goal.returns-then-number-eq0
returns-then-number-eq0 c = λ size within.
    let number : c.index-number.result.now
    ≡ get_or c.args.self.now.table.items (c.args.place / BLOCK) 0 =
    get_or_read c.args.self.now.table.items (c.args.place / BLOCK) c.index-number.result.now
    c.requires.there c.index-number.ensures 0 in
    c.blank_out.ensures
    ∙ blank_read size c.args.self.now.table.items c.args.self.now.room.kept.bytes c.args.place
    (length c.args.out.now) c.requires.inside within (omega (arith, number, c.if-number-eq0.true))

pub returns-else-number-eq0 : goal.returns-else-number-eq0
returns-else-number-eq0 c = λ size within.
    let number : c.index-number.result.now
    ≡ get_or c.args.self.now.table.items (c.args.place / BLOCK) 0 =
    get_or_read c.args.self.now.table.items (c.args.place / BLOCK) c.index-number.result.now
    c.requires.there c.index-number.ensures 0 in
    c.read.ensures
    ∙ ap (λ (m : ℕ). field c.args.self.now.room.kept.bytes
    ((m - 1) * BLOCK + c.args.place % BLOCK) (length c.args.out.now)) number
    ∙ kept_read size c.args.self.now.table.items c.args.self.now.room.kept.bytes c.args.place
    (length c.args.out.now) c.requires.inside within c.args.self.now.made c.args.self.now.rule
    c.args.self.now.kept (omega (arith, number, c.if-number-eq0.false))

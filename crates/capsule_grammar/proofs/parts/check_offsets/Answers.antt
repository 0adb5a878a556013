use Rattle.std.proofs.Common.{◌≡◌, ◌≤◌, length, arith, below_more}
use Rattle.std.proofs.lemmas.Result.{err_from_is_err_and}
use Rattle.capsule_grammar.specs.Refusals.{offset_rows, item_count, list_end}
use Rattle.cu_base.proofs.Rows.{some_in, none_in}
use Rattle.capsule_grammar.proofs.Offsets.{are_bounds}
use Rattle.capsule_grammar.proofs.FrontLemmas.{item_count_same, are_places}
use Rattle.capsule_grammar.proofs.parts.check_offsets.Goals as goal

pub returns-in_err-check_offset-clause-refused : goal.returns-in_err-check_offset-clause-refused
returns-in_err-check_offset-clause-refused c = λ body b.
    let p = err_from_is_err_and c.from_residual.result c.from_residual.ensures.1 in
    let n : item_count body ≡ item_count c.args.front.now = item_count_same b (omega arith) in
    rw (p.1, p.2)
    (some_in (offset_rows body c.args.at) 0 (item_count body) c.loop-k.k _
    (λ j low high. c.loop-k.invariant j high body b) (omega arith) (omega (arith, n))
    (c.in_err-check_offset.ensures body b))

pub loop-k-preserved : goal.loop-k-preserved
loop-k-preserved c = below_more _ _ c.loop-k.invariant c.in_ok-check_offset.ensures

pub returns-clause-refused : goal.returns-clause-refused
returns-clause-refused c = λ body b.
    let n : item_count body ≡ item_count c.args.front.now = item_count_same b (omega arith) in
    none_in (offset_rows body c.args.at) 0 (item_count body)
    (λ j low high. c.loop-k.invariant j (omega (arith, n)) body b)

pub returns-clause-ok : goal.returns-clause-ok
returns-clause-ok c =
    let front = c.args.front.now in
    are_places front c.args.size c.requires.within c.requires.list (λ body b.
    let n : item_count body ≡ item_count front = item_count_same b (omega arith) in
    let long : list_end body ≤ length body = omega (arith, n, b.long) in
    are_bounds body c.args.at long (λ j high. c.loop-k.invariant j (omega (arith, n)) body b))

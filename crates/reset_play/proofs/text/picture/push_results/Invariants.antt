use Rattle.std.proofs.Common.{◌≡◌, ◌++◌, flat_map, drop}
use Rattle.reset_play.specs.Texts.{result_text}
use Rattle.reset_play.proofs.text.picture.push_results.Given as goal

-- what was written, and the text of what is left, are the whole text
abbrev pub invariant-loop-result : goal.invariant-loop-result
invariant-loop-result l =
    l.out ++ flat_map result_text (drop l.result-index l.results)
    ≡ l.fn.out ++ flat_map result_text l.results

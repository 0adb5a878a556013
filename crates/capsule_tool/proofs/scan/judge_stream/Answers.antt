use Rattle.capsule_tool.proofs.VerdictLaws.{judged_on, judged_cut, passed_on, no_error}
use Rattle.capsule_tool.proofs.WorkLaws.{lift}
use Rattle.capsule_tool.proofs.scan.judge_stream.Goals as goal

pub returns-in-Ok-clause-judged : goal.returns-in-Ok-clause-judged
returns-in-Ok-clause-judged g c = lift c.judge_rest.result _ _
    (λ verdict by. judged_on _ _ _ _ _ _ _ c.requires.begun c.in-Ok.ensures.scan (λ other is. is)
    by) c.judge_rest.ensures.judged

pub returns-in-Ok-clause-too_long : goal.returns-in-Ok-clause-too_long
returns-in-Ok-clause-too_long g c = λ is. passed_on _ _ _ _ _ c.requires.begun c.in-Ok.ensures.scan
    (c.judge_rest.ensures.too_long is)

pub returns-in-Err-Refused-clause-judged : goal.returns-in-Err-Refused-clause-judged
returns-in-Err-Refused-clause-judged g c = lift c.judge_rest-in-Err-Refused.result _ _
    (λ verdict by. judged_on _ _ _ _ _ _ _ c.requires.begun
    (rw c.in-Err-Refused.field-0-is at c.in-Err-Refused.ensures.scan) (λ other is. is) by)
    c.judge_rest-in-Err-Refused.ensures.judged

pub returns-in-Err-Refused-clause-too_long : goal.returns-in-Err-Refused-clause-too_long
returns-in-Err-Refused-clause-too_long g c = λ is. passed_on _ _ _ _ _ c.requires.begun
    (rw c.in-Err-Refused.field-0-is at c.in-Err-Refused.ensures.scan)
    (c.judge_rest-in-Err-Refused.ensures.too_long is)

pub returns-in-Err-Ended-clause-judged : goal.returns-in-Err-Ended-clause-judged
returns-in-Err-Ended-clause-judged g c = judged_cut _ _ _ _ _ _ c.requires.begun c.place.ensures
    (rw c.in-Err-Ended.field-0-is at c.in-Err-Ended.ensures.scan) c.verdict.ensures

pub returns-in-Err-Ended-clause-cause : goal.returns-in-Err-Ended-clause-cause
returns-in-Err-Ended-clause-cause g c = record {
  later = c.scan.ensures.counts;
  failed =
      λ is. absurd (no_error _ _ is);
}

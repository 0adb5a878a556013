use Rattle.std.proofs.Common.{rules, refl, ap}
use Rattle.cu_io.specs.Streams.{SourceSeen}
use Rattle.capsule_tool.proofs.JudgeLaws.{begun, may_hold, may_pass, counted}
use Rattle.capsule_tool.proofs.input.judge_named.Goals as goal

pub returns-in-Ok-judged-clause-reads : goal.returns-in-Ok-judged-clause-reads
returns-in-Ok-judged-clause-reads g c =
    let opened = c.in-Ok-open.ensures.ok in
    let start = begun _ _ c.new-stream.ensures in
    let given = ap (λ (s : SourceSeen). s.taken) c.into_source.ensures in
    let judged = c.in-Ok-judged.ensures.judged in (
      judged.0,
      record {
        asked = search rules;
        later = search rules;
        gives = (
          may_hold _ _ _ _ _ _ _ start opened.left judged.1 judged.2,
          judged.3,
          counted _ _ _ _ _ _ _ _ _ start opened.taken judged.1 refl given (search rules),
        );
      },
      judged.4,
    )

pub returns-in-Err-TooLong-clause-reads : goal.returns-in-Err-TooLong-clause-reads
returns-in-Err-TooLong-clause-reads g c =
    let opened = c.in-Ok-open.ensures.ok in
    let start = begun _ _ c.new-stream.ensures in
    let given = ap (λ (s : SourceSeen). s.taken) c.into_source.ensures in
    let passes = c.judge_stream-judged.ensures.too_long (search rules) in
    record {
      asked = search rules;
      later = search rules;
      gives = (
        may_pass _ _ _ _ _ _ _ start opened.left passes,
        counted _ _ _ _ _ _ _ _ _ start opened.taken passes.2 passes.1 given (search rules),
      );
    }
